use Rattle.std.proofs.Common.{◌<◌, ◌≤◌, ◌++◌, drop, length, map, min, refl, sym, ap, ap₂, ◌∙◌, subst, arith}
use Rattle.std.proofs.lemmas.List.{append_assoc}
use Rattle.std.proofs.lemmas.Result.{err_from_is_err_and}
use Rattle.command_texts.specs.Seeded.{all_seeded}
use Rattle.command_texts.specs.Text.{guest_image}
use Rattle.command_texts.proofs.Booted.{family-ends}
use Rattle.command_texts.proofs.First.{first-blames, first-lines, only-kept}
use Rattle.command_texts.proofs.Seeding.{always-run, before-all, lent-given, run-after}
use Rattle.command_texts.proofs.TextLemmas.{part-lost}
use Rattle.snow_commands.proofs.family.run_files.Goals as goal

pub returns-then-clones-gt0-clause-makes : goal.returns-then-clones-gt0-clause-makes
returns-then-clones-gt0-clause-makes g c =
    let made = c.in_ok-family.family in
    let ran = c.run_seeded-pass in
    let part = ran.new.wires in
    let split = c.split_at_mut-working in
    let rest = split.result.1.now in
    let tail = drop (length (part ++ rest)) c.args.wires.now.items in
    let count = c.args.wires.now.len in
    let few : length part ≤ count = omega (arith, ran.ensures.len, split.ensures.front_len, split.ensures.back_len, c.deref_mut.ensures.len) in
    family-ends c.args.guest.now c.args.files.now c.in_ok-depot.depot made _ (guest_image c.args.guest.now c.args.files.now) ran.result.1 c.outcome_of.result
    c.in_ok-family.ensures.makes
    (first-lines c.in_ok-board.board c.in_ok-board.pass ran.result.0 made.1.value c.outcome_of.result c.in_ok-board.ensures.opening.0
    c.in_ok-board.ensures.pass ran.ensures.worked c.outcome_of.ensures.lines)
    c.outcome_of.ensures.stop
    (λ stopped. (
      subst (λ n. 0 < n) c.clones-clones.ensures.value c.if-clones-gt0.true,
      part-lost g.W.Wire.streak part (rest ++ tail) ((part ++ rest) ++ tail) count (append_assoc part rest tail) few
          (first-blames c.in_ok-board.board c.in_ok-board.pass ran.result.0 c.in_ok-board.ensures.pass (ran.ensures.wire stopped)),
    ))

pub returns-then-clones-gt0-clause-seeded : goal.returns-then-clones-gt0-clause-seeded
returns-then-clones-gt0-clause-seeded g c =
    let split = c.split_at_mut-working in
    let lent = c.deref_mut.ensures in
    let count = sym lent.len ∙ ap length lent.value in
    let many = split.ensures.front_len ∙ c.min-workers.ensures ∙ ap₂ min (c.len.ensures ∙ count) c.workers.ensures.value in
    always-run c.outcome_of.result _
    (lent-given g.W.Wire.seeds c.args.plan.now.how.now c.args.wires.now.items split.result.0.now split.result.1.now c.run_seeded-pass.new.wires
    c.args.wires.now.len count (sym lent.value ∙ split.ensures.value) many c.run_seeded-pass.ensures.len c.run_seeded-pass.ensures.seeded)

pub returns-clause-makes : goal.returns-clause-makes
returns-clause-makes g c =
    let made = c.in_ok-family.family in
    let ran = c.run_seeded-pass-2 in
    family-ends c.args.guest.now c.args.files.now c.in_ok-depot.depot made _ (guest_image c.args.guest.now c.args.files.now) ran.result.1 c.outcome_of-2.result
    c.in_ok-family.ensures.makes
    (first-lines c.in_ok-board.board c.in_ok-board.pass ran.result.0 made.1.value c.outcome_of-2.result c.in_ok-board.ensures.opening.0
    c.in_ok-board.ensures.pass ran.ensures.worked c.outcome_of-2.ensures.lines)
    c.outcome_of-2.ensures.stop
    (λ stopped. absurd
    (only-kept _ ran.new.wires c.index-unused-0.result c.streak.result
    (first-blames c.in_ok-board.board c.in_ok-board.pass ran.result.0 c.in_ok-board.ensures.pass (ran.ensures.wire stopped))
    (omega (arith, ran.ensures.len)) c.streak.ensures.value (omega (arith, c.streak.ensures.most))))

pub returns-clause-seeded : goal.returns-clause-seeded
returns-clause-seeded g c =
    let split = c.split_at_mut-working in
    let lent = c.deref_mut.ensures in
    let count = sym lent.len ∙ ap length lent.value in
    let many = split.ensures.front_len ∙ c.min-workers.ensures ∙ ap₂ min (c.len.ensures ∙ count) c.workers.ensures.value in
    always-run c.outcome_of-2.result _
    (lent-given g.W.Wire.seeds c.args.plan.now.how.now c.args.wires.now.items split.result.0.now split.result.1.now c.seed_all.new.wires
    c.args.wires.now.len count (sym lent.value ∙ split.ensures.value) many c.seed_all.ensures.len
    (c.seed_all.ensures.seeded ∙ ap (λ n. all_seeded n (map g.W.Wire.seeds split.result.0.now)) c.seed.ensures))

pub returns-in_err-family-clause-untouched : goal.returns-in_err-family-clause-untouched
returns-in_err-family-clause-untouched g c =
    let p = err_from_is_err_and c.from_residual-in_err-family.result c.from_residual-in_err-family.ensures.1 in
    rw (p.1, p.2) (before-all c.in_err-family.field-0.0 _ refl)

pub returns-then-clones-gt0-clause-untouched : goal.returns-then-clones-gt0-clause-untouched
returns-then-clones-gt0-clause-untouched g c = run-after c.outcome_of.result _ _ c.outcome_of.ensures.stop

pub returns-clause-untouched : goal.returns-clause-untouched
returns-clause-untouched g c = run-after c.outcome_of-2.result _ _ c.outcome_of-2.ensures.stop
