use Rattle.std.proofs.Common.{rules, ◌≡◌, ◌≢◌, ◌++◌, ◌∷◌, ◌+◌, ℕ, List, [], false, drop, get_or, ap, sym, ◌∙◌, arith}
use Rattle.std.specs.Prelude.{Bool}
use Rattle.std.proofs.lemmas.List.{append_assoc, at_drop_more, drop_all}
use Rattle.vm_descriptor.specs.Maps.{runs_behind}
use Rattle.vm_descriptor.proofs.RunLengths.{next_run, same_run}
use Rattle.vm_descriptor.proofs.runs.runs_in.Goals as goal

pub loop-flag-preserved-then-flag-last : goal.loop-flag-preserved-then-flag-last
loop-flag-preserved-then-flag-last c =
    let flags = c.args.flags.now in
    let loop = c.loop-flag in
    let i = loop.flag-index in
    let same : get_or flags i false ≡ loop.last = search rules in
    record {
      so_far =
          ap (λ (rs : List ℕ). loop.lengths.items ++ rs)
          (sym (same_run loop.last loop.run (get_or flags i false) (drop (i + 1) flags) same) ∙ sym (at_drop_more (runs_behind loop.last loop.run) flags i false c.loop-flag-test.true))
          ∙ loop.invariant.so_far;
      few = omega (arith, loop.invariant.few);
    }

pub loop-flag-preserved : goal.loop-flag-preserved
loop-flag-preserved c =
    let flags = c.args.flags.now in
    let loop = c.loop-flag in
    let i = loop.flag-index in
    let next = get_or flags i false in
    let others = runs_behind next 1 (drop (i + 1) flags) in
    let differ : next ≢ loop.last = search rules in
    record {
      so_far =
          ap (λ (rs : List ℕ). rs ++ others) c.in_ok-push.ensures.items
          ∙ (append_assoc loop.lengths.items (loop.run ∷ []) others
          ∙ (ap (λ (rs : List ℕ). loop.lengths.items ++ rs)
          (sym (next_run loop.last loop.run next (drop (i + 1) flags) differ) ∙ sym (at_drop_more (runs_behind loop.last loop.run) flags i false c.loop-flag-test.true))
          ∙ loop.invariant.so_far));
      few = omega arith;
    }

pub returns : goal.returns
unfolding runs_behind
returns c =
    let flags = c.args.flags.now in
    let loop = c.loop-flag in
    let none : drop loop.flag-index flags ≡ [] = drop_all loop.flag-index flags (search rules) in
    c.in_ok-push-2.ensures.items
    ∙ ap (λ (fs : List Bool). loop.lengths.items ++ runs_behind loop.last loop.run fs) (sym none) ∙ loop.invariant.so_far
