use Rattle.std.proofs.Common.{◌≡◌, ℕ, List, map, Ok, Err, refl, ap, ◌∙◌, subst}
use Rattle.std.proofs.lemmas.Result.{err_from_is_err_and}
use Rattle.io_edge.specs.Outside.{IsPrefixGone, appended}
use Rattle.run_report.specs.Report.{Ended as Outcome}
use Rattle.run_report.specs.Summary.{summary_of}
use Rattle.board_ends.specs.Lost.{IsOneLost}
use Rattle.command_line.specs.Words.{RunValues}
use Rattle.command_texts.specs.Seeded.{IfRun, seeded_for}
use Rattle.command_texts.specs.Text.{generated_files, generated_text}
use Rattle.command_texts.proofs.Made.{fileless-stops, generated-made, generated-there, stop-silent}
use Rattle.command_texts.proofs.Seeding.{stop-same}
use Rattle.command_texts.proofs.TextLemmas.{told-then}
use Rattle.snow_commands.proofs.generated.run_and_sum_up.Goals as goal

pub returns-in_err-outcome-clause-writes : goal.returns-in_err-outcome-clause-writes
returns-in_err-outcome-clause-writes g c =
    let words = c.args.words.now in
    let lost = IsOneLost g.W.Wire.streak c.run_files.new.wires.items in
    let shows : Outcome → List ℕ → Type 0 = λ outcome text. summary_of words.seed outcome ≡ text in
    let stop = c.in_err-outcome.field-0.0 in
    let there = generated-there words in
    let p = err_from_is_err_and c.from_residual-in_err-outcome.result c.from_residual-in_err-outcome.ensures.1 in
    rw (p.1, p.2)
    (fileless-stops lost _ (generated_text words) there.0 _ _ shows stop there.1
    (generated-made lost words c.guest.result c.in_ok-files.files (Err stop) c.guest.ensures (c.in_ok-files.ensures ∙ ap generated_files c.seed.ensures)
    c.in_err-outcome.ensures.makes))

pub returns-in_err-outcome-clause-seeded : goal.returns-in_err-outcome-clause-seeded
returns-in_err-outcome-clause-seeded g c =
    let p = err_from_is_err_and c.from_residual-in_err-outcome.result c.from_residual-in_err-outcome.ensures.1 in
    let wires = c.run_files.new.wires.items in
    rw (p.1, p.2)
    (stop-same Outcome (Unit {0}) c.in_err-outcome.field-0.0 _
    (subst (λ (how : RunValues). IfRun {A = Outcome} (Err c.in_err-outcome.field-0.0)
    (map g.W.Wire.seeds wires ≡ seeded_for how (map g.W.Wire.seeds c.args.wires.now.items))) c.how-how.ensures c.in_err-outcome.ensures.seeded))

pub returns-in_err-outcome-clause-silent : goal.returns-in_err-outcome-clause-silent
returns-in_err-outcome-clause-silent g c =
    let p = err_from_is_err_and c.from_residual-in_err-outcome.result c.from_residual-in_err-outcome.ensures.1 in
    rw (p.1, p.2) (stop-silent c.in_err-outcome.field-0.0 _ refl)

pub returns-in-Ok-clause-writes : goal.returns-in-Ok-clause-writes
returns-in-Ok-clause-writes g c =
    let words = c.args.words.now in
    let outcome = c.in_ok-outcome.outcome in
    let gone : List ℕ → Type 0 = λ text. g.K.Sink.gone c.write_summary.new.sink ≡ appended (g.K.Sink.gone c.args.sink.now) text in
    told-then (generated_text words) (summary_of words.seed outcome) gone
    (generated-made (IsOneLost g.W.Wire.streak c.run_files.new.wires.items) words c.guest.result c.in_ok-files.files (Ok outcome) c.guest.ensures
    (c.in_ok-files.ensures ∙ ap generated_files c.seed.ensures) c.in_ok-outcome.ensures.makes)
    (subst (λ seed. gone (summary_of seed outcome)) c.seed-2.ensures c.in-Ok.ensures.ok)

pub returns-clause-writes : goal.returns-clause-writes
returns-clause-writes g c =
    let words = c.args.words.now in
    let outcome = c.in_ok-outcome.outcome in
    let gone : List ℕ → Type 0 = IsPrefixGone (g.K.Sink.gone c.args.sink.now) (g.K.Sink.gone c.write_summary.new.sink) in (
      c.in-Err-Sink.ensures.sink,
      told-then (generated_text words) (summary_of words.seed outcome) gone
          (generated-made (IsOneLost g.W.Wire.streak c.run_files.new.wires.items) words c.guest.result c.in_ok-files.files (Ok outcome) c.guest.ensures
          (c.in_ok-files.ensures ∙ ap generated_files c.seed.ensures) c.in_ok-outcome.ensures.makes)
          (subst (λ seed. gone (summary_of seed outcome)) c.seed-2.ensures c.write_summary.ensures.prefix),
    )

pub returns-in_err-outcome-clause-untouched : goal.returns-in_err-outcome-clause-untouched
returns-in_err-outcome-clause-untouched g c =
    let p = err_from_is_err_and c.from_residual-in_err-outcome.result c.from_residual-in_err-outcome.ensures.1 in
    rw (p.1, p.2) c.in_err-outcome.ensures.untouched
