-- Sums over the lines of a report, one line more at a time.
use Rattle.std.proofs.Common.{◌≡◌, ℕ, ◌+◌, ◌*◌, ◌%◌, ◌^◌, ◌<◌, List, [], ◌∷◌, ◌++◌, length, take, get_or, sym, ap, ap₂, ◌∙◌, arith}
use Rattle.std.specs.Prelude.{sum_by}
use Rattle.std.proofs.lemmas.List.Sums.{sum_by-cons, sum_by_more}
use Rattle.run_report.specs.declared.summary.Summary.{Summary}
use Rattle.run_report.specs.Lines.{Line}
use Rattle.run_report.specs.Report.{Ended, lines_of}
use Rattle.run_report.specs.Summary.{IsWithin, exit_of, killed_of, machines_of, out_of, steps_of, summary_of, summary_text, summed, with_line}

-- a sum modulo 2^32 may be taken at each step
wraps : (before more all : ℕ) → all ≡ before + more → (before % 2 ^ 32 + more) % 2 ^ 32 ≡ all % 2 ^ 32
wraps before more all is = omega (arith, is)

-- lines whose sums are those of others and one line more
more-lines : (before all : List Line) (line : Line) → ((f : Line → ℕ) → sum_by f all ≡ sum_by f before + f line)
    → with_line line (summed before) ≡ summed all
unfolding summed with_line
more-lines before all line sums =
    let of : ℕ → ℕ → ℕ → ℕ → ℕ → Summary = λ machines steps exits killed out. record { machines = machines; steps = steps; exits = exits; killed = killed; out = out } in
    let machines = sum_by machines_of before + machines_of line in
    let steps = sum_by steps_of before + steps_of line in
    let killed = sum_by killed_of before + killed_of line in
    let out = sum_by out_of before + out_of line in
    let exits = sum_by exit_of all % 2 ^ 32 in
    ap (λ x. of machines steps x killed out) (wraps (sum_by exit_of before) (exit_of line) (sum_by exit_of all) (sums exit_of))
    ∙ ap (λ x. of x steps exits killed out) (sym (sums machines_of))
    ∙ ap (λ x. of (sum_by machines_of all) x exits killed out) (sym (sums steps_of))
    ∙ ap (λ x. of (sum_by machines_of all) (sum_by steps_of all) exits x out) (sym (sums killed_of))
    ∙ ap (λ x. of (sum_by machines_of all) (sum_by steps_of all) exits (sum_by killed_of all) x) (sym (sums out_of))

-- the next line of a list
pub next-line : (lines : List Line) (i : ℕ) (line : Line) (s : Summary) → i < length lines → line ≡ get_or lines i line → s ≡ summed (take i lines)
    → with_line line s ≡ summed (take (i + 1) lines)
next-line lines i line s within is so =
    ap (with_line line) so
    ∙ more-lines (take i lines) (take (i + 1) lines) line (λ f. sum_by_more f lines i line within ∙ ap (λ x. sum_by f (take i lines) + f x) (sym is))

-- a line before all others
pub first-line : (lines : List Line) (line : Line) (s : Summary) → s ≡ summed lines → with_line line s ≡ summed (line ∷ lines)
first-line lines line s so =
    ap (with_line line) so
    ∙ more-lines lines (line ∷ lines) line (λ f. let is = sum_by-cons f line lines in omega (arith, is))

-- no sum is larger by 2^64
pub one-more : (n : ℕ) (s : Summary) → IsWithin (n * 2 ^ 64 + 2 ^ 64) s → IsWithin ((n + 1) * 2 ^ 64) s
one-more n s within = record {
  machines = omega (arith, within.machines);
  steps = omega (arith, within.steps);
  killed = omega (arith, within.killed);
  out = omega (arith, within.out);
}

-- the line of a summary, where nothing has waited before it
pub summary-is : (before : List ℕ) (seed : ℕ) (s : Summary) (outcome : Ended) → before ≡ [] → s ≡ summed (lines_of outcome)
    → before ++ summary_text seed s ≡ summary_of seed outcome
unfolding summary_of
summary-is before seed s outcome nothing same = ap₂ (λ first sums. first ++ summary_text seed sums) nothing same
