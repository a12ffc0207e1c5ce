use Rattle.std.proofs.Common.{rules, ◌≡◌, ◌<◌, ◌≤◌, ◌∷◌, ℕ, List, length, take, drop, ap, sym, ◌∙◌}
use Rattle.vm_descriptor.specs.Maps.{halves}
use Rattle.vm_descriptor.proofs.RunLengths.{fill, fill_next, halves_end, halves_step, none_fill, none_left}
use Rattle.vm_descriptor.proofs.runs.follow.Goals as goal

pub returns-then-not-is_run : goal.returns-then-not-is_run
returns-then-not-is_run c =
    let left = c.loop-run.left.now in
    let later = halves c.in-Some.behind.now in
    let enough : 2 ≤ length left = search rules in
    let first : c.in-Some.run'.now ≡ take 2 left = search rules in
    let rest : c.in-Some.behind.now ≡ drop 2 left = search rules in
    let step : halves left ≡ c.from-run.result ∷ later =
    halves_step left c.in-Some.run'.now c.in-Some.behind.now enough first rest ∙ ap (λ (n : ℕ). n ∷ later) (sym (c.from-run.ensures ∙ c.read_half.ensures)) in
    none_fill c.loop-run.pages_left c.from-run.result later (sym c.is_run.ensures ∙ c.if-not-is_run.true)
    ∙ ap (λ (ls : List ℕ). fill c.loop-run.pages_left ls) (sym step) ∙ c.loop-run.invariant

pub loop-run-preserved : goal.loop-run-preserved
loop-run-preserved c =
    let left = c.loop-run.left.now in
    let later = halves c.in-Some.behind.now in
    let enough : 2 ≤ length left = search rules in
    let first : c.in-Some.run'.now ≡ take 2 left = search rules in
    let rest : c.in-Some.behind.now ≡ drop 2 left = search rules in
    let step : halves left ≡ c.from-run.result ∷ later =
    halves_step left c.in-Some.run'.now c.in-Some.behind.now enough first rest ∙ ap (λ (n : ℕ). n ∷ later) (sym (c.from-run.ensures ∙ c.read_half.ensures)) in
    fill_next c.loop-run.pages_left c.from-run.result later (sym c.is_run.ensures ∙ c.if-not-is_run.false)
    ∙ ap (λ (ls : List ℕ). fill c.loop-run.pages_left ls) (sym step) ∙ c.loop-run.invariant

pub returns : goal.returns
returns c =
    let few : length c.loop-run.left.now < 2 = search rules in
    none_left c.loop-run.pages_left
    ∙ ap (λ (ls : List ℕ). fill c.loop-run.pages_left ls) (sym (halves_end c.loop-run.left.now few)) ∙ c.loop-run.invariant
