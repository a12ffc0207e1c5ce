use Rattle.std.proofs.Common.{rules, ◌≡◌, ◌<◌, ◌≤◌, [], ◌∷◌, ◌++◌, ℕ, List, length, take, drop, append-nil, ap, sym, ◌∙◌}
use Rattle.std.proofs.lemmas.List.{append_assoc}
use Rattle.vm_descriptor.specs.Maps.{halves}
use Rattle.vm_descriptor.proofs.RunLengths.{halves_end, halves_step}
use Rattle.vm_descriptor.proofs.runs.read_runs.Goals as goal

pub loop-run-preserved : goal.loop-run-preserved
loop-run-preserved c =
    let left = c.loop-run.left.now in
    let items = c.loop-run.lengths.items in
    let run = c.read_half.result in
    let later = halves c.in-Some.behind.now in
    let enough : 2 ≤ length left = search rules in
    let first : c.in-Some.run'.now ≡ take 2 left = search rules in
    let rest : c.in-Some.behind.now ≡ drop 2 left = search rules in
    let step : halves left ≡ run ∷ later =
    halves_step left c.in-Some.run'.now c.in-Some.behind.now enough first rest ∙ ap (λ (n : ℕ). n ∷ later) (sym c.read_half.ensures) in
    ap (λ (ls : List ℕ). ls ++ later) c.in_ok-push.ensures.items
    ∙ (append_assoc items (run ∷ []) later ∙ (ap (λ (ls : List ℕ). items ++ ls) (sym step) ∙ c.loop-run.invariant))

pub returns : goal.returns
returns c =
    let few : length c.loop-run.left.now < 2 = search rules in
    sym (append-nil c.loop-run.lengths.items)
    ∙ (ap (λ (ls : List ℕ). c.loop-run.lengths.items ++ ls) (sym (halves_end c.loop-run.left.now few)) ∙ c.loop-run.invariant)
