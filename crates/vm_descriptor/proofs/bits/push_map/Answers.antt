use Rattle.std.proofs.Common.{rules, ◌≡◌, ◌++◌, ◌+◌, ℕ, List, [], false, drop, ap, sym, refl, ◌∙◌, arith}
use Rattle.std.specs.Prelude.{Bool, not}
use Rattle.std.proofs.lemmas.List.{at_drop_more, drop_all}
use Rattle.shared_leaves.specs.Choices.{flags_of_runs}
use Rattle.vm_descriptor.specs.Maps.{bits_of, map_bytes}
use Rattle.vm_descriptor.proofs.BitRuns.{last_bits, no_bits}
use Rattle.vm_descriptor.proofs.bits.push_map.Goals as goal

pub loop-run-init : goal.loop-run-init
unfolding bits_of
loop-run-init c = record { so_far = refl; few = omega arith; below = omega arith }

pub loop-run-preserved : goal.loop-run-preserved
unfolding flags_of_runs
loop-run-preserved c =
    let lengths = c.args.lengths.now in
    let loop = c.loop-run in
    let i = loop.run-index in
    let later = flags_of_runs (not loop.flag) (drop (i + 1) lengths) in
    let next =
    at_drop_more (λ (ls : List ℕ). loop.bytes.items ++ map_bytes (bits_of loop.last.count loop.last.byte ++ flags_of_runs loop.flag ls)) lengths i 0 c.loop-run-test.true in
    record {
      so_far = c.in_ok-last.ensures.added later ∙ sym next ∙ loop.invariant.so_far;
      few = c.in_ok-last.ensures.few;
      below = c.in_ok-last.ensures.below;
    }

no_runs : (flag : Bool) (lengths : List ℕ) → lengths ≡ [] → flags_of_runs flag lengths ≡ []
unfolding flags_of_runs
no_runs flag lengths none = ap (λ (ls : List ℕ). flags_of_runs flag ls) none

pub returns-in_ok-push : goal.returns-in_ok-push
returns-in_ok-push c =
    let lengths = c.args.lengths.now in
    let loop = c.loop-run in
    let none = no_runs loop.flag (drop loop.run-index lengths) (drop_all loop.run-index lengths (search rules)) in
    c.in_ok-push.ensures.items
    ∙ last_bits loop.bytes.items (c.args.bytes.now.items ++ map_bytes (flags_of_runs false lengths)) loop.last.count loop.last.byte (flags_of_runs loop.flag (drop loop.run-index lengths)) none
    c.if-last-gt0.true loop.invariant.few loop.invariant.below loop.invariant.so_far

pub returns-else-last-gt0 : goal.returns-else-last-gt0
returns-else-last-gt0 c =
    let lengths = c.args.lengths.now in
    let loop = c.loop-run in
    let none = no_runs loop.flag (drop loop.run-index lengths) (drop_all loop.run-index lengths (search rules)) in
    no_bits loop.bytes.items (c.args.bytes.now.items ++ map_bytes (flags_of_runs false lengths)) loop.last.count loop.last.byte (flags_of_runs loop.flag (drop loop.run-index lengths)) none
    (omega arith) loop.invariant.so_far
