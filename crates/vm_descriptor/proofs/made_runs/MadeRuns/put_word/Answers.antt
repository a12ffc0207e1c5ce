use Rattle.std.proofs.Common.{◌≡◌, ◌-◌, ◌/◌, ◌%◌, ◌++◌, ℕ, List, replicate, append-nil, ap, sym, ◌∙◌, arith}
use Rattle.std.specs.Prelude.{Bool, ◌^◌, ◌==◌}
use Rattle.std.proofs.lemmas.List.{append_assoc}
use Rattle.vm_descriptor.specs.MadeRuns.{from_the_start}
use Rattle.vm_descriptor.specs.Maps.{bits_of}
use Rattle.vm_descriptor.proofs.WordBits.{bits_split}
use Rattle.vm_descriptor.proofs.made_runs.MadeRuns.put_word.Goals as goal

pub runs-preserved : goal.runs-preserved
runs-preserved c =
    let was = c.runs.invariant in
    let old = from_the_start c.runs.self in
    let run = c.equal_bits-run.result in
    let flag = c.runs.bits % 2 == 1 in
    let later = bits_of (c.runs.left - run) c.bits_behind-bits.result in
    let behind = bits_of (c.runs.left - run) (c.runs.bits / 2 ^ run) in
    record {
      in_turn = c.in_ok-put.ensures.in_turn was.in_turn;
      so_far =
          ap (λ (fs : List Bool). fs ++ later) (c.in_ok-put.ensures.behind was.in_turn)
          ∙ append_assoc old (replicate run flag) later
          ∙ ap (λ (fs : List Bool). old ++ fs)
          (ap (λ (n : ℕ). replicate run flag ++ bits_of (c.runs.left - run) n) c.bits_behind-bits.ensures
          ∙ ap (λ (fs : List Bool). fs ++ behind) (sym c.equal_bits-run.ensures.equal)
          ∙ sym (bits_split c.runs.left run c.runs.bits c.equal_bits-run.ensures.most))
          ∙ was.so_far;
      few = omega (arith, was.few);
    }

pub returns-clause-behind : goal.returns-clause-behind
unfolding bits_of
returns-clause-behind c =
    let none : 0 ≡ c.runs.left = omega arith in
    sym (append-nil (from_the_start c.runs.self)) ∙ ap (λ (n : ℕ). from_the_start c.runs.self ++ bits_of n c.runs.bits) none ∙ c.runs.invariant.so_far
