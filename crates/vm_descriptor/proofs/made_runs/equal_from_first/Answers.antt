use Rattle.std.proofs.Common.{◌≤◌, ◌<◌, ℕ, replicate, ap, subst, sym, ◌∙◌}
use Rattle.std.specs.Prelude.{Bool}
use Rattle.vm_descriptor.proofs.WordBits.{one_bits, some_one, some_zero, zero_bits}
use Rattle.vm_descriptor.proofs.made_runs.equal_from_first.Goals as goal

pub returns-then-flag-clause-some : goal.returns-then-flag-clause-some
returns-then-flag-clause-some c =
    subst (λ (n : ℕ). 0 < n) (sym c.trailing_ones.ensures) (some_one c.args.flag c.args.word c.ranges.word.fits c.requires c.if-flag.true)

pub returns-then-flag-clause-equal : goal.returns-then-flag-clause-equal
returns-then-flag-clause-equal c = λ count most.
    one_bits count 64 c.args.word c.ranges.word.fits (subst (λ (n : ℕ). count ≤ n) c.trailing_ones.ensures most) ∙ ap (λ (f : Bool). replicate count f) (sym c.if-flag.true)

pub returns-else-flag-clause-some : goal.returns-else-flag-clause-some
returns-else-flag-clause-some c = some_zero c.args.flag c.args.word c.requires c.if-flag.false

pub returns-else-flag-clause-equal : goal.returns-else-flag-clause-equal
returns-else-flag-clause-equal c = λ count most. zero_bits count 64 c.args.word most ∙ ap (λ (f : Bool). replicate count f) (sym c.if-flag.false)
