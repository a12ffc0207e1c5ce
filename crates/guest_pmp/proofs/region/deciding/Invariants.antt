use Rattle.std.proofs.Common.{◌≡◌, ◌/◌, ℕ, drop}
use Rattle.guest_pmp.specs.Regions.{deciding, deciding_from}
use Rattle.guest_pmp.proofs.region.deciding.Given as goal

-- the entries before i match no byte of the word
abbrev pub invariant-loop-i : goal.invariant-loop-i
invariant-loop-i l =
    (address : ℕ) → address / 4 ≡ l.fn.word →
    deciding l.registers address ≡ deciding_from l.below (drop l.i l.registers.configurations) (drop l.i l.registers.addresses) address
