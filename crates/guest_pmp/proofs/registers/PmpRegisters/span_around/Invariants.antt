use Rattle.std.proofs.Common.{◌≡◌, ◌≤◌, ◌^◌, ℕ, drop}
use Rattle.guest_pmp.specs.Regions.{deciding, deciding_from}
use Rattle.guest_pmp.specs.Spans.{HasAddress, HasWord}
use Rattle.guest_pmp.proofs.registers.PmpRegisters.span_around.Given as goal

-- the entries before i match no word of the span
abbrev pub invariant-loop-i : goal.invariant-loop-i
invariant-loop-i l = record {
  has : HasWord l.span l.word;
  fits : l.span.behind ≤ 2 ^ 30;
  behind : (address : ℕ) → HasAddress l.span address
      → deciding l.self address ≡ deciding_from l.below (drop l.i l.self.configurations) (drop l.i l.self.addresses) address;
}
