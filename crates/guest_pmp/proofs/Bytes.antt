-- What a write leaves of an entry's byte.
use Rattle.std.proofs.Common.{◌≡◌, ℕ, true, arith}
use Rattle.guest_pmp.specs.Registers.{is_configuration, written_byte}

pub written_byte-is_configuration : (old byte : ℕ) → is_configuration old ≡ true → is_configuration (written_byte old byte) ≡ true
written_byte-is_configuration old byte h = grind arith
