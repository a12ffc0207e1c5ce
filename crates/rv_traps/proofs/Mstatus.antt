-- The bits of mstatus.
use Rattle.std.proofs.Common.{◌≡◌, ℕ, Bool, true, false, refl}
use Rattle.guest_pmp.specs.declared.access.Mode.{Mode}
use Rattle.guest_pmp.specs.declared.access.Mode.TheVariants.{User, Machine}
use Rattle.rv_traps.specs.Registers.{has_bit, mode_in, mstatus_of}

-- mstatus has the bits and the mode that it is made of
pub record HasBits (enable : Bool) (previous : Bool) (mode : Mode) (modifies : Bool) : Type 0 where
  pub mie : has_bit (mstatus_of enable previous mode modifies) 3 ≡ enable
  pub mpie : has_bit (mstatus_of enable previous mode modifies) 7 ≡ previous
  pub mpp : mode_in (mstatus_of enable previous mode modifies) ≡ mode
  pub mprv : has_bit (mstatus_of enable previous mode modifies) 17 ≡ modifies

pub has_bits : (mie mpie : Bool) (mpp : Mode) (mprv : Bool) → HasBits mie mpie mpp mprv
has_bits true true User true = record { mie = refl; mpie = refl; mpp = refl; mprv = refl }
has_bits true true User false = record { mie = refl; mpie = refl; mpp = refl; mprv = refl }
has_bits true true Machine true = record { mie = refl; mpie = refl; mpp = refl; mprv = refl }
has_bits true true Machine false = record { mie = refl; mpie = refl; mpp = refl; mprv = refl }
has_bits true false User true = record { mie = refl; mpie = refl; mpp = refl; mprv = refl }
has_bits true false User false = record { mie = refl; mpie = refl; mpp = refl; mprv = refl }
has_bits true false Machine true = record { mie = refl; mpie = refl; mpp = refl; mprv = refl }
has_bits true false Machine false = record { mie = refl; mpie = refl; mpp = refl; mprv = refl }
has_bits false true User true = record { mie = refl; mpie = refl; mpp = refl; mprv = refl }
has_bits false true User false = record { mie = refl; mpie = refl; mpp = refl; mprv = refl }
has_bits false true Machine true = record { mie = refl; mpie = refl; mpp = refl; mprv = refl }
has_bits false true Machine false = record { mie = refl; mpie = refl; mpp = refl; mprv = refl }
has_bits false false User true = record { mie = refl; mpie = refl; mpp = refl; mprv = refl }
has_bits false false User false = record { mie = refl; mpie = refl; mpp = refl; mprv = refl }
has_bits false false Machine true = record { mie = refl; mpie = refl; mpp = refl; mprv = refl }
has_bits false false Machine false = record { mie = refl; mpie = refl; mpp = refl; mprv = refl }

pub mie-mstatus_of : (mie mpie : Bool) (mpp : Mode) (mprv : Bool) → has_bit (mstatus_of mie mpie mpp mprv) 3 ≡ mie
mie-mstatus_of mie mpie mpp mprv = (has_bits mie mpie mpp mprv).mie

pub mpie-mstatus_of : (mie mpie : Bool) (mpp : Mode) (mprv : Bool) → has_bit (mstatus_of mie mpie mpp mprv) 7 ≡ mpie
mpie-mstatus_of mie mpie mpp mprv = (has_bits mie mpie mpp mprv).mpie

pub mpp-mstatus_of : (mie mpie : Bool) (mpp : Mode) (mprv : Bool) → mode_in (mstatus_of mie mpie mpp mprv) ≡ mpp
mpp-mstatus_of mie mpie mpp mprv = (has_bits mie mpie mpp mprv).mpp

pub mprv-mstatus_of : (mie mpie : Bool) (mpp : Mode) (mprv : Bool) → has_bit (mstatus_of mie mpie mpp mprv) 17 ≡ mprv
mprv-mstatus_of mie mpie mpp mprv = (has_bits mie mpie mpp mprv).mprv

-- mstatus is what its own bits make of it
pub mstatus_of-bits :
    (mie mpie : Bool) (mpp : Mode) (mprv : Bool) → let made = mstatus_of mie mpie mpp mprv in
    made ≡ mstatus_of (has_bit made 3) (has_bit made 7) (mode_in made) (has_bit made 17)
mstatus_of-bits mie mpie mpp mprv = rw (mie-mstatus_of, mpie-mstatus_of, mpp-mstatus_of, mprv-mstatus_of)

pub mstatus-made :
    (word : ℕ) (mie mpie : Bool) (mpp : Mode) (mprv : Bool) → word ≡ mstatus_of mie mpie mpp mprv →
    word ≡ mstatus_of (has_bit word 3) (has_bit word 7) (mode_in word) (has_bit word 17)
mstatus-made word mie mpie mpp mprv is = rw is (mstatus_of-bits mie mpie mpp mprv)
