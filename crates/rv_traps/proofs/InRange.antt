-- What a write keeps is in range.
use Rattle.std.proofs.Common.{◌≡◌, ℕ, ◌*◌, ◌^◌, ◌/◌, ◌%◌, refl, sym, ap, ◌∙◌, arith, bit_and}
use Rattle.std.proofs.lemmas.Nat.{and_assoc}
use Rattle.std.proofs.lemmas.Nat.Bits.{and_high}
use Rattle.guest_pmp.specs.Registers.{IsInRange as ArePmpInRange}
use Rattle.rv_traps.specs.declared.number.Csr.{Csr}
use Rattle.rv_traps.specs.declared.number.Csr.TheVariants.{Mstatus, Mie, Mtvec, Mscratch, Mepc, Mcause, Mtval, Pmp, Mcycle, Minstret, Mcycleh, Minstreth}
use Rattle.rv_traps.specs.declared.registers.CsrRegisters.{CsrRegisters}
use Rattle.rv_traps.specs.Access.{put, written_mode}
use Rattle.rv_traps.specs.Registers.{IsInRange, has_bit, previous_mode}
use Rattle.rv_traps.specs.Table.{keeps}
use Rattle.rv_traps.proofs.Mstatus.{mstatus_of-bits}

-- to keep bits twice is to keep them once
kept_twice : (mask value : ℕ) → bit_and mask mask ≡ mask → bit_and value mask ≡ bit_and (bit_and value mask) mask
kept_twice mask value same = sym (and_assoc mask value mask ∙ ap (bit_and value) same)

multiple_of_4 : (value : ℕ) → bit_and value 0xffff_fffc % 4 ≡ 0
multiple_of_4 value = let e : bit_and value 0xffff_fffc ≡ value / 4 % 2 ^ 30 * 4 = and_high value 30 2 in omega (arith, e)

pub IsInRange-put :
    (csr : Csr) (number value : ℕ) (c : CsrRegisters) → ArePmpInRange (put csr number (bit_and value (keeps csr)) c).pmp → IsInRange c →
    IsInRange (put csr number (bit_and value (keeps csr)) c)
IsInRange-put Mstatus number value c pmp h =
    let kept : ℕ = bit_and value 0x0002_1888 in
    record {
      mstatus = mstatus_of-bits (has_bit kept 3) (has_bit kept 7) (written_mode (previous_mode c) kept) (has_bit kept 17);
      mie = h.mie;
      mtvec = h.mtvec;
      mepc = h.mepc;
      pmp = h.pmp;
    }
IsInRange-put Mie number value c pmp h = record { mstatus = h.mstatus; mie = kept_twice 0x80 value refl; mtvec = h.mtvec; mepc = h.mepc; pmp = h.pmp }
IsInRange-put Mtvec number value c pmp h =
    record { mstatus = h.mstatus; mie = h.mie; mtvec = kept_twice 0xffff_fffd value refl; mepc = h.mepc; pmp = h.pmp }
IsInRange-put Mepc number value c pmp h = record { mstatus = h.mstatus; mie = h.mie; mtvec = h.mtvec; mepc = multiple_of_4 value; pmp = h.pmp }
IsInRange-put Mscratch number value c pmp h = record { mstatus = h.mstatus; mie = h.mie; mtvec = h.mtvec; mepc = h.mepc; pmp = h.pmp }
IsInRange-put Mcause number value c pmp h = record { mstatus = h.mstatus; mie = h.mie; mtvec = h.mtvec; mepc = h.mepc; pmp = h.pmp }
IsInRange-put Mtval number value c pmp h = record { mstatus = h.mstatus; mie = h.mie; mtvec = h.mtvec; mepc = h.mepc; pmp = h.pmp }
IsInRange-put Pmp number value c pmp h = record { mstatus = h.mstatus; mie = h.mie; mtvec = h.mtvec; mepc = h.mepc; pmp = pmp }
IsInRange-put Mcycle number value c pmp h = record { mstatus = h.mstatus; mie = h.mie; mtvec = h.mtvec; mepc = h.mepc; pmp = h.pmp }
IsInRange-put Minstret number value c pmp h = record { mstatus = h.mstatus; mie = h.mie; mtvec = h.mtvec; mepc = h.mepc; pmp = h.pmp }
IsInRange-put Mcycleh number value c pmp h = record { mstatus = h.mstatus; mie = h.mie; mtvec = h.mtvec; mepc = h.mepc; pmp = h.pmp }
IsInRange-put Minstreth number value c pmp h = record { mstatus = h.mstatus; mie = h.mie; mtvec = h.mtvec; mepc = h.mepc; pmp = h.pmp }
IsInRange-put _ number value c pmp h = h
