-- The offsets that a jump or a branch can have.
use Rattle.std.proofs.Common.{◌≡◌, ℕ, suc, ◌+◌, ◌-◌, ◌*◌, ◌<◌, ◌≤◌, inl, inr, true, Some, None, Option, refl, arith}
use Rattle.std.specs.Prelude.{ℤ, pos, negsuc, IsTrue, ◌↔◌, SomeIff}
use Rattle.std.proofs.lemmas.Bool.{cases_lt, le-leb, lt-ltb, leb-true, ltb-true, and_from, and_parts}
use Rattle.std.proofs.lemmas.Int.{ints}
use Rattle.rv_decode.specs.declared.kinds.Kind.{Kind}
use Rattle.rv_decode.specs.declared.kinds.Kind.TheVariants.{Jal, Beq, Bne, Blt, Bge, Bltu, Bgeu}
use Rattle.rv_decode.specs.declared.kinds.Format.TheVariants.{J}
use Rattle.rv_decode.specs.Kinds.{format_of}
use Rattle.rv_decode.specs.Instruction.{Instruction, IsInstruction, IsSigned, IsMultiple}
use Rattle.rv_asm.specs.Offset.{takes_label, reach, offset, reaches}

abbrev pub instruction : Kind → ℕ → ℕ → ℕ → ℤ → Instruction
instruction kind rd rs1 rs2 imm = record { kind = kind; rd = rd; rs1 = rs1; rs2 = rs2; imm = imm }

-- with another immediate it is one where the offset is in reach
other_immediate : (kind : Kind) (rd rs1 rs2 : ℕ) (old imm : ℤ) → IsTrue (takes_label kind) → IsInstruction (instruction kind rd rs1 rs2 old)
    → IsInstruction (instruction kind rd rs1 rs2 imm) ↔ (IsSigned (reach kind) imm × IsMultiple 2 imm)
unfolding format_of
other_immediate Jal rd rs1 rs2 old imm takes h = (λ new. (new.3, new.4), λ near. (h.0, h.1, h.2, near.0, near.1))
other_immediate Beq rd rs1 rs2 old imm takes h = (λ new. (new.3, new.4), λ near. (h.0, h.1, h.2, near.0, near.1))
other_immediate Bne rd rs1 rs2 old imm takes h = (λ new. (new.3, new.4), λ near. (h.0, h.1, h.2, near.0, near.1))
other_immediate Blt rd rs1 rs2 old imm takes h = (λ new. (new.3, new.4), λ near. (h.0, h.1, h.2, near.0, near.1))
other_immediate Bge rd rs1 rs2 old imm takes h = (λ new. (new.3, new.4), λ near. (h.0, h.1, h.2, near.0, near.1))
other_immediate Bltu rd rs1 rs2 old imm takes h = (λ new. (new.3, new.4), λ near. (h.0, h.1, h.2, near.0, near.1))
other_immediate Bgeu rd rs1 rs2 old imm takes h = (λ new. (new.3, new.4), λ near. (h.0, h.1, h.2, near.0, near.1))
other_immediate _ rd rs1 rs2 old imm takes h = cc

pub SomeIff-same : {A : Type 0} (o : Option A) (P Q : Type 0) (v : A) → P ↔ Q → SomeIff o P v → SomeIff o Q v
SomeIff-same None P Q v same none = λ q. none (same.1 q)
SomeIff-same (Some x) P Q v same some = (same.0 some.0, some.1)

pub IsInstruction-other : (i : Instruction) (imm : ℤ) → IsTrue (takes_label i.kind) → IsInstruction i
    → IsInstruction (record i { imm = imm }) ↔ (IsSigned (reach i.kind) imm × IsMultiple 2 imm)
IsInstruction-other i imm takes h = other_immediate i.kind i.rd i.rs1 i.rs2 i.imm imm takes h

-- a branch has no rd
no_rd_of : (kind : Kind) (rd rs1 rs2 : ℕ) (imm : ℤ) → IsTrue (takes_label kind) → (format_of kind ≡ J → ⊥) → IsInstruction (instruction kind rd rs1 rs2 imm) → rd ≡ 0
unfolding format_of
no_rd_of Jal rd rs1 rs2 imm takes other h = absurd (other refl)
no_rd_of Beq rd rs1 rs2 imm takes other h = h.0
no_rd_of Bne rd rs1 rs2 imm takes other h = h.0
no_rd_of Blt rd rs1 rs2 imm takes other h = h.0
no_rd_of Bge rd rs1 rs2 imm takes other h = h.0
no_rd_of Bltu rd rs1 rs2 imm takes other h = h.0
no_rd_of Bgeu rd rs1 rs2 imm takes other h = h.0
no_rd_of _ rd rs1 rs2 imm takes other h = cc

pub no_rd : (i : Instruction) → IsTrue (takes_label i.kind) → (format_of i.kind ≡ J → ⊥) → IsInstruction i → i.rd ≡ 0
no_rd i takes other h = no_rd_of i.kind i.rd i.rs1 i.rs2 i.imm takes other h

offset_ahead : (at place : ℕ) → at ≤ place → offset at place ≡ pos (4 * (place - at))
offset_ahead at place ahead = omega (arith, ints)

offset_back : (at place n : ℕ) → 4 * at ≡ 4 * place + suc n → offset at place ≡ negsuc n
offset_back at place n back = omega (arith, ints)

pub IsMultiple-offset : (at place : ℕ) → IsMultiple 2 (offset at place)
IsMultiple-offset at place =
    elim (cases_lt place at) [
      | inl back ↦ rw (offset_back at place (4 * (at - place) - 1) (omega arith)) (omega arith)
      | inr ahead ↦ rw (offset_ahead at place ahead) (omega arith)
    ]

IsSigned-offset : (half at place : ℕ) → 4 * at ≤ 4 * place + half → 4 * place < 4 * at + half → IsSigned half (offset at place)
IsSigned-offset half at place behind ahead = (omega (arith, ints), omega (arith, ints))

offset-IsSigned : (half at place : ℕ) → IsSigned half (offset at place) → (4 * at ≤ 4 * place + half) × (4 * place < 4 * at + half)
offset-IsSigned half at place fits = (omega (arith, ints, fits.0), omega (arith, ints, fits.1))

pub IsSigned-reaches : (kind : Kind) (at place : ℕ) → reaches kind at place ≡ true → IsSigned (reach kind) (offset at place)
IsSigned-reaches kind at place near = IsSigned-offset (reach kind) at place (leb-true _ _ (and_parts _ _ near).0) (ltb-true _ _ (and_parts _ _ near).1)

pub reaches-IsSigned : (kind : Kind) (at place : ℕ) → IsSigned (reach kind) (offset at place) → reaches kind at place ≡ true
reaches-IsSigned kind at place fits =
    let near = offset-IsSigned (reach kind) at place fits in
    and_from _ _ (le-leb _ _ near.0) (lt-ltb _ _ near.1)

pub IsInstruction-reaches : (i : Instruction) (at place : ℕ) → IsTrue (takes_label i.kind) → IsInstruction i
    → IsTrue (reaches i.kind at place) ↔ IsInstruction (record i { imm = offset at place })
IsInstruction-reaches i at place takes h =
    let same = IsInstruction-other i (offset at place) takes h in
    (λ near. same.1 (IsSigned-reaches i.kind at place near, IsMultiple-offset at place), λ new. reaches-IsSigned i.kind at place (same.0 new).0)
