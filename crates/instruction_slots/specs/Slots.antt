-- Instructions that are kept in slots, by the place of their words.
use Rattle.std.specs.Prelude.{◌≡◌, ◌≢◌, ◌⊎◌, ℕ, ◌+◌, ◌-◌, ◌*◌, ◌/◌, List, length, slice_index_or, Option, None, Some}
use Rattle.std.specs.Int.Bits.{bit_and}
use Rattle.rv_decode.specs.Instruction.{Instruction}
use Rattle.instruction_slots.specs.declared.slot.TheConstants.{NOWHERE}

-- a place, the word that was there, and the instruction that it encodes
pub record KeptInstruction : Type 0 where
  pub place : ℕ
  pub word : ℕ
  pub instr : Instruction

-- the number of the slot, of so many, of the word that has the byte at an address
abbrev pub slot_of : ℕ → ℕ → ℕ
slot_of address count = bit_and (address / 4) (count - 1)

-- an address at an epoch
abbrev pub place_of : ℕ → ℕ → ℕ
place_of address epoch = epoch * 4294967296 + address

-- a slot after a word at a place was put there, which says this instruction, if it says one
abbrev pub kept_by : Option Instruction → ℕ → ℕ → KeptInstruction → KeptInstruction
kept_by None place word slot = slot
kept_by (Some instr) place word slot = record { place = place; word = word; instr = instr }

-- the slot of this number keeps nothing more, and the others what they kept
pub record Forgets (number : ℕ) (old new : List KeptInstruction) : Type 0 where
  pub same_length : length new ≡ length old
  pub there : (d : KeptInstruction) → slice_index_or new number d ≡ record (slice_index_or old number d) { place = NOWHERE }
  pub others : (k : ℕ) (d : KeptInstruction) → k ≢ number → slice_index_or new k d ≡ slice_index_or old k d

-- so is what is kept of the word at an address, if there is one
abbrev pub ForgetsAt : Option ℕ → List KeptInstruction → List KeptInstruction → Type 0
ForgetsAt None old new = new ≡ old
ForgetsAt (Some address) old new = Forgets (slot_of address (length old)) old new

-- a slot keeps what it kept, or another instruction at no place
abbrev pub IsLearnt : KeptInstruction → KeptInstruction → Type 0
IsLearnt old new = (new ≡ old) ⊎ (new.place ≡ NOWHERE)

-- so does each
pub record Learns (old new : List KeptInstruction) : Type 0 where
  pub same_length : length new ≡ length old
  pub each : (k : ℕ) (d : KeptInstruction) → IsLearnt (slice_index_or old k d) (slice_index_or new k d)
