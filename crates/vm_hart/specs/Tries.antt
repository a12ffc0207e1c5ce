-- Tries at fast steps.
use Rattle.std.specs.Prelude.{◌≡◌, MatchBool}
use Rattle.rv_decode.specs.Instruction.{Instruction}
use Rattle.rv_decode.specs.Kinds.{group_of}
use Rattle.vm_hart.specs.Kept.{stored_at}
use Rattle.vm_hart.specs.Keyed.{KeyedState}
use Rattle.vm_hart.specs.Fast.{ActsFast}
use Rattle.vm_hart.specs.declared.hart.fast.Tried.{Tried}

-- what came of a try at an instruction
pub record IsTry (old new : KeyedState) (i : Instruction) (tried : Tried) : Type 0 where
  -- it was made, or the hart stays
  pub acts : MatchBool tried.is_made (ActsFast old new i) (new ≡ old)
  pub stored : tried.stored ≡ stored_at (group_of i.kind) i old.state
  pub next : tried.next ≡ new.state.pc
