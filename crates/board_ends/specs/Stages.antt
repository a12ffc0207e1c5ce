-- What a worker does, entry by entry.
use Rattle.std.specs.Prelude.{◌≡◌, [], ◌∷◌}
use Rattle.talking_history.specs.Rows.{over, stopped, stuck, idle, took, wake_failed, spent, dropped, kept, halted}
use Rattle.talking_history.specs.Histories.{Entry, row, told, heard, tell_failed, hear_failed, History}
use Rattle.world_core.specs.declared.reason.Reason.{Reason}
use Rattle.world_core.specs.declared.reason.Reason.TheVariants.{Memory}

-- where a worker is between two entries of its own
pub data Stage : Type 0 where
  -- it holds no machine
  free : Stage
  -- it runs one
  runs : Stage
  -- memory was wanting to wake one
  short : Stage
  -- memory was wanting for the call of the one that it runs
  wanting : Stage
  -- it has stopped the world, and is to give its machine back
  halting : Stage
  -- it has found that there is nothing more to be done
  done : Stage

-- it holds a machine that it may hand back
abbrev pub MayReturn : Stage → Type 0
MayReturn free = ⊥
MayReturn runs = Unit {0}
MayReturn short = ⊥
MayReturn wanting = ⊥
MayReturn halting = Unit {0}
MayReturn done = ⊥

-- it stops the world for this reason, and is there then: so who wanted memory does
abbrev pub Halts : Stage → Reason → Stage → Type 0
Halts free reason then = ⊥
Halts runs reason then = then ≡ halting
Halts short reason then = (reason ≡ Memory) × (then ≡ free)
Halts wanting reason then = (reason ≡ Memory) × (then ≡ halting)
Halts halting reason then = ⊥
Halts done reason then = ⊥

-- with this entry it comes from one stage to the next
abbrev pub Steps : Stage → Entry Reason → Stage → Type 0
Steps from (row over) then = (from ≡ free) × (then ≡ done)
Steps from (row (stopped reason)) then = (from ≡ free) × (then ≡ done)
Steps from (row stuck) then = (from ≡ free) × (then ≡ done)
Steps from (row idle) then = (from ≡ free) × (then ≡ free)
Steps from (row (took name)) then = (from ≡ free) × (then ≡ runs)
Steps from (row wake_failed) then = (from ≡ free) × (then ≡ short)
Steps from (row (spent how name k)) then = MayReturn from × (then ≡ free)
Steps from (row (dropped name)) then = MayReturn from × (then ≡ free)
Steps from (row (kept name k)) then = (from ≡ runs) × (then ≡ wanting)
Steps from (row (halted reason)) then = Halts from reason then
Steps from (told image page) then = (from ≡ runs) × (then ≡ runs)
Steps from (heard place) then = (from ≡ runs) × (then ≡ runs)
Steps from tell_failed then = (from ≡ runs) × (then ≡ runs)
Steps from (hear_failed place) then = (from ≡ runs) × (then ≡ runs)

-- with these entries, one after another
unfoldable pub Goes : Stage → History Reason → Stage → Type 0
Goes from [] then = from ≡ then
Goes from (e ∷ rest) then = (next : Stage) × (Steps from e.1 next × Goes next rest then)
