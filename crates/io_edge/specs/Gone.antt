-- Bytes that are gone to a sink in memory.
use Rattle.std.specs.Prelude.{◌≡◌, ℕ, ◌-◌, ◌==◌, ◌&&◌, ◌||◌, Bool, true, false, not, List, ◌++◌, length, min, take, Result, Ok, Err}
use Rattle.io_edge.specs.declared.outside.WriteFault.{WriteFault}
use Rattle.io_edge.specs.Outside.{next_count, is_next_listed}

-- a sink in memory: the bytes that are gone, the most that it takes a call and in all, the calls that are
-- to fail, and how many calls and faults there were
pub record Kept : Type 0 where
  pub bytes : List ℕ
  pub most : ℕ
  pub room : ℕ
  pub failing : List ℕ
  pub calls : ℕ
  pub faults : ℕ

-- how many bytes it still takes
abbrev pub room_left : Kept → ℕ
room_left sink = sink.room - length sink.bytes

-- the coming put of this piece is a fault: it is to fail, or finds no room for a piece that is not empty
abbrev pub is_put_fault : Kept → List ℕ → Bool
is_put_fault sink piece = is_next_listed sink.failing sink.calls || (room_left sink == 0 && not (length piece == 0))

-- how many bytes of a piece a put takes that is no fault
abbrev pub taken_of : Kept → List ℕ → ℕ
taken_of sink piece = min (min (length piece) sink.most) (room_left sink)

-- a put: it takes what it can, or is a fault
abbrev pub Puts : Kept → List ℕ → Result ℕ WriteFault → Kept → Type 0
Puts old piece (Ok n) new =
    (is_put_fault old piece ≡ false)
    × (n ≡ taken_of old piece)
    × (new ≡ record old { bytes = old.bytes ++ take n piece; calls = next_count old.calls })
Puts old piece (Err fault) new =
    (is_put_fault old piece ≡ true)
    × (new ≡ record old { calls = next_count old.calls; faults = next_count old.faults })
