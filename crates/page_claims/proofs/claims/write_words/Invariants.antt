use Rattle.std.proofs.Common.{◌≡◌, ◌≤◌, take}
use Rattle.std.specs.Vec.{vec_capacity}
use Rattle.std.specs.Slots.{slots_items}
use Rattle.page_claims.proofs.claims.write_words.Given as goal

abbrev pub invariant-loop-i : goal.invariant-loop-i
invariant-loop-i l = (l.room.items ≡ take l.i (slots_items l.closed.words)) × (l.count ≤ vec_capacity l.room)
