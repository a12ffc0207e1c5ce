use Rattle.std.proofs.Common.{◌≡◌, ◌≤◌, ◌+◌, ◌-◌, ℕ, length, slice_index_or, vec_capacity}
use Rattle.sibling_words.proofs.notes.note_at.Given as goal

abbrev pub invariant-loop-peers : goal.invariant-loop-peers
invariant-loop-peers l =
    ((k : ℕ) → slice_index_or l.peers.items k 0 ≡ slice_index_or l.initial.peers.items k 0) × (vec_capacity l.initial.peers ≤ vec_capacity l.peers)

abbrev pub decreases-loop-peers : goal.decreases-loop-peers
decreases-loop-peers l = (l.at + 1) - length l.peers.items
