use Rattle.std.proofs.Common.{◌≡◌, ◌≢◌, ◌<◌, ◌≤◌, ◌-◌, ℕ, length}
use Rattle.sibling_words.specs.Notes.{noted, peers_in}
use Rattle.sibling_words.proofs.notes.SiblingNotes.next_of.Given as goal

abbrev pub invariant-loop-who : goal.invariant-loop-who
invariant-loop-who l = (l.first ≤ l.who) × ((k : ℕ) → l.first ≤ k → k < l.who → noted l.self k ≢ l.peer)

abbrev pub decreases-loop-who : goal.decreases-loop-who
decreases-loop-who l = length (peers_in l.self.peers) - l.who
