use Rattle.std.proofs.Common.{◌≡◌, ◌+◌, ◌-◌, ℕ, length}
use Rattle.sibling_words.specs.Words.{words_at}
use Rattle.sibling_words.proofs.words.grow_to.Given as goal

abbrev pub invariant-loop-inboxes : goal.invariant-loop-inboxes
invariant-loop-inboxes l = (t f : ℕ) → words_at l.inboxes.items t f ≡ words_at l.initial.inboxes.items t f

abbrev pub decreases-loop-inboxes : goal.decreases-loop-inboxes
decreases-loop-inboxes l = (l.to + 1) - length l.inboxes.items
