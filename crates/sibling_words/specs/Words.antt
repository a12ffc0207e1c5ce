-- The words that wait between the children of a ticket.
use Rattle.std.specs.Prelude.{◌≡◌, ◌==◌, ℕ, Bool, true, false, List, [], ◌∷◌, Option, Some, None, if◌then◌else◌, slice_get}
use Rattle.std.specs.Ordering.{nat_cmp}
use Rattle.std.specs.Global.{Box, Vec}
use Rattle.std.specs.BTreeMap.{get}
use Rattle.arrayvec.specs.ArrayVec.{ArrayVec}
use Rattle.sibling_words.specs.declared.words.Inbox.{Inbox}
use Rattle.sibling_words.specs.declared.words.Inbox.TheVariants.{One, Many}
use Rattle.sibling_words.specs.declared.words.SiblingWords.{SiblingWords}

abbrev pub words_in : Option (ArrayVec ℕ) → List ℕ
words_in None = []
words_in (Some q) = q.items

-- the words of an inbox from a sibling, the oldest first
abbrev pub words_from : ℕ → Inbox → List ℕ
words_from from (One sibling q) = if from == sibling then q.items else []
words_from from (Many queues) = words_in (get nat_cmp queues from)

abbrev pub words_there : ℕ → Option Inbox → List ℕ
words_there from None = []
words_there from (Some inbox) = words_from from inbox

-- the words that wait in such inboxes, which are by the number of the child, for a child from another, the oldest first
abbrev pub words_at : List Inbox → ℕ → ℕ → List ℕ
words_at inboxes to from = words_there from (slice_get inboxes to)

abbrev pub words_behind : Option (Box (Vec Inbox)) → ℕ → ℕ → List ℕ
words_behind None to from = []
words_behind (Some inboxes) to from = words_at inboxes.value.items to from

-- the words that wait for a child from another, the oldest first
abbrev pub words_of : SiblingWords → ℕ → ℕ → List ℕ
words_of w = words_behind w.inboxes

abbrev pub is_empty : List ℕ → Bool
is_empty [] = true
is_empty (word ∷ rest) = false

-- the same words wait
abbrev pub HaveSame : SiblingWords → SiblingWords → Type 0
HaveSame old new = (to from : ℕ) → words_of new to from ≡ words_of old to from
