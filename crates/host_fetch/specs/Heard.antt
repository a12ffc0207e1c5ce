-- Replies that were heard, each at the numbers of its image and of its page.
use Rattle.std.specs.Prelude.{◌≡◌, ◌≢◌, ℕ, List, Option, None, Some}
use Rattle.std.specs.declared.cmp.Ordering.{Ordering}
use Rattle.std.specs.Ordering.{nat_cmp, ordering_then}
use Rattle.std.specs.BTreeMap.{is_at}
use Rattle.std.specs.List.{All}
use Rattle.std.specs.Map.{lookup, values_of}
use Rattle.image_depot.specs.Key.{Key, Shelves, number_of}
use Rattle.image_depot.specs.Reply.{Delivery, IsSentOf, sent_image, sent_page}

-- the numbers of an image and of a page
abbrev pub Place : Type 0
Place = ℕ × ℕ

-- by image, and then by page
abbrev pub place_cmp : Place → Place → Ordering
place_cmp a b = ordering_then (nat_cmp a.0 b.0) (nat_cmp a.1 b.1)

abbrev pub Replies : Type 0
Replies = List (Place × Delivery)

-- each is at its own place
abbrev pub IsAtItsPlace : Place × Delivery → Type 0
IsAtItsPlace entry = (sent_image entry.1 ≡ entry.0.0) × (sent_page entry.1 ≡ entry.0.1)

-- the reply with a page of an image
abbrev pub found : Replies → ℕ → ℕ → Option Delivery
found replies image page = lookup (is_at (place_cmp (image, page))) replies

-- the reply with the page that is wanted, if one is, of the image of a key, if there is one
abbrev pub found_for : Option ℕ → Option Key → Replies → Option Delivery
found_for None key replies = None
found_for (Some page) None replies = None
found_for (Some page) (Some key) replies = found replies (number_of key) page

-- once this reply is taken in, what is found of every other image and page is as before
abbrev pub KeepsOthers : Delivery → Replies → Replies → Type 0
KeepsOthers sent old new = (image page : ℕ) → ◌≢◌ {A = Place} (image, page) (sent_image sent, sent_page sent) → found new image page ≡ found old image page

-- this depot keeps all of them
abbrev pub AreHeardOf : Shelves → Replies → Type 0
AreHeardOf depot replies = All (IsSentOf depot) (values_of replies)
