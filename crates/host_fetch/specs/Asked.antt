-- The pages that a fetch asks for, and the replies to it.
use Rattle.std.specs.Prelude.{◌≡◌, ◌⊎◌, ℕ, ◌≤◌, ◌+◌, ◌-◌, Bool, false, nat_lt, not, if◌then◌else◌, Contains, List, [], ◌∷◌, ◌++◌, length, map, take, filter, slice_index_or}
use Rattle.std.specs.Prelude.{Result, Ok, Err}
use Rattle.std.specs.List.{range_with_len}
use Rattle.page_claims.specs.declared.first.Claimed.{Claimed}
use Rattle.page_claims.specs.declared.first.Claimed.TheVariants.{First, Repeat, Outside}
use Rattle.page_claims.specs.Calls.{Answers, bit_number}
use Rattle.page_claims.specs.Values.{ClaimsValue, PassValue}
use Rattle.image_depot.specs.Image.{FrozenImage, page_count, place_count}
use Rattle.image_depot.specs.Key.{Shelves, Key, number_of}
use Rattle.image_depot.specs.Reply.{Reply, Delivery, IsSentOf, reply_of, sent_image, sent_page}
use Rattle.host_fetch.specs.declared.error.FetchError.{FetchError}
use Rattle.host_fetch.specs.declared.error.FetchError.TheVariants.{Wire, Memory}
use Rattle.host_fetch.specs.declared.waiting.Waiting.{Waiting}
use Rattle.host_fetch.specs.declared.waiting.Waiting.TheVariants.{Kept, Own}

-- those of `count` pages, from `first` on, that are absent
abbrev pub absent_among : List Bool → ℕ → ℕ → List ℕ
absent_among here first count = filter (λ page. not (slice_index_or here page false)) (range_with_len first count)

-- where the pages of an image of the kind of a page end: those of RAM come first, and then those of the disk
abbrev pub end_of_kind : FrozenImage → ℕ → ℕ
end_of_kind image page = if nat_lt page (page_count image) then page_count image else place_count image

-- the absent pages above a page, up to an end
abbrev pub absent_above : List Bool → ℕ → ℕ → List ℕ
absent_above here page end = absent_among here (page + 1) (end - (page + 1))

-- what a fetch asks for at first: the wanted page, and as many of the absent ones above it up to an end, the lowest first
abbrev pub first_asked : List Bool → ℕ → ℕ → ℕ → List ℕ
first_asked here page end ahead = page ∷ take ahead (absent_above here page end)

-- the reply with a page of the image of a key
abbrev pub reply_with : Key → ℕ → Reply
reply_with key page = record { key = key; page = page }

-- the replies that were told, and what a pass has claimed
pub record Telling : Type 0 where
  pub sent : List Delivery
  pub pass : PassValue

-- a reply is told just where its page was claimed for the first time. The depot keeps it then
abbrev pub IsTold : Shelves → Reply → Claimed → List Delivery → List Delivery → Type 0
IsTold depot reply (First token) old new = (sent : Delivery) × IsSentOf depot sent × (reply_of sent ≡ reply) × (new ≡ old ++ sent ∷ [])
IsTold depot reply Repeat old new = new ≡ old
IsTold depot reply Outside old new = new ≡ old

-- a page of the image of a key was asked for: it was claimed, and the reply was told if that claim was the first
pub record IsAsked (depot : Shelves) (claims : ClaimsValue) (key : Key) (page : ℕ) (old new : Telling) : Type 0 where
  pub claimed : Claimed
  pub answers : Answers claims (number_of key) page old.pass new.pass claimed
  pub told : IsTold depot (reply_with key page) claimed old.sent new.sent

-- these pages were asked for, in their order
abbrev pub AreAsked : Shelves → ClaimsValue → Key → List ℕ → Telling → Telling → Type 0
AreAsked depot claims key [] old new = new ≡ old
AreAsked depot claims key (page ∷ pages) old new = (middle : Telling) × IsAsked depot claims key page old middle × AreAsked depot claims key pages middle new

-- memory was wanting for the reply with a page: it may have been claimed, and nothing was told
pub record IsUntold (claims : ClaimsValue) (key : Key) (page : ℕ) (old new : Telling) : Type 0 where
  pub sent : new.sent ≡ old.sent
  pub pass : (new.pass ≡ old.pass) ⊎ ((claimed : Claimed) × Answers claims (number_of key) page old.pass new.pass claimed)

-- these pages were asked for, and memory may have been wanting for one of those that were due
pub record ArePartlyAsked (depot : Shelves) (claims : ClaimsValue) (key : Key) (due pages : List ℕ) (old new : Telling) : Type 0 where
  pub middle : Telling
  pub asked : AreAsked depot claims key pages old middle
  pub last : (new ≡ middle) ⊎ ((page : ℕ) × Contains due page × IsUntold claims key page middle new)

-- what a fetch asked for that ended so, for which these pages were due
abbrev pub HasAsked : Shelves → ClaimsValue → Key → List ℕ → Result (Unit {0}) FetchError → List ℕ → Telling → Telling → Type 0
HasAsked depot claims key due (Ok _) asked old new = AreAsked depot claims key asked old new
HasAsked depot claims key due (Err Wire) asked old new = AreAsked depot claims key asked old new
HasAsked depot claims key due (Err Memory) asked old new = ArePartlyAsked depot claims key due asked old new

-- the bits of the pages of these replies
abbrev pub bits_of : ClaimsValue → List Delivery → List ℕ
bits_of claims sents = map (λ sent. bit_number claims (sent_image sent) (sent_page sent)) sents

-- just the replies were told whose pages this pass claimed first, by these claims, but that up to so many more were claimed first
pub record HasToldFirsts (claims : ClaimsValue) (most : ℕ) (old new : Telling) : Type 0 where
  pub told : List Delivery
  pub untold : List ℕ
  pub sent : new.sent ≡ old.sent ++ told
  pub firsts : new.pass.firsts ≡ old.pass.firsts ++ (bits_of claims told ++ untold)
  pub few : length untold ≤ most

-- where memory was wanting one page may have been claimed whose reply nobody was told
abbrev pub untold_most : Result (Unit {0}) FetchError → ℕ
untold_most (Ok _) = 0
untold_most (Err Wire) = 0
untold_most (Err Memory) = 1

-- what a reply that waits carries
abbrev pub reply_in : Waiting → Reply
reply_in (Kept parcel) = parcel.now
reply_in (Own parcel) = parcel
