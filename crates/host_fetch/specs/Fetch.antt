-- A fetch, fate by fate.
use Rattle.std.specs.Prelude.{◌≡◌, ◌⊎◌, ℕ, ◌<◌, ◌==◌, Bool, true, List, [], ◌∷◌, ◌++◌, length, take, slice_index, slice_set, if◌then◌else◌, Result, Ok, Err}
use Rattle.std.specs.List.{remove, list_any}
use Rattle.wire_fates.specs.declared.fate.Fate.{Fate}
use Rattle.wire_fates.specs.declared.fate.Fate.TheVariants.{Give, Again, Lose}
use Rattle.wire_fates.specs.declared.fate.TheConstants.{LONGEST_STREAK}
use Rattle.host_fetch.specs.declared.error.FetchError.{FetchError}
use Rattle.host_fetch.specs.declared.error.FetchError.TheVariants.{Wire, Memory}
use Rattle.image_depot.specs.Receiver.{IsHere, IsAbsent}

pub record Fetching : Type 0 where
  -- for each page, whether it is here
  pub here : List Bool
  -- the pages of the replies that wait, in their order
  pub waiting : List ℕ
  -- the pages of all replies that were asked for, in their order
  pub asked : List ℕ

-- the pages that are here after a fate of one of the replies that wait
abbrev pub here_after : Fate → List ℕ → List Bool → List Bool
here_after (Give place) waiting here = slice_set here (slice_index waiting place) true
here_after (Again place) waiting here = slice_set here (slice_index waiting place) true
here_after (Lose place) waiting here = here

-- the replies that wait after it
abbrev pub waiting_after : {X : Type 0} → Fate → List X → List X
waiting_after (Give place) waiting = remove waiting place
waiting_after (Again place) waiting = waiting
waiting_after (Lose place) waiting = remove waiting place

abbrev pub after_fate : Fate → Fetching → Fetching
after_fate fate f = record f { here = here_after fate f.waiting f.here; waiting = waiting_after fate f.waiting }

-- a reply with the page waits
abbrev pub waits : ℕ → List ℕ → Bool
waits page waiting = list_any (λ other. other == page) waiting

-- where no reply with the page waits, it is asked for again
abbrev pub asked_again : ℕ → Fetching → Fetching
asked_again page f = if waits page f.waiting then f else record f { waiting = f.waiting ++ page ∷ []; asked = f.asked ++ page ∷ [] }

-- a fetch of a page that begins: the replies that it asks for at first wait
abbrev pub begun : List Bool → List ℕ → Fetching
begun here pages = record { here = here; waiting = pages; asked = pages }

-- by fates of a wire a fetch of a page comes from its beginning to here, where the page is absent and the wire has not
-- given up
pub data Comes {W : Type 0} (tells : W → ℕ → Fate → W → Type 0) (streak : W → ℕ) (page : ℕ) (first : W) (start : Fetching) : W → Fetching → Type 0 where
  begins : Comes tells streak page first start first start
  goes_on : (old new : W) (fate : Fate) (f : Fetching) → Comes tells streak page first start old f
      → tells old (length f.waiting) fate new → IsAbsent (after_fate fate f).here page → streak new < LONGEST_STREAK
      → Comes tells streak page first start new (asked_again page (after_fate fate f))

-- one fate more brings it to its end, with these pages here and these asked for
pub record Ends {W : Type 0} (tells : W → ℕ → Fate → W → Type 0) (streak : W → ℕ) (page : ℕ) (first : W) (start : Fetching) (last : W)
    (here : List Bool) (asked : List ℕ) : Type 0 where
  pub before : W
  pub f : Fetching
  pub fate : Fate
  pub comes : Comes tells streak page first start before f
  pub told : tells before (length f.waiting) fate last
  pub here_is : here ≡ (after_fate fate f).here
  pub asked_is : asked ≡ f.asked

-- memory was wanting for what it asks for at first: some of it was asked for, and no fate told
pub record StopsAsking {W : Type 0} (first : W) (start : Fetching) (last : W) (here : List Bool) (asked : List ℕ) : Type 0 where
  pub count : ℕ
  pub asked_is : asked ≡ take count start.asked
  pub here_is : here ≡ start.here
  pub wire_is : last ≡ first

-- one fate more was told, and memory was wanting to take its reply in: the pages that are here are as before it
pub record StopsGiving {W : Type 0} (tells : W → ℕ → Fate → W → Type 0) (streak : W → ℕ) (page : ℕ) (first : W) (start : Fetching) (last : W)
    (here : List Bool) (asked : List ℕ) : Type 0 where
  pub before : W
  pub f : Fetching
  pub fate : Fate
  pub comes : Comes tells streak page first start before f
  pub told : tells before (length f.waiting) fate last
  pub here_is : here ≡ f.here
  pub asked_is : asked ≡ f.asked

-- a fetch that asked for these pages ends well where the wanted page is here after a fate, and for the wire where the
-- page is absent after a fate and the streak is the longest. Memory may be wanting while it asks at first, to take a
-- reply in, or to ask for the page again, which is absent after a fate
abbrev pub Finishes : {W : Type 0} → (W → ℕ → Fate → W → Type 0) → (W → ℕ) → ℕ → W → Fetching → W → List Bool → List ℕ → Result (Unit {0}) FetchError → Type 0
Finishes tells streak page first start last here asked (Ok _) = Ends tells streak page first start last here asked × IsHere here page
Finishes tells streak page first start last here asked (Err Wire) = Ends tells streak page first start last here asked × IsAbsent here page
    × (streak last ≡ LONGEST_STREAK)
Finishes tells streak page first start last here asked (Err Memory) =
    StopsAsking first start last here asked
    ⊎ (StopsGiving tells streak page first start last here asked
    ⊎ (Ends tells streak page first start last here asked × IsAbsent here page × (streak last < LONGEST_STREAK)))

-- the pages that are here have only grown in number
pub record Grows (old new : List Bool) : Type 0 where
  pub pages : length new ≡ length old
  pub stays : (page : ℕ) → IsHere old page → IsHere new page
