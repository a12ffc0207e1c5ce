-- What a step asks of the pages of a machine: those that must be here, and what it changes of them.
use Rattle.std.specs.Prelude.{ℕ, ◌==◌, not, List, [], ◌∷◌, filter}

-- A page is its place among the pages of a machine. Those of RAM come first, so there it is its number in RAM, and behind
-- them are those of the disk.
abbrev pub Page : Type 0
Page = ℕ

-- what is done to the pages
pub data Change : Type 0 where
  no_change : Change
  -- bytes are put into this page
  puts : Page → Change
  -- from this page on so many read as zeros
  zeroes : Page → ℕ → Change

pub record Footprint : Type 0 where
  -- the pages that must be here, in the order in which they are asked for
  pub needs : List Page
  pub changes : Change

abbrev pub no_footprint : Footprint
no_footprint = record { needs = []; changes = no_change }

-- pages, of which each is listed once, where it stands first
unfoldable pub each_once : List Page → List Page
each_once [] = []
each_once (page ∷ rest) = page ∷ filter (λ other. not (other == page)) (each_once rest)

-- the page of the code comes before those of the data
abbrev pub code_and_data : Page → List Page → List Page
code_and_data code pages = each_once (code ∷ pages)
