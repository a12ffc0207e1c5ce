-- Page tables, and the flat memory that they stand for.
use Rattle.std.specs.Prelude.{◌≡◌, ℕ, ◌+◌, ◌*◌, ◌/◌, ◌%◌, Bool, true, false, List, [], ◌∷◌, length, map, slice_index, slice_index_or, slice_set}
use Rattle.std.specs.List.{range_with_len}
use Rattle.flat_memory.specs.Flat.{put_bytes, zeros}
use Rattle.page_frames.specs.declared.page.TheConstants.{PAGE_SIZE}
use Rattle.page_frames.specs.declared.entry.Entry.{Entry}
use Rattle.page_frames.specs.declared.entry.Entry.TheVariants.{Held, Blank, Absent}

-- a memory of so many pages, by the byte at each page and place in it
unfoldable pub paged : ℕ → (ℕ → ℕ → ℕ) → List ℕ
paged pages byte = map (λ at. byte (at / PAGE_SIZE) (at % PAGE_SIZE)) (range_with_len 0 (PAGE_SIZE * pages))

-- whether an entry has a page of the table's own
abbrev pub is_own : Entry → Bool
is_own (Held page) = true
is_own Blank = true
is_own Absent = false

-- whether an entry has a page of zeros that takes no memory
abbrev pub is_blank : Entry → Bool
is_blank (Held page) = false
is_blank Blank = true
is_blank Absent = false

-- the bytes of the table's own page
abbrev pub entry_bytes : Entry → List ℕ
entry_bytes (Held page) = page
entry_bytes Blank = zeros PAGE_SIZE
entry_bytes Absent = []

-- a page of the table's own has these bytes from a place on, and the entry then holds it
pub record IsWritten (old : Entry) (at : ℕ) (bytes : List ℕ) (new : Entry) : Type 0 where
  pub own : is_own old ≡ true
  pub whole : length (entry_bytes old) ≡ PAGE_SIZE
  pub is : new ≡ Held (put_bytes (entry_bytes old) at bytes)

-- the entry of a page
abbrev pub entry_at : List Entry → ℕ → Entry
entry_at entries page = slice_index_or entries page Absent

-- the same of a table and one of its pages
pub record IsWrittenIn (old : List Entry) (page at : ℕ) (bytes : List ℕ) (new : List Entry) : Type 0 where
  pub own : is_own (entry_at old page) ≡ true
  pub whole : length (entry_bytes (entry_at old page)) ≡ PAGE_SIZE
  pub is : new ≡ slice_set old page (Held (put_bytes (entry_bytes (entry_at old page)) at bytes))

-- the byte at a place of a page, which is `below` in the memory below the table
abbrev pub byte_over : Entry → ℕ → ℕ → ℕ
byte_over (Held page) at below = slice_index page at
byte_over Blank at below = 0
byte_over Absent at below = below

-- the memory of a table that lies over another memory: a page of which the table has none of its own is as below it
unfoldable pub laid_over : List Entry → List ℕ → List ℕ
laid_over entries below = paged (length entries) (λ page at. byte_over (entry_at entries page) at (slice_index below (PAGE_SIZE * page + at)))

-- the memory of tables of which each lies over those behind it: each page is as the first table has it that has
-- one of its own
abbrev pub stacked : List (List Entry) → List ℕ
stacked [] = []
stacked (table ∷ tables) = laid_over table (stacked tables)

-- for each page of a table, whether the table has one of its own
abbrev pub own_pages : List Entry → List Bool
own_pages entries = map is_own entries

-- for each page of a table, whether it is blank
abbrev pub blank_pages : List Entry → List Bool
blank_pages entries = map is_blank entries
