-- What loads, stores, arrivals and runs of blank pages do to the RAM of a page table.
use Rattle.std.proofs.Common.{◌≡◌, ℕ, zero, suc, ◌+◌, ◌-◌, ◌*◌, ◌/◌, ◌%◌, ◌<◌, ◌≤◌, ◌⊎◌, inl, inr, Bool, true, false, List, [], ◌∷◌, ◌++◌, length, map, get_or, take, drop, replicate, Option, Some}
use Rattle.std.proofs.Common.{None, refl, sym, ap, ◌∙◌, subst, length-append, arith}
use Rattle.std.specs.Prelude.{MatchBool, slice_get}
use Rattle.std.specs.List.{splice}
use Rattle.std.proofs.Math.ListN.{set}
use Rattle.std.proofs.Math.Seq.{map-set_same}
use Rattle.std.proofs.lemmas.Bool.{cases_lt, both_ways}
use Rattle.std.proofs.lemmas.List.{length-map, map-set, get_or-map, get_or_past, get_or_default, get_or-take, get_or-drop, get_or_append_left, get_or-append_right, get_or-replicate, length-replicate}
use Rattle.std.proofs.lemmas.List.{length-take-le, length-drop, map-append, take-map, drop-map}
use Rattle.std.proofs.lemmas.List.Elements.{All-get_or, All-from_get_or}
use Rattle.std.proofs.lemmas.Option.{slice_get_within, slice_get-get_or, get_or_from_slice_get}
use Rattle.byteorder.specs.Endian.{little_from}
use Rattle.flat_memory.specs.Flat.{put_bytes, zeros}
use Rattle.flat_memory.proofs.Bytes.{get_or-put_bytes, get_or-put_bytes_outside, length-put_bytes}
use Rattle.flat_memory.proofs.Zeros.{length-zeros, get_or-zeros}
use Rattle.elf_load.specs.declared.image.TheConstants.{MIN_PAGES, MAX_PAGES}
use Rattle.page_frames.specs.declared.page.TheConstants.{PAGE_SIZE}
use Rattle.page_frames.specs.declared.entry.Entry.{Entry}
use Rattle.page_frames.specs.declared.entry.Entry.TheVariants.{Held, Blank, Absent}
use Rattle.page_frames.specs.Tables.{IsWrittenIn, entry_at, entry_bytes, byte_over, laid_over, is_own, own_pages, is_blank, blank_pages}
use Rattle.page_frames.proofs.Memory.{length-laid_over, get_or-laid_over, laid_over_is, laid_over-set_same, number_of_own, number_of_other, byte_of_other, write_in_page}
use Rattle.image_depot.specs.Image.{IsWhole}
use Rattle.image_depot.specs.Key.{Key}
use Rattle.guest_mem.specs.Ram.{Ram, IsRam, IsTable, IsBased, HasAbsentPages, AreZero, IsHere, memory_below, ram_of, stored, arrived, zeroed, with_set}

pub same_ram : (reads reads' : List ℕ) (here here' blank blank' : List Bool) (key : Option Key) → reads ≡ reads' → here ≡ here' → blank ≡ blank'
    → record { reads = reads; here = here; blank = blank; key = key } ≡ (let ram : Ram = record { reads = reads'; here = here'; blank = blank'; key = key } in ram)
same_ram reads reads' here here' blank blank' key r h b = cc

-- ---- what holds of every RAM

blank_reads_zero : (entry : Entry) (at below : ℕ) → is_blank entry ≡ true → byte_over entry at below ≡ 0
blank_reads_zero (Held page) at below blank = cc
blank_reads_zero Blank at below blank = refl
blank_reads_zero Absent at below blank = cc

AreZero-blank_pages : (entries : List Entry) (below : List ℕ) → AreZero (blank_pages entries) (laid_over entries below)
AreZero-blank_pages entries below at flagged =
    let there : at / PAGE_SIZE < length entries = simp length-map at (slice_get_within (blank_pages entries) (at / PAGE_SIZE) true flagged) in
    let blank : is_blank (entry_at entries (at / PAGE_SIZE)) ≡ true =
    sym (get_or-map is_blank entries (at / PAGE_SIZE) Absent true there) ∙ get_or_from_slice_get (blank_pages entries) (at / PAGE_SIZE) true true flagged in
    get_or-laid_over entries below at (omega arith) ∙ blank_reads_zero _ _ _ blank

blank_is_own : (entry : Entry) → is_blank entry ≡ true → is_own entry ≡ true
blank_is_own (Held page) blank = refl
blank_is_own Blank blank = refl
blank_is_own Absent blank = cc

blank_is_here : (entries : List Entry) (page : ℕ) → get_or (blank_pages entries) page false ≡ true → get_or (own_pages entries) page false ≡ true
blank_is_here entries page set = elim (cases_lt page (length entries)) [
  | inl there ↦
      get_or-map is_own entries page Absent false there
      ∙ blank_is_own (entry_at entries page) (sym (get_or-map is_blank entries page Absent false there) ∙ set)
  | inr past ↦
      let unset = get_or_past (blank_pages entries) page false (omega (arith, length-map entries is_blank)) in
      absurd (both_ways _ unset set)
]

-- whether a page is here, by its entry
pub here_by_entry : (entries : List Entry) (page : ℕ) (is_here : Bool) → page < length entries → is_own (entry_at entries page) ≡ is_here → slice_get (own_pages entries) page ≡ Some is_here
here_by_entry entries page is_here there own =
    slice_get-get_or (own_pages entries) page false (omega (arith, length-map entries is_own)) ∙ ap Some (get_or-map is_own entries page Absent false there ∙ own)

has_absent : (entries : List Entry) (key : Option Key) → IsBased entries key → HasAbsentPages key (own_pages entries)
has_absent entries (Some key) based = sym based ∙ sym (length-map entries is_own)
has_absent entries None based = λ page other.
    let there : page < length entries = simp length-map at (slice_get_within (own_pages entries) page false other) in
    let own : get_or (own_pages entries) page true ≡ true = get_or-map is_own entries page Absent true there ∙ All-get_or (λ entry. is_own entry ≡ true) entries page Absent there based in
    both_ways _ (get_or_from_slice_get (own_pages entries) page false true other) own

pub IsRam-ram_of : (entries : List Entry) (key : Option Key) → IsTable entries key → IsRam (ram_of entries key)
IsRam-ram_of entries key table =
    let flags : length (own_pages entries) ≡ length entries = length-map entries is_own in
    record {
      whole_pages = length-laid_over entries (memory_below key) ∙ ap (λ n. PAGE_SIZE * n) (sym flags);
      flagged = length-map entries is_blank ∙ sym flags;
      least = subst (λ n. MIN_PAGES ≤ n) (sym flags) table.least;
      most = subst (λ n. n ≤ MAX_PAGES) (sym flags) table.most;
      blank_is_here = blank_is_here entries;
      zero = AreZero-blank_pages entries (memory_below key);
      absent = has_absent entries key table.based;
    }

-- ---- loads and stores

-- an access that is aligned lies in one page
pub access_fits : (at width : ℕ) → (width ≡ 1) ⊎ ((width ≡ 2) ⊎ (width ≡ 4)) → at % width ≡ 0 → at % PAGE_SIZE + width ≤ PAGE_SIZE
access_fits at width (inl one) aligned = omega arith
access_fits at width (inr (inl two)) aligned = let even : at % 2 ≡ 0 = subst (λ w. at % w ≡ 0) two aligned in omega arith
access_fits at width (inr (inr four)) aligned = let whole : at % 4 ≡ 0 = subst (λ w. at % w ≡ 0) four aligned in omega arith

pub page_there : (entries : List Entry) (below : List ℕ) (at : ℕ) → at < length (laid_over entries below) → at / PAGE_SIZE < length entries
page_there entries below at inside = omega (arith, length-laid_over entries below)

-- an access by the entry of its page
module _ (entries : List Entry) (below : List ℕ) (at width : ℕ) (inside : at < length (laid_over entries below)) (within : at % PAGE_SIZE + width ≤ PAGE_SIZE)
    (entry : Entry) (read : entry ≡ get_or entries (at / PAGE_SIZE) entry) where
  pub is_entry : entry ≡ entry_at entries (at / PAGE_SIZE)
  is_entry = read ∙ get_or_default entries (at / PAGE_SIZE) entry Absent (page_there entries below at inside)

  pub is_here : (own : Bool) → is_own entry ≡ own → slice_get (own_pages entries) (at / PAGE_SIZE) ≡ Some own
  is_here own is = here_by_entry entries (at / PAGE_SIZE) own (page_there entries below at inside) (ap is_own (sym is_entry) ∙ is)

  pub load_own : is_own entry ≡ true → little_from (at % PAGE_SIZE) width (entry_bytes entry) ≡ little_from at width (laid_over entries below)
  load_own own =
      ap (λ e. little_from (at % PAGE_SIZE) width (entry_bytes e)) is_entry
      ∙ sym (number_of_own entries below (at / PAGE_SIZE) (at % PAGE_SIZE) width (page_there entries below at inside) within (ap is_own (sym is_entry) ∙ own))
      ∙ ap (λ i. little_from i width (laid_over entries below)) (omega arith)

  pub load_other : is_own entry ≡ false → little_from (PAGE_SIZE * (at / PAGE_SIZE) + at % PAGE_SIZE) width below ≡ little_from at width (laid_over entries below)
  load_other other =
      sym (number_of_other entries below (at / PAGE_SIZE) (at % PAGE_SIZE) width (page_there entries below at inside) within (ap is_own (sym is_entry) ∙ other))
      ∙ ap (λ i. little_from i width (laid_over entries below)) (omega arith)

-- a store to a page that is here
pub ram_of_store : (entries : List Entry) (key : Option Key) (at : ℕ) (bytes : List ℕ) → at < length (laid_over entries (memory_below key))
    → at % PAGE_SIZE + length bytes ≤ PAGE_SIZE → is_own (entry_at entries (at / PAGE_SIZE)) ≡ true → length (entry_bytes (entry_at entries (at / PAGE_SIZE))) ≡ PAGE_SIZE
    → ram_of (set entries (at / PAGE_SIZE) (Held (put_bytes (entry_bytes (entry_at entries (at / PAGE_SIZE))) (at % PAGE_SIZE) bytes))) key ≡ stored (ram_of entries key) at bytes
ram_of_store entries key at bytes inside within own whole =
    let below = memory_below key in
    let there = page_there entries below at inside in
    let written : Entry = Held (put_bytes (entry_bytes (entry_at entries (at / PAGE_SIZE))) (at % PAGE_SIZE) bytes) in
    same_ram _ _ _ _ _ _ key
    (write_in_page entries below (at / PAGE_SIZE) there own (at % PAGE_SIZE) bytes whole within
    ∙ ap (λ i. put_bytes (laid_over entries below) i bytes) (omega arith))
    (map-set_same is_own entries (at / PAGE_SIZE) written Absent (sym own))
    (map-set is_blank entries (at / PAGE_SIZE) written)

-- a write that leaves a page as it is where it is not held alone
pub written_or_same : (entries new : List Entry) (key : Option Key) (at : ℕ) (bytes : List ℕ) (is_written : Bool) → at < length (laid_over entries (memory_below key))
    → at % PAGE_SIZE + length bytes ≤ PAGE_SIZE → MatchBool is_written (IsWrittenIn entries (at / PAGE_SIZE) (at % PAGE_SIZE) bytes new) (new ≡ entries)
    → MatchBool is_written ((ram_of new key ≡ stored (ram_of entries key) at bytes) × IsHere (ram_of entries key) (at / PAGE_SIZE)) (ram_of new key ≡ ram_of entries key)
written_or_same entries new key at bytes true inside within is = (
  ap (λ table. ram_of table key) is.is ∙ ram_of_store entries key at bytes inside within is.own is.whole,
  here_by_entry entries (at / PAGE_SIZE) true (page_there entries (memory_below key) at inside) is.own,
)
written_or_same entries new key at bytes false inside within same = ap (λ table. ram_of table key) same

-- ---- arrivals

other_is_not_blank : (entry : Entry) → is_own entry ≡ false → false ≡ is_blank entry
other_is_not_blank (Held page) other = refl
other_is_not_blank Blank other = cc
other_is_not_blank Absent other = refl

-- a page of the memory below comes
pub ram_of_arrival : (entries : List Entry) (key : Option Key) (page : ℕ) (content : List ℕ) → page < length entries → is_own (entry_at entries page) ≡ false
    → content ≡ take PAGE_SIZE (drop (PAGE_SIZE * page) (memory_below key)) → ram_of (set entries page (Held content)) key ≡ arrived (ram_of entries key) page
ram_of_arrival entries key page content there other is =
    let below = memory_below key in
    same_ram _ _ _ _ _ _ key
    (laid_over-set_same entries below page there (Held content)
    (λ at inside.
    ap (λ bytes. get_or bytes at 0) is ∙ get_or-take PAGE_SIZE (drop (PAGE_SIZE * page) below) at 0 inside ∙ get_or-drop (PAGE_SIZE * page) below at 0
    ∙ sym (byte_of_other entries below page at there inside other)))
    (map-set is_own entries page (Held content))
    (map-set_same is_blank entries page (Held content) Absent (other_is_not_blank (entry_at entries page) other))

-- ---- a run of blank pages

map-replicate : (f : Entry → Bool) (n : ℕ) (entry : Entry) → map f (replicate n entry) ≡ replicate n (f entry)
map-replicate f zero entry = refl
map-replicate f (suc n) entry = ap (λ flags. f entry ∷ flags) (map-replicate f n entry)

-- the table with `count` blank entries from `first` on
with_blank : List Entry → ℕ → ℕ → List Entry
with_blank entries first count = splice entries first (first + count) (replicate count Blank)

module _ (entries : List Entry) (below : List ℕ) (first count : ℕ) (room : first + count ≤ length entries) where
  length-front : length (take first entries) ≡ first
  length-front = length-take-le first entries (omega arith)

  length-with_blank : length (with_blank entries first count) ≡ length entries
  unfolding with_blank
  length-with_blank = simp (length-append, length-replicate, length-drop) (omega (arith, length-front))

  before_run : (page : ℕ) → page < first → entry_at (with_blank entries first count) page ≡ entry_at entries page
  unfolding with_blank
  before_run page before =
      get_or_append_left (take first entries) (replicate count Blank ++ drop (first + count) entries) Absent page (omega (arith, length-front))
      ∙ get_or-take first entries page Absent before

  -- from the run on
  behind_front : (page : ℕ) → first ≤ page → entry_at (with_blank entries first count) page ≡ entry_at (replicate count Blank ++ drop (first + count) entries) (page - first)
  unfolding with_blank
  behind_front page from = get_or-append_right (take first entries) (replicate count Blank ++ drop (first + count) entries) first page Absent length-front from

  in_run : (page : ℕ) → first ≤ page → page < first + count → entry_at (with_blank entries first count) page ≡ Blank
  in_run page from before_end =
      behind_front page from
      ∙ get_or_append_left (replicate count Blank) (drop (first + count) entries) Absent (page - first) (omega (arith, length-replicate {A = Entry} count Blank))
      ∙ get_or-replicate count (page - first) Blank Absent (omega arith)

  behind_run : (page : ℕ) → first + count ≤ page → entry_at (with_blank entries first count) page ≡ entry_at entries page
  behind_run page behind =
      behind_front page (omega arith)
      ∙ get_or-append_right (replicate count Blank) (drop (first + count) entries) count (page - first) Absent (length-replicate count Blank) (omega arith)
      ∙ get_or-drop (first + count) entries (page - first - count) Absent
      ∙ ap (λ i. entry_at entries i) (omega arith)

  flags_of_run : (f : Entry → Bool) → f Blank ≡ true → map f (with_blank entries first count) ≡ with_set (map f entries) first count
  unfolding with_blank
  flags_of_run f set =
      map-append f (take first entries) (replicate count Blank ++ drop (first + count) entries)
      ∙ ap (λ flags. map f (take first entries) ++ flags) (map-append f (replicate count Blank) (drop (first + count) entries))
      ∙ ap (λ flags. flags ++ (map f (replicate count Blank) ++ map f (drop (first + count) entries))) (sym (take-map f first entries))
      ∙ ap (λ flags. take first (map f entries) ++ (flags ++ map f (drop (first + count) entries))) (map-replicate f count Blank ∙ ap (λ flag. replicate count flag) set)
      ∙ ap (λ flags. take first (map f entries) ++ (replicate count true ++ flags)) (sym (drop-map f (first + count) entries))

  outside_run : (i : ℕ) → i < PAGE_SIZE * length entries → (i < PAGE_SIZE * first) ⊎ (PAGE_SIZE * first + PAGE_SIZE * count ≤ i)
      → byte_over (entry_at (with_blank entries first count) (i / PAGE_SIZE)) (i % PAGE_SIZE) (get_or below i 0)
      ≡ get_or (put_bytes (laid_over entries below) (PAGE_SIZE * first) (zeros (PAGE_SIZE * count))) i 0
  outside_run i within outside =
      let size = length-laid_over entries below in
      let run = length-zeros (PAGE_SIZE * count) in
      let same : entry_at (with_blank entries first count) (i / PAGE_SIZE) ≡ entry_at entries (i / PAGE_SIZE) =
      elim outside [ inl before ↦ before_run (i / PAGE_SIZE) (omega arith) | inr behind ↦ behind_run (i / PAGE_SIZE) (omega arith) ] in
      ap (λ e. byte_over e (i % PAGE_SIZE) (get_or below i 0)) same
      ∙ sym (get_or-laid_over entries below i within)
      ∙ sym (get_or-put_bytes_outside (laid_over entries below) (zeros (PAGE_SIZE * count)) (PAGE_SIZE * first) i (omega arith)
      (subst (λ n. (i < PAGE_SIZE * first) ⊎ (PAGE_SIZE * first + n ≤ i)) (sym run) outside))

  inside_run : (i : ℕ) → PAGE_SIZE * first ≤ i → i < PAGE_SIZE * first + PAGE_SIZE * count
      → byte_over (entry_at (with_blank entries first count) (i / PAGE_SIZE)) (i % PAGE_SIZE) (get_or below i 0)
      ≡ get_or (put_bytes (laid_over entries below) (PAGE_SIZE * first) (zeros (PAGE_SIZE * count))) i 0
  inside_run i from before_end =
      let size = length-laid_over entries below in
      let run = length-zeros (PAGE_SIZE * count) in
      ap (λ e. byte_over e (i % PAGE_SIZE) (get_or below i 0)) (in_run (i / PAGE_SIZE) (omega arith) (omega arith))
      ∙ sym (get_or-zeros (PAGE_SIZE * count) (i - PAGE_SIZE * first))
      ∙ sym (get_or-put_bytes (laid_over entries below) (zeros (PAGE_SIZE * count)) (PAGE_SIZE * first) (i - PAGE_SIZE * first) (omega arith) (omega arith))
      ∙ ap (λ j. get_or (put_bytes (laid_over entries below) (PAGE_SIZE * first) (zeros (PAGE_SIZE * count))) j 0) (omega arith)

  bytes_of_run : laid_over (with_blank entries first count) below ≡ put_bytes (laid_over entries below) (PAGE_SIZE * first) (zeros (PAGE_SIZE * count))
  bytes_of_run =
      let fits : PAGE_SIZE * first + length (zeros (PAGE_SIZE * count)) ≤ length (laid_over entries below) =
      omega (arith, length-laid_over entries below, length-zeros (PAGE_SIZE * count)) in
      laid_over_is (with_blank entries first count) below (put_bytes (laid_over entries below) (PAGE_SIZE * first) (zeros (PAGE_SIZE * count)))
      (length-put_bytes (laid_over entries below) (zeros (PAGE_SIZE * count)) (PAGE_SIZE * first) fits ∙ length-laid_over entries below ∙ ap (λ n. PAGE_SIZE * n) (sym length-with_blank))
      (λ i inside.
      let within : i < PAGE_SIZE * length entries = subst (λ n. i < PAGE_SIZE * n) length-with_blank inside in
      elim (cases_lt i (PAGE_SIZE * first)) [
        | inl before ↦ outside_run i within (inl before)
        | inr from ↦ elim (cases_lt i (PAGE_SIZE * first + PAGE_SIZE * count)) [
          | inl before_end ↦ inside_run i from before_end
          | inr behind ↦ outside_run i within (inr behind)
        ]
      ])

  -- a table of which no page is left out stays one
  whole_run : IsWhole entries → IsWhole (with_blank entries first count)
  whole_run whole =
      All-from_get_or (λ entry. is_own entry ≡ true) (with_blank entries first count) Absent
      (λ page inside.
      let there : page < length entries = subst (λ n. page < n) length-with_blank inside in
      let kept : is_own (entry_at entries page) ≡ true = All-get_or (λ entry. is_own entry ≡ true) entries page Absent there whole in
      elim (cases_lt page first) [
        | inl before ↦ ap is_own (before_run page before) ∙ kept
        | inr from ↦ elim (cases_lt page (first + count)) [
          | inl within ↦ ap is_own (in_run page from within)
          | inr behind ↦ ap is_own (behind_run page behind) ∙ kept
        ]
      ])

based_run : (entries : List Entry) (key : Option Key) (first count : ℕ) → first + count ≤ length entries → IsBased entries key → IsBased (with_blank entries first count) key
based_run entries (Some key) first count room based = length-with_blank entries [] first count room ∙ based
based_run entries None first count room based = whole_run entries [] first count room based

module _ (entries : List Entry) (key : Option Key) (first count : ℕ) (room : first + count ≤ length entries) where
  pub IsTable-run : IsTable entries key → IsTable (splice entries first (first + count) (replicate count Blank)) key
  unfolding with_blank
  IsTable-run table = record {
    least = omega (arith, table.least, length-with_blank entries [] first count room);
    most = omega (arith, table.most, length-with_blank entries [] first count room);
    based = based_run entries key first count room table.based;
  }

  pub ram_of_run : ram_of (splice entries first (first + count) (replicate count Blank)) key ≡ zeroed (ram_of entries key) first count
  unfolding with_blank
  ram_of_run =
      same_ram _ _ _ _ _ _ key (bytes_of_run entries (memory_below key) first count room)
      (flags_of_run entries (memory_below key) first count room is_own refl)
      (flags_of_run entries (memory_below key) first count room is_blank refl)
