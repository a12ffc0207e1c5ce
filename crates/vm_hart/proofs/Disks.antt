-- The flags of a machine's pages, those of RAM first and then those of the disk.
use Rattle.std.proofs.Common.{◌≡◌, ℕ, zero, suc, ◌+◌, ◌-◌, ◌*◌, ◌/◌, ◌<◌, ◌≤◌, not, inl, inr, Bool, true, false}
use Rattle.std.proofs.Common.{List, [], ◌∷◌, ◌++◌, length, map, take, drop, replicate, get_or, set, slice_get}
use Rattle.std.proofs.Common.{Option, Some, None, Result, Ok, Err, refl, sym, ap, ◌∙◌, subst, append_assoc, arith}
use Rattle.std.specs.Prelude.{MatchBool, MatchResult}
use Rattle.byteorder.specs.Endian.{little_from}
use Rattle.guest_mem.specs.declared.answers.Absent.{Absent as NotHere}
use Rattle.std.proofs.lemmas.Bool.{cases_lt}
use Rattle.std.proofs.lemmas.List.{drop-append-le, ext_get_or, get_or-drop, get_or-map, get_or-replicate, length-append, length-map}
use Rattle.std.proofs.lemmas.List.{length-replicate, map-set, set-append_left, set-append_right, take-append-le}
use Rattle.std.proofs.lemmas.Option.{get_or_from_slice_get, slice_get-get_or, slice_get_within}
use Rattle.page_frames.specs.declared.page.TheConstants.{PAGE_SIZE}
use Rattle.elf_load.specs.Image.{Image}
use Rattle.page_frames.specs.declared.entry.Entry.TheVariants.{Absent}
use Rattle.page_frames.specs.Tables.{is_own}
use Rattle.cow_disk.specs.Disk.{sector_count}
use Rattle.cow_disk.specs.Paged.{PagedDisk, absent_disk, disk_over, disk_page, disk_pages, here_pages, is_page_here, page_total, with_page, IsPageBelow, IsWholeDisk}
use Rattle.cow_disk.proofs.Pages.{get_or-padded, length-over}
use Rattle.image_depot.specs.Key.{Key}
use Rattle.image_depot.specs.Receiver.{HasAbsent}
use Rattle.guest_mem.specs.declared.answers.StoreError.{StoreError}
use Rattle.guest_mem.specs.declared.answers.StoreError.TheVariants as store
use Rattle.guest_mem.specs.Answers.{IsRefused}
use Rattle.guest_mem.specs.Ram.{HasAbsentPages, IsDiskBased, Ram, at_boot, with_set}
use Rattle.vm_hart.specs.Acts.{IsUnput}
use Rattle.forest_model.specs.Footprint.{zeroes}
use Rattle.forest_model.specs.Paged.{Pages, flags_of_disk, pages_after, pages_arrived, pages_at_boot}
use Rattle.vm_hart.specs.Keyed.{IsAbsent, IsHere, pages_of}

-- ---- flags of RAM, with those of the disk behind them

module _ (ram disk : List Bool) where
  pub length-flags : length (ram ++ disk) ≡ length ram + length disk
  length-flags = length-append ram disk

  pub set-ram : (page : ℕ) → page < length ram → set (ram ++ disk) page true ≡ set ram page true ++ disk
  set-ram page there = set-append_left ram disk page true there

  pub set-disk : (page : ℕ) → set (ram ++ disk) (length ram + page) true ≡ ram ++ set disk page true
  set-disk page =
      let place : length ram + page - length ram ≡ page = omega arith in
      set-append_right ram disk (length ram) (length ram + page) true refl (omega arith) ∙ ap (λ i. ram ++ set disk i true) place

  pub with_set-ram : (first count : ℕ) → first + count ≤ length ram → with_set (ram ++ disk) first count ≡ with_set ram first count ++ disk
  with_set-ram first count inside =
      ap (λ front. front ++ (replicate count true ++ drop (first + count) (ram ++ disk))) (take-append-le first ram disk (omega (arith, inside)))
      ∙ ap (λ rest. take first ram ++ (replicate count true ++ rest)) (drop-append-le (first + count) ram disk inside)
      ∙ ap (λ rest. take first ram ++ rest) (sym (append_assoc (replicate count true) (drop (first + count) ram) disk))
      ∙ sym (append_assoc (take first ram) (replicate count true ++ drop (first + count) ram) disk)

pub get-ram : (ram disk : List Bool) (page : ℕ) → page < length ram → slice_get (ram ++ disk) page ≡ slice_get ram page
get-ram [] disk page there = absurd (omega (arith, there))
get-ram (b ∷ ram) disk zero there = refl
get-ram (b ∷ ram) disk (suc page) there = get-ram ram disk page (omega (arith, there))

pub get-disk : (ram disk : List Bool) (page : ℕ) → slice_get (ram ++ disk) (length ram + page) ≡ slice_get disk page
get-disk [] disk page = ap (slice_get disk) (let same : 0 + page ≡ page = omega arith in same)
get-disk (b ∷ ram) disk page =
    ap (slice_get (b ∷ (ram ++ disk))) (let same : length (b ∷ ram) + page ≡ suc (length ram + page) = omega arith in same) ∙ get-disk ram disk page

-- a flag of RAM, whether it is set or not
pub flag-ram : (ram disk : List Bool) (page : ℕ) (is_here : Bool) → slice_get ram page ≡ Some is_here → slice_get (ram ++ disk) page ≡ Some is_here
flag-ram ram disk page is_here is = get-ram ram disk page (slice_get_within ram page is_here is) ∙ is

-- a flag of the disk
pub flag-disk : (ram disk : List Bool) (page : ℕ) (is_here : Bool) → page < length disk → get_or disk page false ≡ is_here
    → slice_get (ram ++ disk) (length ram + page) ≡ Some is_here
flag-disk ram disk page is_here there is = get-disk ram disk page ∙ slice_get-get_or disk page false there ∙ ap (λ flag. Some flag) is

-- a load of RAM tells the flag of its page
pub load-flag : (reads : List ℕ) (ram disk : List Bool) (at width : ℕ) (r : Result ℕ NotHere)
    → MatchResult r (λ number. (number ≡ little_from at width reads) × (slice_get ram (at / PAGE_SIZE) ≡ Some true))
    (λ absent. (absent.page ≡ at / PAGE_SIZE) × (slice_get ram (at / PAGE_SIZE) ≡ Some false))
    → MatchResult r (λ number. (number ≡ little_from at width reads) × (slice_get (ram ++ disk) (at / PAGE_SIZE) ≡ Some true)) (λ absent. slice_get (ram ++ disk) (at / PAGE_SIZE) ≡ Some false)
load-flag reads ram disk at width (Ok number) h = (h.0, flag-ram ram disk (at / PAGE_SIZE) true h.1)
load-flag reads ram disk at width (Err absent) h = flag-ram ram disk (at / PAGE_SIZE) false h.1

-- a store to RAM is refused by the flag of its page
pub unput : (ram : Ram) (disk : List Bool) (page : ℕ) (error : StoreError) → IsRefused ram page error → IsUnput (record { here = ram.here ++ disk; blank = ram.blank }) page error
unput ram disk page (store.Absent absent) h = flag-ram ram.here disk page false h.1
unput ram disk page store.Memory h = flag-ram ram.here disk page true h

-- what follows from both answers
pub MatchBool-weaker : {P P' Q Q' : Type 0} (b : Bool) → (P → P') → (Q → Q') → MatchBool b P Q → MatchBool b P' Q'
MatchBool-weaker true then_so else_so told = then_so told
MatchBool-weaker false then_so else_so told = else_so told

-- no flag is both
pub not-both : (here : List Bool) (page : ℕ) → slice_get here page ≡ Some true → slice_get here page ≡ Some false → ⊥
not-both here page set_here unset = let both : Some true ≡ Some false = sym set_here ∙ unset in cc

-- ---- the flags of a disk

pub length-here : (disk : PagedDisk) → length (here_pages disk) ≡ length disk.pages
length-here disk = length-map disk.pages is_own

-- all are set
pub whole-flags : (disk : PagedDisk) (below : List ℕ) → length disk.pages ≡ page_total disk.sectors → IsWholeDisk disk
    → here_pages disk ≡ flags_of_disk true (disk_over disk below)
whole-flags disk below count whole =
    let total : disk_pages (disk_over disk below) ≡ length disk.pages = omega (arith, length-over disk count below, count) in
    let size : length (replicate (disk_pages (disk_over disk below)) true) ≡ length disk.pages = length-replicate (disk_pages (disk_over disk below)) true ∙ total in
    ext_get_or false (here_pages disk) (replicate (disk_pages (disk_over disk below)) true) (length-here disk ∙ sym size)
    (λ page within.
    let there : page < length disk.pages = subst (λ n. page < n) (length-here disk) within in
    whole page (omega (arith, there, count)) ∙ sym (get_or-replicate (disk_pages (disk_over disk below)) page true false (omega (arith, there, total))))

-- so every page of a machine that was booted is here
pub booted-pages : (image : Image) (disk : PagedDisk) → length disk.pages ≡ page_total disk.sectors → IsWholeDisk disk
    → pages_of (at_boot image) disk ≡ pages_at_boot image (disk_over disk [])
booted-pages image disk count whole =
    ap (λ (flags : List Bool). let pages : Pages = record { here = map (λ falls. true) image.segments ++ flags; blank = map not image.segments } in pages)
    (whole-flags disk [] count whole)

-- none is set
pub absent-flags : (below : List ℕ) → here_pages (absent_disk (sector_count below)) ≡ flags_of_disk false below
absent-flags below =
    let count = disk_pages below in
    let size : length (here_pages (absent_disk (sector_count below))) ≡ count = length-here (absent_disk (sector_count below)) ∙ length-replicate count Absent in
    ext_get_or false (here_pages (absent_disk (sector_count below))) (replicate count false) (size ∙ sym (length-replicate count false))
    (λ page within.
    let there : page < count = subst (λ n. page < n) size within in
    get_or-map is_own (replicate count Absent) page Absent false (omega (arith, there, length-replicate count Absent))
    ∙ ap is_own (get_or-replicate count page Absent Absent there) ∙ sym (get_or-replicate count page false false there))

-- a page that comes is here
pub arrived-flags : (disk : PagedDisk) (page : ℕ) (bytes : List ℕ) → here_pages (with_page disk page bytes) ≡ set (here_pages disk) page true
arrived-flags disk page bytes = map-set is_own disk.pages page _

-- its bytes are those of the disk below
pub page-below : (disk : PagedDisk) (below : List ℕ) (page : ℕ) → IsPageBelow disk page (disk_page below page) below
page-below disk below page at inside there =
    get_or-padded (drop (PAGE_SIZE * page) below) at inside ∙ get_or-drop (PAGE_SIZE * page) below at 0

-- ---- the flags of a machine after a change of them

module _ (ram blank : List Bool) (disk : PagedDisk) where
  flags_with : List Bool → PagedDisk → Pages
  flags_with here d = record { here = here ++ here_pages d; blank = blank }

  -- a page of the disk comes
  module _ (place q : ℕ) (is_place : place ≡ length ram + q) (there : q < length disk.pages) where
    inside : q < length (here_pages disk)
    inside = omega (arith, there, length-here disk)

    flag-at : (is_here : Bool) → is_page_here disk q ≡ is_here → slice_get (ram ++ here_pages disk) place ≡ Some is_here
    flag-at is_here is = ap (slice_get (ram ++ here_pages disk)) is_place ∙ flag-disk ram (here_pages disk) q is_here inside is

    pub disk-absent : is_page_here disk q ≡ false → IsAbsent (record { here = ram ++ here_pages disk; blank = blank }) place
    disk-absent is = flag-at false is

    pub disk-here : is_page_here disk q ≡ true → IsHere (record { here = ram ++ here_pages disk; blank = blank }) place
    disk-here is = flag-at true is

    pub disk-arrived : (new : PagedDisk) (bytes : List ℕ) → new ≡ with_page disk q bytes
        → record { here = ram ++ here_pages new; blank = blank } ≡ pages_arrived place (record { here = ram ++ here_pages disk; blank = blank })
    unfolding flags_with
    disk-arrived new bytes is =
        ap (flags_with ram) is
        ∙ ap (λ (flags : List Bool). let pages : Pages = record { here = ram ++ flags; blank = blank } in pages) (arrived-flags disk q bytes)
        ∙ ap (λ (here : List Bool). let pages : Pages = record { here = here; blank = blank } in pages)
        (sym (set-disk ram (here_pages disk) q) ∙ ap (λ p. set (ram ++ here_pages disk) p true) (sym is_place))

  -- a page of RAM comes
  pub ram-arrived : (page : ℕ) → page < length ram
      → record { here = set ram page true ++ here_pages disk; blank = blank } ≡ pages_arrived page (record { here = ram ++ here_pages disk; blank = blank })
  ram-arrived page there = ap (λ (here : List Bool). let pages : Pages = record { here = here; blank = blank } in pages) (sym (set-ram ram (here_pages disk) page there))

  -- pages of RAM are zeroed
  pub ram-zeroed : (first count : ℕ) → first + count ≤ length ram
      → record { here = with_set ram first count ++ here_pages disk; blank = with_set blank first count }
      ≡ pages_after (zeroes first count) (record { here = ram ++ here_pages disk; blank = blank })
  ram-zeroed first count within =
      ap (λ (here : List Bool). let pages : Pages = record { here = here; blank = with_set blank first count } in pages) (sym (with_set-ram ram (here_pages disk) first count within))

-- ---- the image of the key has the absent pages

module _ (ram : List Bool) (disk : PagedDisk) (count : length disk.pages ≡ page_total disk.sectors) where
  whole-absent : IsWholeDisk disk → (page : ℕ) → slice_get (here_pages disk) page ≡ Some false → ⊥
  whole-absent whole page unset =
      let there : page < length disk.pages = subst (λ n. page < n) (length-here disk) (slice_get_within (here_pages disk) page false unset) in
      let both : true ≡ false = sym (whole page (omega (arith, there, count))) ∙ get_or_from_slice_get (here_pages disk) page false false unset in
      cc

  none-absent : ((page : ℕ) → slice_get ram page ≡ Some false → ⊥) → IsWholeDisk disk → (page : ℕ) → slice_get (ram ++ here_pages disk) page ≡ Some false → ⊥
  none-absent has whole page unset = elim (cases_lt page (length ram)) [
    | inl there ↦ has page (sym (get-ram ram (here_pages disk) page there) ∙ unset)
    | inr behind ↦
        let q = page - length ram in
        let place : page ≡ length ram + q = omega arith in
        whole-absent whole q (sym (get-disk ram (here_pages disk) q) ∙ ap (slice_get (ram ++ here_pages disk)) (sym place) ∙ unset)
  ]

  pub has_absent : (key : Option Key) → HasAbsentPages key ram → IsDiskBased disk key → HasAbsent key (ram ++ here_pages disk)
  has_absent (Some key) has based =
      omega (arith, has, ap page_total based, count, length-here disk, length-append ram (here_pages disk))
  has_absent None has based = none-absent has based
