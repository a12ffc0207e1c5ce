-- What a disk in pages reads over another one, byte by byte.
use Rattle.std.proofs.Common.{◌≡◌, ◌≢◌, ℕ, zero, suc, ◌+◌, ◌-◌, ◌*◌, ◌/◌, ◌%◌, ◌<◌, ◌≤◌, ◌⊎◌, inl, inr, min, Bool, true, false, Option, None, List}
use Rattle.std.proofs.Common.{◌++◌, length, take, drop, replicate, get_or, refl, sym, ap, ◌∙◌, subst, length-append, arith}
use Rattle.std.proofs.Math.ListN.{set, length-set}
use Rattle.std.specs.Option.{option_map_or}
use Rattle.std.proofs.lemmas.Bool.{cases_lt}
use Rattle.std.proofs.lemmas.List.{ext_get_or, get_or-append_right, get_or_append_left, get_or-drop, get_or-map, get_or_past, get_or-replicate, get_or-set_same, get_or-set_other, get_or-take}
use Rattle.std.proofs.lemmas.List.{length-map, length-replicate, length-take, length-take-le}
use Rattle.std.proofs.lemmas.List.FromFn.{length-map-range_with_len, get_or-map-range_with_len}
use Rattle.flat_memory.specs.Flat.{put_bytes, zeros}
use Rattle.flat_memory.proofs.Zeros.{length-zeros, get_or-zeros}
use Rattle.flat_memory.proofs.Bytes.{get_or-put_bytes, get_or-put_bytes_outside, length-put_bytes}
use Rattle.page_frames.specs.declared.page.TheConstants.{PAGE_SIZE}
use Rattle.page_frames.specs.declared.entry.Entry.{Entry}
use Rattle.page_frames.specs.declared.entry.Entry.TheVariants.{Held, Blank, Absent}
use Rattle.page_frames.specs.Tables.{byte_over, entry_at, entry_bytes, is_own, own_pages, laid_over}
use Rattle.page_frames.proofs.Memory.{length-laid_over, get_or-laid_over, byte_of_own, byte_of_other}
use Rattle.cow_disk.specs.declared.disk.TheConstants.{SECTOR_SIZE, PAGE_SECTORS}
use Rattle.cow_disk.specs.Disk.{sector_count, sector_at, with_sector}
use Rattle.cow_disk.specs.Paged.{PagedDisk, absent_disk, disk_over, is_page_here, padded, page_entry, page_total, paged_disk, pages_of, with_page, IsPageBelow, IsWholeDisk}
use Rattle.cow_disk.specs.Sectors.{IsPaged, IsTableOf}
use Rattle.cow_disk.proofs.Sectors.{get_or-sector_at, length-sector_at, length-with_sector}

pub same_disk : {count count' : ℕ} {pages pages' : List Entry} → count ≡ count' → pages ≡ pages'
    → record { sectors = count; pages = pages } ≡ (let disk : PagedDisk = record { sectors = count'; pages = pages' } in disk)
same_disk c p = cc

-- ---- a page with zeros behind its bytes

pub length-padded : (bytes : List ℕ) → length (padded bytes) ≡ PAGE_SIZE
length-padded bytes = length-take-le PAGE_SIZE (bytes ++ zeros PAGE_SIZE) (omega (arith, length-append bytes (zeros PAGE_SIZE), length-zeros PAGE_SIZE))

get_or-zeros_behind : (bytes : List ℕ) (at : ℕ) → get_or (bytes ++ zeros PAGE_SIZE) at 0 ≡ get_or bytes at 0
get_or-zeros_behind bytes at = elim (cases_lt at (length bytes)) [
  | inl within ↦ get_or_append_left bytes (zeros PAGE_SIZE) 0 at within
  | inr past ↦
      get_or-append_right bytes (zeros PAGE_SIZE) (length bytes) at 0 refl past
      ∙ get_or-zeros PAGE_SIZE (at - length bytes)
      ∙ sym (get_or_past bytes at 0 past)
]

pub get_or-padded : (bytes : List ℕ) (at : ℕ) → at < PAGE_SIZE → get_or (padded bytes) at 0 ≡ get_or bytes at 0
get_or-padded bytes at inside = get_or-take PAGE_SIZE (bytes ++ zeros PAGE_SIZE) at 0 inside ∙ get_or-zeros_behind bytes at

pub padded_same : (xs ys : List ℕ) → ((at : ℕ) → at < PAGE_SIZE → get_or xs at 0 ≡ get_or ys at 0) → padded xs ≡ padded ys
padded_same xs ys same =
    ext_get_or 0 (padded xs) (padded ys) (length-padded xs ∙ sym (length-padded ys))
    (λ at within.
    let inside : at < PAGE_SIZE = subst (λ n. at < n) (length-padded xs) within in
    get_or-padded xs at inside ∙ same at inside ∙ sym (get_or-padded ys at inside))

-- ---- the page table of a disk by its bytes

pub length-pages_of : (bytes : List ℕ) (here : List Bool) → length (pages_of bytes here) ≡ length here
length-pages_of bytes here = length-map-range_with_len (λ page. page_entry bytes page (get_or here page false)) 0 (length here)

pub entry_at-pages_of : (bytes : List ℕ) (here : List Bool) (page : ℕ) → page < length here → entry_at (pages_of bytes here) page ≡ page_entry bytes page (get_or here page false)
entry_at-pages_of bytes here page there = get_or-map-range_with_len (λ page. page_entry bytes page (get_or here page false)) 0 (length here) page page Absent there (omega arith)

own-page_entry : (bytes : List ℕ) (page : ℕ) (is_here : Bool) → is_own (page_entry bytes page is_here) ≡ is_here
own-page_entry bytes page true = refl
own-page_entry bytes page false = refl

pub own_pages-pages_of : (bytes : List ℕ) (here : List Bool) → own_pages (pages_of bytes here) ≡ here
own_pages-pages_of bytes here =
    let count = length-pages_of bytes here in
    let size : length (own_pages (pages_of bytes here)) ≡ length here = length-map (pages_of bytes here) is_own ∙ count in
    ext_get_or false (own_pages (pages_of bytes here)) here size
    (λ page within.
    let there : page < length here = subst (λ n. page < n) size within in
    get_or-map is_own (pages_of bytes here) page Absent false (subst (λ n. page < n) (sym count) there)
    ∙ ap is_own (entry_at-pages_of bytes here page there) ∙ own-page_entry bytes page (get_or here page false))

pub page_here : (bytes : List ℕ) (here : List Bool) (page : ℕ) → is_page_here (paged_disk bytes here) page ≡ get_or here page false
page_here bytes here page = ap (λ flags. get_or flags page false) (own_pages-pages_of bytes here)

pub absent_entry : (bytes : List ℕ) (here : List Bool) (page : ℕ) → page < length here → get_or here page false ≡ false → entry_at (pages_of bytes here) page ≡ Absent
absent_entry bytes here page there unset = entry_at-pages_of bytes here page there ∙ ap (λ is_here. page_entry bytes page is_here) unset

-- the entry of a page depends on its bytes alone
entry_same : (xs ys : List ℕ) (page : ℕ) (is_here : Bool) → ((at : ℕ) → at < PAGE_SIZE → get_or xs (PAGE_SIZE * page + at) 0 ≡ get_or ys (PAGE_SIZE * page + at) 0)
    → page_entry xs page is_here ≡ page_entry ys page is_here
entry_same xs ys page false same = refl
entry_same xs ys page true same =
    ap Held (padded_same (drop (PAGE_SIZE * page) xs) (drop (PAGE_SIZE * page) ys)
    (λ at inside. get_or-drop (PAGE_SIZE * page) xs at 0 ∙ same at inside ∙ sym (get_or-drop (PAGE_SIZE * page) ys at 0)))

-- ---- what the disk reads

-- a byte: the disk's own where its page is here, and else the one below
abbrev own_or : Bool → ℕ → ℕ → ℕ
own_or true own below = own
own_or false own below = below

byte_over-page_entry : (bytes : List ℕ) (page at : ℕ) (is_here : Bool) (below : ℕ) → at < PAGE_SIZE
    → byte_over (page_entry bytes page is_here) at below ≡ own_or is_here (get_or bytes (PAGE_SIZE * page + at) 0) below
byte_over-page_entry bytes page at true below inside = get_or-padded (drop (PAGE_SIZE * page) bytes) at inside ∙ get_or-drop (PAGE_SIZE * page) bytes at 0
byte_over-page_entry bytes page at false below inside = refl

module _ (bytes : List ℕ) (here : List Bool) (paged : IsPaged bytes here) (below : List ℕ) where
  pub length-disk_over : length (disk_over (paged_disk bytes here) below) ≡ length bytes
  unfolding disk_over
  length-disk_over =
      let table = length-laid_over (pages_of bytes here) below in
      let count = length-pages_of bytes here in
      let flags = paged.flags in
      let whole = paged.whole in
      length-take-le (SECTOR_SIZE * sector_count bytes) (laid_over (pages_of bytes here) below) (omega arith) ∙ whole

  pub get_or-disk_over : (i : ℕ) → i < length bytes
      → get_or (disk_over (paged_disk bytes here) below) i 0 ≡ own_or (get_or here (i / PAGE_SIZE) false) (get_or bytes i 0) (get_or below i 0)
  unfolding disk_over
  get_or-disk_over i inside =
      let count = length-pages_of bytes here in
      let flags = paged.flags in
      let whole = paged.whole in
      let there : i / PAGE_SIZE < length here = omega arith in
      let is_place : PAGE_SIZE * (i / PAGE_SIZE) + i % PAGE_SIZE ≡ i = omega arith in
      get_or-take (SECTOR_SIZE * sector_count bytes) (laid_over (pages_of bytes here) below) i 0 (omega arith)
      ∙ get_or-laid_over (pages_of bytes here) below i (omega arith)
      ∙ ap (λ entry. byte_over entry (i % PAGE_SIZE) (get_or below i 0)) (entry_at-pages_of bytes here (i / PAGE_SIZE) there)
      ∙ byte_over-page_entry bytes (i / PAGE_SIZE) (i % PAGE_SIZE) (get_or here (i / PAGE_SIZE) false) (get_or below i 0) (omega arith)
      ∙ ap (λ j. own_or (get_or here (i / PAGE_SIZE) false) (get_or bytes j 0) (get_or below i 0)) is_place

  pub sector_count-disk_over : sector_count (disk_over (paged_disk bytes here) below) ≡ sector_count bytes
  sector_count-disk_over = ap (λ size. size / SECTOR_SIZE) length-disk_over

  -- a byte of a page that is here
  pub own_byte : (i : ℕ) → i < length bytes → get_or here (i / PAGE_SIZE) false ≡ true → get_or (disk_over (paged_disk bytes here) below) i 0 ≡ get_or bytes i 0
  own_byte i inside own = get_or-disk_over i inside ∙ ap (λ is_here. own_or is_here (get_or bytes i 0) (get_or below i 0)) own

  -- a disk of which every page is here
  pub whole-disk_over : ((page : ℕ) → page < length here → get_or here page false ≡ true) → disk_over (paged_disk bytes here) below ≡ bytes
  whole-disk_over all =
      ext_get_or 0 (disk_over (paged_disk bytes here) below) bytes length-disk_over
      (λ i within.
      let inside : i < length bytes = subst (λ n. i < n) length-disk_over within in
      let flags = paged.flags in
      let whole = paged.whole in
      own_byte i inside (all (i / PAGE_SIZE) (omega arith)))

  -- ---- a sector whose page is here

  module _ (n : ℕ) (there : n < sector_count bytes) (own : get_or here (n / PAGE_SECTORS) false ≡ true) where
    its_page : (k : ℕ) → k < SECTOR_SIZE → get_or here ((SECTOR_SIZE * n + k) / PAGE_SIZE) false ≡ true
    its_page k inside = ap (λ page. get_or here page false) (let same : (SECTOR_SIZE * n + k) / PAGE_SIZE ≡ n / PAGE_SECTORS = omega arith in same) ∙ own

    pub sector_at-disk_over : sector_at (disk_over (paged_disk bytes here) below) n ≡ sector_at bytes n
    sector_at-disk_over =
        let disk = disk_over (paged_disk bytes here) below in
        let sizes : length (sector_at disk n) ≡ length (sector_at bytes n) =
        length-sector_at disk n ∙ ap (λ all. min SECTOR_SIZE (all - SECTOR_SIZE * n)) length-disk_over ∙ sym (length-sector_at bytes n) in
        ext_get_or 0 (sector_at disk n) (sector_at bytes n) sizes
        (λ k within.
        let whole = paged.whole in
        let inside : k < SECTOR_SIZE = omega (arith, length-sector_at disk n) in
        get_or-sector_at disk n k inside
        ∙ own_byte (SECTOR_SIZE * n + k) (omega arith) (its_page k inside)
        ∙ sym (get_or-sector_at bytes n k inside))

    module _ (sector : List ℕ) (full : length sector ≡ SECTOR_SIZE) where
      pub IsPaged-write : IsPaged (with_sector bytes n sector) here
      IsPaged-write =
          let size = length-with_sector bytes sector n there full in
          let count : sector_count (with_sector bytes n sector) ≡ sector_count bytes = ap (λ size. size / SECTOR_SIZE) size in
          record {
            whole = ap (λ sectors. SECTOR_SIZE * sectors) count ∙ paged.whole ∙ sym size;
            flags = paged.flags ∙ ap page_total (sym count);
          }

      -- a byte of the sector, and one beside it
      pub written_byte : (i : ℕ) → SECTOR_SIZE * n ≤ i → i < SECTOR_SIZE * n + SECTOR_SIZE → get_or (with_sector bytes n sector) i 0 ≡ get_or sector (i - SECTOR_SIZE * n) 0
      written_byte i from before_end =
          let whole = paged.whole in
          ap (λ j. get_or (with_sector bytes n sector) j 0) (let place : i ≡ SECTOR_SIZE * n + (i - SECTOR_SIZE * n) = omega arith in place)
          ∙ get_or-put_bytes bytes sector (SECTOR_SIZE * n) (i - SECTOR_SIZE * n) (omega arith) (omega arith)

      pub shown_byte : (i : ℕ) → SECTOR_SIZE * n ≤ i → i < SECTOR_SIZE * n + SECTOR_SIZE
          → get_or (with_sector (disk_over (paged_disk bytes here) below) n sector) i 0 ≡ get_or sector (i - SECTOR_SIZE * n) 0
      shown_byte i from before_end =
          let whole = paged.whole in
          let size = length-disk_over in
          ap (λ j. get_or (with_sector (disk_over (paged_disk bytes here) below) n sector) j 0) (let place : i ≡ SECTOR_SIZE * n + (i - SECTOR_SIZE * n) = omega arith in place)
          ∙ get_or-put_bytes (disk_over (paged_disk bytes here) below) sector (SECTOR_SIZE * n) (i - SECTOR_SIZE * n) (omega arith) (omega arith)

module _ (bytes : List ℕ) (here : List Bool) (paged : IsPaged bytes here) (n : ℕ) (there : n < sector_count bytes) (own : get_or here (n / PAGE_SECTORS) false ≡ true)
    (sector : List ℕ) (full : length sector ≡ SECTOR_SIZE) (below : List ℕ) where
  rewritten : List ℕ
  rewritten = with_sector bytes n sector

  size_rewritten : length rewritten ≡ length bytes
  unfolding rewritten
  size_rewritten = length-with_sector bytes sector n there full

  paged_rewritten : IsPaged rewritten here
  unfolding rewritten
  paged_rewritten = IsPaged-write bytes here paged below n there own sector full

  beside_byte : (i : ℕ) → i < length bytes → (i < SECTOR_SIZE * n) ⊎ (SECTOR_SIZE * n + SECTOR_SIZE ≤ i)
      → get_or (disk_over (paged_disk rewritten here) below) i 0 ≡ get_or (with_sector (disk_over (paged_disk bytes here) below) n sector) i 0
  unfolding rewritten
  beside_byte i inside beside =
      let whole = paged.whole in
      let size = length-disk_over bytes here paged below in
      let outside : (i < SECTOR_SIZE * n) ⊎ (SECTOR_SIZE * n + length sector ≤ i) = subst (λ size. (i < SECTOR_SIZE * n) ⊎ (SECTOR_SIZE * n + size ≤ i)) (sym full) beside in
      get_or-disk_over rewritten here paged_rewritten below i (omega (arith, size_rewritten))
      ∙ ap (λ byte. own_or (get_or here (i / PAGE_SIZE) false) byte (get_or below i 0)) (get_or-put_bytes_outside bytes sector (SECTOR_SIZE * n) i (omega arith) outside)
      ∙ sym (get_or-disk_over bytes here paged below i inside)
      ∙ sym (get_or-put_bytes_outside (disk_over (paged_disk bytes here) below) sector (SECTOR_SIZE * n) i (omega arith) outside)

  sector_byte : (i : ℕ) → i < length bytes → SECTOR_SIZE * n ≤ i → i < SECTOR_SIZE * n + SECTOR_SIZE
      → get_or (disk_over (paged_disk rewritten here) below) i 0 ≡ get_or (with_sector (disk_over (paged_disk bytes here) below) n sector) i 0
  unfolding rewritten
  sector_byte i inside from before_end =
      let of_page : i / PAGE_SIZE ≡ n / PAGE_SECTORS = omega arith in
      own_byte rewritten here paged_rewritten below i (omega (arith, size_rewritten)) (ap (λ page. get_or here page false) of_page ∙ own)
      ∙ written_byte bytes here paged below n there own sector full i from before_end
      ∙ sym (shown_byte bytes here paged below n there own sector full i from before_end)

  byte_rewritten : (i : ℕ) → i < length bytes → get_or (disk_over (paged_disk rewritten here) below) i 0 ≡ get_or (with_sector (disk_over (paged_disk bytes here) below) n sector) i 0
  byte_rewritten i inside = elim (cases_lt i (SECTOR_SIZE * n)) [
    | inl before ↦ beside_byte i inside (inl before)
    | inr from ↦ elim (cases_lt i (SECTOR_SIZE * n + SECTOR_SIZE)) [
      | inl before_end ↦ sector_byte i inside from before_end
      | inr behind ↦ beside_byte i inside (inr behind)
    ]
  ]

  pub disk_over-write : disk_over (paged_disk (with_sector bytes n sector) here) below ≡ with_sector (disk_over (paged_disk bytes here) below) n sector
  unfolding rewritten
  disk_over-write =
      let disk = disk_over (paged_disk bytes here) below in
      let size : length disk ≡ length bytes = length-disk_over bytes here paged below in
      let count : n < sector_count disk = subst (λ size. n < size / SECTOR_SIZE) (sym size) there in
      let long : length (disk_over (paged_disk rewritten here) below) ≡ length bytes = length-disk_over rewritten here paged_rewritten below ∙ size_rewritten in
      ext_get_or 0 (disk_over (paged_disk rewritten here) below) (with_sector disk n sector)
      (long ∙ sym size ∙ sym (length-with_sector disk sector n count full))
      (λ i within. byte_rewritten i (subst (λ n. i < n) long within))

-- ---- sectors that are put into an absent page

module _ (before after : List ℕ) (size : length after ≡ length before) (page : ℕ)
    (others : (at : ℕ) → (at < PAGE_SIZE * page) ⊎ (PAGE_SIZE * page + PAGE_SIZE ≤ at) → get_or after at 0 ≡ get_or before at 0) where
  same_count : sector_count after ≡ sector_count before
  same_count = ap (λ size. size / SECTOR_SIZE) size

  pub other_entry : (other : ℕ) (is_here : Bool) → (other < page) ⊎ (page < other) → page_entry after other is_here ≡ page_entry before other is_here
  other_entry other is_here beside =
      entry_same after before other is_here
      (λ at inside.
      let outside : (PAGE_SIZE * other + at < PAGE_SIZE * page) ⊎ (PAGE_SIZE * page + PAGE_SIZE ≤ PAGE_SIZE * other + at) =
      elim beside [ inl ahead ↦ inl (omega arith) | inr behind ↦ inr (omega arith) ] in
      others (PAGE_SIZE * other + at) outside)

  -- while the page is absent, nothing shows
  module _ (here : List Bool) (absent : get_or here page false ≡ false) where
    entry_stays : (other : ℕ) → page_entry after other (get_or here other false) ≡ page_entry before other (get_or here other false)
    entry_stays other = elim (cases_lt other page) [
      | inl ahead ↦ other_entry other (get_or here other false) (inl ahead)
      | inr from ↦ elim (cases_lt page other) [
        | inl behind ↦ other_entry other (get_or here other false) (inr behind)
        | inr to ↦
            let same : other ≡ page = omega arith in
            let unset : get_or here other false ≡ false = ap (λ p. get_or here p false) same ∙ absent in
            ap (λ is_here. page_entry after other is_here) unset ∙ sym (ap (λ is_here. page_entry before other is_here) unset)
      ]
    ]

    pub not_shown : paged_disk after here ≡ paged_disk before here
    not_shown =
        let count = length-pages_of after here in
        same_disk same_count
        (ext_get_or Absent (pages_of after here) (pages_of before here) (count ∙ sym (length-pages_of before here))
        (λ other within.
        let there : other < length here = subst (λ n. other < n) count within in
        entry_at-pages_of after here other there ∙ entry_stays other ∙ sym (entry_at-pages_of before here other there)))

-- the bytes of a page put in, but for those past the last sector
module _ (bytes : List ℕ) (here : List Bool) (paged : IsPaged bytes here) (page : ℕ) (there : page < length here) (sent : List ℕ) (size : length sent ≡ PAGE_SIZE) where
  fitting : List ℕ
  fitting = take (length bytes - PAGE_SIZE * page) sent

  after_page : List ℕ
  after_page = put_bytes bytes (PAGE_SIZE * page) fitting

  length-fitting : length fitting ≡ min (length bytes - PAGE_SIZE * page) PAGE_SIZE
  unfolding fitting
  length-fitting = length-take (length bytes - PAGE_SIZE * page) sent ∙ ap (λ size. min (length bytes - PAGE_SIZE * page) size) size

  starts : PAGE_SIZE * page ≤ length bytes
  starts = let flags = paged.flags in let whole = paged.whole in omega arith

  length-after_page : length after_page ≡ length bytes
  unfolding after_page
  length-after_page = let start = starts in let fits = length-fitting in length-put_bytes bytes fitting (PAGE_SIZE * page) (omega arith)

  others_stay : (at : ℕ) → (at < PAGE_SIZE * page) ⊎ (PAGE_SIZE * page + PAGE_SIZE ≤ at) → get_or after_page at 0 ≡ get_or bytes at 0
  unfolding after_page
  others_stay at beside =
      let fits = length-fitting in
      let outside : (at < PAGE_SIZE * page) ⊎ (PAGE_SIZE * page + length fitting ≤ at) =
      elim beside [ inl ahead ↦ inl ahead | inr behind ↦ inr (omega arith) ] in
      get_or-put_bytes_outside bytes fitting (PAGE_SIZE * page) at starts outside

  fitting_byte : (at : ℕ) → at < PAGE_SIZE → get_or after_page (PAGE_SIZE * page + at) 0 ≡ get_or fitting at 0
  unfolding after_page
  fitting_byte at inside =
      let start = starts in
      let fits = length-fitting in
      let long : length (put_bytes bytes (PAGE_SIZE * page) fitting) ≡ length bytes = length-after_page in
      elim (cases_lt at (length fitting)) [
        | inl within ↦ get_or-put_bytes bytes fitting (PAGE_SIZE * page) at start within
        | inr past ↦ get_or_past (put_bytes bytes (PAGE_SIZE * page) fitting) (PAGE_SIZE * page + at) 0 (omega arith) ∙ sym (get_or_past fitting at 0 past)
      ]

  byte_of_page : (at : ℕ) → at < PAGE_SIZE → get_or (drop (PAGE_SIZE * page) after_page) at 0 ≡ get_or fitting at 0
  byte_of_page at inside = get_or-drop (PAGE_SIZE * page) after_page at 0 ∙ fitting_byte at inside

  entry_of_page : page_entry after_page page true ≡ Held (padded fitting)
  entry_of_page = ap Held (padded_same (drop (PAGE_SIZE * page) after_page) fitting byte_of_page)

  other_after : (other : ℕ) → other < length here → (other < page) ⊎ (page < other)
      → page_entry after_page other (get_or (set here page true) other false) ≡ entry_at (set (pages_of bytes here) page (Held (padded fitting))) other
  other_after other inside beside =
      let differs : other ≢ page = elim beside [ inl ahead ↦ λ same. omega arith | inr behind ↦ λ same. omega arith ] in
      ap (λ is_here. page_entry after_page other is_here) (get_or-set_other here page other true false differs)
      ∙ other_entry bytes after_page length-after_page page others_stay other (get_or here other false) beside
      ∙ sym (entry_at-pages_of bytes here other inside)
      ∙ sym (get_or-set_other (pages_of bytes here) page other (Held (padded fitting)) Absent differs)

  entry_after : (other : ℕ) → other < length here
      → page_entry after_page other (get_or (set here page true) other false) ≡ entry_at (set (pages_of bytes here) page (Held (padded fitting))) other
  entry_after other inside = elim (cases_lt other page) [
    | inl ahead ↦ other_after other inside (inl ahead)
    | inr from ↦ elim (cases_lt page other) [
      | inl behind ↦ other_after other inside (inr behind)
      | inr to ↦
          let same : other ≡ page = omega arith in
          let count = length-pages_of bytes here in
          ap (λ p. page_entry after_page p (get_or (set here page true) p false)) same
          ∙ ap (λ is_here. page_entry after_page page is_here) (get_or-set_same here page true false there)
          ∙ entry_of_page
          ∙ sym (get_or-set_same (pages_of bytes here) page (Held (padded fitting)) Absent (omega arith))
          ∙ ap (λ p. entry_at (set (pages_of bytes here) page (Held (padded fitting))) p) (sym same)
    ]
  ]

  pages_after : pages_of after_page (set here page true) ≡ set (pages_of bytes here) page (Held (padded fitting))
  pages_after =
      let flags : length (set here page true) ≡ length here = length-set here page true in
      let count : length (set (pages_of bytes here) page (Held (padded fitting))) ≡ length here = length-set (pages_of bytes here) page (Held (padded fitting)) ∙ length-pages_of bytes here in
      ext_get_or Absent (pages_of after_page (set here page true)) (set (pages_of bytes here) page (Held (padded fitting)))
      (length-pages_of after_page (set here page true) ∙ flags ∙ sym count)
      (λ other within.
      let inside : other < length here = subst (λ n. other < n) (length-pages_of after_page (set here page true) ∙ flags) within in
      entry_at-pages_of after_page (set here page true) other (subst (λ n. other < n) (sym flags) inside)
      ∙ entry_after other inside)

  pub paged-arrive : paged_disk (put_bytes bytes (PAGE_SIZE * page) (take (length bytes - PAGE_SIZE * page) sent)) (set here page true) ≡ with_page (paged_disk bytes here) page sent
  unfolding fitting after_page
  paged-arrive =
      same_disk (ap (λ size. size / SECTOR_SIZE) length-after_page)
      (pages_after ∙ ap (λ size. set (pages_of bytes here) page (Held (padded (take (size - PAGE_SIZE * page) sent)))) (sym paged.whole))

  pub IsPaged-arrive : IsPaged (put_bytes bytes (PAGE_SIZE * page) (take (length bytes - PAGE_SIZE * page) sent)) (set here page true)
  unfolding fitting after_page
  IsPaged-arrive =
      let count : sector_count after_page ≡ sector_count bytes = ap (λ size. size / SECTOR_SIZE) length-after_page in
      record {
        whole = ap (λ sectors. SECTOR_SIZE * sectors) count ∙ paged.whole ∙ sym length-after_page;
        flags = length-set here page true ∙ paged.flags ∙ ap page_total (sym count);
      }

-- ---- a page of the disk below, put in

own_none : (entry : Entry) (at below : ℕ) → is_own entry ≡ false → byte_over entry at below ≡ below
own_none (Held page) at below none = cc
own_none Blank at below none = cc
own_none Absent at below none = refl

module _ (disk : PagedDisk) (count : length disk.pages ≡ page_total disk.sectors) (page : ℕ) (there : page < length disk.pages) (absent : is_page_here disk page ≡ false)
    (sent below : List ℕ) (is_below : IsPageBelow disk page sent below) where
  put_in : Entry
  put_in = Held (padded (take (SECTOR_SIZE * disk.sectors - PAGE_SIZE * page) sent))

  is_other : is_own (entry_at disk.pages page) ≡ false
  is_other = sym (get_or-map is_own disk.pages page Absent false there) ∙ absent

  byte_put_in : (i : ℕ) → i < SECTOR_SIZE * disk.sectors → i / PAGE_SIZE ≡ page → byte_over put_in (i % PAGE_SIZE) (get_or below i 0) ≡ get_or below i 0
  unfolding put_in
  byte_put_in i inside of_page =
      let place : PAGE_SIZE * page + i % PAGE_SIZE ≡ i = omega arith in
      get_or-padded (take (SECTOR_SIZE * disk.sectors - PAGE_SIZE * page) sent) (i % PAGE_SIZE) (omega arith)
      ∙ get_or-take (SECTOR_SIZE * disk.sectors - PAGE_SIZE * page) sent (i % PAGE_SIZE) 0 (omega arith)
      ∙ is_below (i % PAGE_SIZE) (omega arith) (omega arith)
      ∙ ap (λ j. get_or below j 0) place

  -- an entry that stays
  other_put_in : (i : ℕ) → (i / PAGE_SIZE ≢ page)
      → byte_over (entry_at (set disk.pages page put_in) (i / PAGE_SIZE)) (i % PAGE_SIZE) (get_or below i 0) ≡ byte_over (entry_at disk.pages (i / PAGE_SIZE)) (i % PAGE_SIZE) (get_or below i 0)
  other_put_in i differs = ap (λ entry. byte_over entry (i % PAGE_SIZE) (get_or below i 0)) (get_or-set_other disk.pages page (i / PAGE_SIZE) put_in Absent differs)

  same_put_in : (i : ℕ) → i < SECTOR_SIZE * disk.sectors
      → byte_over (entry_at (set disk.pages page put_in) (i / PAGE_SIZE)) (i % PAGE_SIZE) (get_or below i 0) ≡ byte_over (entry_at disk.pages (i / PAGE_SIZE)) (i % PAGE_SIZE) (get_or below i 0)
  same_put_in i inside = elim (cases_lt (i / PAGE_SIZE) page) [
    | inl ahead ↦ other_put_in i (λ same. omega arith)
    | inr from ↦ elim (cases_lt page (i / PAGE_SIZE)) [
      | inl behind ↦ other_put_in i (λ same. omega arith)
      | inr to ↦
          let same : i / PAGE_SIZE ≡ page = omega arith in
          ap (λ p. byte_over (entry_at (set disk.pages page put_in) p) (i % PAGE_SIZE) (get_or below i 0)) same
          ∙ ap (λ entry. byte_over entry (i % PAGE_SIZE) (get_or below i 0)) (get_or-set_same disk.pages page put_in Absent there)
          ∙ byte_put_in i inside same
          ∙ sym (own_none (entry_at disk.pages page) (i % PAGE_SIZE) (get_or below i 0) is_other)
          ∙ ap (λ p. byte_over (entry_at disk.pages p) (i % PAGE_SIZE) (get_or below i 0)) (sym same)
    ]
  ]

  read_as_before : (i : ℕ) → i < SECTOR_SIZE * disk.sectors → get_or (laid_over (set disk.pages page put_in) below) i 0 ≡ get_or (laid_over disk.pages below) i 0
  read_as_before i inside =
      let size : length (set disk.pages page put_in) ≡ length disk.pages = length-set disk.pages page put_in in
      get_or-laid_over (set disk.pages page put_in) below i (omega arith)
      ∙ same_put_in i inside
      ∙ sym (get_or-laid_over disk.pages below i (omega arith))

  pub arrival_reads : disk_over (with_page disk page sent) below ≡ disk_over disk below
  unfolding disk_over put_in
  arrival_reads =
      let entries = set disk.pages page put_in in
      let all = SECTOR_SIZE * disk.sectors in
      let size : length entries ≡ length disk.pages = length-set disk.pages page put_in in
      let new : length (take all (laid_over entries below)) ≡ all = length-take-le all (laid_over entries below) (omega (arith, length-laid_over entries below)) in
      let old : length (take all (laid_over disk.pages below)) ≡ all = length-take-le all (laid_over disk.pages below) (omega (arith, length-laid_over disk.pages below)) in
      ext_get_or 0 (take all (laid_over entries below)) (take all (laid_over disk.pages below)) (new ∙ sym old)
      (λ i within.
      let inside : i < all = subst (λ n. i < n) new within in
      get_or-take all (laid_over entries below) i 0 inside
      ∙ read_as_before i inside
      ∙ sym (get_or-take all (laid_over disk.pages below) i 0 inside))

-- ---- laws of disks that lie over others

module _ (disk : PagedDisk) (count : length disk.pages ≡ page_total disk.sectors) (below : List ℕ) where
  pub length-over : length (disk_over disk below) ≡ SECTOR_SIZE * disk.sectors
  unfolding disk_over
  length-over = length-take-le (SECTOR_SIZE * disk.sectors) (laid_over disk.pages below) (omega (arith, length-laid_over disk.pages below))

  -- a byte, by the entry of its page
  pub byte_of_disk : (i : ℕ) → i < SECTOR_SIZE * disk.sectors → get_or (disk_over disk below) i 0 ≡ byte_over (entry_at disk.pages (i / PAGE_SIZE)) (i % PAGE_SIZE) (get_or below i 0)
  unfolding disk_over
  byte_of_disk i inside =
      get_or-take (SECTOR_SIZE * disk.sectors) (laid_over disk.pages below) i 0 inside
      ∙ get_or-laid_over disk.pages below i (omega arith)

  pub is_entry : (page : ℕ) → PAGE_SIZE * page < SECTOR_SIZE * disk.sectors → is_own (entry_at disk.pages page) ≡ is_page_here disk page
  is_entry page there = sym (get_or-map is_own disk.pages page Absent false (omega arith))

  in_table : (page at : ℕ) → PAGE_SIZE * page + at < SECTOR_SIZE * disk.sectors → page < length disk.pages
  in_table page at inside = omega arith

  pub own_reads : (page at : ℕ) → at < PAGE_SIZE → PAGE_SIZE * page + at < SECTOR_SIZE * disk.sectors → is_page_here disk page ≡ true
      → get_or (disk_over disk below) (PAGE_SIZE * page + at) 0 ≡ get_or (entry_bytes (entry_at disk.pages page)) at 0
  unfolding disk_over
  own_reads page at on inside own =
      get_or-take (SECTOR_SIZE * disk.sectors) (laid_over disk.pages below) (PAGE_SIZE * page + at) 0 inside
      ∙ byte_of_own disk.pages below page at (in_table page at inside) on (is_entry page (omega arith) ∙ own)

  pub others_read : (page at : ℕ) → at < PAGE_SIZE → PAGE_SIZE * page + at < SECTOR_SIZE * disk.sectors → is_page_here disk page ≡ false
      → get_or (disk_over disk below) (PAGE_SIZE * page + at) 0 ≡ get_or below (PAGE_SIZE * page + at) 0
  unfolding disk_over
  others_read page at on inside other =
      get_or-take (SECTOR_SIZE * disk.sectors) (laid_over disk.pages below) (PAGE_SIZE * page + at) 0 inside
      ∙ byte_of_other disk.pages below page at (in_table page at inside) on (is_entry page (omega arith) ∙ other)

pub table_size : (sectors : ℕ) (table disk : PagedDisk) → IsTableOf sectors table → table ≡ disk → (below : List ℕ) → length (disk_over disk below) ≡ SECTOR_SIZE * sectors
table_size sectors table disk is same below =
    ap (λ d. length (disk_over d below)) (sym same)
    ∙ length-over table (is.pages ∙ ap page_total (sym is.count)) below
    ∙ ap (λ n. SECTOR_SIZE * n) is.count

-- what stands past the last sector below does not show
pub cut_below : (disk : PagedDisk) (below : List ℕ) → length disk.pages ≡ page_total disk.sectors → disk_over disk (take (SECTOR_SIZE * disk.sectors) below) ≡ disk_over disk below
cut_below disk below count =
    let cut = take (SECTOR_SIZE * disk.sectors) below in
    let size : length (disk_over disk cut) ≡ SECTOR_SIZE * disk.sectors = length-over disk count cut in
    ext_get_or 0 (disk_over disk cut) (disk_over disk below) (size ∙ sym (length-over disk count below))
    (λ i within.
    let inside : i < SECTOR_SIZE * disk.sectors = subst (λ n. i < n) size within in
    byte_of_disk disk count cut i inside
    ∙ ap (λ byte. byte_over (entry_at disk.pages (i / PAGE_SIZE)) (i % PAGE_SIZE) byte) (get_or-take (SECTOR_SIZE * disk.sectors) below i 0 inside)
    ∙ sym (byte_of_disk disk count below i inside))

-- a disk of which every page is absent reads as the one below it
absent_there : (count page : ℕ) → entry_at (replicate count Absent) page ≡ Absent
absent_there count page = elim (cases_lt page count) [
  | inl inside ↦ get_or-replicate count page Absent Absent inside
  | inr past ↦ get_or_past (replicate count Absent) page Absent (omega (arith, past, length-replicate count Absent))
]

none_own : (count page : ℕ) → get_or (own_pages (replicate count Absent)) page false ≡ false
none_own zero page = refl
none_own (suc count) zero = refl
none_own (suc count) (suc page) = none_own count page

-- a disk without a table has no page here
pub no_page_here : {T : Type 0} (now : T → PagedDisk) (table : Option T) (sectors page : ℕ) (disk : PagedDisk) → option_map_or now table (absent_disk sectors) ≡ disk → table ≡ None
    → is_page_here disk page ≡ false
no_page_here now table sectors page disk is none =
    ap (λ d. is_page_here d page) (sym is ∙ ap (λ t. option_map_or now t (absent_disk sectors)) none) ∙ none_own (page_total sectors) page

pub length-absent : (sectors : ℕ) → length (absent_disk sectors).pages ≡ page_total sectors
length-absent sectors = length-replicate (page_total sectors) Absent

pub absent_reads : (below : List ℕ) → SECTOR_SIZE * sector_count below ≡ length below → disk_over (absent_disk (sector_count below)) below ≡ below
absent_reads below whole =
    let disk : PagedDisk = absent_disk (sector_count below) in
    let count : length disk.pages ≡ page_total disk.sectors = length-replicate (page_total (sector_count below)) Absent in
    let size : length (disk_over disk below) ≡ length below = length-over disk count below ∙ whole in
    ext_get_or 0 (disk_over disk below) below size
    (λ i within.
    let inside : i < length below = subst (λ n. i < n) size within in
    byte_of_disk disk count below i (omega (arith, inside, whole))
    ∙ ap (λ entry. byte_over entry (i % PAGE_SIZE) (get_or below i 0)) (absent_there (page_total (sector_count below)) (i / PAGE_SIZE)))

own_same : (entry : Entry) (at below other : ℕ) → is_own entry ≡ true → byte_over entry at below ≡ byte_over entry at other
own_same (Held page) at below other own = refl
own_same Blank at below other own = refl
own_same Absent at below other own = cc

-- a disk of which every page is here reads the same over each
pub whole_reads : (disk : PagedDisk) (below other : List ℕ) → length disk.pages ≡ page_total disk.sectors → IsWholeDisk disk → disk_over disk below ≡ disk_over disk other
whole_reads disk below other count whole =
    let size : length (disk_over disk below) ≡ SECTOR_SIZE * disk.sectors = length-over disk count below in
    ext_get_or 0 (disk_over disk below) (disk_over disk other) (size ∙ sym (length-over disk count other))
    (λ i within.
    let inside : i < SECTOR_SIZE * disk.sectors = subst (λ n. i < n) size within in
    byte_of_disk disk count below i inside
    ∙ own_same (entry_at disk.pages (i / PAGE_SIZE)) (i % PAGE_SIZE) (get_or below i 0) (get_or other i 0)
    (is_entry disk count below (i / PAGE_SIZE) (omega arith) ∙ whole (i / PAGE_SIZE) (omega arith))
    ∙ sym (byte_of_disk disk count other i inside))
