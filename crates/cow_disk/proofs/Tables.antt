-- What the sectors and flags of a table stand for, and what its calls leave.
use Rattle.std.proofs.Common.{◌≡◌, ℕ, ◌+◌, ◌-◌, ◌*◌, ◌/◌, ◌<◌, ◌≤◌, ◌⊎◌, Bool, true, false, List, [], length, take, get_or, replicate, sym, ap, ◌∙◌, subst, arith}
use Rattle.std.specs.List.{concat}
use Rattle.std.proofs.Math.ListN.{set, length-set}
use Rattle.std.proofs.lemmas.List.{ext_get_or, get_or-replicate, length-replicate}
use Rattle.flat_memory.specs.Flat.{put_bytes, zeros}
use Rattle.flat_memory.proofs.Zeros.{length-zeros}
use Rattle.page_frames.specs.declared.page.TheConstants.{PAGE_SIZE}
use Rattle.page_frames.specs.declared.entry.Entry.TheVariants.{Absent}
use Rattle.page_frames.specs.Tables.{entry_at, entry_bytes}
use Rattle.cow_disk.specs.declared.disk.TheConstants.{SECTOR_SIZE, MAX_SECTORS, PAGE_SECTORS}
use Rattle.cow_disk.specs.Disk.{sector_count, sector_at, with_sector}
use Rattle.cow_disk.specs.Paged.{PagedDisk, absent_disk, disk_over, disk_page, here_pages, is_page_here, page_entry, page_total, paged_disk, pages_of, with_page, IsSectorHere, IsWholeDisk}
use Rattle.cow_disk.specs.Sectors.{AreSectors, AreWhole, IsPaged}
use Rattle.cow_disk.proofs.SectorLemmas.{length-concat, sector_count-concat, sector_at-concat, with_sector-concat, AreWhole-set, AreWhole-told}
use Rattle.cow_disk.proofs.Pages.{same_disk, page_here, own_pages-pages_of, entry_at-pages_of, length-pages_of, absent_entry, length-disk_over}
use Rattle.cow_disk.proofs.Pages.{whole-disk_over, sector_at-disk_over, disk_over-write, not_shown, paged-arrive}

pub IsPaged-concat : (sectors : List (List ℕ)) (here : List Bool) → AreSectors sectors here → IsPaged (concat sectors) here
IsPaged-concat sectors here are =
    let count = sector_count-concat sectors are.whole in
    let size = length-concat sectors are.whole in
    record { whole = omega arith; flags = are.flags ∙ ap page_total (sym count) }

-- the disk that a table stands for
module _ (sectors : List (List ℕ)) (here : List Bool) (are : AreSectors sectors here) (disk : PagedDisk) (is : paged_disk (concat sectors) here ≡ disk) where
  pub count_is : disk.sectors ≡ length sectors
  count_is = ap (λ (d : PagedDisk). d.sectors) (sym is) ∙ sector_count-concat sectors are.whole

  -- a table that stays as it is
  pub kept : (after : List (List ℕ)) → after ≡ sectors → paged_disk (concat after) here ≡ disk
  kept after same = ap (λ s. paged_disk (concat s) here) same ∙ is

  pub are_kept : (after : List (List ℕ)) → after ≡ sectors → AreSectors after here
  are_kept after same = subst (λ s. AreSectors s here) (sym same) are

  pub count_most : disk.sectors ≤ MAX_SECTORS
  count_most = let count = count_is in let most = are.most in omega arith

  pub in_list : (n : ℕ) → n < disk.sectors → n < length sectors
  in_list n there = let count = count_is in omega arith

  pub pages_count : length disk.pages ≡ page_total disk.sectors
  pages_count =
      ap (λ (d : PagedDisk). length d.pages) (sym is) ∙ length-pages_of (concat sectors) here ∙ are.flags ∙ ap page_total (sym count_is)

  pub flag_count : length here ≡ length disk.pages
  flag_count = sym (length-pages_of (concat sectors) here) ∙ ap (λ (d : PagedDisk). length d.pages) is

  pub in_pages : (page : ℕ) → PAGE_SECTORS * page < disk.sectors → page < length disk.pages
  in_pages page there = let count = pages_count in omega arith

  pub in_flags : (page : ℕ) → PAGE_SECTORS * page < disk.sectors → page < length here
  in_flags page there = let count = pages_count in let flags = flag_count in omega arith

  pub flag_of : (page : ℕ) → is_page_here disk page ≡ get_or here page false
  flag_of page = ap (λ (d : PagedDisk). is_page_here d page) (sym is) ∙ page_here (concat sectors) here page

  pub size_over : (below : List ℕ) → length (disk_over disk below) ≡ SECTOR_SIZE * disk.sectors
  size_over below =
      ap (λ (d : PagedDisk). length (disk_over d below)) (sym is)
      ∙ length-disk_over (concat sectors) here (IsPaged-concat sectors here are) below
      ∙ length-concat sectors are.whole ∙ ap (λ count. SECTOR_SIZE * count) (sym count_is)

  pub count_over : (below : List ℕ) → sector_count (disk_over disk below) ≡ disk.sectors
  count_over below = let size = size_over below in omega arith

  -- a page that is here
  pub page_of_disk : (page : ℕ) → PAGE_SECTORS * page < disk.sectors → is_page_here disk page ≡ true
      → entry_bytes (entry_at disk.pages page) ≡ disk_page (concat sectors) page
  page_of_disk page there own =
      ap (λ (d : PagedDisk). entry_bytes (entry_at d.pages page)) (sym is)
      ∙ ap entry_bytes (entry_at-pages_of (concat sectors) here page (in_flags page there))
      ∙ ap (λ is_here. entry_bytes (page_entry (concat sectors) page is_here)) (sym (flag_of page) ∙ own)

  -- a sector whose page is here
  module _ (n : ℕ) (on : IsSectorHere disk n) where
    in_count : n < sector_count (concat sectors)
    in_count = let count = sector_count-concat sectors are.whole in let inside = in_list n on.there in omega arith

    its_flag : get_or here (n / PAGE_SECTORS) false ≡ true
    its_flag = sym (flag_of (n / PAGE_SECTORS)) ∙ on.here

    pub sector_of : (below : List ℕ) → sector_at (disk_over disk below) n ≡ get_or sectors n []
    sector_of below =
        ap (λ (d : PagedDisk). sector_at (disk_over d below) n) (sym is)
        ∙ sector_at-disk_over (concat sectors) here (IsPaged-concat sectors here are) below n in_count its_flag
        ∙ sector_at-concat sectors n are.whole (in_list n on.there)

    -- a sector is put for it
    module _ (bytes : List ℕ) (full : length bytes ≡ SECTOR_SIZE) where
      pub are_written : AreSectors (set sectors n bytes) here
      are_written =
          let size = length-set sectors n bytes in
          let most = are.most in
          record {
            whole = AreWhole-set sectors n bytes are.whole full;
            most = omega arith;
            flags = are.flags ∙ ap page_total (sym size);
          }

      pub reads_written : (below : List ℕ) → disk_over (paged_disk (concat (set sectors n bytes)) here) below ≡ with_sector (disk_over disk below) n bytes
      reads_written below =
          ap (λ flat. disk_over (paged_disk flat here) below) (with_sector-concat sectors n bytes are.whole (in_list n on.there) full)
          ∙ disk_over-write (concat sectors) here (IsPaged-concat sectors here are) n in_count its_flag bytes full below
          ∙ ap (λ (d : PagedDisk). with_sector (disk_over d below) n bytes) is

      pub pages_written : here_pages (paged_disk (concat (set sectors n bytes)) here) ≡ here_pages disk
      pages_written =
          own_pages-pages_of (concat (set sectors n bytes)) here
          ∙ sym (own_pages-pages_of (concat sectors) here) ∙ ap here_pages is

      pub count_written : sector_count (concat (set sectors n bytes)) ≡ disk.sectors
      count_written = sector_count-concat (set sectors n bytes) (AreWhole-set sectors n bytes are.whole full) ∙ length-set sectors n bytes ∙ sym count_is

  -- sectors are put into an absent page
  module _ (page : ℕ) (inside : page < length disk.pages) (absent : is_page_here disk page ≡ false) (after : List (List ℕ)) (whole : AreWhole after) (size : length after ≡ length sectors) where
    unset : get_or here page false ≡ false
    unset = sym (flag_of page) ∙ absent

    same_size : length (concat after) ≡ length (concat sectors)
    same_size = length-concat after whole ∙ ap (λ count. SECTOR_SIZE * count) size ∙ sym (length-concat sectors are.whole)

    pub are_put : AreSectors after here
    are_put = let most = are.most in record { whole = whole; most = omega arith; flags = are.flags ∙ ap page_total (sym size) }

    pub are_here : AreSectors after (set here page true)
    are_here =
        let most = are.most in
        record { whole = whole; most = omega arith; flags = length-set here page true ∙ are.flags ∙ ap page_total (sym size) }

    -- while the page is absent, they do not show
    pub put_not_shown : ((at : ℕ) → (at < PAGE_SIZE * page) ⊎ (PAGE_SIZE * page + PAGE_SIZE ≤ at) → get_or (concat after) at 0 ≡ get_or (concat sectors) at 0)
        → paged_disk (concat after) here ≡ disk
    put_not_shown others = not_shown (concat sectors) (concat after) same_size page others here unset ∙ is

    pub page_put : (sent : List ℕ) → length sent ≡ PAGE_SIZE → concat after ≡ put_bytes (concat sectors) (PAGE_SIZE * page) (take (length (concat sectors) - PAGE_SIZE * page) sent)
        → paged_disk (concat after) (set here page true) ≡ with_page disk page sent
    page_put sent full made =
        let flags = flag_count in
        ap (λ flat. paged_disk flat (set here page true)) made
        ∙ paged-arrive (concat sectors) here (IsPaged-concat sectors here are) page (omega arith) sent full
        ∙ ap (λ (d : PagedDisk). with_page d page sent) is

-- ---- tables that are made

module _ (sectors : List (List ℕ)) (made : List (List ℕ)) (here : List Bool) (is : made ≡ sectors) (flags : here ≡ replicate (page_total (length sectors)) true)
    (told : (i : ℕ) → i < length sectors → length (get_or sectors i []) ≡ SECTOR_SIZE) (most : length sectors ≤ MAX_SECTORS) where
  all_set : (page : ℕ) → page < length here → get_or here page false ≡ true
  all_set page inside =
      let count : length here ≡ page_total (length sectors) = ap length flags ∙ length-replicate (page_total (length sectors)) true in
      ap (λ f. get_or f page false) flags ∙ get_or-replicate (page_total (length sectors)) page true false (omega arith)

  pub are_new : AreSectors made here
  are_new = record {
    whole = subst AreWhole (sym is) (AreWhole-told sectors told);
    most = subst (λ (s : List (List ℕ)). length s ≤ MAX_SECTORS) (sym is) most;
    flags = ap length flags ∙ length-replicate (page_total (length sectors)) true ∙ ap (λ (s : List (List ℕ)). page_total (length s)) (sym is);
  }

  pub reads_new : (below : List ℕ) → disk_over (paged_disk (concat made) here) below ≡ concat sectors
  reads_new below = whole-disk_over (concat made) here (IsPaged-concat made here are_new) below all_set ∙ ap concat is

  pub count_new : sector_count (concat made) ≡ length sectors
  count_new = sector_count-concat made (subst AreWhole (sym is) (AreWhole-told sectors told)) ∙ ap (λ (s : List (List ℕ)). length s) is

  pub whole_new : IsWholeDisk (paged_disk (concat made) here)
  whole_new page there =
      let count = count_new in
      let total : length here ≡ page_total (length sectors) = ap length flags ∙ length-replicate (page_total (length sectors)) true in
      page_here (concat made) here page ∙ all_set page (omega arith)

-- a table of which every page is absent
module _ (count : ℕ) (made : List (List ℕ)) (here : List Bool) (is : made ≡ replicate count (zeros SECTOR_SIZE)) (flags : here ≡ replicate (page_total count) false) (most : count ≤ MAX_SECTORS) where
  length-made : length made ≡ count
  length-made = ap (λ (s : List (List ℕ)). length s) is ∙ length-replicate count (zeros SECTOR_SIZE)

  length-flags : length here ≡ page_total count
  length-flags = ap length flags ∙ length-replicate (page_total count) false

  whole_made : AreWhole made
  whole_made =
      AreWhole-told made
      (λ i inside.
      let within : i < count = subst (λ n. i < n) length-made inside in
      ap (λ (s : List (List ℕ)). length (get_or s i [])) is
      ∙ ap length (get_or-replicate count i (zeros SECTOR_SIZE) [] within)
      ∙ length-zeros SECTOR_SIZE)

  pub are_absent : AreSectors made here
  are_absent = record {
    whole = whole_made;
    most = subst (λ n. n ≤ MAX_SECTORS) (sym length-made) most;
    flags = length-flags ∙ ap page_total (sym length-made);
  }

  pub is_absent : paged_disk (concat made) here ≡ absent_disk count
  is_absent =
      let pages = length-pages_of (concat made) here in
      let total : length (replicate (page_total count) Absent) ≡ page_total count = length-replicate (page_total count) Absent in
      same_disk (sector_count-concat made whole_made ∙ length-made)
      (ext_get_or Absent (pages_of (concat made) here) (replicate (page_total count) Absent) (pages ∙ length-flags ∙ sym total)
      (λ page within.
      let inside : page < length here = subst (λ n. page < n) pages within in
      let below : page < page_total count = subst (λ n. page < n) length-flags inside in
      let unset : get_or here page false ≡ false = ap (λ f. get_or f page false) flags ∙ get_or-replicate (page_total count) page false false below in
      absent_entry (concat made) here page inside unset ∙ sym (get_or-replicate (page_total count) page Absent Absent below)))
