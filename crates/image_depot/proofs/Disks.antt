-- Disks that lie one over the other, and the pages of the disk that they keep.
use Rattle.std.proofs.Common.{◌≡◌, ℕ, ◌+◌, ◌*◌, ◌<◌, ◌≤◌, true, false, inl, inr, List, [], ◌∷◌, length, take, drop, get_or, refl, sym, ap, ◌∙◌, subst, arith}
use Rattle.std.proofs.Math.Seq.{take-nil}
use Rattle.std.proofs.lemmas.Bool.{cases_lt}
use Rattle.std.proofs.lemmas.List.{ext_get_or, get_or-take, get_or-drop, get_or-map}
use Rattle.std.proofs.lemmas.List.Elements.{All-cons, All-from_get_or, All-head, All-nil, All-tail}
use Rattle.page_frames.specs.declared.page.TheConstants.{PAGE_SIZE}
use Rattle.page_frames.specs.declared.entry.Entry.{Entry}
use Rattle.page_frames.specs.declared.entry.Entry.TheVariants.{Absent}
use Rattle.page_frames.specs.Tables.{entry_at, is_own, laid_over, stacked}
use Rattle.cow_disk.specs.declared.disk.TheConstants.{SECTOR_SIZE}
use Rattle.cow_disk.specs.Disk.{sector_count}
use Rattle.cow_disk.specs.Paged.{PagedDisk, disk_over, disk_page, is_page_here, page_total, IsWholeDisk}
use Rattle.cow_disk.proofs.Pages.{cut_below, get_or-padded, length-over, length-padded, whole_reads}
use Rattle.cow_disk.proofs.PageReads.{zeros_behind}
use Rattle.elf_load.specs.declared.image.TheConstants.{MAX_PAGES}
use Rattle.image_depot.specs.Image.{own_table, stacked_disks, tables_of, AreOfSize, IsDiskStack, IsFrozen, IsLaid, IsStack, IsWhole}
use Rattle.image_depot.proofs.Stacks.{IsStack-laid}

-- a disk has an entry for each of its pages
abbrev HasEntries : PagedDisk → Type 0
HasEntries disk = length disk.pages ≡ page_total disk.sectors

-- ---- a page of its own, by the flags of a disk and by its entries

pub own_page : (disk : PagedDisk) (page : ℕ) → page < length disk.pages → is_page_here disk page ≡ is_own (entry_at disk.pages page)
own_page disk page there = get_or-map is_own disk.pages page Absent false there

pub whole_entries : (disk : PagedDisk) → HasEntries disk → IsWholeDisk disk → IsWhole disk.pages
whole_entries disk count whole =
    All-from_get_or (λ entry. is_own entry ≡ true) disk.pages Absent
    (λ page there. sym (own_page disk page there) ∙ whole page (omega (arith, there, count)))

pub whole_disk : (disk : PagedDisk) → HasEntries disk → IsWhole disk.pages → IsWholeDisk disk
whole_disk disk count whole page inside =
    let there : page < length disk.pages = omega (arith, inside, count) in
    own_page disk page there ∙ whole page Absent there

-- ---- disks of one size

abbrev Has : ℕ → PagedDisk → Type 0
Has sectors disk = (disk.sectors ≡ sectors) × (length disk.pages ≡ page_total sectors)

over-is : (disk : PagedDisk) (below : List ℕ) → disk_over disk below ≡ take (SECTOR_SIZE * disk.sectors) (laid_over disk.pages below)
unfolding disk_over
over-is disk below = refl

module _ (sectors : ℕ) where
  pub entries_of_size : (disk : PagedDisk) → disk.sectors ≡ sectors → length disk.pages ≡ page_total sectors → HasEntries disk
  entries_of_size disk same count = count ∙ ap page_total (sym same)

  -- their disk is that of their page tables, cut to its sectors
  pub stacked_disks-is : (disks : List PagedDisk) → AreOfSize sectors disks → stacked_disks disks ≡ take (SECTOR_SIZE * sectors) (stacked (tables_of disks))
  stacked_disks-is [] all = sym (take-nil (SECTOR_SIZE * sectors))
  stacked_disks-is (disk ∷ disks) all =
      let own = All-head (Has sectors) disk disks all in
      let below = stacked (tables_of disks) in
      ap (disk_over disk) (stacked_disks-is disks (All-tail (Has sectors) disk disks all))
      ∙ ap (λ n. disk_over disk (take (SECTOR_SIZE * n) below)) (sym own.0)
      ∙ cut_below disk below (entries_of_size disk own.0 own.1)
      ∙ over-is disk below
      ∙ ap (λ n. take (SECTOR_SIZE * n) (laid_over disk.pages below)) own.0

  there-are : (disks : List PagedDisk) → IsStack (tables_of disks) → 0 < length disks
  there-are [] none = absurd none
  there-are (disk ∷ rest) some = omega arith

  entries-of : (disks : List PagedDisk) → IsStack (tables_of disks) → AreOfSize sectors disks → length (own_table (tables_of disks)) ≡ page_total sectors
  entries-of [] none all = absurd none
  entries-of (disk ∷ rest) some all = (All-head (Has sectors) disk rest all).1

  size-of : (disks : List PagedDisk) → IsStack (tables_of disks) → AreOfSize sectors disks → length (stacked_disks disks) ≡ SECTOR_SIZE * sectors
  size-of [] none all = absurd none
  size-of (disk ∷ rest) some all =
      let own = All-head (Has sectors) disk rest all in
      length-over disk (entries_of_size disk own.0 own.1) (stacked_disks rest) ∙ ap (λ n. SECTOR_SIZE * n) own.0

  module _ (disks : List PagedDisk) (stack : IsDiskStack sectors disks) where
    pub disks_there : 0 < length disks
    disks_there = there-are disks stack.stack

    pub entries_of_own : length (own_table (tables_of disks)) ≡ page_total sectors
    entries_of_own = entries-of disks stack.stack stack.same_size

    pub size_of_disks : length (stacked_disks disks) ≡ SECTOR_SIZE * sectors
    size_of_disks = size-of disks stack.stack stack.same_size

    pub count_of_disks : sector_count (stacked_disks disks) ≡ sectors
    count_of_disks = omega (arith, size_of_disks)

    -- a page of the disk, by the bytes that the tables have there
    module _ (page : ℕ) (bytes : List ℕ) (size : length bytes ≡ PAGE_SIZE)
        (same : (at : ℕ) → at < PAGE_SIZE → get_or (stacked (tables_of disks)) (PAGE_SIZE * page + at) 0 ≡ get_or bytes at 0)
        (zeros : (at : ℕ) → SECTOR_SIZE * sectors ≤ PAGE_SIZE * page + at → get_or bytes at 0 ≡ 0) where
      byte_of_page : (at : ℕ) → at < PAGE_SIZE → get_or bytes at 0 ≡ get_or (disk_page (stacked_disks disks) page) at 0
      byte_of_page at inside = elim (cases_lt (PAGE_SIZE * page + at) (SECTOR_SIZE * sectors)) [
        | inl there ↦
            sym (same at inside)
            ∙ sym (get_or-take (SECTOR_SIZE * sectors) (stacked (tables_of disks)) (PAGE_SIZE * page + at) 0 there)
            ∙ ap (λ disk. get_or disk (PAGE_SIZE * page + at) 0) (sym (stacked_disks-is disks stack.same_size))
            ∙ sym (get_or-drop (PAGE_SIZE * page) (stacked_disks disks) at 0)
            ∙ sym (get_or-padded (drop (PAGE_SIZE * page) (stacked_disks disks)) at inside)
        | inr past ↦ zeros at past ∙ sym (zeros_behind (stacked_disks disks) page at (omega (arith, past, size_of_disks)))
      ]

      pub page_of_stack : bytes ≡ disk_page (stacked_disks disks) page
      page_of_stack =
          ext_get_or 0 bytes (disk_page (stacked_disks disks) page) (size ∙ sym (length-padded (drop (PAGE_SIZE * page) (stacked_disks disks))))
          (λ at within. byte_of_page at (subst (λ n. at < n) size within))

    -- ---- a disk that is laid over them

    module _ (disk : PagedDisk) (layers : List PagedDisk) (alike : disk.sectors ≡ sectors) (count : HasEntries disk) (laid : IsLaid disk.pages disk disks layers) where
      count_alike : length disk.pages ≡ page_total sectors
      count_alike = count ∙ ap page_total alike

      tables_laid : IsLaid disk.pages disk.pages (tables_of disks) (tables_of layers)
      tables_laid = elim laid [ inl all ↦ inl (ap tables_of all) | inr alone ↦ inr (ap tables_of alone.0, alone.1) ]

      size_laid : AreOfSize sectors layers
      size_laid = elim laid [
        | inl all ↦ subst (AreOfSize sectors) (sym all) (All-cons (Has sectors) disk disks (alike, count_alike) stack.same_size)
        | inr alone ↦ subst (AreOfSize sectors) (sym alone.0) (All-cons (Has sectors) disk [] (alike, count_alike) (All-nil (Has sectors)))
      ]

      pub IsDiskStack-laid : IsDiskStack sectors layers
      IsDiskStack-laid = record {
        stack = IsStack-laid disk.pages (tables_of disks) (tables_of layers) stack.stack (count_alike ∙ sym entries_of_own) tables_laid;
        same_size = size_laid;
      }

      pub disk-laid : stacked_disks layers ≡ disk_over disk (stacked_disks disks)
      disk-laid = elim laid [
        | inl all ↦ ap stacked_disks all
        | inr alone ↦ ap stacked_disks alone.0 ∙ whole_reads disk [] (stacked_disks disks) count (whole_disk disk count alone.1)
      ]

-- ---- an image of one table and one disk

pub one_disk : (disk : PagedDisk) → HasEntries disk → IsWholeDisk disk → IsDiskStack disk.sectors (disk ∷ [])
one_disk disk count whole = record {
  stack = whole_entries disk count whole;
  same_size = All-cons (Has disk.sectors) disk [] (refl, count) (All-nil (Has disk.sectors));
}

pub frozen_alone : (entries : List Entry) (disk : PagedDisk) → IsWhole entries → length entries ≤ MAX_PAGES → IsWholeDisk disk → HasEntries disk → IsFrozen (entries ∷ []) (disk ∷ [])
frozen_alone entries disk whole few disk_whole count = record {
  stack = whole;
  pages_fit = few;
  sectors = disk.sectors;
  disk_stack = one_disk disk count disk_whole;
}
