-- What a frozen image and an arriving page need of the key.
use Rattle.std.proofs.Common.{◌≡◌, ℕ, ◌*◌, ◌<◌, List, [], ◌∷◌, length, take, drop, get_or, true, false, Option, Some, None, sym, ap, ◌∙◌, subst}
use Rattle.std.specs.Prelude.{slice_get}
use Rattle.std.proofs.Math.ListN.{set}
use Rattle.std.proofs.lemmas.List.{get_or-map, get_or_read}
use Rattle.std.proofs.lemmas.List.Elements.{All-get_or}
use Rattle.page_frames.specs.declared.page.TheConstants.{PAGE_SIZE}
use Rattle.page_frames.specs.declared.entry.Entry.{Entry}
use Rattle.page_frames.specs.declared.entry.Entry.TheVariants.{Held, Absent}
use Rattle.page_frames.specs.Tables.{entry_at, is_own, laid_over, own_pages, stacked}
use Rattle.image_depot.specs.Image.{FrozenImage, page_count, stacked_disks, IsWhole}
use Rattle.image_depot.specs.Key.{Key, image_of}
use Rattle.image_depot.specs.Reply.{Reply, ram_page}
use Rattle.cow_disk.specs.Disk.{sector_count}
use Rattle.cow_disk.specs.Paged.{PagedDisk, disk_over, IsWholeDisk}
use Rattle.guest_mem.specs.Ram.{IsBased, IsDiskBased, disk_below, memory_below, ram_of, arrived}
use Rattle.guest_mem.proofs.Pages.{here_by_entry, ram_of_arrival}

-- a table over the image of a key has an entry for each page of it
module _ (entries : List Entry) (key : Option Key) (based : IsBased entries key) where
  pub pages_of_image : (k : Key) (image : FrozenImage) → key ≡ Some k → image ≡ image_of k → length entries ≡ page_count image
  pages_of_image k image is_key is_image = subst (λ (o : Option Key). IsBased entries o) is_key based ∙ ap page_count (sym is_image)

  pub page_in_image : (k : Key) (image : FrozenImage) → key ≡ Some k → image ≡ image_of k → (page : ℕ) → page < length entries → page < page_count image
  page_in_image k image is_key is_image page there = subst (λ n. page < n) (pages_of_image k image is_key is_image) there

  pub page_in_table : (k : Key) (image : FrozenImage) → key ≡ Some k → image ≡ image_of k → (page : ℕ) → page < page_count image → page < length entries
  page_in_table k image is_key is_image page there = subst (λ n. page < n) (sym (pages_of_image k image is_key is_image)) there

  -- and without a key each page is the table's own
  pub own_without_key : key ≡ None → (page : ℕ) (entry : Entry) → page < length entries → entry ≡ get_or entries page entry → is_own entry ≡ true
  own_without_key no_key page entry there read =
      let whole : IsWhole entries = subst (λ (o : Option Key). IsBased entries o) no_key based in
      ap is_own (get_or_read entries page entry there read Absent) ∙ All-get_or (λ e. is_own e ≡ true) entries page Absent there whole

module _ (entries shared : List Entry) (key : Option Key) (based : IsBased entries key) (same : shared ≡ entries) where
  -- a table over the image of a key
  module _ (k : Key) (image : FrozenImage) (is_key : key ≡ Some k) (is_image : image ≡ image_of k) where
    pub length_over : length shared ≡ page_count image
    length_over = ap length same ∙ pages_of_image entries key based k image is_key is_image

    pub reads_over : laid_over shared image.contents ≡ laid_over entries (memory_below key)
    reads_over =
        ap (λ table. laid_over table image.contents) same
        ∙ ap (λ (i : FrozenImage). laid_over entries i.contents) is_image
        ∙ ap (λ o. laid_over entries (memory_below o)) (sym is_key)

  -- a table without a key
  module _ (no_key : key ≡ None) where
    pub whole_alone : IsWhole shared
    whole_alone = subst IsWhole (sym same) (subst (λ (o : Option Key). IsBased entries o) no_key based)

    pub reads_alone : stacked (shared ∷ []) ≡ laid_over entries (memory_below key)
    reads_alone =
        ap (λ table. laid_over table []) same
        ∙ ap (λ o. laid_over entries (memory_below o)) (sym no_key)

-- ---- the disk of an image

module _ (disk : PagedDisk) (key : Option Key) (based : IsDiskBased disk key) where
  -- it lies over that of the image of a key
  module _ (k : Key) (image : FrozenImage) (is_key : key ≡ Some k) (is_image : image ≡ image_of k) where
    pub sectors_over : disk.sectors ≡ sector_count image.disk
    sectors_over = subst (λ (o : Option Key). IsDiskBased disk o) is_key based ∙ ap (λ (i : FrozenImage). sector_count i.disk) (sym is_image)

    pub disk_reads_over : disk_over disk image.disk ≡ disk_over disk (disk_below key)
    disk_reads_over = ap (λ (i : FrozenImage). disk_over disk i.disk) is_image ∙ ap (λ o. disk_over disk (disk_below o)) (sym is_key)

  -- there is no key
  module _ (no_key : key ≡ None) where
    pub disk_is_whole : IsWholeDisk disk
    disk_is_whole = subst (λ (o : Option Key). IsDiskBased disk o) no_key based

    pub disk_reads_alone : stacked_disks (disk ∷ []) ≡ disk_over disk (disk_below key)
    disk_reads_alone = ap (λ o. disk_over disk (disk_below o)) (sym no_key)

-- ---- a page of RAM of the image of the key comes

module _ (entries : List Entry) (key : Option Key) (based : IsBased entries key) (k : Key) (is_key : key ≡ Some k) (reply : Reply) (agree : image_of k ≡ image_of reply.key)
    (in_image : reply.page < page_count (image_of reply.key)) (page : ℕ) (is_page : page ≡ reply.page) where
  pub arrival_there : page < length entries
  arrival_there = page_in_table entries key based k (image_of reply.key) is_key (sym agree) page (subst (λ p. p < page_count (image_of reply.key)) (sym is_page) in_image)

  pub absent_entry : get_or (own_pages entries) page false ≡ false → is_own (entry_at entries page) ≡ false
  absent_entry absent = sym (get_or-map is_own entries page Absent false arrival_there) ∙ absent

  pub ram_of_reply : (content : List ℕ) → get_or (own_pages entries) page false ≡ false → content ≡ ram_page (image_of reply.key) reply.page
      → ram_of (set entries page (Held content)) key ≡ arrived (ram_of entries key) page
  unfolding ram_page
  ram_of_reply content absent is =
      let is_below : content ≡ take PAGE_SIZE (drop (PAGE_SIZE * page) (memory_below key)) =
      is
      ∙ ap (λ p. take PAGE_SIZE (drop (PAGE_SIZE * p) (image_of reply.key).contents)) (sym is_page)
      ∙ ap (λ (image : FrozenImage). take PAGE_SIZE (drop (PAGE_SIZE * page) image.contents)) (sym agree)
      ∙ ap (λ o. take PAGE_SIZE (drop (PAGE_SIZE * page) (memory_below o))) (sym is_key) in
      ram_of_arrival entries key page content arrival_there (absent_entry absent) is_below

  pub reply_was_absent : get_or (own_pages entries) page false ≡ false → slice_get (own_pages entries) page ≡ Some false
  reply_was_absent absent = here_by_entry entries page false arrival_there (absent_entry absent)
