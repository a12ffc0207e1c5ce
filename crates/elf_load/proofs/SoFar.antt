-- RAM with the first segments in it.
use Rattle.std.proofs.Common.{◌≡◌, ℕ, ◌+◌, ◌-◌, ◌*◌, ◌/◌, ◌%◌, ◌<◌, ◌≤◌, Bool, true, false, List, [], ◌∷◌, ◌++◌, length, map, take, drop, get_or, replicate, refl, sym, ap, ◌∙◌, subst, arith}
use Rattle.std.specs.Prelude.{All, ◌||◌}
use Rattle.std.specs.List.{AllPairs, list_any}
use Rattle.std.proofs.lemmas.List.{get_or-map, get_or-replicate, get_or_default, length-map, length-replicate, length-take, take_all, take_more}
use Rattle.std.proofs.lemmas.List.Elements.{All-replicate}
use Rattle.std.proofs.lemmas.List.Folds.{list_any_more}
use Rattle.std.proofs.lemmas.List.FromFn.{fill_by_all}
use Rattle.flat_memory.specs.Flat.{put_bytes}
use Rattle.page_frames.specs.declared.entry.Entry.{Entry}
use Rattle.page_frames.specs.declared.entry.Entry.TheVariants.{Blank, Absent}
use Rattle.page_frames.specs.Tables.{byte_over, entry_at, is_own, laid_over}
use Rattle.page_frames.proofs.Memory.{get_or-laid_over, length-laid_over}
use Rattle.elf_load.specs.Image.{IsWhole, held_pages, is_held}
use Rattle.elf_load.specs.Elf.{IsBelow, IsInFile, IsInRam, byte_at, end_of, pages_of, ram_of, touches}
use Rattle.elf_load.specs.declared.image.TheConstants.{RAM_BASE}
use Rattle.page_frames.specs.declared.page.TheConstants.{PAGE_SIZE}
use Rattle.elf_load.specs.declared.segment.Segment.{Segment}
use Rattle.elf_load.proofs.RamBytes.{bytes_put, in_order_before}

-- a table has the bytes of the first i segments, and holds the pages in which a byte of them falls
pub record IsRamSoFar (file : List ℕ) (segments : List Segment) (pages i : ℕ) (table : List Entry) : Type 0 where
  pub size : length table ≡ pages
  pub whole : IsWhole table
  pub bytes : (at : ℕ) → at < PAGE_SIZE * pages → get_or (laid_over table []) at 0 ≡ byte_at file (take i segments) (RAM_BASE + at)
  pub flags : (page : ℕ) → page < pages → get_or (held_pages table) page false ≡ list_any (touches page) (take i segments)

pub ram_none : (file : List ℕ) (segments : List Segment) (pages : ℕ) (table : List Entry) → table ≡ replicate pages Blank → IsRamSoFar file segments pages 0 table
ram_none file segments pages table is =
    subst (λ (t : List Entry). IsRamSoFar file segments pages 0 t) (sym is)
    (let blank = replicate pages Blank in
    let size = length-replicate pages Blank in
    record {
      size = size;
      whole = All-replicate (λ (e : Entry). is_own e ≡ true) pages Blank refl;
      bytes = λ at inside.
          get_or-laid_over blank [] at (omega (arith, size))
          ∙ ap (λ (e : Entry). byte_over e (at % PAGE_SIZE) (get_or [] at 0)) (get_or-replicate pages (at / PAGE_SIZE) Blank Absent (omega arith));
      flags = λ page inside.
          get_or-map is_held blank page Absent false (omega (arith, size)) ∙ ap is_held (get_or-replicate pages page Blank Absent inside);
    })

-- the segment at a place more
pub ram_more : (file : List ℕ) (segments : List Segment) (pages i : ℕ) (d : Segment) (old new : List Entry) → i < length segments
    → All (IsInFile file) segments → All (IsInRam pages) segments → AllPairs IsBelow segments → IsRamSoFar file segments pages i old
    → laid_over new [] ≡ put_bytes (laid_over old []) ((get_or segments i d).address - RAM_BASE) (take (get_or segments i d).file_size (drop (get_or segments i d).offset file))
    → ((page : ℕ) → page < length old → get_or (held_pages new) page false ≡ (get_or (held_pages old) page false || touches page (get_or segments i d)))
    → IsWhole new → length new ≡ length old → IsRamSoFar file segments pages (i + 1) new
ram_more file segments pages i d old new within in_file in_ram in_order sofar put flagged whole same =
    let s = get_or segments i d in
    let source = in_file i d within in
    let place = in_ram i d within in
    let size : length (laid_over old []) ≡ PAGE_SIZE * pages = length-laid_over old [] ∙ ap (λ n. PAGE_SIZE * n) sofar.size in
    record {
      size = same ∙ sofar.size;
      whole = whole;
      bytes = λ at inside.
          ap (λ memory. get_or memory at 0) put
          ∙ bytes_put file (take i segments) s (laid_over old []) source.fits source.within
          (λ k e there. in_order_before segments i k d e within (omega (arith, length-take i segments)) in_order)
          place.from_base (omega (arith, size, source.fits, place.within, place.from_base))
          (λ k below. sofar.bytes k (omega (arith, size))) at (omega (arith, size))
          ∙ ap (λ placed. byte_at file placed (RAM_BASE + at)) (sym (take_more segments i d within));
      flags = λ page inside.
          flagged page (omega (arith, sofar.size)) ∙ ap (λ flag. flag || touches page s) (sofar.flags page inside)
          ∙ sym (list_any_more (touches page) segments i d within);
    }

-- all segments
module _ (file : List ℕ) (segments : List Segment) (pages i : ℕ) (table : List Entry) (past : length segments ≤ i) (sofar : IsRamSoFar file segments pages i table) where
  pub ram_all : laid_over table [] ≡ ram_of file segments pages
  unfolding ram_of
  ram_all =
      fill_by_all (λ at. byte_at file segments (RAM_BASE + at)) (laid_over table []) (PAGE_SIZE * pages) 0 (length-laid_over table [] ∙ ap (λ n. PAGE_SIZE * n) sofar.size)
      (λ at inside. sofar.bytes at inside ∙ ap (λ placed. byte_at file placed (RAM_BASE + at)) (take_all i segments past))

  pub pages_all : held_pages table ≡ pages_of segments pages
  unfolding pages_of
  pages_all =
      fill_by_all (λ page. list_any (touches page) segments) (held_pages table) pages false (length-map table is_held ∙ sofar.size)
      (λ page inside. sofar.flags page inside ∙ ap (list_any (touches page)) (take_all i segments past))
