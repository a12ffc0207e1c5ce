-- What holds of every image that is loaded.
use Rattle.std.proofs.Common.{◌≡◌, ℕ, ◌+◌, ◌-◌, ◌*◌, ◌/◌, ◌%◌, ◌<◌, ◌≤◌, Bool, true, false, List, [], ◌∷◌, length}
use Rattle.std.proofs.Common.{get_or, Some, slice_get, max, min, eqb, ltb, leb, refl, sym, ap, ◌∙◌, inl, inr, arith}
use Rattle.std.specs.Prelude.{All, ◌&&◌, map}
use Rattle.std.specs.List.{list_any, range_with_len}
use Rattle.std.proofs.lemmas.Bool.{cases_lt, false_from_ne_true, both_ways, lt-ltb, ltb-true, leb-true, eqb-true, and_parts}
use Rattle.std.proofs.lemmas.List.{get_or_past}
use Rattle.std.proofs.lemmas.List.Folds.{list_any_at}
use Rattle.std.proofs.lemmas.List.FromFn.{length-map-range_with_len, get_or-map-range_with_len}
use Rattle.std.proofs.lemmas.Option.{slice_get_within, get_or_from_slice_get}
use Rattle.elf_load.specs.Image.{Image, IsImage, IsZeroOutside}
use Rattle.elf_load.specs.Elf.{covers, end_of, byte_at, ram_of, touches, pages_of, page_start, is_entry, ram_end}
use Rattle.elf_load.specs.declared.image.TheConstants.{RAM_BASE, MIN_PAGES, MAX_PAGES}
use Rattle.page_frames.specs.declared.page.TheConstants.{PAGE_SIZE}
use Rattle.elf_load.specs.declared.segment.Segment.{Segment}
use Rattle.elf_load.proofs.Order.{byte_at_none}

pub length-ram_of : (file : List ℕ) (segments : List Segment) (pages : ℕ) → length (ram_of file segments pages) ≡ PAGE_SIZE * pages
unfolding ram_of
length-ram_of file segments pages = length-map-range_with_len (λ at. byte_at file segments (RAM_BASE + at)) 0 (PAGE_SIZE * pages)

pub length-pages_of : (segments : List Segment) (pages : ℕ) → length (pages_of segments pages) ≡ pages
unfolding pages_of
length-pages_of segments pages = length-map-range_with_len (λ page. list_any (touches page) segments) 0 pages

-- the flag of a page
flag_at : (segments : List Segment) (pages page : ℕ) → slice_get (pages_of segments pages) page ≡ Some false → list_any (touches page) segments ≡ false
unfolding pages_of
flag_at segments pages page unset =
    let flags = λ (page : ℕ). list_any (touches page) segments in
    let within = slice_get_within (pages_of segments pages) page false unset in
    sym (get_or-map-range_with_len flags 0 pages page page false (omega (arith, length-pages_of segments pages)) (omega arith))
    ∙ get_or_from_slice_get (pages_of segments pages) page false false unset

-- a segment that covers an address touches its page
touches_covered : (s : Segment) (at : ℕ) → covers s (RAM_BASE + at) ≡ true → touches (at / PAGE_SIZE) s ≡ true
touches_covered s at covering =
    let parts = and_parts (leb s.address (RAM_BASE + at)) (ltb (RAM_BASE + at) (end_of s)) covering in
    let from = leb-true s.address (RAM_BASE + at) parts.0 in
    let below = ltb-true (RAM_BASE + at) (end_of s) parts.1 in
    lt-ltb _ _ (omega arith)

IsZeroOutside-pages_of : (file : List ℕ) (segments : List Segment) (pages : ℕ) → IsZeroOutside (pages_of segments pages) (ram_of file segments pages)
unfolding ram_of
IsZeroOutside-pages_of file segments pages at unset =
    let none = flag_at segments pages (at / PAGE_SIZE) unset in
    elim (cases_lt at (PAGE_SIZE * pages)) [
      | inl within ↦
          get_or-map-range_with_len (λ at. byte_at file segments (RAM_BASE + at)) 0 (PAGE_SIZE * pages) at at 0 within (omega arith)
          ∙ byte_at_none file segments (RAM_BASE + at)
          (λ k d inside. false_from_ne_true _ (λ covering. both_ways _ none (list_any_at (touches (at / PAGE_SIZE)) segments k d inside (touches_covered (get_or segments k d) at covering))))
      | inr past ↦ get_or_past _ at 0 (omega (arith, length-ram_of file segments pages))
    ]

pub IsImage-ram_of : (file : List ℕ) (segments : List Segment) (pages entry : ℕ) → MIN_PAGES ≤ pages → pages ≤ MAX_PAGES → is_entry pages entry ≡ true
    → IsImage (record { ram = ram_of file segments pages; entry = entry; segments = pages_of segments pages })
IsImage-ram_of file segments pages entry least most entered =
    let aligned = and_parts (eqb (entry % 4) 0) (leb RAM_BASE entry && ltb entry (ram_end pages)) entered in
    let in_ram = and_parts (leb RAM_BASE entry) (ltb entry (ram_end pages)) aligned.1 in
    let from = leb-true RAM_BASE entry in_ram.0 in
    let below = ltb-true entry (ram_end pages) in_ram.1 in
    let ram_length = length-ram_of file segments pages in
    let pages_length = length-pages_of segments pages in
    record {
      whole_pages = omega arith;
      least = omega arith;
      most = omega arith;
      aligned = eqb-true _ _ aligned.0;
      from_base = from;
      below_end = omega arith;
      zero_outside = IsZeroOutside-pages_of file segments pages;
    }
