-- Segments in the order of their addresses, after the rules on places.
use Rattle.std.proofs.Common.{◌≡◌, ℕ, ◌≤◌, ◌<◌, true, false, List, Some, None, Option, Ok, Err, sym, ap, ◌∙◌}
use Rattle.std.specs.Prelude.{All}
use Rattle.std.specs.List.{AllPairs, list_any}
use Rattle.std.specs.List.Sorted.{IsPermutation, IsNonDecreasingBy}
use Rattle.elf_load.specs.Elf.{e_entry, header_rules, place_rules, first_broken, loads_of, segments_of, is_overfull, is_entry, ram_of, pages_of, image_of, loaded, IsInFile, IsInRam, IsBelow}
use Rattle.elf_load.specs.declared.segment.Segment.{Segment}
use Rattle.elf_load.proofs.Order.{ram_of-IsPermutation, pages_of-IsPermutation}
use Rattle.elf_load.proofs.Overlap.{in_order_from_overlap}
use Rattle.elf_load.proofs.Rules.{loaded_place_broken, loaded_unbroken, placed_from_unbroken, all_not_empty, all_in_file, all_in_ram}

-- a file that breaks no rule before those on places, with its entry and its segments by their addresses
pub record IsRead (file : List ℕ) (sorted : List Segment) (entry : ℕ) : Type 0 where
  pub unbroken : first_broken (header_rules file) ≡ None
  pub entered : entry ≡ e_entry file
  pub placed : IsPermutation (segments_of file) sorted
  pub rising : IsNonDecreasingBy (λ (s : Segment). s.address) sorted
  pub fit : list_any is_overfull (loads_of file) ≡ false

pub place_broken : (file : List ℕ) (pages : ℕ) (sorted : List Segment) (entry number : ℕ) → IsRead file sorted entry
    → first_broken (place_rules file pages sorted entry) ≡ Some number → loaded file pages ≡ Err number
place_broken file pages sorted entry number h broken =
    loaded_place_broken file pages sorted number h.unbroken h.fit h.placed
    (ap (λ entry. first_broken (place_rules file pages sorted entry)) (sym h.entered) ∙ broken)

-- what placing them asks, and what it comes to
pub record MayPlace (file : List ℕ) (pages : ℕ) (sorted : List Segment) (entry : ℕ) : Type 0 where
  pub in_file : All (IsInFile file) sorted
  pub in_ram : All (IsInRam pages) sorted
  pub in_order : AllPairs IsBelow sorted
  pub entered : is_entry pages entry ≡ true
  pub loads : loaded file pages ≡ Ok (record { ram = ram_of file sorted pages; entry = entry; segments = pages_of sorted pages })

image_of-sorted : (file : List ℕ) (pages : ℕ) (sorted : List Segment) (entry : ℕ) → IsPermutation (segments_of file) sorted → AllPairs IsBelow sorted → entry ≡ e_entry file
    → image_of file pages ≡ record { ram = ram_of file sorted pages; entry = entry; segments = pages_of sorted pages }
unfolding image_of
image_of-sorted file pages sorted entry same in_order entered =
    let ram = ram_of-IsPermutation file (segments_of file) sorted pages same in_order in
    let flags = pages_of-IsPermutation (segments_of file) sorted pages same in
    cc

pub may_place : (file : List ℕ) (pages : ℕ) (sorted : List Segment) (entry : ℕ) → IsRead file sorted entry
    → first_broken (place_rules file pages sorted entry) ≡ None → MayPlace file pages sorted entry
may_place file pages sorted entry h places =
    let placed = placed_from_unbroken file pages sorted entry places in
    let in_order = in_order_from_overlap sorted h.rising (all_not_empty (loads_of file) sorted h.placed) placed.no_overlap in
    record {
      in_file = all_in_file file (loads_of file) sorted h.fit h.placed placed.none_cut;
      in_ram = all_in_ram pages (loads_of file) sorted h.placed placed.none_outside;
      in_order = in_order;
      entered = placed.entered;
      loads =
          loaded_unbroken file pages sorted h.unbroken h.fit h.placed
          (ap (λ entry. first_broken (place_rules file pages sorted entry)) (sym h.entered) ∙ places)
          ∙ ap Ok (image_of-sorted file pages sorted entry h.placed in_order h.entered);
    }
