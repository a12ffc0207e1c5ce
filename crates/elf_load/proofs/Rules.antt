-- What the rules that are broken, or not, tell of a file.
use Rattle.std.proofs.Common.{◌≡◌, ℕ, ◌+◌, ◌*◌, ◌%◌, ◌<◌, ◌≤◌, Bool, true, false, not, cond, eqb, ltb, leb, List, []}
use Rattle.std.proofs.Common.{◌∷◌, ◌++◌, length, Option, Some, None, Ok, Err, refl, sym, ap, ◌∙◌, inl, inr, arith}
use Rattle.std.specs.Prelude.{All, ◌&&◌}
use Rattle.std.specs.List.{AllPairs, list_any}
use Rattle.std.specs.List.Sorted.{IsPermutation}
use Rattle.std.proofs.lemmas.Bool.{cases_Bool, cond-true, cond-false, both_ways, false_from_ne_true, ltb-true, ltb-false, leb-true, eqb-true, not-false, or_parts, and_parts}
use Rattle.std.proofs.lemmas.List.Elements.{All-filter, All-weaker, filter_passes}
use Rattle.std.proofs.lemmas.List.Folds.{list_any_at}
use Rattle.std.proofs.lemmas.List.Sorted.{All-permutation, list_any-IsPermutation}
use Rattle.elf_load.specs.Elf.{header_rules, place_rules, rules_of, first_broken, loads_of, segments_of, non_empty, e_entry, is_overfull, is_cut, is_outside}
use Rattle.elf_load.specs.Elf.{overlap, is_entry, loaded, image_of, unless_refused, end_of, ram_end, IsRefused, NamesRule, IsInFile, IsInRam}
use Rattle.elf_load.specs.declared.error.ImageError.{ImageError}
use Rattle.elf_load.specs.declared.error.ImageError.TheVariants.{Refused, Memory}
use Rattle.elf_load.specs.declared.image.TheConstants.{RAM_BASE}
use Rattle.page_frames.specs.declared.page.TheConstants.{PAGE_SIZE}
use Rattle.elf_load.specs.declared.segment.Segment.{Segment}
use Rattle.elf_load.proofs.Overlap.{overlap-IsPermutation}

first_broken-append : (front back : List (ℕ × Bool)) → first_broken front ≡ None → first_broken (front ++ back) ≡ first_broken back
first_broken-append [] back none = refl
first_broken-append ((number, true) ∷ front) back none = cc
first_broken-append ((number, false) ∷ front) back none = first_broken-append front back none

first_broken_front : (front back : List (ℕ × Bool)) (n : ℕ) → first_broken front ≡ Some n → first_broken (front ++ back) ≡ Some n
first_broken_front [] back n some = cc
first_broken_front ((number, true) ∷ front) back n some = some
first_broken_front ((number, false) ∷ front) back n some = first_broken_front front back n some

-- a file that breaks a rule on its header, the rule on sizes, a rule on places, or none
pub loaded_header_broken : (file : List ℕ) (pages n : ℕ) → first_broken (header_rules file) ≡ Some n → loaded file pages ≡ Err n
unfolding loaded rules_of
loaded_header_broken file pages n broken =
    ap (λ b. unless_refused b (image_of file pages)) (first_broken_front (header_rules file) _ n broken)

pub loaded_overfull : (file : List ℕ) (pages : ℕ) → first_broken (header_rules file) ≡ None → list_any is_overfull (loads_of file) ≡ true → loaded file pages ≡ Err 8
unfolding loaded rules_of
loaded_overfull file pages unbroken overfull =
    ap (λ b. unless_refused b (image_of file pages)) (first_broken-append (header_rules file) _ unbroken ∙ cond-true _ _ _ overfull)

-- the errors that tell of these
pub refused_by_header : (file : List ℕ) (pages : ℕ) (error : ImageError) → NamesRule (first_broken (header_rules file)) error → IsRefused file pages error
refused_by_header file pages (Refused number) broken = loaded_header_broken file pages number broken
refused_by_header file pages Memory broken = tt

pub refused_by_size : (file : List ℕ) (pages : ℕ) (error : ImageError) → first_broken (header_rules file) ≡ None
    → NamesRule (cond (list_any is_overfull (loads_of file)) (Some 8) None) error → IsRefused file pages error
refused_by_size file pages (Refused number) unbroken broken =
    elim (cases_Bool (list_any is_overfull (loads_of file))) [
      | inl overfull ↦ (
          let is_eight : Some 8 ≡ Some number = sym (cond-true _ _ _ overfull) ∙ broken in
          loaded_overfull file pages unbroken overfull ∙ ap Err (let same : 8 ≡ number = cc in same))
      | inr fit ↦ absurd (let none : None ≡ Some number = sym (cond-false _ _ _ fit) ∙ broken in let no : ⊥ = cc in no)
    ]
refused_by_size file pages Memory unbroken broken = tt

-- the order of the segments is of no matter
place_rules-IsPermutation : (file : List ℕ) (pages entry : ℕ) (segments others : List Segment) → IsPermutation segments others
    → place_rules file pages segments entry ≡ place_rules file pages others entry
unfolding place_rules
place_rules-IsPermutation file pages entry segments others same =
    let cut = list_any-IsPermutation (is_cut file) segments others same in
    let outside = list_any-IsPermutation (is_outside pages) segments others same in
    let overlapping = overlap-IsPermutation segments others same in
    cc

loaded_by_places : (file : List ℕ) (pages : ℕ) (sorted : List Segment) → first_broken (header_rules file) ≡ None → list_any is_overfull (loads_of file) ≡ false
    → IsPermutation (segments_of file) sorted
    → loaded file pages ≡ unless_refused (first_broken (place_rules file pages sorted (e_entry file))) (image_of file pages)
unfolding loaded rules_of
loaded_by_places file pages sorted unbroken exact same =
    ap (λ b. unless_refused b (image_of file pages))
    (first_broken-append (header_rules file) _ unbroken ∙ cond-false _ _ _ exact
    ∙ ap first_broken (place_rules-IsPermutation file pages (e_entry file) (segments_of file) sorted same))

pub loaded_place_broken : (file : List ℕ) (pages : ℕ) (sorted : List Segment) (n : ℕ) → first_broken (header_rules file) ≡ None → list_any is_overfull (loads_of file) ≡ false
    → IsPermutation (segments_of file) sorted → first_broken (place_rules file pages sorted (e_entry file)) ≡ Some n → loaded file pages ≡ Err n
loaded_place_broken file pages sorted n unbroken exact same broken =
    loaded_by_places file pages sorted unbroken exact same ∙ ap (λ b. unless_refused b (image_of file pages)) broken

pub loaded_unbroken : (file : List ℕ) (pages : ℕ) (sorted : List Segment) → first_broken (header_rules file) ≡ None → list_any is_overfull (loads_of file) ≡ false
    → IsPermutation (segments_of file) sorted → first_broken (place_rules file pages sorted (e_entry file)) ≡ None → loaded file pages ≡ Ok (image_of file pages)
loaded_unbroken file pages sorted unbroken exact same places =
    loaded_by_places file pages sorted unbroken exact same ∙ ap (λ b. unless_refused b (image_of file pages)) places

-- what segments and an entry that break no rule on places are
pub record ArePlaced (file : List ℕ) (pages : ℕ) (segments : List Segment) (entry : ℕ) : Type 0 where
  pub none_cut : list_any (is_cut file) segments ≡ false
  pub none_outside : list_any (is_outside pages) segments ≡ false
  pub no_overlap : overlap segments ≡ false
  pub entered : is_entry pages entry ≡ true

all_false : (a b c d : Bool) → first_broken ((9, a) ∷ (10, b) ∷ (11, c) ∷ (12, not d) ∷ []) ≡ None → (a ≡ false) × (b ≡ false) × (c ≡ false) × (d ≡ true)
all_false true b c d none = cc
all_false false true c d none = cc
all_false false false true d none = cc
all_false false false false false none = cc
all_false false false false true none = (refl, refl, refl, refl)

pub placed_from_unbroken : (file : List ℕ) (pages : ℕ) (segments : List Segment) (entry : ℕ) → first_broken (place_rules file pages segments entry) ≡ None → ArePlaced file pages segments entry
unfolding place_rules
placed_from_unbroken file pages segments entry none =
    let f = all_false (list_any (is_cut file) segments) (list_any (is_outside pages) segments) (overlap segments) (is_entry pages entry) none in
    record { none_cut = f.0; none_outside = f.1; no_overlap = f.2; entered = f.3 }

-- no element passes a test
all_fail : (p : Segment → Bool) (xs : List Segment) → list_any p xs ≡ false → All (λ x. p x ≡ false) xs
all_fail p xs none k d within = false_from_ne_true _ (λ passes. both_ways _ none (list_any_at p xs k d within passes))

-- of the segments of a file, in any order
pub all_not_empty : (loads sorted : List Segment) → IsPermutation (non_empty loads) sorted → All (λ (s : Segment). 0 < s.memory_size) sorted
all_not_empty loads sorted same =
    let some = λ (s : Segment). ltb 0 s.memory_size in
    All-permutation (λ (s : Segment). 0 < s.memory_size) (non_empty loads) sorted same
    (All-weaker (λ s. some s ≡ true) (λ (s : Segment). 0 < s.memory_size) (λ s h. ltb-true 0 s.memory_size h) (non_empty loads) (filter_passes some loads))

pub all_in_file : (file : List ℕ) (loads sorted : List Segment) → list_any is_overfull loads ≡ false → IsPermutation (non_empty loads) sorted → list_any (is_cut file) sorted ≡ false
    → All (IsInFile file) sorted
all_in_file file loads sorted exact same none_cut k d within =
    let fit =
    All-permutation (λ s. is_overfull s ≡ false) (non_empty loads) sorted same
    (All-filter (λ (s : Segment). ltb 0 s.memory_size) (λ s. is_overfull s ≡ false) loads (all_fail is_overfull loads exact)) in
    record {
      within = ltb-false _ _ (all_fail (is_cut file) sorted none_cut k d within);
      fits = ltb-false _ _ (fit k d within);
    }

pub all_in_ram : (pages : ℕ) (loads sorted : List Segment) → IsPermutation (non_empty loads) sorted → list_any (is_outside pages) sorted ≡ false → All (IsInRam pages) sorted
all_in_ram pages loads sorted same none_outside k d within =
    let inside = or_parts _ _ (all_fail (is_outside pages) sorted none_outside k d within) in
    record {
      not_empty = all_not_empty loads sorted same k d within;
      from_base = ltb-false _ _ inside.0;
      within = ltb-false _ _ inside.1;
    }
