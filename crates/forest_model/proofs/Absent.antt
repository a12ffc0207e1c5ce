-- No step makes a page absent, and an arrival leaves one absent page fewer. It is the same before a step as after it.
use Rattle.std.proofs.Common.{◌≡◌, ℕ, zero, suc, ◌+◌, ◌≤◌, Bool, true, false, List, [], ◌∷◌, ◌++◌, take, drop}
use Rattle.std.proofs.Common.{replicate, set, Some, refl, sym, ap, ◌∙◌, subst, arith, suc-add, zero-add}
use Rattle.std.specs.Prelude.{slice_get}
use Rattle.std.proofs.lemmas.List.{drop-drop}
use Rattle.forest_model.specs.Footprint.{Change, no_change, puts, zeroes}
use Rattle.forest_model.specs.Touch.{change}
use Rattle.forest_model.specs.Paged.{Pages, Paged, absent_count, advanced, advanced_by, pages_after, pages_arrived, with_set}

absent-append : (xs ys : List Bool) → absent_count (xs ++ ys) ≡ absent_count xs + absent_count ys
unfolding absent_count
absent-append [] ys = omega arith
absent-append (x ∷ xs) ys = let rest = absent-append xs ys in omega arith

absent-replicate : (n : ℕ) → absent_count (replicate n true) ≡ 0
unfolding absent_count
absent-replicate zero = refl
absent-replicate (suc n) = let rest = absent-replicate n in omega arith

absent-drop : (n : ℕ) (xs : List Bool) → absent_count (drop n xs) ≤ absent_count xs
unfolding absent_count
absent-drop zero xs = omega arith
absent-drop (suc n) [] = omega arith
absent-drop (suc n) (x ∷ xs) = let rest = absent-drop n xs in omega arith

absent-split : (n : ℕ) (xs : List Bool) → absent_count (take n xs) + absent_count (drop n xs) ≡ absent_count xs
unfolding absent_count
absent-split zero xs = omega arith
absent-split (suc n) [] = omega arith
absent-split (suc n) (x ∷ xs) = let rest = absent-split n xs in omega arith

absent-with_set : (flags : List Bool) (first count : ℕ) → absent_count (with_set flags first count) ≤ absent_count flags
absent-with_set flags first count =
    let whole = absent-append (take first flags) (replicate count true ++ drop (first + count) flags) in
    let rest = absent-append (replicate count true) (drop (first + count) flags) in
    let none = absent-replicate count in
    let fewer : absent_count (drop (first + count) flags) ≤ absent_count (drop first flags) =
    subst (λ xs. absent_count xs ≤ absent_count (drop first flags)) (drop-drop count first flags) (absent-drop count (drop first flags)) in
    let split = absent-split first flags in
    omega arith

absent-after : (c : Change) (pages : Pages) → absent_count (pages_after c pages).here ≤ absent_count pages.here
absent-after no_change pages = omega arith
absent-after (puts page) pages = omega arith
absent-after (zeroes first count) pages = absent-with_set pages.here first count

pub absent-advanced_by : (n : ℕ) (p : Paged) → absent_count (advanced_by n p).pages.here ≤ absent_count p.pages.here
unfolding advanced_by
absent-advanced_by zero p = omega arith
absent-advanced_by (suc n) p =
    let rest = absent-advanced_by n (advanced p) in
    let first = absent-after (change p.machine) p.pages in
    omega arith

one-fewer : (x : Bool) (rest : List Bool) → x ≡ false → absent_count (true ∷ rest) + 1 ≡ absent_count (x ∷ rest)
unfolding absent_count
one-fewer true rest absent = absurd (cc)
one-fewer false rest absent = omega arith

pub absent-arrived : (here : List Bool) (page : ℕ) → slice_get here page ≡ Some false → absent_count (set here page true) + 1 ≡ absent_count here
unfolding absent_count
absent-arrived [] page is = absurd (cc)
absent-arrived (x ∷ rest) zero is = one-fewer x rest (cc)
absent-arrived (x ∷ rest) (suc page) is = let later = absent-arrived rest page is in omega arith

-- ---- a page that comes before a step, or after it

drop-none : (n : ℕ) → ◌≡◌ {A = List Bool} (drop n []) []
drop-none zero = refl
drop-none (suc n) = refl

set-zeroed : (count page : ℕ) (flags : List Bool) → replicate count true ++ drop count (set flags page true) ≡ set (replicate count true ++ drop count flags) page true
set-zeroed zero page flags = refl
set-zeroed (suc n) zero [] = refl
set-zeroed (suc n) (suc page) [] =
    ap (λ (xs : List Bool). true ∷ xs)
    (ap (λ xs. replicate n true ++ xs) (sym (drop-none n)) ∙ set-zeroed n page [] ∙ ap (λ xs. set (replicate n true ++ xs) page true) (drop-none n))
set-zeroed (suc n) zero (x ∷ rest) = refl
set-zeroed (suc n) (suc page) (x ∷ rest) = ap (λ (xs : List Bool). true ∷ xs) (set-zeroed n page rest)

with_set-later : (x : Bool) (rest : List Bool) (first count : ℕ) → with_set (x ∷ rest) (suc first) count ≡ x ∷ with_set rest first count
with_set-later x rest first count = ap (λ n. x ∷ (take first rest ++ (replicate count true ++ drop n (x ∷ rest)))) (suc-add first count)

set-with_set : (flags : List Bool) (first count page : ℕ) → with_set (set flags page true) first count ≡ set (with_set flags first count) page true
set-with_set flags zero count page =
    ap (λ n. replicate count true ++ drop n (set flags page true)) (zero-add count)
    ∙ set-zeroed count page flags
    ∙ ap (λ n. set (replicate count true ++ drop n flags) page true) (sym (zero-add count))
set-with_set [] (suc first) count page =
    ap (λ xs. replicate count true ++ xs) (drop-none (suc first + count) ∙ sym (drop-none count))
    ∙ set-zeroed count page []
    ∙ ap (λ xs. set (replicate count true ++ xs) page true) (drop-none count ∙ sym (drop-none (suc first + count)))
set-with_set (x ∷ rest) (suc first) count zero =
    with_set-later true rest first count ∙ sym (ap (λ xs. set xs zero true) (with_set-later x rest first count))
set-with_set (x ∷ rest) (suc first) count (suc page) =
    with_set-later x (set rest page true) first count
    ∙ ap (λ (xs : List Bool). x ∷ xs) (set-with_set rest first count page)
    ∙ sym (ap (λ xs. set xs (suc page) true) (with_set-later x rest first count))

arrived-after : (c : Change) (page : ℕ) (pages : Pages) → pages_after c (pages_arrived page pages) ≡ pages_arrived page (pages_after c pages)
arrived-after no_change page pages = refl
arrived-after (puts at) page pages = refl
arrived-after (zeroes first count) page pages =
    ap (λ (here : List Bool). record { here = here; blank = with_set pages.blank first count }) (set-with_set pages.here first count page)

pub arrived-advanced_by : (n page : ℕ) (p : Paged)
    → advanced_by n (record p { pages = pages_arrived page p.pages }) ≡ record (advanced_by n p) { pages = pages_arrived page (advanced_by n p).pages }
unfolding advanced_by
arrived-advanced_by zero page p = refl
arrived-advanced_by (suc n) page p =
    ap (λ (pages : Pages). advanced_by n (record { machine = (advanced p).machine; pages = pages })) (arrived-after (change p.machine) page p.pages)
    ∙ arrived-advanced_by n page (advanced p)
