-- The lengths of runs of equal flags, and their flags.
use Rattle.std.proofs.Common.{◌≡◌, ◌≢◌, ◌≤◌, ◌<◌, ◌+◌, ◌-◌, ◌*◌, ◌%◌, ◌^◌, ℕ, zero, suc, List, [], ◌∷◌, ◌++◌, length, take, drop, replicate, get_or, sym, ap, ap₂, ◌∙◌, refl, true, false, arith}
use Rattle.std.specs.Prelude.{Bool, not, ◌&&◌, ◌||◌, ◌==◌, nat_le, nat_lt, if◌then◌else◌}
use Rattle.std.specs.Bool.{beq}
use Rattle.std.specs.Cmp.Derive.{both_true}
use Rattle.std.specs.List.{flat_map, list_all, sum}
use Rattle.std.proofs.lemmas.Bool.{and_parts, eq-eqb, eqb-false, eqb-true, le-leb, leb-true, lt-ltb}
use Rattle.std.proofs.lemmas.List.{append_assoc, length-append, length-replicate, replicate_more}
use Rattle.std.proofs.lemmas.List.Sums.{sum_by-cons}
use Rattle.byteorder.specs.Numbers.{little_number-reads_back}
use Rattle.byteorder.specs.Endian.{little_number}
use Rattle.flat_memory.proofs.ByteLists.{AreBytes}
use Rattle.shared_leaves.specs.Choices.{flags_of_runs}
use Rattle.vm_descriptor.specs.Maps.{are_runs, half, halves, runs, runs_behind}

abbrev pub some : ℕ → Bool
some run = nat_lt 0 run

pub sum_then : (x : ℕ) (xs : List ℕ) → sum (x ∷ xs) ≡ x + sum xs
sum_then x xs = sum_by-cons (λ n. n) x xs

one_more : (flag : Bool) (count : ℕ) (flags : List Bool) → replicate (count + 1) flag ++ flags ≡ replicate count flag ++ (flag ∷ flags)
one_more flag count flags = ap (λ fs. fs ++ flags) (sym (replicate_more count flag)) ∙ append_assoc (replicate count flag) (flag ∷ []) flags

-- the flags of runs that are told of flags
pub flags_back : (flag : Bool) (count : ℕ) (flags : List Bool) → flags_of_runs flag (runs_behind flag count flags) ≡ replicate count flag ++ flags
unfolding runs_behind flags_of_runs
flags_back flag count [] = refl
flags_back true count (true ∷ flags) = flags_back true (count + 1) flags ∙ one_more true count flags
flags_back false count (false ∷ flags) = flags_back false (count + 1) flags ∙ one_more false count flags
flags_back true count (false ∷ flags) = ap (λ fs. replicate count true ++ fs) (flags_back false 1 flags)
flags_back false count (true ∷ flags) = ap (λ fs. replicate count false ++ fs) (flags_back true 1 flags)

-- the flags of their runs
pub flags_in_again : (flags : List Bool) → flags_of_runs false (runs flags) ≡ flags
flags_in_again flags = flags_back false 0 flags

-- there are as many flags as the runs tell
pub length_of_runs : (flag : Bool) (lengths : List ℕ) → length (flags_of_runs flag lengths) ≡ sum lengths
unfolding flags_of_runs
length_of_runs flag [] = refl
length_of_runs flag (run ∷ later) =
    length-append (replicate run flag) (flags_of_runs (not flag) later)
    ∙ ap₂ (λ m n. m + n) (length-replicate run flag) (length_of_runs (not flag) later)
    ∙ sym (sum_then run later)

pub sum_runs : (flags : List Bool) → sum (runs flags) ≡ length flags
sum_runs flags = sym (length_of_runs false (runs flags)) ∙ ap (λ (fs : List Bool). length fs) (flags_back false 0 flags)

all_some : (flag : Bool) (count : ℕ) (flags : List Bool) → 0 < count → list_all some (runs_behind flag count flags) ≡ true
unfolding runs_behind
all_some flag count [] is = both_true (lt-ltb 0 count is) refl
all_some true count (true ∷ flags) is = all_some true (count + 1) flags (omega arith)
all_some false count (false ∷ flags) is = all_some false (count + 1) flags (omega arith)
all_some true count (false ∷ flags) is = both_true (lt-ltb 0 count is) (all_some false 1 flags (omega arith))
all_some false count (true ∷ flags) is = both_true (lt-ltb 0 count is) (all_some true 1 flags (omega arith))

later_some : (flag : Bool) (count : ℕ) (flags : List Bool) → list_all some (drop 1 (runs_behind flag count flags)) ≡ true
unfolding runs_behind
later_some flag count [] = refl
later_some true count (true ∷ flags) = later_some true (count + 1) flags
later_some false count (false ∷ flags) = later_some false (count + 1) flags
later_some true count (false ∷ flags) = all_some false 1 flags (omega arith)
later_some false count (true ∷ flags) = all_some true 1 flags (omega arith)

-- the runs of flags are runs
pub runs_are : (flags : List Bool) → are_runs (length flags) (runs flags) ≡ true
runs_are flags = both_true (later_some false 0 flags) (eq-eqb (sum (runs flags)) (length flags) (sum_runs flags))

runs_more : (flag : Bool) (count run : ℕ) (flags : List Bool) → runs_behind flag count (replicate run flag ++ flags) ≡ runs_behind flag (count + run) flags
unfolding runs_behind
runs_more flag count zero flags = ap (λ n. runs_behind flag n flags) (omega arith)
runs_more true count (suc run) flags = runs_more true (count + 1) run flags ∙ ap (λ n. runs_behind true n flags) (omega arith)
runs_more false count (suc run) flags = runs_more false (count + 1) run flags ∙ ap (λ n. runs_behind false n flags) (omega arith)

same_runs : {run run' : ℕ} {later later' : List ℕ} → run ≡ run' → later ≡ later' → run ∷ later ≡ run' ∷ later'
same_runs p q = cc

next_runs : (flag : Bool) (run : ℕ) (later : List ℕ) → runs_behind flag (1 + run) (flags_of_runs (not flag) later) ≡ (1 + run) ∷ later
    → runs_behind flag 1 (replicate run flag ++ flags_of_runs (not flag) later) ≡ suc run ∷ later
next_runs flag run later is = runs_more flag 1 run (flags_of_runs (not flag) later) ∙ is ∙ same_runs (omega arith) refl

-- the runs of the flags that runs tell
runs_back : (flag : Bool) (count : ℕ) (later : List ℕ) → list_all some later ≡ true → runs_behind flag count (flags_of_runs (not flag) later) ≡ count ∷ later
unfolding runs_behind flags_of_runs
runs_back flag count [] are = refl
runs_back flag count (zero ∷ later) are = absurd (cc)
runs_back true count (suc run ∷ later) are =
    same_runs refl (next_runs false run later (runs_back false (1 + run) later (and_parts (some (suc run)) (list_all some later) are).1))
runs_back false count (suc run ∷ later) are =
    same_runs refl (next_runs true run later (runs_back true (1 + run) later (and_parts (some (suc run)) (list_all some later) are).1))

pub runs_kept : (pages : ℕ) (lengths : List ℕ) → 0 < pages → are_runs pages lengths ≡ true → runs (flags_of_runs false lengths) ≡ lengths
unfolding flags_of_runs
runs_kept pages [] positive are =
    let none : 0 ≡ pages = eqb-true 0 pages (and_parts (list_all some []) (sum [] == pages) are).1 in
    absurd (omega (arith, none, positive))
runs_kept pages (run ∷ later) positive are =
    let parts = and_parts (list_all some later) (sum (run ∷ later) == pages) are in
    runs_more false 0 run (flags_of_runs true later) ∙ runs_back false (0 + run) later parts.0 ∙ same_runs (omega arith) refl

pub length_kept : (pages : ℕ) (lengths : List ℕ) → are_runs pages lengths ≡ true → length (flags_of_runs false lengths) ≡ pages
length_kept pages lengths are =
    length_of_runs false lengths ∙ eqb-true (sum lengths) pages (and_parts (list_all some (drop 1 lengths)) (sum lengths == pages) are).1

-- ---- one flag after the other

-- a flag more of the same run, and the first of the next
pub same_run : (flag : Bool) (count : ℕ) (next : Bool) (flags : List Bool) → next ≡ flag → runs_behind flag count (next ∷ flags) ≡ runs_behind flag (count + 1) flags
unfolding runs_behind
same_run true count true flags is = refl
same_run false count false flags is = refl
same_run true count false flags is = absurd (cc)
same_run false count true flags is = absurd (cc)

pub next_run : (flag : Bool) (count : ℕ) (next : Bool) (flags : List Bool) → next ≢ flag → runs_behind flag count (next ∷ flags) ≡ count ∷ runs_behind next 1 flags
unfolding runs_behind
next_run true count false flags differ = refl
next_run false count true flags differ = refl
next_run true count true flags differ = absurd (differ refl)
next_run false count false flags differ = absurd (differ refl)

-- ---- how many there are

abbrev pub changes : Bool → List Bool → ℕ
changes last [] = 0
changes last (flag ∷ flags) = if beq flag last then changes last flags else (1 + changes flag flags)

count_by : (flag : Bool) (count : ℕ) (flags : List Bool) → length (runs_behind flag count flags) ≡ 1 + changes flag flags
unfolding runs_behind
count_by flag count [] = refl
count_by true count (true ∷ flags) = count_by true (count + 1) flags
count_by false count (false ∷ flags) = count_by false (count + 1) flags
count_by true count (false ∷ flags) = let later = count_by false 1 flags in omega (arith, later)
count_by false count (true ∷ flags) = let later = count_by true 1 flags in omega (arith, later)

pub same_changes : (last next : Bool) (flags : List Bool) → next ≡ last → changes last (next ∷ flags) ≡ changes last flags
same_changes true true flags is = refl
same_changes false false flags is = refl
same_changes true false flags is = absurd (cc)
same_changes false true flags is = absurd (cc)

pub next_changes : (last next : Bool) (flags : List Bool) → next ≢ last → changes last (next ∷ flags) ≡ 1 + changes next flags
next_changes true false flags differ = refl
next_changes false true flags differ = refl
next_changes true true flags differ = absurd (differ refl)
next_changes false false flags differ = absurd (differ refl)

pub count_runs : (flags : List Bool) → length (runs flags) ≡ 1 + changes false flags
count_runs flags = count_by false 0 flags

changes_few : (last : Bool) (flags : List Bool) → changes last flags ≤ length flags
changes_few last [] = omega arith
changes_few true (true ∷ flags) = let rest = changes_few true flags in omega (arith, rest)
changes_few false (false ∷ flags) = let rest = changes_few false flags in omega (arith, rest)
changes_few true (false ∷ flags) = let rest = changes_few false flags in omega (arith, rest)
changes_few false (true ∷ flags) = let rest = changes_few true flags in omega (arith, rest)

-- no more than there are flags, and one
pub few_runs : (flags : List Bool) → length (runs flags) ≤ length flags + 1
few_runs flags = let few = changes_few false flags in omega (arith, few, count_runs flags)

-- ---- the runs of the flags of runs, some of which may be 0

no_run : (last : Bool) (count : ℕ) (flag : Bool) (run : ℕ) (later : List ℕ) → run ≡ 0
    → runs_behind last count (flags_of_runs flag (run ∷ later)) ≡ runs_behind last (count + run) (flags_of_runs (not flag) later)
unfolding flags_of_runs
no_run last count flag zero later is = ap (λ n. runs_behind last n (flags_of_runs (not flag) later)) (omega arith)
no_run last count flag (suc run) later is = absurd (omega (arith, is))

same_flag : (last : Bool) (count : ℕ) (flag : Bool) (run : ℕ) (later : List ℕ) → beq flag last ≡ true
    → runs_behind last count (flags_of_runs flag (run ∷ later)) ≡ runs_behind last (count + run) (flags_of_runs (not flag) later)
unfolding flags_of_runs
same_flag true count true run later is = runs_more true count run (flags_of_runs false later)
same_flag false count false run later is = runs_more false count run (flags_of_runs true later)
same_flag true count false run later is = absurd (cc)
same_flag false count true run later is = absurd (cc)

first_flag : (last : Bool) (count : ℕ) (flag : Bool) (run : ℕ) (flags : List Bool) → beq flag last ≡ false
    → runs_behind last count (flag ∷ (replicate run flag ++ flags)) ≡ count ∷ runs_behind flag (1 + run) flags
unfolding runs_behind
first_flag true count false run flags is = ap (λ rs. count ∷ rs) (runs_more false 1 run flags)
first_flag false count true run flags is = ap (λ rs. count ∷ rs) (runs_more true 1 run flags)
first_flag true count true run flags is = absurd (cc)
first_flag false count false run flags is = absurd (cc)

other_flag : (last : Bool) (count : ℕ) (flag : Bool) (run : ℕ) (later : List ℕ) → 0 < run → beq flag last ≡ false
    → runs_behind last count (flags_of_runs flag (run ∷ later)) ≡ count ∷ runs_behind flag run (flags_of_runs (not flag) later)
unfolding flags_of_runs
other_flag last count flag zero later some is = absurd (omega (arith, some))
other_flag last count flag (suc run) later some is =
    first_flag last count flag run (flags_of_runs (not flag) later) is ∙ ap (λ n. count ∷ runs_behind flag n (flags_of_runs (not flag) later)) (omega arith)

-- a run that belongs to the flags before it
pub run_on : (last : Bool) (count : ℕ) (flag : Bool) (run : ℕ) (later : List ℕ) → (run == 0 || beq flag last) ≡ true
    → runs_behind last count (flags_of_runs flag (run ∷ later)) ≡ runs_behind last (count + run) (flags_of_runs (not flag) later)
run_on last count flag run later is = by (run == 0) refl is where
  by : (none : Bool) → (run == 0) ≡ none → (none || beq flag last) ≡ true
      → runs_behind last count (flags_of_runs flag (run ∷ later)) ≡ runs_behind last (count + run) (flags_of_runs (not flag) later)
  by true none is = no_run last count flag run later (eqb-true run 0 none)
  by false none is = same_flag last count flag run later is

-- a run of other flags
pub run_off : (last : Bool) (count : ℕ) (flag : Bool) (run : ℕ) (later : List ℕ) → (run == 0 || beq flag last) ≡ false
    → runs_behind last count (flags_of_runs flag (run ∷ later)) ≡ count ∷ runs_behind flag run (flags_of_runs (not flag) later)
run_off last count flag run later is = by (run == 0) refl is where
  by : (none : Bool) → (run == 0) ≡ none → (none || beq flag last) ≡ false
      → runs_behind last count (flags_of_runs flag (run ∷ later)) ≡ count ∷ runs_behind flag run (flags_of_runs (not flag) later)
  by true none is = absurd (cc)
  by false none is = let some = eqb-false run 0 none in other_flag last count flag run later (omega (arith, some)) is

pub changes_on : (last flag : Bool) (run : ℕ) (later : List ℕ) → (run == 0 || beq flag last) ≡ true
    → changes last (flags_of_runs flag (run ∷ later)) ≡ changes last (flags_of_runs (not flag) later)
changes_on last flag run later is =
    let same = ap (λ (rs : List ℕ). length rs) (run_on last 0 flag run later is) in
    omega (arith, same, count_by last 0 (flags_of_runs flag (run ∷ later)), count_by last (0 + run) (flags_of_runs (not flag) later))

pub changes_off : (last flag : Bool) (run : ℕ) (later : List ℕ) → (run == 0 || beq flag last) ≡ false
    → changes last (flags_of_runs flag (run ∷ later)) ≡ 1 + changes flag (flags_of_runs (not flag) later)
changes_off last flag run later is =
    let same = ap (λ (rs : List ℕ). length rs) (run_off last 0 flag run later is) in
    omega (arith, same, count_by last 0 (flags_of_runs flag (run ∷ later)), count_by flag run (flags_of_runs (not flag) later))

-- ---- their bytes

pub run_below : (lengths : List ℕ) (i : ℕ) → get_or lengths i 0 ≤ sum lengths
run_below [] i = omega arith
run_below (run ∷ later) zero = let total = sum_then run later in omega (arith, total)
run_below (run ∷ later) (suc i) = let total = sum_then run later in let rest = run_below later i in omega (arith, total, rest)

-- numbers of 16 bits are read from their bytes
pub halves_read : (lengths : List ℕ) → ((i : ℕ) → get_or lengths i 0 < 2 ^ 16) → halves (flat_map half lengths) ≡ lengths
unfolding halves
halves_read [] fit = refl
halves_read (run ∷ later) fit = same_runs (little_number-reads_back 2 run [] (fit 0)) (halves_read later (λ i. fit (suc i)))

pub runs_read : (flags : List Bool) → length flags < 2 ^ 16 → halves (flat_map half (runs flags)) ≡ runs flags
runs_read flags few = halves_read (runs flags) (λ i. let most = run_below (runs flags) i in omega (arith, most, sum_runs flags, few))

pub length_halves : (lengths : List ℕ) → length (flat_map half lengths) ≡ 2 * length lengths
length_halves [] = refl
length_halves (run ∷ later) = let rest = length_halves later in omega (arith, rest)

same_two : {a b a' b' : ℕ} {xs xs' : List ℕ} → a ≡ a' → b ≡ b' → xs ≡ xs' → a ∷ b ∷ xs ≡ a' ∷ b' ∷ xs'
same_two p q r = cc

pub halves_back : (map : List ℕ) → AreBytes map → length map % 2 ≡ 0 → flat_map half (halves map) ≡ map
unfolding halves
halves_back [] are even = refl
halves_back (low ∷ []) are even = absurd (omega (arith, even))
halves_back (low ∷ high ∷ rest) are even =
    let one = are 0 in
    let two = are 1 in
    same_two (omega (arith, one, two)) (omega (arith, one, two)) (halves_back rest (λ i. are (suc (suc i))) (omega (arith, even)))

-- ---- lengths that are tested one by one

-- these are lengths of so many flags, of which none is 0
abbrev pub fill : ℕ → List ℕ → Bool
fill pages lengths = list_all some lengths && sum lengths == pages

pub test_by : (one other : Bool) → (one ≡ true → other ≡ true) → (other ≡ true → one ≡ true) → one ≡ other
test_by true true there back = refl
test_by false false there back = refl
test_by true false there back = sym (there refl)
test_by false true there back = back refl

pub none_left : (pages : ℕ) → (pages == 0) ≡ fill pages []
none_left pages = test_by (pages == 0) (0 == pages) (λ is. eq-eqb 0 pages (sym (eqb-true pages 0 is))) (λ is. eq-eqb pages 0 (sym (eqb-true 0 pages is)))

pub fill_next : (pages run : ℕ) (later : List ℕ) → (some run && nat_le run pages) ≡ true → fill (pages - run) later ≡ fill pages (run ∷ later)
fill_next pages run later is_run =
    let total = sum_then run later in
    let fits = and_parts (some run) (nat_le run pages) is_run in
    let within = leb-true run pages fits.1 in
    test_by (fill (pages - run) later) (fill pages (run ∷ later))
    (λ is.
    let parts = and_parts (list_all some later) (sum later == pages - run) is in
    let rest = eqb-true (sum later) (pages - run) parts.1 in
    both_true (both_true fits.0 parts.0) (eq-eqb (sum (run ∷ later)) pages (omega (arith, total, rest, within))))
    (λ is.
    let parts = and_parts (list_all some (run ∷ later)) (sum (run ∷ later) == pages) is in
    let whole = eqb-true (sum (run ∷ later)) pages parts.1 in
    both_true (and_parts (some run) (list_all some later) parts.0).1 (eq-eqb (sum later) (pages - run) (omega (arith, total, whole))))

pub none_fill : (pages run : ℕ) (later : List ℕ) → (some run && nat_le run pages) ≡ false → false ≡ fill pages (run ∷ later)
none_fill pages run later no_run =
    let total = sum_then run later in
    test_by false (fill pages (run ∷ later)) (λ is. absurd (cc))
    (λ is.
    let parts = and_parts (list_all some (run ∷ later)) (sum (run ∷ later) == pages) is in
    let whole = eqb-true (sum (run ∷ later)) pages parts.1 in
    let is_run = both_true (and_parts (some run) (list_all some later) parts.0).0 (le-leb run pages (omega (arith, total, whole))) in
    absurd (cc (no_run, is_run)))

pub first_fill : (pages first : ℕ) (later : List ℕ) → first ≤ pages → fill (pages - first) later ≡ are_runs pages (first ∷ later)
first_fill pages first later within =
    let total = sum_then first later in
    test_by (fill (pages - first) later) (are_runs pages (first ∷ later))
    (λ is.
    let parts = and_parts (list_all some later) (sum later == pages - first) is in
    let rest = eqb-true (sum later) (pages - first) parts.1 in
    both_true parts.0 (eq-eqb (sum (first ∷ later)) pages (omega (arith, total, rest, within))))
    (λ is.
    let parts = and_parts (list_all some later) (sum (first ∷ later) == pages) is in
    let whole = eqb-true (sum (first ∷ later)) pages parts.1 in
    both_true parts.0 (eq-eqb (sum later) (pages - first) (omega (arith, total, whole))))

pub first_too_many : (pages first : ℕ) (later : List ℕ) → pages < first → false ≡ are_runs pages (first ∷ later)
first_too_many pages first later more =
    let total = sum_then first later in
    test_by false (are_runs pages (first ∷ later)) (λ is. absurd (cc))
    (λ is. let whole = eqb-true (sum (first ∷ later)) pages (and_parts (list_all some later) (sum (first ∷ later) == pages) is).1 in absurd (omega (arith, total, whole, more)))

-- the first number of 16 bits, and the others
pub halves_step : (bytes first rest : List ℕ) → 2 ≤ length bytes → first ≡ take 2 bytes → rest ≡ drop 2 bytes → halves bytes ≡ little_number 2 first ∷ halves rest
unfolding halves
halves_step [] first rest enough is_first is_rest = absurd (omega (arith, enough))
halves_step (low ∷ []) first rest enough is_first is_rest = absurd (omega (arith, enough))
halves_step (low ∷ high ∷ bytes) first rest enough is_first is_rest =
    ap₂ (λ (f r : List ℕ). little_number 2 f ∷ halves r) (sym is_first) (sym is_rest)

pub halves_end : (bytes : List ℕ) → length bytes < 2 → halves bytes ≡ []
unfolding halves
halves_end [] few = refl
halves_end (low ∷ []) few = refl
halves_end (low ∷ high ∷ bytes) few = absurd (omega (arith, few))
