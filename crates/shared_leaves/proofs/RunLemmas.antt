-- Flags that are told by the lengths of their runs.
use Rattle.std.proofs.Common.{◌≡◌, ℕ, zero, suc, ◌+◌, ◌-◌, ◌<◌, ◌≤◌, Bool, true, false, List, [], ◌∷◌, ◌++◌, length, take, drop, set, get_or, replicate}
use Rattle.std.proofs.Common.{refl, sym, ap, ap₂, ◌∙◌, take-add, take-suc-set, add-one, arith}
use Rattle.std.specs.Prelude.{not}
use Rattle.std.proofs.Math.Seq.{drop-nil}
use Rattle.std.proofs.lemmas.List.{append_assoc, drop_more, replicate_more}
use Rattle.shared_leaves.specs.Choices.{chosen, choice, flags_of_runs, has}

-- ---- the next run

-- where flags are left and none of the run, there is a next one
pub next_there : (flag other : Bool) (runs : List ℕ) (next : ℕ) → 0 < length (replicate 0 flag ++ flags_of_runs other (drop next runs)) → next < length runs
unfolding flags_of_runs
next_there flag other [] next some =
    let gone : length (flags_of_runs other (drop next [])) ≡ 0 = ap (λ (runs : List ℕ). length (flags_of_runs other runs)) (drop-nil next) in
    absurd (omega (arith, gone, some))
next_there flag other (run ∷ runs) zero some = omega arith
next_there flag other (run ∷ runs) (suc next) some = let there = next_there flag other runs next some in omega (arith, there)

-- and the flags are those from its begin on
pub run_opened : (flag other : Bool) (runs : List ℕ) (next : ℕ) → next < length runs
    → replicate (get_or runs next 0) other ++ flags_of_runs (not other) (drop (next + 1) runs) ≡ replicate 0 flag ++ flags_of_runs other (drop next runs)
unfolding flags_of_runs
run_opened flag other runs next there = sym (ap (flags_of_runs other) (drop_more runs next 0 there))

-- ---- flags of a run

pub run_taken : (count left : ℕ) (flag : Bool) (behind : List Bool) → count ≤ left → take count (replicate left flag ++ behind) ≡ replicate count flag
run_taken zero left flag behind fits = refl
run_taken (suc count) zero flag behind fits = absurd (omega (arith, fits))
run_taken (suc count) (suc left) flag behind fits = ap (λ flags. flag ∷ flags) (run_taken count left flag behind (omega (arith, fits)))

pub run_gone : (count left : ℕ) (flag : Bool) (behind : List Bool) → count ≤ left → replicate (left - count) flag ++ behind ≡ drop count (replicate left flag ++ behind)
run_gone zero left flag behind fits = ap (λ n. replicate n flag ++ behind) (omega arith)
run_gone (suc count) zero flag behind fits = absurd (omega (arith, fits))
run_gone (suc count) (suc left) flag behind fits =
    let less : suc left - suc count ≡ left - count = omega arith in
    ap (λ n. replicate n flag ++ behind) less ∙ run_gone count left flag behind (omega (arith, fits))

-- of which no other flag is one
pub none_unset : (count : ℕ) (flag : Bool) → flag ≡ true → has false (replicate count flag) ≡ false
none_unset zero flag is = refl
none_unset (suc count) true is = none_unset count true is
none_unset (suc count) false is = absurd (cc)

pub none_set : (count : ℕ) (flag : Bool) → flag ≡ false → has true (replicate count flag) ≡ false
none_set zero flag is = refl
none_set (suc count) false is = none_set count false is
none_set (suc count) true is = absurd (cc)

pub some_set : (count : ℕ) (flag : Bool) → 0 < count → flag ≡ true → has true (replicate count flag) ≡ true
some_set zero flag some is = absurd (omega (arith, some))
some_set (suc count) true some is = refl
some_set (suc count) false some is = absurd (cc)

module _ {T : Type 0} (set unset : T) where
  pub run_entries : (count : ℕ) (flag : Bool) → chosen set unset (replicate count flag) ≡ replicate count (choice set unset flag)
  run_entries zero flag = refl
  run_entries (suc count) flag = ap (λ entries. choice set unset flag ∷ entries) (run_entries count flag)

  pub run_set : (count : ℕ) (flag : Bool) → flag ≡ true → chosen set unset (replicate count flag) ≡ replicate count set
  run_set count flag is = run_entries count flag ∙ ap (λ f. replicate count (choice set unset f)) is

  pub run_unset : (count : ℕ) (flag : Bool) → flag ≡ false → chosen set unset (replicate count flag) ≡ replicate count unset
  run_unset count flag is = run_entries count flag ∙ ap (λ f. replicate count (choice set unset f)) is

-- ---- flags that are put into places

pub put_more : (flags front : List Bool) (begin i : ℕ) (flag : Bool) → begin ≤ i → i < length flags → take i flags ≡ front ++ replicate (i - begin) flag
    → take (i + 1) (set flags i flag) ≡ front ++ replicate (i + 1 - begin) flag
put_more flags front begin i flag from there so_far =
    let more : i - begin + 1 ≡ i + 1 - begin = omega arith in
    ap (λ n. take n (set flags i flag)) (add-one i)
    ∙ take-suc-set flags i flag there
    ∙ ap (λ xs. xs ++ flag ∷ []) so_far
    ∙ append_assoc front (replicate (i - begin) flag) (flag ∷ [])
    ∙ ap (λ xs. front ++ xs) (replicate_more (i - begin) flag)
    ∙ ap (λ n. front ++ replicate n flag) more

pub flags_more : (was now all : List Bool) (at count : ℕ) (flag : Bool) → take at was ≡ take at all → take count (drop at all) ≡ replicate count flag
    → take (at + count) now ≡ take at was ++ replicate (at + count - at) flag → take (at + count) now ≡ take (at + count) all
flags_more was now all at count flag so_far next put =
    let size : at + count - at ≡ count = omega arith in
    put ∙ ap₂ (λ xs ys. xs ++ ys) so_far (ap (λ n. replicate n flag) size ∙ sym next) ∙ sym (take-add at count all)
