-- Segments in order, and what they tell of the same segments in another order.
use Rattle.std.proofs.Common.{◌≡◌, ℕ, ◌+◌, ◌*◌, ◌<◌, ◌≤◌, Bool, true, false, not, cond, ltb, leb, List, [], ◌∷◌, ◌++◌, length, take, drop, get_or, refl, sym, ap, ◌∙◌, inl, inr, arith, max, min}
use Rattle.std.specs.Prelude.{All, ◌||◌, ◌⊎◌}
use Rattle.std.specs.List.{AllPairs, Contains, IsDistinct, AllByRecursion, AllAdjacentBelow, IsAllAdjacentAnswer, list_any}
use Rattle.std.specs.List.Sorted.{IsPermutation, IsNonDecreasingBy}
use Rattle.std.proofs.Math.Nat.{max_comm, min_comm}
use Rattle.std.proofs.lemmas.Bool.{cases_Bool, le-ltb, lt-ltb, ltb-false, leb-true, leb-false, or_parts, or_from, both_ways, true_from_ne_false}
use Rattle.std.proofs.lemmas.Map.Keys.{IsDistinct-cons, IsDistinct-head, IsDistinct-tail, IsDistinct-from_apart, apart_from_distinct, IsDistinct-IsPermutation}
use Rattle.std.proofs.lemmas.List.Sorted.{IsPermutation-sym}
use Rattle.elf_load.specs.Elf.{shares, overlap, end_of, IsBelow}
use Rattle.elf_load.specs.declared.segment.Segment.{Segment}

shares_flips : (s t : Segment) → shares s t ≡ shares t s
shares_flips s t =
    ap (λ start. ltb start (min (end_of s) (end_of t))) (max_comm s.address t.address)
    ∙ ap (λ end. ltb (max t.address s.address) end) (min_comm (end_of s) (end_of t))

none_by_recursion : (p : Segment → Bool) (xs : List Segment) → list_any p xs ≡ false → AllByRecursion (λ x. p x ≡ false) xs
none_by_recursion p [] none = tt
none_by_recursion p (x ∷ xs) none = let parts = or_parts (p x) (list_any p xs) none in (parts.0, none_by_recursion p xs parts.1)

none_from_recursion : (p : Segment → Bool) (xs : List Segment) → AllByRecursion (λ x. p x ≡ false) xs → list_any p xs ≡ false
none_from_recursion p [] all = refl
none_from_recursion p (x ∷ xs) all = or_from (p x) (list_any p xs) all.0 (none_from_recursion p xs all.1)

-- no two segments share a byte
distinct_from_overlap : (segments : List Segment) → overlap segments ≡ false → IsDistinct shares segments
distinct_from_overlap [] none = IsDistinct-from_apart shares [] (λ i j d before within. absurd (omega arith))
distinct_from_overlap (s ∷ segments) none =
    let parts = or_parts (list_any (shares s) segments) (overlap segments) none in
    IsDistinct-cons shares s segments (none_by_recursion (shares s) segments parts.0) (distinct_from_overlap segments parts.1)

overlap_from_distinct : (segments : List Segment) → IsDistinct shares segments → overlap segments ≡ false
overlap_from_distinct [] apart = refl
overlap_from_distinct (s ∷ segments) apart =
    or_from _ _ (none_from_recursion (shares s) segments (IsDistinct-head shares s segments apart)) (overlap_from_distinct segments (IsDistinct-tail shares s segments apart))

-- the order of the segments is of no matter
pub overlap-IsPermutation : (segments others : List Segment) → IsPermutation segments others → overlap segments ≡ overlap others
overlap-IsPermutation segments others same =
    let kept = λ (xs : List Segment) (ys : List Segment) (p : IsPermutation xs ys) (none : overlap xs ≡ false).
    overlap_from_distinct ys (IsDistinct-IsPermutation shares shares_flips xs ys p (distinct_from_overlap xs none)) in
    elim (cases_Bool (overlap segments)) [
      | inl found ↦ found ∙ sym (true_from_ne_false _ (λ none. both_ways _ (kept others segments (IsPermutation-sym segments others same) none) found))
      | inr none ↦ none ∙ sym (kept segments others same none)
    ]

-- sorted segments of which each ends before the next begins
pub in_order_from_adjacent : (sorted : List Segment) → IsNonDecreasingBy (λ (s : Segment). s.address) sorted → AllAdjacentBelow IsBelow sorted (length sorted) → AllPairs IsBelow sorted
in_order_from_adjacent sorted rising adjacent i j d before within =
    let next = adjacent i d (omega arith) in
    let after = rising (i + 1) j d (omega arith) within in
    omega arith

no_overlap : (segments : List Segment) → AllPairs IsBelow segments → overlap segments ≡ false
no_overlap segments in_order =
    overlap_from_distinct segments
    (IsDistinct-from_apart shares segments (λ i j d before within. let below = in_order i j d before within in le-ltb _ _ (omega arith)))

overlap_at : (segments : List Segment) (k : ℕ) (d : Segment) → IsNonDecreasingBy (λ (s : Segment). s.address) segments
    → All (λ (s : Segment). 0 < s.memory_size) segments → k + 1 < length segments → (get_or segments (k + 1) d).address < end_of (get_or segments k d)
    → overlap segments ≡ true
overlap_at segments k d rising not_empty within meets =
    true_from_ne_false _ (λ none.
    let low = rising k (k + 1) d (omega arith) within in
    let first = not_empty k d (omega arith) in
    let second = not_empty (k + 1) d within in
    both_ways _ (apart_from_distinct shares segments k (k + 1) d (distinct_from_overlap segments none) (omega arith) within) (lt-ltb _ _ (omega arith)))

-- sorted segments overlap where one does with the next
pub overlap_from_adjacent : (segments : List Segment) (d : Segment) (apart : Bool) → IsNonDecreasingBy (λ (s : Segment). s.address) segments → All (λ (s : Segment). 0 < s.memory_size) segments
    → IsAllAdjacentAnswer (λ low high answer. answer ≡ leb (end_of low) high.address) segments apart → not apart ≡ overlap segments
overlap_from_adjacent segments d true rising not_empty below =
    sym (no_overlap segments (in_order_from_adjacent segments rising (λ k d within. leb-true _ _ (sym (below k d within)))))
overlap_from_adjacent segments d false rising not_empty meets =
    sym (overlap_at segments meets.0 d rising not_empty meets.1 (leb-false _ _ (sym (meets.2 d))))

-- sorted segments that do not overlap stand one behind the other
pub in_order_from_overlap : (segments : List Segment) → IsNonDecreasingBy (λ (s : Segment). s.address) segments → All (λ (s : Segment). 0 < s.memory_size) segments
    → overlap segments ≡ false → AllPairs IsBelow segments
in_order_from_overlap segments rising not_empty none i j d before within =
    let next = rising i j d (omega arith) within in
    let first = not_empty i d (omega arith) in
    let second = not_empty j d within in
    let apart = ltb-false _ _ (apart_from_distinct shares segments i j d (distinct_from_overlap segments none) before within) in
    omega arith
