-- Forks that differ in no bit are the same.
use Rattle.std.proofs.Common.{◌≡◌, ℕ, ◌+◌, ◌%◌, ◌<◌, ◌≤◌, [], ◌∷◌, ◌++◌, length, take, get_or, max, sym, ap, ap₂, ◌∙◌, subst, arith}
use Rattle.std.specs.Int.{bit_at}
use Rattle.std.specs.Prelude.{bit_or, bit_xor}
use Rattle.std.proofs.Math.Nat.{le-max_left, le-max_right}
use Rattle.std.proofs.lemmas.List.{take_more}
use Rattle.std.proofs.lemmas.Nat.Bits.{bit_at-lt, bit_at-zero, bit_at_or, bit_at_xor, same_from_bits}
use Rattle.forest_tree.specs.Tree.{Branch, Path}

no-bit : (n i : ℕ) → n ≡ 0 → bit_at n i ≡ 0
no-bit n i none = ap (λ m. bit_at m i) none ∙ bit_at-zero i

none-left : (a b : ℕ) → bit_or a b ≡ 0 → a ≡ 0
none-left a b none =
    same_from_bits a 0
    (λ i. let most : max (bit_at a i) (bit_at b i) ≡ 0 = sym (bit_at_or a b i) ∙ no-bit (bit_or a b) i none in
    let below : bit_at a i ≤ 0 = subst (λ m. bit_at a i ≤ m) most (le-max_left (bit_at a i) (bit_at b i)) in
    omega (arith, below, bit_at-zero i))

none-right : (a b : ℕ) → bit_or a b ≡ 0 → b ≡ 0
none-right a b none =
    same_from_bits b 0
    (λ i. let most : max (bit_at a i) (bit_at b i) ≡ 0 = sym (bit_at_or a b i) ∙ no-bit (bit_or a b) i none in
    let below : bit_at b i ≤ 0 = subst (λ m. bit_at b i ≤ m) most (le-max_right (bit_at a i) (bit_at b i)) in
    omega (arith, below, bit_at-zero i))

no-difference : (a b : ℕ) → bit_xor a b ≡ 0 → a ≡ b
no-difference a b none =
    same_from_bits a b
    (λ i. let odd : (bit_at a i + bit_at b i) % 2 ≡ 0 = sym (bit_at_xor a b i) ∙ no-bit (bit_xor a b) i none in omega (arith, odd, bit_at-lt a i, bit_at-lt b i))

-- runs that are the same up to a place, and the forks there
pub same-more : (left right : Path) (at difference : ℕ) (x y : Branch) → at < length left → at < length right → x ≡ get_or left at x → y ≡ get_or right at y
    → (difference ≡ 0 → take at left ≡ take at right)
    → bit_or difference (bit_or (bit_xor x.ticket y.ticket) (bit_xor x.child y.child)) ≡ 0 → take (at + 1) left ≡ take (at + 1) right
same-more left right at difference x y l r x-is y-is before none =
    let here = none-right difference _ none in
    let fork : (t k : ℕ) → Branch = λ t k. record { ticket = t; child = k } in
    let same : x ≡ y = ap₂ fork (no-difference x.ticket y.ticket (none-left _ _ here)) (no-difference x.child y.child (none-right _ _ here)) in
    take_more left at x l
    ∙ ap₂ (λ front e. front ++ e ∷ []) (before (none-left difference _ none)) (sym x-is ∙ same ∙ y-is)
    ∙ sym (take_more right at y r)
