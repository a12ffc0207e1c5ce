-- Paths are compared from their last forks back.
use Rattle.std.proofs.Common.{◌≡◌, ℕ, ◌+◌, ◌-◌, ◌<◌, ◌≤◌, true, false, refl, sym, ap, ap₂, ◌∙◌, [], ◌∷◌, ◌++◌, length, reverse, take, drop, get_or, length-drop, length-take, subst, take-add, arith}
use Rattle.std.specs.declared.cmp.Ordering.{Ordering}
use Rattle.std.specs.declared.cmp.Ordering.TheVariants.{Less, Equal, Greater}
use Rattle.std.specs.Ordering.{is_ne, ordering_then}
use Rattle.std.specs.Cmp.Lexicographic.{slice_cmp}
use Rattle.std.proofs.lemmas.List.{drop-drop, drop-take, length-reverse, reverse-append, take_more}
use Rattle.forest_tree.specs.Tree.{Branch, Path}
use Rattle.machine_names.specs.NameOrder.{back_cmp, branch_cmp}

then-assoc : (a b c : Ordering) → ordering_then (ordering_then a b) c ≡ ordering_then a (ordering_then b c)
then-assoc Less b c = refl
then-assoc Equal b c = refl
then-assoc Greater b c = refl

then-equal : (a : Ordering) → ordering_then a Equal ≡ a
then-equal Less = refl
then-equal Equal = refl
then-equal Greater = refl

-- an order that is decided stands, and else what comes behind it does
pub decided : (o rest : Ordering) → is_ne o ≡ true → o ≡ ordering_then o rest
decided Less rest h = refl
decided Equal rest h = absurd (cc)
decided Greater rest h = refl

pub undecided : (o : Ordering) → is_ne o ≡ false → o ≡ Equal
undecided Less h = absurd (cc)
undecided Equal h = refl
undecided Greater h = absurd (cc)

slice_cmp-append : (xs ys us vs : Path) → length xs ≡ length ys
    → slice_cmp branch_cmp (xs ++ us) (ys ++ vs) ≡ ordering_then (slice_cmp branch_cmp xs ys) (slice_cmp branch_cmp us vs)
slice_cmp-append [] [] us vs h = refl
slice_cmp-append [] (y ∷ ys) us vs h = absurd (omega (arith, h))
slice_cmp-append (x ∷ xs) [] us vs h = absurd (omega (arith, h))
slice_cmp-append (x ∷ xs) (y ∷ ys) us vs h =
    ap (ordering_then (branch_cmp x y)) (slice_cmp-append xs ys us vs (omega (arith, h)))
    ∙ sym (then-assoc (branch_cmp x y) (slice_cmp branch_cmp xs ys) (slice_cmp branch_cmp us vs))

-- paths with ends of as many forks are compared by the ends, and then by what is before them
back-parts : (a b c d : Path) → length c ≡ length d → back_cmp (a ++ c) (b ++ d) ≡ ordering_then (back_cmp c d) (back_cmp a b)
back-parts a b c d h =
    ap₂ (slice_cmp branch_cmp) (reverse-append a c) (reverse-append b d)
    ∙ slice_cmp-append (reverse c) (reverse d) (reverse a) (reverse b) (length-reverse c ∙ h ∙ sym (length-reverse d))

-- one fork of each
pub one-back : (left right : Path) (rest : ℕ) (x y : Branch) → rest < length left → rest < length right → x ≡ get_or left rest x → y ≡ get_or right rest y
    → back_cmp (take (rest + 1) left) (take (rest + 1) right) ≡ ordering_then (branch_cmp x y) (back_cmp (take rest left) (take rest right))
one-back left right rest x y l r x-is y-is =
    ap₂ back_cmp (take_more left rest x l ∙ ap (λ e. take rest left ++ e ∷ []) (sym x-is)) (take_more right rest y r ∙ ap (λ e. take rest right ++ e ∷ []) (sym y-is))
    ∙ back-parts (take rest left) (take rest right) (x ∷ []) (y ∷ []) refl
    ∙ ap (λ o. ordering_then o (back_cmp (take rest left) (take rest right))) (then-equal (branch_cmp x y))

-- the last fork of each
pub by-last : (left right : Path) (count : ℕ) (x y : Branch) → 0 < count → count ≤ length left → count ≤ length right
    → x ≡ get_or left (count - 1) x → y ≡ get_or right (count - 1) y
    → back_cmp (take count left) (take count right) ≡ ordering_then (branch_cmp x y) (back_cmp (take (count - 1) left) (take (count - 1) right))
by-last left right count x y some l r x-is y-is =
    let whole : count - 1 + 1 ≡ count = omega arith in
    subst (λ n. back_cmp (take n left) (take n right) ≡ ordering_then (branch_cmp x y) (back_cmp (take (count - 1) left) (take (count - 1) right))) whole
    (one-back left right (count - 1) x y (omega arith) (omega arith) x-is y-is)

-- a run of each, from one place up to another
pub run-back : (left right ours theirs : Path) (begin rest : ℕ) → begin ≤ rest → rest ≤ length left → rest ≤ length right
    → ours ≡ take (rest - begin) (drop begin left) → theirs ≡ take (rest - begin) (drop begin right)
    → back_cmp (take rest left) (take rest right) ≡ ordering_then (back_cmp ours theirs) (back_cmp (take begin left) (take begin right))
run-back left right ours theirs begin rest order l r ours-is theirs-is =
    let whole : begin + (rest - begin) ≡ rest = omega arith in
    let as_long : length ours ≡ length theirs =
    omega (
      arith,
      ap length ours-is,
      ap length theirs-is,
      length-take (rest - begin) (drop begin left),
      length-drop begin left,
      length-take (rest - begin) (drop begin right),
      length-drop begin right,
    ) in
    ap₂ back_cmp (ap (λ n. take n left) (sym whole) ∙ take-add begin (rest - begin) left ∙ ap (λ run. take begin left ++ run) (sym ours-is))
    (ap (λ n. take n right) (sym whole) ∙ take-add begin (rest - begin) right ∙ ap (λ run. take begin right ++ run) (sym theirs-is))
    ∙ back-parts (take begin left) (take begin right) ours theirs as_long

-- the last of a run that ends at a place
pub last-of-run : (list run last : Path) (rest len : ℕ) → len ≤ length run → length run ≤ rest → run ≡ take (length run) (drop (rest - length run) list)
    → last ≡ drop (length run - len) run → last ≡ take (rest - (rest - len)) (drop (rest - len) list)
last-of-run list run last rest len fits inside run-is last-is =
    let skip = length run - len in
    let parts : length run ≡ skip + len = omega arith in
    let place : rest - length run + skip ≡ rest - len = omega arith in
    let all : len ≡ rest - (rest - len) = omega arith in
    last-is ∙ ap (drop skip) run-is ∙ ap (λ n. drop skip (take n (drop (rest - length run) list))) parts ∙ drop-take skip len (drop (rest - length run) list)
    ∙ ap (take len) (drop-drop skip (rest - length run) list ∙ ap (λ n. drop n list) place) ∙ ap (λ n. take n (drop (rest - len) list)) all
