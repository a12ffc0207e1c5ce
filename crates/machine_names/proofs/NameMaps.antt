-- The order of names tells names apart, so a map by names is a function of paths.
use Rattle.std.proofs.Common.{◌≡◌, ◌≢◌, ℕ, refl, sym, ap, ap₂, ◌∙◌, ◌<◌, ◌==◌, [], ◌∷◌, length, reverse, Option, cond, true, false, lt-ltb}
use Rattle.std.specs.declared.cmp.Ordering.{Ordering}
use Rattle.std.specs.declared.cmp.Ordering.TheVariants.{Less, Equal, Greater}
use Rattle.std.specs.Ordering.{nat_cmp, is_eq, ordering_then}
use Rattle.std.specs.Cmp.{on_total, ranked}
use Rattle.std.specs.Cmp.Lexicographic.{slice_cmp, lists_total}
use Rattle.std.proofs.lemmas.Cmp.{tied_itself}
use Rattle.std.proofs.lemmas.List.{reverse-reverse}
use Rattle.std.specs.BTreeMap.{BTreeMap, Updates, get}
use Rattle.forest_tree.specs.Tree.{Branch, Path}
use Rattle.machine_names.specs.NameOrder.{back_cmp, branch_cmp, branch_cmp_total, path_cmp, path_cmp_total}

both-equal : (a b : Ordering) → ordering_then a b ≡ Equal → (a ≡ Equal) × (b ≡ Equal)
both-equal Less b h = absurd (cc h)
both-equal Equal b h = (refl, h)
both-equal Greater b h = absurd (cc h)

same-number : (x y : ℕ) → nat_cmp x y ≡ Equal → x ≡ y
same-number x y h = ranked x y Equal (sym h)

pub same-branch : (a b : Branch) → branch_cmp a b ≡ Equal → a ≡ b
unfolding branch_cmp
same-branch a b h =
    let parts = both-equal (nat_cmp a.ticket b.ticket) (nat_cmp a.child b.child) h in
    let same : (t k : ℕ) → Branch = λ t k. record { ticket = t; child = k } in
    ap₂ same (same-number a.ticket b.ticket parts.0) (same-number a.child b.child parts.1)

same-list : (a b : Path) → slice_cmp branch_cmp a b ≡ Equal → a ≡ b
same-list [] [] h = refl
same-list [] (b ∷ bs) h = absurd (cc h)
same-list (a ∷ as_) [] h = absurd (cc h)
same-list (a ∷ as_) (b ∷ bs) h =
    let parts = both-equal (branch_cmp a b) (slice_cmp branch_cmp as_ bs) h in
    ap₂ (λ x xs. x ∷ xs) (same-branch a b parts.0) (same-list as_ bs parts.1)

pub back-same : (a b : Path) → back_cmp a b ≡ Equal → a ≡ b
back-same a b h = sym (reverse-reverse a) ∙ ap reverse (same-list (reverse a) (reverse b) h) ∙ reverse-reverse b

pub equal-same : (a b : Path) → path_cmp a b ≡ Equal → a ≡ b
unfolding path_cmp
equal-same a b h = back-same a b (both-equal (nat_cmp (length a) (length b)) (back_cmp a b) h).1

-- a name with fewer forks comes first
pub shorter-first : (a b : Path) → length a < length b → path_cmp a b ≡ Less
unfolding path_cmp
shorter-first a b h =
    ap (λ o. ordering_then o (back_cmp a b)) (ap (λ less. cond less Less (cond (length a == length b) Equal Greater)) (lt-ltb (length a) (length b) h))

pub is_eq-equal : (r : Ordering) → is_eq r ≡ true → r ≡ Equal
is_eq-equal Less h = absurd (cc)
is_eq-equal Equal h = refl
is_eq-equal Greater h = absurd (cc)

-- the order's test answers yes at one path alone
pub yes-same : (a b : Path) → is_eq (path_cmp a b) ≡ true → a ≡ b
yes-same a b h = equal-same a b (is_eq-equal (path_cmp a b) h)

pub back-itself : (a : Path) → back_cmp a a ≡ Equal
back-itself a = tied_itself (on_total reverse (lists_total branch_cmp_total)) a

pub itself : (a : Path) → path_cmp a a ≡ Equal
itself a = tied_itself path_cmp_total a

-- the order's test answers yes at one path, and no at two
pub is_eq-same : (a b : Path) → a ≡ b → is_eq (path_cmp a b) ≡ true
is_eq-same a b e = ap is_eq (ap (path_cmp a) (sym e) ∙ itself a)

is_eq-by : (a b : Path) (r : Ordering) → path_cmp a b ≡ r → a ≢ b → is_eq r ≡ false
is_eq-by a b Less e apart = refl
is_eq-by a b Equal e apart = absurd (apart (equal-same a b e))
is_eq-by a b Greater e apart = refl

pub is_eq-apart : (a b : Path) → a ≢ b → is_eq (path_cmp a b) ≡ false
is_eq-apart a b apart = is_eq-by a b (path_cmp a b) refl apart

-- after an update at a path, the map has the value there, and what it had at every other path
pub updated-here : {V : Type 0} (old new : BTreeMap Path V) (at : Path) (value : Option V) → Updates path_cmp old new at value
    → get path_cmp new at ≡ value
updated-here old new at value h = h.1

pub updated-apart : {V : Type 0} (old new : BTreeMap Path V) (at : Path) (value : Option V) → Updates path_cmp old new at value
    → (path : Path) → at ≢ path → get path_cmp new path ≡ get path_cmp old path
updated-apart old new at value h path apart = h.2 path (is_eq-apart at path apart)
