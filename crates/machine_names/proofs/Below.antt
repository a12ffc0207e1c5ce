-- What is left of a path beyond a way.
use Rattle.std.proofs.Common.{◌≡◌, ◌<◌, ◌≤◌, ◌+◌, ◌&&◌, ◌==◌, eqb, eqb-true, eq-eqb, ℕ, Bool, true, false, cond, is_some, refl, sym, ap}
use Rattle.std.proofs.Common.{ap₂, ◌∙◌, [], ◌∷◌, ◌++◌, length, take, drop, get_or, take-append-drop, take_at, Option, Some, None, arith}
use Rattle.std.specs.Ordering.{is_ne}
use Rattle.std.proofs.lemmas.List.{drop_more}
use Rattle.forest_tree.specs.Tree.{Branch, Path, beyond, goes_on}
use Rattle.machine_names.specs.Name.{begins_with, next_of}
use Rattle.machine_names.specs.NameOrder.{back_cmp}
use Rattle.machine_names.proofs.NameMaps.{back-itself}

pub beyond-append : (way rest : Path) → beyond way (way ++ rest) ≡ Some rest
unfolding beyond
beyond-append [] rest = refl
beyond-append (a ∷ way) rest =
    ap₂ (λ s t. cond (s && t) (beyond way (way ++ rest)) None) (eq-eqb a.ticket a.ticket refl) (eq-eqb a.child a.child refl) ∙ beyond-append way rest

pub beyond-is : (way path rest : Path) → beyond way path ≡ Some rest → path ≡ way ++ rest
unfolding beyond
beyond-is [] path rest e = cc
beyond-is (a ∷ way) [] rest e = absurd (cc)
beyond-is (a ∷ way) (b ∷ path) rest e = by (eqb b.ticket a.ticket) (eqb b.child a.child) refl refl e (beyond-is way path rest)
  where
    by : (s t : Bool) → eqb b.ticket a.ticket ≡ s → eqb b.child a.child ≡ t → cond (s && t) (beyond way path) None ≡ Some rest
        → (beyond way path ≡ Some rest → path ≡ way ++ rest) → b ∷ path ≡ a ∷ (way ++ rest)
    by true true s t e down =
        let fork : ℕ → ℕ → Branch = λ ticket child. record { ticket = ticket; child = child } in
        ap₂ (λ x xs. x ∷ xs) (ap₂ fork (eqb-true b.ticket a.ticket s) (eqb-true b.child a.child t)) (down e)
    by true false s t e down = absurd (cc)
    by false t s u e down = absurd (cc)

kept : (same : Bool) (rest : Option Path) → next_of rest ≡ None → next_of (cond same rest None) ≡ None
kept true rest h = h
kept false rest h = refl

-- no fork is left of a path that is no longer than the way
pub next-short : (way path : Path) → length path ≤ length way → next_of (beyond way path) ≡ None
unfolding beyond
next-short [] [] h = refl
next-short [] (b ∷ path) h = absurd (omega (arith, h))
next-short (a ∷ way) [] h = refl
next-short (a ∷ way) (b ∷ path) h = kept (eqb b.ticket a.ticket && eqb b.child a.child) (beyond way path) (next-short way path (omega (arith, h)))

-- of a longer one that begins with the way, the fork behind that is the first
pub next-there : (way path : Path) (x : Branch) → length way < length path → take (length way) path ≡ way → x ≡ get_or path (length way) x
    → Some x ≡ next_of (beyond way path)
next-there way path x longer begins is =
    let whole : path ≡ way ++ (x ∷ drop (length way + 1) path) =
    sym (take-append-drop (length way) path)
    ∙ ap₂ (λ front back. front ++ back) begins (drop_more path (length way) x longer ∙ ap (λ e. e ∷ drop (length way + 1) path) (sym is)) in
    sym (ap next_of (ap (beyond way) whole ∙ beyond-append way (x ∷ drop (length way + 1) path)))

-- nothing is left where it begins otherwise
pub next-apart : (way path : Path) → is_ne (back_cmp (take (length way) path) way) ≡ true → None ≡ next_of (beyond way path)
next-apart way path apart = by (beyond way path) refl
  where
    by : (o : Option Path) → beyond way path ≡ o → None ≡ next_of (beyond way path)
    by None e = sym (ap next_of e)
    by (Some rest) e =
        let same : take (length way) path ≡ way = ap (take (length way)) (beyond-is way path rest e) ∙ take_at way rest (length way) refl in
        let no : true ≡ false = sym apart ∙ ap is_ne (ap (λ front. back_cmp front way) same ∙ back-itself way) in
        absurd (cc)

-- what the first fork tells of a path beyond a way
pub begins-so : (ticket : ℕ) (left : Option Path) (next : Branch) → Some next ≡ next_of left → (next.ticket == ticket) ≡ begins_with ticket left
begins-so ticket None next h = absurd (cc)
begins-so ticket (Some []) next h = absurd (cc)
begins-so ticket (Some (b ∷ rest)) next h = let same : next ≡ b = cc in ap (λ (x : Branch). x.ticket == ticket) same

pub begins-not : (ticket : ℕ) (left : Option Path) → None ≡ next_of left → false ≡ begins_with ticket left
begins-not ticket None h = refl
begins-not ticket (Some []) h = refl
begins-not ticket (Some (b ∷ rest)) h = absurd (cc)

pub goes-on : (left : Option Path) → is_some (next_of left) ≡ goes_on left
goes-on None = refl
goes-on (Some []) = refl
goes-on (Some (b ∷ rest)) = refl
