-- Names that are the same, and who holds them.
use Rattle.std.proofs.Common.{◌≡◌, ◌≢◌, ℕ, ◌&&◌, eqb, eqb-true, Bool, true, false, cond, refl, sym, ap, ap₂, ◌∙◌, subst, List, [], ◌∷◌, Option, Some, None, IsSomeAnd}
use Rattle.forest_tree.specs.Tree.{Branch, Path, beyond}
use Rattle.forest_tree.proofs.Broods.{eqb-same}
use Rattle.talking_history.specs.Histories.{Seat, Holding, is_nothing_left, is_same_path, holding, without_name, IsHeldBy}

abbrev branch : ℕ → ℕ → Branch
branch ticket child = record { ticket = ticket; child = child }

beyond-self : (path : Path) → beyond path path ≡ Some []
unfolding beyond
beyond-self [] = refl
beyond-self (b ∷ path) =
    ap₂ (λ ticket child. cond (ticket && child) (beyond path path) None) (eqb-same b.ticket) (eqb-same b.child) ∙ beyond-self path

pub same-self : (name : Path) → is_same_path name name ≡ true
same-self name = ap is_nothing_left (beyond-self name)

pub same-is : (a b : Path) → is_same_path a b ≡ true → a ≡ b
unfolding beyond
same-is [] [] h = refl
same-is [] (y ∷ path) h = absurd (cc)
same-is (x ∷ way) [] h = absurd (cc)
same-is (x ∷ way) (y ∷ path) h = by (eqb y.ticket x.ticket) refl (eqb y.child x.child) refl h (λ g. same-is way path g)
  where
    by : (ticket : Bool) → eqb y.ticket x.ticket ≡ ticket → (child : Bool) → eqb y.child x.child ≡ child
        → is_nothing_left (cond (ticket && child) (beyond way path) None) ≡ true → (is_same_path way path ≡ true → way ≡ path)
        → x ∷ way ≡ y ∷ path
    by true e true g h down =
        ap₂ ◌∷◌ (ap₂ branch (sym (eqb-true y.ticket x.ticket e)) (sym (eqb-true y.child x.child g))) (down h)
    by true e false g h down = absurd (cc)
    by false e child g h down = absurd (cc)

pub apart-sym : (a b : Path) → is_same_path a b ≡ false → is_same_path b a ≡ false
apart-sym a b apart = by (is_same_path b a) refl
  where
    by : (same : Bool) → is_same_path b a ≡ same → same ≡ false
    by false e = refl
    by true e = sym (same-self a) ∙ ap (is_same_path a) (sym (same-is b a e)) ∙ apart

module _ {M : Type 0} where
  pub without-same : (name : Path) (held : List (Holding M)) → holding name (without_name name held) ≡ None
  unfolding holding without_name
  without-same name [] = refl
  without-same name (h ∷ rest) = by (is_same_path h.name name) refl (without-same name rest)
    where
      by : (same : Bool) → is_same_path h.name name ≡ same → holding name (without_name name rest) ≡ None
          → holding name (cond same (without_name name rest) (h ∷ without_name name rest)) ≡ None
      by true e down = down
      by false e down = ap (λ b. cond b (Some h) (holding name (without_name name rest))) e ∙ down

  pub without-other : (other name : Path) (held : List (Holding M)) → is_same_path other name ≡ false
      → holding name (without_name other held) ≡ holding name held
  unfolding holding without_name
  without-other other name [] apart = refl
  without-other other name (h ∷ rest) apart = by (is_same_path h.name other) refl (without-other other name rest apart)
    where
      by : (same : Bool) → is_same_path h.name other ≡ same → holding name (without_name other rest) ≡ holding name rest
          → holding name (cond same (without_name other rest) (h ∷ without_name other rest)) ≡ holding name (h ∷ rest)
      by true e down =
          let not_it : is_same_path h.name name ≡ false = ap (λ a. is_same_path a name) (same-is h.name other e) ∙ apart in
          down ∙ sym (ap (λ b. cond b (Some h) (holding name rest)) not_it)
      by false e down = ap (cond (is_same_path h.name name) (Some h)) down

  -- a name that is held after another was handed back is not that one, and was held
  pub left-held : (other name : Path) (held : List (Holding M)) (x : Holding M) → holding name (without_name other held) ≡ Some x
      → (is_same_path other name ≡ false) × (holding name held ≡ Some x)
  left-held other name held x found = by (is_same_path other name) refl
    where
      by : (same : Bool) → is_same_path other name ≡ same → (is_same_path other name ≡ false) × (holding name held ≡ Some x)
      by true e =
          let none : None ≡ Some x = sym (without-same name held) ∙ ap (λ n. holding name (without_name n held)) (sym (same-is other name e)) ∙ found in
          absurd (cc)
      by false e = (e, sym (without-other other name held e) ∙ found)

  -- what one seat holds no other hands back
  pub left-holds : (seat giver : Seat) (other name : Path) (held : List (Holding M)) (x : Holding M) → giver ≢ seat → IsHeldBy giver other held
      → holding name held ≡ Some x → x.seat ≡ seat → holding name (without_name other held) ≡ Some x
  left-holds seat giver other name held x unlike back found mine = by (is_same_path other name) refl
    where
      by : (same : Bool) → is_same_path other name ≡ same → holding name (without_name other held) ≡ Some x
      by false e = without-other other name held e ∙ found
      by true e =
          let is : x.seat ≡ giver =
          subst (λ (c : Option (Holding M)). IsSomeAnd c (λ (h : Holding M). h.seat ≡ giver)) found (subst (λ n. IsHeldBy giver n held) (same-is other name e) back) in
          absurd (unlike (sym is ∙ mine))
