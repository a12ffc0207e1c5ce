-- A tree run to its end, in whatever order steps are made.
use Rattle.std.proofs.Common.{◌≡◌, ◌≢◌, ℕ, zero, suc, ◌<◌, ◌≤◌, eqb, eqb-true, ◌⊎◌, inl, inr, Bool, true, false, not, refl, sym, ap, ap₂, ◌∙◌, subst, arith, le_refl, List, [], ◌∷◌, Option, Some, None}
use Rattle.std.proofs.Common.{IsSome, is_some}
use Rattle.std.proofs.lemmas.Bool.{eqb-false}
use Rattle.forest_tree.specs.Operations.{Operations, IsMachine}
use Rattle.forest_tree.specs.Tree.{Tree, machine, Branch, Path}
use Rattle.forest_tree.specs.Step.{has_ended}
use Rattle.forest_tree.specs.Sound.{IsSound}
use Rattle.forest_tree.specs.Ahead.{ahead}
use Rattle.forest_tree.proofs.Sound.{KeepsTo}
use Rattle.sibling_forest.specs.Talk.{Talks, Box, boxed, IsTalking}
use Rattle.sibling_forest.specs.Settle.{settle, settle_all, rests_at}
use Rattle.sibling_forest.specs.Finish.{first_path, rests, next_by, next_path, go_on, run, finish, IsFinish}
use Rattle.sibling_forest.specs.Laws.{Meet, commute, drops, dropped}
use Rattle.sibling_forest.proofs.Sound.{settle-keeps}
use Rattle.sibling_forest.proofs.Meets.{meets}
use Rattle.sibling_forest.proofs.Falls.{settle-falls}
use Rattle.sibling_forest.proofs.Resting.{settle-rests, next-moves, next-none}

-- two paths are the same or not
first-other : (b d : Branch) (p q : Path) → (b.ticket ≡ d.ticket → b.child ≡ d.child → p ≡ q → ⊥) → (b ∷ p) ≢ (d ∷ q)
first-other b d p q h e = h (ap ticket_of e) (ap child_of e) (ap rest_of e)
  where
    ticket_of : Path → ℕ
    ticket_of [] = 0
    ticket_of (x ∷ rest) = x.ticket

    child_of : Path → ℕ
    child_of [] = 0
    child_of (x ∷ rest) = x.child

    rest_of : Path → Path
    rest_of [] = []
    rest_of (x ∷ rest) = rest

pub same-path : (p q : Path) → (p ≡ q) ⊎ (p ≢ q)
same-path [] [] = inl refl
same-path [] (d ∷ q) = inr (λ e. absurd (cc))
same-path (b ∷ p) [] = inr (λ e. absurd (cc))
same-path (b ∷ p) (d ∷ q) = by (eqb b.ticket d.ticket) refl (eqb b.child d.child) refl (same-path p q)
  where
    by : (t : Bool) → eqb b.ticket d.ticket ≡ t → (c : Bool) → eqb b.child d.child ≡ c → (p ≡ q) ⊎ (p ≢ q) → ((b ∷ p) ≡ (d ∷ q)) ⊎ ((b ∷ p) ≢ (d ∷ q))
    by true t true c (inl e) =
        inl (ap₂ (λ (x : Branch) (y : Path). x ∷ y)
        (ap₂ (λ (i j : ℕ). record { ticket = i; child = j }) (eqb-true b.ticket d.ticket t) (eqb-true b.child d.child c)) e)
    by true t true c (inr other) = inr (first-other b d p q (λ x y e. other e))
    by true t false c rest = inr (first-other b d p q (λ x y e. eqb-false b.child d.child c y))
    by false t other c rest = inr (first-other b d p q (λ x y e. eqb-false b.ticket d.ticket t x))

module _ {M E : Type 0} (o : Operations M E) (k : Talks M) (rules : IsMachine o) (talking : IsTalking o k) where
  abbrev left : Tree (Box M) → ℕ
  left t = ahead (boxed o k) t

  -- as many steps as are ahead are enough
  run-zero : (n : ℕ) (t : Tree (Box M)) → next_path o k t ≡ None → run o k n t ≡ t
  unfolding run
  run-zero zero t e = refl
  run-zero (suc n) t e = ap (λ path. go_on o k path (λ p. run o k n (settle o k p t)) t) e

  run-next : (n : ℕ) (t : Tree (Box M)) (path : Path) → next_path o k t ≡ Some path → run o k (suc n) t ≡ run o k n (settle o k path t)
  unfolding run
  run-next n t path e = ap (λ path. go_on o k path (λ p. run o k n (settle o k p t)) t) e

  next-falls : (t : Tree (Box M)) (path : Path) → IsSound (boxed o k) t → next_path o k t ≡ Some path → left (settle o k path t) < left t
  next-falls t path h e = settle-falls o k rules talking path t h (next-moves o k t path e)

  run-same : (n m : ℕ) (t : Tree (Box M)) → IsSound (boxed o k) t → left t ≤ n → left t ≤ m → run o k n t ≡ run o k m t
  run-same zero m t h fits enough = by (next_path o k t) refl
    where
      by : (next : Option Path) → next_path o k t ≡ next → run o k zero t ≡ run o k m t
      by None e = run-zero zero t e ∙ sym (run-zero m t e)
      by (Some path) e = let falls : left (settle o k path t) < left t = next-falls t path h e in absurd (omega arith)
  run-same (suc n) zero t h fits enough = by (next_path o k t) refl
    where
      by : (next : Option Path) → next_path o k t ≡ next → run o k (suc n) t ≡ run o k zero t
      by None e = run-zero (suc n) t e ∙ sym (run-zero zero t e)
      by (Some path) e = let falls : left (settle o k path t) < left t = next-falls t path h e in absurd (omega arith)
  run-same (suc n) (suc m) t h fits enough =
      by (next_path o k t) refl (λ path less more. run-same n m (settle o k path t) (settle-keeps o k rules talking path t h).sound less more)
    where
      by : (next : Option Path) → next_path o k t ≡ next
          → ((path : Path) → left (settle o k path t) ≤ n → left (settle o k path t) ≤ m → run o k n (settle o k path t) ≡ run o k m (settle o k path t))
          → run o k (suc n) t ≡ run o k (suc m) t
      by None e down = run-zero (suc n) t e ∙ sym (run-zero (suc m) t e)
      by (Some path) e down =
          let falls : left (settle o k path t) < left t = next-falls t path h e in
          run-next n t path e ∙ down path (omega arith) (omega arith) ∙ sym (run-next m t path e)

  -- the finish goes on at the next path, and else is the tree
  pub finish-none : (t : Tree (Box M)) → next_path o k t ≡ None → finish o k t ≡ t
  unfolding finish
  finish-none t e = run-zero (left t) t e

  pub finish-next : (t : Tree (Box M)) (path : Path) → IsSound (boxed o k) t → next_path o k t ≡ Some path → finish o k t ≡ finish o k (settle o k path t)
  unfolding finish
  finish-next t path h e =
      let falls : left (settle o k path t) < left t = next-falls t path h e in
      run-same (left t) (suc (left t)) t h (le_refl (left t)) (omega arith)
      ∙ run-next (left t) t path e
      ∙ run-same (left t) (left (settle o k path t)) (settle o k path t) (settle-keeps o k rules talking path t h).sound (omega arith) (le_refl _)

  -- a step of any machine leaves the finish
  stays-by : (n : ℕ) (t : Tree (Box M)) (p : Path) → IsSound (boxed o k) t → left t ≤ n → finish o k (settle o k p t) ≡ finish o k t
  stays-by zero t p h fits = by (rests_at o k p t) refl
    where
      by : (rest : Bool) → rests_at o k p t ≡ rest → finish o k (settle o k p t) ≡ finish o k t
      by true r = ap (finish o k) (settle-rests o k p t h r)
      by false r = let falls : left (settle o k p t) < left t = settle-falls o k rules talking p t h r in absurd (omega arith)
  stays-by (suc n) t p h fits = by (next_path o k t) refl (rests_at o k p t) refl (λ u q sound less. stays-by n u q sound less)
    where
      by : (next : Option Path) → next_path o k t ≡ next → (rest : Bool) → rests_at o k p t ≡ rest
          → ((u : Tree (Box M)) (q : Path) → IsSound (boxed o k) u → left u ≤ n → finish o k (settle o k q u) ≡ finish o k u)
          → finish o k (settle o k p t) ≡ finish o k t
      by next e true r down = ap (finish o k) (settle-rests o k p t h r)
      by None e false r down = let no : true ≡ false = sym (next-none o k t h e p) ∙ r in absurd (cc)
      by (Some q) e false r down = either (same-path p q)
        where
          moves : rests_at o k q t ≡ false
          moves = next-moves o k t q e

          on : finish o k (settle o k q t) ≡ finish o k t
          on = sym (finish-next t q h e)

          after_p : finish o k (settle o k q (settle o k p t)) ≡ finish o k (settle o k p t)
          after_p =
              let falls : left (settle o k p t) < left t = settle-falls o k rules talking p t h r in
              down (settle o k p t) q (settle-keeps o k rules talking p t h).sound (omega arith)

          after_q : finish o k (settle o k p (settle o k q t)) ≡ finish o k (settle o k q t)
          after_q =
              let falls : left (settle o k q t) < left t = settle-falls o k rules talking q t h moves in
              down (settle o k q t) p (settle-keeps o k rules talking q t h).sound (omega arith)

          meet : Meet o k p q t → finish o k (settle o k p t) ≡ finish o k t
          meet (commute c x y) = sym after_p ∙ ap (finish o k) (sym c) ∙ after_q ∙ on
          meet (drops c x y) = ap (finish o k) (sym c) ∙ after_q ∙ on
          meet (dropped c x y) = sym after_p ∙ ap (finish o k) c ∙ on

          either : (p ≡ q) ⊎ (p ≢ q) → finish o k (settle o k p t) ≡ finish o k t
          either (inl same) = ap (λ x. finish o k (settle o k x t)) same ∙ on
          either (inr other) = meet (meets o k rules talking p q t h other r moves)

  pub finish-stays : (p : Path) (t : Tree (Box M)) → IsSound (boxed o k) t → finish o k (settle o k p t) ≡ finish o k t
  finish-stays p t h = stays-by (left t) t p h (le_refl (left t))

  pub finish-settle_all : (paths : List Path) (t : Tree (Box M)) → IsSound (boxed o k) t → finish o k (settle_all o k paths t) ≡ finish o k t
  unfolding settle_all
  finish-settle_all [] t h = refl
  finish-settle_all (p ∷ rest) t h =
      finish-settle_all rest (settle o k p t) (settle-keeps o k rules talking p t h).sound ∙ finish-stays p t h

  -- it is over where the root has ended or all rests
  unfoldable pub IsOver : Tree (Box M) → Type 0
  IsOver t = IsSome (o.ending (machine t).machine) ⊎ (rests o k t ≡ true)

  pub over-next : (t : Tree (Box M)) → IsOver t → next_path o k t ≡ None
  unfolding IsOver boxed
  over-next t (inl ended) = by (o.ending (machine t).machine) ended
    where
      by : (e : Option E) → IsSome e → next_by o k (is_some e) (first_path o k t) ≡ None
      by None h = absurd (cc)
      by (Some a) h = refl
  over-next t (inr resting) = by (first_path o k t) resting (has_ended (boxed o k) t)
    where
      by : (found : Option Path) → not (is_some found) ≡ true → (ended : Bool) → next_by o k ended found ≡ None
      by found h true = refl
      by None h false = refl
      by (Some p) h false = absurd (cc)

  pub next-over : (t : Tree (Box M)) → next_path o k t ≡ None → IsOver t
  unfolding IsOver boxed
  next-over t e = by (o.ending (machine t).machine) refl (first_path o k t) refl e
    where
      by : (f : Option E) → o.ending (machine t).machine ≡ f → (found : Option Path) → first_path o k t ≡ found → next_by o k (is_some f) found ≡ None
          → IsSome (o.ending (machine t).machine) ⊎ (not (is_some (first_path o k t)) ≡ true)
      by (Some a) f found x e = inl (subst IsSome (sym f) refl)
      by None f None x e = inr (ap (λ y. not (is_some y)) x)
      by None f (Some p) x e = absurd (cc)

  pub finish-over : (t : Tree (Box M)) → IsOver t → finish o k t ≡ t
  finish-over t over = finish-none t (over-next t over)

  -- the finish is sound, and over
  pub record Ends (t : Tree (Box M)) : Type 0 where
    pub keeps : KeepsTo (boxed o k) t (finish o k t)
    pub over : IsOver (finish o k t)

  ends-none : (t : Tree (Box M)) → IsSound (boxed o k) t → next_path o k t ≡ None → Ends t
  ends-none t h e =
      let same : t ≡ finish o k t = sym (finish-none t e) in
      record { keeps = subst (KeepsTo (boxed o k) t) same (record { sound = h; holding = refl }); over = subst IsOver same (next-over t e) }

  ends-next : (t : Tree (Box M)) (p : Path) → IsSound (boxed o k) t → next_path o k t ≡ Some p → Ends (settle o k p t) → Ends t
  ends-next t p h e later =
      let same : finish o k (settle o k p t) ≡ finish o k t = sym (finish-next t p h e) in
      record {
        keeps = subst (KeepsTo (boxed o k) t) same
            (record { sound = (later.keeps).sound; holding = (later.keeps).holding ∙ (settle-keeps o k rules talking p t h).holding });
        over = subst IsOver same later.over;
      }

  ends-by : (n : ℕ) (t : Tree (Box M)) → IsSound (boxed o k) t → left t ≤ n → Ends t
  ends-by zero t h fits = by (next_path o k t) refl
    where
      by : (next : Option Path) → next_path o k t ≡ next → Ends t
      by None e = ends-none t h e
      by (Some p) e = let falls : left (settle o k p t) < left t = next-falls t p h e in absurd (omega arith)
  ends-by (suc n) t h fits = by (next_path o k t) refl (λ u sound less. ends-by n u sound less)
    where
      by : (next : Option Path) → next_path o k t ≡ next → ((u : Tree (Box M)) → IsSound (boxed o k) u → left u ≤ n → Ends u) → Ends t
      by None e down = ends-none t h e
      by (Some p) e down =
          let falls : left (settle o k p t) < left t = next-falls t p h e in
          ends-next t p h e (down (settle o k p t) (settle-keeps o k rules talking p t h).sound (omega arith))

  pub finish-ends : (t : Tree (Box M)) → IsSound (boxed o k) t → Ends t
  finish-ends t h = ends-by (left t) t h (le_refl (left t))

  -- two orders that come to an end come to one tree
  pub settle_all-over : (paths : List Path) (t : Tree (Box M)) → IsSound (boxed o k) t → IsOver (settle_all o k paths t) → settle_all o k paths t ≡ finish o k t
  settle_all-over paths t h over = sym (finish-over (settle_all o k paths t) over) ∙ finish-settle_all paths t h

  pub settle_all-agree : (one other : List Path) (t : Tree (Box M)) → IsSound (boxed o k) t → IsOver (settle_all o k one t) → IsOver (settle_all o k other t)
      → settle_all o k one t ≡ settle_all o k other t
  settle_all-agree one other t h first second = settle_all-over one t h first ∙ sym (settle_all-over other t h second)

  -- the finish meets its equations, and no other function does
  first-next : (t : Tree (Box M)) (path : Path) → o.ending (machine t).machine ≡ None → first_path o k t ≡ Some path → next_path o k t ≡ Some path
  unfolding boxed
  first-next t path lives e = ap₂ (λ b p. next_by o k b p) (ap is_some lives) e

  pub finish-is : IsFinish o k (finish o k)
  unfolding IsOver
  finish-is = record {
    ended = λ t h ended. finish-over t (inl ended);
    resting = λ t h rest. finish-over t (inr rest);
    steps = λ t path h lives e. finish-next t path h (first-next t path lives e);
  }

  next-first : (t : Tree (Box M)) (path : Path) → next_path o k t ≡ Some path → (o.ending (machine t).machine ≡ None) × (first_path o k t ≡ Some path)
  unfolding boxed
  next-first t path e = by (o.ending (machine t).machine) refl e
    where
      by : (f : Option E) → o.ending (machine t).machine ≡ f → next_by o k (is_some f) (first_path o k t) ≡ Some path
          → (o.ending (machine t).machine ≡ None) × (first_path o k t ≡ Some path)
      by None f e = (f, e)
      by (Some a) f e = absurd (cc)

  only-over : (f : Tree (Box M) → Tree (Box M)) → IsFinish o k f → (t : Tree (Box M)) → IsSound (boxed o k) t → IsOver t → f t ≡ t
  unfolding IsOver
  only-over f is t h (inl ended) = is.ended t h ended
  only-over f is t h (inr rest) = is.resting t h rest

  only-by : (f : Tree (Box M) → Tree (Box M)) → IsFinish o k f → (n : ℕ) (t : Tree (Box M)) → IsSound (boxed o k) t → left t ≤ n → f t ≡ finish o k t
  only-by f is zero t h fits = by (next_path o k t) refl
    where
      by : (next : Option Path) → next_path o k t ≡ next → f t ≡ finish o k t
      by None e = only-over f is t h (next-over t e) ∙ sym (finish-none t e)
      by (Some p) e = let falls : left (settle o k p t) < left t = next-falls t p h e in absurd (omega arith)
  only-by f is (suc n) t h fits = by (next_path o k t) refl (λ u sound less. only-by f is n u sound less)
    where
      by : (next : Option Path) → next_path o k t ≡ next → ((u : Tree (Box M)) → IsSound (boxed o k) u → left u ≤ n → f u ≡ finish o k u) → f t ≡ finish o k t
      by None e down = only-over f is t h (next-over t e) ∙ sym (finish-none t e)
      by (Some p) e down =
          let falls : left (settle o k p t) < left t = next-falls t p h e in
          let is_first = next-first t p e in
          is.steps t p h is_first.0 is_first.1
          ∙ down (settle o k p t) (settle-keeps o k rules talking p t h).sound (omega arith)
          ∙ sym (finish-next t p h e)

  pub finish-only : (f : Tree (Box M) → Tree (Box M)) → IsFinish o k f → (t : Tree (Box M)) → IsSound (boxed o k) t → f t ≡ finish o k t
  finish-only f is t h = only-by f is (left t) t h (le_refl (left t))
