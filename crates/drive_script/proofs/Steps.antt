-- How many steps a machine makes, and where it stops.
use Rattle.std.proofs.Common.{◌≡◌, ℕ, zero, suc, ◌+◌, ◌-◌, ◌<◌, ◌≤◌, ◌⊎◌, ◌||◌, inl, inr, take, replicate, Bool, true, false, cond, refl, sym}
use Rattle.std.proofs.Common.{ap, ap₂, ◌∙◌, arith, List, [], ◌∷◌, ◌++◌, Option, Some, None, is_some, option_and_then}
use Rattle.std.proofs.lemmas.List.{take-replicate}
use Rattle.forest_tree.specs.Operations.{Operations}
use Rattle.forest_tree.specs.Tree.{Tree, machine, Path, subtree}
use Rattle.sibling_forest.specs.Talk.{Talks, Box, boxed}
use Rattle.sibling_forest.specs.Settle.{settle, settle_all, rests_at}
use Rattle.talking_history.proofs.Beside.{rests-parts}
use Rattle.talking_history.proofs.Leases.{moves-there}
use Rattle.drive_script.specs.Steps.{steps_made, stops, stalls_at, after_steps, if_lives, live_at}

cases : (b : Bool) (P : Type 0) → (b ≡ true → P) → (b ≡ false → P) → P
cases true P whether otherwise = whether refl
cases false P whether otherwise = otherwise refl

module _ {M E : Type 0} (o : Operations M E) (k : Talks M) where
  -- the steps one after another
  pub after-first : (count : ℕ) (path : Path) (t : Tree (Box M)) → after_steps o k (suc count) path t ≡ after_steps o k count path (settle o k path t)
  unfolding settle_all
  after-first count path t = refl

  pub after-none : (path : Path) (t : Tree (Box M)) → after_steps o k 0 path t ≡ t
  unfolding settle_all
  after-none path t = refl

  pub after-both : (one other : ℕ) (path : Path) (t : Tree (Box M)) → after_steps o k (one + other) path t ≡ after_steps o k other path (after_steps o k one path t)
  after-both zero other path t =
      let none : zero + other ≡ other = omega arith in
      ap (λ n. after_steps o k n path t) none ∙ ap (after_steps o k other path) (sym (after-none path t))
  after-both (suc one) other path t =
      let more : suc one + other ≡ suc (one + other) = omega arith in
      ap (λ n. after_steps o k n path t) more ∙ after-first (one + other) path t ∙ after-both one other path (settle o k path t)
      ∙ ap (after_steps o k other path) (sym (after-first one path t))

  -- paths one after another
  pub all-both : (one other : List Path) (t : Tree (Box M)) → settle_all o k (one ++ other) t ≡ settle_all o k other (settle_all o k one t)
  unfolding settle_all
  all-both [] other t = refl
  all-both (path ∷ one) other t = all-both one other (settle o k path t)

-- a machine that has ended rests
module _ {M E : Type 0} (o : Operations M E) (k : Talks M) where
  has-end : (e : Option E) (t : Tree (Box M)) → if_lives o e t ≡ None → is_some e ≡ true
  has-end None t h = absurd (cc)
  has-end (Some ending) t h = refl

  first-of-three : (a b c : Bool) → a ≡ true → (a || b) || c ≡ true
  first-of-three true b c h = refl
  first-of-three false b c h = absurd (cc)

  pub dead-rests : (path : Path) (t a : Tree (Box M)) → subtree path t ≡ Some a → live_at o path t ≡ None → rests_at o k path t ≡ true
  unfolding boxed
  dead-rests path t a here dead =
      let over = has-end (o.ending (machine a).machine) a (sym (ap (option_and_then (λ (b : Tree (Box M)). if_lives o (o.ending (machine b).machine) b)) here) ∙ dead) in
      rests-parts o k path t a here ∙ first-of-three (is_some (o.ending (machine a).machine)) _ _ over

module _ {M E : Type 0} (o : Operations M E) (k : Talks M) (stall : M → Option ℕ) where
  -- a machine that stops makes no step, and another makes one and goes on
  pub made-none : (most : ℕ) (path : Path) (t : Tree (Box M)) → stops o k stall path t ≡ true → steps_made o k stall most path t ≡ 0
  unfolding steps_made
  made-none zero path t h = refl
  made-none (suc most) path t h = ap (λ b. cond b 0 (suc (steps_made o k stall most path (settle o k path t)))) h

  -- and where none lives none is made
  pub nobody-stops : (path : Path) (t : Tree (Box M)) → live_at o path t ≡ None → stops o k stall path t ≡ true
  nobody-stops path t h = by (rests_at o k path t) refl
    where
      by : (rest : Bool) → rests_at o k path t ≡ rest → rest || stalls_at o k stall path t ≡ true
      by true e = refl
      by false e =
          let m = moves-there o k path t e in
          let no : true ≡ false = sym (dead-rests o k path t m.0 m.1 h) ∙ e in
          absurd (cc)

  pub made-more : (most : ℕ) (path : Path) (t : Tree (Box M)) → stops o k stall path t ≡ false → steps_made o k stall (suc most) path t ≡ suc (steps_made o k stall most path (settle o k path t))
  unfolding steps_made
  made-more most path t h = ap (λ b. cond b 0 (suc (steps_made o k stall most path (settle o k path t)))) h

  pub made-at-most : (most : ℕ) (path : Path) (t : Tree (Box M)) → steps_made o k stall most path t ≤ most
  unfolding steps_made
  made-at-most zero path t = omega arith
  made-at-most (suc most) path t =
      let below = made-at-most most path (settle o k path t) in
      cases (stops o k stall path t) (steps_made o k stall (suc most) path t ≤ suc most)
      (λ h. let none = made-none (suc most) path t h in omega (arith, none))
      (λ h. let more = made-more most path t h in omega (arith, more, below))

  pub made-zero : (path : Path) (t : Tree (Box M)) → steps_made o k stall 0 path t ≡ 0
  unfolding steps_made
  made-zero path t = refl

  -- before each step that is made the machine does not stop
  pub made-each : (most n : ℕ) (path : Path) (t : Tree (Box M)) → n < steps_made o k stall most path t → stops o k stall path (after_steps o k n path t) ≡ false
  made-each zero n path t h = let none = made-zero path t in absurd (omega (arith, none, h))
  made-each (suc most) zero path t h =
      cases (stops o k stall path t) (stops o k stall path (after_steps o k 0 path t) ≡ false)
      (λ rest. let none = made-none (suc most) path t rest in absurd (omega (arith, none, h)))
      (λ go. ap (λ u. stops o k stall path u) (after-none o k path t) ∙ go)
  made-each (suc most) (suc n) path t h =
      cases (stops o k stall path t) (stops o k stall path (after_steps o k (suc n) path t) ≡ false)
      (λ rest. let none = made-none (suc most) path t rest in absurd (omega (arith, none, h)))
      (λ go.
      let more = made-more most path t go in
      ap (λ u. stops o k stall path u) (after-first o k n path t) ∙ made-each most n path (settle o k path t) (omega (arith, more, h)))

  -- the trees after as many steps as are made
  abbrev pub stopped : ℕ → Path → Tree (Box M) → Tree (Box M)
  stopped most path t = after_steps o k (steps_made o k stall most path t) path t

  stopped-none : (most : ℕ) (path : Path) (t : Tree (Box M)) → stops o k stall path t ≡ true → stopped most path t ≡ t
  stopped-none most path t rest = ap (λ n. after_steps o k n path t) (made-none most path t rest) ∙ after-none o k path t

  stopped-more : (most : ℕ) (path : Path) (t : Tree (Box M)) → stops o k stall path t ≡ false → stopped (suc most) path t ≡ stopped most path (settle o k path t)
  stopped-more most path t go = ap (λ n. after_steps o k n path t) (made-more most path t go) ∙ after-first o k (steps_made o k stall most path (settle o k path t)) path t

  -- fewer are made only where it then stops
  pub made-short : (most : ℕ) (path : Path) (t : Tree (Box M)) → steps_made o k stall most path t < most → stops o k stall path (stopped most path t) ≡ true
  made-short zero path t h = absurd (omega arith)
  made-short (suc most) path t h =
      cases (stops o k stall path t) (stops o k stall path (stopped (suc most) path t) ≡ true)
      (λ rest. ap (λ u. stops o k stall path u) (stopped-none (suc most) path t rest) ∙ rest)
      (λ go.
      let more = made-more most path t go in
      ap (λ u. stops o k stall path u) (stopped-more most path t go) ∙ made-short most path (settle o k path t) (omega (arith, more, h)))

  -- as many as the first and then those that are left
  pub made-both : (first more : ℕ) (path : Path) (t : Tree (Box M))
      → steps_made o k stall (first + more) path t ≡ steps_made o k stall first path t + steps_made o k stall more path (stopped first path t)
  made-both zero more path t =
      let none : zero + more ≡ more = omega arith in
      let start : stopped zero path t ≡ t = ap (λ n. after_steps o k n path t) (made-zero path t) ∙ after-none o k path t in
      let made = made-zero path t in
      let same : steps_made o k stall more path (stopped zero path t) ≡ steps_made o k stall more path t = ap (steps_made o k stall more path) start in
      ap (λ n. steps_made o k stall n path t) none ∙ omega (arith, made, same)
  made-both (suc first) more path t =
      let one : suc first + more ≡ suc (first + more) = omega arith in
      cases (stops o k stall path t) (steps_made o k stall (suc first + more) path t ≡ steps_made o k stall (suc first) path t + steps_made o k stall more path (stopped (suc first) path t))
      (λ rest.
      let whole = made-none (suc first + more) path t rest in
      let front = made-none (suc first) path t rest in
      let back : steps_made o k stall more path (stopped (suc first) path t) ≡ 0 =
      ap (steps_made o k stall more path) (stopped-none (suc first) path t rest) ∙ made-none more path t rest in
      omega (arith, whole, front, back))
      (λ go.
      let whole : steps_made o k stall (suc first + more) path t ≡ suc (steps_made o k stall (first + more) path (settle o k path t)) =
      ap (λ n. steps_made o k stall n path t) one ∙ made-more (first + more) path t go in
      let front = made-more first path t go in
      let back : steps_made o k stall more path (stopped (suc first) path t) ≡ steps_made o k stall more path (stopped first path (settle o k path t)) =
      ap (steps_made o k stall more path) (stopped-more first path t go) in
      let both = made-both first more path (settle o k path t) in
      omega (arith, whole, front, back, both))

  -- so many are made, and no more where that is all or the machine then stops
  pub made-all : (n most : ℕ) (path : Path) (t : Tree (Box M)) → n ≤ most → steps_made o k stall n path t ≡ n
      → steps_made o k stall most path t ≡ n + steps_made o k stall (most - n) path (after_steps o k n path t)
  made-all n most path t within made =
      let all : most ≡ n + (most - n) = omega arith in
      let is : after_steps o k (steps_made o k stall n path t) path t ≡ after_steps o k n path t = ap (λ x. after_steps o k x path t) made in
      ap (λ x. steps_made o k stall x path t) all ∙ made-both n (most - n) path t ∙ ap₂ (λ x u. x + steps_made o k stall (most - n) path u) made is

  pub made-stops : (n most : ℕ) (path : Path) (t : Tree (Box M)) → n ≤ most → steps_made o k stall n path t ≡ n
      → (n ≡ most) ⊎ (stops o k stall path (after_steps o k n path t) ≡ true) → steps_made o k stall most path t ≡ n
  made-stops n most path t within made stops =
      let both = made-all n most path t within made in
      elim stops [
        | inl all ↦ (let none : most - n ≡ 0 = omega arith in
            let more = ap (λ x. steps_made o k stall x path (after_steps o k n path t)) none ∙ made-zero path (after_steps o k n path t) in
            omega (arith, both, more))
        | inr rest ↦ (let more = made-none (most - n) path (after_steps o k n path t) rest in omega (arith, both, more))
      ]

  -- the first of the steps that are made
  pub first-made : (n most : ℕ) (path : Path) (t : Tree (Box M)) → n ≤ most → steps_made o k stall n path t ≡ n
      → after_steps o k n path t ≡ settle_all o k (take n (replicate (steps_made o k stall most path t) path)) t
  first-made n most path t within made =
      let both = made-all n most path t within made in
      ap (λ paths. settle_all o k paths t) (sym (take-replicate n (steps_made o k stall most path t) path (omega (arith, both))))
