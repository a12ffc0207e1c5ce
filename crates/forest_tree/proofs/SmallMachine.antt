-- The small machine keeps the rules of a machine in a forest.
use Rattle.std.proofs.Common.{◌≡◌, ℕ, zero, suc, pred, ◌+◌, ◌<◌, ◌≤◌, ◌&&◌, ◌||◌, not, eqb, ltb, leb, Bool, true, false, cond, refl, sym, ap, ◌∙◌, subst, arith, ltb-true, lt-ltb, leb-true, le-leb}
use Rattle.std.proofs.Common.{eqb-true, [], Option, Some, None, is_some}
use Rattle.std.proofs.lemmas.Bool.{eqb-false, lt-leb, and_parts, and_from, or_right}
use Rattle.forest_tree.proofs.Broods.{eqb-same}
use Rattle.forest_tree.specs.Operations.{Call, clone, join, kill, Grant, is_among, is_cloned, Makes, IsStep, IsChild, IsMachine}
use Rattle.forest_tree.specs.Toy.{Order, pause, request, clone_children, join_children, kill_children, exit, Ticket, no_ticket, granted, cloned, ToyEnding, by_limit, Toy, cost, ticket_cost}
use Rattle.forest_tree.specs.Toy.{ticket_grant, cloned_numbers, order_of, call_of, given_back, requested, obeyed, set_cloned, is_uncloned, is_numbered_below, ending_after, counted, total, toy_forked}
use Rattle.forest_tree.specs.Toy.{toy_child, toy}

-- a machine that lives has steps left
left-some : (e : Option ToyEnding) (left : ℕ) → is_some e || ltb 0 left ≡ true → e ≡ None → 0 < left
left-some None left h lives = ltb-true 0 left h
left-some (Some a) left h lives = absurd (cc)

by-limit-good : (left : ℕ) (none : Bool) → eqb left 0 ≡ none → is_some (cond none (Some by_limit) None) || ltb 0 left ≡ true
by-limit-good left true e = refl
by-limit-good left false e = lt-ltb 0 left (pos left (eqb-false left 0 e))
  where
    pos : (n : ℕ) → (n ≡ 0 → ⊥) → 0 < n
    pos zero h = absurd (h refl)
    pos (suc n) h = omega arith

good-after : (order : Order) (left value : ℕ) → is_some (ending_after order left value) || ltb 0 left ≡ true
good-after pause left value = by-limit-good left (eqb left 0) refl
good-after (request n share) left value = by-limit-good left (eqb left 0) refl
good-after clone_children left value = by-limit-good left (eqb left 0) refl
good-after join_children left value = by-limit-good left (eqb left 0) refl
good-after kill_children left value = by-limit-good left (eqb left 0) refl
good-after exit left value = refl

or-left : (a b c : Bool) → b ≡ false → a || b ≡ true → a || c ≡ true
or-left true b c e h = refl
or-left false b c e h = let no : false ≡ true = sym e ∙ h in absurd (cc)

is-below : (m : Toy) → toy.is_good m ≡ true → is_numbered_below m.ticket m.next_ticket ≡ true
is-below m good = (and_parts (is_numbered_below m.ticket m.next_ticket) (is_some m.ending || ltb 0 m.left) good).0

has-left : (m : Toy) → toy.is_good m ≡ true → m.ending ≡ None → 0 < m.left
has-left m good lives =
    left-some m.ending m.left (and_parts (is_numbered_below m.ticket m.next_ticket) (is_some m.ending || ltb 0 m.left) good).1 lives

suc-left : (m : Toy) (next : Option Call) → Makes toy m next → m.left ≡ suc (pred m.left)
suc-left m next makes = let some : 0 < m.left = has-left m makes.good makes.lives in omega arith

-- a step of its own keeps what it holds and its cloned ticket
record Keeps (m n : Toy) : Type 0 where
  left : n.left ≡ m.left
  holding : n.allot + ticket_cost n.ticket ≡ m.allot + ticket_cost m.ticket
  numbers : cloned_numbers n.ticket ≡ cloned_numbers m.ticket
  grants : (t : ℕ) → is_among t (cloned_numbers n.ticket) ≡ true → ticket_grant n.ticket ≡ ticket_grant m.ticket
  below : is_numbered_below m.ticket m.next_ticket ≡ true → is_numbered_below n.ticket n.next_ticket ≡ true
  once : (t : ℕ) → toy.may_clone n t ≡ true → toy.may_clone m t ≡ true

-- the number of a new ticket was not given before
new-number : (next t : ℕ) (other later same : Bool) → leb (suc next) t ≡ later → eqb next t ≡ same → later || same ≡ true → leb next t || other ≡ true
new-number next t other true same e f h =
    let past : suc next ≤ t = leb-true (suc next) t e in ap (λ b. b || other) (le-leb next t (omega arith))
new-number next t other false true e f h =
    let at : next ≡ t = eqb-true next t f in ap (λ b. b || other) (le-leb next t (omega arith))
new-number next t other false false e f h = absurd (cc)

requested-keeps : (enough : Bool) (g : Grant) (m : Toy) → leb (cost g) m.allot ≡ enough → m.ticket ≡ no_ticket → Keeps m (requested enough g m)
unfolding is_among
requested-keeps false g m e none = record { left = refl; holding = refl; numbers = refl; grants = λ t h. refl; below = λ h. h; once = λ t h. h }
requested-keeps true g m e none =
    let within : cost g ≤ m.allot = leb-true (cost g) m.allot e in
    let nothing : ticket_cost m.ticket ≡ 0 = ap ticket_cost none in
    record {
      left = refl;
      holding = omega arith;
      numbers = sym (ap cloned_numbers none);
      grants = λ t h. absurd (cc);
      below = λ h. lt-ltb m.next_ticket (suc m.next_ticket) (omega arith);
      once = λ t h. new-number m.next_ticket t (is_uncloned m.ticket t) (leb (suc m.next_ticket) t) (eqb m.next_ticket t) refl refl h;
    }

given_back-keeps : (m : Toy) (t : ℕ) (g : Grant) → m.ticket ≡ granted t g → Keeps m (given_back m)
unfolding is_among
given_back-keeps m t g e = record {
  left = refl;
  holding = omega arith;
  numbers = sym (ap cloned_numbers e);
  grants = λ t h. absurd (cc);
  below = λ h. refl;
  once = λ t h. or-left (leb m.next_ticket t) false (is_uncloned m.ticket t) refl h;
}

obeyed-keeps : (order : Order) (held : Ticket) (m : Toy) → m.ticket ≡ held → Keeps m (obeyed order held m)
obeyed-keeps (request n share) no_ticket m e =
    let g : Grant = record { children = n; share = share } in requested-keeps (leb (cost g) m.allot) g m refl e
obeyed-keeps kill_children (granted t g) m e = given_back-keeps m t g e
obeyed-keeps _ _ m e = record { left = refl; holding = refl; numbers = refl; grants = λ t h. refl; below = λ h. h; once = λ t h. h }

advance-step : (m : Toy) → Makes toy m None → IsStep toy m (toy.advance m) (is_cloned toy m)
advance-step m makes =
    let n : Toy = obeyed (order_of m.orders) m.ticket m in
    let k : Keeps m n = obeyed-keeps (order_of m.orders) m.ticket m refl in
    record {
      good = and_from (is_numbered_below n.ticket n.next_ticket) (is_some (counted n).ending || ltb 0 (pred n.left))
          (k.below (is-below m makes.good)) (good-after (order_of n.orders) (pred n.left) n.value);
      counted = suc-left m None makes ∙ ap (λ l. suc (pred l)) (sym k.left);
      holding = k.holding;
      tickets = λ t. ap (is_among t) k.numbers;
      grants = k.grants;
      once = k.once;
    }

-- a call comes where the ticket stands so
StandsFor : Option Call → Ticket → Type 0
StandsFor None held = Unit {0}
StandsFor (Some (clone t)) held = (g : Grant) × (held ≡ granted t g)
StandsFor (Some (join t)) held = (g : Grant) × (held ≡ cloned t g)
StandsFor (Some (kill t)) held = (g : Grant) × (held ≡ cloned t g)

stands : (order : Order) (held : Ticket) → StandsFor (call_of order held) held
unfolding StandsFor
stands clone_children no_ticket = tt
stands clone_children (granted t g) = (g, refl)
stands clone_children (cloned t g) = tt
stands join_children no_ticket = tt
stands join_children (granted t g) = tt
stands join_children (cloned t g) = (g, refl)
stands kill_children no_ticket = tt
stands kill_children (granted t g) = tt
stands kill_children (cloned t g) = (g, refl)
stands _ _ = tt

makes-stands : (m : Toy) (next : Option Call) → Makes toy m next → StandsFor next m.ticket
makes-stands m next makes = subst (λ c. StandsFor c m.ticket) makes.call (stands (order_of m.orders) m.ticket)

clone-stands : (m : Toy) (t : ℕ) → Makes toy m (Some (clone t)) → (g : Grant) × (m.ticket ≡ granted t g)
unfolding StandsFor
clone-stands m t makes = makes-stands m (Some (clone t)) makes

join-stands : (m : Toy) (t : ℕ) → Makes toy m (Some (join t)) → (g : Grant) × (m.ticket ≡ cloned t g)
unfolding StandsFor
join-stands m t makes = makes-stands m (Some (join t)) makes

kill-stands : (m : Toy) (t : ℕ) → Makes toy m (Some (kill t)) → (g : Grant) × (m.ticket ≡ cloned t g)
unfolding StandsFor
kill-stands m t makes = makes-stands m (Some (kill t)) makes

-- what is cloned then
after-clone : (held : Ticket) (t : ℕ) (g : Grant) → held ≡ granted t g → (u : ℕ)
    → is_among u (cloned_numbers (set_cloned held)) ≡ (eqb t u || is_among u (cloned_numbers held))
unfolding is_among
after-clone held t g e u =
    subst (λ k. is_among u (cloned_numbers (set_cloned k)) ≡ (eqb t u || is_among u (cloned_numbers k))) (sym e) refl

neither-one : (b : Bool) → false ≡ not b && (b || false)
neither-one true = refl
neither-one false = refl

after-gone : (held : Ticket) (t : ℕ) (g : Grant) → held ≡ cloned t g → (u : ℕ)
    → is_among u [] ≡ (not (eqb t u) && is_among u (cloned_numbers held))
unfolding is_among
after-gone held t g e u =
    subst (λ k. is_among u [] ≡ (not (eqb t u) && is_among u (cloned_numbers k))) (sym e) (neither-one (eqb t u))

one-cloned : (held : Ticket) (t : ℕ) (g : Grant) → held ≡ cloned t g → is_among t (cloned_numbers held) ≡ true
unfolding is_among
one-cloned held t g e = ap (λ k. is_among t (cloned_numbers k)) e ∙ ap (λ b. b || false) (eqb-same t)

forked-cost : (held : Ticket) → ticket_cost (set_cloned held) ≡ ticket_cost held
forked-cost no_ticket = refl
forked-cost (granted t g) = refl
forked-cost (cloned t g) = refl

forked-grant : (held : Ticket) → ticket_grant (set_cloned held) ≡ ticket_grant held
forked-grant no_ticket = refl
forked-grant (granted t g) = refl
forked-grant (cloned t g) = refl

forked-below : (held : Ticket) (next : ℕ) → is_numbered_below (set_cloned held) next ≡ is_numbered_below held next
forked-below no_ticket next = refl
forked-below (granted t g) next = refl
forked-below (cloned t g) next = refl

forked-uncloned : (held : Ticket) (t : ℕ) → is_uncloned (set_cloned held) t ≡ false
forked-uncloned no_ticket t = refl
forked-uncloned (granted u g) t = refl
forked-uncloned (cloned u g) t = refl

-- a cloned ticket is not cloned again
once-by : (held : Ticket) (next t : ℕ) → is_numbered_below held next ≡ true → is_among t (cloned_numbers held) ≡ true
    → leb next t || is_uncloned held t ≡ false
unfolding is_among
once-by no_ticket next t below among = absurd (cc)
once-by (granted u g) next t below among = absurd (cc)
once-by (cloned u g) next t below among = past (eqb u t) refl among
  where
    past : (same : Bool) → eqb u t ≡ same → same || false ≡ true → leb next t || false ≡ false
    past false e h = absurd (cc)
    past true e h =
        let given : u < next = ltb-true u next below in
        let number : u ≡ t = eqb-true u t e in
        ap (λ b. b || false) (lt-leb next t (omega arith))

forked-step : (m : Toy) (t : ℕ) → Makes toy m (Some (clone t)) → IsStep toy m (toy_forked m) (λ u. eqb t u || is_cloned toy m u)
forked-step m t makes =
    let is = clone-stands m t makes in
    record {
      good = and_from (is_numbered_below (set_cloned m.ticket) m.next_ticket) (is_some (toy_forked m).ending || ltb 0 (pred m.left))
          (forked-below m.ticket m.next_ticket ∙ is-below m makes.good) (good-after (order_of m.orders) (pred m.left) m.value);
      counted = suc-left m (Some (clone t)) makes;
      holding = ap (λ n. m.allot + n) (forked-cost m.ticket);
      tickets = after-clone m.ticket t is.0 is.1;
      grants = λ u h. forked-grant m.ticket;
      once = λ u h. or-left (leb m.next_ticket u) (is_uncloned (set_cloned m.ticket) u) (is_uncloned m.ticket u) (forked-uncloned m.ticket u) h;
    }

child-is : (m : Toy) (t k : ℕ) → Makes toy m (Some (clone t)) → IsChild toy m t (toy_child m k)
unfolding is_among
child-is m t k makes = record {
  good = good-after (order_of m.orders) (pred m.left) m.value;
  counted = suc-left m (Some (clone t)) makes;
  holding = omega arith;
  tickets = λ u. refl;
}

-- a ticket that goes back
gone-step : (m n : Toy) (t : ℕ) (g : Grant) → m.ticket ≡ cloned t g → n.ticket ≡ no_ticket → n.allot ≡ m.allot + ticket_cost m.ticket
    → n.next_ticket ≡ m.next_ticket → toy.is_good n ≡ true → m.left ≡ suc n.left → IsStep toy m n (λ u. not (eqb t u) && is_cloned toy m u)
unfolding is_among
gone-step m n t g stood none back next good left =
    let nothing : ticket_cost n.ticket ≡ 0 = ap ticket_cost none in
    let empty : cloned_numbers n.ticket ≡ [] = ap cloned_numbers none in
    record {
      good = good;
      counted = left;
      holding = omega arith;
      tickets = λ u. ap (is_among u) empty ∙ after-gone m.ticket t g stood u;
      grants = λ u h. let no : false ≡ true = ap (is_among u) (sym empty) ∙ h in absurd (cc);
      once = λ u h. or-left (leb m.next_ticket u) (is_uncloned n.ticket u) (is_uncloned m.ticket u) (ap (λ k. is_uncloned k u) none)
          (ap (λ k. leb k u || is_uncloned n.ticket u) (sym next) ∙ h);
    }

pub IsMachine-toy : IsMachine toy
IsMachine-toy = record {
  below_limit = has-left;
  advance = advance-step;
  cloned_once = λ m t good among. once-by m.ticket m.next_ticket t (is-below m good) among;
  clone_affords = λ m t makes.
      let is = clone-stands m t makes in
      let same : cost (ticket_grant m.ticket) ≡ ticket_cost m.ticket = ap (λ k. cost (ticket_grant k)) is.1 ∙ sym (ap ticket_cost is.1) in
      omega arith;
  clone_may = λ m t makes.
      let is = clone-stands m t makes in
      or_right (leb m.next_ticket t) (is_uncloned m.ticket t) (ap (λ k. is_uncloned k t) is.1 ∙ eqb-same t);
  forked = forked-step;
  child = λ m t k makes first last. child-is m t k makes;
  join_is_cloned = λ m t makes. let is = join-stands m t makes in one-cloned m.ticket t is.0 is.1;
  after_join = λ m t endings makes all.
      let is = join-stands m t makes in
      gone-step m (toy.after_join m endings) t is.0 is.1 refl refl refl (good-after (order_of m.orders) (pred m.left) (total endings))
      (suc-left m (Some (join t)) makes);
  kill_is_cloned = λ m t makes. let is = kill-stands m t makes in one-cloned m.ticket t is.0 is.1;
  after_kill = λ m t makes.
      let is = kill-stands m t makes in
      gone-step m (toy.after_kill m) t is.0 is.1 refl refl refl (good-after (order_of m.orders) (pred m.left) m.value)
      (suc-left m (Some (kill t)) makes);
}
