-- The fork port keeps what a forest asks of the tickets of a machine.
use Rattle.std.proofs.Common.{◌≡◌, ℕ, zero, suc, ◌+◌, ◌*◌, ◌^◌, ◌<◌, ◌≤◌, ◌&&◌, ◌||◌, not, eqb, ltb, leb, Bool, true}
use Rattle.std.proofs.Common.{false, cond, refl, sym, ap, ◌∙◌, subst, arith, ltb-true, lt-ltb, leb-true, le-leb, eqb-true}
use Rattle.std.proofs.Common.{eq-eqb, List, [], ◌∷◌, Option, Some, None, IsSome, IsSomeAnd, option_map, is_some}
use Rattle.std.proofs.lemmas.Bool.{lt-leb, and_parts, and_from, or_right}
use Rattle.std.proofs.lemmas.Bool.Decides.{nat_tests}
use Rattle.std.specs.List.{AllByRecursion}
use Rattle.forest_tree.specs.Operations.{is_among}
use Rattle.forest_tree.proofs.Broods.{eqb-sym}
use Rattle.fork_port.specs.declared.ending.Ending.{Ending}
use Rattle.fork_port.specs.declared.tickets.Ticket.{Ticket}
use Rattle.fork_port.specs.Tickets.{ticket_of, as_cloned, cost, held, IsRising}
use Rattle.fork_port.specs.Registers.{ForkRegisters, HasTicket, holding, ticket_found}
use Rattle.fork_port.specs.Children.{IsAccounted, children_granted, new_ticket, with_ticket, after_ticket, after_clone, joined_from, after_join, killed_from, after_kill, child_registers}
use Rattle.fork_port.proofs.TicketLemmas.{held_without, ticket_of_push, ticket_of_with_cloned}
use Rattle.fork_port.proofs.Balance.{unless, holding_after_ticket, holding_after_clone, holding_after_join, holding_after_kill, accounted_after_ticket}
use Rattle.fork_port.proofs.Balance.{accounted_after_clone, accounted_after_join, accounted_after_kill, found_after_join, found_after_kill}
use Rattle.port_rules.specs.Rules.{cloned_numbers, is_cloned, is_uncloned, grant_of, may_clone, are_below, are_above, are_for_children, are_rising, is_accounted, IsPortStep}

or-left : (a b c : Bool) → (b ≡ true → a || c ≡ true) → a || b ≡ true → a || c ≡ true
or-left true b c weaker h = refl
or-left false b c weaker h = weaker h

-- the tests decide what they test
below-all : (next : ℕ) (tickets : List Ticket) → are_below next tickets ≡ true → AllByRecursion (λ (ticket : Ticket). ticket.number < next) tickets
unfolding are_below
below-all next [] h = tt
below-all next (x ∷ xs) h =
    let parts = and_parts (ltb x.number next) (are_below next xs) h in (ltb-true x.number next parts.0, below-all next xs parts.1)

all-below : (next : ℕ) (tickets : List Ticket) → AllByRecursion (λ (ticket : Ticket). ticket.number < next) tickets → are_below next tickets ≡ true
unfolding are_below
all-below next [] h = refl
all-below next (x ∷ xs) h = and_from (ltb x.number next) (are_below next xs) (lt-ltb x.number next h.0) (all-below next xs h.1)

above-all : (number : ℕ) (tickets : List Ticket) → are_above number tickets ≡ true → AllByRecursion (λ (ticket : Ticket). number < ticket.number) tickets
unfolding are_above
above-all number [] h = tt
above-all number (x ∷ xs) h =
    let parts = and_parts (ltb number x.number) (are_above number xs) h in (ltb-true number x.number parts.0, above-all number xs parts.1)

all-above : (number : ℕ) (tickets : List Ticket) → AllByRecursion (λ (ticket : Ticket). number < ticket.number) tickets → are_above number tickets ≡ true
unfolding are_above
all-above number [] h = refl
all-above number (x ∷ xs) h = and_from (ltb number x.number) (are_above number xs) (lt-ltb number x.number h.0) (all-above number xs h.1)

children-all : (tickets : List Ticket) → are_for_children tickets ≡ true → AllByRecursion (λ (ticket : Ticket). 0 < ticket.children) tickets
unfolding are_for_children
children-all [] h = tt
children-all (x ∷ xs) h =
    let parts = and_parts (ltb 0 x.children) (are_for_children xs) h in (ltb-true 0 x.children parts.0, children-all xs parts.1)

all-children : (tickets : List Ticket) → AllByRecursion (λ (ticket : Ticket). 0 < ticket.children) tickets → are_for_children tickets ≡ true
unfolding are_for_children
all-children [] h = refl
all-children (x ∷ xs) h = and_from (ltb 0 x.children) (are_for_children xs) (lt-ltb 0 x.children h.0) (all-children xs h.1)

rising-all : (tickets : List Ticket) → are_rising tickets ≡ true → IsRising tickets
unfolding are_rising
rising-all [] h = tt
rising-all (x ∷ xs) h =
    let parts = and_parts (are_above x.number xs) (are_rising xs) h in (above-all x.number xs parts.0, rising-all xs parts.1)

all-rising : (tickets : List Ticket) → IsRising tickets → are_rising tickets ≡ true
unfolding are_rising
all-rising [] h = refl
all-rising (x ∷ xs) h = and_from (are_above x.number xs) (are_rising xs) (all-above x.number xs h.0) (all-rising xs h.1)

pub accounted-is : (f : ForkRegisters) → is_accounted f ≡ true → IsAccounted f
accounted-is f h =
    let one = and_parts (eqb (holding f) f.opening && ltb f.opening (2 ^ 32)) (are_below f.next_ticket f.tickets && (are_for_children f.tickets && are_rising f.tickets)) h in
    let two = and_parts (eqb (holding f) f.opening) (ltb f.opening (2 ^ 32)) one.0 in
    let three = and_parts (are_below f.next_ticket f.tickets) (are_for_children f.tickets && are_rising f.tickets) one.1 in
    let four = and_parts (are_for_children f.tickets) (are_rising f.tickets) three.1 in
    record {
      balanced = record {
        kept = eqb-true (holding f) f.opening two.0;
        fits = ltb-true f.opening (2 ^ 32) two.1;
        below = below-all f.next_ticket f.tickets three.0;
        for_children = children-all f.tickets four.0;
      };
      rising = rising-all f.tickets four.1;
    }

pub is-accounted : (f : ForkRegisters) → IsAccounted f → is_accounted f ≡ true
is-accounted f h =
    and_from (eqb (holding f) f.opening && ltb f.opening (2 ^ 32)) (are_below f.next_ticket f.tickets && (are_for_children f.tickets && are_rising f.tickets))
    (and_from (eqb (holding f) f.opening) (ltb f.opening (2 ^ 32)) (eq-eqb (holding f) f.opening h.balanced.kept) (lt-ltb f.opening (2 ^ 32) h.balanced.fits))
    (and_from (are_below f.next_ticket f.tickets) (are_for_children f.tickets && are_rising f.tickets) (all-below f.next_ticket f.tickets h.balanced.below)
    (and_from (are_for_children f.tickets) (are_rising f.tickets) (all-children f.tickets h.balanced.for_children) (all-rising f.tickets h.rising)))

-- a ticket is among the cloned ones where it is found so
above-none : (tickets : List Ticket) (number : ℕ) → AllByRecursion (λ (ticket : Ticket). number < ticket.number) tickets → ticket_of tickets number ≡ None
above-none [] number h = refl
above-none (x ∷ xs) number h =
    let first : number < x.number = h.0 in
    let rest = above-none xs number h.1 in
    grind (arith, nat_tests)

among-head : (x : Ticket) (number : ℕ) (same cloned rest found : Bool) → eqb x.number number ≡ same → (same ≡ true → rest ≡ false) → rest ≡ found
    → cond cloned (eqb x.number number || rest) rest ≡ cond same cloned found
among-head x number true true rest found e none h = ap (λ b. b || rest) e
among-head x number true false rest found e none h = none refl
among-head x number false true rest found e none h = ap (λ b. b || rest) e ∙ h
among-head x number false false rest found e none h = h

if-cloned : (same : Bool) (x : Ticket) (rest : Option Ticket) → cond same x.is_cloned (is_cloned rest) ≡ is_cloned (cond same (Some x) rest)
if-cloned true x rest = refl
if-cloned false x rest = refl

among-if : (b : Bool) (number t : ℕ) (rest : List ℕ) → is_among number (cond b (t ∷ rest) rest) ≡ cond b (eqb t number || is_among number rest) (is_among number rest)
unfolding is_among
among-if true number t rest = refl
among-if false number t rest = refl

pub among-cloned : (tickets : List Ticket) → IsRising tickets → (number : ℕ) → is_among number (cloned_numbers tickets) ≡ is_cloned (ticket_of tickets number)
unfolding cloned_numbers is_among
among-cloned [] rising number = refl
among-cloned (x ∷ xs) rising number =
    among-if x.is_cloned number x.number (cloned_numbers xs)
    ∙ among-head x number (eqb x.number number) x.is_cloned (is_among number (cloned_numbers xs)) (is_cloned (ticket_of xs number)) refl
    (λ same. among-cloned xs rising.1 number
    ∙ ap is_cloned (above-none xs number (subst (λ n. AllByRecursion (λ (ticket : Ticket). n < ticket.number) xs) (eqb-true x.number number same) rising.0)))
    (among-cloned xs rising.1 number)
    ∙ if-cloned (eqb x.number number) x (ticket_of xs number)

-- what is found decides
below-none : (tickets : List Ticket) (number : ℕ) → AllByRecursion (λ (ticket : Ticket). ticket.number < number) tickets → ticket_of tickets number ≡ None
below-none [] number h = refl
below-none (x ∷ xs) number h =
    let first : x.number < number = h.0 in
    let rest = below-none xs number h.1 in
    grind (arith, nat_tests)

-- what a step does to the tickets, by what is found
record TicketsStep (f g : ForkRegisters) (then_cloned : ℕ → Bool) : Type 0 where
  tickets : (t : ℕ) → is_cloned (ticket_found g t) ≡ then_cloned t
  grants : (t : ℕ) → is_cloned (ticket_found g t) ≡ true → grant_of (ticket_found g t) ≡ grant_of (ticket_found f t)
  once : (t : ℕ) → may_clone g t ≡ true → may_clone f t ≡ true

still : ForkRegisters → ℕ → Bool
still f t = is_cloned (ticket_found f t)

same-tickets : (f g : ForkRegisters) → g.tickets ≡ f.tickets → g.next_ticket ≡ f.next_ticket → TicketsStep f g (still f)
unfolding still
same-tickets f g e n = record {
  tickets = λ t. ap (λ tickets. is_cloned (ticket_of tickets t)) e;
  grants = λ t h. ap (λ tickets. grant_of (ticket_of tickets t)) e;
  once = λ t h. ap (λ next. leb next t || is_uncloned (ticket_of f.tickets t)) (sym n) ∙ ap (λ tickets. leb g.next_ticket t || is_uncloned (ticket_of tickets t)) (sym e) ∙ h;
}

-- a new ticket has the next number
module _ (f : ForkRegisters) (children : ℕ) (good : IsAccounted f) where
  found-new : (u : ℕ) → ticket_found (with_ticket f children) u ≡ cond (eqb u f.next_ticket) (Some (new_ticket f children)) (ticket_found f u)
  found-new u = ticket_of_push f.tickets (new_ticket f children) u good.balanced.below

  none-next : ticket_found f f.next_ticket ≡ None
  none-next = below-none f.tickets f.next_ticket good.balanced.below

  new-cloned : (u : ℕ) (same : Bool) → eqb u f.next_ticket ≡ same
      → is_cloned (cond same (Some (new_ticket f children)) (ticket_found f u)) ≡ is_cloned (ticket_found f u)
  new-cloned u true e = sym (ap (λ n. is_cloned (ticket_found f n)) (eqb-true u f.next_ticket e) ∙ ap is_cloned none-next)
  new-cloned u false e = refl

  new-grants : (u : ℕ) (same : Bool) → is_cloned (cond same (Some (new_ticket f children)) (ticket_found f u)) ≡ true
      → grant_of (cond same (Some (new_ticket f children)) (ticket_found f u)) ≡ grant_of (ticket_found f u)
  new-grants u true h = absurd (cc)
  new-grants u false h = refl

  new-once : (u : ℕ) (later same : Bool) → leb (f.next_ticket + 1) u ≡ later → eqb u f.next_ticket ≡ same
      → later || is_uncloned (cond same (Some (new_ticket f children)) (ticket_found f u)) ≡ true → may_clone f u ≡ true
  new-once u true same e k h = let past : f.next_ticket + 1 ≤ u = leb-true (f.next_ticket + 1) u e in ap (λ b. b || is_uncloned (ticket_found f u)) (le-leb f.next_ticket u (omega arith))
  new-once u false true e k h = let at : u ≡ f.next_ticket = eqb-true u f.next_ticket k in ap (λ b. b || is_uncloned (ticket_found f u)) (le-leb f.next_ticket u (omega arith))
  new-once u false false e k h = or_right (leb f.next_ticket u) (is_uncloned (ticket_found f u)) h

  with-new : TicketsStep f (with_ticket f children) (still f)
  unfolding still
  with-new = record {
    tickets = λ u. ap is_cloned (found-new u) ∙ new-cloned u (eqb u f.next_ticket) refl;
    grants = λ u h. ap grant_of (found-new u) ∙ new-grants u (eqb u f.next_ticket) (ap is_cloned (sym (found-new u)) ∙ h);
    once = λ u h. new-once u (leb (f.next_ticket + 1) u) (eqb u f.next_ticket) refl refl
        (ap (λ found. leb (f.next_ticket + 1) u || is_uncloned found) (sym (found-new u)) ∙ h);
  }

step-after_ticket : (f : ForkRegisters) → IsAccounted f → TicketsStep f (after_ticket f) (still f)
unfolding after_ticket
step-after_ticket f good =
    unless (λ g. TicketsStep f g (still f)) (eqb f.first_argument 0) _ _ (same-tickets f _ refl refl)
    (λ _. unless (λ g. TicketsStep f g (still f)) (eqb (children_granted f) 0) _ _ (same-tickets f _ refl refl)
    (λ _. with-new f (children_granted f) good))

-- as a step of the port
whole : (f g : ForkRegisters) (then_cloned : ℕ → Bool) → IsAccounted g → holding g ≡ holding f → TicketsStep f g then_cloned → IsPortStep f g then_cloned
whole f g then_cloned good held s = record {
  good = is-accounted g good;
  holding = held;
  tickets = s.tickets;
  grants = s.grants;
  once = s.once;
}

pub port-ticket : (f : ForkRegisters) → is_accounted f ≡ true → IsPortStep f (after_ticket f) (λ t. is_cloned (ticket_found f t))
unfolding still
port-ticket f h =
    let good : IsAccounted f = accounted-is f h in
    whole f (after_ticket f) (still f) (accounted_after_ticket f good) (holding_after_ticket f) (step-after_ticket f good)

-- a store that names no command, or a command that is refused
pub port-same : (f g : ForkRegisters) → is_accounted f ≡ true → g.allot ≡ f.allot → g.tickets ≡ f.tickets → g.next_ticket ≡ f.next_ticket
    → g.opening ≡ f.opening → IsPortStep f g (λ t. is_cloned (ticket_found f t))
unfolding still
port-same f g h a e n o =
    let good : IsAccounted f = accounted-is f h in
    let same : holding g ≡ holding f = ap (λ allot. allot + held g.tickets) a ∙ ap (λ tickets. f.allot + held tickets) e in
    whole f g (still f) (record {
      balanced = record {
        kept = same ∙ good.balanced.kept ∙ sym o;
        fits = subst (λ k. k < 2 ^ 32) (sym o) good.balanced.fits;
        below = subst (λ next. AllByRecursion (λ (ticket : Ticket). ticket.number < next) g.tickets) (sym n)
            (subst (λ tickets. AllByRecursion (λ (ticket : Ticket). ticket.number < f.next_ticket) tickets) (sym e) good.balanced.below);
        for_children = subst (λ tickets. AllByRecursion (λ (ticket : Ticket). 0 < ticket.children) tickets) (sym e) good.balanced.for_children;
      };
      rising = subst IsRising (sym e) good.rising;
    }) same (same-tickets f g e n)

-- CLONE
found-some : (found : Option Ticket) (is_cloned_so : Bool) → (ticket : Ticket) × (found ≡ Some ticket) × (ticket.is_cloned ≡ is_cloned_so) → is_cloned found ≡ is_cloned_so
found-some found b is = ap is_cloned is.1 ∙ is.2

has-ticket : (found : Option Ticket) (b : Bool) → IsSomeAnd found (λ (ticket : Ticket). ticket.is_cloned ≡ b)
    → (ticket : Ticket) × (found ≡ Some ticket) × (ticket.is_cloned ≡ b)
has-ticket None b h = absurd h
has-ticket (Some ticket) b h = (ticket, refl, h)

or-weaker : (a b c : Bool) → b ≡ false → a || b ≡ true → a || c ≡ true
or-weaker true b c e h = refl
or-weaker false b c e h = absurd (cc)

module _ (f : ForkRegisters) (number : ℕ) where
  -- the ticket that is cloned
  clone-is : (u : ℕ) (same : Bool) (found : Option Ticket) → (same ≡ true → is_some found ≡ true)
      → is_cloned (cond same (option_map as_cloned found) found) ≡ same || is_cloned found
  clone-is u true None there = let no : false ≡ true = there refl in cc
  clone-is u true (Some ticket) there = refl
  clone-is u false found there = refl

  clone-grant : (same : Bool) (found : Option Ticket) → grant_of (cond same (option_map as_cloned found) found) ≡ grant_of found
  clone-grant true None = refl
  clone-grant true (Some ticket) = refl
  clone-grant false found = refl

  clone-once : (next u : ℕ) (same : Bool) (found : Option Ticket)
      → leb next u || is_uncloned (cond same (option_map as_cloned found) found) ≡ true → leb next u || is_uncloned found ≡ true
  clone-once next u true None h = h
  clone-once next u true (Some ticket) h = or-weaker (leb next u) false (is_uncloned (Some ticket)) refl h
  clone-once next u false found h = h

  pub port-clone : is_accounted f ≡ true → HasTicket f number false
      → IsPortStep f (after_clone f number) (λ u. eqb number u || is_cloned (ticket_found f u))
  port-clone h has =
      let good : IsAccounted f = accounted-is f h in
      let is = has-ticket (ticket_found f number) false has in
      let found : (u : ℕ) → ticket_found (after_clone f number) u ≡ cond (eqb u number) (option_map as_cloned (ticket_found f u)) (ticket_found f u) =
      λ u. ticket_of_with_cloned f.tickets number u in
      whole f (after_clone f number) (λ u. eqb number u || is_cloned (ticket_found f u))
      (accounted_after_clone f number good) (holding_after_clone f number) (record {
        tickets = λ u. ap is_cloned (found u)
            ∙ clone-is u (eqb u number) (ticket_found f u) (λ same. ap is_some (ap (ticket_found f) (eqb-true u number same) ∙ is.1))
            ∙ ap (λ b. b || is_cloned (ticket_found f u)) (eqb-sym u number);
        grants = λ u cloned. ap grant_of (found u) ∙ clone-grant (eqb u number) (ticket_found f u);
        once = λ u may. clone-once f.next_ticket u (eqb u number) (ticket_found f u) (ap (λ k. leb f.next_ticket u || is_uncloned k) (sym (found u)) ∙ may);
      })

  -- a ticket that goes
  gone-is : (same : Bool) (found : Option Ticket) → is_cloned (cond same None found) ≡ not same && is_cloned found
  gone-is true found = refl
  gone-is false found = refl

  gone-grant : (same : Bool) (found : Option Ticket) → is_cloned (cond same None found) ≡ true → grant_of (cond same None found) ≡ grant_of found
  gone-grant true found h = absurd (cc)
  gone-grant false found h = refl

  gone-once : (next u : ℕ) (same : Bool) (found : Option Ticket) → leb next u || is_uncloned (cond same None found) ≡ true → leb next u || is_uncloned found ≡ true
  gone-once next u true found h = or-weaker (leb next u) false (is_uncloned found) refl h
  gone-once next u false found h = h

  gone-step : (g : ForkRegisters) → g.next_ticket ≡ f.next_ticket → ((u : ℕ) → ticket_found g u ≡ cond (eqb u number) None (ticket_found f u))
      → TicketsStep f g (λ u. not (eqb number u) && is_cloned (ticket_found f u))
  gone-step g n found = record {
    tickets = λ u. ap is_cloned (found u) ∙ gone-is (eqb u number) (ticket_found f u) ∙ ap (λ b. not b && is_cloned (ticket_found f u)) (eqb-sym u number);
    grants = λ u cloned. ap grant_of (found u) ∙ gone-grant (eqb u number) (ticket_found f u) (ap is_cloned (sym (found u)) ∙ cloned);
    once = λ u may. gone-once f.next_ticket u (eqb u number) (ticket_found f u)
        (ap (λ next. leb next u || is_uncloned (cond (eqb u number) None (ticket_found f u))) (sym n)
        ∙ ap (λ k. leb g.next_ticket u || is_uncloned k) (sym (found u)) ∙ may);
  }

  next-join : (endings : List Ending) → (after_join f number endings).next_ticket ≡ f.next_ticket
  unfolding after_join
  next-join endings = by (ticket_found f number)
    where
      by : (found : Option Ticket) → (joined_from found f number endings).next_ticket ≡ f.next_ticket
      by None = refl
      by (Some ticket) = refl

  next-kill : (after_kill f number).next_ticket ≡ f.next_ticket
  unfolding after_kill
  next-kill = by (ticket_found f number)
    where
      by : (found : Option Ticket) → (killed_from found f number).next_ticket ≡ f.next_ticket
      by None = refl
      by (Some ticket) = refl

  there : (b : Bool) → HasTicket f number b → IsSome (ticket_found f number)
  there b has = let is = has-ticket (ticket_found f number) b has in ap is_some is.1

  pub port-join : (endings : List Ending) → is_accounted f ≡ true → HasTicket f number true
      → IsPortStep f (after_join f number endings) (λ u. not (eqb number u) && is_cloned (ticket_found f u))
  port-join endings h has =
      let good : IsAccounted f = accounted-is f h in
      whole f (after_join f number endings) (λ u. not (eqb number u) && is_cloned (ticket_found f u))
      (accounted_after_join f number endings good) (holding_after_join f number endings good.rising)
      (gone-step (after_join f number endings) (next-join endings) (λ u. found_after_join f number u endings (there true has)))

  pub port-kill : is_accounted f ≡ true → HasTicket f number true
      → IsPortStep f (after_kill f number) (λ u. not (eqb number u) && is_cloned (ticket_found f u))
  port-kill h has =
      let good : IsAccounted f = accounted-is f h in
      whole f (after_kill f number) (λ u. not (eqb number u) && is_cloned (ticket_found f u))
      (accounted_after_kill f number good) (holding_after_kill f number good.rising)
      (gone-step (after_kill f number) next-kill (λ u. found_after_kill f number u (there true has)))

  -- a ticket that was not cloned is discarded by a step of the machine's own
  stays-cloned : (u : ℕ) (same : Bool) → eqb number u ≡ same → HasTicket f number false → not same && is_cloned (ticket_found f u) ≡ is_cloned (ticket_found f u)
  stays-cloned u true e has =
      let is = has-ticket (ticket_found f number) false has in
      sym (ap (λ n. is_cloned (ticket_found f n)) (sym (eqb-true number u e)) ∙ found-some (ticket_found f number) false is)
  stays-cloned u false e has = refl

  pub port-discard : is_accounted f ≡ true → HasTicket f number false → IsPortStep f (after_kill f number) (λ u. is_cloned (ticket_found f u))
  port-discard h has =
      let good : IsAccounted f = accounted-is f h in
      let s : TicketsStep f (after_kill f number) (λ u. not (eqb number u) && is_cloned (ticket_found f u)) =
      gone-step (after_kill f number) next-kill (λ u. found_after_kill f number u (there false has)) in
      whole f (after_kill f number) (λ u. is_cloned (ticket_found f u))
      (accounted_after_kill f number good) (holding_after_kill f number good.rising)
      (record { tickets = λ u. s.tickets u ∙ stays-cloned u (eqb number u) refl has; grants = s.grants; once = s.once })

-- a ticket that is cloned may not be cloned again, and one that is not cloned may
found-below-by : (number next : ℕ) (x ticket : Ticket) (rest : Option Ticket) (same : Bool) → eqb x.number number ≡ same → x.number < next
    → (rest ≡ Some ticket → number < next) → cond same (Some x) rest ≡ Some ticket → number < next
found-below-by number next x ticket rest true e first later found = let is : x.number ≡ number = eqb-true x.number number e in omega arith
found-below-by number next x ticket rest false e first later found = later found

found-below : (tickets : List Ticket) (number next : ℕ) (ticket : Ticket) → AllByRecursion (λ (t : Ticket). t.number < next) tickets
    → ticket_of tickets number ≡ Some ticket → number < next
found-below [] number next ticket all e = absurd (cc)
found-below (x ∷ xs) number next ticket all e =
    found-below-by number next x ticket (ticket_of xs number) (eqb x.number number) refl all.0 (found-below xs number next ticket all.1) e

once-by : (f : ForkRegisters) (number : ℕ) (found : Option Ticket) → ticket_found f number ≡ found → is_cloned found ≡ true → IsAccounted f
    → leb f.next_ticket number || is_uncloned found ≡ false
once-by f number None e c good = absurd (cc)
once-by f number (Some ticket) e c good =
    let past : number < f.next_ticket = found-below f.tickets number f.next_ticket ticket good.balanced.below e in
    ap (λ b. b || not ticket.is_cloned) (lt-leb f.next_ticket number past) ∙ ap not c

pub cloned-once : (f : ForkRegisters) (number : ℕ) → is_accounted f ≡ true → is_cloned (ticket_found f number) ≡ true → may_clone f number ≡ false
cloned-once f number h cloned = once-by f number (ticket_found f number) refl cloned (accounted-is f h)

pub clone-may : (f : ForkRegisters) (number : ℕ) → HasTicket f number false → may_clone f number ≡ true
clone-may f number has =
    let is = has-ticket (ticket_found f number) false has in
    or_right (leb f.next_ticket number) (is_uncloned (ticket_found f number)) (ap is_uncloned is.1 ∙ ap not is.2)

pub cloned-has : (f : ForkRegisters) (number : ℕ) → HasTicket f number true → is_cloned (ticket_found f number) ≡ true
cloned-has f number has = found-some (ticket_found f number) true (has-ticket (ticket_found f number) true has)

-- a clone affords its children
held-most : (tickets : List Ticket) (number : ℕ) (ticket : Ticket) → IsRising tickets → ticket_of tickets number ≡ Some ticket → cost ticket ≤ held tickets
held-most tickets number ticket rising e = omega (arith, held_without tickets number ticket rising e)

pub clone-affords : (f : ForkRegisters) (number : ℕ) → is_accounted f ≡ true → HasTicket f number false
    → (grant_of (ticket_found f number)).children * (1 + (grant_of (ticket_found f number)).share) ≤ holding f
clone-affords f number h has =
    let good : IsAccounted f = accounted-is f h in
    let is = has-ticket (ticket_found f number) false has in
    let most : cost is.0 ≤ held f.tickets = held-most f.tickets number is.0 good.rising is.1 in
    subst (λ found. (grant_of found).children * (1 + (grant_of found).share) ≤ holding f) (sym is.1) (omega arith)

-- a child
pub child-good : (f : ForkRegisters) (k share : ℕ) → share < 2 ^ 32 → is_accounted (child_registers f k share) ≡ true
child-good f k share fits =
    is-accounted (child_registers f k share) (record {
      balanced = record { kept = omega arith; fits = fits; below = tt; for_children = tt };
      rising = tt;
    })

pub child-holding : (f : ForkRegisters) (k share : ℕ) → holding (child_registers f k share) ≡ share
child-holding f k share = omega arith

pub child-tickets : (f : ForkRegisters) (k share t : ℕ) → is_cloned (ticket_found (child_registers f k share) t) ≡ false
child-tickets f k share t = refl

pub child-fits : (f : ForkRegisters) (number : ℕ) → is_accounted f ≡ true → HasTicket f number false → 1 ≤ (grant_of (ticket_found f number)).children
    → (grant_of (ticket_found f number)).share < 2 ^ 32
child-fits f number h has some =
    let good : IsAccounted f = accounted-is f h in
    let affords = clone-affords f number h has in
    let kept : holding f ≡ f.opening = good.balanced.kept in
    by (grant_of (ticket_found f number)).children (grant_of (ticket_found f number)).share (holding f) some affords (subst (λ n. n < 2 ^ 32) (sym kept) good.balanced.fits)
  where
    by : (children share holds : ℕ) → 1 ≤ children → children * (1 + share) ≤ holds → holds < 2 ^ 32 → share < 2 ^ 32
    by zero share holds some fits below = absurd (omega arith)
    by (suc c) share holds some fits below = omega arith
