-- What the machine holds stays as tickets come, are cloned and go.
use Rattle.std.proofs.Common.{◌≡◌, ℕ, ◌+◌, ◌-◌, ◌<◌, ◌≤◌, Bool, true, false, cond, eqb, List, [], ◌∷◌, ◌++◌, Some, None, Option, IsSome, ◌↔◌, refl, lit≤, arith}
use Rattle.std.proofs.lemmas.Bool.Decides.{nat_tests}
use Rattle.fork_port.specs.declared.ending.Ending.{Ending}
use Rattle.fork_port.specs.declared.tickets.Ticket.{Ticket}
use Rattle.fork_port.specs.Tickets.{without, with_cloned, cost, held, IsRising}
use Rattle.fork_port.specs.Registers.{ForkRegisters, holding, refused, ticket_found}
use Rattle.fork_port.specs.declared.refusals.TheConstants.{TICKETS_END, BAD_ARGUMENT, NOTHING_GRANTED}
use Rattle.fork_port.specs.Children.{IsBalanced, IsAccounted, children_granted, new_ticket, with_ticket, after_ticket, after_clone, given_back, joined_from, after_join, killed_from, after_kill}
use mathlib.Core.Bool.{false≢true}
use Rattle.fork_port.proofs.TicketLemmas.{all_push, all_weaker, all_with_cloned, all_without, held_push, held_with_cloned}
use Rattle.fork_port.proofs.TicketLemmas.{held_without, rising_push, rising_with_cloned, rising_without, ticket_of_without}

pub balanced_push : (allot opening next : ℕ) (tickets : List Ticket) (ticket : Ticket) → IsBalanced allot opening next tickets
    → ticket.number ≡ next → 0 < ticket.children → cost ticket ≤ allot → IsBalanced (allot - cost ticket) opening (next + 1) (tickets ++ ticket ∷ [])
balanced_push allot opening next tickets ticket balanced is_next some affordable = record {
  kept = omega (arith, held_push tickets ticket, balanced.kept);
  fits = balanced.fits;
  below = all_push (λ (t : Ticket). t.number < next + 1) tickets ticket
      (all_weaker (λ (t : Ticket). t.number < next) (λ (t : Ticket). t.number < next + 1) (λ t h. omega arith) tickets balanced.below) (omega arith);
  for_children = all_push (λ (t : Ticket). 0 < t.children) tickets ticket balanced.for_children some;
}

pub balanced_with_cloned : (allot opening next : ℕ) (tickets : List Ticket) (number : ℕ) → IsBalanced allot opening next tickets
    → IsBalanced allot opening next (with_cloned tickets number)
balanced_with_cloned allot opening next tickets number balanced = record {
  kept = omega (arith, held_with_cloned tickets number, balanced.kept);
  fits = balanced.fits;
  below = all_with_cloned (λ (t : Ticket). t.number < next) (λ t h. h) tickets number balanced.below;
  for_children = all_with_cloned (λ (t : Ticket). 0 < t.children) (λ t h. h) tickets number balanced.for_children;
}

pub balanced_without : (allot opening next : ℕ) (tickets : List Ticket) (number : ℕ) (ticket : Ticket) → IsBalanced allot opening next tickets
    → held (without tickets number) + cost ticket ≡ held tickets → IsBalanced (allot + cost ticket) opening next (without tickets number)
balanced_without allot opening next tickets number ticket balanced freed = record {
  kept = omega (arith, freed, balanced.kept);
  fits = balanced.fits;
  below = all_without (λ (t : Ticket). t.number < next) tickets number balanced.below;
  for_children = all_without (λ (t : Ticket). 0 < t.children) tickets number balanced.for_children;
}

-- what holds of both choices, each where it is taken, holds of the choice
by_test : (P : ForkRegisters → Type 0) (b : Bool) (x y : ForkRegisters) → (b ≡ true → P x) → (b ≡ false → P y) → P (cond b x y)
by_test P true x y p q = p refl
by_test P false x y p q = q refl

pub unless : (P : ForkRegisters → Type 0) (b : Bool) (x y : ForkRegisters) → P x → (b ≡ false → P y) → P (cond b x y)
unless P b x y p q = by_test P b x y (λ _. p) q

pub paid : (f : ForkRegisters) → cost (new_ticket f (children_granted f)) ≤ f.allot
paid f = grind arith

pub holding_with_ticket : (f : ForkRegisters) (children : ℕ) → cost (new_ticket f children) ≤ f.allot → holding (with_ticket f children) ≡ holding f
holding_with_ticket f children affordable = omega (arith, held_push f.tickets (new_ticket f children))

pub holding_after_ticket : (f : ForkRegisters) → holding (after_ticket f) ≡ holding f
unfolding after_ticket
holding_after_ticket f =
    let P : ForkRegisters → Type 0 = λ g. holding g ≡ holding f in
    unless P (eqb f.first_argument 0) _ _ refl (λ _. unless P (eqb (children_granted f) 0) _ _ refl (λ _. holding_with_ticket f (children_granted f) (paid f)))

pub holding_after_clone : (f : ForkRegisters) (number : ℕ) → holding (after_clone f number) ≡ holding f
holding_after_clone f number = omega (arith, held_with_cloned f.tickets number)

pub holding_given_back : (f : ForkRegisters) (number : ℕ) (ticket : Ticket) → IsRising f.tickets → ticket_found f number ≡ Some ticket → holding (given_back f number ticket) ≡ holding f
holding_given_back f number ticket rising found = omega (arith, held_without f.tickets number ticket rising found)

pub holding_after_join : (f : ForkRegisters) (number : ℕ) (endings : List Ending) → IsRising f.tickets → holding (after_join f number endings) ≡ holding f
unfolding after_join
holding_after_join f number endings rising = by_ticket (ticket_found f number) refl
  where
    by_ticket : (found : Option Ticket) → ticket_found f number ≡ found → holding (joined_from found f number endings) ≡ holding f
    by_ticket None is = refl
    by_ticket (Some ticket) is = holding_given_back f number ticket rising is

pub holding_after_kill : (f : ForkRegisters) (number : ℕ) → IsRising f.tickets → holding (after_kill f number) ≡ holding f
unfolding after_kill
holding_after_kill f number rising = by_ticket (ticket_found f number) refl
  where
    by_ticket : (found : Option Ticket) → ticket_found f number ≡ found → holding (killed_from found f number) ≡ holding f
    by_ticket None is = refl
    by_ticket (Some ticket) is = holding_given_back f number ticket rising is

pub accounted_after_ticket : (f : ForkRegisters) → IsAccounted f → IsAccounted (after_ticket f)
unfolding after_ticket
accounted_after_ticket f accounted =
    unless IsAccounted (eqb f.first_argument 0) _ _ (record { balanced = accounted.balanced; rising = accounted.rising })
    (λ _. unless IsAccounted (eqb (children_granted f) 0) _ _ (record { balanced = accounted.balanced; rising = accounted.rising }) (λ test. record {
      balanced = balanced_push _ _ _ _ (new_ticket f (children_granted f)) accounted.balanced refl (grind (arith, nat_tests)) (paid f);
      rising = rising_push f.tickets (new_ticket f (children_granted f)) accounted.balanced.below accounted.rising;
    }))

pub accounted_after_clone : (f : ForkRegisters) (number : ℕ) → IsAccounted f → IsAccounted (after_clone f number)
accounted_after_clone f number accounted = record {
  balanced = balanced_with_cloned _ _ _ _ number accounted.balanced;
  rising = rising_with_cloned f.tickets number accounted.rising;
}

pub accounted_after_join : (f : ForkRegisters) (number : ℕ) (endings : List Ending) → IsAccounted f → IsAccounted (after_join f number endings)
unfolding after_join
accounted_after_join f number endings accounted = by_ticket (ticket_found f number) refl
  where
    by_ticket : (found : Option Ticket) → ticket_found f number ≡ found → IsAccounted (joined_from found f number endings)
    by_ticket None is = accounted
    by_ticket (Some ticket) is = record {
      balanced = balanced_without _ _ _ _ number ticket accounted.balanced (held_without f.tickets number ticket accounted.rising is);
      rising = rising_without f.tickets number accounted.rising;
    }

pub accounted_after_kill : (f : ForkRegisters) (number : ℕ) → IsAccounted f → IsAccounted (after_kill f number)
unfolding after_kill
accounted_after_kill f number accounted = by_ticket (ticket_found f number) refl
  where
    by_ticket : (found : Option Ticket) → ticket_found f number ≡ found → IsAccounted (killed_from found f number)
    by_ticket None is = accounted
    by_ticket (Some ticket) is = record {
      balanced = balanced_without _ _ _ _ number ticket accounted.balanced (held_without f.tickets number ticket accounted.rising is);
      rising = rising_without f.tickets number accounted.rising;
    }

pub found_after_join : (f : ForkRegisters) (number other : ℕ) (endings : List Ending) → IsSome (ticket_found f number)
    → ticket_found (after_join f number endings) other ≡ cond (eqb other number) None (ticket_found f other)
unfolding after_join
found_after_join f number other endings there = by_ticket (ticket_found f number) there
  where
    by_ticket : (found : Option Ticket) → IsSome found → ticket_found (joined_from found f number endings) other ≡ cond (eqb other number) None (ticket_found f other)
    by_ticket None there = absurd (false≢true there)
    by_ticket (Some ticket) there = ticket_of_without f.tickets number other

pub found_after_kill : (f : ForkRegisters) (number other : ℕ) → IsSome (ticket_found f number)
    → ticket_found (after_kill f number) other ≡ cond (eqb other number) None (ticket_found f other)
unfolding after_kill
found_after_kill f number other there = by_ticket (ticket_found f number) there
  where
    by_ticket : (found : Option Ticket) → IsSome found → ticket_found (killed_from found f number) other ≡ cond (eqb other number) None (ticket_found f other)
    by_ticket None there = absurd (false≢true there)
    by_ticket (Some ticket) there = ticket_of_without f.tickets number other

abbrev TellsGrant : ForkRegisters → ForkRegisters → Type 0
TellsGrant f after = (after.result < TICKETS_END) ↔ (0 < children_granted f)

refusal_tells : (f : ForkRegisters) (word : ℕ) → TICKETS_END ≤ word → children_granted f ≡ 0 → TellsGrant f (refused f word)
refusal_tells f word high none = (λ (below : word < TICKETS_END). omega arith, λ (some : 0 < children_granted f). omega arith)

pub number_or_refusal : (f : ForkRegisters) → f.next_ticket < TICKETS_END → ((after_ticket f).result < TICKETS_END) ↔ (0 < children_granted f)
unfolding after_ticket
number_or_refusal f room =
    by_test (TellsGrant f) (eqb f.first_argument 0) _ _
    (λ none. refusal_tells f BAD_ARGUMENT (lit≤ tt) (grind (arith, nat_tests)))
    (λ _. by_test (TellsGrant f) (eqb (children_granted f) 0) _ _
    (λ none. refusal_tells f NOTHING_GRANTED (lit≤ tt) (grind (arith, nat_tests)))
    (λ some. (λ below. grind (arith, nat_tests), λ granted. room)))
