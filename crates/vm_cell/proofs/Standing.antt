-- The call or the talk that a machine stands at, and the machine after it.
use Rattle.std.proofs.Common.{◌≡◌, ◌≢◌, ℕ, ◌+◌, ◌<◌, ◌≤◌, inl, inr, List, [], ◌∷◌, Bool, true, false, cond, Option, Some, None}
use Rattle.std.proofs.Common.{IsSome, IsSomeAnd, refl, sym, ap, ap₂, ◌∙◌, subst, arith, mul-le-mul_right}
use Rattle.std.specs.Option.{IfSome, is_some, option_map}
use Rattle.std.specs.List.{AllByRecursion}
use Rattle.fork_port.specs.declared.commands.Call.{Call}
use Rattle.fork_port.specs.declared.commands.Call.TheVariants.{Clone, Join, Kill}
use Rattle.fork_port.specs.declared.ending.Ending.{Ending}
use Rattle.fork_port.specs.declared.tickets.Ticket.{Ticket}
use Rattle.fork_port.specs.Tickets.{has_number, held, ticket_of}
use Rattle.fork_port.specs.Registers.{ForkRegisters, HasTicket, ticket_found, ticket_told}
use Rattle.fork_port.proofs.TicketLemmas.{held_without}
use Rattle.port_rules.specs.Rules.{grant_of}
use Rattle.fork_port.specs.Children as fork
use Rattle.fork_port.specs.Children.{joined_from, killed_from}
use Rattle.fork_port.proofs.Balance.{accounted_after_clone, accounted_after_join, accounted_after_kill, holding_after_clone, holding_after_join, holding_after_kill}
use Rattle.forest_model.specs.State.{State, at_next_instruction}
use Rattle.forest_model.specs.Action.{ask, speak}
use Rattle.forest_model.specs.Execute.{action}
use Rattle.forest_model.specs.Machine.{Machine, Next, exception, timer_interrupt, plain, call, talk, next_of, next, limited}
use Rattle.forest_model.specs.Calls.{forked_by, forked, joined_by, after_join, killed_by, after_kill}
use Rattle.forest_model.specs.Forest.{call_of, machines, port_of, talk_of, tree_talk}
use Rattle.forest_model.specs.Talks.{talked, talked_by}
use Rattle.forest_model.specs.Paged.{stalled_at}
use Rattle.forest_model.proofs.Calls.{clone-asks, join-asks, kill-asks}
use Rattle.forest_model.proofs.Spoken.{talks-at}
use Rattle.sibling_port.specs.declared.talk.Talk as port
use Rattle.sibling_port.specs.Commands.{named}
use Rattle.vm_descriptor.specs.declared.descriptor.TheConstants.{MAX_CLONES, MAX_SHARE}
use Rattle.vm_hart.specs.Keyed.{KeyedMachine, hart_in, paged}
use Rattle.vm_hart.specs.Acts.{waits_for}
use Rattle.vm_hart.specs.Calls.{asked_call, asked_talk, AsksNext, made, made_talk}
use Rattle.vm_hart.specs.Requests.{asks_for, requested}
use Rattle.vm_hart.specs.declared.hart.Request.{Request}
use Rattle.vm_hart.specs.declared.hart.Request.TheVariants as request
use Rattle.vm_hart.proofs.Stepping.{stalls_live}
use Rattle.vm_cell.specs.Parts.{Stops, stop_at}
use Rattle.vm_cell.specs.Standing.{call_in, talk_in, standing_from, standing_by, standing_call, talk_from, talk_by, standing_talk, IsAsked, IsSpoken}
use Rattle.vm_cell.specs.Steps.{IsAfterStep, IsFunded, Stands}
use Rattle.vm_cell.specs.declared.vm.Stepped.{Stepped}
use Rattle.vm_cell.specs.declared.vm.Stepped.TheVariants as stepped

-- ---- what the hart answers, of the machine

none_by_wait : (waited : Option ℕ) (ending : Option Ending) (step : Next) → IsSome waited → None ≡ standing_by waited ending step
none_by_wait None ending step h = absurd (cc)
none_by_wait (Some page) ending step h = refl

none_by_step : (waited : Option ℕ) (ending : Option Ending) (step : Next) → ending ≡ None → asked_call step ≡ None → None ≡ standing_by waited ending step
none_by_step None ending step live h = sym h ∙ ap (λ e. standing_from e step) (sym live)
none_by_step (Some page) ending step live h = refl

-- a step that asks for nothing is no call and no talk
no_call_asked : (step : Next) → requested step ≡ None → (asked_call step ≡ None) × (call_of step ≡ None)
no_call_asked (exception cause value) e = (refl, refl)
no_call_asked timer_interrupt e = (refl, refl)
no_call_asked plain e = (refl, refl)
no_call_asked (call c) e = absurd (cc)
no_call_asked (talk t) e = absurd (cc)

no_talk_asked : (step : Next) → requested step ≡ None → (asked_talk step ≡ None) × (talk_of step ≡ None)
no_talk_asked (exception cause value) e = (refl, refl)
no_talk_asked timer_interrupt e = (refl, refl)
no_talk_asked plain e = (refl, refl)
no_talk_asked (call c) e = absurd (cc)
no_talk_asked (talk t) e = absurd (cc)

call_in_request : (r : Request) (s : State) → call_in (Some r) ≡ asked_call (next_of (asks_for r s))
call_in_request (request.Call c) s = refl
call_in_request (request.Talk t) s = refl

talk_in_request : (r : Request) (s : State) → talk_in (Some r) ≡ asked_talk (next_of (asks_for r s))
talk_in_request (request.Call c) s = refl
talk_in_request (request.Talk t) s = refl

pub is_standing : (v : KeyedMachine) (r : Option Request) → v.machine.ending ≡ None → AsksNext (hart_in v) r → call_in r ≡ standing_call v
unfolding standing_call
is_standing v None live h = elim h [
  | inl waits ↦ none_by_wait (stalled_at (paged v)) v.machine.ending (next v.machine) (subst IsSome (sym (stalls_live v live)) waits)
  | inr none ↦ none_by_step (stalled_at (paged v)) v.machine.ending (next v.machine) live (no_call_asked (next v.machine) none).0
]
is_standing v (Some r) live h =
    call_in_request r (at_next_instruction v.machine.state)
    ∙ ap (λ a. asked_call (next_of a)) (sym h.1)
    ∙ ap (λ ending. standing_from ending (next v.machine)) (sym live)
    ∙ ap (λ waited. standing_by waited v.machine.ending (next v.machine)) (sym (stalls_live v live ∙ h.0))

-- the same of a talk
silent_by_wait : (waited : Option ℕ) (ending : Option Ending) (step : Next) → IsSome waited → None ≡ talk_by waited ending step
silent_by_wait None ending step h = absurd (cc)
silent_by_wait (Some page) ending step h = refl

silent_by_step : (waited : Option ℕ) (ending : Option Ending) (step : Next) → ending ≡ None → asked_talk step ≡ None → None ≡ talk_by waited ending step
silent_by_step None ending step live h = sym h ∙ ap (λ e. talk_from e step) (sym live)
silent_by_step (Some page) ending step live h = refl

pub is_talking : (v : KeyedMachine) (r : Option Request) → v.machine.ending ≡ None → AsksNext (hart_in v) r → talk_in r ≡ standing_talk v
unfolding standing_talk
is_talking v None live h = elim h [
  | inl waits ↦ silent_by_wait (stalled_at (paged v)) v.machine.ending (next v.machine) (subst IsSome (sym (stalls_live v live)) waits)
  | inr none ↦ silent_by_step (stalled_at (paged v)) v.machine.ending (next v.machine) live (no_talk_asked (next v.machine) none).0
]
is_talking v (Some r) live h =
    talk_in_request r (at_next_instruction v.machine.state)
    ∙ ap (λ a. asked_talk (next_of a)) (sym h.1)
    ∙ ap (λ ending. talk_from ending (next v.machine)) (sym live)
    ∙ ap (λ waited. talk_by waited v.machine.ending (next v.machine)) (sym (stalls_live v live ∙ h.0))

pub ended_silent : (v : KeyedMachine) → IsSome v.machine.ending → None ≡ standing_talk v
unfolding standing_talk
ended_silent v h = by (stalled_at (paged v)) v.machine.ending h
  where
    by : (waited : Option ℕ) (ending : Option Ending) → IsSome ending → None ≡ talk_by waited ending (next v.machine)
    by waited None h = absurd (cc)
    by None (Some ending) h = refl
    by (Some page) (Some ending) h = refl

pub ended_stands : (v : KeyedMachine) → IsSome v.machine.ending → None ≡ standing_call v
unfolding standing_call
ended_stands v h = by (stalled_at (paged v)) v.machine.ending h
  where
    by : (waited : Option ℕ) (ending : Option Ending) → IsSome ending → None ≡ standing_by waited ending (next v.machine)
    by waited None h = absurd (cc)
    by None (Some ending) h = refl
    by (Some page) (Some ending) h = refl

is_asked_by : (m : Machine) (c : Call) → m.ending ≡ None → action m.state ≡ ask c (at_next_instruction m.state) → IsAsked m c
is_asked_by m (Clone t) live is =
    record { live = live; is = is; makeable = (clone-asks m t (ap (λ a. call_of (next_of a)) is)).makeable }
is_asked_by m (Join t) live is =
    record { live = live; is = is; makeable = (join-asks m t (ap (λ a. call_of (next_of a)) is)).makeable }
is_asked_by m (Kill t) live is =
    record { live = live; is = is; makeable = (kill-asks m t (ap (λ a. call_of (next_of a)) is)).makeable }

pub is_asked : (v : KeyedMachine) (r : Option Request) → v.machine.ending ≡ None → AsksNext (hart_in v) r → IfSome (call_in r) (IsAsked v.machine)
is_asked v None live h = tt
is_asked v (Some (request.Call c)) live h = is_asked_by v.machine c live h.1
is_asked v (Some (request.Talk t)) live h = tt

is_spoken_by : (m : Machine) (t : port.Talk) → m.ending ≡ None → action m.state ≡ speak t (at_next_instruction m.state) → IsSpoken m t
is_spoken_by m t live is =
    let comes = talks-at m (tree_talk t) (ap (λ a. talk_of (next_of a)) is) in
    let both : speak comes.said comes.speaks.state ≡ speak t (at_next_instruction m.state) = sym comes.speaks.is ∙ is in
    let same : comes.said ≡ t = cc in
    record {
      live = live;
      is = is;
      sibling = comes.speaks.names.0;
      with_peer = ap named (sym same) ∙ comes.speaks.names.1;
    }

pub is_spoken : (v : KeyedMachine) (r : Option Request) → v.machine.ending ≡ None → AsksNext (hart_in v) r → IfSome (talk_in r) (IsSpoken v.machine)
is_spoken v None live h = tt
is_spoken v (Some (request.Call c)) live h = tt
is_spoken v (Some (request.Talk t)) live h = is_spoken_by v.machine t live h.1

spoken_next : (m : Machine) (t : port.Talk) → m.ending ≡ None → next m ≡ talk t → IsSpoken m t
spoken_next m t live is =
    let comes = talks-at m (tree_talk t) (ap talk_of is) in
    let both : talk comes.said ≡ talk t = sym (ap next_of comes.speaks.is) ∙ is in
    let same : comes.said ≡ t = cc in
    is_spoken_by m t live (comes.speaks.is ∙ ap₂ speak same comes.speaks.next_one)

talk_from_lives : (ending : Option Ending) (step : Next) (t : port.Talk) → talk_from ending step ≡ Some t → (ending ≡ None) × (step ≡ talk t)
talk_from_lives None (exception cause value) t e = absurd (cc)
talk_from_lives None timer_interrupt t e = absurd (cc)
talk_from_lives None plain t e = absurd (cc)
talk_from_lives None (call c) t e = absurd (cc)
talk_from_lives None (talk u) t e = let same : u ≡ t = cc in (refl, ap talk same)
talk_from_lives (Some ending) step t e = absurd (cc)

talk_by_lives : (waited : Option ℕ) (ending : Option Ending) (step : Next) (t : port.Talk) → talk_by waited ending step ≡ Some t → (ending ≡ None) × (step ≡ talk t)
talk_by_lives None ending step t e = talk_from_lives ending step t e
talk_by_lives (Some page) ending step t e = absurd (cc)

-- the talk of a machine that stands at one
pub talk_there : (v : KeyedMachine) → IsSome (standing_talk v) → (t : port.Talk) × IsSpoken v.machine t
unfolding standing_talk
talk_there v some = by (standing_talk v) refl some
  where
    by : (o : Option port.Talk) → standing_talk v ≡ o → IsSome o → (t : port.Talk) × IsSpoken v.machine t
    by None e some = absurd (cc)
    by (Some t) e some =
        let is = talk_by_lives (stalled_at (paged v)) v.machine.ending (next v.machine) t e in (t, spoken_next v.machine t is.0 is.1)

-- ---- where a machine stands

pub stands_stalled : (v : KeyedMachine) (page : ℕ) → v.machine.ending ≡ None → waits_for (hart_in v) ≡ Some page → Stands v (stepped.Stall page)
stands_stalled v page live waits = (live, stalls_live v live ∙ waits)

pub stands_asking : (v : KeyedMachine) (r : Request) → v.machine.ending ≡ None → waits_for (hart_in v) ≡ None → AsksNext (hart_in v) (Some r) → Stops v (stop_at r)
stands_asking v (request.Call c) live here asks = (live, stalls_live v live ∙ here, ap next_of asks.1)
stands_asking v (request.Talk t) live here asks = (live, stalls_live v live ∙ here, ap next_of asks.1)

pub stands_free : (v : KeyedMachine) → v.machine.ending ≡ None → waits_for (hart_in v) ≡ None → AsksNext (hart_in v) None → Stands v stepped.Went
stands_free v live here asks = elim asks [
  | inl waits ↦ let waits_too = subst IsSome here waits in absurd (cc)
  | inr none ↦ record {
    live = live;
    here = stalls_live v live ∙ here;
    own = (no_call_asked (next v.machine) none).1;
    silent = (no_talk_asked (next v.machine) none).1;
  }
]

-- ---- the machine after a call

pub killed_made : (m : Machine) (t : ℕ) → IsAsked m (Kill t) → after_kill m ≡ limited (made (fork.after_kill m.state.ports.fork t) m.state) m
unfolding after_kill
killed_made m t asked = ap (λ a. killed_by a m) asked.is

pub joined_made : (m : Machine) (t : ℕ) (endings : List Ending) → IsAsked m (Join t)
    → after_join m endings ≡ limited (made (fork.after_join m.state.ports.fork t endings) m.state) m
unfolding after_join
joined_made m t endings asked = ap (λ a. joined_by a m endings) asked.is

pub forked_made : (m : Machine) (t : ℕ) → IsAsked m (Clone t) → forked m ≡ limited (made (fork.after_clone m.state.ports.fork t) m.state) m
unfolding forked
forked_made m t asked = ap (λ a. forked_by a m) asked.is

pub talked_made : (m : Machine) (t : port.Talk) (word : Option ℕ) (answer : ℕ) → IsSpoken m t → talked m word answer ≡ limited (made_talk word answer m.state) m
unfolding talked
talked_made m t word answer spoken = ap (λ a. talked_by a m word answer) spoken.is

-- ---- its fork port

pub next_after_kill : (f : ForkRegisters) (number : ℕ) → (fork.after_kill f number).next_ticket ≤ f.next_ticket + 1
unfolding fork.after_kill
next_after_kill f number = by (ticket_found f number)
  where
    by : (found : Option Ticket) → (killed_from found f number).next_ticket ≤ f.next_ticket + 1
    by None = omega arith
    by (Some ticket) = omega arith

pub next_after_join : (f : ForkRegisters) (number : ℕ) (endings : List Ending) → (fork.after_join f number endings).next_ticket ≤ f.next_ticket + 1
unfolding fork.after_join
next_after_join f number endings = by (ticket_found f number)
  where
    by : (found : Option Ticket) → (joined_from found f number endings).next_ticket ≤ f.next_ticket + 1
    by None = omega arith
    by (Some ticket) = omega arith

pub funded_after_clone : (f : ForkRegisters) (number : ℕ) → IsFunded f → IsFunded (fork.after_clone f number)
funded_after_clone f number funded = record {
  accounted = accounted_after_clone f number funded.accounted;
  most = omega (arith, holding_after_clone f number, funded.most);
}

pub funded_after_join : (f : ForkRegisters) (number : ℕ) (endings : List Ending) → IsFunded f → IsFunded (fork.after_join f number endings)
funded_after_join f number endings funded = record {
  accounted = accounted_after_join f number endings funded.accounted;
  most = omega (arith, holding_after_join f number endings funded.accounted.rising, funded.most);
}

pub funded_after_kill : (f : ForkRegisters) (number : ℕ) → IsFunded f → IsFunded (fork.after_kill f number)
funded_after_kill f number funded = record {
  accounted = accounted_after_kill f number funded.accounted;
  most = omega (arith, holding_after_kill f number funded.accounted.rising, funded.most);
}

-- ---- what a ticket was granted

told_grant : (found : Option Ticket) (told : ℕ × ℕ × Bool) → option_map ticket_told found ≡ Some told → (grant_of found).children ≡ told.0
told_grant None told e = absurd (cc)
told_grant (Some ticket) told e = let same : ticket_told ticket ≡ told = cc in ap (λ (t : ℕ × ℕ × Bool). t.0) same

told_share : (found : Option Ticket) (told : ℕ × ℕ × Bool) → option_map ticket_told found ≡ Some told → (grant_of found).share ≡ told.1
told_share None told e = absurd (cc)
told_share (Some ticket) told e = let same : ticket_told ticket ≡ told = cc in ap (λ (t : ℕ × ℕ × Bool). t.1) same

module _ (m : Machine) (t : ℕ) where
  pub granted_told : (told : ℕ × ℕ × Bool) → option_map ticket_told (ticket_found (port_of m) t) ≡ Some told → (machines.grant m t).children ≡ told.0
  unfolding machines
  granted_told told e = told_grant (ticket_found (port_of m) t) told e

  pub granted_fits : IsFunded (port_of m) → (machines.grant m t).children ≤ MAX_CLONES
  unfolding machines
  granted_fits funded = by (ticket_found (port_of m) t) refl
    where
      by : (found : Option Ticket) → ticket_found (port_of m) t ≡ found → (grant_of found).children ≤ MAX_CLONES
      by None e = omega arith
      by (Some ticket) e =
          let held_with = held_without (port_of m).tickets t ticket funded.accounted.rising e in
          let most : (port_of m).allot + held (port_of m).tickets ≤ MAX_CLONES = funded.most in
          omega arith

-- as many endings as the ticket has children
pub all_there : (m : Machine) (t count : ℕ) → HasTicket (port_of m) t true → count ≡ (machines.grant m t).children
    → IsSomeAnd (ticket_found (port_of m) t) (λ (ticket : Ticket). count ≡ ticket.children)
unfolding machines
all_there m t count there all = by (ticket_found (port_of m) t) there all
  where
    by : (found : Option Ticket) → IsSomeAnd found (λ (ticket : Ticket). ticket.is_cloned ≡ true) → count ≡ (grant_of found).children
        → IsSomeAnd found (λ (ticket : Ticket). count ≡ ticket.children)
    by None there all = absurd there
    by (Some ticket) there all = all

-- ---- steps and limit

pub lives : (ending : Option Ending) → is_some ending ≡ false → ending ≡ None
lives None h = refl
lives (Some ending) h = absurd (cc)

-- ---- the call of a machine

-- the call that stands is the one that is asked for
stands_as : (waited : Option ℕ) (ending : Option Ending) (step : Next) (asked stands : Call) → step ≡ call asked
    → standing_by waited ending step ≡ Some stands → asked ≡ stands
stands_as (Some page) ending step asked stands is h = absurd (cc)
stands_as None (Some end) step asked stands is h = absurd (cc)
stands_as None None step asked stands is h = let both : Some asked ≡ Some stands = sym (ap asked_call is) ∙ h in cc

pub same_ticket : (v : KeyedMachine) (t u : ℕ) → IsAsked v.machine (Clone t) → standing_call v ≡ Some (Clone u) → t ≡ u
unfolding standing_call
same_ticket v t u asked is =
    let both = stands_as (stalled_at (paged v)) v.machine.ending (next v.machine) (Clone t) (Clone u) (ap next_of asked.is) is in cc

-- a ticket is for at least one child
for_some_by : (found : Bool) (x ticket : Ticket) (rest : Option Ticket) → 0 < x.children → (rest ≡ Some ticket → 0 < ticket.children)
    → cond found (Some x) rest ≡ Some ticket → 0 < ticket.children
for_some_by true x ticket rest some later is = let same : x ≡ ticket = cc in subst (λ (t : Ticket). 0 < t.children) same some
for_some_by false x ticket rest some later is = later is

for_some : (tickets : List Ticket) (number : ℕ) (ticket : Ticket) → AllByRecursion (λ (t : Ticket). 0 < t.children) tickets
    → ticket_of tickets number ≡ Some ticket → 0 < ticket.children
for_some [] number ticket all is = absurd (cc)
for_some (x ∷ xs) number ticket all is = for_some_by (has_number number x) x ticket (ticket_of xs number) all.0 (for_some xs number ticket all.1) is

module _ (m : Machine) (t : ℕ) where
  -- each child of a ticket has less than the ticket's price
  pub share_fits : IsFunded (port_of m) → (machines.grant m t).share ≤ MAX_SHARE
  unfolding machines
  share_fits funded = by (ticket_found (port_of m) t) refl
    where
      by : (found : Option Ticket) → ticket_found (port_of m) t ≡ found → (grant_of found).share ≤ MAX_SHARE
      by None e = omega arith
      by (Some ticket) e =
          let some : 1 ≤ ticket.children = for_some (port_of m).tickets t ticket funded.accounted.balanced.for_children e in
          let held_with = held_without (port_of m).tickets t ticket funded.accounted.rising e in
          let most : (port_of m).allot + held (port_of m).tickets ≤ MAX_CLONES = funded.most in
          let price = mul-le-mul_right (1 + ticket.share) some in
          omega arith

-- a machine that has ended stands where it does after its last step
pub stands_ended : (v : KeyedMachine) (why : Stepped) → v.machine.ending ≢ None → IsAfterStep v why → Stands v why
stands_ended v stepped.Went ended is = absurd (ended is)
stands_ended v (stepped.Stall page) ended is = absurd is
stands_ended v (stepped.Call c) ended is = absurd is
stands_ended v (stepped.Talk t) ended is = absurd is
stands_ended v (stepped.Ended ending) ended is = is
