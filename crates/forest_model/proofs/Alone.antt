-- A machine that may have no clones and has no ticket is run by its own steps.
use Rattle.std.proofs.Common.{◌≡◌, ℕ, zero, suc, ◌+◌, ◌-◌, ◌/◌, ◌<◌, ◌≤◌, ◌||◌, inl, inr, Bool, true, false, eqb, List, [], Option, Some, None, IsSome}
use Rattle.std.proofs.Common.{IsSomeAnd, is_some, refl, sym, ap, ◌∙◌, subst, arith}
use Rattle.std.proofs.lemmas.Bool.{eqb-false}
use Rattle.fork_port.specs.declared.commands.Call.{Call}
use Rattle.fork_port.specs.declared.commands.Call.TheVariants as call
use Rattle.fork_port.specs.declared.commands.Asked.{Asked}
use Rattle.fork_port.specs.declared.commands.Asked.TheVariants as asked
use Rattle.fork_port.specs.declared.ending.Ending.{Ending}
use Rattle.fork_port.specs.declared.tickets.Ticket.{Ticket}
use Rattle.fork_port.specs.Tickets.{ticket_of}
use Rattle.fork_port.specs.Registers.{ForkRegisters, HasTicket, ticket_found, holding}
use Rattle.fork_port.specs.Children.{children_granted, after_ticket, killed_from, after_kill}
use Rattle.fork_port.specs.Commands.{IsMakeable, answered, fork_command}
use Rattle.fork_port.proofs.Balance.{unless}
use Rattle.fork_port.proofs.StoreLemmas.{each_store}
use Rattle.port_rules.specs.Rules.{cloned_numbers}
use Rattle.forest_tree.specs.Operations.{Operations}
use Rattle.forest_tree.specs.Tree.{Tree, node, no_brood, no_entry}
use Rattle.forest_tree.specs.Step.{alone, log_killed, settled_by, settled, waits_by, step_by, step_from, step}
use Rattle.forest_tree.specs.Ahead.{most_ahead, own_weight, weigh, ahead}
use Rattle.sibling_forest.specs.Talk.{Box, emptied, kept_by, after, advance_by, boxed}
use Rattle.sibling_forest.specs.Settle.{settle, rests_at}
use Rattle.sibling_forest.specs.Finish.{paths, first_not, found_by, first_path, next_by, next_path, go_on, run}
use Rattle.sibling_forest.specs.Finish as forest
use Rattle.elf_load.specs.Image.{Image}
use Rattle.forest_model.specs.declared.Options.{Options}
use Rattle.forest_model.specs.State.{State}
use Rattle.forest_model.specs.Action.{Action, trap, interrupt, retire, exit, ask, speak}
use Rattle.forest_model.specs.Execute.{action}
use Rattle.forest_model.specs.Machine.{Machine, IsWithinLimit, next_of, next, advance, after_steps, boot}
use Rattle.sibling_port.specs.Registers.{SiblingRegisters}
use Rattle.sibling_port.specs.Commands.{sibling_command}
use Rattle.sibling_port.proofs.Peers.{root_is_alone}
use Rattle.sibling_port.proofs.Stores.{siblings_commanded}
use Rattle.sibling_port.proofs.Stores as siblings
use Rattle.forest_model.specs.Calls.{fork_of}
use Rattle.forest_model.specs.Talks.{stepped}
use Rattle.forest_model.specs.Forest.{call_of, talk_of, port_of, machines, talks, finish, IsChildless}
use Rattle.forest_model.proofs.PortWalk.{IsKept, Ported, action-ported, port-advance, sibling_of}
use Rattle.forest_model.proofs.Spoken.{stepped-own}
use Rattle.forest_model.proofs.Finish.{advance-ended, after_steps-ended, after_steps-agree, cases-ending, steps-advance, limit-advance, IsWithinLimit-advance}

-- nothing to give, and nothing given
record IsBare (f : ForkRegisters) : Type 0 where
  no_allot : f.allot ≡ 0
  no_ticket : f.tickets ≡ []

bare : (m : Machine) → IsChildless m → IsBare (port_of m)
bare m h = record { no_allot = h.no_allot; no_ticket = h.no_ticket }

none-found : (f : ForkRegisters) → IsBare f → (number : ℕ) → ticket_found f number ≡ None
none-found f h number = ap (λ tickets. ticket_of tickets number) h.no_ticket

none-granted : (f : ForkRegisters) → IsBare f → children_granted f ≡ 0
none-granted f h =
    let none : f.allot / (1 + f.second_argument) ≡ 0 = ap (λ allot. allot / (1 + f.second_argument)) h.no_allot ∙ nothing (f.second_argument) in
    grind arith
  where
    nothing : (n : ℕ) → 0 / (1 + n) ≡ 0
    nothing n = grind arith

IsBare-after_ticket : (f : ForkRegisters) → IsBare f → IsBare (after_ticket f)
unfolding after_ticket
IsBare-after_ticket f h =
    unless IsBare (eqb f.first_argument 0) _ _ (record { no_allot = h.no_allot; no_ticket = h.no_ticket })
    (λ _. unless IsBare (eqb (children_granted f) 0) _ _ (record { no_allot = h.no_allot; no_ticket = h.no_ticket })
    (λ some. absurd (eqb-false (children_granted f) 0 some (none-granted f h))))

IsBare-killed : (f : ForkRegisters) (number : ℕ) (found : Option Ticket) → found ≡ None → IsBare f → IsBare (killed_from found f number)
IsBare-killed f number None e h = h
IsBare-killed f number (Some ticket) e h = absurd (cc)

IsBare-after_kill : (f : ForkRegisters) (number : ℕ) → IsBare f → IsBare (after_kill f number)
unfolding after_kill
IsBare-after_kill f number h = IsBare-killed f number (ticket_found f number) (none-found f h number) h

IsBare-answered : (f : ForkRegisters) → IsBare f → (a : Asked) → IsBare (answered a f)
IsBare-answered f h (asked.Refused word) = record { no_allot = h.no_allot; no_ticket = h.no_ticket }
IsBare-answered f h asked.NewTicket = IsBare-after_ticket f h
IsBare-answered f h (asked.Discard number) = IsBare-after_kill f number h
IsBare-answered f h (asked.Call c) = h
IsBare-answered f h (asked.Exit value) = h
IsBare-answered f h (asked.ExitWith value address count) = h
IsBare-answered f h (asked.Zero first count) = h

-- the same, and no siblings
abbrev IsAlone : ForkRegisters → SiblingRegisters → Type 0
IsAlone f r = IsBare f × (r.siblings ≡ 0)

IsAlone-kept : (f : ForkRegisters) (r : SiblingRegisters) → IsBare f → r.siblings ≡ 0 → IsKept IsAlone f r
IsAlone-kept f r h none =
    record {
      before = (h, none);
      after_store = λ offset width word.
          each_store (λ s. IsAlone s.fork r) f offset width word
          (record { no_allot = h.no_allot; no_ticket = h.no_ticket }, none) (record { no_allot = h.no_allot; no_ticket = h.no_ticket }, none)
          (record { no_allot = h.no_allot; no_ticket = h.no_ticket }, none) (IsBare-answered f h (fork_command f word), none);
      after_word = λ offset width word.
          siblings.each_store (λ t. IsAlone f t.port) f.clone_id r offset width word
          (h, none) (h, none) (h, siblings_commanded (sibling_command f.clone_id r word) r ∙ none);
      after_answer = λ g q word k. (record { no_allot = k.0.no_allot; no_ticket = k.0.no_ticket }, k.1);
    }

pub IsChildless-advance : (m : Machine) → IsChildless m → IsChildless (advance m)
IsChildless-advance m h =
    let k : IsAlone (port_of (advance m)) (sibling_of (advance m).state) =
    port-advance IsAlone m (IsAlone-kept (port_of m) (sibling_of m.state) (bare m h) h.no_siblings) in
    record { no_allot = k.0.no_allot; no_ticket = k.0.no_ticket; no_siblings = k.1 }

pub IsChildless-after_steps : (n : ℕ) (m : Machine) → IsChildless m → IsChildless (after_steps n m)
unfolding after_steps
IsChildless-after_steps zero m h = h
IsChildless-after_steps (suc n) m h = IsChildless-after_steps n (advance m) (IsChildless-advance m h)

-- no call can be made where there is no ticket
no-ticket : (f : ForkRegisters) → IsBare f → (number : ℕ) (b : Bool) → HasTicket f number b → ⊥
no-ticket f h number b has = subst (λ found. IsSomeAnd found (λ (ticket : Ticket). ticket.is_cloned ≡ b)) (none-found f h number) has

no-call-makeable : (f : ForkRegisters) → IsBare f → (c : Call) → IsMakeable f c → ⊥
no-call-makeable f h (call.Clone t) has = no-ticket f h t false has
no-call-makeable f h (call.Join t) has = no-ticket f h t true has
no-call-makeable f h (call.Kill t) has = no-ticket f h t true has

module _ (at : State) (h : IsBare (fork_of at)) (none : (sibling_of at).siblings ≡ 0) where
  no-call-by : (a : Action) → Ported IsAlone at a → call_of (next_of a) ≡ None
  no-call-by (trap cause value) p = refl
  no-call-by interrupt p = refl
  no-call-by (retire written s) p = refl
  no-call-by (exit value bytes s) p = refl
  no-call-by (ask c s) p = absurd (no-call-makeable (fork_of at) h c p.possible)
  no-call-by (speak t s) p = refl

  no-talk-by : (a : Action) → Ported IsAlone at a → talk_of (next_of a) ≡ None
  no-talk-by (trap cause value) p = refl
  no-talk-by interrupt p = refl
  no-talk-by (retire written s) p = refl
  no-talk-by (exit value bytes s) p = refl
  no-talk-by (ask c s) p = refl
  no-talk-by (speak t s) p = absurd (root_is_alone (fork_of at).clone_id (sibling_of at) none p.possible.0.0)

module _ (m : Machine) (h : IsChildless m) where
  alone-action : Ported IsAlone m.state (action m.state)
  alone-action = action-ported IsAlone m.state (IsAlone-kept (port_of m) (sibling_of m.state) (bare m h) h.no_siblings)

  pub no-call : call_of (next m) ≡ None
  no-call = no-call-by m.state (bare m h) h.no_siblings (action m.state) alone-action

  pub no-talk : talk_of (next m) ≡ None
  no-talk = no-talk-by m.state (bare m h) h.no_siblings (action m.state) alone-action

-- its steps are those of its tree
abbrev boxes : Operations (Box Machine) Ending
boxes = boxed machines talks

abbrev wordless : Machine → Box Machine
wordless m = record { machine = m; inbox = [] }

abbrev lone : Machine → Tree (Box Machine)
lone m = alone boxes (wordless m)

kept-none : (e : Option Ending) → kept_by machines talks e [] ≡ []
unfolding emptied
kept-none None = refl
kept-none (Some ending) = refl

after-none : (m : Machine) → after machines talks m [] ≡ wordless m
after-none m = ap (λ (inbox : List (List ℕ)). record { machine = m; inbox = inbox }) (kept-none (machines.ending m))

settled-alone : (ending : Option Ending) (m : Machine) → (port_of m).tickets ≡ []
    → settled_by boxes ending (wordless m) no_brood no_entry ≡ lone m
unfolding boxed machines log_killed cloned_numbers
settled-alone None m none = refl
settled-alone (Some ending) m none =
    ap (λ tickets. node (wordless m) no_brood (log_killed boxes (wordless m) (cloned_numbers tickets) no_entry)) none

step-alone-by : (ending : Option Ending) (m : Machine) → m.ending ≡ ending → IsChildless m
    → step_from boxes ending (wordless m) no_brood no_entry ≡ lone (advance m)
unfolding boxed machines talks
step-alone-by None m e h =
    ap (λ c. step_by boxes c (wordless m) no_brood no_entry) (no-call m h)
    ∙ ap (λ what. settled boxes (advance_by machines talks what (wordless m)) no_brood no_entry) (no-talk m h)
    ∙ ap (λ b. settled boxes b no_brood no_entry) (after-none (stepped m))
    ∙ ap (λ (n : Machine). settled_by boxes n.ending (wordless n) no_brood no_entry) (stepped-own m (no-talk m h))
    ∙ settled-alone (advance m).ending (advance m) (IsChildless-advance m h).no_ticket
step-alone-by (Some ending) m e h = ap lone (sym (advance-ended m ending e))

step-alone : (m : Machine) → IsChildless m → step boxes (lone m) ≡ lone (advance m)
unfolding step boxed machines
step-alone m h = step-alone-by m.ending m refl h

-- the next of them is its own, until it has ended
next-lives : (m : Machine) → IsChildless m → m.ending ≡ None → next_path machines talks (lone m) ≡ Some []
unfolding paths first_not rests_at boxed machines
next-lives m h lives =
    ap (λ e. next_by machines talks (is_some e) (found_by (is_some e || waits_by boxes (call_of (next m)) no_brood) [] None)) lives
    ∙ ap (λ c. next_by machines talks false (found_by (false || waits_by boxes c no_brood) [] None)) (no-call m h)

next-ended : (m : Machine) (ending : Ending) → m.ending ≡ Some ending → next_path machines talks (lone m) ≡ None
unfolding boxed machines
next-ended m ending e = ap (λ f. next_by machines talks (is_some f) (first_path machines talks (lone m))) e

run-alone : (n : ℕ) (m : Machine) → IsChildless m → run machines talks n (lone m) ≡ lone (after_steps n m)
unfolding run settle after_steps
run-alone zero m h = refl
run-alone (suc n) m h = elim (cases-ending m.ending) [
  | inl ended ↦
      ap (λ path. go_on machines talks path (λ p. run machines talks n (settle machines talks p (lone m))) (lone m)) (next-ended m ended.0 ended.1)
      ∙ ap lone (sym (after_steps-ended (suc n) m ended.0 ended.1))
  | inr live ↦
      ap (λ path. go_on machines talks path (λ p. run machines talks n (settle machines talks p (lone m))) (lone m)) (next-lives m h live)
      ∙ ap (run machines talks n) (step-alone m h) ∙ run-alone n (advance m) (IsChildless-advance m h)
]

-- it has ended when its limit is reached
pub ended-after_steps : (n : ℕ) (m : Machine) → IsChildless m → IsWithinLimit m → m.limit ≤ m.steps + n → IsSome (after_steps n m).ending
unfolding after_steps
ended-after_steps zero m h within reached = elim (cases-ending m.ending) [
  | inl ended ↦ subst IsSome (sym ended.1) refl
  | inr live ↦ let below : m.steps < m.limit = within live in absurd (omega arith)
]
ended-after_steps (suc n) m h within reached = elim (cases-ending m.ending) [
  | inl ended ↦ subst (λ (k : Machine). IsSome k.ending) (sym (after_steps-ended (suc n) m ended.0 ended.1)) (subst IsSome (sym ended.1) refl)
  | inr live ↦
      let steps : (advance m).steps ≡ m.steps + 1 = steps-advance m live (no-call m h) (no-talk m h) in
      let limit : (advance m).limit ≡ m.limit = limit-advance m in
      ended-after_steps n (advance m) (IsChildless-advance m h) (IsWithinLimit-advance m within) (omega arith)
]

-- as many steps as are ahead of it are enough
left-ahead : (left held : ℕ) → left ≤ most_ahead 0 left held
unfolding most_ahead
left-ahead zero held = omega arith
left-ahead (suc left) held = let down : left ≤ most_ahead 0 left held = left-ahead left held in omega (arith, down)

ahead-alone : (m : Machine) → m.ending ≡ None → ahead boxes (lone m) ≡ most_ahead 0 (m.limit - m.steps) (holding (port_of m)) + 0 + 0
unfolding weigh boxed machines
ahead-alone m lives = ap (λ e. own_weight boxes 0 (λ b. 0) e (wordless m) + 0) lives

ahead-ends : (m : Machine) → IsChildless m → IsWithinLimit m → IsSome (after_steps (ahead boxes (lone m)) m).ending
ahead-ends m h within = elim (cases-ending m.ending) [
  | inl ended ↦
      subst (λ (k : Machine). IsSome k.ending) (sym (after_steps-ended (ahead boxes (lone m)) m ended.0 ended.1)) (subst IsSome (sym ended.1) refl)
  | inr live ↦
      let same = ahead-alone m live in
      let many = left-ahead (m.limit - m.steps) (holding (port_of m)) in
      ended-after_steps (ahead boxes (lone m)) m h within (omega (arith, same, many))
]

finish-alone : (m : Machine) → IsChildless m → finish (lone m) ≡ lone (after_steps (ahead boxes (lone m)) m)
unfolding forest.finish
finish-alone m h = run-alone (ahead boxes (lone m)) m h

pub finish-childless : (n : ℕ) (m : Machine) → IsChildless m → IsWithinLimit m → IsSome (after_steps n m).ending
    → finish (alone (boxed machines talks) (record { machine = m; inbox = [] }))
    ≡ alone (boxed machines talks) (record { machine = after_steps n m; inbox = [] })
finish-childless n m h within ended =
    finish-alone m h ∙ ap lone (after_steps-agree (ahead boxes (lone m)) n m (ahead-ends m h within) ended)

pub booted-childless : (image : Image) (disk input : List ℕ) (options : Options) → options.allot ≡ 0 → IsChildless (boot image disk input options)
unfolding boot
booted-childless image disk input options none = record { no_allot = none; no_ticket = refl; no_siblings = refl }
