-- The machines keep the rules of a forest.
use Rattle.std.proofs.Common.{◌≡◌, ℕ, ◌+◌, ◌^◌, ◌<◌, ◌≤◌, ◌&&◌, ◌||◌, not, Bool, true, false, cond, eqb, ltb, ltb-true, lt-ltb, List, Option, Some, None, is_some, refl, sym, ap, ◌∙◌, subst, arith}
use Rattle.std.proofs.lemmas.Bool.{eqb-false, and_parts, and_from}
use Rattle.fork_port.specs.declared.commands.Call.TheVariants.{Clone, Join, Kill}
use Rattle.fork_port.specs.declared.ending.Ending.{Ending}
use Rattle.fork_port.specs.declared.ending.Ending.TheVariants.{Limit}
use Rattle.fork_port.specs.declared.tickets.Ticket.{Ticket}
use Rattle.fork_port.specs.Registers.{ForkRegisters, ticket_found, holding, at_start}
use Rattle.fork_port.specs.Children as fork
use Rattle.port_rules.specs.Rules as port
use Rattle.port_rules.specs.Rules.{cloned_numbers, grant_of, is_accounted, IsPortStep}
use Rattle.port_rules.proofs.Tickets.{accounted-is, is-accounted, among-cloned, cloned-once, clone-may, cloned-has, clone-affords}
use Rattle.port_rules.proofs.Tickets.{port-same, port-clone, port-join, port-kill, child-good, child-holding, child-fits}
use Rattle.port_rules.proofs.Stores.{port-stored}
use Rattle.forest_tree.specs.Operations as tree
use Rattle.forest_tree.specs.Operations.{is_among, is_cloned, Makes, IsStep, IsChild, IsMachine}
use Rattle.elf_load.specs.Image.{Image}
use Rattle.forest_model.specs.declared.Options.{Options}
use Rattle.forest_model.specs.State.{State}
use Rattle.forest_model.specs.Action.{Action, trap, interrupt, retire, exit, ask, speak}
use Rattle.forest_model.specs.Execute.{action}
use Rattle.sibling_port.specs.Registers.{SiblingRegisters}
use Rattle.sibling_port.specs.declared.talk.Talk as said
use Rattle.sibling_port.specs.Registers as sibling
use Rattle.sibling_forest.specs.Talk.{Talk}
use Rattle.forest_model.specs.Machine.{Machine, next_of, next, limited, applied, advance, boot}
use Rattle.forest_model.specs.Talks.{spoken, talked, received, stepped}
use Rattle.forest_model.specs.Calls.{called, fork_of, forked, share_of, child_by, child, after_join, after_kill}
use Rattle.forest_model.specs.Forest.{call_of, talk_of, port_of, is_good, machines}
use Rattle.forest_model.proofs.PortWalk.{IsKept, Ported, action-ported, fork-kept, port-applied, sibling_of}
use Rattle.forest_model.proofs.Spoken.{Speaks, Kind, own, says, kind-of, answer_of, received-talked, stepped-own, stepped-talk, talked-is, talks-at}
use Rattle.forest_model.proofs.Finish.{advance-live}
use Rattle.forest_model.proofs.Calls.{Asks, clone-asks, join-asks, kill-asks, forked-is, child-is, joined-is, killed-is}

-- a good machine that lives is below its limit
is-below : (ending : Option Ending) (steps limit : ℕ) → is_some ending || ltb steps limit ≡ true → ending ≡ None → steps < limit
is-below None steps limit h lives = ltb-true steps limit h
is-below (Some e) steps limit h lives = absurd (cc)

accounted : (m : Machine) → is_good m ≡ true → is_accounted (port_of m) ≡ true
accounted m good = (and_parts (is_accounted (port_of m)) (is_some m.ending || ltb m.steps m.limit) good).0

below : (m : Machine) → is_good m ≡ true → m.ending ≡ None → m.steps < m.limit
below m good lives = is-below m.ending m.steps m.limit (and_parts (is_accounted (port_of m)) (is_some m.ending || ltb m.steps m.limit) good).1 lives

-- n has counted one step more than m, and lives below its limit
record IsCounted (m n : Machine) : Type 0 where
  steps : n.steps ≡ m.steps + 1
  limit : n.limit ≡ m.limit
  live : is_some n.ending || ltb n.steps n.limit ≡ true

live-limited : (steps limit : ℕ) (reached : Bool) → eqb steps limit ≡ reached → steps ≤ limit
    → is_some (cond reached (Some Limit) None) || ltb steps limit ≡ true
live-limited steps limit true e fits = refl
live-limited steps limit false e fits = lt-ltb steps limit (let differs = eqb-false steps limit e in grind arith)

counted-limited : (s : State) (m : Machine) → m.steps < m.limit → IsCounted m (limited s m)
counted-limited s m h = record { steps = refl; limit = refl; live = live-limited (m.steps + 1) m.limit (eqb (m.steps + 1) m.limit) refl (omega arith) }

counted-applied : (a : Action) (m : Machine) → call_of (next_of a) ≡ None → talk_of (next_of a) ≡ None → m.steps < m.limit → IsCounted m (applied a m)
counted-applied (trap cause value) m calls silent h = counted-limited _ m h
counted-applied interrupt m calls silent h = counted-limited _ m h
counted-applied (retire written s) m calls silent h = counted-limited _ m h
counted-applied (exit value bytes s) m calls silent h = record { steps = refl; limit = refl; live = refl }
counted-applied (ask c s) m calls silent h = absurd (cc)
counted-applied (speak t s) m calls silent h = absurd (cc)

-- what a step owes, by what it does to the fork port
module _ (m : Machine) (good : is_good m ≡ true) where
  among : (n : Machine) → is_accounted (port_of n) ≡ true → (t : ℕ)
      → is_among t (cloned_numbers (port_of n).tickets) ≡ port.is_cloned (ticket_found (port_of n) t)
  among n accounts t = among-cloned (port_of n).tickets (accounted-is (port_of n) accounts).rising t

  stepping : (n : Machine) (then : ℕ → Bool → Bool) → m.ending ≡ None → IsCounted m n
      → IsPortStep (port_of m) (port_of n) (λ t. then t (port.is_cloned (ticket_found (port_of m) t)))
      → IsStep machines m n (λ t. then t (is_cloned machines m t))
  unfolding machines
  stepping n then lives counts s = record {
    good = and_from (is_accounted (port_of n)) (is_some n.ending || ltb n.steps n.limit) s.good counts.live;
    counted = let under : m.steps < m.limit = below m good lives in
        let steps : n.steps ≡ m.steps + 1 = counts.steps in
        let limit : n.limit ≡ m.limit = counts.limit in
        omega arith;
    holding = s.holding;
    tickets = λ t. among n s.good t ∙ s.tickets t ∙ ap (then t) (sym (among m (accounted m good) t));
    grants = λ t is. s.grants t (sym (among n s.good t) ∙ is);
    once = s.once;
  }

-- an instruction changes the fork port as one store does
abbrev Steps : ForkRegisters → ForkRegisters → Type 0
Steps f g = IsPortStep f g (λ t. port.is_cloned (ticket_found f t))

Steps-kept : (f : ForkRegisters) (r : SiblingRegisters) → is_accounted f ≡ true → IsKept (λ g q. Steps f g) f r
Steps-kept f r h =
    fork-kept (Steps f) f r (port-same f f h refl refl refl refl)
    (λ offset width word. port-stored f offset width word h)
    (λ g word s. record { good = s.good; holding = s.holding; tickets = s.tickets; grants = s.grants; once = s.once })

ported : (m : Machine) → is_good m ≡ true → Ported (λ g q. Steps (port_of m) g) m.state (action m.state)
ported m good = action-ported (λ g q. Steps (port_of m) g) m.state (Steps-kept (port_of m) (sibling_of m.state) (accounted m good))

same-port : (m : Machine) → is_good m ≡ true → Steps (port_of m) (port_of m)
same-port m good = port-same (port_of m) (port_of m) (accounted m good) refl refl refl refl

-- the call that its next step is
module _ (m : Machine) (t : ℕ) where
  makes-clone : Makes machines m (Some (tree.clone t)) → Asks m (Clone t)
  unfolding machines
  makes-clone makes = clone-asks m t makes.call

  makes-join : Makes machines m (Some (tree.join t)) → Asks m (Join t)
  unfolding machines
  makes-join makes = join-asks m t makes.call

  makes-kill : Makes machines m (Some (tree.kill t)) → Asks m (Kill t)
  unfolding machines
  makes-kill makes = kill-asks m t makes.call

-- the machine's own step
advance-steps : (m : Machine) → Makes machines m None → talk_of (next m) ≡ None → IsStep machines m (advance m) (is_cloned machines m)
unfolding machines
advance-steps m makes silent =
    subst (λ n. IsStep machines m n (is_cloned machines m)) (sym (advance-live m makes.lives))
    (stepping m makes.good (applied (action m.state) m) (λ t b. b) makes.lives
    (counted-applied (action m.state) m makes.call silent (below m makes.good makes.lives))
    (port-applied (λ g q. Steps (port_of m) g) (action m.state) m (ported m makes.good) (same-port m makes.good)))

-- a talk is a step too, whatever it brings
talked-steps : (m : Machine) (t : said.Talk) (word : Option ℕ) (answer : ℕ) → Makes machines m None → Speaks m t
    → IsStep machines m (talked m word answer) (is_cloned machines m)
unfolding machines
talked-steps m t word answer makes a =
    let r : SiblingRegisters = sibling.talked word answer (sibling_of a.state) in
    subst (λ n. IsStep machines m n (is_cloned machines m)) (sym (talked-is m t word answer a))
    (stepping m makes.good (spoken a.state r m) (λ t b. b) makes.lives (counted-limited _ m (below m makes.good makes.lives))
    (subst (Steps (port_of m)) (sym a.same) (same-port m makes.good)))

own-steps : (m : Machine) → Makes machines m None → IsStep machines m (stepped m) (is_cloned machines m)
own-steps m makes = by (kind-of m)
  where
    by : Kind m → IsStep machines m (stepped m) (is_cloned machines m)
    by (own silent) = subst (λ n. IsStep machines m n (is_cloned machines m)) (sym (stepped-own m silent)) (advance-steps m makes silent)
    by (says t a) = subst (λ n. IsStep machines m n (is_cloned machines m)) (sym (stepped-talk m t a)) (talked-steps m t None _ makes a)

pub received-steps : (m : Machine) (what : Talk) (word : Option ℕ) → Makes machines m None → talk_of (next m) ≡ Some what
    → IsStep machines m (received m word) (is_cloned machines m)
received-steps m what word makes is =
    let a = talks-at m what is in
    subst (λ n. IsStep machines m n (is_cloned machines m)) (sym (received-talked m word)) (talked-steps m a.said word (answer_of word) makes a.speaks)

-- a call is counted, and does to the fork port what it says
called-steps : (m : Machine) (s : State) (f : ForkRegisters) (then : ℕ → Bool → Bool) → is_good m ≡ true → m.ending ≡ None
    → IsPortStep (port_of m) f (λ t. then t (port.is_cloned (ticket_found (port_of m) t)))
    → IsStep machines m (called s f m) (λ t. then t (is_cloned machines m t))
called-steps m s f then good lives steps =
    stepping m good (called s f m) then lives (counted-limited _ m (below m good lives)) steps

forked-steps : (m : Machine) (t : ℕ) → Makes machines m (Some (tree.clone t)) → IsStep machines m (forked m) (λ u. eqb t u || is_cloned machines m u)
unfolding machines
forked-steps m t makes =
    let a = makes-clone m t makes in
    subst (λ n. IsStep machines m n (λ u. eqb t u || is_cloned machines m u)) (sym (forked-is m t a))
    (called-steps m a.state (fork.after_clone (fork_of a.state) t) (λ u b. eqb t u || b) makes.good makes.lives
    (subst (λ f. IsPortStep (port_of m) (fork.after_clone f t) (λ u. eqb t u || port.is_cloned (ticket_found (port_of m) u))) (sym a.same)
    (port-clone (port_of m) t (accounted m makes.good) a.makeable)))

joined-steps : (m : Machine) (t : ℕ) (endings : List Ending) → Makes machines m (Some (tree.join t))
    → IsStep machines m (after_join m endings) (λ u. not (eqb t u) && is_cloned machines m u)
unfolding machines
joined-steps m t endings makes =
    let a = makes-join m t makes in
    subst (λ n. IsStep machines m n (λ u. not (eqb t u) && is_cloned machines m u)) (sym (joined-is m t endings a))
    (called-steps m a.state (fork.after_join (fork_of a.state) t endings) (λ u b. not (eqb t u) && b) makes.good makes.lives
    (subst (λ f. IsPortStep (port_of m) (fork.after_join f t endings) (λ u. not (eqb t u) && port.is_cloned (ticket_found (port_of m) u))) (sym a.same)
    (port-join (port_of m) t endings (accounted m makes.good) a.makeable)))

killed-steps : (m : Machine) (t : ℕ) → Makes machines m (Some (tree.kill t))
    → IsStep machines m (after_kill m) (λ u. not (eqb t u) && is_cloned machines m u)
unfolding machines
killed-steps m t makes =
    let a = makes-kill m t makes in
    subst (λ n. IsStep machines m n (λ u. not (eqb t u) && is_cloned machines m u)) (sym (killed-is m t a))
    (called-steps m a.state (fork.after_kill (fork_of a.state) t) (λ u b. not (eqb t u) && b) makes.good makes.lives
    (subst (λ f. IsPortStep (port_of m) (fork.after_kill f t) (λ u. not (eqb t u) && port.is_cloned (ticket_found (port_of m) u))) (sym a.same)
    (port-kill (port_of m) t (accounted m makes.good) a.makeable)))

-- a child
share-grant : (found : Option Ticket) → share_of found ≡ (grant_of found).share
share-grant None = refl
share-grant (Some ticket) = refl

child-of : (m n : Machine) (t share : ℕ) (f : ForkRegisters) → share ≡ (grant_of (ticket_found (port_of m) t)).share → share < 2 ^ 32
    → m.steps < m.limit → IsCounted m n → (k : ℕ) → port_of n ≡ fork.child_registers f k share → IsChild machines m t n
unfolding machines cloned_numbers is_among
child-of m n t share f is fits under counts k born = record {
  good = and_from (is_accounted (port_of n)) (is_some n.ending || ltb n.steps n.limit) (ap is_accounted born ∙ child-good f k share fits) counts.live;
  counted = let steps : n.steps ≡ m.steps + 1 = counts.steps in
      let limit : n.limit ≡ m.limit = counts.limit in
      omega arith;
  holding = ap holding born ∙ child-holding f k share ∙ is;
  tickets = λ u. ap (λ g. is_among u (cloned_numbers g.tickets)) born;
}

children-are : (m : Machine) (t k : ℕ) → Makes machines m (Some (tree.clone t)) → 1 ≤ k → k ≤ (machines.grant m t).children
    → IsChild machines m t (child m k)
unfolding machines
children-are m t k makes first last =
    let a = makes-clone m t makes in
    let f : ForkRegisters = fork.after_clone (fork_of a.state) t in
    let share : ℕ = share_of (ticket_found (fork_of a.state) t) in
    let is : share ≡ (grant_of (ticket_found (port_of m) t)).share =
    ap (λ g. share_of (ticket_found g t)) a.same ∙ share-grant (ticket_found (port_of m) t) in
    let fits = child-fits (port_of m) t (accounted m makes.good) a.makeable (omega arith) in
    let parent = counted-limited (called a.state f m).state m (below m makes.good makes.lives) in
    subst (IsChild machines m t) (sym (child-is m t k a))
    (child-of m (child_by (ask (Clone t) a.state) m k) t share f is (subst (λ n. n < 2 ^ 32) (sym is) fits)
    (below m makes.good makes.lives) (record { steps = parent.steps; limit = parent.limit; live = parent.live }) k refl)

pub machines-rules : IsMachine machines
unfolding machines
machines-rules = record {
  below_limit = λ m good lives. let under : m.steps < m.limit = below m good lives in omega arith;
  advance = own-steps;
  cloned_once = λ m t good is. cloned-once (port_of m) t (accounted m good) (sym (among m good m (accounted m good) t) ∙ is);
  clone_affords = λ m t makes. clone-affords (port_of m) t (accounted m makes.good) (makes-clone m t makes).makeable;
  clone_may = λ m t makes. clone-may (port_of m) t (makes-clone m t makes).makeable;
  forked = forked-steps;
  child = children-are;
  join_is_cloned = λ m t makes.
      among m makes.good m (accounted m makes.good) t ∙ cloned-has (port_of m) t (makes-join m t makes).makeable;
  after_join = λ m t endings makes as_many. joined-steps m t endings makes;
  kill_is_cloned = λ m t makes.
      among m makes.good m (accounted m makes.good) t ∙ cloned-has (port_of m) t (makes-kill m t makes).makeable;
  after_kill = killed-steps;
}

-- a machine that is booted
start-accounted : (allot : ℕ) → allot < 2 ^ 32 → is_accounted (at_start allot) ≡ true
start-accounted allot fits =
    is-accounted (at_start allot) (record { balanced = record { kept = omega arith; fits = fits; below = tt; for_children = tt }; rising = tt })

pub booted-good : (image : Image) (disk input : List ℕ) (options : Options) → 0 < options.limit → options.allot < 2 ^ 32
    → is_good (boot image disk input options) ≡ true
unfolding boot
booted-good image disk input options some fits =
    and_from (is_accounted (at_start options.allot)) (ltb 0 options.limit) (start-accounted options.allot fits) (lt-ltb 0 options.limit some)
