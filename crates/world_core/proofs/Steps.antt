-- The steps of a machine on lease, in the forest.
use Rattle.std.proofs.Common.{◌≡◌, ℕ, zero, suc, ◌+◌, ◌≤◌, ◌⊎◌, ◌&&◌, not, Bool, true, false, Option, Some, None, IsSome, is_some, refl, sym, ap, ap₂, ◌∙◌, subst, arith, inl, inr, []}
use Rattle.std.specs.BTreeMap.{get}
use Rattle.std.specs.Ordering.{nat_cmp}
use Rattle.std.proofs.lemmas.Bool.{and_parts, not-true}
use Rattle.image_depot.specs.Key.{Shelves}
use Rattle.sibling_port.specs.declared.talk.Talk.{Talk}
use Rattle.fork_port.specs.declared.commands.Call.{Call}
use Rattle.fork_port.specs.declared.ending.Ending.{Ending}
use Rattle.forest_tree.specs.Operations as tree
use Rattle.forest_tree.specs.Operations.{Operations, is_cloned, IsMachine, Makes, IsStep}
use Rattle.forest_tree.specs.Tree.{Tree, node, Trees, Broods, Log, brood_of, machine, Path}
use Rattle.forest_tree.specs.Step.{settled, advanced, steps}
use Rattle.forest_tree.proofs.Rests.{lives-none}
use Rattle.sibling_forest.specs.Talk as siblings
use Rattle.sibling_forest.specs.Talk.{Inbox, after, boxed}
use Rattle.talking_history.specs.Places.{out, parked, Spot, spots, may_run, placed, spot_talks}
use Rattle.talking_history.proofs.Spots.{machine-boxes}
use Rattle.talking_history.proofs.Changes.{steps-own}
use Rattle.talking_history.proofs.Turned.{may_run-spots}
use Rattle.forest_model.specs.Machine.{Machine, Next, exception, timer_interrupt, plain, call, talk, next, advance, after_steps}
use Rattle.forest_model.specs.Touch.{change}
use Rattle.forest_model.specs.Paged.{stalled_at, Paged, Pages, pages_after, advanced_by, paged_machines, paged_talks}
use Rattle.forest_model.specs.Paged as pages
use Rattle.forest_model.specs.Forest.{call_of, machines, talk_of, talks, tree_call, tree_talk}
use Rattle.forest_model.proofs.Finish.{cases-ending, advance-ended, steps-advance, talks-advance, waits-advance}
use Rattle.forest_model.proofs.Paged.{paged-rules, paged-talk, machine-advanced_by}
use Rattle.forest_model.proofs.Spoken.{stepped-own}
use Rattle.vm_cell.specs.Keyed.{KeyedMachine, paged}
use Rattle.vm_cell.specs.Standing.{standing_by, standing_from, standing_call, standing_talk, talk_by, talk_from}
use Rattle.world_core.specs.declared.cell.Brood.{Brood}
use Rattle.world_core.specs.declared.cell.Cell.{Cell}
use Rattle.world_core.specs.Lent.{Lent, IsLent, now_of}
use Rattle.world_core.specs.Answers.{IsOutAs}
use Rattle.world_core.specs.Shows.{Member, paged_of, next_talk, forest, BroodAt, TallyAt, Tallies, Holds}

-- a step of a machine's own
abbrev advanced-pages : Paged → Paged
advanced-pages p = pages.advanced p

-- a value is there, or not
cases-some : {A : Type 0} (x : Option A) → IsSome x ⊎ (x ≡ None)
cases-some None = inr refl
cases-some (Some a) = inl refl

-- the next step is the machine's own
pub record IsOwn (m : Machine) : Type 0 where
  pub lives : m.ending ≡ None
  pub call : call_of (next m) ≡ None
  pub silent : talk_of (next m) ≡ None

-- a step is counted where it is the machine's own, and else changes nothing
step-or-stays : (m : Machine) → IsOwn m ⊎ (advance m ≡ m)
step-or-stays m = elim (cases-ending m.ending) [
  | inl ended ↦ inr (advance-ended m ended.0 ended.1)
  | inr lives ↦ elim (cases-some (call_of (next m))) [
    | inl calls ↦ inr (waits-advance m calls)
    | inr own ↦ elim (cases-some (talk_of (next m))) [
      | inl talks ↦ inr (talks-advance m talks)
      | inr silent ↦ inl (record { lives = lives; call = own; silent = silent })
    ]
  ]
]

steps-most : (k : ℕ) (m : Machine) → (after_steps k m).steps ≤ m.steps + k
unfolding after_steps
steps-most zero m = omega arith
steps-most (suc k) m =
    let later : (after_steps k (advance m)).steps ≤ (advance m).steps + k = steps-most k (advance m) in
    elim (step-or-stays m) [
      | inl own ↦ let counted : (advance m).steps ≡ m.steps + 1 = steps-advance m own.lives own.call own.silent in omega arith
      | inr stays ↦ let same : (advance m).steps ≡ m.steps = ap (λ (n : Machine). n.steps) stays in omega arith
    ]

-- a step of the machine's own, with what is known of its pages
own-advance : (p : Paged) → talk_of (next p.machine) ≡ None → paged_machines.advance p ≡ advanced-pages p
unfolding paged_machines machines
own-advance p silent = ap (λ (m : Machine). record { machine = m; pages = pages_after (change p.machine) p.pages }) (stepped-own p.machine silent)

-- where each of some steps was counted, each was the machine's own
pub own-run : (k : ℕ) (p : Paged) → (after_steps k p.machine).steps ≡ p.machine.steps + k → may_run paged_machines paged_talks k p ≡ true
unfolding after_steps may_run paged_machines paged_talks machines talks
own-run zero p counted = refl
own-run (suc k) p counted =
    let m = p.machine in
    let later : (after_steps k (advance m)).steps ≤ (advance m).steps + k = steps-most k (advance m) in
    elim (step-or-stays m) [
      | inl own ↦
          let one : (advance m).steps ≡ m.steps + 1 = steps-advance m own.lives own.call own.silent in
          let rest : may_run paged_machines paged_talks k (advanced-pages p) ≡ true = own-run k (advanced-pages p) (omega arith) in
          ap₂ (λ ending c. not (is_some ending) && (not (is_some c)
          && (not (is_some (talk_of (next m))) && may_run paged_machines paged_talks k (paged_machines.advance p)))) own.lives own.call
          ∙ ap₂ (λ what q. not (is_some what) && may_run paged_machines paged_talks k q) own.silent (own-advance p own.silent)
          ∙ rest
      | inr stays ↦ let same : (advance m).steps ≡ m.steps = ap (λ (n : Machine). n.steps) stays in absurd (omega arith)
    ]

-- the first of its own steps
first-own : (k : ℕ) (p : Paged) → may_run paged_machines paged_talks (suc k) p ≡ true
    → (talk_of (next p.machine) ≡ None) × (may_run paged_machines paged_talks k (paged_machines.advance p) ≡ true)
unfolding may_run paged_machines paged_talks machines talks
first-own k p own =
    let m = p.machine in
    let first = and_parts (not (is_some m.ending)) (not (is_some (call_of (next m)))
    && (not (is_some (talk_of (next m))) && may_run paged_machines paged_talks k (paged_machines.advance p))) own in
    let then = and_parts (not (is_some (call_of (next m))))
    (not (is_some (talk_of (next m))) && may_run paged_machines paged_talks k (paged_machines.advance p)) first.1 in
    let last = and_parts (not (is_some (talk_of (next m)))) (may_run paged_machines paged_talks k (paged_machines.advance p)) then.1 in
    (lives-none (talk_of (next m)) (not-true (is_some (talk_of (next m))) last.0), last.1)

pub advanced-is : (k : ℕ) (p : Paged) → may_run paged_machines paged_talks k p ≡ true → advanced paged_machines k p ≡ advanced_by k p
unfolding advanced_by advanced
advanced-is zero p own = refl
advanced-is (suc k) p own =
    let first = first-own k p own in
    let one : paged_machines.advance p ≡ advanced-pages p = own-advance p first.0 in
    ap (advanced paged_machines k) one
    ∙ advanced-is k (advanced-pages p) (ap (may_run paged_machines paged_talks k) (sym one) ∙ first.1)

pub forest-rules : IsMachine forest
forest-rules = machine-boxes paged_machines paged_talks paged-rules paged-talk

-- the same tickets are cloned, and were granted the same
pub record SameTickets (m n : Member) : Type 0 where
  pub good : forest.is_good n ≡ true
  pub cloned : (t : ℕ) → is_cloned forest n t ≡ is_cloned forest m t
  pub grants : (t : ℕ) → is_cloned forest n t ≡ true → forest.grant n t ≡ forest.grant m t

record SamePaged (m n : Paged) : Type 0 where
  good : paged_machines.is_good n ≡ true
  cloned : (t : ℕ) → is_cloned paged_machines n t ≡ is_cloned paged_machines m t
  grants : (t : ℕ) → is_cloned paged_machines n t ≡ true → paged_machines.grant n t ≡ paged_machines.grant m t

run-same : (k : ℕ) (p : Paged) → paged_machines.is_good p ≡ true → may_run paged_machines paged_talks k p ≡ true
    → SamePaged p (advanced paged_machines k p)
unfolding may_run advanced
run-same zero p good own = record { good = good; cloned = λ t. refl; grants = λ t is. refl }
run-same (suc k) p good own =
    let q : Paged = paged_machines.advance p in
    let first = and_parts (not (is_some (paged_machines.ending p))) (not (is_some (paged_machines.call p))
    && (not (is_some (paged_talks.talk p)) && may_run paged_machines paged_talks k q)) own in
    let then = and_parts (not (is_some (paged_machines.call p))) (not (is_some (paged_talks.talk p)) && may_run paged_machines paged_talks k q) first.1 in
    let last = and_parts (not (is_some (paged_talks.talk p))) (may_run paged_machines paged_talks k q) then.1 in
    let makes : Makes paged_machines p None = record {
      good = good;
      lives = lives-none (paged_machines.ending p) (not-true (is_some (paged_machines.ending p)) first.0);
      call = lives-none (paged_machines.call p) (not-true (is_some (paged_machines.call p)) then.0);
    } in
    let step : IsStep paged_machines p q (is_cloned paged_machines p) = paged-rules.advance p makes in
    let later : SamePaged q (advanced paged_machines k q) = run-same k q step.good last.1 in
    record {
      good = later.good;
      cloned = λ t. later.cloned t ∙ step.tickets t;
      grants = λ t is. later.grants t is ∙ step.grants t (sym (later.cloned t) ∙ is);
    }

same-members : (m n : Member) → SamePaged (paged_of m) (paged_of n) → SameTickets m n
unfolding boxed spots
same-members m n same = record { good = same.good; cloned = same.cloned; grants = same.grants }

pub SameTickets-back : (m n : Member) → forest.is_good m ≡ true → SameTickets m n → SameTickets n m
SameTickets-back m n good same = record {
  good = good;
  cloned = λ t. sym (same.cloned t);
  grants = λ t is. sym (same.grants t (same.cloned t ∙ is));
}

-- what a cell holds is of the tickets alone
tally-same : (path : Path) (count after : ℕ) (b : Option Brood) (is then : Bool) → then ≡ is → (then ≡ true → after ≡ count) → TallyAt path count b is → TallyAt path after b then
tally-same path count after None false then e same h = subst (TallyAt path after None) (sym e) tt
tally-same path count after None true then e same h = absurd h
tally-same path count after (Some b) false then e same h = absurd h
tally-same path count after (Some b) true then e same h =
    subst (TallyAt path after (Some b)) (sym e) (record { name = h.name; size = h.size ∙ sym (same e); few = h.few })

brood-same : (depot : Shelves) (path : Path) (ticket : ℕ) (b : Option Brood) (is then : Bool) (trees : Trees Member) → then ≡ is
    → BroodAt depot path ticket b is trees → BroodAt depot path ticket b then trees
brood-same depot path ticket b is then trees e h = subst (λ c. BroodAt depot path ticket b c trees) (sym e) h

pub Tallies-same : (path : Path) (c : Cell) (m n : Member) (broods after : Broods Member) (log : Log Member) → SameTickets m n
    → Tallies path c (node m broods log) → Tallies path c (node n after log)
Tallies-same path c m n broods after log same h = record {
  log = h.log;
  room = h.room;
  broods = λ t.
      tally-same path (forest.grant m t).children (forest.grant n t).children (get nat_cmp c.broods t) (is_cloned forest m t) (is_cloned forest n t)
      (same.cloned t) (λ is. ap (λ g. g.children) (same.grants t is)) (h.broods t);
}

pub Holds-same : (depot : Shelves) (path : Path) (c : Cell) (m n : Member) (broods : Broods Member) (log : Log Member) → SameTickets m n
    → Holds depot path c (node m broods log) → Holds depot path c (node n broods log)
Holds-same depot path c m n broods log same h = record {
  tallies = Tallies-same path c m n broods broods log same h.tallies;
  broods = λ t. brood-same depot path t (get nat_cmp c.broods t) (is_cloned forest m t) (is_cloned forest n t) (brood_of t broods) (same.cloned t) (h.broods t);
}

module _ {M E : Type 0} (o : Operations M E) where
  advanced-spots : (k : ℕ) (s : Spot M) → advanced (spots o) k s ≡ record s { machine = advanced o k s.machine }
  unfolding advanced spots
  advanced-spots zero s = refl
  advanced-spots (suc k) s = advanced-spots k (record s { machine = o.advance s.machine })

-- the machine was this one when it was taken, and has made these steps, all of them its own
pub record HasRun (start : Paged) (ran : ℕ) (now : Paged) : Type 0 where
  pub after : advanced_by ran start ≡ now
  pub each_made : now.machine.steps ≡ start.machine.steps + ran

pub Paged-same : (p q : Paged) → p.machine ≡ q.machine → p.pages ≡ q.pages → p ≡ q
Paged-same p q machine pages = ap₂ (λ (m : Machine) (known : Pages). record { machine = m; pages = known }) machine pages

-- so has that of a lease
pub has-run : (lease : Lent) (t : Tree Member) → IsLent lease.start lease.ran lease.now → IsOutAs lease t
    → HasRun (paged_of (machine t)) lease.ran (now_of lease)
has-run lease t lent is = record {
  after =
      Paged-same (advanced_by lease.ran (paged_of (machine t))) (now_of lease)
      (machine-advanced_by lease.ran (paged_of (machine t)) ∙ ap (after_steps lease.ran) is.start ∙ sym lent.after) is.pages;
  each_made = lent.each_made ∙ ap (λ (m : Machine). m.steps + lease.ran) (sym is.start);
}

-- a machine on lease, with the words to it
abbrev pub lent_out : Inbox → Paged → Member
lent_out inbox m = record { machine = record { machine = m; place = out }; inbox = inbox }

-- the same where it may have ended: it has no words then
abbrev pub came_out : Inbox → Paged → Member
came_out inbox m = after (spots paged_machines) (spot_talks paged_talks) (record { machine = m; place = out }) inbox

-- a machine that was out makes the steps of a lease
module _ (start now : Paged) (ran : ℕ) (inbox : Inbox) (lent : HasRun start ran now) where
  pub lease-runs : may_run paged_machines paged_talks ran start ≡ true
  lease-runs = own-run ran start (ap (λ (m : Machine). m.steps) (sym (machine-advanced_by ran start) ∙ ap (λ (p : Paged). p.machine) lent.after) ∙ lent.each_made)

  pub lease-comes : advanced paged_machines ran start ≡ now
  lease-comes = advanced-is ran start lease-runs ∙ lent.after

  pub lease-same : forest.is_good (lent_out inbox start) ≡ true → SameTickets (lent_out inbox start) (came_out inbox now)
  unfolding boxed spots
  lease-same good =
      same-members (lent_out inbox start) (came_out inbox now) (subst (SamePaged start) lease-comes (run-same ran start good lease-runs))

  lease-comes-out : advanced (spots paged_machines) ran (record { machine = start; place = out }) ≡ record { machine = now; place = out }
  lease-comes-out =
      advanced-spots paged_machines ran (record { machine = start; place = out }) ∙ ap (λ (p : Paged). record { machine = p; place = out }) lease-comes

  pub lease-steps : (broods : Broods Member) (log : Log Member) → forest.ending (lent_out inbox start) ≡ None
      → steps forest ran (node (lent_out inbox start) broods log) ≡ settled forest (came_out inbox now) broods log
  unfolding boxed
  lease-steps broods log lives =
      steps-own (spots paged_machines) (spot_talks paged_talks) ran (lent_out inbox start) broods log lives
      (may_run-spots paged_machines paged_talks ran (record { machine = start; place = out }) ∙ lease-runs)
      ∙ ap (λ (s : Spot Paged). settled forest (after (spots paged_machines) (spot_talks paged_talks) s inbox) broods log) lease-comes-out

-- the call that a machine stands at
stands-from : (ending : Option Ending) (step : Next) (c : Call) → standing_from ending step ≡ Some c → (ending ≡ None) × (call_of step ≡ Some (tree_call c))
stands-from None (exception cause value) c e = absurd (cc)
stands-from None timer_interrupt c e = absurd (cc)
stands-from None plain c e = absurd (cc)
stands-from None (talk t) c e = absurd (cc)
stands-from None (call d) c e = let same : d ≡ c = cc in (refl, ap (λ k. Some (tree_call k)) same)
stands-from (Some ending) step c e = absurd (cc)

stands-by : (waited : Option ℕ) (ending : Option Ending) (step : Next) (c : Call) → standing_by waited ending step ≡ Some c
    → (ending ≡ None) × (call_of step ≡ Some (tree_call c))
stands-by None ending step c e = stands-from ending step c e
stands-by (Some page) ending step c e = absurd (cc)

pub standing : (v : KeyedMachine) (c : Call) → standing_call v ≡ Some c → (v.machine.ending ≡ None) × (paged_machines.call (paged v) ≡ Some (tree_call c))
unfolding standing_call paged_machines machines
standing v c e = stands-by (stalled_at (paged v)) v.machine.ending (next v.machine) c e

-- the talk that a machine stands at
talks-from : (ending : Option Ending) (step : Next) (t : Talk) → talk_from ending step ≡ Some t → (ending ≡ None) × (talk_of step ≡ Some (tree_talk t))
talks-from None (exception cause value) t e = absurd (cc)
talks-from None timer_interrupt t e = absurd (cc)
talks-from None plain t e = absurd (cc)
talks-from None (call c) t e = absurd (cc)
talks-from None (talk u) t e = let same : u ≡ t = cc in (refl, ap (λ k. Some (tree_talk k)) same)
talks-from (Some ending) step t e = absurd (cc)

talks-by : (waited : Option ℕ) (ending : Option Ending) (step : Next) (t : Talk) → talk_by waited ending step ≡ Some t
    → (ending ≡ None) × (talk_of step ≡ Some (tree_talk t))
talks-by None ending step t e = talks-from ending step t e
talks-by (Some page) ending step t e = absurd (cc)

pub talking : (v : KeyedMachine) (t : Talk) → standing_talk v ≡ Some t → (v.machine.ending ≡ None) × (paged_talks.talk (paged v) ≡ Some (tree_talk t))
unfolding standing_talk paged_talks talks
talking v t e = talks-by (stalled_at (paged v)) v.machine.ending (next v.machine) t e

-- a step that is a call is no talk
quiet-call : (step : Next) (c : tree.Call) → call_of step ≡ Some c → talk_of step ≡ None
quiet-call (exception cause value) c e = refl
quiet-call timer_interrupt c e = refl
quiet-call plain c e = refl
quiet-call (call d) c e = refl
quiet-call (talk t) c e = absurd (cc)

pub call-quiet : (p : Paged) (c : tree.Call) → paged_machines.call p ≡ Some c → paged_talks.talk p ≡ None
unfolding paged_machines machines paged_talks talks
call-quiet p c e = quiet-call (next p.machine) c e

quiet-talk : (step : Next) (what : siblings.Talk) → talk_of step ≡ Some what → call_of step ≡ None
quiet-talk (exception cause value) what e = refl
quiet-talk timer_interrupt what e = refl
quiet-talk plain what e = refl
quiet-talk (call c) what e = absurd (cc)
quiet-talk (talk t) what e = refl

pub talk-quiet : (b : Member) (what : siblings.Talk) → next_talk b ≡ Some what → forest.call b ≡ None
unfolding boxed spots spot_talks paged_machines machines paged_talks talks
talk-quiet b what e = quiet-talk (next (paged_of b).machine) what e

-- a machine that stands at a call is to make no talk, wherever it is put
pub parked-quiet : (u : Tree Member) (next : tree.Call) → forest.call (machine u) ≡ Some next → next_talk (machine (placed parked u)) ≡ None
unfolding boxed spots spot_talks
parked-quiet (node s broods log) what at = call-quiet (paged_of s) what at

-- one that is to talk stands at no call
pub paged-quiet : (p : Paged) (what : siblings.Talk) → paged_talks.talk p ≡ Some what → paged_machines.call p ≡ None
unfolding paged_machines machines paged_talks talks
paged-quiet p what e = quiet-talk (next p.machine) what e

-- ---- the number of a machine, which its steps leave

run-numbers : (k : ℕ) (p : Paged) → siblings.HasNumberOf paged_machines paged_talks p (advanced paged_machines k p)
unfolding advanced
run-numbers zero p = record { number = refl; siblings = refl }
run-numbers (suc k) p =
    let one = paged-talk.advance_numbers p in
    let rest = run-numbers k (paged_machines.advance p) in
    record { number = rest.number ∙ one.number; siblings = rest.siblings ∙ one.siblings }

pub lease-numbers : (start now : Paged) (ran : ℕ) → HasRun start ran now → siblings.HasNumberOf paged_machines paged_talks start now
lease-numbers start now ran has =
    subst (siblings.HasNumberOf paged_machines paged_talks start) (lease-comes start now ran [] has) (run-numbers ran start)
