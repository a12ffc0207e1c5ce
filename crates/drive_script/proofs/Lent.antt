-- A machine on lease from a world that has all other machines of a family at home.
use Rattle.std.proofs.Common.{◌≡◌, ℕ, zero, suc, ◌+◌, ◌<◌, ◌≤◌, ◌⊎◌, ◌&&◌, ◌||◌, not, Bool, true, false, refl, sym, ap, ap₂, ◌∙◌, subst, arith, inl, inr, Option, Some, None, IfSome}
use Rattle.std.proofs.Common.{MatchOption, IsSome, IsSomeAnd, is_some, option_map, option_and_then, Ok}
use Rattle.std.proofs.lemmas.Bool.{and_parts, not-true}
use Rattle.image_depot.specs.Key.{Shelves}
use Rattle.fork_port.specs.declared.commands.Call.{Call}
use Rattle.fork_port.specs.declared.ending.Ending.{Ending}
use Rattle.sibling_port.specs.declared.talk.Talk.{Talk}
use Rattle.sibling_port.specs.declared.talk.Talk.TheVariants.{Send, Receive}
use Rattle.forest_tree.specs.Tree.{Tree, node, Path, machine, subtree, at_path}
use Rattle.forest_tree.specs.Step.{has_ended, waits, step, advanced, steps}
use Rattle.forest_tree.specs.Projection.{map_tree}
use Rattle.forest_tree.proofs.Projected.{subtree-map, at_path-map}
use Rattle.forest_tree.proofs.Rests.{lives-none}
use Rattle.forest_tree.proofs.Steps.{is-some}
use Rattle.sibling_forest.specs.Talk.{boxed}
use Rattle.sibling_forest.specs.Settle.{rests_at}
use Rattle.sibling_forest.specs.Laws.{box_of}
use Rattle.talking_history.specs.Places.{Place, asleep, home, out, parked, Spot, spots, bare, may_run, placed}
use Rattle.talking_history.specs.World.{is_at_home_at, is_out_at, holds, is_at_home, is_resting, lives_at_home}
use Rattle.forest_tree.proofs.Changes.{at_path-here}
use Rattle.talking_history.specs.Rows.{How, gave, ended, forked, joined, killed, sent, received, waited, made, took, spent, may_spend, run_at, Spends, IfThere, Allows, does}
use Rattle.talking_history.proofs.Beside.{rests-parts}
use Rattle.talking_history.proofs.Ends.{bare-put, rests-bare}
use Rattle.talking_history.proofs.Turned.{ready-end, turn-home}
use Rattle.forest_model.specs.Machine.{next}
use Rattle.forest_model.specs.Forest.{machines, tree_call, tree_talk}
use Rattle.forest_model.specs.Paged.{Paged, advanced_by, paged_machines, paged_talks, stalled_at}
use Rattle.forest_model.proofs.Paged.{paged-rules, paged-talk}
use Rattle.vm_cell.specs.Keyed.{KeyedMachine, paged}
use Rattle.vm_cell.specs.Standing.{standing_by, standing_call, standing_talk, talk_by}
use Rattle.world_core.specs.declared.world.World.{World}
use Rattle.world_core.specs.declared.world.Placed.{Placed}
use Rattle.world_core.specs.declared.world.Placed.TheVariants.{Done, Parked, Dropped, Memory}
use Rattle.world_core.specs.Lent.{Lent, vm_of, now_of}
use Rattle.world_core.specs.Shows.{Member, forest, paged_of}
use Rattle.world_core.specs.World.{Forest, StandsFor}
use Rattle.world_core.specs.Answers as answers
use Rattle.world_core.specs.Answers.{Answers, Goes, IsHandedOut, IsOutAs, MayWait, MayWant, TakesNamed, home_by, said_by, stands_waiting, stands_waiting_of}
use Rattle.world_core.proofs.Steps.{advanced-is, paged-quiet, standing, talking}
use Rattle.drive_script.specs.declared.answer.Why.{Why}
use Rattle.drive_script.specs.Driven.{HasMachines}
use Rattle.drive_script.specs.Steps.{Family, after_steps, live_at, if_lives, stops, stall_told, why_at, why_of, with_machine}
use Rattle.drive_script.specs.Told.{made_at}
use Rattle.drive_script.specs.Turned.{AnswersCall, HasBack, HasRun, HasLent, IsMade, IsLiveOrLimit, MayGo, RanFrom, is_asking, standing as lent_standing}
use Rattle.drive_script.proofs.Limits.{call-limit, talk-limit}
use Rattle.drive_script.proofs.Runs.{bare-machine, bare-run, bare-turned, called-here, goes-on, more-made, ran-is, ran-machine, ran-rests, ran-stops, ran-there, run-made}

-- ---- where the machine is

pub record Found (lease : Lent) (tree : Option (Tree Member)) : Type 0 where
  pub at : Tree Member
  pub there : tree ≡ Some at
  pub ran : RanFrom lease (paged_of (machine at))
  pub lives : (paged_of (machine at)).machine.ending ≡ None

found : (lease : Lent) (tree : Option (Tree Member)) → holds (lives_at_home paged_machines paged_talks) tree ≡ true
    → IfSome tree (λ a. RanFrom lease (paged_of (machine a))) → Found lease tree
unfolding boxed spots paged_machines machines
found lease None lives begins = absurd (cc)
found lease (Some a) lives begins = record {
  at = a;
  there = refl;
  ran = begins;
  lives = lives-none (paged_of (machine a)).machine.ending
      (not-true (is_some (paged_of (machine a)).machine.ending) (and_parts (not (is_some (paged_of (machine a)).machine.ending)) _ lives).0);
}

out-as : (lease : Lent) (t : Tree Member) → RanFrom lease (paged_of (machine t)) → IsOutAs lease (placed out t)
out-as lease (node s broods log) ran = record { is_out = refl; start = ran.start; pages = ap (λ (p : Paged). p.pages) ran.now }

some-not : {A : Type 0} (o : Option A) (a : A) → o ≡ Some a → o ≡ None → ⊥
some-not o a some none = cc

pub now-machine : (p : Paged) (a : Family) → (machine (with_machine p a)).machine ≡ p
now-machine p (node b broods log) = refl

machine-out : (t : Tree Member) → paged_of (machine (placed out t)) ≡ paged_of (machine t)
machine-out (node s broods log) = refl

-- of own steps the first are own steps
may-less : (j n : ℕ) (p : Paged) → j ≤ n → may_run paged_machines paged_talks n p ≡ true → may_run paged_machines paged_talks j p ≡ true
unfolding may_run
may-less zero n p less own = refl
may-less (suc j) zero p less own = absurd (omega (arith, less))
may-less (suc j) (suc n) p less own =
    let first = and_parts (not (is_some (paged_machines.ending p)))
    (not (is_some (paged_machines.call p)) && (not (is_some (paged_talks.talk p)) && may_run paged_machines paged_talks n (paged_machines.advance p))) own in
    let then = and_parts (not (is_some (paged_machines.call p))) (not (is_some (paged_talks.talk p)) && may_run paged_machines paged_talks n (paged_machines.advance p)) first.1 in
    let last = and_parts (not (is_some (paged_talks.talk p))) (may_run paged_machines paged_talks n (paged_machines.advance p)) then.1 in
    let rest = may-less j n (paged_machines.advance p) (omega (arith, less)) last.1 in
    ap₂ (λ a b. a && (b && (not (is_some (paged_talks.talk p)) && may_run paged_machines paged_talks j (paged_machines.advance p)))) first.0 then.0
    ∙ ap₂ (λ a b. a && b) last.0 rest

-- a machine that stands at a call or a talk waits for no page
call-here : (v : KeyedMachine) (c : Call) → standing_call v ≡ Some c → stalled_at (paged v) ≡ None
unfolding standing_call
call-here v c stands = by (stalled_at (paged v)) stands
  where
    by : (page : Option ℕ) → standing_by page v.machine.ending (next v.machine) ≡ Some c → page ≡ None
    by None h = refl
    by (Some page) h = cc h

talk-here : (v : KeyedMachine) (t : Talk) → standing_talk v ≡ Some t → stalled_at (paged v) ≡ None
unfolding standing_talk
talk-here v t stands = by (stalled_at (paged v)) stands
  where
    by : (page : Option ℕ) → talk_by page v.machine.ending (next v.machine) ≡ Some t → page ≡ None
    by None h = refl
    by (Some page) h = cc h

-- its next step is the one or the other
abbrev pub IsAsking : KeyedMachine → Type 0
IsAsking v = IsSome (standing_call v) ⊎ IsSome (standing_talk v)

pub asks : (v : KeyedMachine) → is_asking v ≡ true → IsAsking v
asks v h = by (is_some (standing_call v)) refl h
  where
    by : (call : Bool) → is_some (standing_call v) ≡ call → call || is_some (standing_talk v) ≡ true → IsAsking v
    by true e h = inl e
    by false e h = inr h

-- a talk, where it is no call
pub no-call : (v : KeyedMachine) → standing_call v ≡ None → is_asking v ≡ true → IsSome (standing_talk v)
no-call v none asking = sym (ap (λ o. is_some o || is_some (standing_talk v)) none) ∙ asking

-- the answer to a talk
pub said : (depot : Shelves) (f : Forest) (lease : Lent) (r : Placed) (new : World) (o : Option Talk) → IsSome o
    → IfSome o (λ what. Answers depot f (said_by what) lease r new) → AnswersCall depot f lease r new
said depot f lease r new None some h = absurd (cc)
said depot f lease r new (Some (Send to)) some h = (sent, tt, h)
said depot f lease r new (Some (Receive from)) some h = (received, tt, h)

pub stands-here : (v : KeyedMachine) → IsAsking v → stalled_at (paged v) ≡ None
stands-here v (inl some) = let call = is-some (standing_call v) some in call-here v call.0 call.1
stands-here v (inr some) = let talk = is-some (standing_talk v) some in talk-here v talk.0 talk.1

-- and it lives
pub lent-lives : (v : KeyedMachine) → IsAsking v → v.machine.ending ≡ None
lent-lives v (inl some) = let call = is-some (standing_call v) some in (standing v call.0 call.1).0
lent-lives v (inr some) = let talk = is-some (standing_talk v) some in (talking v talk.0 talk.1).0

-- the call or the talk at which it stands, made
asked-limit : (v : KeyedMachine) (a : Family) → IsAsking v → (machine a).machine ≡ paged v → waits (boxed paged_machines paged_talks) a ≡ false
    → IsLiveOrLimit (machine (step (boxed paged_machines paged_talks) a)).machine.machine.ending
unfolding paged_machines machines
asked-limit v (node b broods log) (inl some) same ready =
    let call = is-some (standing_call v) some in
    let is = standing v call.0 call.1 in
    call-limit b broods log (tree_call call.0) (ap (λ (p : Paged). p.machine.ending) same ∙ is.0) (ap (λ p. paged_machines.call p) same ∙ is.1) ready
asked-limit v (node b broods log) (inr some) same ready =
    let talk = is-some (standing_talk v) some in
    let is = talking v talk.0 talk.1 in
    talk-limit b broods log (tree_talk talk.0) (ap (λ (p : Paged). p.machine.ending) same ∙ is.0)
    (ap (λ p. paged_machines.call p) same ∙ paged-quiet (paged v) (tree_talk talk.0) is.1) (ap (λ p. paged_talks.talk p) same ∙ is.1)

is-one : (how : How) (n : ℕ) → IsMade how → made how n ≡ n + 1
is-one gave n h = absurd h
is-one ended n h = absurd h
is-one forked n h = omega arith
is-one joined n h = omega arith
is-one killed n h = omega arith
is-one sent n h = omega arith
is-one received n h = omega arith
is-one waited n h = absurd h

-- which does not wait
goes-made : (how : How) (p : Paged) (resting : Bool) → IsMade how → may_spend paged_machines paged_talks how p resting ≡ true → resting ≡ false
goes-made gave p resting h may = absurd h
goes-made ended p resting h may = absurd h
goes-made forked p resting h may = ready-end _ resting may
goes-made joined p resting h may = ready-end _ resting may
goes-made killed p resting h may = ready-end _ resting may
goes-made sent p resting h may = ready-end _ resting may
goes-made received p resting h may = ready-end _ resting may
goes-made waited p resting h may = absurd h

-- the tree with its machine as it stands, in the forest and in the family
bare-with : (now : Paged) (t : Tree Member) → bare (answers.with_machine now t) ≡ with_machine now (bare t)
unfolding map_tree
bare-with now (node s broods log) = refl

with-lives : (now : Paged) (t : Tree Member) → has_ended forest (answers.with_machine now t) ≡ is_some now.machine.ending
unfolding boxed spots paged_machines machines
with-lives now (node s broods log) = refl

-- by itself it does not wait
goes-alone : (x y z : Bool) → (x || y) || z ≡ false → y ≡ false
goes-alone true y z h = absurd (cc)
goes-alone false true z h = absurd (cc)
goes-alone false false z h = refl

module _ (depot : Shelves) (w : World) (t : Family) (lease : Lent) (h : HasLent depot w t lease) where
  abbrev pub taken : Forest
  taken = does paged_machines paged_talks (took lease.name) h.forest

  pub at-home : Found lease (subtree lease.name h.forest.tree)
  at-home = found lease (subtree lease.name h.forest.tree) h.lives h.begins

  -- as it was taken
  abbrev pub first : Paged
  first = paged_of (machine at-home.at)

  -- its tree, of whole machines
  abbrev pub own-tree : Family
  own-tree = bare at-home.at

  pub lent-at : subtree lease.name t ≡ Some own-tree
  lent-at = ap (subtree lease.name) (sym h.same) ∙ subtree-map (box_of (λ (s : Spot Paged). s.machine)) lease.name h.forest.tree ∙ ap (option_map bare) at-home.there

  pub lent-machine : (machine own-tree).machine ≡ first
  lent-machine = bare-machine paged_machines paged_talks at-home.at

  -- where it has made no step, it stands so
  pub lent-first : lease.ran ≡ 0 → (machine own-tree).machine ≡ now_of lease
  unfolding advanced_by
  lent-first none = lent-machine ∙ sym (ap (λ k. advanced_by k first) none) ∙ at-home.ran.now

  pub lent-live : live_at paged_machines lease.name t ≡ Some own-tree
  unfolding paged_machines machines
  lent-live =
      ap (option_and_then (λ (a : Family). if_lives paged_machines (machine a).machine.machine.ending a)) lent-at
      ∙ ap (λ e. if_lives paged_machines e own-tree) (ap (λ (p : Paged). p.machine.ending) lent-machine ∙ at-home.lives)

  out-there : subtree lease.name taken.tree ≡ Some (placed out at-home.at)
  unfolding does
  out-there = at_path-here (placed out) lease.name h.forest.tree ∙ ap (option_map (placed out)) at-home.there

  pub lent-handed : IsHandedOut taken lease
  lent-handed = subst (λ o. IfSome o (IsOutAs lease)) (sym out-there) (out-as lease at-home.at at-home.ran)

  -- whether it waits as it stands, where its next step waits for no page
  stands-bare : bare (at_path (answers.with_machine (now_of lease)) lease.name taken.tree) ≡ lent_standing lease t
  unfolding does
  stands-bare =
      at_path-map (box_of (λ (s : Spot Paged). s.machine)) (answers.with_machine (now_of lease)) (with_machine (now_of lease)) (λ u. bare-with (now_of lease) u)
      lease.name taken.tree
      ∙ ap (at_path (with_machine (now_of lease)) lease.name) (bare-put paged_machines paged_talks out lease.name h.forest.tree ∙ h.same)

  stands-waits : stands_waiting lease.name (at_path (answers.with_machine (now_of lease)) lease.name taken.tree)
      ≡ not (is_some lease.now.ending) && rests_at paged_machines paged_talks lease.name (lent_standing lease t)
  stands-waits =
      ap₂ (λ lives rests. lives && rests)
      (ap (holds (λ a. not (has_ended forest a)))
      (at_path-here (answers.with_machine (now_of lease)) lease.name taken.tree ∙ ap (option_map (answers.with_machine (now_of lease))) out-there)
      ∙ ap not (with-lives (now_of lease) (placed out at-home.at)))
      (sym (rests-bare paged_machines paged_talks lease.name (at_path (answers.with_machine (now_of lease)) lease.name taken.tree))
      ∙ ap (rests_at paged_machines paged_talks lease.name) stands-bare)

  pub lent-waits : stalled_at (now_of lease) ≡ None → (waiting : Bool)
      → MatchOption (subtree lease.name taken.tree) (waiting ≡ false) (λ a. waiting ≡ stands_waiting_of (vm_of lease) lease.name taken.tree)
      → waiting ≡ not (is_some lease.now.ending) && rests_at paged_machines paged_talks lease.name (lent_standing lease t)
  lent-waits here waiting shown =
      subst (λ o. MatchOption o (waiting ≡ false) (λ a. waiting ≡ stands_waiting_of (vm_of lease) lease.name taken.tree)) out-there shown
      ∙ ap (λ o. not (is_some o) && stands_waiting lease.name (at_path (answers.with_machine (now_of lease)) lease.name taken.tree)) here
      ∙ stands-waits

  pub stands-tree : subtree lease.name (lent_standing lease t) ≡ Some (with_machine (now_of lease) own-tree)
  stands-tree = at_path-here (with_machine (now_of lease)) lease.name t ∙ ap (option_map (with_machine (now_of lease))) lent-at

  pub lent-why : why_at paged_machines paged_talks stall_told lease.name (lent_standing lease t)
      ≡ Some (why_of paged_machines paged_talks stall_told (rests_at paged_machines paged_talks lease.name (lent_standing lease t)) (now_of lease))
  lent-why =
      let so : Family → Why = λ a. why_of paged_machines paged_talks stall_told (rests_at paged_machines paged_talks lease.name (lent_standing lease t)) (machine a).machine in
      ap (option_map so) stands-tree
      ∙ ap (λ p. Some (why_of paged_machines paged_talks stall_told (rests_at paged_machines paged_talks lease.name (lent_standing lease t)) p)) (now-machine (now_of lease) own-tree)

  -- ---- own steps

  module _ (own : may_run paged_machines paged_talks lease.ran first ≡ true) where
    own-there : may_run paged_machines paged_talks lease.ran (machine own-tree).machine ≡ true
    own-there = ap (may_run paged_machines paged_talks lease.ran) lent-machine ∙ own

    begins-there : paged_machines.ending (machine own-tree).machine ≡ None
    unfolding paged_machines machines
    begins-there = ap (λ (p : Paged). p.machine.ending) lent-machine ∙ at-home.lives

    comes-to : advanced paged_machines lease.ran (machine own-tree).machine ≡ now_of lease
    comes-to = ap (advanced paged_machines lease.ran) lent-machine ∙ advanced-is lease.ran first own ∙ at-home.ran.now

    here-there : (j : ℕ) → j < lease.ran → stalled_at (advanced paged_machines j (machine own-tree).machine) ≡ None
    here-there j below =
        ap (λ p. stalled_at (advanced paged_machines j p)) lent-machine
        ∙ ap stalled_at (advanced-is j first (may-less j lease.ran first (omega (arith, below)) own)) ∙ at-home.ran.here j below

    all-made : made_at lease.ran lease.name t ≡ lease.ran
    all-made = run-made paged_machines paged_talks stalled_at lease.ran lease.name t own-tree lent-at own-there here-there

    -- they are a change at its name
    ran-changes : after_steps paged_machines paged_talks lease.ran lease.name t ≡ at_path (steps (boxed paged_machines paged_talks) lease.ran) lease.name t
    ran-changes =
        subst (λ (u : Family). after_steps paged_machines paged_talks lease.ran lease.name u ≡ at_path (steps (boxed paged_machines paged_talks) lease.ran) lease.name u) h.same
        (ran-is paged_machines paged_talks paged-rules paged-talk lease.ran lease.name h.forest.tree at-home.at h.sound at-home.there own)

    with-now : at_path (with_machine (advanced paged_machines lease.ran (machine own-tree).machine)) lease.name t ≡ lent_standing lease t
    with-now = ap (λ p. at_path (with_machine p) lease.name t) comes-to

    stops-then : stops paged_machines paged_talks stalled_at lease.name (after_steps paged_machines paged_talks lease.ran lease.name t)
        ≡ stops paged_machines paged_talks stalled_at lease.name (lent_standing lease t)
    stops-then =
        ap (stops paged_machines paged_talks stalled_at lease.name) ran-changes
        ∙ ran-stops paged_machines paged_talks stalled_at lease.ran lease.name t own-tree lent-at begins-there own-there
        ∙ ap (stops paged_machines paged_talks stalled_at lease.name) with-now

    rests-then : rests_at paged_machines paged_talks lease.name (after_steps paged_machines paged_talks lease.ran lease.name t)
        ≡ rests_at paged_machines paged_talks lease.name (lent_standing lease t)
    rests-then =
        ap (rests_at paged_machines paged_talks lease.name) ran-changes
        ∙ ran-rests paged_machines paged_talks lease.ran lease.name t own-tree lent-at begins-there own-there
        ∙ ap (rests_at paged_machines paged_talks lease.name) with-now

    ran-tree : subtree lease.name (after_steps paged_machines paged_talks lease.ran lease.name t) ≡ Some (steps (boxed paged_machines paged_talks) lease.ran own-tree)
    ran-tree = ap (subtree lease.name) ran-changes ∙ ran-there paged_machines paged_talks lease.ran lease.name t own-tree lent-at begins-there own-there

    ran-now : (machine (steps (boxed paged_machines paged_talks) lease.ran own-tree)).machine ≡ now_of lease
    ran-now = ran-machine paged_machines paged_talks lease.ran lease.name t own-tree lent-at begins-there own-there ∙ comes-to

  -- ---- what a row makes

  module _ (how : How) (new : World) (goes : Goes depot taken (spent how lease.name lease.ran) new) where
    spends : Spends paged_machines paged_talks how lease.ran (is_resting paged_machines paged_talks lease.name (run_at paged_machines paged_talks lease.name lease.ran taken.tree))
        (placed out at-home.at)
    unfolding Allows
    spends = subst (IfThere (Spends paged_machines paged_talks how lease.ran (is_resting paged_machines paged_talks lease.name (run_at paged_machines paged_talks lease.name lease.ran taken.tree))))
        out-there goes.allowed

    own : may_run paged_machines paged_talks lease.ran first ≡ true
    own = ap (may_run paged_machines paged_talks lease.ran) (sym (machine-out at-home.at)) ∙ spends.ran.own

    has-after : HasMachines depot new (after_steps paged_machines paged_talks (made how lease.ran) lease.name t)
    unfolding does
    has-after = record {
      forest = does paged_machines paged_talks (spent how lease.name lease.ran) taken;
      stands = goes.after;
      whole = turn-home paged_machines paged_talks paged-rules paged-talk how lease.name lease.ran h.forest h.sound.sound h.whole goes.allowed;
      same = bare-turned paged_machines paged_talks how lease.name lease.ran h.forest.tree
          ∙ ap (after_steps paged_machines paged_talks (made how lease.ran) lease.name) h.same;
    }

    -- it made no call and no talk
    came-back : made how lease.ran ≡ lease.ran → HasBack depot new t lease
    came-back none = record {
      made = all-made own;
      stops_so = stops-then own;
      why_so = why-then;
      has = subst (λ n. HasMachines depot new (after_steps paged_machines paged_talks n lease.name t)) none has-after;
    }
      where
        why-then : why_at paged_machines paged_talks stall_told lease.name (after_steps paged_machines paged_talks lease.ran lease.name t)
            ≡ why_at paged_machines paged_talks stall_told lease.name (lent_standing lease t)
        why-then =
            let u : Family = after_steps paged_machines paged_talks lease.ran lease.name t in
            let v : Family = lent_standing lease t in
            let so : Bool → Family → Why = λ rests a. why_of paged_machines paged_talks stall_told rests (machine a).machine in
            ap (option_map (so (rests_at paged_machines paged_talks lease.name u))) (ran-tree own)
            ∙ ap₂ (λ rests p. Some (why_of paged_machines paged_talks stall_told rests p)) (rests-then own) (ran-now own ∙ sym (now-machine (now_of lease) own-tree))
            ∙ sym (ap (option_map (so (rests_at paged_machines paged_talks lease.name v))) stands-tree)

    -- it made it
    rests-ran : is_resting paged_machines paged_talks lease.name (run_at paged_machines paged_talks lease.name lease.ran taken.tree)
        ≡ rests_at paged_machines paged_talks lease.name (after_steps paged_machines paged_talks lease.ran lease.name t)
    unfolding does
    rests-ran =
        sym (rests-bare paged_machines paged_talks lease.name (run_at paged_machines paged_talks lease.name lease.ran taken.tree))
        ∙ ap (rests_at paged_machines paged_talks lease.name)
        (bare-run paged_machines paged_talks lease.ran lease.name taken.tree
        ∙ ap (after_steps paged_machines paged_talks lease.ran lease.name) (bare-put paged_machines paged_talks out lease.name h.forest.tree ∙ h.same))

    goes-now : IsMade how → rests_at paged_machines paged_talks lease.name (after_steps paged_machines paged_talks lease.ran lease.name t) ≡ false
    goes-now is = sym rests-ran ∙ goes-made how (advanced paged_machines lease.ran (paged_of (machine (placed out at-home.at)))) _ is spends.may

    went-on : IsMade how → IsAsking (vm_of lease) → HasRun depot lease.name (lease.ran + 1) t new
    went-on is asks =
        let before : Family = after_steps paged_machines paged_talks lease.ran lease.name t in
        let then : Family = steps (boxed paged_machines paged_talks) lease.ran own-tree in
        let there : subtree lease.name (after_steps paged_machines paged_talks (lease.ran + 1) lease.name t) ≡ Some (step (boxed paged_machines paged_talks) then) =
        subst (λ (u : Family). rests_at paged_machines paged_talks lease.name (after_steps paged_machines paged_talks lease.ran lease.name u) ≡ false
        → subtree lease.name (after_steps paged_machines paged_talks (lease.ran + 1) lease.name u) ≡ Some (step (boxed paged_machines paged_talks) then)) h.same
        (called-here paged_machines paged_talks paged-rules paged-talk lease.ran lease.name h.forest.tree at-home.at h.sound at-home.there own) (goes-now is) in
        let ready : waits (boxed paged_machines paged_talks) then ≡ false =
        goes-alone _ (waits (boxed paged_machines paged_talks) then) _ (sym (rests-parts paged_machines paged_talks lease.name before then (ran-tree own)) ∙ goes-now is) in
        record {
          made = more-made paged_machines paged_talks stalled_at lease.ran lease.name t (all-made own)
              (goes-on paged_machines paged_talks stalled_at lease.name before then (ran-tree own) (goes-now is) (ap stalled_at (ran-now own) ∙ stands-here (vm_of lease) asks));
          there = subst (λ o. IsSomeAnd o (λ (a : Family). IsLiveOrLimit (machine a).machine.machine.ending)) (sym there)
              (asked-limit (vm_of lease) then asks (ran-now own) ready);
          has = subst (λ n. HasMachines depot new (after_steps paged_machines paged_talks n lease.name t)) (is-one how lease.ran is) has-after;
        }

  -- ---- the answers

  back-by : (how : How) → made how lease.ran ≡ lease.ran → (MayWant how → ⊥) → (MayWait how → ⊥) → (placed : Placed) (new : World) → Answers depot taken how lease placed new
      → HasBack depot new t lease
  unfolding Allows
  back-by how none want wait Done new goes = came-back how new goes none
  back-by how none want wait Parked new a = absurd (wait a.0)
  back-by how none want wait Dropped new goes = absurd (some-not (subtree lease.name taken.tree) (placed out at-home.at) out-there goes.allowed)
  back-by how none want wait (Memory back) new a = absurd (want a.0)

  pub given-back : (placed : Placed) (new : World) → Answers depot taken (home_by lease.now.ending) lease placed new → HasBack depot new t lease
  given-back placed new answers = by lease.now.ending answers
    where
      by : (e : Option Ending) → Answers depot taken (home_by e) lease placed new → HasBack depot new t lease
      by None a = back-by gave refl (λ x. x) (λ x. x) placed new a
      by (Some ending) a = back-by ended refl (λ x. x) (λ x. x) placed new a

  pub call-made : IsAsking (vm_of lease) → (new : World) → AnswersCall depot taken lease Done new → HasRun depot lease.name (lease.ran + 1) t new
  call-made asks new a = went-on a.0 new a.2 a.1 asks

  pub call-kept : (back : Lent) (new : World) → AnswersCall depot taken lease (Memory back) new → (back ≡ lease) × HasLent depot new t lease
  unfolding does
  call-kept back new a = (
    a.2.1,
    record { forest = h.forest; sound = h.sound; whole = h.whole; same = h.same; lives = h.lives; begins = h.begins; of_depot = h.of_depot; stands = a.2.2.after },
  )

  pub call-dropped : (new : World) → AnswersCall depot taken lease Dropped new → ⊥
  unfolding Allows
  call-dropped new a = some-not (subtree lease.name taken.tree) (placed out at-home.at) out-there a.2.allowed

  pub call-parked : (new : World) → AnswersCall depot taken lease Parked new → MayGo t lease → ⊥
  call-parked new a may =
      let waiting = (and_parts _ (is_resting paged_machines paged_talks lease.name (run_at paged_machines paged_talks lease.name lease.ran taken.tree)) (spends waited new a.2.1).may).1 in
      let no : true ≡ false = sym waiting ∙ rests-ran waited new a.2.1 ∙ rests-then (own waited new a.2.1) ∙ may in
      absurd (cc)

-- ---- a machine is taken by its name

pub begins-by : (lease : Lent) (tree : Option (Tree Member)) → lease.ran ≡ 0 → lease.now ≡ lease.start
    → IfSome tree (λ a. paged_of (machine a) ≡ now_of lease) → IfSome tree (λ a. RanFrom lease (paged_of (machine a)))
unfolding advanced_by
begins-by lease None none same is = tt
begins-by lease (Some a) none same is = record {
  start = ap (λ (p : Paged). p.machine) is ∙ same;
  now = ap (λ k. advanced_by k (paged_of (machine a))) none ∙ is;
  here = λ k below. absurd (omega (arith, none, below));
}

-- none is taken where none lives: no machine is out
not-home : (ended : Bool) (place : Place) → is_out_at place ≡ false → not ended && is_at_home_at place ≡ false → ended ≡ true
not-home true place inside h = refl
not-home false asleep inside h = absurd (cc)
not-home false home inside h = absurd (cc)
not-home false out inside h = absurd (cc)
not-home false parked inside h = absurd (cc)

none-lives : (tree : Option (Tree Member)) → holds (lives_at_home paged_machines paged_talks) tree ≡ false
    → holds (λ (a : Tree Member). is_out_at (machine a).machine.place) tree ≡ false
    → option_and_then (λ (a : Family). if_lives paged_machines (paged_machines.ending (machine a).machine) a) (option_map bare tree) ≡ None
unfolding boxed spots paged_machines machines
none-lives None away inside = refl
none-lives (Some a) away inside = by (paged_of (machine a)).machine.ending (not-home (is_some (paged_of (machine a)).machine.ending) (machine a).machine.place inside away)
    (ap (λ (p : Paged). p.machine.ending) (bare-machine paged_machines paged_talks a))
  where
    by : (e : Option Ending) → is_some e ≡ true → (machine (bare a)).machine.machine.ending ≡ e → if_lives paged_machines (machine (bare a)).machine.machine.ending (bare a) ≡ None
    by None has is = absurd (cc)
    by (Some ending) has is = ap (λ o. if_lives paged_machines o (bare a)) is

module _ (depot : Shelves) (w new : World) (t : Family) (name : Path) (h : HasMachines depot w t) where
  pub named-none : TakesNamed depot h.forest name (Ok None) new → (live_at paged_machines name t ≡ None) × HasMachines depot new t
  named-none taken_none = (
    ap (λ o. option_and_then (λ (a : Family). if_lives paged_machines (paged_machines.ending (machine a).machine) a) o)
        (ap (subtree name) (sym h.same) ∙ subtree-map (box_of (λ (s : Spot Paged). s.machine)) name h.forest.tree)
        ∙ none-lives (subtree name h.forest.tree) taken_none.0 (h.whole name),
    record { forest = h.forest; stands = taken_none.1; whole = h.whole; same = h.same },
  )

  pub named-kept : StandsFor depot new h.forest → HasMachines depot new t
  named-kept stands = record { forest = h.forest; stands = stands; whole = h.whole; same = h.same }

  pub named-lent : (lease : Lent) → TakesNamed depot h.forest name (Ok (Some lease)) new → HasLent depot new t lease
  named-lent lease taken_some = record {
    forest = h.forest;
    sound = h.stands.whole;
    whole = h.whole;
    same = h.same;
    lives = ap (λ n. is_at_home paged_machines paged_talks n h.forest.tree) taken_some.1 ∙ taken_some.0;
    begins = begins-by lease (subtree lease.name h.forest.tree) taken_some.2.ran taken_some.2.now taken_some.2.start;
    of_depot = taken_some.3;
    stands = subst (λ n. StandsFor depot new (does paged_machines paged_talks (took n) h.forest)) (sym taken_some.1) taken_some.4;
  }
