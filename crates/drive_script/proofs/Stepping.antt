-- The turns of one line of steps, one after another.
use Rattle.std.proofs.Common.{◌≡◌, ◌≢◌, ℕ, ◌+◌, ◌-◌, ◌<◌, ◌≤◌, ◌⊎◌, inl, inr, refl, sym, ap, ◌∙◌, subst, arith, add-zero, ◌++◌, replicate, Option}
use Rattle.std.proofs.Common.{Bool, Some, None, IsSomeAnd, option_and_then, option_map, Result, Ok, Err}
use Rattle.std.specs.declared.alloc.AllocError.{AllocError}
use Rattle.std.proofs.lemmas.List.{replicate-append-replicate}
use Rattle.image_depot.specs.Key.{Shelves}
use Rattle.fork_port.specs.declared.ending.Ending.{Ending}
use Rattle.fork_port.specs.declared.ending.Ending.TheVariants.{Exit, Limit}
use Rattle.forest_tree.specs.Tree.{Path, machine, subtree}
use Rattle.forest_tree.proofs.Steps.{is-some}
use Rattle.forest_model.specs.Forest.{machines}
use Rattle.forest_model.specs.Paged.{Paged, paged_machines, paged_talks, stalled_at}
use Rattle.world_core.specs.declared.world.World.{World}
use Rattle.world_core.proofs.Returns.{there-is}
use Rattle.drive_script.specs.declared.answer.Answer.TheVariants.{NoMachine, Ran}
use Rattle.drive_script.specs.declared.answer.Why.{Why}
use Rattle.drive_script.specs.declared.answer.Why.TheVariants.{Ended}
use Rattle.drive_script.specs.declared.turn.TurnOutcome.{TurnOutcome}
use Rattle.drive_script.specs.declared.turn.TurnOutcome.TheVariants as turn
use Rattle.drive_script.specs.Driven.{HasMachines, HasMade, DrivesLine}
use Rattle.drive_script.specs.Script.{step}
use Rattle.drive_script.specs.Steps.{Family, after_steps, if_lives, live_at, stall_told, awaited, joined_ticket, why_at, why_by, why_of}
use Rattle.drive_script.specs.Told.{Driven, made_at, answer, answer_by, ran, ran_by}
use Rattle.drive_script.specs.Turned.{HasRun, HasStopped, IsLiveOrLimit, Lives, EndsTurn}
use Rattle.drive_script.proofs.Driving.{made-behind}
use Rattle.sibling_forest.specs.Settle.{rests_at}
use Rattle.drive_script.proofs.Steps.{after-both, after-none, made-all, made-at-most, made-none, made-zero, nobody-stops}

-- so many steps were made, and none before the first turn
abbrev pub Stepping : Shelves → Path → Family → ℕ → World → Type 0
Stepping depot name t made w = ((made ≡ 0) × HasMachines depot w t) ⊎ (Lives name t × HasRun depot name made t w)

-- a machine that has ended stops for that
why-over : (rests : Bool) (p : Paged) (ending : Ending) → paged_machines.ending p ≡ Some ending → why_of paged_machines paged_talks stall_told rests p ≡ Ended ending
why-over rests p ending over = ap (λ e. why_by e (stall_told p) rests (awaited (paged_talks.talk p) (joined_ticket (paged_machines.call p)))) over

module _ (depot : Shelves) (name : Path) (s : Driven) (made : ℕ) (w : World) (h : Stepping depot name s.tree made w) where
  abbrev t : Family
  t = s.tree

  -- where the steps lead
  abbrev pub after-made : Family
  after-made = after_steps paged_machines paged_talks made name t

  nothing-yet : made ≡ 0 → after-made ≡ t
  nothing-yet none = ap (λ n. after_steps paged_machines paged_talks n name t) none ∙ after-none paged_machines paged_talks name t

  pub stepping-has : HasMachines depot w after-made
  stepping-has = by h
    where
      by : Stepping depot name t made w → HasMachines depot w after-made
      by (inl first) = subst (HasMachines depot w) (sym (nothing-yet first.0)) first.1
      by (inr run) = run.1.has

  stepping-made : made_at made name t ≡ made
  stepping-made = by h
    where
      by : Stepping depot name t made w → made_at made name t ≡ made
      by (inl first) = ap (λ n. made_at n name t) first.0 ∙ made-zero paged_machines paged_talks stalled_at name t ∙ sym first.0
      by (inr run) = run.1.made

  stepping-lives : Lives name after-made → Lives name t
  stepping-lives lives = by h
    where
      by : Stepping depot name t made w → Lives name t
      by (inl first) = subst (Lives name) (nothing-yet first.0) lives
      by (inr run) = run.0

  after-more : (steps : ℕ) → after_steps paged_machines paged_talks (made + steps) name t ≡ after_steps paged_machines paged_talks steps name after-made
  after-more steps = after-both paged_machines paged_talks made steps name t

  -- ---- the next turn

  module _ (most : ℕ) (within : made ≤ most) (new : World) where
    -- what is known of its answer
    abbrev pub TurnsNext : Result TurnOutcome AllocError → Type 0
    TurnsNext r = (u : Family) → HasMachines depot w u → EndsTurn depot name (most - made) u r new

    all-made : made_at most name t ≡ made + made_at (most - made) name after-made
    all-made = made-all paged_machines paged_talks stalled_at made most name t within stepping-made

    answer-made : (steps : ℕ) (reason : Why) → Lives name t → made_at most name t ≡ steps
        → why_at paged_machines paged_talks stall_told name (after_steps paged_machines paged_talks steps name t) ≡ Some reason → answer (step name most) s ≡ Ran steps reason
    answer-made steps reason lives is there =
        ap (answer_by (step name most) s) (is-some (live_at paged_machines name t) lives).1
        ∙ ap (λ n. ran name n t) is ∙ ap (ran_by steps) there

    -- memory was wanting
    pub stepping-failed : (e f : AllocError) → TurnsNext (Err e) → DrivesLine depot (step name most) s (Err f) new
    stepping-failed e f turns =
        let next = turns after-made stepping-has in
        let all : replicate made name ++ replicate (made_at (most - made) name after-made) name ≡ replicate (made_at most name t) name =
        replicate-append-replicate made (made_at (most - made) name after-made) name ∙ ap (λ n. replicate n name) (sym all-made) in
        inl (subst (λ steps. HasMade depot steps t new) all (made-behind depot new (replicate made name) (replicate (made_at (most - made) name after-made) name) t next))

    module _ (r : TurnOutcome) (turns : TurnsNext (Ok r)) where
      turned : (s : TurnOutcome) → r ≡ s → EndsTurn depot name (most - made) after-made (Ok s) new
      turned s is = subst (λ (x : TurnOutcome). EndsTurn depot name (most - made) after-made (Ok x) new) is (turns after-made stepping-has)

      -- a call was made
      pub called-within : (steps : ℕ) → r ≡ turn.Called steps → (0 < steps) × (made + steps ≤ most)
      called-within steps is =
          let called = turned (turn.Called steps) is in
          let some = called.1 in
          let few = called.2 in
          (some, omega (arith, few))

      pub stepping-called : (steps : ℕ) → r ≡ turn.Called steps → Stepping depot name t (made + steps) new
      stepping-called steps is =
          let called = turned (turn.Called steps) is in
          let run : HasRun depot name steps after-made new = called.3 in
          let left : made + steps - made ≡ steps = omega arith in
          let all = made-all paged_machines paged_talks stalled_at made (made + steps) name t (omega arith) stepping-made in
          inr (
            stepping-lives called.0,
            record {
              made = all ∙ ap (λ n. made + made_at n name after-made) left ∙ ap (λ n. made + n) run.made;
              there = subst (λ (u : Family). IsSomeAnd (subtree name u) (λ a. IsLiveOrLimit (machine a).machine.machine.ending)) (sym (after-more steps)) run.there;
              has = subst (HasMachines depot new) (sym (after-more steps)) run.has;
            },
          )

      -- it stopped
      pub stopped-within : (steps : ℕ) (reason : Why) → r ≡ turn.Stopped steps reason → made + steps ≤ most
      stopped-within steps reason is =
          let stopped : HasStopped depot name (most - made) after-made steps reason new = (turned (turn.Stopped steps reason) is).1 in
          let count = stopped.made in
          let few = made-at-most paged_machines paged_talks stalled_at (most - made) name after-made in
          omega (arith, count, few)

      pub stepping-stopped : (steps : ℕ) (reason : Why) → r ≡ turn.Stopped steps reason → DrivesLine depot (step name most) s (Ok (Ran (made + steps) reason)) new
      stepping-stopped steps reason is =
          let last = turned (turn.Stopped steps reason) is in
          let stopped : HasStopped depot name (most - made) after-made steps reason new = last.1 in
          let count : made_at most name t ≡ made + steps = all-made ∙ ap (λ n. made + n) stopped.made in (
            sym (answer-made (made + steps) reason (stepping-lives last.0) count
                (ap (why_at paged_machines paged_talks stall_told name) (after-more steps) ∙ stopped.there)),
            subst (HasMachines depot new) (sym (ap (λ n. after_steps paged_machines paged_talks n name t) count ∙ after-more steps)) stopped.has,
          )

      -- no live machine has the name
      no-more : live_at paged_machines name after-made ≡ None → made_at most name t ≡ made
      no-more none = all-made ∙ ap (λ n. made + n) (made-none paged_machines paged_talks stalled_at (most - made) name after-made
          (nobody-stops paged_machines paged_talks stalled_at name after-made none)) ∙ add-zero made

      -- before the first step
      pub stepping-none : r ≡ turn.NoMachine → made ≡ 0 → DrivesLine depot (step name most) s (Ok NoMachine) new
      stepping-none is first =
          let last = turned turn.NoMachine is in (
            sym (ap (answer_by (step name most) s) (ap (live_at paged_machines name) (sym (nothing-yet first)) ∙ last.0)),
            subst (HasMachines depot new) (ap (λ n. after_steps paged_machines paged_talks n name t) (sym (no-more last.0))) last.1,
          )

      -- after a call
      limit-by : (e : Option Ending) (a : Family) → if_lives paged_machines e a ≡ None → IsLiveOrLimit e → e ≡ Some Limit
      limit-by None a none live = absurd (cc)
      limit-by (Some (Exit value handed)) a none live = absurd live
      limit-by (Some Limit) a none live = refl

      pub stepping-limit : r ≡ turn.NoMachine → made ≢ 0 → DrivesLine depot (step name most) s (Ok (Ran made (Ended Limit))) new
      unfolding paged_machines machines
      stepping-limit is some = by h (turned turn.NoMachine is)
        where
          by : Stepping depot name t made w → EndsTurn depot name (most - made) after-made (Ok turn.NoMachine) new
              → DrivesLine depot (step name most) s (Ok (Ran made (Ended Limit))) new
          by (inl first) last = absurd (some first.0)
          by (inr run) last =
              let at = there-is (subtree name after-made) (λ (a : Family). IsLiveOrLimit (machine a).machine.machine.ending) run.1.there in
              let none : if_lives paged_machines (paged_machines.ending (machine at.0).machine) at.0 ≡ None =
              sym (ap (option_and_then (λ (a : Family). if_lives paged_machines (paged_machines.ending (machine a).machine) a)) at.1) ∙ last.0 in
              let rests : Bool = rests_at paged_machines paged_talks name after-made in
              let over : why_at paged_machines paged_talks stall_told name after-made ≡ Some (Ended Limit) =
              ap (option_map (λ (a : Family). why_of paged_machines paged_talks stall_told rests (machine a).machine)) at.1
              ∙ ap Some (why-over rests (machine at.0).machine Limit (limit-by (paged_machines.ending (machine at.0).machine) at.0 none at.2)) in (
                sym (answer-made made (Ended Limit) run.0 (no-more last.0) over),
                subst (HasMachines depot new) (ap (λ n. after_steps paged_machines paged_talks n name t) (sym (no-more last.0))) last.1,
              )
