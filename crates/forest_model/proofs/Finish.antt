-- A machine that is run by its own steps: ended machines stay, steps add up, and none goes past its limit.
use Rattle.std.proofs.Common.{◌≡◌, ◌≢◌, ℕ, zero, suc, ◌+◌, ◌-◌, ◌<◌, ◌≤◌, Bool, true, false, eqb, Option, Some, None}
use Rattle.std.proofs.Common.{IsSome, refl, sym, ap, ◌∙◌, subst, arith, suc-add, zero-add, List, cond, inl, inr, ◌⊎◌}
use Rattle.std.proofs.lemmas.Bool.Decides.{leb_tells}
use Rattle.fork_port.specs.declared.ending.Ending.{Ending}
use Rattle.fork_port.specs.declared.ending.Ending.TheVariants.{Exit, Limit}
use Rattle.fork_port.specs.Handed.{handed_of}
use Rattle.forest_model.specs.declared.Written.TheVariants.{Nothing}
use Rattle.rv_traps.specs.declared.csrs.TheConstants.{TIMER_INTERRUPT}
use Rattle.rv_traps.specs.Trap.{takes_interrupt}
use Rattle.forest_model.specs.State.{State, is_timer_due}
use Rattle.forest_model.specs.Action.{Action, trap, interrupt, retire, exit, ask, speak}
use Rattle.forest_model.specs.Execute.{action, action_by}
use Rattle.forest_model.specs.Machine.{Machine, IsWithinLimit, exception, timer_interrupt, next_of, next, limited, count, trapped, advance, advance_from, applied, after_steps}
use Rattle.forest_model.specs.Forest.{call_of, talk_of}

-- an ended machine stays as it is
pub advance-ended : (m : Machine) (e : Ending) → m.ending ≡ Some e → advance m ≡ m
unfolding advance
advance-ended m e h = ap (λ ending. advance_from ending m) h

-- a live machine makes its action
pub advance-live : (m : Machine) → m.ending ≡ None → advance m ≡ applied (action m.state) m
unfolding advance
advance-live m h = ap (λ ending. advance_from ending m) h

pub after_steps-ended : (n : ℕ) (m : Machine) (e : Ending) → m.ending ≡ Some e → after_steps n m ≡ m
unfolding after_steps
after_steps-ended zero m e h = refl
after_steps-ended (suc n) m e h = ap (after_steps n) (advance-ended m e h) ∙ after_steps-ended n m e h

pub after_steps-suc : (n : ℕ) (m : Machine) → after_steps (suc n) m ≡ advance (after_steps n m)
unfolding after_steps
after_steps-suc zero m = refl
after_steps-suc (suc n) m = after_steps-suc n (advance m)

pub after_steps-add : (a b : ℕ) (m : Machine) → after_steps (a + b) m ≡ after_steps b (after_steps a m)
unfolding after_steps
after_steps-add zero b m = ap (λ n. after_steps n m) (zero-add b)
after_steps-add (suc a) b m = ap (λ n. after_steps n m) (suc-add a b) ∙ after_steps-add a b (advance m)

-- the limit stays
limit-applied : (a : Action) (m : Machine) → (applied a m).limit ≡ m.limit
limit-applied (trap cause value) m = refl
limit-applied interrupt m = refl
limit-applied (retire written s) m = refl
limit-applied (exit value bytes s) m = refl
limit-applied (ask c s) m = refl
limit-applied (speak t s) m = refl

limit-advance_from : (e : Option Ending) (m : Machine) → (advance_from e m).limit ≡ m.limit
limit-advance_from None m = limit-applied (action m.state) m
limit-advance_from (Some e) m = refl

pub limit-advance : (m : Machine) → (advance m).limit ≡ m.limit
unfolding advance
limit-advance m = limit-advance_from m.ending m

pub limit-after_steps : (n : ℕ) (m : Machine) → (after_steps n m).limit ≡ m.limit
unfolding after_steps
limit-after_steps zero m = refl
limit-after_steps (suc n) m = limit-after_steps n (advance m) ∙ limit-advance m

-- each step of a live machine is counted, but for a call and a talk
steps-applied : (a : Action) (m : Machine) → call_of (next_of a) ≡ None → talk_of (next_of a) ≡ None → (applied a m).steps ≡ m.steps + 1
steps-applied (trap cause value) m own silent = refl
steps-applied interrupt m own silent = refl
steps-applied (retire written s) m own silent = refl
steps-applied (exit value bytes s) m own silent = refl
steps-applied (ask c s) m own silent = absurd (cc)
steps-applied (speak t s) m own silent = absurd (cc)

pub steps-advance : (m : Machine) → m.ending ≡ None → call_of (next m) ≡ None → talk_of (next m) ≡ None → (advance m).steps ≡ m.steps + 1
steps-advance m h own silent = ap (λ (n : Machine). n.steps) (advance-live m h) ∙ steps-applied (action m.state) m own silent

-- a machine whose next step is a call waits
waits-applied : (a : Action) (m : Machine) → IsSome (call_of (next_of a)) → applied a m ≡ m
waits-applied (trap cause value) m is = absurd (cc)
waits-applied interrupt m is = absurd (cc)
waits-applied (retire written s) m is = absurd (cc)
waits-applied (exit value bytes s) m is = absurd (cc)
waits-applied (ask c s) m is = refl
waits-applied (speak t s) m is = refl

waits-advance_from : (e : Option Ending) (m : Machine) → IsSome (call_of (next m)) → advance_from e m ≡ m
waits-advance_from None m is = waits-applied (action m.state) m is
waits-advance_from (Some e) m is = refl

pub waits-advance : (m : Machine) → IsSome (call_of (next m)) → advance m ≡ m
unfolding advance
waits-advance m is = waits-advance_from m.ending m is

-- and so does one whose next step is a talk
talks-applied : (a : Action) (m : Machine) → IsSome (talk_of (next_of a)) → applied a m ≡ m
talks-applied (trap cause value) m is = absurd (cc)
talks-applied interrupt m is = absurd (cc)
talks-applied (retire written s) m is = absurd (cc)
talks-applied (exit value bytes s) m is = absurd (cc)
talks-applied (ask c s) m is = refl
talks-applied (speak t s) m is = refl

talks-advance_from : (e : Option Ending) (m : Machine) → IsSome (talk_of (next m)) → advance_from e m ≡ m
talks-advance_from None m is = talks-applied (action m.state) m is
talks-advance_from (Some e) m is = refl

pub talks-advance : (m : Machine) → IsSome (talk_of (next m)) → advance m ≡ m
unfolding advance
talks-advance m is = talks-advance_from m.ending m is

-- a step that is an exception is a trap
applied-exception : (a : Action) (m : Machine) (cause value : ℕ) → next_of a ≡ exception cause value
    → applied a m ≡ limited (count false Nothing (trapped cause value m.state)) m
applied-exception (trap cause value) m c v h =
    let same_cause : cause ≡ c = cc in
    let same_value : value ≡ v = cc in
    ap (λ k. applied (trap k value) m) same_cause ∙ ap (λ k. applied (trap c k) m) same_value
applied-exception interrupt m c v h = absurd (cc)
applied-exception (retire written s) m c v h = absurd (cc)
applied-exception (exit value bytes s) m c v h = absurd (cc)
applied-exception (ask k s) m c v h = absurd (cc)
applied-exception (speak t s) m c v h = absurd (cc)

pub advance-exception : (m : Machine) (cause value : ℕ) → m.ending ≡ None → next m ≡ exception cause value
    → advance m ≡ limited (count false Nothing (trapped cause value m.state)) m
advance-exception m cause value live h = advance-live m live ∙ applied-exception (action m.state) m cause value h

-- an interrupt that is enabled and due is the coming step
action-interrupt : (s : State) → takes_interrupt s.csrs (is_timer_due s) ≡ true → action s ≡ interrupt
unfolding action
action-interrupt s h = ap (λ taken. action_by taken s) h

pub next-interrupt : (m : Machine) → takes_interrupt m.state.csrs (is_timer_due m.state) ≡ true → next m ≡ timer_interrupt
next-interrupt m h = ap next_of (action-interrupt m.state h)

pub advance-interrupt : (m : Machine) → m.ending ≡ None → takes_interrupt m.state.csrs (is_timer_due m.state) ≡ true
    → advance m ≡ limited (count false Nothing (trapped TIMER_INTERRUPT 0 m.state)) m
advance-interrupt m live h = advance-live m live ∙ ap (λ a. applied a m) (action-interrupt m.state h)

-- a machine that lives after a step is below its limit
below-limited : (reached : Bool) (steps limit : ℕ) → eqb steps limit ≡ reached → steps ≤ limit → cond reached (Some Limit) None ≡ None → steps < limit
below-limited true steps limit e h live = cc
below-limited false steps limit e h live = grind arith

below-made : (m : Machine) → m.steps < m.limit → cond (eqb (m.steps + 1) m.limit) (Some Limit) None ≡ None → m.steps + 1 < m.limit
below-made m h live = below-limited (eqb (m.steps + 1) m.limit) (m.steps + 1) m.limit refl (omega arith) live

within-applied : (a : Action) (m : Machine) → m.steps < m.limit → IsWithinLimit (applied a m)
within-applied (trap cause value) m h live = below-made m h live
within-applied interrupt m h live = below-made m h live
within-applied (retire written s) m h live = below-made m h live
within-applied (exit value bytes s) m h live = cc
within-applied (ask c s) m h live = h
within-applied (speak t s) m h live = h

-- EXIT ends a machine, and else its limit does
exit-applied : (a : Action) (m : Machine) (value : ℕ) (bytes : List ℕ) (s : State) → a ≡ exit value bytes s → (applied a m).ending ≡ Some (Exit value (handed_of bytes))
exit-applied a m value bytes s e = ap (λ k. (applied k m).ending) e

pub exit-advance : (m : Machine) (value : ℕ) (bytes : List ℕ) (s : State) → m.ending ≡ None → action m.state ≡ exit value bytes s
    → (advance m).ending ≡ Some (Exit value (handed_of bytes))
exit-advance m value bytes s live e = ap (λ (n : Machine). n.ending) (advance-live m live) ∙ exit-applied (action m.state) m value bytes s e

limit-reached : (a : Action) (m : Machine) → call_of (next_of a) ≡ None → talk_of (next_of a) ≡ None → ((value : ℕ) (bytes : List ℕ) (s : State) → a ≢ exit value bytes s)
    → (applied a m).ending ≡ cond (eqb (m.steps + 1) m.limit) (Some Limit) None
limit-reached (trap cause value) m own silent other = refl
limit-reached interrupt m own silent other = refl
limit-reached (retire written s) m own silent other = refl
limit-reached (exit value bytes s) m own silent other = absurd (other value bytes s refl)
limit-reached (ask c s) m own silent other = absurd (cc)
limit-reached (speak t s) m own silent other = absurd (cc)

pub limit-ends : (m : Machine) → m.ending ≡ None → call_of (next m) ≡ None → talk_of (next m) ≡ None → ((value : ℕ) (bytes : List ℕ) (s : State) → action m.state ≢ exit value bytes s)
    → (advance m).ending ≡ cond (eqb (m.steps + 1) m.limit) (Some Limit) None
limit-ends m live own silent other = ap (λ (n : Machine). n.ending) (advance-live m live) ∙ limit-reached (action m.state) m own silent other

-- a machine has ended, or it lives
pub cases-ending : (e : Option Ending) → ((ending : Ending) × (e ≡ Some ending)) ⊎ (e ≡ None)
cases-ending None = inr refl
cases-ending (Some ending) = inl (ending, refl)

pub IsWithinLimit-advance : (m : Machine) → IsWithinLimit m → IsWithinLimit (advance m)
IsWithinLimit-advance m h = elim (cases-ending m.ending) [
  | inl ended ↦ subst IsWithinLimit (sym (advance-ended m ended.0 ended.1)) h
  | inr live ↦ subst IsWithinLimit (sym (advance-live m live)) (within-applied (action m.state) m (h live))
]

pub IsSome-ended : (e : Option Ending) → IsSome e → (ending : Ending) × (e ≡ Some ending)
IsSome-ended None h = absurd (cc)
IsSome-ended (Some ending) h = (ending, refl)

pub advance-IsSome : (m : Machine) → IsSome m.ending → advance m ≡ m
advance-IsSome m h = let e = IsSome-ended m.ending h in advance-ended m e.0 e.1

-- a machine that has ended is the same after more steps
after_steps-longer : (a b : ℕ) (m : Machine) → a ≤ b → IsSome (after_steps a m).ending → after_steps b m ≡ after_steps a m
after_steps-longer a b m longer h =
    let e = IsSome-ended (after_steps a m).ending h in
    let left : b ≡ a + (b - a) = omega arith in
    ap (λ k. after_steps k m) left ∙ after_steps-add a (b - a) m ∙ after_steps-ended (b - a) (after_steps a m) e.0 e.1

-- however many steps are made, a machine ends the same
pub after_steps-agree : (a b : ℕ) (m : Machine) → IsSome (after_steps a m).ending → IsSome (after_steps b m).ending → after_steps a m ≡ after_steps b m
after_steps-agree a b m one other = elim (leb_tells a b) [
  | inl shorter ↦ sym (after_steps-longer a b m shorter.1 one)
  | inr longer ↦ let within : b ≤ a = omega (arith, longer.1) in after_steps-longer b a m within other
]
