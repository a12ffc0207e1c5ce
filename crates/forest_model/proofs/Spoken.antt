-- A machine whose next step is a talk, and what it is after it.
use Rattle.std.proofs.Common.{◌≡◌, ℕ, [], ◌∷◌, Option, Some, None, refl, ap, ◌∙◌, subst}
use Rattle.sibling_port.specs.declared.talk.Talk as port
use Rattle.sibling_port.specs.declared.answers.TheConstants.{DONE, SIBLING_ENDED}
use Rattle.sibling_port.specs.Registers as sibling
use Rattle.sibling_forest.specs.Talk.{Talk}
use Rattle.rv_traps.specs.Trap.{takes_interrupt}
use Rattle.forest_model.specs.State.{State, at_next_instruction, is_timer_due}
use Rattle.forest_model.specs.Action.{Action, trap, interrupt, retire, exit, ask, speak}
use Rattle.forest_model.specs.Execute.{action}
use Rattle.forest_model.specs.Machine.{Machine, Next, exception, timer_interrupt, plain, call, talk, next_of, next, advance}
use Rattle.forest_model.specs.Calls.{fork_of}
use Rattle.forest_model.specs.Access.{page_of}
use Rattle.forest_model.specs.Footprint.{Footprint, no_change}
use Rattle.forest_model.specs.Touch.{change, footprint, footprint_from, footprint_step, touch}
use Rattle.fork_port.specs.declared.ending.Ending.{Ending}
use Rattle.forest_model.specs.Talks.{spoken, talked_by, talked, sent, received, stepped_by, stepped}
use Rattle.forest_model.specs.Forest.{port_of, talk_of, tree_talk}
use Rattle.forest_model.proofs.PortWalk.{IsSpoken, of_code, same-fork, same-sibling, sibling_of}
use Rattle.forest_model.proofs.Calls.{Leads, leads}

-- a talk that is asked for: the registers are as before, and PEER names a sibling
pub record Speaks (m : Machine) (t : port.Talk) : Type 0 where
  pub state : State
  pub is : action m.state ≡ speak t state
  pub same : fork_of state ≡ port_of m
  pub alike : sibling_of state ≡ sibling_of m.state
  pub names : IsSpoken (port_of m) (sibling_of m.state) t
  pub next_one : state ≡ at_next_instruction m.state
  pub asks : footprint_step (takes_interrupt m.state.csrs (is_timer_due m.state)) m.state ≡ of_code m.state

speaks-by : (m : Machine) (t : port.Talk) (s : State) → action m.state ≡ speak t s → Speaks m t
speaks-by m t s e =
    let h = subst (Leads m) e (leads m) in
    record {
      state = s;
      is = e;
      same = same-fork h;
      alike = same-sibling h;
      names = h.possible.0;
      next_one = h.same;
      asks = h.possible.1;
    }

speaks-from : (m : Machine) (t : port.Talk) (a : Action) → action m.state ≡ a → next_of a ≡ talk t → Speaks m t
speaks-from m t (speak u s) e is = let same : u ≡ t = cc in subst (Speaks m) same (speaks-by m u s e)
speaks-from m t (trap cause value) e is = absurd (cc)
speaks-from m t interrupt e is = absurd (cc)
speaks-from m t (retire written s) e is = absurd (cc)
speaks-from m t (exit value bytes s) e is = absurd (cc)
speaks-from m t (ask c s) e is = absurd (cc)

speaks-next : (m : Machine) (t : port.Talk) → next m ≡ talk t → Speaks m t
speaks-next m t is = speaks-from m t (action m.state) refl is

pub talk-named : (m : Machine) (t : port.Talk) → next m ≡ talk t → IsSpoken (port_of m) (sibling_of m.state) t
talk-named m t is = (speaks-next m t is).names

-- a machine that comes to this talk
pub record ComesTo (m : Machine) (what : Talk) : Type 0 where
  pub said : port.Talk
  pub speaks : Speaks m said
  pub same : tree_talk said ≡ what

talks-by : (m : Machine) (what : Talk) (a : Action) → action m.state ≡ a → talk_of (next_of a) ≡ Some what → ComesTo m what
talks-by m what (speak t s) e is = record { said = t; speaks = speaks-by m t s e; same = (cc) }
talks-by m what (trap cause value) e is = absurd (cc)
talks-by m what interrupt e is = absurd (cc)
talks-by m what (retire written s) e is = absurd (cc)
talks-by m what (exit value bytes s) e is = absurd (cc)
talks-by m what (ask c s) e is = absurd (cc)

pub talks-at : (m : Machine) (what : Talk) → talk_of (next m) ≡ Some what → ComesTo m what
talks-at m what is = talks-by m what (action m.state) refl is

pub talked-is : (m : Machine) (t : port.Talk) (word : Option ℕ) (answer : ℕ) (a : Speaks m t)
    → talked m word answer ≡ spoken a.state (sibling.talked word answer (sibling_of a.state)) m
unfolding talked
talked-is m t word answer a = ap (λ b. talked_by b m word answer) a.is

-- it is a step to the next instruction
pub talked-next : (m : Machine) (t : port.Talk) (word : Option ℕ) (answer : ℕ) → next m ≡ talk t
    → talked m word answer ≡ spoken (at_next_instruction m.state) (sibling.talked word answer (sibling_of m.state)) m
talked-next m t word answer is =
    let a = speaks-next m t is in
    talked-is m t word answer a ∙ ap (λ (s : State). spoken s (sibling.talked word answer (sibling_of s)) m) a.next_one

-- the pages that it asks for
pub talk-touches : (m : Machine) (t : port.Talk) → m.ending ≡ None → next m ≡ talk t → touch m ≡ page_of m.state.pc ∷ []
unfolding footprint
talk-touches m t lives is =
    ap (λ ending. (footprint_from ending m.state).needs) lives ∙ ap (λ (f : Footprint). f.needs) (speaks-next m t is).asks

change-from : (ending : Option Ending) (m : Machine) (t : port.Talk) → Speaks m t → (footprint_from ending m.state).changes ≡ no_change
change-from None m t a = ap (λ (f : Footprint). f.changes) a.asks
change-from (Some ending) m t a = refl

pub talk-changes : (m : Machine) (t : port.Talk) → next m ≡ talk t → change m ≡ no_change
unfolding footprint
talk-changes m t is = change-from m.ending m t (speaks-next m t is)

-- the answer of a receive
abbrev pub answer_of : Option ℕ → ℕ
answer_of None = SIBLING_ENDED
answer_of (Some word) = DONE

pub received-talked : (m : Machine) (word : Option ℕ) → received m word ≡ talked m word (answer_of word)
received-talked m None = refl
received-talked m (Some word) = refl

-- a step that is no talk is the machine's own, and one that is a talk is as of a send
stepped-by-own : (n : Next) (m : Machine) → talk_of n ≡ None → stepped_by n m ≡ advance m
stepped-by-own (exception cause value) m silent = refl
stepped-by-own timer_interrupt m silent = refl
stepped-by-own plain m silent = refl
stepped-by-own (call c) m silent = refl
stepped-by-own (talk t) m silent = absurd (cc)

pub stepped-own : (m : Machine) → talk_of (next m) ≡ None → stepped m ≡ advance m
unfolding stepped
stepped-own m silent = stepped-by-own (next m) m silent

pub stepped-talk : (m : Machine) (t : port.Talk) → Speaks m t → stepped m ≡ sent m
unfolding stepped
stepped-talk m t a = ap (λ b. stepped_by (next_of b) m) a.is

-- the step is one or the other
pub data Kind (m : Machine) : Type 0 where
  own : talk_of (next m) ≡ None → Kind m
  says : (t : port.Talk) → Speaks m t → Kind m

kind-by : (m : Machine) (said : Option Talk) → talk_of (next m) ≡ said → Kind m
kind-by m None is = own is
kind-by m (Some what) is = let a = talks-at m what is in says a.said a.speaks

pub kind-of : (m : Machine) → Kind m
kind-of m = kind-by m (talk_of (next m)) refl
