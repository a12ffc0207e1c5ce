-- What a machine is after a talk with a sibling.
use Rattle.std.specs.Prelude.{ℕ, true, Option, Some, None}
use Rattle.sibling_port.specs.declared.answers.TheConstants.{DONE, SIBLING_ENDED}
use Rattle.sibling_port.specs.Registers.{SiblingRegisters}
use Rattle.sibling_port.specs.Registers as sibling
use Rattle.forest_model.specs.declared.Written.TheVariants.{Nothing}
use Rattle.forest_model.specs.State.{State}
use Rattle.forest_model.specs.Action.{Action, speak}
use Rattle.forest_model.specs.Memory.{with_sibling}
use Rattle.forest_model.specs.Execute.{action}
use Rattle.forest_model.specs.Machine.{Machine, Next, talk, next, limited, count, advance}

-- the talk's instruction retires with these registers of the sibling port, and the step is counted
abbrev pub spoken : State → SiblingRegisters → Machine → Machine
spoken s port m = limited (count true Nothing (with_sibling port s)) m

-- after the talk that the next step is: it brought this word, if any, and has this answer
abbrev pub talked_by : Action → Machine → Option ℕ → ℕ → Machine
talked_by (speak t s) m word answer = spoken s (sibling.talked word answer s.ports.sibling) m
talked_by _ m word answer = m

unfoldable pub talked : Machine → Option ℕ → ℕ → Machine
talked m word answer = talked_by (action m.state) m word answer

-- after a send, whatever becomes of the word
abbrev pub sent : Machine → Machine
sent m = talked m None DONE

-- after a receive, of a word, or of none where no word is left and the sibling has ended
abbrev pub received : Machine → Option ℕ → Machine
received m None = talked m None SIBLING_ENDED
received m (Some word) = talked m (Some word) DONE

-- after a step of its own, or a send
abbrev pub stepped_by : Next → Machine → Machine
stepped_by (talk t) m = sent m
stepped_by _ m = advance m

unfoldable pub stepped : Machine → Machine
stepped m = stepped_by (next m) m
