-- What the lines of a script make of a forest of whole machines, and what they answer.
use Rattle.std.specs.Prelude.{ℕ, zero, suc, ◌/◌, ◌%◌, ◌<◌, List, [], ◌∷◌, ◌++◌, codes, replicate, slice_get, slice_index}
use Rattle.std.specs.Prelude.{Option, Some, None, option_and_then}
use Rattle.std.specs.Fmt.{decimal}
use Rattle.std.specs.List.{flat_map}
use Rattle.cow_disk.specs.declared.arrived.Arrived.{Arrived}
use Rattle.cow_disk.specs.declared.arrived.Arrived.TheVariants.{Got, Had}
use Rattle.forest_tree.specs.Tree.{Tree, machine, Path}
use Rattle.forest_tree.specs.Projection.{map_tree}
use Rattle.sibling_forest.specs.Talk.{Box}
use Rattle.sibling_forest.specs.Laws.{box_of}
use Rattle.forest_model.specs.Machine.{Machine}
use Rattle.forest_model.specs.Paged.{Paged, paged_machines, paged_talks, stalled_at}
use Rattle.run_report.specs.Lines.{ending_text}
use Rattle.machine_names.specs.Name.{name_text}
use Rattle.vm_cell.specs.Shown.{peeked, shown_registers}
use Rattle.drive_script.specs.Script.{ScriptLine, step, ask, push, give, peek, regs}
use Rattle.drive_script.specs.declared.answer.Answer.{Answer}
use Rattle.drive_script.specs.declared.answer.Answer.TheVariants.{NoMachine, Ran, Ask, Push, Give, Word, Registers}
use Rattle.drive_script.specs.declared.answer.SentPlace.{SentPlace}
use Rattle.drive_script.specs.declared.answer.Why.{Why}
use Rattle.drive_script.specs.declared.answer.Why.TheVariants.{Ended, Stalls, Waits, Sends, Receives, MayGoOn}
use Rattle.drive_script.specs.Replies.{Siblings, Replies, siblings_of, none_sent, reply_to, with_reply, place_of, page_at, arrived_by, with_arrival}
use Rattle.drive_script.specs.Steps.{Family, steps_made, after_steps, why_at, live_at, number_in, place_in, stall_told}

abbrev pub name_in : ScriptLine → Path
name_in (step path most) = path
name_in (ask path) = path
name_in (push path page) = path
name_in (give path place) = path
name_in (peek path address) = path
name_in (regs path) = path

-- ---- the forest

-- what a script has come to: the forest, with what is known of the pages of each machine and the words to it, and the
-- replies that were sent
pub record Driven : Type 0 where
  pub tree : Family
  pub sent : Replies

-- before its first line
abbrev pub begun : Family → Driven
begun t = record { tree = t; sent = none_sent }

-- the machines with every page
abbrev pub whole : Family → Tree (Box Machine)
whole t = map_tree (box_of (λ (p : Paged). p.machine)) t

abbrev pub made_at : ℕ → Path → Family → ℕ
made_at most path t = steps_made paged_machines paged_talks stalled_at most path t

-- the steps that a line makes. Only `step` makes some
abbrev pub steps_of : ScriptLine → Family → List Path
steps_of (step path most) t = replicate (made_at most path t) path
steps_of (ask path) t = []
steps_of (push path page) t = []
steps_of (give path place) t = []
steps_of (peek path address) t = []
steps_of (regs path) t = []

-- the page that `ask` sends: the one that the machine waits for
abbrev pub asked_of : Family → Option ℕ
asked_of a = stalled_at (machine a).machine

-- and the one that `push` sends, which is any that the machine has, by its number
abbrev pub pushed_of : ℕ → Family → Option ℕ
pushed_of number a = place_in (machine a).machine number

-- the replies that these lines send, where a live machine has the name
abbrev pub asked : Path → Driven → Option (Siblings × ℕ)
asked path s = reply_to (siblings_of path) (option_and_then asked_of (live_at paged_machines path s.tree))

abbrev pub pushed : Path → ℕ → Driven → Option (Siblings × ℕ)
pushed path page s = reply_to (siblings_of path) (option_and_then (pushed_of page) (live_at paged_machines path s.tree))

-- what comes of a page that was sent, where it comes to a live machine
abbrev pub arrived_at : Option ℕ → Option Family → Option Arrived
arrived_at None a = None
arrived_at (Some page) None = None
arrived_at (Some page) (Some a) = arrived_by (slice_get (machine a).machine.pages.here page) page

-- `give`: the reply at a place of those that were sent to the machine and its siblings arrives
abbrev pub given : Path → ℕ → Driven → Option Arrived
given path place s = arrived_at (page_at (siblings_of path) place s.sent) (live_at paged_machines path s.tree)

-- what the script comes to by a line
abbrev pub after_line : ScriptLine → Driven → Driven
after_line (step path most) s = record s { tree = after_steps paged_machines paged_talks (made_at most path s.tree) path s.tree }
after_line (ask path) s = record s { sent = with_reply (asked path s) s.sent }
after_line (push path page) s = record s { sent = with_reply (pushed path page s) s.sent }
after_line (give path place) s = record s { tree = with_arrival path (given path place s) s.tree }
after_line (peek path address) s = s
after_line (regs path) s = s

-- the same after a script
unfoldable pub after_script : List ScriptLine → Driven → Driven
after_script [] s = s
after_script (line ∷ rest) s = after_script rest (after_line line s)

unfoldable pub steps_of_script : List ScriptLine → Driven → List Path
steps_of_script [] s = []
steps_of_script (line ∷ rest) s = steps_of line s.tree ++ steps_of_script rest (after_line line s)

-- ---- the answers

-- the page of what came is below an end
abbrev pub IsBelow : ℕ → Arrived → Type 0
IsBelow end (Got page) = page < end
IsBelow end (Had page) = page < end

-- a reply that was sent, and what came of one, by the number of its page
abbrev pub sent_told : Paged → Option SentPlace → Option SentPlace
sent_told p None = None
sent_told p (Some sent) = Some (record { page = number_in p sent.page; place = sent.place })

abbrev pub arrival_told : Paged → Option Arrived → Option Arrived
arrival_told p None = None
arrival_told p (Some (Got place)) = Some (Got (number_in p place))
arrival_told p (Some (Had place)) = Some (Had (number_in p place))

-- the answer of `step`, by why the machine stopped
abbrev pub ran_by : ℕ → Option Why → Answer
ran_by steps None = NoMachine
ran_by steps (Some why) = Ran steps why

-- the same after so many steps
abbrev pub ran : Path → ℕ → Family → Answer
ran path steps t = ran_by steps (why_at paged_machines paged_talks stall_told path (after_steps paged_machines paged_talks steps path t))

-- the answer of a line, by the tree of the live machine that it names
abbrev pub answer_of : ScriptLine → Driven → Family → Answer
answer_of (step path most) s a = ran path (made_at most path s.tree) s.tree
answer_of (ask path) s a = Ask (sent_told (machine a).machine (place_of (reply_to (siblings_of path) (asked_of a)) s.sent))
answer_of (push path page) s a = Push (sent_told (machine a).machine (place_of (reply_to (siblings_of path) (pushed_of page a)) s.sent))
answer_of (give path place) s a = Give (arrival_told (machine a).machine (arrived_at (page_at (siblings_of path) place s.sent) (Some a)))
answer_of (peek path address) s a = Word (peeked (machine a).machine.machine.state address)
answer_of (regs path) s a = Registers (shown_registers (machine a).machine.machine.state)

-- where none lives
abbrev pub unanswered : ScriptLine → Answer
unanswered (step path most) = NoMachine
unanswered (ask path) = Ask None
unanswered (push path page) = Push None
unanswered (give path place) = Give None
unanswered (peek path address) = NoMachine
unanswered (regs path) = NoMachine

abbrev pub answer_by : ScriptLine → Driven → Option Family → Answer
answer_by line s None = unanswered line
answer_by line s (Some a) = answer_of line s a

-- the answer of a line
abbrev pub answer : ScriptLine → Driven → Answer
answer line s = answer_by line s (live_at paged_machines (name_in line) s.tree)

-- the answers of a script, line by line, each with the machine that it is of
unfoldable pub told : List ScriptLine → Driven → List (Path × Answer)
told [] s = []
told (line ∷ rest) s = (name_in line, answer line s) ∷ told rest (after_line line s)

-- ---- the text

-- so many hexadecimal digits of a number, in lower case
unfoldable pub hexadecimal : ℕ → ℕ → List ℕ
hexadecimal zero n = []
hexadecimal (suc digits) n = hexadecimal digits (n / 16) ++ slice_index (codes "0123456789abcdef") (n % 16) ∷ []

-- the eight digits of a word
abbrev pub word_text : ℕ → List ℕ
word_text n = hexadecimal 8 n

abbrev pub why_text : Why → List ℕ
why_text (Ended ending) = ending_text ending
why_text (Stalls page) = codes "stall " ++ decimal page
why_text (Waits ticket) = codes "wait " ++ decimal ticket
why_text (Sends to) = codes "send " ++ decimal to
why_text (Receives from) = codes "receive " ++ decimal from
why_text MayGoOn = codes "ok"

abbrev pub sent_text : SentPlace → List ℕ
sent_text s = decimal s.page ++ (codes " " ++ decimal s.place)

-- a page and its place, if a reply was sent
abbrev pub sent_or_none : Option SentPlace → List ℕ
sent_or_none None = codes "none"
sent_or_none (Some s) = sent_text s

abbrev pub arrived_text : Option Arrived → List ℕ
arrived_text None = codes "give none"
arrived_text (Some (Got page)) = codes "got " ++ decimal page
arrived_text (Some (Had page)) = codes "had " ++ decimal page

abbrev pub value_text : Option ℕ → List ℕ
value_text None = codes "none"
value_text (Some n) = word_text n

abbrev pub register_text : ℕ → List ℕ
register_text n = codes " " ++ word_text n

unfoldable pub answer_text : Answer → List ℕ
answer_text NoMachine = codes "none"
answer_text (Ran steps why) = codes "ran " ++ (decimal steps ++ (codes " " ++ why_text why))
answer_text (Ask sent) = codes "ask " ++ sent_or_none sent
answer_text (Push sent) = codes "push " ++ sent_or_none sent
answer_text (Give arrived) = arrived_text arrived
answer_text (Word value) = codes "word " ++ value_text value
answer_text (Registers values) = codes "regs" ++ flat_map register_text values

-- what is written of an answer
abbrev pub told_line : Path × Answer → List ℕ
told_line (path, answer) = name_text path ++ (codes " " ++ (answer_text answer ++ codes "\n"))

-- what a script writes of a forest
unfoldable pub told_text : List ScriptLine → Family → List ℕ
told_text lines t = flat_map told_line (told lines (begun t))
