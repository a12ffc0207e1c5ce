-- A machine after a call or a talk: it lives, or has ended by its limit.
use Rattle.std.proofs.Common.{◌≡◌, ◌∙◌, ℕ, Bool, true, false, cond, sym, ap, subst, List, [], ◌∷◌, Option, Some, None}
use Rattle.fork_port.specs.declared.commands.Call.TheVariants.{Clone, Join, Kill}
use Rattle.fork_port.specs.declared.ending.Ending.{Ending}
use Rattle.fork_port.specs.declared.ending.Ending.TheVariants.{Limit}
use Rattle.sibling_port.specs.declared.answers.TheConstants.{DONE, SIBLING_ENDED}
use Rattle.forest_tree.specs.Operations.{Call, clone, join, kill}
use Rattle.forest_tree.specs.Tree.{node, Broods, Log, brood, joined, killed, machine, brood_of, without}
use Rattle.forest_tree.specs.Step.{children, endings, settled, waits, step}
use Rattle.forest_tree.proofs.Calls.{step-clone, step-join, step-own}
use Rattle.forest_tree.proofs.Steps.{step-lives}
use Rattle.forest_tree.proofs.Sound.{machine-settled}
use Rattle.sibling_forest.specs.Talk.{Talk, send, receive, Box, advance_by, after_receive, boxed, queue}
use Rattle.forest_model.specs.Action.{Action, ask, speak}
use Rattle.forest_model.specs.Execute.{action}
use Rattle.forest_model.specs.Calls.{forked_by, forked, joined_by, after_join, killed_by, after_kill}
use Rattle.forest_model.specs.Machine.{Machine, next}
use Rattle.forest_model.specs.Forest.{machines, talk_of, talks}
use Rattle.forest_model.specs.Talks.{talked, talked_by, received, stepped}
use Rattle.forest_model.specs.Paged.{Paged, paged_machines, paged_talks}
use Rattle.forest_model.proofs.Spoken.{stepped-talk, talks-at}
use Rattle.drive_script.specs.Steps.{Family}
use Rattle.drive_script.specs.Turned.{IsLiveOrLimit}

at-limit : (b : Bool) → IsLiveOrLimit (cond b (Some Limit) None)
at-limit true = tt
at-limit false = tt

lives-on : (e : Option Ending) → e ≡ None → IsLiveOrLimit e
lives-on None lives = tt
lives-on (Some ending) lives = absurd (cc)

forked-limit : (a : Action) (m : Machine) → m.ending ≡ None → IsLiveOrLimit (forked_by a m).ending
forked-limit (ask (Clone t) s) m lives = at-limit _
forked-limit _ m lives = lives-on m.ending lives

joined-limit : (a : Action) (m : Machine) (values : List Ending) → m.ending ≡ None → IsLiveOrLimit (joined_by a m values).ending
joined-limit (ask (Join t) s) m values lives = at-limit _
joined-limit _ m values lives = lives-on m.ending lives

killed-limit : (a : Action) (m : Machine) → m.ending ≡ None → IsLiveOrLimit (killed_by a m).ending
killed-limit (ask (Kill t) s) m lives = at-limit _
killed-limit _ m lives = lives-on m.ending lives

talked-limit : (a : Action) (m : Machine) (word : Option ℕ) (answer : ℕ) → m.ending ≡ None → IsLiveOrLimit (talked_by a m word answer).ending
talked-limit (speak t s) m word answer lives = at-limit _
talked-limit _ m word answer lives = lives-on m.ending lives

settled-limit : (t : Family) (b : Box Paged) (broods : Broods (Box Paged)) (log : Log (Box Paged)) → t ≡ settled (boxed paged_machines paged_talks) b broods log
    → IsLiveOrLimit b.machine.machine.ending → IsLiveOrLimit (machine t).machine.machine.ending
settled-limit t b broods log is h =
    subst (λ (c : Box Paged). IsLiveOrLimit c.machine.machine.ending) (sym (ap machine is ∙ machine-settled (boxed paged_machines paged_talks) b broods log)) h

pub call-limit : (b : Box Paged) (broods : Broods (Box Paged)) (log : Log (Box Paged)) (c : Call) → paged_machines.ending b.machine ≡ None → paged_machines.call b.machine ≡ Some c
    → waits (boxed paged_machines paged_talks) (node b broods log) ≡ false
    → IsLiveOrLimit (machine (step (boxed paged_machines paged_talks) (node b broods log))).machine.machine.ending
unfolding boxed paged_machines machines forked after_join after_kill
call-limit b broods log (clone t) lives call ready =
    settled-limit (step (boxed paged_machines paged_talks) (node b broods log)) ((boxed paged_machines paged_talks).forked b) (brood t (children (boxed paged_machines paged_talks) b t) broods) log
    (step-clone (boxed paged_machines paged_talks) b broods log t lives call) (forked-limit (action b.machine.machine.state) b.machine.machine lives)
call-limit b broods log (join t) lives call ready =
    settled-limit (step (boxed paged_machines paged_talks) (node b broods log))
    ((boxed paged_machines paged_talks).after_join b (endings (boxed paged_machines paged_talks) (brood_of t broods))) (without t broods) (joined log t (brood_of t broods))
    (step-join (boxed paged_machines paged_talks) b broods log t lives call ready)
    (joined-limit (action b.machine.machine.state) b.machine.machine (endings (boxed paged_machines paged_talks) (brood_of t broods)) lives)
call-limit b broods log (kill t) lives call ready =
    settled-limit (step (boxed paged_machines paged_talks) (node b broods log)) ((boxed paged_machines paged_talks).after_kill b) (without t broods)
    (killed log t ((boxed paged_machines paged_talks).grant b t).children)
    (step-lives (boxed paged_machines paged_talks) b broods log (Some (kill t)) lives call) (killed-limit (action b.machine.machine.state) b.machine.machine lives)

-- ---- talks

sent-limit : (m : Machine) (what : Talk) → m.ending ≡ None → talk_of (next m) ≡ Some what → IsLiveOrLimit (stepped m).ending
unfolding talked
sent-limit m what lives says =
    let comes = talks-at m what says in
    subst (λ (n : Machine). IsLiveOrLimit n.ending) (sym (stepped-talk m comes.said comes.speaks)) (talked-limit (action m.state) m None DONE lives)

received-limit : (m : Machine) (word : Option ℕ) → m.ending ≡ None → IsLiveOrLimit (received m word).ending
unfolding talked
received-limit m None lives = talked-limit (action m.state) m None SIBLING_ENDED lives
received-limit m (Some word) lives = talked-limit (action m.state) m (Some word) DONE lives

took-limit : (q : List ℕ) (j : ℕ) (b : Box Paged) → b.machine.machine.ending ≡ None
    → IsLiveOrLimit (after_receive paged_machines paged_talks q j b).machine.machine.ending
unfolding paged_talks talks
took-limit [] j b lives = received-limit b.machine.machine None lives
took-limit (word ∷ rest) j b lives = received-limit b.machine.machine (Some word) lives

said-limit : (what : Talk) (b : Box Paged) → b.machine.machine.ending ≡ None → talk_of (next b.machine.machine) ≡ Some what
    → IsLiveOrLimit (advance_by paged_machines paged_talks (Some what) b).machine.machine.ending
unfolding paged_machines machines
said-limit (send j) b lives says = sent-limit b.machine.machine (send j) lives says
said-limit (receive j) b lives says = took-limit (queue j b.inbox) j b lives

pub talk-limit : (b : Box Paged) (broods : Broods (Box Paged)) (log : Log (Box Paged)) (what : Talk) → paged_machines.ending b.machine ≡ None
    → paged_machines.call b.machine ≡ None → paged_talks.talk b.machine ≡ Some what
    → IsLiveOrLimit (machine (step (boxed paged_machines paged_talks) (node b broods log))).machine.machine.ending
unfolding boxed paged_machines machines paged_talks talks
talk-limit b broods log what lives call says =
    settled-limit (step (boxed paged_machines paged_talks) (node b broods log)) ((boxed paged_machines paged_talks).advance b) broods log
    (step-own (boxed paged_machines paged_talks) b broods log lives call)
    (subst (λ (o : Option Talk). IsLiveOrLimit (advance_by paged_machines paged_talks o b).machine.machine.ending) (sym says) (said-limit what b lives says))
