-- Where a machine stands that a run has left.
use Rattle.std.proofs.Common.{◌≡◌, Some, ap, ◌∙◌}
use Rattle.fork_port.specs.declared.commands.Call.{Call}
use Rattle.sibling_port.specs.declared.talk.Talk.{Talk}
use Rattle.forest_model.specs.Machine.{next}
use Rattle.vm_cell.specs.Keyed.{KeyedMachine}
use Rattle.vm_cell.specs.Standing.{asked_call, asked_talk, standing_by, standing_call, standing_from, standing_talk, talk_by, talk_from}
use Rattle.vm_cell.specs.Steps.{Stands}
use Rattle.vm_cell.specs.declared.vm.Stepped.TheVariants as stepped

-- at the call that the run came to
pub stands-call : (v : KeyedMachine) (c : Call) → Stands v (stepped.Call c) → standing_call v ≡ Some c
unfolding standing_call
stands-call v c h =
    ap (λ page. standing_by page v.machine.ending (next v.machine)) h.1 ∙ ap (λ ending. standing_from ending (next v.machine)) h.0 ∙ ap asked_call h.2

-- or at the talk
pub stands-talk : (v : KeyedMachine) (t : Talk) → Stands v (stepped.Talk t) → standing_talk v ≡ Some t
unfolding standing_talk
stands-talk v t h =
    ap (λ page. talk_by page v.machine.ending (next v.machine)) h.1 ∙ ap (λ ending. talk_from ending (next v.machine)) h.0 ∙ ap asked_talk h.2
