use Rattle.std.proofs.Common.{◌≡◌, Option, Some, None, true, is_some, ◌∙◌}
use Rattle.std.specs.Option.{IfSome}
use Rattle.sibling_port.specs.declared.talk.Talk.{Talk}
use Rattle.talking_history.specs.Histories.{Entry}
use Rattle.vm_cell.specs.Standing.{standing_talk}
use Rattle.world_core.specs.declared.reason.Reason.{Reason}
use Rattle.world_core.specs.Answers.{said_by}
use Rattle.world_core.specs.Lent.{vm_of}
use Rattle.fork_board.specs.Notes.{placed_entry}
use Rattle.fork_board.specs.Passes.{Makes, PassValue}
use Rattle.machine_tests.proofs.siblings.leases.talks.Goals as goal

same-board : (o : Option Talk) (old new : PassValue) (entry : Talk → Entry Reason) → is_some o ≡ true → IfSome o (λ what. Makes old new (entry what))
    → new.board ≡ old.board
same-board None old new entry some makes = absurd (cc)
same-board (Some what) old new entry some makes = makes.same_board

pub returns : goal.returns
returns g c =
    let lease = c.args.lease in
    let r = c.talk.result in
    same-board (standing_talk (vm_of lease)) c.args.pass r.0 (λ what. placed_entry (said_by what) lease.name lease.ran r.1) c.requires.talks c.talk.ensures.makes
    ∙ c.requires.board
