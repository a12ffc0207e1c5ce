use Rattle.std.proofs.Common.{◌≡◌, Option, Some, None, IsSome, refl, subst}
use Rattle.fork_port.specs.declared.ending.Ending.{Ending}
use Rattle.talking_history.specs.Rows.{ended}
use Rattle.world_core.specs.Answers.{home_by}
use Rattle.fork_board.specs.Answers.{Places}
use Rattle.fork_board.specs.Notes.{placed_entry}
use Rattle.fork_board.specs.Passes.{Makes}
use Rattle.fork_board.proofs.board.Board.end.Goals as goal

home-ended : (ending : Option Ending) → IsSome ending → home_by ending ≡ ended
home-ended None some = absurd (cc)
home-ended (Some ending) some = refl

pub returns-clause-makes : goal.returns-clause-makes
returns-clause-makes g c =
    subst (λ how. Makes c.args.pass c.hand_back.result.0 (placed_entry how c.args.lease.name c.args.lease.ran c.hand_back.result.1))
    (home-ended c.args.lease.now.ending c.requires.ended) c.hand_back.ensures.makes

pub returns-clause-places : goal.returns-clause-places
returns-clause-places g c =
    subst (λ how. Places how c.args.lease c.hand_back.result.0 c.hand_back.result.1) (home-ended c.args.lease.now.ending c.requires.ended) c.hand_back.ensures.places
