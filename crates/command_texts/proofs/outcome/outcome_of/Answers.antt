use Rattle.std.proofs.Common.{Ok, Some, inr, refl, sym, ap, ◌∙◌}
use Rattle.fork_board.specs.Follows.{depot_of}
use Rattle.world_core.specs.declared.reason.Reason.TheVariants as why
use Rattle.board_ends.proofs.Ending.{at-its-end, is-stopped}
use Rattle.command_texts.proofs.Ended.{closed-ends, ended-lines, outcome-there}
use Rattle.command_texts.proofs.outcome.outcome_of.Goals as goal

pub into_outcome-requires : goal.into_outcome-requires
into_outcome-requires g c =
    let is = c.close.ensures.follows.world in (depot_of c.args.pass.board.opening, (is.forest, is.stands))

pub unreachable-requires : goal.unreachable-requires
unreachable-requires g c =
    let opening = c.args.pass.board.opening in
    let h = c.close.ensures in
    let ends = at-its-end c.args.pass c.args.end c.requires.ends (sym c.reason.ensures ∙ c.in-None.is) in
    outcome-there opening h.log c.close.result h.follows (closed-ends c.args.pass c.close.result h ends) c.into_outcome.result
    (c.into_outcome.ensures (depot_of opening) h.follows.world.forest h.follows.world.stands) (c.in-Ok-None.is ∙ ap Ok c.in-Ok-None.field-0-is)

pub returns-in-Ok-Some-clause-lines : goal.returns-in-Ok-Some-clause-lines
returns-in-Ok-Some-clause-lines g c =
    let opening = c.args.pass.board.opening in
    let h = c.close.ensures in
    let ends = at-its-end c.args.pass c.args.end c.requires.ends (sym c.reason.ensures ∙ c.in-None.is) in
    ended-lines opening h.log c.close.result h.follows (closed-ends c.args.pass c.close.result h ends) c.into_outcome.result
    c.in-Ok-Some.outcome (c.into_outcome.ensures (depot_of opening) h.follows.world.forest h.follows.world.stands)
    (c.in-Ok-Some.is ∙ ap Ok c.in-Ok-Some.field-0-is)

pub returns-in-Some-Wire-clause-stop : goal.returns-in-Some-Wire-clause-stop
returns-in-Some-Wire-clause-stop g c =
    inr (refl, is-stopped c.args.end why.Wire (sym c.reason.ensures ∙ c.in-Some-Wire.is ∙ ap Some c.in-Some-Wire.field-0-is))
