use Rattle.std.proofs.Common.{◌∙◌, ap, sym, subst}
use Rattle.fork_board.specs.Passes.{IsHeld, PassValue}
use Rattle.fork_board.specs.Answers.{Places}
use Rattle.world_core.specs.Answers.{home_by}
use Rattle.world_core.specs.declared.world.Placed.{Placed}
use Rattle.world_core.proofs.Giving.{home-wants-none}
use Rattle.machine_tests.proofs.families.joins_and_gives.Goals as goal

pub give-requires-clause-held : goal.give-requires-clause-held
give-requires-clause-held g c =
    c.join_pass-pass.ensures.held c.args.lease (subst (λ (p : PassValue). IsHeld p c.args.lease) (sym c.split-pass.ensures.old) c.requires.held)

pub unreachable-requires : goal.unreachable-requires
unreachable-requires g c =
    let ending = c.args.lease.now.ending in
    let Is : Placed → Type 0 = λ placed. Places (home_by ending) c.args.lease c.give.result.0 placed in
    home-wants-none ending (subst Is c.in_default-Memory.is-1 c.give.ensures.places).0
