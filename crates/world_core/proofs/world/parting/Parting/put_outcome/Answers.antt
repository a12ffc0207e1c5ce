use Rattle.std.proofs.Common.{◌-◌, ◌<◌, Option, sym, subst, vec_len}
use Rattle.std.specs.Option.{IsSomeAnd}
use Rattle.world_core.specs.Outcome.{Slots}
use Rattle.world_core.proofs.world.parting.Parting.put_outcome.Goals as goal

pub unreachable-requires : goal.unreachable-requires
unreachable-requires c =
    subst (λ (o : Option Slots). IsSomeAnd o (λ slots. c.args.index - 1 < vec_len slots)) (sym c.in_default.ensures.value) c.requires.there

pub index_mut-requires : goal.index_mut-requires
index_mut-requires c =
    subst (λ (o : Option Slots). IsSomeAnd o (λ slots. c.args.index - 1 < vec_len slots)) (sym c.in-Some.ensures.value) c.requires.there
