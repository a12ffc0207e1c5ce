use Rattle.std.proofs.Common.{sym, subst}
use Rattle.world_core.specs.Outcome.{TellsFinished}
use Rattle.world_core.proofs.AllRest.{finished-tells}
use Rattle.world_core.proofs.world.World.finished.Goals as goal

pub returns : goal.returns
returns c = λ depot f h. subst (TellsFinished f.tree) (sym c.as_ref.ensures.value) (finished-tells depot c.args.self.now f h)
