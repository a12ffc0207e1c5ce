use Rattle.std.proofs.Common.{drop}
use Rattle.image_depot.proofs.Stacks.{IsLeft}
use Rattle.image_depot.proofs.stack.first_own.Given as goal

abbrev pub invariant-loop-layer : goal.invariant-loop-layer
invariant-loop-layer g l = IsLeft l.page (g.L.Layer.tables l.layers) (g.L.Layer.tables (drop l.layer-index l.layers))
