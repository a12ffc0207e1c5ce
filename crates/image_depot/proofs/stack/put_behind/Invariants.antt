use Rattle.std.proofs.Common.{◌≡◌, ◌++◌, take}
use Rattle.image_depot.proofs.stack.put_behind.Given as goal

abbrev pub invariant-loop-layer : goal.invariant-loop-layer
invariant-loop-layer g l = l.layers.items ≡ l.initial.layers.items ++ take l.layer-index l.behind
