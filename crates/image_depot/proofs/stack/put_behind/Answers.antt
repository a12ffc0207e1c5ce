use Rattle.std.proofs.Common.{◌++◌, ap, ◌∙◌, arith}
use Rattle.std.proofs.lemmas.List.{take_all}
use Rattle.image_depot.proofs.stack.put_behind.Goals as goal

pub returns : goal.returns
returns g c = c.loop-layer.invariant ∙ ap (λ xs. c.args.layers.now.items ++ xs) (take_all c.loop-layer.layer-index c.args.behind.now (omega arith))
