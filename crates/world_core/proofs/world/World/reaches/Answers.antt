use Rattle.std.proofs.Common.{leb-false, leb-true, arith}
use Rattle.world_core.proofs.Depths.{none-awake, reached, too-deep}
use Rattle.world_core.proofs.world.World.reaches.Goals as goal

pub returns-in_default-clause-far : goal.returns-in_default-clause-far
returns-in_default-clause-far c = λ depot f h no name counted.
    none-awake depot c.args.self.now f h name (λ some. (let none = c.in_default.ensures.variant.1 some in cc))

pub returns-clause-far : goal.returns-clause-far
returns-clause-far c = λ depot f h no name counted.
    let far = leb-false c.saturating_sub.result 1 no in
    too-deep depot c.args.self.now f h c.in-Some.longest.now name c.in-Some.ensures.greatest
    (omega (arith, far, c.saturating_sub.ensures, c.depth.ensures, counted))

pub returns-clause-near : goal.returns-clause-near
returns-clause-near c = λ depot f h yes.
    let near = leb-true c.saturating_sub.result 1 yes in
    reached depot c.args.self.now f h c.in-Some.longest.now _ c.args.depth c.in-Some.ensures.value
    (omega (arith, near, c.saturating_sub.ensures, c.depth.ensures))
