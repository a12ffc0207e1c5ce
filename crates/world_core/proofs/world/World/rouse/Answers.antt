use Rattle.std.proofs.Common.{◌∷◌, Some, None, refl, sym, subst}
use Rattle.world_core.specs.Talking.{Rouses}
use Rattle.world_core.proofs.Images.{written}
use Rattle.world_core.proofs.Stirs.{rouses-some, unparked-images}
use Rattle.world_core.proofs.world.World.rouse.Goals as goal

pub returns-in_default-unpark-clause-rouses : goal.returns-in_default-unpark-clause-rouses
returns-in_default-unpark-clause-rouses c =
    let d = c.unpark.new.self in
    rouses-some c.args.change c.args.name.now c.args.self.now (c.get_mut.follows.lender d) c.args.self.now.ready c.in-Some.cell.now d None
    c.in-Some.ensures.value (c.get_mut.follows.holds d) c.in_default-unpark.ensures.state c.in_default-unpark.ensures.rest tt
    c.in_default-unpark.ensures.listed c.in_default-unpark.ensures.ready refl

pub returns-in-Some-unpark-clause-rouses : goal.returns-in-Some-unpark-clause-rouses
returns-in-Some-unpark-clause-rouses c =
    let d = c.unpark.new.self in
    let turn = c.in-Some-unpark.turn in
    subst (λ list. Rouses c.args.change c.args.name.now c.args.self.now (record c.args.self.now { cells = c.get_mut.follows.lender d; ready = list })) (sym c.push.ensures)
    (rouses-some c.args.change c.args.name.now c.args.self.now (c.get_mut.follows.lender d) (turn ∷ c.args.self.now.ready) c.in-Some.cell.now d (Some turn)
    c.in-Some.ensures.value (c.get_mut.follows.holds d) c.in-Some-unpark.ensures.state c.in-Some-unpark.ensures.rest c.in-Some-unpark.ensures.turn
    c.in-Some-unpark.ensures.listed c.in-Some-unpark.ensures.ready refl)

pub returns-in_default-unpark-clause-images : goal.returns-in_default-unpark-clause-images
returns-in_default-unpark-clause-images c images h =
    let d = c.unpark.new.self in
    written images c.args.self.now.cells (c.get_mut.follows.lender d) c.args.name.now c.in-Some.cell.now d c.in-Some.ensures.value (c.get_mut.follows.holds d)
    (unparked-images images c.args.name.now c.args.change c.in-Some.cell.now d c.in_default-unpark.ensures.state c.in_default-unpark.ensures.rest.0) h

pub returns-in-Some-unpark-clause-images : goal.returns-in-Some-unpark-clause-images
returns-in-Some-unpark-clause-images c images h =
    let d = c.unpark.new.self in
    written images c.args.self.now.cells (c.get_mut.follows.lender d) c.args.name.now c.in-Some.cell.now d c.in-Some.ensures.value (c.get_mut.follows.holds d)
    (unparked-images images c.args.name.now c.args.change c.in-Some.cell.now d c.in-Some-unpark.ensures.state c.in-Some-unpark.ensures.rest.0) h
