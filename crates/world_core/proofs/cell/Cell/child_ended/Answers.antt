use Rattle.world_core.proofs.Images.{cell-written, cell-unparked}
use Rattle.std.proofs.Common.{sym, inl, arith}
use Rattle.world_core.specs.declared.cell.Change.TheVariants.{AllEnded}
use Rattle.world_core.proofs.SlotChanges.{no-brood-no-child, child-place}
use Rattle.world_core.proofs.SlotEnds.{some-live, ended-shows, ended-unparks, ended-ready, unparked-ready}
use Rattle.world_core.proofs.cell.Cell.child_ended.Goals as goal

pub unreachable-requires : goal.unreachable-requires
unreachable-requires c =
    let r = c.requires in
    no-brood-no-child r.0 r.1 c.args.self.now r.3 r.4 c.args.ticket c.args.index r.5.holds r.6 (sym c.in_default.ensures.value)

pub overflow_sub-index : goal.overflow_sub-index
overflow_sub-index c =
    let r = c.requires in
    (child-place r.0 r.1 c.args.self.now r.3 r.4 c.args.ticket c.args.index c.in-Some.brood.now r.5.holds r.6 (sym c.in-Some.ensures.value)).0

pub index_mut-requires : goal.index_mut-requires
index_mut-requires c =
    let r = c.requires in
    (child-place r.0 r.1 c.args.self.now r.3 r.4 c.args.ticket c.args.index c.in-Some.brood.now r.5.holds r.6 (sym c.in-Some.ensures.value)).1

pub overflow_sub-brood : goal.overflow_sub-brood
overflow_sub-brood c =
    let r = c.requires in
    some-live r.0 r.1 c.args.ticket c.args.index c.args.self.now c.in-Some.brood.now r.3 r.4 r.5.holds r.6 r.7 (sym c.in-Some.ensures.value)

pub returns-then-brood-gt0-clause-shows : goal.returns-then-brood-gt0-clause-shows
returns-then-brood-gt0-clause-shows c depot path by_talk t a b alone h found is left =
    ended-shows depot path c.args.ticket c.args.index by_talk c.args.self.now c.in-Some.brood.now c.args.outcome t a b alone h found is left
    (sym c.in-Some.ensures.value) c.clear.new.self c.clear.ensures _ (c.get_mut.follows.holds _) c.if-brood-gt0.true

pub returns-then-brood-gt0-clause-ready : goal.returns-then-brood-gt0-clause-ready
returns-then-brood-gt0-clause-ready c depot path by_talk t a b alone h found is left ready =
    inl (ended-ready depot path c.args.ticket c.args.index by_talk c.args.self.now c.in-Some.brood.now c.args.outcome t a b alone h found is left
    (sym c.in-Some.ensures.value) c.clear.new.self c.clear.ensures c.if-brood-gt0.true ready)

pub returns-clause-shows : goal.returns-clause-shows
returns-clause-shows c depot path by_talk t a b alone h found is left =
    ended-unparks depot path c.args.ticket c.args.index by_talk c.args.self.now c.in-Some.brood.now c.args.outcome t a b alone h found is left
    (sym c.in-Some.ensures.value) c.clear.new.self c.clear.ensures c.unpark.new.self _ (c.get_mut.follows.holds _) (omega (arith, c.if-brood-gt0.false))
    c.unpark.ensures.state c.unpark.ensures.rest.0 c.unpark.ensures.rest.1 c.unpark.ensures.rest.2

pub returns-clause-ready : goal.returns-clause-ready
returns-clause-ready c depot path by_talk t a b alone h found is left ready =
    unparked-ready depot path c.args.ticket c.args.index by_talk c.args.self.now c.unpark.new.self t a b alone h found is c.unpark.ensures.ready ready

pub returns-then-brood-gt0-clause-images : goal.returns-then-brood-gt0-clause-images
returns-then-brood-gt0-clause-images c images path h =
    cell-written images path c.args.self.now _ c.args.ticket c.in-Some.brood.now _ (sym c.in-Some.ensures.value) (c.get_mut.follows.holds _) (λ at. at) h

pub returns-clause-images : goal.returns-clause-images
returns-clause-images c images path h =
    cell-unparked images path (AllEnded c.args.ticket) c.args.self.now c.unpark.new.self _ c.args.ticket c.in-Some.brood.now _ (sym c.in-Some.ensures.value)
    (c.get_mut.follows.holds _) (λ at. at) c.unpark.ensures.state c.unpark.ensures.rest.0 h
