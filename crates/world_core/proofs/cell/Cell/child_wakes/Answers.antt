use Rattle.world_core.proofs.Images.{brood-written, left-by}
use Rattle.std.proofs.Common.{sym, subst}
use Rattle.std.specs.BTreeMap.{WritesThrough}
use Rattle.std.specs.Ordering.{nat_cmp}
use Rattle.world_core.proofs.SlotChanges.{no-brood-no-child, child-place, few-slots}
use Rattle.world_core.proofs.SlotEnds.{wakes-shows}
use Rattle.world_core.proofs.cell.Cell.child_wakes.Goals as goal

pub unreachable-requires : goal.unreachable-requires
unreachable-requires c =
    let r = c.requires in
    no-brood-no-child r.0 r.1 c.args.self.now r.2 r.3 c.args.ticket c.args.index r.4 r.5 (sym c.in_default.ensures.value)

pub overflow_sub-index : goal.overflow_sub-index
overflow_sub-index c =
    let r = c.requires in
    (child-place r.0 r.1 c.args.self.now r.2 r.3 c.args.ticket c.args.index c.in-Some.brood.now r.4 r.5 (sym c.in-Some.ensures.value)).0

pub index_mut-requires : goal.index_mut-requires
index_mut-requires c =
    let r = c.requires in
    (child-place r.0 r.1 c.args.self.now r.2 r.3 c.args.ticket c.args.index c.in-Some.brood.now r.4 r.5 (sym c.in-Some.ensures.value)).1

pub returns-clause-shows : goal.returns-clause-shows
returns-clause-shows c depot path resting t a h found asleep lives named =
    let broods = c.get_mut.follows.lender c.let_go.new.self in
    wakes-shows depot path c.args.ticket c.args.index resting c.args.self.now broods c.in-Some.brood.now c.let_go.new.self.image c.args.name t a h found lives
    named (sym c.in-Some.ensures.value)
    (subst (λ b. WritesThrough nat_cmp (nat_cmp c.args.ticket) c.args.self.now.broods b broods) c.let_go.ensures.rest
    (c.get_mut.follows.holds c.let_go.new.self))
    c.let_go.ensures.image

pub let_go-requires : goal.let_go-requires
let_go-requires c =
    let r = c.requires in
    record { few = few-slots r.0 r.1 c.args.self.now r.2 c.args.ticket c.in-Some.brood.now r.4 (sym c.in-Some.ensures.value) }

pub returns-clause-images : goal.returns-clause-images
returns-clause-images c images path h = record {
  state = h.state;
  broods = brood-written images path c.args.self.now.broods (c.get_mut.follows.lender c.let_go.new.self) c.args.ticket c.in-Some.brood.now c.let_go.new.self
      (sym c.in-Some.ensures.value) (c.get_mut.follows.holds c.let_go.new.self)
      (left-by images path c.args.ticket c.in-Some.brood.now.image c.let_go.new.self.image c.let_go.ensures.image) h.broods;
}
