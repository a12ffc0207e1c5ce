use Rattle.world_core.proofs.Images.{brood-put}
use Rattle.std.proofs.Common.{◌+◌, ◌≤◌, Bool, true, false, cond, is_some, arith, vec_len, vec_capacity}
use Rattle.std.specs.BTreeMap.{btree_map_len}
use Rattle.world_core.specs.declared.cell.Cell.{Cell}
use Rattle.world_core.proofs.Broods.{forked_after}
use Rattle.world_core.proofs.cell.Cell.fork.Goals as goal

at_most_one : (b : Bool) → cond b 0 1 ≤ 1
at_most_one true = omega arith
at_most_one false = omega arith

pub returns-clause-holds : goal.returns-clause-holds
returns-clause-holds c = λ depot path left born t h at.
    let old = c.args.self.now in
    let new : Cell = record old { broods = c.insert.new.self; log = c.make_room.new.log } in
    let room : vec_len new.log + btree_map_len new.broods ≤ vec_capacity new.log =
    omega (arith, c.in_ok-insert.ensures.len, at_most_one (is_some c.in_ok-insert.field-0), c.len.ensures.len, c.make_room.ensures.len, c.in_ok-make_room.ensures.room) in
    forked_after depot path c.args.vm.now c.args.ticket old new room c.make_room.ensures.items c.args.brood left t born c.in_ok-insert.ensures.updates.0 h at

pub returns-clause-images : goal.returns-clause-images
returns-clause-images c images path h at = record {
  state = h.state;
  broods = brood-put images path c.args.self.now.broods c.insert.new.self c.args.ticket c.args.brood c.in_ok-insert.ensures.updates.0 at h.broods;
}
