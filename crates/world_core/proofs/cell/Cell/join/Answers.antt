use Rattle.world_core.proofs.Images.{brood-gone}
use Rattle.std.proofs.Common.{◌+◌, ◌≤◌, List, ◌++◌, length, ap, ◌∙◌, sym, arith, vec_len, vec_capacity}
use Rattle.std.specs.BTreeMap.{btree_map_len}
use Rattle.fork_port.specs.declared.ending.Ending.{Ending}
use Rattle.forest_tree.proofs.Places.{some-same}
use Rattle.forest_model.specs.Calls.{after_join}
use Rattle.vm_cell.specs.Keyed.{paged}
use Rattle.vm_cell.specs.Standing.{standing_call}
use Rattle.run_report.specs.Lines.{Line}
use Rattle.world_core.specs.declared.cell.Brood.{Brood}
use Rattle.world_core.specs.declared.cell.Cell.{Cell}
use Rattle.world_core.specs.Broods.{slot_lines}
use Rattle.world_core.proofs.Broods.{joined_after, joined_there, joined_endings, as_many, is_join}
use Rattle.world_core.proofs.cell.Cell.join.Goals as goal

pub unreachable-requires : goal.unreachable-requires
unreachable-requires c =
    let r = c.requires.ended in
    joined_there r.0 r.1 (paged c.args.vm.now) c.args.ticket c.args.self.now r.2 (sym c.in_default.ensures.value) r.3 r.4

pub joined-requires : goal.joined-requires
joined-requires c =
    let r = c.requires.ended in
    let told = c.deref.ensures.value ∙ c.in_ok-endings.ensures
    ∙ joined_endings r.0 r.1 (paged c.args.vm.now) c.args.ticket c.args.self.now r.2 c.in-Some.brood.now (sym c.in-Some.ensures.value) r.3 r.4 r.5 in
    is_join r.0 r.1 (paged c.args.vm.now) c.args.ticket c.args.self.now c.deref.result.now (standing_call c.args.vm.now) c.requires.joins
    (ap (λ (es : List Ending). length es) told ∙ as_many r.0 r.1 (paged c.args.vm.now) c.args.ticket c.args.self.now r.2 r.4 r.5)

pub unreachable-requires-in_default-remove : goal.unreachable-requires-in_default-remove
unreachable-requires-in_default-remove c =
    let r = c.requires.ended in
    joined_there r.0 r.1 (paged c.args.vm.now) c.args.ticket c.args.self.now r.2 (sym c.in_default-remove.ensures.value) r.3 r.4

pub returns-clause-ok : goal.returns-clause-ok
returns-clause-ok c = λ t depot path h at all.
    let old = c.args.self.now in
    let b = c.in-Some-remove.brood in
    let found = sym c.in-Some-remove.ensures.value in
    let told = c.deref.ensures.value ∙ c.in_ok-endings.ensures
    ∙ joined_endings depot path (paged c.args.vm.now) c.args.ticket old t c.in-Some.brood.now (sym c.in-Some.ensures.value) h at all in
    let same = ap (λ (x : Brood). length (slot_lines x.slots.items)) (some-same c.in-Some.brood.now b (c.in-Some.ensures.value ∙ found)) in
    let new : Cell = record old { broods = c.remove.new.self; log = c.put_lines.new.log } in
    let room : vec_len new.log + btree_map_len new.broods ≤ vec_capacity new.log =
    omega (
      arith,
      same,
      c.line_count.ensures,
      c.len.ensures.len,
      c.saturating_add-lines.ensures,
      c.reserve.ensures.len,
      c.in_ok-reserve.ensures.ok,
      c.reserve.new.self.small,
      c.put_lines.ensures.len,
      c.put_lines.ensures.capacity,
      c.in-Some-remove.ensures.len,
    ) in (
      c.in_ok-joined.ensures.ok ∙ ap (λ (es : List Ending). record c.args.vm.now { machine = after_join c.args.vm.now.machine es }) told,
      joined_after depot path (paged c.args.vm.now) c.args.ticket old new b found c.remove.ensures.updates.0 room t
          (c.put_lines.ensures.lines ∙ ap (λ (items : List Line). items ++ slot_lines b.slots.items) c.reserve.ensures.items) all h at,
    )

pub returns-clause-images : goal.returns-clause-images
returns-clause-images c images path h = record {
  state = h.state;
  broods = brood-gone images path c.args.self.now.broods c.remove.new.self c.args.ticket c.remove.ensures.updates.0 h.broods;
}
