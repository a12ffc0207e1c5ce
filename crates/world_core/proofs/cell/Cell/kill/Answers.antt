use Rattle.world_core.proofs.Images.{brood-gone}
use Rattle.std.proofs.Common.{[], ◌∷◌, ◌++◌, ◌^◌, ◌<◌, Option, ap, ◌∙◌, sym, subst, arith, vec_len}
use Rattle.std.specs.Option.{IfSome}
use Rattle.run_report.specs.Lines.{Line}
use Rattle.world_core.specs.declared.cell.Brood.{Brood}
use Rattle.world_core.specs.declared.cell.Cell.{Cell}
use Rattle.world_core.proofs.Broods.{killed_after, killed_there}
use Rattle.world_core.proofs.LogKilled.{broods_fit}
use Rattle.world_core.proofs.cell.Cell.kill.Goals as goal
use Rattle.vm_cell.specs.Keyed.{paged}

pub unreachable-requires : goal.unreachable-requires
unreachable-requires c =
    let h = c.requires.holds in
    killed_there h.0 h.1 (paged c.args.vm.now) c.args.ticket c.args.self.now h.2 (sym c.in_default.ensures.value) h.3 h.4

pub into_line-requires : goal.into_line-requires
into_line-requires c =
    let h = c.requires.holds in
    subst (λ (o : Option Brood). IfSome o (λ b. vec_len b.slots < 2 ^ 32)) (sym c.in-Some.ensures.value) (broods_fit h.1 c.args.self.now h.2 h.3.tallies c.args.ticket)

pub returns-clause-after : goal.returns-clause-after
returns-clause-after c = λ t depot path h at.
    let old = c.args.self.now in
    let new : Cell = record old { broods = c.remove.new.self; log = c.push_reserved.new.self } in
    killed_after depot path (paged c.args.vm.now) c.args.ticket old new c.in-Some.brood (sym c.in-Some.ensures.value) c.remove.ensures.updates.0
    (omega (arith, h.tallies.room, c.in-Some.ensures.len, c.push_reserved.ensures.len, c.push_reserved.ensures.capacity)) t
    (c.push_reserved.ensures.items ∙ ap (λ (line : Line). old.log.items ++ line ∷ []) c.into_line.ensures) h at

pub returns-clause-images : goal.returns-clause-images
returns-clause-images c images path h = record {
  state = h.state;
  broods = brood-gone images path c.args.self.now.broods c.remove.new.self c.args.ticket c.remove.ensures.updates.0 h.broods;
}
