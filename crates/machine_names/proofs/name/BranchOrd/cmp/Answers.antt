use Rattle.std.proofs.Common.{sym, ap₂, ◌∙◌}
use Rattle.std.specs.Ordering.{nat_cmp}
use Rattle.machine_names.specs.NameOrder.{branch_cmp}
use Rattle.machine_names.proofs.Keys.{by-key}
use Rattle.machine_names.proofs.name.BranchOrd.cmp.Goals as goal

pub returns : goal.returns
unfolding branch_cmp
returns c =
    let ours = c.args.self.now in
    let theirs = c.args.other.now in
    c.cmp.ensures ∙ ap₂ nat_cmp c.key.ensures.both c.key-2.ensures.both
    ∙ sym (by-key ours.ticket ours.child theirs.ticket theirs.child c.key.ensures.fits c.key-2.ensures.fits)
