use Rattle.std.proofs.Common.{sym, ap, ◌∙◌, subst}
use Rattle.forest_tree.specs.Tree.{Branch}
use Rattle.world_core.specs.Kin.{IsKin}
use Rattle.world_core.specs.Lent.{Lent}
use Rattle.world_core.proofs.AtName.{lent-by}
use Rattle.world_core.proofs.Siblings.{root-silent, talks-here}
use Rattle.world_core.proofs.WordsSaid.{kin-named, kin-read, no-parent, speaks, waits-as-told}
use Rattle.world_core.proofs.world.World.talk_waits.Goals as goal

pub returns-in_default : goal.returns-in_default
returns-in_default c depot f stands out_as some =
    let lease = c.args.lease.now in
    absurd (root-silent depot c.args.self.now f lease c.args.talk stands.whole
    (talks-here depot c.args.self.now f lease stands out_as (lent-by c.lease.view_is c.lease.invariant.made) some) c.requires
    (sym (ap (λ (l : Lent). l.name) c.lease.view_is) ∙ subst (λ k. IsKin k c.lease.inside.turn.name) c.in_default.is c.lease.invariant.kin))

pub returns-in-Some-get : goal.returns-in-Some-get
returns-in-Some-get c depot f stands out_as some =
    let lease = c.args.lease.now in
    let parent = c.in-Some.parent in
    let x : Branch = record { ticket = c.in-Some-last.ticket; child = c.in-Some-last.index } in
    let named = kin-named parent lease.name x.ticket x.child
    (kin-read c.lease.inside.kin c.lease.inside.turn.name lease.name parent c.in-Some.is (ap (λ (l : Lent). l.name) c.lease.view_is) c.lease.invariant.kin)
    (c.in-Some-last.ensures.0, sym c.name.ensures ∙ c.in-Some-last.ensures.1) in
    waits-as-told depot c.args.self.now f lease c.args.talk parent x
    (speaks depot c.args.self.now f lease c.args.talk parent x stands out_as (lent-by c.lease.view_is c.lease.invariant.made) some c.requires named)
    c.in-Some-get.cell.now c.talk_waits.result c.in-Some-get.ensures.value c.talk_waits.ensures

pub returns-in-None : goal.returns-in-None
returns-in-None c depot f stands out_as some =
    let lease = c.args.lease.now in
    let parent = c.in-Some.parent in
    let x : Branch = record { ticket = c.in-Some-last.ticket; child = c.in-Some-last.index } in
    let named = kin-named parent lease.name x.ticket x.child
    (kin-read c.lease.inside.kin c.lease.inside.turn.name lease.name parent c.in-Some.is (ap (λ (l : Lent). l.name) c.lease.view_is) c.lease.invariant.kin)
    (c.in-Some-last.ensures.0, sym c.name.ensures ∙ c.in-Some-last.ensures.1) in
    absurd (no-parent depot c.args.self.now f lease c.args.talk parent x
    (speaks depot c.args.self.now f lease c.args.talk parent x stands out_as (lent-by c.lease.view_is c.lease.invariant.made) some c.requires named)
    c.in-None.ensures.value)
