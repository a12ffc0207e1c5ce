use Rattle.world_core.specs.Images.{HaveImages}
use Rattle.world_core.proofs.AtName.{found-by, lent-by, writes-by}
use Rattle.world_core.proofs.Images.{dropped, written, lent-key}
use Rattle.std.proofs.Common.{Some, sym, ap, ◌∙◌, subst}
use Rattle.fork_port.specs.declared.commands.Call.TheVariants.{Kill}
use Rattle.forest_tree.specs.Operations.{kill}
use Rattle.forest_tree.specs.Tree.{Tree, node}
use Rattle.talking_history.specs.Rows.{killed}
use Rattle.vm_cell.specs.Keyed.{KeyedMachine, paged}
use Rattle.world_core.specs.Lent.{Lent, now_of}
use Rattle.world_core.specs.Shows.{Member, StandsAt}
use Rattle.world_core.specs.Answers.{Answers}
use Rattle.world_core.proofs.Calling.{found-here, gone-here, same-image}
use Rattle.world_core.proofs.Steps.{lent_out}
use Rattle.world_core.proofs.CallKill.{kill-called}
use Rattle.world_core.proofs.world.World.kill.Goals as goal

pub returns-in_default-get_mut-clause-answers : goal.returns-in_default-get_mut-clause-answers
returns-in_default-get_mut-clause-answers c depot f stands out_as of_depot =
    gone-here depot c.args.self.now _ f c.args.lease stands out_as
    (found-by c.args.self.now.cells c.name.ensures c.in_default-get_mut.ensures.value)
    (ap (λ cells. record c.args.self.now { cells = cells }) c.get_mut.follows.holds-at-none)

pub kill-requires-clause-holds : goal.kill-requires-clause-holds
kill-requires-clause-holds c =
    let lent = c.requires.lent in
    let h = found-here lent.0 c.args.self.now lent.1.0 c.args.lease (Kill c.in-Some-Kill.ticket) c.in-Some.cell.now lent.1.1 lent.1.2
    (lent-by c.lease.view_is c.lease.invariant.made) (ap Some (sym c.in-Some-Kill.field-0-is) ∙ c.in-Some-Kill.ensures)
    (found-by c.args.self.now.cells c.name.ensures c.in-Some.ensures.value) in
    let t : Tree Member = node (lent_out h.inbox (now_of c.args.lease)) h.broods h.log in (
      lent.0,
      c.args.lease.name,
      t,
      h.stands.holds,
      subst (λ m. StandsAt m (kill c.in-Some-Kill.ticket) t) (sym (ap paged c.deref_mut.ensures.value ∙ ap now_of c.lease.view_is)) h.stands.at,
    )

pub place-requires-clause-between : goal.place-requires-clause-between
place-requires-clause-between c =
    let lent = c.requires.lent in
    let k = kill-called lent.0 c.args.self.now lent.1.0 c.args.lease c.in-Some-Kill.ticket c.in-Some.cell.now c.kill.new.self (c.get_mut.follows.lender c.kill.new.self)
    c.drop_below.new.cells _ _ (paged c.deref_mut.result.now) (paged c.kill.new.vm) lent.1.1 lent.1.2
    (lent-by c.lease.view_is c.lease.invariant.made) (ap Some (sym c.in-Some-Kill.field-0-is) ∙ c.in-Some-Kill.ensures)
    (found-by c.args.self.now.cells c.name.ensures c.in-Some.ensures.value) (ap (λ (l : Lent). l.name) c.lease.view_is)
    (c.name-2.ensures ∙ ap (λ (l : Lent). l.name) c.lease.view_is)
    (ap paged c.deref_mut.ensures.value ∙ ap now_of c.lease.view_is)
    (writes-by c.args.self.now.cells (c.get_mut.follows.lender c.kill.new.self) c.kill.new.self c.name.ensures (c.get_mut.follows.holds c.kill.new.self))
    c.drop_below.ensures c.kill.ensures.place.1 c.kill.ensures.after (ap paged c.kill.ensures.vm) in (
      lent.0,
      lent.1.0,
      k.tree,
      k.between,
      k.is,
      same-image lent.0 c.kill.new.vm c.args.lease
          (ap (λ (v : KeyedMachine). v.key) (c.kill.ensures.vm) ∙ ap (λ (v : KeyedMachine). v.key) c.deref_mut.ensures.value ∙ ap (λ (l : Lent). l.key) c.lease.view_is) lent.1.3,
    )

pub returns-clause-answers : goal.returns-clause-answers
returns-clause-answers c depot f stands out_as of_depot =
    let k = kill-called depot c.args.self.now f c.args.lease c.in-Some-Kill.ticket c.in-Some.cell.now c.kill.new.self (c.get_mut.follows.lender c.kill.new.self)
    c.drop_below.new.cells _ _ (paged c.deref_mut.result.now) (paged c.kill.new.vm) stands out_as
    (lent-by c.lease.view_is c.lease.invariant.made) (ap Some (sym c.in-Some-Kill.field-0-is) ∙ c.in-Some-Kill.ensures)
    (found-by c.args.self.now.cells c.name.ensures c.in-Some.ensures.value) (ap (λ (l : Lent). l.name) c.lease.view_is)
    (c.name-2.ensures ∙ ap (λ (l : Lent). l.name) c.lease.view_is)
    (ap paged c.deref_mut.ensures.value ∙ ap now_of c.lease.view_is)
    (writes-by c.args.self.now.cells (c.get_mut.follows.lender c.kill.new.self) c.kill.new.self c.name.ensures (c.get_mut.follows.holds c.kill.new.self))
    c.drop_below.ensures c.kill.ensures.place.1 c.kill.ensures.after (ap paged c.kill.ensures.vm) in
    let p = c.place.ensures.placed depot f k.tree k.between k.is
    (same-image depot c.kill.new.vm c.args.lease
    (ap (λ (v : KeyedMachine). v.key) (c.kill.ensures.vm) ∙ ap (λ (v : KeyedMachine). v.key) c.deref_mut.ensures.value ∙ ap (λ (l : Lent). l.key) c.lease.view_is) of_depot)
    k.whole in
    subst (λ r. Answers depot f killed c.args.lease r c.place.new.self) (sym p.0) (k.goes c.place.new.self p.1)

pub returns-in_default-get_mut-clause-images : goal.returns-in_default-get_mut-clause-images
returns-in_default-get_mut-clause-images c images h lent = subst (HaveImages images) (sym c.get_mut.follows.holds-at-none) h

pub returns-clause-images : goal.returns-clause-images
returns-clause-images c images h lent =
    c.place.ensures.images images
    (dropped images (c.get_mut.follows.lender c.kill.new.self) c.drop_below.new.cells c.in-Some-Kill.ticket _ c.drop_below.ensures
    (written images c.args.self.now.cells (c.get_mut.follows.lender c.kill.new.self) c.args.lease.name c.in-Some.cell.now c.kill.new.self
    (found-by c.args.self.now.cells c.name.ensures c.in-Some.ensures.value)
    (writes-by c.args.self.now.cells (c.get_mut.follows.lender c.kill.new.self) c.kill.new.self c.name.ensures (c.get_mut.follows.holds c.kill.new.self))
    (c.kill.ensures.images images c.args.lease.name) h))
    (lent-key images c.args.lease c.lease.inside.turn.name c.kill.new.vm (ap (λ (l : Lent). l.name) c.lease.view_is)
    (ap (λ (v : KeyedMachine). v.key) c.kill.ensures.vm ∙ ap (λ (v : KeyedMachine). v.key) c.deref_mut.ensures.value ∙ ap (λ (l : Lent). l.key) c.lease.view_is) lent)
