use Rattle.world_core.specs.Images.{HaveImages}
use Rattle.world_core.proofs.AtName.{found-by, lent-by, writes-by}
use Rattle.world_core.proofs.Images.{written, lent-key}
use Rattle.std.proofs.Common.{◌≡◌, Some, sym, ap, ◌∙◌, subst, refl}
use Rattle.forest_tree.specs.Step.{endings}
use Rattle.forest_tree.specs.Tree.{brood_of, broods_of}
use Rattle.talking_history.specs.Rows.{joined, spent, waited}
use Rattle.forest_model.specs.Calls.{after_join}
use Rattle.vm_cell.specs.Keyed.{KeyedMachine, paged}
use Rattle.world_core.specs.declared.cell.Cell.{Cell}
use Rattle.world_core.specs.declared.cell.Awaited.TheVariants.{Children}
use Rattle.world_core.specs.declared.cell.State.TheVariants.{Parked}
use Rattle.world_core.specs.Kin.{IsKin}
use Rattle.world_core.specs.Lent.{Lent, lent_as, now_of}
use Rattle.world_core.specs.Shows.{forest, Holds, HoldsAfter, joined_tree}
use Rattle.world_core.specs.Answers.{Answers, IsLentOf}
use Rattle.world_core.proofs.Reordered.{goes-reordered}
use Rattle.world_core.proofs.Calling.{gone-here, at-ok, at-err, same-image}
use Rattle.world_core.proofs.CallJoin.{join-parked, join-asked, join-kept, join-called}
use Rattle.world_core.proofs.world.World.join.Goals as goal

pub returns-in_default-get_mut-clause-answers : goal.returns-in_default-get_mut-clause-answers
returns-in_default-get_mut-clause-answers c depot f stands out_as of_depot =
    gone-here depot c.args.self.now _ f c.args.lease stands out_as
    (found-by c.args.self.now.cells c.name.ensures c.in_default-get_mut.ensures.value)
    (ap (λ cells. record c.args.self.now { cells = cells }) c.get_mut.follows.holds-at-none)

pub returns-then-waits-clause-answers : goal.returns-then-waits-clause-answers
returns-then-waits-clause-answers c depot f stands out_as of_depot =
    let parked : Cell = record c.in-Some.cell.now {
      kin = c.lease.inside.kin;
      state = Parked (Children c.in-Some-Join.ticket) c.lease.inside.vm c.lease.inside.turn;
    } in (
      tt,
      goes-reordered depot (record c.args.self.now { cells = c.get_mut.follows.lender parked }) c.raise_asleep.new.ready f c.raise_asleep.ensures
          (spent waited c.args.lease.name c.args.lease.ran)
          (join-parked depot c.args.self.now f c.args.lease c.in-Some-Join.ticket c.in-Some.cell.now stands out_as
          (lent-by c.lease.view_is c.lease.invariant.made) (ap Some (sym c.in-Some-Join.field-0-is) ∙ c.in-Some-Join.ensures)
          (found-by c.args.self.now.cells c.name.ensures c.in-Some.ensures.value)
          (c.get_mut.follows.lender parked) c.lease.inside.vm c.lease.inside.kin c.lease.inside.turn (λ depot path t holds. sym c.if-waits.true ∙ c.waits.ensures depot path t holds)
          (writes-by c.args.self.now.cells (c.get_mut.follows.lender parked) parked c.name.ensures (c.get_mut.follows.holds parked))
          (subst (IsKin c.lease.inside.kin) (ap (λ (l : Lent). l.name) c.lease.view_is) c.lease.invariant.kin)
          (ap now_of c.lease.view_is) (subst (IsLentOf depot) (sym c.lease.view_is) of_depot) c.lease.invariant.own (ap (λ (l : Lent). l.name) c.lease.view_is)),
    )

pub join-requires-clause-ended : goal.join-requires-clause-ended
join-requires-clause-ended c =
    let lent = c.requires.lent in
    join-asked lent.0 c.args.self.now lent.1.0 c.args.lease c.in-Some-Join.ticket c.in-Some.cell.now lent.1.1 lent.1.2
    (lent-by c.lease.view_is c.lease.invariant.made) (ap Some (sym c.in-Some-Join.field-0-is) ∙ c.in-Some-Join.ensures)
    (found-by c.args.self.now.cells c.name.ensures c.in-Some.ensures.value)
    (λ depot path t holds. sym c.if-waits.false ∙ c.waits.ensures depot path t holds) (paged c.deref_mut.result.now) (ap paged c.deref_mut.ensures.value ∙ ap now_of c.lease.view_is)

pub returns-then-is_err-clause-answers : goal.returns-then-is_err-clause-answers
returns-then-is_err-clause-answers c depot f stands out_as of_depot =
    let failed = sym c.is_err.ensures.value ∙ c.if-is_err.true in
    let inside = c.lease.inside in
    let lease_of : KeyedMachine → Lent = λ v. lent_as inside.turn.name inside.start.value.machine inside.ran v in (
      tt,
      ap lease_of (at-err (c.join.new.vm ≡ c.deref_mut.result.now) c.join.result failed c.join.ensures.err ∙ c.deref_mut.ensures.value) ∙ c.lease.view_is,
      join-kept depot c.args.self.now f c.args.lease c.in-Some-Join.ticket c.in-Some.cell.now stands out_as
          (lent-by c.lease.view_is c.lease.invariant.made) (ap Some (sym c.in-Some-Join.field-0-is) ∙ c.in-Some-Join.ensures)
          (found-by c.args.self.now.cells c.name.ensures c.in-Some.ensures.value)
          (λ depot path t holds. sym c.if-waits.false ∙ c.waits.ensures depot path t holds) (c.get_mut.follows.lender c.join.new.self) c.join.new.self
          (writes-by c.args.self.now.cells (c.get_mut.follows.lender c.join.new.self) c.join.new.self c.name.ensures (c.get_mut.follows.holds c.join.new.self))
          c.join.ensures.place.0 c.join.ensures.place.2 c.join.ensures.place.1
          (λ t depot path holds. at-err (Holds depot path c.join.new.self t) c.join.result failed (c.join.ensures.still t depot path holds)),
    )

pub place-requires-clause-between : goal.place-requires-clause-between
place-requires-clause-between c =
    let lent = c.requires.lent in
    let k = join-called lent.0 c.args.self.now lent.1.0 c.args.lease c.in-Some-Join.ticket c.in-Some.cell.now lent.1.1 lent.1.2
    (lent-by c.lease.view_is c.lease.invariant.made) (ap Some (sym c.in-Some-Join.field-0-is) ∙ c.in-Some-Join.ensures)
    (found-by c.args.self.now.cells c.name.ensures c.in-Some.ensures.value)
    (λ depot path t holds. sym c.if-waits.false ∙ c.waits.ensures depot path t holds) (c.get_mut.follows.lender c.join.new.self) c.join.new.self _ (paged c.deref_mut.result.now) (paged c.join.new.vm)
    (ap (λ (l : Lent). l.name) c.lease.view_is) (ap paged c.deref_mut.ensures.value ∙ ap now_of c.lease.view_is)
    (writes-by c.args.self.now.cells (c.get_mut.follows.lender c.join.new.self) c.join.new.self c.name.ensures (c.get_mut.follows.holds c.join.new.self))
    c.join.ensures.place.1
    (λ t depot path holds at all. let did = at-ok
    ((c.join.new.vm ≡ record c.deref_mut.result.now { machine = after_join c.deref_mut.result.now.machine (endings forest (brood_of c.in-Some-Join.ticket (broods_of t))) })
    × HoldsAfter depot path c.join.new.self (joined_tree c.in-Some-Join.ticket t)) c.join.result
    (sym c.is_err.ensures.value ∙ c.if-is_err.false) (c.join.ensures.ok t depot path holds at all) in (ap paged did.0, did.1)) in (
      lent.0,
      lent.1.0,
      k.tree,
      k.between,
      k.is,
      same-image lent.0 c.join.new.vm c.args.lease
          (c.join.ensures.key ∙ ap (λ (v : KeyedMachine). v.key) c.deref_mut.ensures.value ∙ ap (λ (l : Lent). l.key) c.lease.view_is) lent.1.3,
    )

pub returns-clause-answers : goal.returns-clause-answers
returns-clause-answers c depot f stands out_as of_depot =
    let k = join-called depot c.args.self.now f c.args.lease c.in-Some-Join.ticket c.in-Some.cell.now stands out_as
    (lent-by c.lease.view_is c.lease.invariant.made) (ap Some (sym c.in-Some-Join.field-0-is) ∙ c.in-Some-Join.ensures)
    (found-by c.args.self.now.cells c.name.ensures c.in-Some.ensures.value)
    (λ depot path t holds. sym c.if-waits.false ∙ c.waits.ensures depot path t holds) (c.get_mut.follows.lender c.join.new.self) c.join.new.self _ (paged c.deref_mut.result.now) (paged c.join.new.vm)
    (ap (λ (l : Lent). l.name) c.lease.view_is) (ap paged c.deref_mut.ensures.value ∙ ap now_of c.lease.view_is)
    (writes-by c.args.self.now.cells (c.get_mut.follows.lender c.join.new.self) c.join.new.self c.name.ensures (c.get_mut.follows.holds c.join.new.self))
    c.join.ensures.place.1
    (λ t depot path holds at all. let did = at-ok
    ((c.join.new.vm ≡ record c.deref_mut.result.now { machine = after_join c.deref_mut.result.now.machine (endings forest (brood_of c.in-Some-Join.ticket (broods_of t))) })
    × HoldsAfter depot path c.join.new.self (joined_tree c.in-Some-Join.ticket t)) c.join.result
    (sym c.is_err.ensures.value ∙ c.if-is_err.false) (c.join.ensures.ok t depot path holds at all) in (ap paged did.0, did.1)) in
    let p = c.place.ensures.placed depot f k.tree k.between k.is
    (same-image depot c.join.new.vm c.args.lease
    (c.join.ensures.key ∙ ap (λ (v : KeyedMachine). v.key) c.deref_mut.ensures.value ∙ ap (λ (l : Lent). l.key) c.lease.view_is) of_depot)
    k.whole in
    subst (λ r. Answers depot f joined c.args.lease r c.place.new.self) (sym p.0) (k.goes c.place.new.self p.1)

pub returns-in_default-get_mut-clause-images : goal.returns-in_default-get_mut-clause-images
returns-in_default-get_mut-clause-images c images h lent = subst (HaveImages images) (sym c.get_mut.follows.holds-at-none) h

pub returns-then-waits-clause-images : goal.returns-then-waits-clause-images
returns-then-waits-clause-images c images h lent =
    let inside = c.lease.inside in
    let parked : Cell = record c.in-Some.cell.now { kin = inside.kin; state = Parked (Children c.in-Some-Join.ticket) inside.vm inside.turn } in
    written images c.args.self.now.cells (c.get_mut.follows.lender parked) c.args.lease.name c.in-Some.cell.now parked
    (found-by c.args.self.now.cells c.name.ensures c.in-Some.ensures.value)
    (writes-by c.args.self.now.cells (c.get_mut.follows.lender parked) parked c.name.ensures (c.get_mut.follows.holds parked))
    (λ was. record {
      state = lent-key images c.args.lease c.args.lease.name inside.vm.value refl (ap (λ (l : Lent). l.key) c.lease.view_is) lent;
      broods = was.broods;
    }) h

pub returns-then-is_err-clause-images : goal.returns-then-is_err-clause-images
returns-then-is_err-clause-images c images h lent =
    written images c.args.self.now.cells (c.get_mut.follows.lender c.join.new.self) c.args.lease.name c.in-Some.cell.now c.join.new.self
    (found-by c.args.self.now.cells c.name.ensures c.in-Some.ensures.value)
    (writes-by c.args.self.now.cells (c.get_mut.follows.lender c.join.new.self) c.join.new.self c.name.ensures (c.get_mut.follows.holds c.join.new.self))
    (c.join.ensures.images images c.args.lease.name) h

pub returns-clause-images : goal.returns-clause-images
returns-clause-images c images h lent =
    c.place.ensures.images images
    (written images c.args.self.now.cells (c.get_mut.follows.lender c.join.new.self) c.args.lease.name c.in-Some.cell.now c.join.new.self
    (found-by c.args.self.now.cells c.name.ensures c.in-Some.ensures.value)
    (writes-by c.args.self.now.cells (c.get_mut.follows.lender c.join.new.self) c.join.new.self c.name.ensures (c.get_mut.follows.holds c.join.new.self))
    (c.join.ensures.images images c.args.lease.name) h)
    (lent-key images c.args.lease c.lease.inside.turn.name c.join.new.vm (ap (λ (l : Lent). l.name) c.lease.view_is)
    (c.join.ensures.key ∙ ap (λ (v : KeyedMachine). v.key) c.deref_mut.ensures.value ∙ ap (λ (l : Lent). l.key) c.lease.view_is) lent)
