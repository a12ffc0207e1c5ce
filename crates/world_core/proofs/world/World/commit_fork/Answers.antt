use Rattle.world_core.specs.Images.{HaveImages, IsPreparedAt}
use Rattle.world_core.proofs.AtName.{found-by, lent-by, writes-by}
use Rattle.world_core.proofs.Images.{written, lent-key, prepared-at}
use Rattle.std.proofs.Common.{◌≡◌, ℕ, refl, sym, ap, ◌∙◌, subst}
use Rattle.std.specs.Result.{IfOk}
use Rattle.image_depot.specs.Key.{Shelves}
use Rattle.forest_tree.specs.Operations.{clone}
use Rattle.forest_tree.specs.Tree.{Tree, Path}
use Rattle.talking_history.specs.Rows as rows
use Rattle.forest_model.specs.Calls.{forked}
use Rattle.vm_cell.specs.Keyed.{KeyedMachine, paged}
use Rattle.vm_cell.specs.Standing.{standing_call}
use Rattle.vm_cell.specs.declared.vm.fork.ForkImage.{ForkImage}
use Rattle.world_core.specs.Lent.{Lent, lent_as, vm_of}
use Rattle.world_core.specs.PreparedFork.{IsPreparedIn, IsPreparedFor, IsNewBrood, Prepared}
use Rattle.world_core.specs.Shows.{Member, Holds, HoldsAfter, StandsAt, forked_tree}
use Rattle.world_core.specs.Answers.{Answers}
use Rattle.world_core.proofs.Calling.{gone-here, at-ok, at-err, same-image}
use Rattle.world_core.proofs.CallFork.{committed, forked-key, fork-kept, prepared-stands, stands-clone}
use Rattle.world_core.proofs.TurnOrder.{keeps-last}
use Rattle.world_core.proofs.world.World.commit_fork.Goals as goal

pub returns-in_default-clause-answers : goal.returns-in_default-clause-answers
returns-in_default-clause-answers c depot f stands out_as of_depot kept =
    gone-here depot c.args.self.now _ f c.args.lease stands out_as
    (found-by c.args.self.now.cells c.name.ensures c.in_default.ensures.value)
    (ap (λ cells. record c.args.self.now { cells = cells }) c.get_mut.follows.holds-at-none)

pub returns-in_default-prepared-clause-answers : goal.returns-in_default-prepared-clause-answers
returns-in_default-prepared-clause-answers c depot f stands out_as of_depot kept =
    let at = stands-clone (standing_call (vm_of c.args.lease)) c.requires.clone in (
      tt,
      refl,
      fork-kept depot c.args.self.now f c.args.lease at.0 c.in-Some.cell.now stands out_as
          (lent-by c.lease.view_is c.lease.invariant.made) at.1
          (found-by c.args.self.now.cells c.name.ensures c.in-Some.ensures.value)
          (c.get_mut.follows.lender c.in-Some.cell.now) c.in-Some.cell.now
          (writes-by c.args.self.now.cells (c.get_mut.follows.lender c.in-Some.cell.now) c.in-Some.cell.now c.name.ensures (c.get_mut.follows.holds c.in-Some.cell.now))
          refl refl refl (λ t holds. holds),
    )

pub fork-requires : goal.fork-requires
fork-requires c =
    let is_there = c.in-Ok.is in
    let prepared : Prepared = c.in-Ok.prepared in
    let of : IsPreparedFor c.args.lease prepared = subst (λ o. IfOk o (IsPreparedFor c.args.lease)) is_there c.requires.prepared in
    let ticket : ℕ = c.into_brood-ticket.result.0 in
    let is_vm = c.deref_mut.ensures.value ∙ ap vm_of c.lease.view_is in
    record { clones = prepared-stands c.args.lease prepared ticket c.deref_mut.result.now of c.into_brood-ticket.ensures.ticket is_vm }

pub returns-then-is_err-clause-answers : goal.returns-then-is_err-clause-answers
returns-then-is_err-clause-answers c depot f stands out_as of_depot kept =
    let is_there = c.in-Ok.is in
    let prepared : Prepared = c.in-Ok.prepared in
    let of : IsPreparedFor c.args.lease prepared = subst (λ o. IfOk o (IsPreparedFor c.args.lease)) is_there c.requires.prepared in
    let ticket : ℕ = c.into_brood-ticket.result.0 in
    let is_vm = c.deref_mut.ensures.value ∙ ap vm_of c.lease.view_is in
    let failed = sym c.is_err.ensures.value ∙ c.if-is_err.true in
    let inside = c.lease.inside in
    let lease_of : KeyedMachine → Lent = λ v. lent_as inside.turn.name inside.start.value.machine inside.ran v in (
      tt,
      ap lease_of (at-err (c.fork.new.vm ≡ c.deref_mut.result.now) c.fork.result failed c.fork.ensures.err ∙ c.deref_mut.ensures.value) ∙ c.lease.view_is,
      fork-kept depot c.args.self.now f c.args.lease ticket c.in-Some.cell.now stands out_as
          (lent-by c.lease.view_is c.lease.invariant.made)
          (sym (prepared-stands c.args.lease prepared ticket (vm_of c.args.lease) of c.into_brood-ticket.ensures.ticket refl))
          (found-by c.args.self.now.cells c.name.ensures c.in-Some.ensures.value)
          (c.get_mut.follows.lender c.fork.new.self) c.fork.new.self
          (writes-by c.args.self.now.cells (c.get_mut.follows.lender c.fork.new.self) c.fork.new.self c.name.ensures (c.get_mut.follows.holds c.fork.new.self))
          c.fork.ensures.place.0 c.fork.ensures.place.2 c.fork.ensures.place.1
          (λ t holds. at-err ((depot : Shelves) (path : Path) (t : Tree Member) → Holds depot path c.in-Some.cell.now t → Holds depot path c.fork.new.self t)
          c.fork.result failed c.fork.ensures.still depot c.args.lease.name t holds),
    )

pub place-requires-clause-between : goal.place-requires-clause-between
place-requires-clause-between c =
    let lent = c.requires.lent in
    let is_there = c.in-Ok.is in
    let prepared : Prepared = c.in-Ok.prepared in
    let of : IsPreparedFor c.args.lease prepared = subst (λ o. IfOk o (IsPreparedFor c.args.lease)) is_there c.requires.prepared in
    let ticket : ℕ = c.into_brood-ticket.result.0 in
    let is_vm = c.deref_mut.ensures.value ∙ ap vm_of c.lease.view_is in
    let made = sym c.is_err.ensures.value ∙ c.if-is_err.false in
    let vm_made = at-ok (c.fork.new.vm ≡ record c.deref_mut.result.now { machine = forked c.deref_mut.result.now.machine }) c.fork.result made c.fork.ensures.ok in
    let key = forked-key is_vm vm_made in
    let holds = at-ok ((depot : Shelves) (path : Path) (left : ForkImage) → IsNewBrood depot path c.deref_mut.result.now ticket c.into_brood-ticket.result.1 left
    → (t : Tree Member) → Holds depot path c.in-Some.cell.now t → StandsAt (paged c.deref_mut.result.now) (clone ticket) t
    → HoldsAfter depot path c.fork.new.self (forked_tree ticket t)) c.fork.result made c.fork.ensures.holds in
    let k = committed lent.0 c.args.self.now lent.1.0 c.args.lease prepared ticket c.in-Some.cell.now c.deref_mut.result.now lent.1.1 lent.1.2
    (lent-by c.lease.view_is c.lease.invariant.made) of c.into_brood-ticket.ensures.ticket is_vm (found-by c.args.self.now.cells c.name.ensures c.in-Some.ensures.value)
    (c.get_mut.follows.lender c.fork.new.self) c.fork.new.self c.push_last.new.self _ c.into_brood-ticket.result.1 c.into_brood-ticket.result.2 c.fork.new.vm
    (ap (λ (l : Lent). l.name) c.lease.view_is)
    (writes-by c.args.self.now.cells (c.get_mut.follows.lender c.fork.new.self) c.fork.new.self c.name.ensures (c.get_mut.follows.holds c.fork.new.self))
    (subst (λ o. IfOk o (IsPreparedIn lent.0)) is_there lent.2) c.into_brood-ticket.ensures.brood c.into_brood-ticket.ensures.turn
    (keeps-last c.into_brood-ticket.result.2 c.args.self.now.ready c.push_last.new.self c.push_last.ensures) c.fork.ensures.place.1 vm_made
    (holds lent.0 c.args.lease.name) in
    (lent.0, lent.1.0, k.tree, k.between, k.is, same-image lent.0 c.fork.new.vm c.args.lease key lent.1.3)

pub returns-clause-answers : goal.returns-clause-answers
returns-clause-answers c depot f stands out_as of_depot kept =
    let is_there = c.in-Ok.is in
    let prepared : Prepared = c.in-Ok.prepared in
    let of : IsPreparedFor c.args.lease prepared = subst (λ o. IfOk o (IsPreparedFor c.args.lease)) is_there c.requires.prepared in
    let ticket : ℕ = c.into_brood-ticket.result.0 in
    let is_vm = c.deref_mut.ensures.value ∙ ap vm_of c.lease.view_is in
    let made = sym c.is_err.ensures.value ∙ c.if-is_err.false in
    let vm_made = at-ok (c.fork.new.vm ≡ record c.deref_mut.result.now { machine = forked c.deref_mut.result.now.machine }) c.fork.result made c.fork.ensures.ok in
    let key = forked-key is_vm vm_made in
    let holds = at-ok ((depot : Shelves) (path : Path) (left : ForkImage) → IsNewBrood depot path c.deref_mut.result.now ticket c.into_brood-ticket.result.1 left
    → (t : Tree Member) → Holds depot path c.in-Some.cell.now t → StandsAt (paged c.deref_mut.result.now) (clone ticket) t
    → HoldsAfter depot path c.fork.new.self (forked_tree ticket t)) c.fork.result made c.fork.ensures.holds in
    let k = committed depot c.args.self.now f c.args.lease prepared ticket c.in-Some.cell.now c.deref_mut.result.now stands out_as
    (lent-by c.lease.view_is c.lease.invariant.made) of c.into_brood-ticket.ensures.ticket is_vm (found-by c.args.self.now.cells c.name.ensures c.in-Some.ensures.value)
    (c.get_mut.follows.lender c.fork.new.self) c.fork.new.self c.push_last.new.self _ c.into_brood-ticket.result.1 c.into_brood-ticket.result.2 c.fork.new.vm
    (ap (λ (l : Lent). l.name) c.lease.view_is)
    (writes-by c.args.self.now.cells (c.get_mut.follows.lender c.fork.new.self) c.fork.new.self c.name.ensures (c.get_mut.follows.holds c.fork.new.self))
    (subst (λ o. IfOk o (IsPreparedIn depot)) is_there kept) c.into_brood-ticket.ensures.brood c.into_brood-ticket.ensures.turn
    (keeps-last c.into_brood-ticket.result.2 c.args.self.now.ready c.push_last.new.self c.push_last.ensures) c.fork.ensures.place.1 vm_made
    (holds depot c.args.lease.name) in
    let p = c.place.ensures.placed depot f k.tree k.between k.is (same-image depot c.fork.new.vm c.args.lease key of_depot) k.whole in
    subst (λ r. Answers depot f rows.forked c.args.lease r c.place.new.self) (sym p.0) (k.goes c.place.new.self p.1)

pub returns-in_default-clause-images : goal.returns-in_default-clause-images
returns-in_default-clause-images c images h lent numbered = subst (HaveImages images) (sym c.get_mut.follows.holds-at-none) h

pub returns-in_default-prepared-clause-images : goal.returns-in_default-prepared-clause-images
returns-in_default-prepared-clause-images c images h lent numbered =
    written images c.args.self.now.cells (c.get_mut.follows.lender c.in-Some.cell.now) c.args.lease.name c.in-Some.cell.now c.in-Some.cell.now
    (found-by c.args.self.now.cells c.name.ensures c.in-Some.ensures.value)
    (writes-by c.args.self.now.cells (c.get_mut.follows.lender c.in-Some.cell.now) c.in-Some.cell.now c.name.ensures (c.get_mut.follows.holds c.in-Some.cell.now))
    (λ was. was) h

pub returns-then-is_err-clause-images : goal.returns-then-is_err-clause-images
returns-then-is_err-clause-images c images h lent numbered =
    let prepared : Prepared = c.in-Ok.prepared in
    let of : IsPreparedFor c.args.lease prepared = subst (λ o. IfOk o (IsPreparedFor c.args.lease)) c.in-Ok.is c.requires.prepared in
    let at : IsPreparedAt images prepared = subst (λ o. IfOk o (IsPreparedAt images)) c.in-Ok.is numbered in
    written images c.args.self.now.cells (c.get_mut.follows.lender c.fork.new.self) c.args.lease.name c.in-Some.cell.now c.fork.new.self
    (found-by c.args.self.now.cells c.name.ensures c.in-Some.ensures.value)
    (writes-by c.args.self.now.cells (c.get_mut.follows.lender c.fork.new.self) c.fork.new.self c.name.ensures (c.get_mut.follows.holds c.fork.new.self))
    (λ was. c.fork.ensures.images images c.args.lease.name was
    (prepared-at images c.args.lease prepared c.into_brood-ticket.result.0 c.into_brood-ticket.result.1 of c.into_brood-ticket.ensures.ticket
    c.into_brood-ticket.ensures.brood at)) h

pub returns-clause-images : goal.returns-clause-images
returns-clause-images c images h lent numbered =
    let prepared : Prepared = c.in-Ok.prepared in
    let of : IsPreparedFor c.args.lease prepared = subst (λ o. IfOk o (IsPreparedFor c.args.lease)) c.in-Ok.is c.requires.prepared in
    let at : IsPreparedAt images prepared = subst (λ o. IfOk o (IsPreparedAt images)) c.in-Ok.is numbered in
    let is_vm = c.deref_mut.ensures.value ∙ ap vm_of c.lease.view_is in
    let made = sym c.is_err.ensures.value ∙ c.if-is_err.false in
    let vm_made = at-ok (c.fork.new.vm ≡ record c.deref_mut.result.now { machine = forked c.deref_mut.result.now.machine }) c.fork.result made c.fork.ensures.ok in
    let key = forked-key is_vm vm_made in
    c.place.ensures.images images
    (written images c.args.self.now.cells (c.get_mut.follows.lender c.fork.new.self) c.args.lease.name c.in-Some.cell.now c.fork.new.self
    (found-by c.args.self.now.cells c.name.ensures c.in-Some.ensures.value)
    (writes-by c.args.self.now.cells (c.get_mut.follows.lender c.fork.new.self) c.fork.new.self c.name.ensures (c.get_mut.follows.holds c.fork.new.self))
    (λ was. c.fork.ensures.images images c.args.lease.name was
    (prepared-at images c.args.lease prepared c.into_brood-ticket.result.0 c.into_brood-ticket.result.1 of c.into_brood-ticket.ensures.ticket
    c.into_brood-ticket.ensures.brood at)) h)
    (lent-key images c.args.lease c.lease.inside.turn.name c.fork.new.vm (ap (λ (l : Lent). l.name) c.lease.view_is) key lent)
