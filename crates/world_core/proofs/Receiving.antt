-- A page comes to a machine on lease.
use Rattle.std.proofs.Common.{◌≡◌, ◌⊎◌, ℕ, Some, Result, Ok, Err, IfOk, OnErr, ap, ap₂, ◌∙◌, subst}
use Rattle.std.specs.declared.alloc.AllocError.{AllocError}
use Rattle.std.proofs.lemmas.Result.{IfOk-weaker}
use Rattle.cow_disk.specs.declared.arrived.Arrived.{Arrived}
use Rattle.image_depot.specs.Receiver.{IsHad}
use Rattle.image_depot.specs.Reply.{Reply}
use Rattle.forest_tree.specs.Tree.{Path}
use Rattle.forest_model.specs.Machine.{Machine}
use Rattle.forest_model.specs.Paged.{AreFlagged, stalled_at}
use Rattle.vm_cell.specs.Keyed.{Arrives, KeyedMachine, paged}
use Rattle.vm_cell.proofs.Receiving as vm
use Rattle.world_core.specs.Lent.{Lent, IsSameLease, lent_as, vm_of}
use Rattle.world_core.specs.Received.{lent_without_here}

-- no more than the machine on it changes
vm-err : (old new : Lent) (r : Result Arrived AllocError) → OnErr r (new ≡ old) → OnErr r (vm_of new ≡ vm_of old)
vm-err old new (Ok answer) err = tt
vm-err old new (Err e) err = ap vm_of err

pub wanted-arrived : (old new : Lent) (reply : Reply) (r : Result Arrived AllocError) → new.now ≡ old.now
    → IfOk r (Arrives old.key old.pages reply new.pages) → OnErr r (new ≡ old)
    → (stalled_at (paged (vm_of new)) ≡ stalled_at (paged (vm_of old))) ⊎ (stalled_at (paged (vm_of old)) ≡ Some reply.page)
wanted-arrived old new reply r now h err = vm.wanted-arrived (vm_of old) (vm_of new) reply r now h (vm-err old new r err)

same-as : (name other : Path) (start first : Machine) (ran before : ℕ) (v u : KeyedMachine) → name ≡ other → start ≡ first → ran ≡ before → v ≡ u
    → lent_as name start ran v ≡ lent_as other first before u
same-as name other start first ran before v u en es er ev =
    ap₂ (λ n s. lent_as n s ran v) en es ∙ ap₂ (λ k w. lent_as other first k w) er ev

pub rest-arrived : (old new : Lent) (reply : Reply) (r : Result Arrived AllocError) → IsSameLease old new → new.ran ≡ old.ran → new.now ≡ old.now
    → IfOk r (Arrives old.key old.pages reply new.pages) → OnErr r (new ≡ old) → lent_without_here new ≡ lent_without_here old
rest-arrived old new reply r same ran now h err =
    same-as new.name old.name new.start old.start new.ran old.ran _ _ same.name same.start ran
    (vm.rest-arrived (vm_of old) (vm_of new) reply r now same.key h (vm-err old new r err))

-- a lease whose machine has had the page is as it was
pub had-arrived : (old new : Lent) (reply : Reply) (r : Result Arrived AllocError) → IsSameLease old new → new.ran ≡ old.ran → new.now ≡ old.now
    → IfOk r (Arrives old.key old.pages reply new.pages) → IfOk r (λ answer. IsHad answer → new ≡ old)
had-arrived old new reply r same ran now h =
    IfOk-weaker r _ _
    (λ answer stays had. same-as new.name old.name new.start old.start new.ran old.ran _ _ same.name same.start ran (stays had))
    (vm.had-arrived (vm_of old) (vm_of new) reply r now same.key h)

-- a lease has a flag for each page of its machine
pub flagged-of : (v : KeyedMachine) (lease : Lent) → v ≡ vm_of lease → AreFlagged v.machine.state v.pages → AreFlagged lease.now.state lease.pages
flagged-of v lease same flagged = subst (λ (u : KeyedMachine). AreFlagged u.machine.state u.pages) same flagged
