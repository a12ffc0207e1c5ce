use Rattle.std.proofs.Common.{◌≡◌, IfOk, OnErr, refl, sym, ap, ◌∙◌, subst}
use Rattle.vm_cell.specs.Keyed.{Arrives, KeyedMachine}
use Rattle.world_core.specs.Answers.{IsHandedOut}
use Rattle.world_core.specs.Arrived.{after_arrival}
use Rattle.world_core.specs.Lent.{Lent, IsLent, lent_as}
use Rattle.world_core.specs.World.{StandsFor}
use Rattle.world_core.proofs.Arriving.{arrives-ok, led-arrives}
use Rattle.world_core.proofs.lease.Lease.arrive.Goals as goal

pub invariant_of-self : goal.invariant_of-self
invariant_of-self c =
    let inside = c.self.inside in
    let start = inside.start.value.machine in
    let lease_of : KeyedMachine → Lent = λ v. lent_as inside.turn.name start inside.ran v in
    let old = inside.vm.value in
    let new = c.arrive.new.self in
    let come = subst (λ (v : KeyedMachine). IfOk c.arrive.result (Arrives v.key v.pages c.args.parcel.now new.pages)) c.deref_mut.ensures.value
    c.arrive.ensures.arrives in
    let failed = subst (λ (v : KeyedMachine). OnErr c.arrive.result (new ≡ v)) c.deref_mut.ensures.value c.arrive.ensures.err in
    let same : new.machine ≡ old.machine = c.arrive.ensures.rest.0 ∙ ap (λ (v : KeyedMachine). v.machine) c.deref_mut.ensures.value in
    record {
      own = c.self.invariant.own;
      kin = c.self.invariant.kin;
      made = subst (IsLent start inside.ran) (sym same) c.self.invariant.made;
      led = led-arrives (lease_of old) (lease_of new) old.key c.args.parcel.now c.arrive.result refl refl come failed c.self.invariant.led;
    }

pub returns-clause-handed : goal.returns-clause-handed
returns-clause-handed c = λ w f stands out_as.
    let inside = c.self.inside in
    let depot = c.args.depot.now in
    let lease_of : KeyedMachine → Lent = λ v. lent_as inside.turn.name inside.start.value.machine inside.ran v in
    let new : Lent = lease_of c.arrive.new.self in
    let come = subst (λ (v : KeyedMachine). IfOk c.arrive.result (Arrives v.key v.pages c.args.parcel.now c.arrive.new.self.pages)) c.deref_mut.ensures.value
    c.arrive.ensures.arrives in
    subst (λ (l : Lent). IfOk c.arrive.result (λ answer. StandsFor depot w (after_arrival l.name answer f) × IsHandedOut (after_arrival l.name answer f) new))
    c.self.view_is
    (arrives-ok depot w f (lease_of inside.vm.value) new inside.vm.value.key c.args.parcel.now c.arrive.result refl refl refl come stands
    (subst (IsHandedOut f) (sym c.self.view_is) out_as))
