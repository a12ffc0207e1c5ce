use Rattle.std.proofs.Common.{◌≡◌, ℕ, ◌+◌, ◌-◌, ◌≤◌, Result, Ok, Err, IfOk, OnErr, refl, sym, ap, ap₂, ◌∙◌, subst, arith}
use Rattle.std.specs.declared.alloc.AllocError.{AllocError}
use Rattle.forest_model.specs.Machine.{Machine, after_steps}
use Rattle.forest_model.proofs.Finish.{after_steps-add}
use Rattle.forest_model.proofs.Paged.{machine-advanced_by}
use Rattle.vm_cell.specs.Keyed.{KeyedMachine, paged}
use Rattle.vm_cell.specs.Steps.{moved_by}
use Rattle.vm_cell.specs.declared.vm.Ran.{Ran}
use Rattle.world_core.specs.Answers.{IsHandedOut}
use Rattle.world_core.specs.Lent.{Lent, IsLent, lent_as}
use Rattle.world_core.proofs.Arriving.{handed-run, led-run}
use Rattle.world_core.proofs.lease.Lease.run.Goals as goal

-- the machine has made so many more steps
lent-longer : (start old new : Machine) (ran more : ℕ) → IsLent start ran old → new ≡ after_steps more old → new.steps ≡ old.steps + more
    → IsLent start (ran + (new.steps - old.steps)) new
lent-longer start old new ran more lent after made =
    let are : new.steps - old.steps ≡ more = omega arith in
    let sum : IsLent start (ran + more) new = record {
      after = after ∙ ap (after_steps more) lent.after ∙ sym (after_steps-add ran more start);
      each_made = omega (arith, lent.each_made);
    } in
    subst (λ n. IsLent start (ran + n) new) (sym are) sum

-- a run of the machine with its pages is a run of the machine
machine-moved : (n : ℕ) (old new : KeyedMachine) → new ≡ moved_by n old → new.machine ≡ after_steps n old.machine
machine-moved n old new is = ap (λ (v : KeyedMachine). v.machine) is ∙ machine-advanced_by n (paged old)

lent-by : (start : Machine) (old new : KeyedMachine) (ran : ℕ) (r : Result Ran AllocError) → IsLent start ran old.machine
    → IfOk r (λ ran. new ≡ moved_by ran.steps old) → IfOk r (λ ran. new.machine.steps ≡ old.machine.steps + ran.steps)
    → OnErr r (new ≡ moved_by (new.machine.steps - old.machine.steps) old) → OnErr r (old.machine.steps ≤ new.machine.steps)
    → IsLent start (ran + (new.machine.steps - old.machine.steps)) new.machine
lent-by start old new ran (Ok r) lent steps made err most =
    lent-longer start old.machine new.machine ran r.steps lent (machine-moved r.steps old new steps) made
lent-by start old new ran (Err e) lent steps made err most =
    let more = new.machine.steps - old.machine.steps in
    lent-longer start old.machine new.machine ran more lent (machine-moved more old new err) (omega arith)

-- it has made those that its count tells
moved-since : (since : ℕ) (old mid new : KeyedMachine) (r : Result Ran AllocError) → mid ≡ old → since ≡ new.machine.steps - mid.machine.steps
    → IfOk r (λ ran. new ≡ moved_by ran.steps mid) → IfOk r (λ ran. new.machine.steps ≡ mid.machine.steps + ran.steps)
    → OnErr r (new ≡ moved_by (new.machine.steps - mid.machine.steps) mid) → new ≡ moved_by since old
moved-since since old mid new (Ok r) first last steps made failed =
    let more : r.steps ≡ since = omega (arith, last) in
    steps ∙ ap₂ moved_by more first
moved-since since old mid new (Err e) first last steps made failed = failed ∙ ap₂ moved_by (sym last) first

pub invariant_of-self : goal.invariant_of-self
invariant_of-self c =
    let start = c.self.inside.start.value.machine in
    let old = c.deref_mut.result.now in let new = c.run-ran.new.self in
    let held : IsLent start c.self.inside.ran old.machine =
    subst (λ (v : KeyedMachine). IsLent start c.self.inside.ran v.machine) (sym c.deref_mut.ensures.value) c.self.invariant.made in
    let before : c.steps-before.result ≡ old.machine.steps =
    c.steps-before.ensures ∙ ap (λ (v : KeyedMachine). v.machine.steps) (c.deref.ensures ∙ sym c.deref_mut.ensures.value) in
    let after : c.steps.result ≡ new.machine.steps = c.steps.ensures ∙ ap (λ (v : KeyedMachine). v.machine.steps) c.deref-2.ensures in
    let more : c.steps.result - c.steps-before.result ≡ new.machine.steps - old.machine.steps = ap₂ (λ a b. a - b) after before in
    let lent = lent-by start old new c.self.inside.ran c.run-ran.result held c.run-ran.ensures.steps c.run-ran.ensures.each_made
    c.run-ran.ensures.err c.run-ran.ensures.err_steps in
    let since : ℕ = c.steps.result - c.steps-before.result in
    let moved : new ≡ moved_by since c.self.inside.vm.value =
    moved-since since c.self.inside.vm.value old new c.run-ran.result c.deref_mut.ensures.value more c.run-ran.ensures.steps c.run-ran.ensures.each_made
    c.run-ran.ensures.err in
    let lease_of : ℕ → KeyedMachine → Lent = λ ran v. lent_as c.self.inside.turn.name start ran v in
    let led = led-run (lease_of c.self.inside.ran c.self.inside.vm.value) (lease_of (c.self.inside.ran + since) new) since refl c.self.invariant.made refl moved
    c.self.invariant.led in
    record { own = c.self.invariant.own; kin = c.self.invariant.kin; made = subst (λ n. IsLent start (c.self.inside.ran + n) new.machine) (sym more) lent; led = led }

pub returns-clause-handed : goal.returns-clause-handed
returns-clause-handed c = λ f out_as.
    let inside = c.self.inside in
    let start = inside.start.value.machine in
    let name = inside.turn.name in
    let old : Lent = lent_as name start inside.ran inside.vm.value in
    let mid = c.deref_mut.result.now in
    let new = c.run-ran.new.self in
    let before : c.steps-before.result ≡ mid.machine.steps =
    c.steps-before.ensures ∙ ap (λ (v : KeyedMachine). v.machine.steps) (c.deref.ensures ∙ sym c.deref_mut.ensures.value) in
    let after : c.steps.result ≡ new.machine.steps = c.steps.ensures ∙ ap (λ (v : KeyedMachine). v.machine.steps) c.deref-2.ensures in
    let since : ℕ = c.steps.result - c.steps-before.result in
    let moved : new ≡ moved_by since inside.vm.value =
    moved-since since inside.vm.value mid new c.run-ran.result c.deref_mut.ensures.value (ap₂ (λ a b. a - b) after before)
    c.run-ran.ensures.steps c.run-ran.ensures.each_made c.run-ran.ensures.err in
    handed-run f old (lent_as name start (inside.ran + since) new) since (record { name = refl; start = refl; key = ap (λ (v : KeyedMachine). v.key) moved })
    c.self.invariant.made refl moved (subst (IsHandedOut f) (sym c.self.view_is) out_as)
