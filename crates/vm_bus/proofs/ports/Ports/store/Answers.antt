use Rattle.std.proofs.Common.{◌≡◌, ◌↔◌, List, ℕ, Some, None, IfOk, IsErrOf, subst, sym}
use Rattle.port_error.specs.declared.PortError.TheVariants.{Fault}
use Rattle.port_map.specs.Bus.{IsAt, WantsMemoryAt, port_store, store_at}
use Rattle.vm_bus.specs.Bus.{bus_over, IsDiskPageHereAt}
use Rattle.vm_bus.proofs.ports.Ports.store.Goals as goal

pub store_at-requires : goal.store_at-requires
store_at-requires c = record {
  ticket = λ place word. c.requires.ticket (subst (IsAt c.args.address) place c.place_of.ensures.offset) word;
  here = subst (λ p. IsDiskPageHereAt p c.args.self.now c.args.width c.args.word) (sym c.place_of.ensures.value) c.requires.here;
}

pub returns-clause-ok : goal.returns-clause-ok
unfolding port_store
returns-clause-ok c =
    subst (λ p. IfOk c.store_at.result (λ effect. (below : List ℕ) → store_at p (bus_over c.args.self.now below) c.args.width c.args.word
    ≡ Some (record { ports = bus_over c.store_at.new.self below; effect = effect })))
    c.place_of.ensures.value c.store_at.ensures.ok

pub returns-clause-fault : goal.returns-clause-fault
unfolding port_store
returns-clause-fault c = λ below.
    subst (λ p. IsErrOf c.store_at.result Fault ↔ (store_at p (bus_over c.args.self.now below) c.args.width c.args.word ≡ None)) c.place_of.ensures.value
    (c.store_at.ensures.fault below)

pub returns-clause-memory : goal.returns-clause-memory
returns-clause-memory c = λ wants below.
    subst (λ p. WantsMemoryAt p (bus_over c.args.self.now below) c.args.width c.args.word) c.place_of.ensures.value (c.store_at.ensures.memory wants below)
