use Rattle.std.proofs.Common.{◌≡◌, ◌↔◌, List, ℕ, Some, None, IfOk, IsErr, subst}
use Rattle.port_map.specs.Bus.{load_at, port_load}
use Rattle.vm_bus.specs.Bus.{bus_over}
use Rattle.vm_bus.proofs.ports.Ports.load.Goals as goal

pub returns-clause-ok : goal.returns-clause-ok
unfolding port_load
returns-clause-ok c =
    subst (λ p. IfOk c.load_at.result (λ value. (below : List ℕ) → load_at p (bus_over c.args.self.now below) c.args.width ≡ Some (record { ports = bus_over c.load_at.new.self below; value = value })))
    c.place_of.ensures.value c.load_at.ensures.ok

pub returns-clause-fault : goal.returns-clause-fault
unfolding port_load
returns-clause-fault c = λ below.
    subst (λ p. IsErr c.load_at.result ↔ (load_at p (bus_over c.args.self.now below) c.args.width ≡ None)) c.place_of.ensures.value (c.load_at.ensures.fault below)
