use Rattle.std.proofs.Common.{length, refl, sym, ap, ◌∙◌, subst}
use Rattle.port_map.specs.Bus.{WantsMemory, place_of, port_store}
use Rattle.guest_mem.specs.Ram.{disk_below}
use Rattle.vm_bus.specs.Bus.{BusParts}
use Rattle.vm_hart.specs.Acts.{LeavesTo}
use Rattle.vm_hart.specs.Hart.{hart_of}
use Rattle.vm_hart.specs.Keyed.{KeyedState}
use Rattle.vm_hart.proofs.Ports.{based-stays, bus-here, entries-stay, if_ok-both, leaves-to, ports-alone}
use Rattle.vm_hart.proofs.hart.Hart.store_port.Goals as goal

pub store-requires-clause-here : goal.store-requires-clause-here
store-requires-clause-here c =
    let h = c.self.inside in
    bus-here h.memory.here h.ports (disk_below h.memory.key) c.self.invariant.entries c.args.self.now.state
    (ap (λ (k : KeyedState). k.state.ports) (sym c.self.view_is)) (ap (λ (k : KeyedState). length k.state.ram) (sym c.self.view_is) ∙ c.pages.ensures.is_ram.whole_pages)
    (place_of c.args.address) c.args.width c.args.word c.args.self.now.pages
    (ap (λ (k : KeyedState). k.pages.here) (sym c.self.view_is)) c.requires.here

pub invariant_of-self : goal.invariant_of-self
invariant_of-self c = record {
  zero_register = c.self.invariant.zero_register;
  aligned = c.self.invariant.aligned;
  reservation = c.self.invariant.reservation;
  entries = entries-stay c.self.inside.ports.block.disk c.store.new.self.block.disk c.store.ensures.pages c.store.ensures.sectors c.self.invariant.entries;
  based = based-stays c.self.inside.memory.key c.self.inside.ports.block.disk c.store.new.self.block.disk c.store.ensures.pages c.store.ensures.sectors c.self.invariant.based;
}

pub returns-clause-ok : goal.returns-clause-ok
returns-clause-ok c =
    let h = c.self.inside in
    let below = disk_below h.memory.key in
    let make : BusParts → KeyedState = λ p. hart_of h.registers h.pc h.csrs h.reservation h.memory p in
    if_ok-both c.store.result _ _ _
    (λ effect over waits. record {
      is = ap (λ (k : KeyedState). port_store k.state.ports c.args.address c.args.width c.args.word) (sym c.self.view_is)
          ∙ over below;
      rest = ports-alone h.registers h.pc h.csrs h.reservation h.memory h.ports c.store.new.self c.store.ensures.pages c.args.self.now c.self.view_is;
      leaves = subst (λ k. LeavesTo k (make c.store.new.self) effect) c.self.view_is (leaves-to make h.ports c.store.new.self effect (λ p. refl) waits);
    }) c.store.ensures.ok c.store.ensures.waits

pub returns-clause-fault : goal.returns-clause-fault
returns-clause-fault c is_fault =
    let h = c.self.inside in
    ap (λ (k : KeyedState). port_store k.state.ports c.args.address c.args.width c.args.word) (sym c.self.view_is)
    ∙ (c.store.ensures.fault (disk_below h.memory.key)).0 is_fault

pub returns-clause-memory : goal.returns-clause-memory
returns-clause-memory c is_memory =
    let h = c.self.inside in
    let below = disk_below h.memory.key in
    subst (λ (k : KeyedState). WantsMemory k.state.ports c.args.address c.args.width c.args.word) c.self.view_is (c.store.ensures.memory is_memory below)
