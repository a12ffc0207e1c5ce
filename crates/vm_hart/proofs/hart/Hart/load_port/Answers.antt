use Rattle.std.proofs.Common.{sym, ap, ◌∙◌, subst}
use Rattle.std.proofs.lemmas.Result.{IfOk-weaker}
use Rattle.cow_disk.specs.Paged.{PagedDisk, here_pages}
use Rattle.port_map.specs.Bus.{port_load}
use Rattle.guest_mem.specs.Ram.{IsDiskBased, disk_below}
use Rattle.vm_hart.specs.Keyed.{KeyedState}
use Rattle.vm_hart.proofs.Ports.{entries-stay, ports-alone}
use Rattle.vm_hart.proofs.hart.Hart.load_port.Goals as goal

pub invariant_of-self : goal.invariant_of-self
invariant_of-self c =
    let h = c.self.inside in
    let same = c.load.ensures.disk in
    record {
      zero_register = c.self.invariant.zero_register;
      aligned = c.self.invariant.aligned;
      reservation = c.self.invariant.reservation;
      entries = entries-stay h.ports.block.disk c.load.new.self.block.disk (ap here_pages same) (ap (λ (d : PagedDisk). d.sectors) same) c.self.invariant.entries;
      based = subst (λ (d : PagedDisk). IsDiskBased d h.memory.key) (sym same) c.self.invariant.based;
    }

pub returns-clause-ok : goal.returns-clause-ok
returns-clause-ok c =
    let h = c.self.inside in
    let below = disk_below h.memory.key in
    IfOk-weaker c.load.result _ _
    (λ value over. record {
      is = ap (λ (k : KeyedState). port_load k.state.ports c.args.address c.args.width) (sym c.self.view_is)
          ∙ over below;
      rest = ports-alone h.registers h.pc h.csrs h.reservation h.memory h.ports c.load.new.self (ap here_pages c.load.ensures.disk) c.args.self.now c.self.view_is;
    }) c.load.ensures.ok

pub returns-clause-fault : goal.returns-clause-fault
returns-clause-fault c is_err =
    let h = c.self.inside in
    ap (λ (k : KeyedState). port_load k.state.ports c.args.address c.args.width) (sym c.self.view_is)
    ∙ (c.load.ensures.fault (disk_below h.memory.key)).0 is_err
