use Rattle.std.proofs.Common.{◌+◌, ◌≤◌, length, ap, ◌∙◌, arith}
use Rattle.std.proofs.lemmas.Result.{on_ok_weaker}
use Rattle.guest_mem.specs.Ram.{Ram}
use Rattle.forest_model.specs.Footprint.{zeroes}
use Rattle.forest_model.specs.Memory.{with_zeros}
use Rattle.forest_model.specs.Paged.{Pages, pages_after}
use Rattle.vm_hart.specs.Hart.{hart_of}
use Rattle.vm_hart.specs.Keyed.{KeyedState}
use Rattle.vm_hart.proofs.Disks.{ram-zeroed}
use Rattle.vm_hart.proofs.hart.Hart.zero_at.Goals as goal

pub zero_pages-requires : goal.zero_pages-requires
zero_pages-requires c = omega (arith, c.requires, c.pages.ensures.is_ram.flagged, ap (λ (k : KeyedState). length k.pages.blank) c.self.view_is)

pub returns-clause-ok : goal.returns-clause-ok
returns-clause-ok c =
    let h = c.self.inside in
    let first = c.args.first in
    let count = c.args.count in
    let old : KeyedState = hart_of h.registers h.pc h.csrs h.reservation h.memory h.ports in
    let within : first + count ≤ length h.memory.here = omega (arith, c.requires, c.pages.ensures.is_ram.flagged, ap (λ (k : KeyedState). length k.pages.blank) c.self.view_is) in
    on_ok_weaker c.zero_pages.result
    (λ is.
    ap (λ (ram : Ram). hart_of h.registers h.pc h.csrs h.reservation ram h.ports) is
    ∙ ap (λ (pages : Pages). record old { state = with_zeros first count old.state; pages = pages }) (ram-zeroed h.memory.here h.memory.blank h.ports.block.disk first count within)
    ∙ ap (λ (k : KeyedState). record k { state = with_zeros first count k.state; pages = pages_after (zeroes first count) k.pages }) c.self.view_is)
    c.zero_pages.ensures.ok
