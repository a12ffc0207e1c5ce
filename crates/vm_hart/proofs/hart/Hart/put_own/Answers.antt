use Rattle.std.proofs.Common.{◌/◌, true, ap, ◌∙◌, subst}
use Rattle.byteorder.specs.Endian.{little_bytes}
use Rattle.flat_memory.specs.Flat.{put_bytes}
use Rattle.page_frames.specs.declared.page.TheConstants.{PAGE_SIZE}
use Rattle.cow_disk.specs.Paged.{here_pages}
use Rattle.guest_mem.specs.Ram.{Ram}
use Rattle.forest_model.specs.Footprint.{puts}
use Rattle.forest_model.specs.Paged.{pages_after}
use Rattle.vm_hart.specs.Hart.{hart_of}
use Rattle.vm_hart.specs.Keyed.{KeyedState, IsHere}
use Rattle.vm_hart.proofs.Disks.{MatchBool-weaker, flag-ram}
use Rattle.vm_hart.proofs.hart.Hart.put_own.Goals as goal

pub returns : goal.returns
returns c =
    let h = c.self.inside in
    let at = c.args.offset in
    let bytes = little_bytes c.args.width c.args.word in
    MatchBool-weaker c.store_own.result
    (λ stored. (
      subst (λ (k : KeyedState). IsHere k.pages (at / PAGE_SIZE)) c.self.view_is (flag-ram h.memory.here (here_pages h.ports.block.disk) (at / PAGE_SIZE) true stored.1),
      ap (λ (m : Ram). hart_of h.registers h.pc h.csrs h.reservation m h.ports) stored.0
          ∙ ap (λ (k : KeyedState). record k { state = record k.state { ram = put_bytes k.state.ram at bytes }; pages = pages_after (puts (at / PAGE_SIZE)) k.pages }) c.self.view_is,
    ))
    (λ same. ap (λ (m : Ram). hart_of h.registers h.pc h.csrs h.reservation m h.ports) same ∙ c.self.view_is)
    c.store_own.ensures
