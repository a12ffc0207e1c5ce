use Rattle.std.proofs.Common.{◌≡◌, ◌/◌, subst}
use Rattle.std.specs.Prelude.{MatchResult}
use Rattle.byteorder.specs.Endian.{little_from}
use Rattle.cow_disk.specs.Paged.{here_pages}
use Rattle.page_frames.specs.declared.page.TheConstants.{PAGE_SIZE}
use Rattle.vm_hart.specs.Keyed.{KeyedState, IsAbsent, IsHere}
use Rattle.vm_hart.proofs.Disks.{load-flag}
use Rattle.vm_hart.proofs.hart.Hart.load_at.Goals as goal

pub returns : goal.returns
returns c =
    let h = c.self.inside in
    subst
    (λ (k : KeyedState). MatchResult c.load.result (λ number. (number ≡ little_from c.args.offset c.args.width k.state.ram) × IsHere k.pages (c.args.offset / PAGE_SIZE))
    (λ absent. IsAbsent k.pages (c.args.offset / PAGE_SIZE)))
    c.self.view_is (load-flag h.memory.reads h.memory.here (here_pages h.ports.block.disk) c.args.offset c.args.width c.load.result c.load.ensures)
