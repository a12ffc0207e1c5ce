use Rattle.std.proofs.Common.{◌≡◌, ◌/◌, ◌<◌, length, sym, subst}
use Rattle.std.specs.Prelude.{MatchBool}
use Rattle.page_frames.specs.declared.page.TheConstants.{PAGE_SIZE}
use Rattle.guest_mem.specs.Ram.{IsHere, Ram, memory_below, ram_of, stored}
use Rattle.guest_mem.proofs.Pages.{page_there, written_or_same}
use Rattle.guest_mem.proofs.memory.GuestMem.write_own.Goals as goal

pub write_own_page-requires-clause-there : goal.write_own_page-requires-clause-there
write_own_page-requires-clause-there c =
    let inside = subst (λ ram. c.args.at < length ram.reads) (sym c.self.view_is) c.requires.inside in
    page_there c.self.inside.entries (memory_below c.self.inside.key) c.args.at inside

pub returns : goal.returns
returns c =
    let inside = subst (λ ram. c.args.at < length ram.reads) (sym c.self.view_is) c.requires.inside in
    let new = ram_of c.write_own_page.new.table c.self.inside.key in
    subst (λ (old : Ram). MatchBool c.write_own_page.result ((new ≡ stored old c.args.at c.args.bytes.now) × IsHere old (c.args.at / PAGE_SIZE)) (new ≡ old)) c.self.view_is
    (written_or_same c.self.inside.entries c.write_own_page.new.table c.self.inside.key c.args.at c.args.bytes.now c.write_own_page.result inside c.requires.in_page c.write_own_page.ensures)
