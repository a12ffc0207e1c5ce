use Rattle.std.proofs.Common.{◌≡◌, ◌%◌, ◌/◌, ◌+◌, ◌<◌, ◌≤◌, true, false, Some, length, sym, ap, ◌∙◌, subst, arith}
use Rattle.std.specs.Prelude.{slice_get}
use Rattle.byteorder.specs.Endian.{little_from}
use Rattle.page_frames.specs.declared.page.TheConstants.{PAGE_SIZE}
use Rattle.page_frames.specs.Tables.{entry_bytes, is_own}
use Rattle.page_frames.proofs.Memory.{little_from-zeros}
use Rattle.guest_mem.specs.Ram.{memory_below}
use Rattle.guest_mem.proofs.Pages.{page_there, is_here, load_own}
use Rattle.guest_mem.proofs.memory.GuestMem.byte.Goals as goal

pub get-requires : goal.get-requires
get-requires c =
    let inside = subst (λ ram. c.args.at < length ram.reads) (sym c.self.view_is) c.requires.inside in
    page_there c.self.inside.entries (memory_below c.self.inside.key) c.args.at inside

pub returns-in-Held : goal.returns-in-Held
returns-in-Held c =
    let inside = subst (λ ram. c.args.at < length ram.reads) (sym c.self.view_is) c.requires.inside in
    let within : c.args.at % PAGE_SIZE + 1 ≤ PAGE_SIZE = omega arith in
    let number = ap (λ entry. little_from (c.args.at % PAGE_SIZE) 1 (entry_bytes entry)) (sym c.in-Held.is)
    ∙ load_own c.self.inside.entries (memory_below c.self.inside.key) c.args.at 1 inside within c.get.result.now c.get.ensures (ap is_own c.in-Held.is)
    ∙ ap (λ ram. little_from c.args.at 1 ram.reads) c.self.view_is in
    c.byte.ensures.value ∙ omega (arith, number)

pub returns-in-Blank : goal.returns-in-Blank
returns-in-Blank c =
    let inside = subst (λ ram. c.args.at < length ram.reads) (sym c.self.view_is) c.requires.inside in
    let within : c.args.at % PAGE_SIZE + 1 ≤ PAGE_SIZE = omega arith in
    let number = sym (little_from-zeros (c.args.at % PAGE_SIZE) 1 PAGE_SIZE)
    ∙ ap (λ entry. little_from (c.args.at % PAGE_SIZE) 1 (entry_bytes entry)) (sym c.in-Blank.is)
    ∙ load_own c.self.inside.entries (memory_below c.self.inside.key) c.args.at 1 inside within c.get.result.now c.get.ensures (ap is_own c.in-Blank.is)
    ∙ ap (λ ram. little_from c.args.at 1 ram.reads) c.self.view_is in
    omega (arith, number)

pub unreachable-requires : goal.unreachable-requires
unreachable-requires c =
    let inside = subst (λ ram. c.args.at < length ram.reads) (sym c.self.view_is) c.requires.inside in
    let within : c.args.at % PAGE_SIZE + 1 ≤ PAGE_SIZE = omega arith in
    let absent = ap (λ ram. slice_get ram.here (c.args.at / PAGE_SIZE)) (sym c.self.view_is)
    ∙ is_here c.self.inside.entries (memory_below c.self.inside.key) c.args.at 1 inside within c.get.result.now c.get.ensures false (ap is_own c.in-Absent.is) in
    let both : Some true ≡ Some false = sym c.requires.here ∙ absent in
    absurd (cc)
