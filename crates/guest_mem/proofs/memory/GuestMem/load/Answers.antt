use Rattle.std.proofs.Common.{◌%◌, ◌/◌, ◌<◌, true, false, length, sym, ap, ◌∙◌, subst, arith}
use Rattle.std.specs.Prelude.{slice_get}
use Rattle.byteorder.specs.Endian.{little_from}
use Rattle.page_frames.specs.declared.page.TheConstants.{PAGE_SIZE}
use Rattle.page_frames.specs.Tables.{entry_bytes, is_own}
use Rattle.page_frames.proofs.Memory.{little_from-zeros}
use Rattle.guest_mem.specs.Ram.{memory_below}
use Rattle.guest_mem.proofs.Pages.{access_fits, page_there, is_here, load_own}
use Rattle.guest_mem.proofs.memory.GuestMem.load.Goals as goal

pub get-requires : goal.get-requires
get-requires c =
    let inside = subst (λ ram. c.args.at < length ram.reads) (sym c.self.view_is) c.requires.inside in
    page_there c.self.inside.entries (memory_below c.self.inside.key) c.args.at inside

pub number_in-requires : goal.number_in-requires
number_in-requires c = record { width = c.requires.width; within = access_fits c.args.at c.args.width c.requires.width c.requires.aligned }

pub returns-in-Held : goal.returns-in-Held
returns-in-Held c =
    let inside = subst (λ ram. c.args.at < length ram.reads) (sym c.self.view_is) c.requires.inside in
    let within = access_fits c.args.at c.args.width c.requires.width c.requires.aligned in
    let below = memory_below c.self.inside.key in
    let own = ap is_own c.in-Held.is in (
      c.number_in.ensures
          ∙ ap (λ entry. little_from (c.args.at % PAGE_SIZE) c.args.width (entry_bytes entry)) (sym c.in-Held.is)
          ∙ load_own c.self.inside.entries below c.args.at c.args.width inside within c.get.result.now c.get.ensures own
          ∙ ap (λ ram. little_from c.args.at c.args.width ram.reads) c.self.view_is,
      ap (λ ram. slice_get ram.here (c.args.at / PAGE_SIZE)) (sym c.self.view_is)
          ∙ is_here c.self.inside.entries below c.args.at c.args.width inside within c.get.result.now c.get.ensures true own,
    )

pub returns-in-Blank : goal.returns-in-Blank
returns-in-Blank c =
    let inside = subst (λ ram. c.args.at < length ram.reads) (sym c.self.view_is) c.requires.inside in
    let within = access_fits c.args.at c.args.width c.requires.width c.requires.aligned in
    let below = memory_below c.self.inside.key in
    let own = ap is_own c.in-Blank.is in (
      sym (little_from-zeros (c.args.at % PAGE_SIZE) c.args.width PAGE_SIZE)
          ∙ ap (λ entry. little_from (c.args.at % PAGE_SIZE) c.args.width (entry_bytes entry)) (sym c.in-Blank.is)
          ∙ load_own c.self.inside.entries below c.args.at c.args.width inside within c.get.result.now c.get.ensures own
          ∙ ap (λ ram. little_from c.args.at c.args.width ram.reads) c.self.view_is,
      ap (λ ram. slice_get ram.here (c.args.at / PAGE_SIZE)) (sym c.self.view_is)
          ∙ is_here c.self.inside.entries below c.args.at c.args.width inside within c.get.result.now c.get.ensures true own,
    )

pub returns-in-Absent : goal.returns-in-Absent
returns-in-Absent c =
    let inside = subst (λ ram. c.args.at < length ram.reads) (sym c.self.view_is) c.requires.inside in
    let within = access_fits c.args.at c.args.width c.requires.width c.requires.aligned in
    let below = memory_below c.self.inside.key in (
      omega arith,
      ap (λ ram. slice_get ram.here (c.args.at / PAGE_SIZE)) (sym c.self.view_is)
          ∙ is_here c.self.inside.entries below c.args.at c.args.width inside within c.get.result.now c.get.ensures false (ap is_own c.in-Absent.is),
    )
