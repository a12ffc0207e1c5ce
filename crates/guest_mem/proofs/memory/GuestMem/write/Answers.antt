use Rattle.std.proofs.Common.{◌≡◌, ◌<◌, ◌/◌, true, false, length, refl, sym, ap, ◌∙◌, subst}
use Rattle.std.specs.Prelude.{slice_get}
use Rattle.page_frames.specs.declared.page.TheConstants.{PAGE_SIZE}
use Rattle.page_frames.specs.Tables.{is_own}
use Rattle.guest_mem.specs.Ram.{memory_below, ram_of, stored}
use Rattle.guest_mem.proofs.Pages.{page_there, is_entry, is_here, ram_of_store}
use Rattle.guest_mem.proofs.memory.GuestMem.write.Goals as goal

pub get-requires : goal.get-requires
get-requires c =
    let inside = subst (λ ram. c.args.at < length ram.reads) (sym c.self.view_is) c.requires.inside in
    page_there c.self.inside.entries (memory_below c.self.inside.key) c.args.at inside

pub returns-then-not-is_own-clause-err : goal.returns-then-not-is_own-clause-err
returns-then-not-is_own-clause-err c =
    let inside = subst (λ ram. c.args.at < length ram.reads) (sym c.self.view_is) c.requires.inside in
    let other : is_own c.get.result.now ≡ false = sym c.is_own.ensures ∙ c.if-not-is_own.true in (
      refl,
      (
        refl,
        ap (λ ram. slice_get ram.here (c.args.at / PAGE_SIZE)) (sym c.self.view_is)
            ∙ is_here c.self.inside.entries (memory_below c.self.inside.key) c.args.at (length c.args.bytes.now) inside c.requires.in_page c.get.result.now c.get.ensures false other,
      ),
    )

pub write_page-requires-clause-there : goal.write_page-requires-clause-there
write_page-requires-clause-there c =
    let inside = subst (λ ram. c.args.at < length ram.reads) (sym c.self.view_is) c.requires.inside in
    page_there c.self.inside.entries (memory_below c.self.inside.key) c.args.at inside

pub write_page-requires-clause-own : goal.write_page-requires-clause-own
write_page-requires-clause-own c =
    let inside = subst (λ ram. c.args.at < length ram.reads) (sym c.self.view_is) c.requires.inside in
    let own : is_own c.get.result.now ≡ true = sym c.is_own.ensures ∙ c.if-not-is_own.false in
    ap is_own (sym (is_entry c.self.inside.entries (memory_below c.self.inside.key) c.args.at (length c.args.bytes.now) inside c.requires.in_page c.get.result.now c.get.ensures)) ∙ own

pub returns-in_default-clause-err : goal.returns-in_default-clause-err
returns-in_default-clause-err c =
    let inside = subst (λ ram. c.args.at < length ram.reads) (sym c.self.view_is) c.requires.inside in
    let own : is_own c.get.result.now ≡ true = sym c.is_own.ensures ∙ c.if-not-is_own.false in (
      ap (λ table. ram_of table c.self.inside.key) c.in_default.ensures.err ∙ c.self.view_is,
      ap (λ ram. slice_get ram.here (c.args.at / PAGE_SIZE)) (sym c.self.view_is)
          ∙ is_here c.self.inside.entries (memory_below c.self.inside.key) c.args.at (length c.args.bytes.now) inside c.requires.in_page c.get.result.now c.get.ensures true own,
    )

pub returns-clause-ok : goal.returns-clause-ok
returns-clause-ok c =
    let entries = c.self.inside.entries in
    let key = c.self.inside.key in
    let bytes = c.args.bytes.now in
    let inside = subst (λ ram. c.args.at < length ram.reads) (sym c.self.view_is) c.requires.inside in
    let own : is_own c.get.result.now ≡ true = sym c.is_own.ensures ∙ c.if-not-is_own.false in
    let own_entry = ap is_own (sym (is_entry entries (memory_below key) c.args.at (length bytes) inside c.requires.in_page c.get.result.now c.get.ensures)) ∙ own in (
      ap (λ table. ram_of table key) c.in-Ok.ensures.ok
          ∙ ram_of_store entries key c.args.at bytes inside c.requires.in_page own_entry c.in-Ok.ensures.whole
          ∙ ap (λ ram. stored ram c.args.at bytes) c.self.view_is,
      ap (λ ram. slice_get ram.here (c.args.at / PAGE_SIZE)) (sym c.self.view_is)
          ∙ is_here entries (memory_below key) c.args.at (length bytes) inside c.requires.in_page c.get.result.now c.get.ensures true own,
    )
