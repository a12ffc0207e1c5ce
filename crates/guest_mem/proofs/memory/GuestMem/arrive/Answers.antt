use Rattle.std.proofs.Common.{◌≡◌, ℕ, zero, suc, Bool, true, false, List, [], ◌∷◌, Option, Some, get_or, sym, ap, ◌∙◌, subst, rules}
use Rattle.std.specs.Prelude.{slice_get}
use Rattle.page_frames.specs.Tables.{own_pages}
use Rattle.image_depot.specs.Key.{Key, image_of, number_of}
use Rattle.image_depot.specs.Reply.{ram_page}
use Rattle.guest_mem.specs.Ram.{IsOfImage, ram_of, arrived}
use Rattle.guest_mem.proofs.Images.{ram_of_reply, reply_was_absent}
use Rattle.guest_mem.proofs.memory.GuestMem.arrive.Goals as goal

pub returns-clause-ok : goal.returns-clause-ok
returns-clause-ok c =
    let entries = c.self.inside.entries in
    let key = c.self.inside.key in
    let page = c.page-page.result in
    let reply = c.args.parcel.now in
    let agree : image_of c.in-Some.key ≡ image_of reply.key = c.agree.ensures ∙ ap image_of c.key-2.ensures in
    let absent : get_or (own_pages entries) page false ≡ false = ap (λ ram. get_or ram.here page false) c.self.view_is ∙ sym c.is_here.ensures ∙ c.if-is_here.false in
    let content =
    c.in_ok-shared_page.ensures ∙ ap (λ image. ram_page image page) (c.frozen.ensures ∙ agree)
    ∙ ap (ram_page (image_of reply.key)) c.page-page.ensures in (
      c.page-page.ensures,
      subst (λ (o : Option Key). IsOfImage o reply) (sym c.in-Some.is ∙ ap (λ ram. ram.key) c.self.view_is)
          (sym c.number.ensures ∙ c.if-number.false ∙ c.number-2.ensures ∙ ap number_of c.key.ensures),
      ap (λ ram. slice_get ram.here page) (sym c.self.view_is)
          ∙ reply_was_absent entries key c.self.invariant.based c.in-Some.key c.in-Some.is reply agree c.requires.of_ram page c.page-page.ensures absent,
      ap (λ table. ram_of table key) c.in_ok-set.ensures.ok
          ∙ ram_of_reply entries key c.self.invariant.based c.in-Some.key c.in-Some.is reply agree c.requires.of_ram page c.page-page.ensures c.in_ok-shared_page.field-0 absent content
          ∙ ap (λ ram. arrived ram page) c.self.view_is,
    )

pub agree-requires-clause-one_number : goal.agree-requires-clause-one_number
agree-requires-clause-one_number c = sym c.number.ensures ∙ c.if-number.false ∙ c.number-2.ensures ∙ ap number_of (c.key.ensures ∙ sym c.key-2.ensures)

present : (here : List Bool) (page : ℕ) → get_or here page false ≡ true → slice_get here page ≡ Some true
present [] page is = absurd (cc)
present (b ∷ here) zero is = ap (λ flag. Some flag) is
present (b ∷ here) (suc page) is = present here page is

pub returns-then-is_here-clause-ok : goal.returns-then-is_here-clause-ok
returns-then-is_here-clause-ok c =
    (c.page-page.ensures, search rules, λ of_image. present c.args.self.now.here c.page-page.result (sym c.is_here.ensures ∙ c.if-is_here.true))
