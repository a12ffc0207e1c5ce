use Rattle.std.proofs.Common.{◌≡◌, ◌+◌, ◌*◌, ◌%◌, ◌/◌, ◌<◌, true, false, length, sym, ap, ◌∙◌, subst, arith}
use Rattle.std.proofs.lemmas.Bool.{both_ways}
use Rattle.flat_memory.specs.Flat.{word_at}
use Rattle.page_frames.specs.declared.page.TheConstants.{PAGE_SIZE}
use Rattle.page_frames.specs.Tables.{is_own}
use Rattle.image_depot.specs.Image.{page_word}
use Rattle.guest_mem.specs.Ram.{memory_below}
use Rattle.guest_mem.proofs.Pages.{page_there, load_own, load_other}
use Rattle.guest_mem.proofs.Images.{page_in_image, own_without_key}
use Rattle.guest_mem.proofs.memory.GuestMem.peek.Goals as goal

pub get-entry-requires : goal.get-entry-requires
get-entry-requires c =
    let inside = subst (λ ram. c.args.at < length ram.reads) (sym c.self.view_is) c.requires.inside in
    page_there c.self.inside.entries (memory_below c.self.inside.key) c.args.at inside

pub returns-then-is_own : goal.returns-then-is_own
returns-then-is_own c =
    let inside = subst (λ ram. c.args.at < length ram.reads) (sym c.self.view_is) c.requires.inside in
    let own : is_own c.get-entry.result.now ≡ true = sym c.is_own.ensures ∙ c.if-is_own.true in
    c.word.ensures
    ∙ load_own c.self.inside.entries (memory_below c.self.inside.key) c.args.at 4 inside (omega (arith, c.requires.aligned)) c.get-entry.result.now c.get-entry.ensures own
    ∙ ap (λ ram. word_at ram.reads c.args.at) c.self.view_is

pub unreachable-requires : goal.unreachable-requires
unreachable-requires c =
    let inside = subst (λ ram. c.args.at < length ram.reads) (sym c.self.view_is) c.requires.inside in
    let there = page_there c.self.inside.entries (memory_below c.self.inside.key) c.args.at inside in
    let own = own_without_key c.self.inside.entries c.self.inside.key c.self.invariant.based c.in_default.is (c.args.at / PAGE_SIZE) c.get-entry.result.now there c.get-entry.ensures in
    both_ways _ (sym c.is_own.ensures ∙ c.if-is_own.false) own

pub word-requires-2-clause-there : goal.word-requires-2-clause-there
word-requires-2-clause-there c =
    let inside = subst (λ ram. c.args.at < length ram.reads) (sym c.self.view_is) c.requires.inside in
    page_in_image c.self.inside.entries c.self.inside.key c.self.invariant.based c.in-Some.key c.frozen.result.now c.in-Some.is c.frozen.ensures (c.args.at / PAGE_SIZE)
    (page_there c.self.inside.entries (memory_below c.self.inside.key) c.args.at inside)

pub returns : goal.returns
returns c =
    let inside = subst (λ ram. c.args.at < length ram.reads) (sym c.self.view_is) c.requires.inside in
    let other : is_own c.get-entry.result.now ≡ false = sym c.is_own.ensures ∙ c.if-is_own.false in
    let place = c.args.at / PAGE_SIZE in
    c.word-2.ensures
    ∙ ap (λ image. page_word image place (c.args.at % PAGE_SIZE)) c.frozen.ensures
    ∙ ap (λ key. word_at (memory_below key) (PAGE_SIZE * place + c.args.at % PAGE_SIZE)) (sym c.in-Some.is)
    ∙ load_other c.self.inside.entries (memory_below c.self.inside.key) c.args.at 4 inside (omega (arith, c.requires.aligned)) c.get-entry.result.now c.get-entry.ensures other
    ∙ ap (λ ram. word_at ram.reads c.args.at) c.self.view_is
