use Rattle.std.proofs.Common.{◌≡◌, ◌+◌, ◌*◌, length, get_or, ap, sym, ◌∙◌, arith}
use Rattle.std.proofs.lemmas.List.{get_or_read}
use Rattle.page_frames.specs.declared.page.TheConstants.{PAGE_SIZE}
use Rattle.page_frames.specs.declared.entry.Entry.{Entry}
use Rattle.page_frames.specs.declared.entry.Entry.TheVariants.{Absent}
use Rattle.page_frames.specs.Tables.{entry_at, entry_bytes, is_own, stacked}
use Rattle.image_depot.proofs.Stacks.{length-stacked, page_count-stacked}
use Rattle.image_depot.proofs.frozen.Frozen.entry.Goals as goal

pub first_own-requires : goal.first_own-requires
first_own-requires c =
    let tables = c.self.inside.tables.items in
    let contents : stacked tables ≡ c.args.self.now.contents = ap (λ image. image.contents) c.self.view_is in
    rw c.deref.ensures.value (record { stack = c.self.invariant.stack; there = omega (arith, c.requires, ap length contents, page_count-stacked tables) })

pub get-requires : goal.get-requires
get-requires c = omega (arith, c.first_own.ensures.there, ap length c.entries.ensures)

pub returns : goal.returns
returns c =
    let tables = c.self.inside.tables.items in
    let page = c.args.page in
    let contents : stacked tables ≡ c.args.self.now.contents = ap (λ image. image.contents) c.self.view_is in
    let read : entry_at c.first_own.result.now page ≡ c.get.result.now =
    sym (get_or_read c.first_own.result.now page c.get.result.now c.first_own.ensures.there (c.get.ensures ∙ ap (λ table. get_or table page c.get.result.now) c.entries.ensures) Absent) in
    record {
      own = sym (ap is_own read) ∙ c.first_own.ensures.own;
      there = omega (arith, c.requires, ap length contents, length-stacked tables, page_count-stacked tables);
      bytes = λ at inside.
          ap (λ bytes. get_or bytes (PAGE_SIZE * page + at) 0) (sym contents ∙ ap stacked (sym c.deref.ensures.value))
          ∙ c.first_own.ensures.bytes at inside
          ∙ ap (λ (e : Entry). get_or (entry_bytes e) at 0) read;
    }
