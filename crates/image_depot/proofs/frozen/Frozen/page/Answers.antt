use Rattle.std.proofs.Common.{length, ap, sym, ◌∙◌}
use Rattle.page_frames.specs.Tables.{entry_bytes}
use Rattle.image_depot.specs.Reply.{ram_page}
use Rattle.image_depot.proofs.Stacks.{bytes_of_page}
use Rattle.image_depot.proofs.frozen.Frozen.page.Goals as goal

pub returns : goal.returns
unfolding ram_page
returns c =
    let is = bytes_of_page c.args.self.now.contents (entry_bytes c.entry.result.now) c.args.page c.entry.ensures.bytes c.bytes.ensures.whole c.entry.ensures.there in
    record { value = c.bytes.ensures.value ∙ is; whole = ap length (sym is) ∙ c.bytes.ensures.whole }
