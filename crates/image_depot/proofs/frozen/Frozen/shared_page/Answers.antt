use Rattle.std.proofs.Common.{◌∙◌}
use Rattle.std.proofs.lemmas.Result.{IfOk-weaker}
use Rattle.page_frames.specs.Tables.{entry_bytes}
use Rattle.image_depot.specs.Reply.{ram_page}
use Rattle.image_depot.proofs.Stacks.{bytes_of_page}
use Rattle.image_depot.proofs.frozen.Frozen.shared_page.Goals as goal

pub returns : goal.returns
unfolding ram_page
returns c =
    let is = bytes_of_page c.args.self.now.contents (entry_bytes c.entry.result.now) c.args.page c.entry.ensures.bytes c.page_of.ensures.whole c.entry.ensures.there in
    IfOk-weaker c.page_of.result _ _ (λ page same. same ∙ is) c.page_of.ensures.value
