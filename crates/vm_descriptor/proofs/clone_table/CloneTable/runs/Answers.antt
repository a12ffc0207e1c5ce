use Rattle.std.proofs.Common.{ap, ◌∙◌}
use Rattle.std.proofs.lemmas.Result.{IfOk-weaker}
use Rattle.page_frames.specs.Tables.{blank_pages}
use Rattle.vm_descriptor.proofs.clone_table.CloneTable.runs.Goals as goal

pub returns : goal.returns
returns c = IfOk-weaker c.blank_runs.result _ _ (λ flags is. is ∙ ap blank_pages c.deref.ensures ∙ c.self.view_is) c.blank_runs.ensures
