use Rattle.std.proofs.Common.{ap, ◌∙◌}
use Rattle.vm_descriptor.specs.CloneTables.{clone_table}
use Rattle.vm_descriptor.proofs.clone_table.CloneTable.entries.Goals as goal

pub returns : goal.returns
returns c = c.deref.ensures ∙ c.self.invariant ∙ ap clone_table c.self.view_is
