use Rattle.std.proofs.Common.{List, ℕ, ap₂, ◌∙◌}
use Rattle.std.proofs.lemmas.Result.{IfOk-weaker}
use Rattle.vm_descriptor.specs.Maps.{flags_as}
use Rattle.vm_descriptor.specs.Described.{read_as}
use Rattle.vm_descriptor.proofs.read.map_behind.Goals as goal

pub returns : goal.returns
unfolding read_as
returns c =
    IfOk-weaker c.read_map.result _ _
    (λ map is. is ∙ ap₂ (λ (pages : ℕ) (rest : List ℕ). flags_as c.args.version.now.has_forms pages rest) c.read_word-pages.ensures c.split_at.ensures.back) c.read_map.ensures
