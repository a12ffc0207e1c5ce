use Rattle.std.proofs.Common.{◌<◌, sym, ap, ◌∙◌, arith}
use Rattle.std.proofs.lemmas.Grind.{common_steps}
use Rattle.guest_pmp.specs.Registers.{matching}
use Rattle.guest_pmp.specs.Regions.{Entry}
use Rattle.guest_pmp.proofs.Words.{entry_of-block}
use Rattle.guest_pmp.proofs.span.region_of.Goals as goal

pub returns-in_default : goal.returns-in_default
returns-in_default c =
    let is_block : 2 < matching c.args.configuration = grind (arith, common_steps) in
    let is = sym (entry_of-block c.args.configuration c.args.below c.args.top is_block) in
    let words = c.block.ensures c.args.configuration in
    (words.0 ∙ ap (λ (e : Entry). e.first) is, words.1 ∙ ap (λ (e : Entry). e.behind) is)
