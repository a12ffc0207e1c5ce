use Rattle.std.proofs.Common.{◌<◌, ◌∙◌, sym, ap, arith}
use Rattle.std.proofs.lemmas.Grind.{common_steps}
use Rattle.guest_pmp.specs.Registers.{matching}
use Rattle.guest_pmp.specs.Regions.{has}
use Rattle.guest_pmp.proofs.Words.{has-block, entry_of-block}
use Rattle.guest_pmp.proofs.region.matches.Goals as goal

pub returns-in_default : goal.returns-in_default
returns-in_default c = λ address e.
    let is_block : 2 < matching c.args.configuration = grind (arith, common_steps) in
    c.is_in_block.ensures ∙ sym (ap (has address) (entry_of-block c.args.configuration c.args.below c.args.top is_block) ∙ has-block c.args.configuration c.args.top address c.args.word e)
