use Rattle.std.proofs.Common.{rules, arith}
use Rattle.std.proofs.lemmas.Grind.{common_steps}
use Rattle.sibling_words.proofs.Inboxes.{words_at-others}
use Rattle.sibling_words.proofs.words.SiblingWords.pop.Goals as goal

pub returns-clause-others : goal.returns-clause-others
returns-clause-others c = λ t f apart.
    let is = words_at-others c.deref_mut.result.now.items c.args.to c.args.from c.in_ok-inbox.inbox.now c.take_first.new.self
    (search rules) (search rules) c.take_first.ensures.others t f apart in
    grind (arith, common_steps)
