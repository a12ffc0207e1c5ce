use Rattle.std.proofs.Common.{rules, arith}
use Rattle.std.proofs.lemmas.Bool.Decides.{nat_tests}
use Rattle.std.proofs.lemmas.Grind.{common_steps}
use Rattle.sibling_words.proofs.Inboxes.{words_at-set, words_at-past}
use Rattle.sibling_words.proofs.words.SiblingWords.clear.Goals as goal

pub returns-in-Some-get_mut : goal.returns-in-Some-get_mut
returns-in-Some-get_mut c = λ t f.
    let is = words_at-set c.deref_mut.result.now.items c.args.to c.new.result t f (search rules) in
    let none = c.new.ensures f in
    grind (arith, nat_tests, common_steps)

pub returns-in_default-get_mut : goal.returns-in_default-get_mut
returns-in_default-get_mut c = λ t f.
    let past = words_at-past c.deref_mut.result.now.items c.args.to f (search rules) in
    grind (arith, nat_tests, common_steps)
