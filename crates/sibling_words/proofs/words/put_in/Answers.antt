use Rattle.std.proofs.lemmas.Result.{on_ok_weaker, on_err_weaker}
use Rattle.sibling_words.proofs.Inboxes.{words_at-kept, words_at-put}
use Rattle.sibling_words.proofs.words.put_in.Goals as goal

pub returns-clause-ok : goal.returns-clause-ok
returns-clause-ok c =
    let same = c.grow_to.ensures.same in
    let put = words_at-put c.grow_to.new.inboxes.items c.args.to c.args.from c.args.word _ c.put.new.self c.in_ok-grow_to.ensures.there c.index_mut-inbox.ensures.value in
    on_ok_weaker _ (simp same at put) c.put.ensures.ok

pub returns-clause-err : goal.returns-clause-err
returns-clause-err c =
    let same = c.grow_to.ensures.same in
    let kept = words_at-kept c.grow_to.new.inboxes.items c.args.to _ c.put.new.self c.in_ok-grow_to.ensures.there c.index_mut-inbox.ensures.value in
    on_err_weaker _ (simp same at kept) c.put.ensures.err
