use Rattle.std.proofs.Common.{◌≡◌, length, sym, ap, ◌∙◌, arith}
use Rattle.std.specs.Vec.Iter.{into_iter_items, into_iter_len}
use Rattle.std.proofs.lemmas.Iterator.Adapters.{YieldsList-from_skip, YieldsList-from_vec}
use Rattle.std.proofs.lemmas.Iterator.Consumers.{YieldsList-end}
use Rattle.std.proofs.lemmas.List.{map-id}
use Rattle.snow_main.proofs.words_given.Goals as goal

pub returns : goal.returns
returns c =
    let words = c.args.words in
    let count : into_iter_len words ≡ length (into_iter_items words) = omega arith in
    let same : c.into_iter-word-iterator.result.iter ≡ words = cc in
    let listed = YieldsList-from_vec {s = c.into_iter-word-iterator.result.iter} (into_iter_items words) (ap into_iter_items same) (ap into_iter_len same ∙ count) in
    let all = YieldsList-from_skip {s = c.into_iter-word-iterator.result} 1 listed (cc) in
    let t = YieldsList-end all c.loop-word.yielded c.loop-word.word-iterator c.loop-word.yielded_by _ c.next.new.self c.in-None.is c.next.ensures.steps in
    c.loop-word.invariant ∙ sym (map-id c.loop-word.yielded) ∙ t.0
