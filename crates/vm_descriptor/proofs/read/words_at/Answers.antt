use Rattle.std.proofs.Common.{rules, ◌≡◌, ◌≤◌, ℕ, List, [], ◌∷◌, ◌++◌, ◌<◌, length, sym, ap, ◌∙◌}
use Rattle.std.proofs.lemmas.List.{length-replicate, take_all, take_more_set}
use Rattle.vm_descriptor.specs.Described.{numbers_from}
use Rattle.vm_descriptor.proofs.Words.{numbers_more}
use Rattle.vm_descriptor.proofs.read.words_at.Goals as goal

pub loop-index-init : goal.loop-index-init
unfolding numbers_from
loop-index-init g c = (length-replicate g.row.N 0, search rules)

pub loop-index-preserved : goal.loop-index-preserved
loop-index-preserved g c =
    let i = c.loop-index.index in
    let xs = c.loop-index.words in
    let bytes = c.args.bytes.now in
    let before : i < length xs = search rules in (
      search rules,
      take_more_set xs i c.read_word.result before
          ∙ (ap (λ (ys : List ℕ). ys ++ (c.read_word.result ∷ [])) c.loop-index.invariant.1
          ∙ (ap (λ (w : ℕ). numbers_from 4 i c.args.at bytes ++ (w ∷ [])) c.read_word.ensures ∙ sym (numbers_more 4 i c.args.at bytes))),
    )

pub returns : goal.returns
returns g c =
    let i = c.loop-index.index in
    let xs = c.loop-index.words in
    let past : length xs ≤ i = search rules in
    let last : i ≡ g.row.N = search rules in
    sym (take_all i xs past) ∙ (c.loop-index.invariant.1 ∙ ap (λ (count : ℕ). numbers_from 4 count c.args.at c.args.bytes.now) last)
