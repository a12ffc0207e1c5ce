use Rattle.std.proofs.Common.{◌∙◌, ap, ◌∷◌, [], ◌++◌, arith}
use Rattle.shared_leaves.proofs.LeafLemmas.{copied-more}
use Rattle.shared_leaves.proofs.list.SharedList.copy_into.Goals as goal

pub places-preserved : goal.places-preserved
places-preserved g c =
    let so_far = c.places.invariant in
    let same = g.met.T.Handle.clone_is_equal _ _ c.in_ok-clone.ensures.cases in
    record {
      copied =
          c.push.ensures.items ∙ ap (λ x. c.places.copies.items ++ x ∷ []) same
          ∙ copied-more c.args.self.now c.args.copies.now.items c.places.copies.items c.get.result.now c.args.first c.places.at so_far.order
          (omega (arith, c.places-test.true, c.requires.inside)) c.get.ensures so_far.copied;
      count = omega (arith, c.push.ensures.len, so_far.count, so_far.order);
      order = omega (arith, so_far.order);
    }
