use Rattle.std.proofs.Common.{◌-◌, ◌%◌, take, drop, ◌++◌, refl, ap, ◌∙◌, arith}
use Rattle.shared_leaves.specs.declared.leaf.TheConstants.{LEAF_ENTRIES}
use Rattle.shared_leaves.proofs.LeafLemmas.{followed, length-front, length-last}
use Rattle.shared_leaves.proofs.list.SharedList.followed_by.Goals as goal

pub returns : goal.returns
returns g c =
    let begin = c.args.count - c.args.count % LEAF_ENTRIES in
    let xs = c.args.self.now in
    c.in_ok-push_leaf.ensures
    ∙ ap (λ leaf. c.in_ok-list.list ++ leaf) c.in_ok-last.ensures
    ∙ followed xs c.in_ok-list.list (take (c.args.count - begin) (drop begin xs)) c.args.entry begin c.args.count (omega arith) c.in_ok-list.ensures refl

pub push_leaf-requires : goal.push_leaf-requires
push_leaf-requires g c =
    let begin = c.args.count - c.args.count % LEAF_ENTRIES in
    let front = length-front c.args.self.now c.in_ok-list.list begin (omega (arith, c.requires)) c.in_ok-list.ensures in
    let back = length-last c.args.self.now c.in_ok-last.last c.args.entry begin c.args.count (omega arith) c.requires c.in_ok-last.ensures in
    record {
      full = omega (arith, front);
      some = omega (arith, back);
      most = omega (arith, back);
      fits = omega (arith, front, back, c.ranges.count.fits, c.if-count-eq18446744073709551615.false);
    }
