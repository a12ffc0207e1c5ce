use Rattle.forest_tree.proofs.Calls.{step-own, step-clone, size-children, child-children}
use Rattle.forest_tree.proofs.laws.clone_bears_children.Goals as goal

pub returns : goal.returns
returns g c = record {
  own = step-own;
  clone = step-clone;
  as_many = size-children;
  in_order = child-children;
}
