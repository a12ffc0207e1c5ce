use Rattle.forest_model.proofs.Calls.{child-as-parent, no-output, port-child, sibling-child}
use Rattle.forest_model.proofs.laws.children_are_their_parent.Goals as goal

pub returns : goal.returns
returns c = record {
  as_parent = child-as-parent;
  no_output = no-output;
  own_port = port-child;
  own_siblings = sibling-child;
}
