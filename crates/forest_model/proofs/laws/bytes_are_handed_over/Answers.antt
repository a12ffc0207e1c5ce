use Rattle.forest_model.proofs.HandedOver.{handed-action, handed-bytes, handed-pages, handed-refused, handed-size}
use Rattle.forest_model.proofs.laws.bytes_are_handed_over.Goals as goal

pub returns : goal.returns
returns c = record {
  handed = handed-action;
  size = handed-size;
  bytes = handed-bytes;
  pages = handed-pages;
  refused = handed-refused;
}
