use Rattle.forest_model.proofs.Zero.{zeroed-clears, zeroed-leaves, zeroed-length, zeroed-tells}
use Rattle.forest_model.proofs.laws.zero_clears_pages.Goals as goal

pub returns : goal.returns
returns c = record {
  cleared = zeroed-clears;
  others = zeroed-leaves;
  size = zeroed-length;
  tells = zeroed-tells;
}
