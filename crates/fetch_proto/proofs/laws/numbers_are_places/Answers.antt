use Rattle.fetch_proto.proofs.Numbers.{read_back, placed}
use Rattle.fetch_proto.proofs.laws.numbers_are_places.Goals as goal

pub returns : goal.returns
returns c = record {
  read_back = read_back;
  there = λ ram disk number place is. (placed ram disk number place is).there;
  numbered = λ ram disk number place is. (placed ram disk number place is).numbered;
}
