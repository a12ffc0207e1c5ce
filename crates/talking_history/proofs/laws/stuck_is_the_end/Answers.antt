use Rattle.talking_history.proofs.Stuck.{stuck-rests, stuck-ends}
use Rattle.talking_history.proofs.Stays.{stuck-record}
use Rattle.talking_history.proofs.laws.stuck_is_the_end.Goals as goal

pub returns : goal.returns
returns g c = record {
  rests = λ o k w h. stuck-rests o k w h;
  end = λ o k rules talking w h. stuck-ends o k rules talking w h;
  stays = λ o k history r h legal. stuck-record o k history r h legal;
}
