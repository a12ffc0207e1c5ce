use Rattle.talking_history.specs.Histories.{record_of}
use Rattle.talking_history.proofs.Histories.{replay-sound, replay-whole, replay-leaves}
use Rattle.talking_history.proofs.laws.histories_keep_the_end.Goals as goal

pub returns : goal.returns
returns g c = record {
  sound = λ o k rules talking history w h legal. replay-sound o k rules talking history (record_of w) h;
  queues = λ o k rules talking history w h legal. replay-whole o k rules talking history (record_of w) h;
  end = λ o k rules talking history w h legal. replay-leaves o k rules talking history (record_of w) h;
}
