use Rattle.talking_history.proofs.Ends.{does-sound, does-whole, does-leaves, start-whole}
use Rattle.talking_history.proofs.laws.rows_keep_the_end.Goals as goal

pub returns : goal.returns
returns g c = record {
  sound = λ o k rules talking row w h allowed. does-sound o k rules talking row w h;
  queues = λ o k rules talking row w h allowed. does-whole o k rules talking row w h;
  end = λ o k rules talking row w h allowed. does-leaves o k rules talking row w h;
  start = λ o k rules talking m good none root. start-whole o k rules talking g.row.R.Denot m good none root;
}
