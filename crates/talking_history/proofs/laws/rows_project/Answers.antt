use Rattle.talking_history.proofs.Seen.{allows-seen, does-seen, subtree-seen, start-seen}
use Rattle.talking_history.proofs.laws.rows_project.Goals as goal

pub returns : goal.returns
returns g c = record {
  allowed = λ o p k l f is alike row w h. allows-seen o p k l f is alike row w h;
  after = λ o p k l f is alike row w. does-seen o p k l f is alike row w;
  there = λ f name w. subtree-seen f name w;
  start = λ o p k l f m. start-seen o p k l f g.row.R.Denot m;
}
