use Rattle.talking_history.proofs.Turned.{start-home, turn-home}
use Rattle.talking_history.proofs.Turns.{turn-falls}
use Rattle.talking_history.proofs.laws.turns_run_out.Goals as goal

pub returns : goal.returns
returns g c = record {
  start = λ o k m. start-home o k g.row.R.Denot m;
  whole = λ o k rules talking how name n w h whole allowed. turn-home o k rules talking how name n w h whole allowed;
  less = λ o k rules talking how name n w h taken other back. turn-falls o k rules talking how name n w h taken other back;
}
