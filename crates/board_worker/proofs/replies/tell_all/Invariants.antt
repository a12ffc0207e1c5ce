use Rattle.board_worker.specs.Stays.{Stays}
use Rattle.board_worker.proofs.replies.tell_all.Given as goal

abbrev pub invariant-loop-sent : goal.invariant-loop-sent
invariant-loop-sent g l = Stays l.initial.pass l.pass
