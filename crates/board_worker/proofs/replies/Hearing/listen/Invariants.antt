use Rattle.host_fetch.specs.Heard.{AreHeardOf}
use Rattle.fork_board.specs.Follows.{depot_of}
use Rattle.fork_board.specs.Passes.{seen_record}
use Rattle.board_worker.specs.Hears.{AreFound, StayFound}
use Rattle.board_worker.specs.Stays.{Stays}
use Rattle.board_worker.proofs.replies.Hearing.listen.Given as goal

abbrev pub invariant-loop : goal.invariant-loop
invariant-loop g l = record {
  goes : (goal.iterator-loop g).can_next l.iterator';
  ends : (goal.iterator-loop g).is_finite l.iterator';
  stays : Stays l.initial.pass l.pass;
  heard : AreHeardOf (depot_of l.board.opening) l.initial.self.heard → AreHeardOf (depot_of l.board.opening) l.self.heard;
  all : AreFound (seen_record l.pass).told l.initial.self.next l.self.next l.self.heard;
  found : StayFound l.initial.self.heard l.self.heard;
}
