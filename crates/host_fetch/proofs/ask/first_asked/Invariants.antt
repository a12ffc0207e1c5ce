use Rattle.std.proofs.Common.{◌≡◌, ◌+◌, ◌-◌, ◌<◌, ◌≤◌, ◌++◌, length, take}
use Rattle.std.specs.List.{All}
use Rattle.host_fetch.specs.Asked.{absent_among, first_asked}
use Rattle.host_fetch.proofs.ask.first_asked.Given as goal

abbrev pub invariant-loop-next : goal.invariant-loop-next
invariant-loop-next g l = record {
  there : All (λ each. each < length (g.T.Receiver.here l.receiver)) l.asked.items;
  most : length l.asked.items ≤ l.ahead + 1;
  is : l.asked.items ++ take (l.ahead + 1 - length l.asked.items) (absent_among (g.T.Receiver.here l.receiver) l.next (l.end - l.next))
      ≡ first_asked (g.T.Receiver.here l.receiver) l.page l.end l.ahead;
}
