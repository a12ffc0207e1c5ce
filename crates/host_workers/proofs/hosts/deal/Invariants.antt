use Rattle.std.proofs.Common.{◌≡◌, ◌-◌, length}
use Rattle.host_workers.proofs.States.{Dealt}
use Rattle.host_workers.proofs.hosts.deal.Given as goal

abbrev pub invariant-loop-number : goal.invariant-loop-number
invariant-loop-number l = record {
  dealt : Dealt l.board l.claims l.initial.pass l.pass l.states.items;
  many : l.number ≡ length l.states.items;
  claiming : l.claiming ≡ record l.initial.claiming { parts = l.initial.claiming.parts - l.number };
}
