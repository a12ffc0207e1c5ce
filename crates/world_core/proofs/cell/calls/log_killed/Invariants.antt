use Rattle.std.proofs.Common.{◌≡◌, ◌+◌, ◌<◌, ◌≤◌, ◌++◌, ◌^◌, length, map, vec_capacity, vec_len}
use Rattle.std.specs.List.{All}
use Rattle.world_core.specs.Broods.{killed_line}
use Rattle.world_core.proofs.cell.calls.log_killed.Given as goal

abbrev pub invariant-broods : goal.invariant-broods
invariant-broods l = record {
  can_next : (goal.iterator-broods).can_next l.ticket-iterator;
  is_finite : (goal.iterator-broods).is_finite l.ticket-iterator;
  lines : l.log.items ++ map killed_line l.ticket-iterator ≡ l.initial.log.items ++ map killed_line l.initial.ticket-iterator;
  room : vec_len l.log + length l.ticket-iterator ≤ vec_capacity l.log;
  small : All (λ entry. vec_len entry.1.slots < 2 ^ 32) l.ticket-iterator;
}
