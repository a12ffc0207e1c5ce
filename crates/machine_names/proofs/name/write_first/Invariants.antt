use Rattle.std.proofs.Common.{take}
use Rattle.std.specs.Fmt.{HasWritten, IsPlainFormatter}
use Rattle.std.specs.List.{flat_map}
use Rattle.machine_names.specs.Name.{branch_text}
use Rattle.machine_names.proofs.name.write_first.Given as goal

abbrev pub invariant-branches : goal.invariant-branches
invariant-branches g l =
    IsPlainFormatter l.fn.f → HasWritten g.W.Write.write_str_gives l.fn.f (flat_map branch_text (take l.at (take l.count l.branches))) l.f
