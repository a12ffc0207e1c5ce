use Rattle.std.proofs.Common.{◌≡◌, ◌*◌, ◌^◌, take}
use Rattle.run_report.specs.Summary.{IsWithin, summed}
use Rattle.run_report.proofs.summary.Summary.of_lines.Given as goal

abbrev pub invariant-lines : goal.invariant-lines
invariant-lines l = record {
  same : l.summary ≡ summed (take l.line-index l.lines);
  within : IsWithin (l.line-index * 2 ^ 64) l.summary;
}
