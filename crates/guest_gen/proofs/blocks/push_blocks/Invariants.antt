use Rattle.std.proofs.Common.{◌≡◌, ◌++◌}
use Rattle.guest_gen.specs.Blocks.{blocks, after_blocks}
use Rattle.guest_gen.proofs.blocks.push_blocks.Given as goal

abbrev pub invariant-loop : goal.invariant-loop
invariant-loop l = record {
  code : l.code.items ≡ l.initial.code.items ++ blocks l.counter l.initial.draws;
  draws : l.draws ≡ after_blocks l.counter l.initial.draws;
}
