use Rattle.rv_asm.proofs.Lines.{AreWordsBefore}
use Rattle.rv_asm.proofs.program.Program.finish.Given as goal

-- the words of the lines so far
abbrev pub invariant-loop-at : goal.invariant-loop-at
invariant-loop-at l = AreWordsBefore l.fn.self l.at l.words.items
