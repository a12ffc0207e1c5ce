use Rattle.vm_descriptor.proofs.RunMaking.{begun_before, begun_behind, begun_turn}
use Rattle.vm_descriptor.proofs.made_runs.MadeRuns.begin.Goals as goal

pub returns-clause-in_turn : goal.returns-clause-in_turn
returns-clause-in_turn c = λ turn. begun_turn _ _ _ _ c.in_ok-push.ensures.items turn

pub returns-clause-behind : goal.returns-clause-behind
returns-clause-behind c = begun_behind _ _ _ c.in_ok-push.ensures.items

pub returns-clause-before : goal.returns-clause-before
returns-clause-before c = begun_before c.args.self.now.flag _ _ _ c.in_ok-push.ensures.items
