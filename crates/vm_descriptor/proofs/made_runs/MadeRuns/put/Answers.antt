use Rattle.std.proofs.Common.{◌++◌, List, replicate, reverse, ap₂, false, ◌∙◌}
use Rattle.std.specs.Prelude.{Bool}
use Rattle.vm_descriptor.proofs.RunMaking.{more_before, more_behind}
use Rattle.vm_descriptor.proofs.made_runs.MadeRuns.put.Goals as goal

pub returns-clause-behind : goal.returns-clause-behind
returns-clause-behind c = λ turn.
    let runs = c.open.new.self in
    more_behind false runs.flag runs.lengths.items runs.last c.args.count (c.in_ok-open.ensures.in_turn turn)
    ∙ ap₂ (λ (fs : List Bool) (f : Bool). fs ++ replicate c.args.count f) c.in_ok-open.ensures.behind c.in_ok-open.ensures.flag

pub returns-clause-before : goal.returns-clause-before
returns-clause-before c =
    let runs = c.open.new.self in
    more_before runs.flag (reverse runs.lengths.items) runs.last c.args.count
    ∙ ap₂ (λ (f : Bool) (fs : List Bool). replicate c.args.count f ++ fs) c.in_ok-open.ensures.flag c.in_ok-open.ensures.before
