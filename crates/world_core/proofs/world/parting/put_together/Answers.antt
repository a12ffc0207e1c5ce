use Rattle.std.proofs.Common.{◌≡◌, true, false, sym, ap, ◌∙◌, is_some}
use Rattle.world_core.proofs.Stuck.{none-longer, parent-there, partings-again, root-left, root-there, slot-there, told-parting}
use Rattle.world_core.proofs.world.parting.put_together.Goals as goal

pub returns-in_default-pop : goal.returns-in_default-pop
returns-in_default-pop c = λ t tells.
    let l = c.loop-name in
    let now = l.invariant t tells in
    let its = told-parting l.partings t c.in-Some.name c.in-Some.parting now c.in-Some.ensures.value in
    root-left l.partings t c.in-Some.name c.in-Some.parting now c.in-Some.ensures.value c.in_ok-outcome.outcome c.in_default-pop.ensures.0
    (c.in_ok-outcome.ensures l.partings c.in-Some.name its.0 its.2 (none-longer l.partings c.in-Some.name c.in-Some.ensures.greatest))

pub unreachable-requires : goal.unreachable-requires
unreachable-requires c =
    let l = c.loop-name in
    let there = parent-there c.requires.0 l.partings c.pop_last.new.self c.in-Some.name c.pop.new.self c.in-Some-pop.ticket c.in-Some-pop.index c.in-Some.parting
    (l.invariant c.requires.0 c.requires.1) c.in-Some-pop.ensures c.in-Some.ensures.value c.in-Some.ensures.greatest c.in-Some.ensures.updates in
    let no : true ≡ false = sym there ∙ ap is_some (sym c.in_default-get_mut.ensures.value) in
    cc

pub put_outcome-requires-clause-first : goal.put_outcome-requires-clause-first
put_outcome-requires-clause-first c =
    let l = c.loop-name in
    (slot-there c.requires.0 l.partings c.pop_last.new.self c.in-Some.name c.pop.new.self c.in-Some-pop.ticket c.in-Some-pop.index c.in-Some.parting
    (l.invariant c.requires.0 c.requires.1) c.in-Some-pop.ensures c.in-Some.ensures.value c.in-Some.ensures.greatest c.in-Some.ensures.updates
    c.in-Some-get_mut.parent.now (sym c.in-Some-get_mut.ensures.value)).0

pub put_outcome-requires-clause-there : goal.put_outcome-requires-clause-there
put_outcome-requires-clause-there c =
    let l = c.loop-name in
    (slot-there c.requires.0 l.partings c.pop_last.new.self c.in-Some.name c.pop.new.self c.in-Some-pop.ticket c.in-Some-pop.index c.in-Some.parting
    (l.invariant c.requires.0 c.requires.1) c.in-Some-pop.ensures c.in-Some.ensures.value c.in-Some.ensures.greatest c.in-Some.ensures.updates
    c.in-Some-get_mut.parent.now (sym c.in-Some-get_mut.ensures.value)).1

pub loop-name-preserved : goal.loop-name-preserved
loop-name-preserved c = λ t tells.
    let l = c.loop-name in
    let now = l.invariant t tells in
    let its = told-parting l.partings t c.in-Some.name c.in-Some.parting now c.in-Some.ensures.value in
    partings-again t l.partings c.pop_last.new.self c.in-Some.name c.pop.new.self c.in-Some-pop.ticket c.in-Some-pop.index c.in-Some.parting
    now c.in-Some-pop.ensures c.in-Some.ensures.value c.in-Some.ensures.greatest c.in-Some.ensures.updates
    c.in-Some-get_mut.parent.now (sym c.in-Some-get_mut.ensures.value) c.put_outcome.new.self _ (c.get_mut.follows.holds _) c.in_ok-outcome.outcome
    (c.in_ok-outcome.ensures l.partings c.in-Some.name its.0 its.2 (none-longer l.partings c.in-Some.name c.in-Some.ensures.greatest))
    c.put_outcome.ensures

pub unreachable-requires-2 : goal.unreachable-requires-2
unreachable-requires-2 c =
    let l = c.loop-name in
    root-there l.partings c.requires.0 (l.invariant c.requires.0 c.requires.1) (λ some. let none = c.in_default.ensures.variant.1 some in cc)
