use Rattle.std.proofs.Common.{ℕ, List, ◌++◌, refl, ap, sym, ◌∙◌, append_assoc, append-nil}
use Rattle.std.specs.List.{flat_map}
use Rattle.std.proofs.lemmas.Map.Iter.{rest_all, rest_more}
use Rattle.run_report.specs.Lines.{Line}
use Rattle.run_report.specs.Report.{lines_of}
use Rattle.world_core.specs.Outcome.{Slots, children_lines}
use Rattle.world_core.proofs.Stuck.{stuck-lines}
use Rattle.world_core.proofs.world.parting.Parting.into_outcome.Goals as goal

pub loop-slots-preserved : goal.loop-slots-preserved
loop-slots-preserved c =
    let entry : ℕ × Slots = (c.in-Some.field-0-0, c.in-Some.slots) in
    let rest = c.next.new.self in
    let left = rest_more (λ (x : ℕ × Slots). x) c.loop-slots.slots-iterator rest c.next.result entry c.in-Some.is c.next.ensures.steps in
    record {
      can_next = tt;
      is_finite = tt;
      lines = ap (λ (items : List Line). items ++ flat_map children_lines rest)
          (c.put_lines.ensures.lines ∙ ap (λ (items : List Line). items ++ children_lines entry) c.reserve.ensures.items)
          ∙ append_assoc c.loop-slots.log.items (children_lines entry) (flat_map children_lines rest)
          ∙ ap (λ (entries : List (ℕ × Slots)). c.loop-slots.log.items ++ flat_map children_lines entries) (sym left)
          ∙ c.loop-slots.invariant.lines;
    }

pub returns : goal.returns
returns c = λ partings path t tells none.
    let left = rest_all (λ (x : ℕ × Slots). x) c.loop-slots.slots-iterator c.next.new.self c.next.result c.in-None.is c.next.ensures.steps in
    ap lines_of c.new.ensures
    ∙ stuck-lines partings path none c.args.self t _ tells c.into_iter-slots-iterator.ensures.into_iter_gives.5 refl refl refl refl
    (sym (append-nil c.loop-slots.log.items)
    ∙ ap (λ (entries : List (ℕ × Slots)). c.loop-slots.log.items ++ flat_map children_lines entries) (sym left)
    ∙ c.loop-slots.invariant.lines
    ∙ ap (λ (entries : List (ℕ × Slots)). c.args.self.log.items ++ flat_map children_lines entries) c.into_iter-slots-iterator.ensures.into_iter_gives.0)
