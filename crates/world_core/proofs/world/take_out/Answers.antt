use Rattle.std.proofs.Common.{rules, ◌≡◌, refl, sym, subst}
use Rattle.std.specs.List.{filter}
use Rattle.std.proofs.lemmas.Map.Made.{filter_same_pairs}
use Rattle.machine_names.proofs.NameMaps.{equal-same}
use Rattle.world_core.specs.Between.{TakesOut}
use Rattle.world_core.proofs.Leaving.{is_kept, taken-all, taken-alone}
use Rattle.world_core.proofs.world.take_out.Goals as goal
use Rattle.world_core.proofs.world.take_out.Goals.{then-not-is_empty, else-not-is_empty}

pub returns : goal.returns
returns c =
    let name = c.args.name.now in
    let same : c.in_ok-key.key ≡ name = sym (equal-same name c.in_ok-key.key c.in_ok-key.ensures.same_key) in (
      same,
      elim c.if-not-is_empty.branch [
        | then-not-is_empty w ↦
            subst (λ cells. TakesOut c.args.cells.now cells name c.in_ok-key.cell) (sym w.cells-is)
            (taken-all c.args.cells.now c.remove_entry.new.self name c.in_ok-key.cell c.in_ok-key.ensures.value c.in_ok-key.ensures.updates w.retain.new.self
            (subst (λ key. w.retain.new.self.entries ≡ filter (is_kept key) c.remove_entry.new.self.entries) same
            (filter_same_pairs _ (is_kept c.in_ok-key.key) _ (λ k v b x g t. search rules) c.remove_entry.new.self.entries w.retain.new.self.entries w.retain.ensures.filtered)))
        | else-not-is_empty w ↦
            subst (λ cells. TakesOut c.args.cells.now cells name c.in_ok-key.cell) (sym w.cells-is)
            (taken-alone c.args.cells.now c.remove_entry.new.self name c.in_ok-key.cell c.in_ok-key.ensures.value c.in_ok-key.ensures.updates (w.if-not-is_empty.ensures.0 refl))
      ],
    )
