use Rattle.std.proofs.Common.{rules, not}
use Rattle.std.proofs.lemmas.Map.Made.{filter_same_pairs}
use Rattle.forest_tree.specs.Tree.{Path, beyond}
use Rattle.machine_names.specs.Name.{begins_with}
use Rattle.world_core.specs.declared.cell.Cell.{Cell}
use Rattle.world_core.proofs.CallKill.{kept-get}
use Rattle.world_core.proofs.world.calls.drop_below.Goals as goal

pub returns : goal.returns
returns c other =
    kept-get c.args.cells.now c.retain.new.self (λ q. begins_with c.args.ticket (beyond c.args.name.now q))
    (filter_same_pairs _ (λ (e : Path × Cell). not (begins_with c.args.ticket (beyond c.args.name.now e.0))) _ (λ k v b w g t. search rules)
    c.args.cells.now.entries c.retain.new.self.entries c.retain.ensures.filtered) other
