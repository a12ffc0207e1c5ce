-- A world whose turns are in another order stands for the same forest.
use Rattle.std.proofs.Common.{◌≡◌, true, List, ◌∷◌, ◌++◌, Option, Some, None}
use Rattle.std.specs.Option.{IfSome}
use Rattle.std.specs.BTreeMap.{get}
use Rattle.image_depot.specs.Key.{Shelves}
use Rattle.forest_tree.specs.Tree.{Tree, Path}
use Rattle.talking_history.specs.Rows.{Row}
use Rattle.machine_names.specs.NameOrder.{path_cmp}
use Rattle.run_report.specs.Report.{Ended as Report}
use Rattle.world_core.specs.declared.cell.Cell.{Cell}
use Rattle.world_core.specs.declared.reason.Reason.{Reason}
use Rattle.world_core.specs.declared.world.World.{World}
use Rattle.ready_queue.specs.Ready.{Ready}
use Rattle.world_core.specs.Listed.{IsListed, Keeps}
use Rattle.world_core.specs.World.{Forest, IsDue, Rests, ShowsEach, ShowsTree, StandsFor, rests_in}
use Rattle.world_core.specs.Between.{IsBetween}
use Rattle.world_core.specs.Answers.{Goes}
use Rattle.world_core.specs.Shows.{Member}

due-reordered : (old new : List Ready) → Keeps old new → (c : Option Cell) (n : Path) → IsDue c n old → IsDue c n new
due-reordered old new k None n h = k.covered n h
due-reordered old new k (Some c) n h = k.listed n h

listed-reordered : (old new : List Ready) → Keeps old new → (o : Option Cell) (n : Path) → IfSome o (λ (c : Cell). c.is_listed ≡ true → IsListed n old)
    → IfSome o (λ (c : Cell). c.is_listed ≡ true → IsListed n new)
listed-reordered old new k None n h = tt
listed-reordered old new k (Some c) n h = λ is. k.listed n (h is)

module _ (depot : Shelves) (w : World) (list : List Ready) (f : Forest) (k : Keeps w.ready list) where
  each-reordered : (rests : Rests) (t : Tree Member) → ShowsEach depot rests w t → ShowsEach depot rests (record w { ready = list }) t
  each-reordered rests t h = record {
    cells = h.cells;
    ready = λ n is. due-reordered w.ready list k (get path_cmp w.cells n) n (h.ready n is);
    listed = λ n. listed-reordered w.ready list k (get path_cmp w.cells n) n (h.listed n);
  }

  shows-reordered : (o : Option Report) (t : Tree Member) → ShowsTree o depot w t → ShowsTree o depot (record w { ready = list }) t
  shows-reordered None t h = record { root = h.root; each = each-reordered (rests_in t) t h.each }
  shows-reordered (Some outcome) t h = record { ended = h.ended; home = h.home; lines = h.lines; cells = h.cells }

  pub goes-reordered : (row : Row Reason) → Goes depot f row w → Goes depot f row (record w { ready = list })
  goes-reordered row h = record { allowed = h.allowed; after = stands-then h.after }
    where
      stands-then : {g : Forest} → StandsFor depot w g → StandsFor depot (record w { ready = list }) g
      stands-then {g} s = record { whole = s.whole; halted = s.halted; tree = shows-reordered w.outcome g.tree s.tree }

  pub between-reordered : (name : Path) (a : Tree Member) → IsBetween depot w f name a → IsBetween depot (record w { ready = list }) f name a
  between-reordered name a h = record {
    whole = h.whole;
    halted = h.halted;
    going = h.going;
    root = h.root;
    there = h.there;
    own = h.own;
    heard = h.heard;
    cell = h.cell;
    below = h.below;
    ready_below = λ x rest is. due-reordered w.ready list k (get path_cmp w.cells (name ++ (x ∷ rest))) (name ++ (x ∷ rest)) (h.ready_below x rest is);
    elsewhere = h.elsewhere;
    ready = λ n none is. due-reordered w.ready list k (get path_cmp w.cells n) n (h.ready n none is);
    listed = λ n. listed-reordered w.ready list k (get path_cmp w.cells n) n (h.listed n);
  }
