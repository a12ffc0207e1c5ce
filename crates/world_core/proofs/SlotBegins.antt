-- The cell of a machine that has no ticket.
use Rattle.sibling_forest.specs.Talk.{Inbox, boxed}
use Rattle.std.proofs.Common.{◌≡◌, ℕ, false, [], length, None, is_some, vec_len, refl, sym, ap, subst, arith}
use Rattle.std.specs.Ordering.{nat_cmp}
use Rattle.std.specs.BTreeMap.{get, is_at, btree_map_len}
use Rattle.std.specs.Map.{lookup}
use Rattle.image_depot.specs.Key.{Shelves}
use Rattle.forest_tree.specs.Operations.{is_cloned}
use Rattle.forest_tree.specs.Tree.{no_tree, brood_of, Path}
use Rattle.forest_tree.specs.Step.{alone}
use Rattle.talking_history.specs.Places.{Place, spots}
use Rattle.talking_history.specs.World.{is_asleep_at}
use Rattle.forest_model.specs.Forest.{machines}
use Rattle.forest_model.specs.Paged.{paged_machines, Paged}
use Rattle.run_report.specs.Lines.{log_lines}
use Rattle.world_core.specs.declared.cell.Cell.{Cell}
use Rattle.world_core.specs.Shows.{forest, IsAwake, BroodAt, TallyAt, Holds}

-- a cell with no brood, and an empty log
pub record IsEmptyCell (c : Cell) : Type 0 where
  pub no_brood : c.broods.entries ≡ []
  pub no_line : c.log.items ≡ []
  pub no_length : vec_len c.log ≡ 0

none-got : (c : Cell) (ticket : ℕ) → IsEmptyCell c → get nat_cmp c.broods ticket ≡ None
none-got c ticket h = ap (lookup (is_at (nat_cmp ticket))) h.no_brood

pub alone-holds : (depot : Shelves) (path : Path) (c : Cell) (m : Paged) (place : Place) (inbox : Inbox) → IsEmptyCell c → ((ticket : ℕ) → is_cloned paged_machines m ticket ≡ false)
    → Holds depot path c (alone forest (record { machine = record { machine = m; place = place }; inbox = inbox }))
unfolding boxed spots log_lines brood_of
alone-holds depot path c m place inbox h none = record {
  tallies = record {
    log = h.no_line;
    room = let n : btree_map_len c.broods ≡ 0 = ap length h.no_brood in omega (arith, h.no_length);
    broods = λ ticket.
        subst (λ b. TallyAt path (paged_machines.grant m ticket).children b (is_cloned paged_machines m ticket)) (sym (none-got c ticket h))
        (subst (TallyAt path (paged_machines.grant m ticket).children None) (sym (none ticket)) tt);
  };
  broods = λ ticket.
      subst (λ b. BroodAt depot path ticket b (is_cloned paged_machines m ticket) no_tree) (sym (none-got c ticket h))
      (subst (λ cloned. BroodAt depot path ticket None cloned no_tree) (sym (none ticket)) refl);
}

pub alone-awake : (m : Paged) (place : Place) (inbox : Inbox) → m.machine.ending ≡ None → is_asleep_at place ≡ false
    → IsAwake (alone forest (record { machine = record { machine = m; place = place }; inbox = inbox }))
unfolding boxed spots paged_machines machines
alone-awake m place inbox lives awake = record { lives = ap is_some lives; awake = awake }
