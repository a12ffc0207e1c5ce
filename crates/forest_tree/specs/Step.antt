-- One step of the machine at the root of a tree.
use Rattle.std.specs.Prelude.{ℕ, zero, suc, Bool, true, false, not, ◌&&◌, ◌||◌, List, [], ◌∷◌, Option, Some, None, is_some}
use Rattle.forest_tree.specs.Operations.{Call, clone, join, kill, Operations}
use Rattle.forest_tree.specs.Tree.{Tree, node, Trees, no_tree, tree, Broods, no_brood, brood, Log, no_entry, joined, killed, machine, brood_of, without}

module _ {M E : Type 0} (o : Operations M E) where
  abbrev pub has_ended : Tree M → Bool
  has_ended t = is_some (o.ending (machine t))

  unfoldable pub have_ended : Trees M → Bool
  have_ended no_tree = true
  have_ended (tree t rest) = has_ended t && have_ended rest

  -- the endings of trees that have ended, in order
  abbrev pub with_ending : Option E → List E → List E
  with_ending None rest = rest
  with_ending (Some ending) rest = ending ∷ rest

  unfoldable pub endings : Trees M → List E
  endings no_tree = []
  endings (tree t rest) = with_ending (o.ending (machine t)) (endings rest)

  -- a machine alone, as a child is born
  abbrev pub alone : M → Tree M
  alone m = node m no_brood no_entry

  -- n children, from child k on
  unfoldable pub children_from : M → ℕ → ℕ → Trees M
  children_from m k zero = no_tree
  children_from m k (suc n) = tree (alone (o.child m k)) (children_from m (suc k) n)

  -- the children of a clone of ticket t
  abbrev pub children : M → ℕ → Trees M
  children m t = children_from m 1 (o.grant m t).children

  -- the log with these tickets as killed
  unfoldable pub log_killed : M → List ℕ → Log M → Log M
  log_killed m [] log = log
  log_killed m (t ∷ rest) log = log_killed m rest (killed log t (o.grant m t).children)

  -- a machine that ends drops its broods, and logs its cloned tickets as killed
  abbrev pub settled_by : Option E → M → Broods M → Log M → Tree M
  settled_by None m broods log = node m broods log
  settled_by (Some ending) m broods log = node m no_brood (log_killed m (o.cloned m) log)

  -- what a step leads to
  abbrev pub settled : M → Broods M → Log M → Tree M
  settled m broods log = settled_by (o.ending m) m broods log

  -- a join waits for all children of its ticket to end
  abbrev pub waits_by : Option Call → Broods M → Bool
  waits_by None broods = false
  waits_by (Some (clone t)) broods = false
  waits_by (Some (join t)) broods = not (have_ended (brood_of t broods))
  waits_by (Some (kill t)) broods = false

  abbrev pub waits : Tree M → Bool
  waits (node m broods log) = waits_by (o.call m) broods

  abbrev pub join_by : Bool → ℕ → M → Broods M → Log M → Tree M
  join_by false t m broods log = node m broods log
  join_by true t m broods log =
      settled (o.after_join m (endings (brood_of t broods))) (without t broods) (joined log t (brood_of t broods))

  abbrev pub step_by : Option Call → M → Broods M → Log M → Tree M
  step_by None m broods log = settled (o.advance m) broods log
  step_by (Some (clone t)) m broods log = settled (o.forked m) (brood t (children m t) broods) log
  step_by (Some (join t)) m broods log = join_by (have_ended (brood_of t broods)) t m broods log
  step_by (Some (kill t)) m broods log =
      settled (o.after_kill m) (without t broods) (killed log t (o.grant m t).children)

  abbrev pub step_from : Option E → M → Broods M → Log M → Tree M
  step_from None m broods log = step_by (o.call m) m broods log
  step_from (Some ending) m broods log = node m broods log

  -- one step of the machine at the root, if it lives and does not wait
  unfoldable pub step : Tree M → Tree M
  step (node m broods log) = step_from (o.ending m) m broods log

  -- no machine is at the place, or it has ended, or it waits
  abbrev pub rests : Option (Tree M) → Bool
  rests None = true
  rests (Some t) = has_ended t || waits t

  -- so many steps of the machine at the root
  unfoldable pub steps : ℕ → Tree M → Tree M
  steps zero t = t
  steps (suc k) t = steps k (step t)

  -- so many steps of a machine's own
  unfoldable pub advanced : ℕ → M → M
  advanced zero m = m
  advanced (suc k) m = advanced k (o.advance m)
