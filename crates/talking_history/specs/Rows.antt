-- What the calls on a world do: for each answer, where it is allowed, and what the world is after it.
use Rattle.std.specs.Prelude.{◌≡◌, ℕ, suc, Bool, true, false, not, ◌&&◌, ◌||◌, replicate, Option, Some, None, is_some}
use Rattle.forest_tree.specs.Operations.{Operations, Call, clone, join, kill}
use Rattle.forest_tree.specs.Tree.{Tree, machine, Path, subtree, at_path}
use Rattle.forest_tree.specs.Step.{has_ended, advanced}
use Rattle.sibling_forest.specs.Talk.{Talk, send, receive, Talks, Box}
use Rattle.sibling_forest.specs.Settle.{settle_all}
use Rattle.talking_history.specs.Places.{Place, home, out, parked, Spot, spots, placed, spot_talks, boxes, may_run}
use Rattle.talking_history.specs.World.{World, place_of, is_out, IsWhole, is_resting, is_ready, is_to_wake}

-- what becomes of a machine that comes back, after its own steps
pub data How : Type 0 where
  -- it lives, and is home
  gave : How
  -- it has ended
  ended : How
  -- it makes its call
  forked : How
  joined : How
  killed : How
  -- it makes its talk
  sent : How
  received : How
  -- its join, send or receive waits
  waited : How

pub data Row (R : Type 0) : Type 0 where
  over : Row R
  stopped : R → Row R
  -- no machine is ready and none is out: none makes a step any more
  stuck : Row R
  -- no machine is ready, and one is out
  idle : Row R
  took : Path → Row R
  -- want of memory to wake a machine
  wake_failed : Row R
  -- the machine of this name came back after so many steps of its own
  spent : How → Path → ℕ → Row R
  -- the same, and its name was gone
  dropped : Path → Row R
  -- the same, and for want of memory it stays on lease
  kept : Path → ℕ → Row R
  halted : R → Row R

abbrev pub is_clone : Option Call → Bool
is_clone None = false
is_clone (Some (clone t)) = true
is_clone (Some (join t)) = false
is_clone (Some (kill t)) = false

abbrev pub is_join : Option Call → Bool
is_join None = false
is_join (Some (clone t)) = false
is_join (Some (join t)) = true
is_join (Some (kill t)) = false

abbrev pub is_kill : Option Call → Bool
is_kill None = false
is_kill (Some (clone t)) = false
is_kill (Some (join t)) = false
is_kill (Some (kill t)) = true

-- the first reason stays
abbrev pub first_reason : {R : Type 0} → Option R → R → Option R
first_reason None r = Some r
first_reason (Some first) r = Some first

abbrev pub is_send : Option Talk → Bool
is_send None = false
is_send (Some (send j)) = true
is_send (Some (receive j)) = false

abbrev pub is_receive : Option Talk → Bool
is_receive None = false
is_receive (Some (send j)) = false
is_receive (Some (receive j)) = true

-- where a machine that came back is
abbrev pub back : How → Place
back gave = home
back ended = home
back forked = home
back joined = home
back killed = home
back sent = home
back received = home
back waited = parked

-- how many steps it has made with so many of its own: its call or its talk is one
abbrev pub made : How → ℕ → ℕ
made gave n = n
made ended n = n
made forked n = suc n
made joined n = suc n
made killed n = suc n
made sent n = suc n
made received n = suc n
made waited n = n

abbrev pub IfThere : {A : Type 0} → (A → Type 0) → Option A → Type 0
IfThere P None = ⊥
IfThere P (Some a) = P a

module _ {M E : Type 0} (o : Operations M E) where
  -- a live machine makes this call next
  abbrev pub stands_at : (Option Call → Bool) → M → Bool
  stands_at test m = not (is_some (o.ending m)) && test (o.call m)

module _ {M E : Type 0} (o : Operations M E) (k : Talks M) where
  -- a live machine makes this talk next
  abbrev pub speaks : (Option Talk → Bool) → M → Bool
  speaks test m = not (is_some (o.ending m)) && test (k.talk m)

  -- where the machine, after its own steps, may come back so, where it rests or not
  abbrev pub may_spend : How → M → Bool → Bool
  may_spend gave m resting = not (is_some (o.ending m))
  may_spend ended m resting = is_some (o.ending m)
  may_spend forked m resting = stands_at o is_clone m && not resting
  may_spend joined m resting = stands_at o is_join m && not resting
  may_spend killed m resting = stands_at o is_kill m && not resting
  may_spend sent m resting = speaks is_send m && not resting
  may_spend received m resting = speaks is_receive m && not resting
  may_spend waited m resting = not (is_some (o.ending m)) && resting

  -- the tree after so many steps of the machine of this name
  abbrev pub run_at : Path → ℕ → Tree (Box (Spot M)) → Tree (Box (Spot M))
  run_at name n t = settle_all (spots o) (spot_talks k) (replicate n name) t

  -- the tree after the machine of this name, with so many steps of its own, came back so
  abbrev pub came_back : How → Path → ℕ → Tree (Box (Spot M)) → Tree (Box (Spot M))
  came_back how name n t = at_path (placed (back how)) name (run_at name (made how n) t)

  -- it is out, and its next steps are its own
  pub record RanOut (n : ℕ) (t : Tree (Box (Spot M))) : Type 0 where
    pub is_out : place_of t ≡ out
    pub own : may_run o k n (machine t).machine.machine ≡ true

  -- it may come back so, where it rests after its own steps or not
  pub record Spends (how : How) (n : ℕ) (resting : Bool) (t : Tree (Box (Spot M))) : Type 0 where
    pub ran : RanOut n t
    pub may : may_spend how (advanced o n (machine t).machine.machine) resting ≡ true

  -- it is to fork, to join children that have all ended, or to send a word that need not wait
  pub record Keeps (n : ℕ) (resting : Bool) (t : Tree (Box (Spot M))) : Type 0 where
    pub ran : RanOut n t
    pub call : may_spend forked (advanced o n (machine t).machine.machine) resting
        || (may_spend joined (advanced o n (machine t).machine.machine) resting
        || may_spend sent (advanced o n (machine t).machine.machine) resting) ≡ true

  abbrev pub IsGoing : {R : Type 0} → World M R → Type 0
  IsGoing w = (has_ended (boxes o k) w.tree ≡ false) × (w.halted ≡ None)

  abbrev pub NoneReady : Tree (Box (Spot M)) → Type 0
  NoneReady t = (name : Path) → is_ready o k name t ≡ false

  -- where the row may come
  unfoldable pub Allows : {R : Type 0} → Row R → World M R → Type 0
  Allows over w = has_ended (boxes o k) w.tree ≡ true
  Allows (stopped r) w = (has_ended (boxes o k) w.tree ≡ false) × (w.halted ≡ Some r)
  Allows stuck w = IsGoing w × NoneReady w.tree × IsWhole w.tree
  Allows idle w = IsGoing w × NoneReady w.tree × ((name : Path) × (is_out name w.tree ≡ true))
  Allows (took name) w = IsGoing w × (is_ready o k name w.tree ≡ true)
  Allows wake_failed w = IsGoing w × ((name : Path) × (is_to_wake o k name w.tree ≡ true))
  Allows (spent how name n) w = IfThere (Spends how n (is_resting o k name (run_at name n w.tree))) (subtree name w.tree)
  Allows (dropped name) w = subtree name w.tree ≡ None
  Allows (kept name n) w = IfThere (Keeps n (is_resting o k name (run_at name n w.tree))) (subtree name w.tree)
  Allows (halted r) w = Unit {0}

  -- what the world is after it
  unfoldable pub does : {R : Type 0} → Row R → World M R → World M R
  does over w = w
  does (stopped r) w = w
  does stuck w = w
  does idle w = w
  does (took name) w = record w { tree = at_path (placed out) name w.tree }
  does wake_failed w = w
  does (spent how name n) w = record w { tree = came_back how name n w.tree }
  does (dropped name) w = w
  does (kept name n) w = w
  does (halted r) w = record w { halted = first_reason w.halted r }

  -- the world comes by the row from old to new
  pub record Makes {R : Type 0} (row : Row R) (old new : World M R) : Type 0 where
    pub allowed : Allows row old
    pub after : new ≡ does row old
