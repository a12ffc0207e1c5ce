-- One step of one machine of a tree whose machines talk.
use Rattle.std.specs.Prelude.{ℕ, Bool, true, false, not, ◌&&◌, ◌||◌, nat_le, List, [], ◌∷◌, ◌++◌, length, Option, Some, None, is_some, option_map}
use Rattle.forest_tree.specs.Operations.{Operations}
use Rattle.forest_tree.specs.Tree.{Tree, node, Trees, machine, broods_of, at_child, child_at, brood_of, at_brood, Path, with_broods}
use Rattle.forest_tree.specs.Step.{step, rests}
use Rattle.sibling_forest.specs.Talk.{Talk, send, receive, Talks, queue, at_queue, Box, boxed}

abbrev pub with_word : ℕ → List ℕ → List ℕ
with_word word q = q ++ (word ∷ [])

abbrev pub is_empty : List ℕ → Bool
is_empty [] = true
is_empty (word ∷ rest) = false

-- a queue is full with 8 words
abbrev pub is_full : List ℕ → Bool
is_full q = nat_le 8 (length q)

-- of a tree, where one is there
abbrev pub rests_there : {M : Type 0} → (Tree M → Bool) → Option (Tree M) → Bool
rests_there r None = true
rests_there r (Some t) = r t

module _ {M E : Type 0} (o : Operations M E) (k : Talks M) where
  -- the machine of child j with the words to it
  abbrev pub box_at : ℕ → Trees (Box M) → Option (Box M)
  box_at j trees = option_map machine (child_at j trees)

  abbrev pub lives_there : Option (Box M) → Bool
  lives_there None = false
  lives_there (Some b) = not (is_some (o.ending b.machine))

  -- the queue from child i to it is full
  abbrev pub is_full_there : ℕ → Option (Box M) → Bool
  is_full_there i None = false
  is_full_there i (Some b) = is_full (queue i b.inbox)

  -- whether child i waits with its talk: to send while the queue is full, and to receive while it is empty, as long as
  -- its sibling lives
  abbrev pub waits_by : Option Talk → ℕ → Box M → Trees (Box M) → Bool
  waits_by None i b trees = false
  waits_by (Some (send j)) i b trees = lives_there (box_at j trees) && is_full_there i (box_at j trees)
  waits_by (Some (receive j)) i b trees = lives_there (box_at j trees) && is_empty (queue j b.inbox)

  -- child i makes no step: there is none, or it has ended, or it waits for its own children or for a sibling
  abbrev pub sibling_rests_by : Option (Tree (Box M)) → ℕ → Trees (Box M) → Bool
  sibling_rests_by None i trees = true
  sibling_rests_by (Some t) i trees =
      rests (boxed o k) (Some t) || waits_by (k.talk (machine t).machine) i (machine t) trees

  abbrev pub sibling_rests : ℕ → Trees (Box M) → Bool
  sibling_rests i trees = sibling_rests_by (child_at i trees) i trees

  -- a word of child i comes last in the queue from it; one that has ended takes no word
  abbrev pub heard_by : Option E → ℕ → ℕ → Box M → Box M
  heard_by None i word b = record b { inbox = at_queue (with_word word) i b.inbox }
  heard_by (Some ending) i word b = b

  abbrev pub delivered : ℕ → ℕ → Tree (Box M) → Tree (Box M)
  delivered i word (node b broods log) = node (heard_by (o.ending b.machine) i word b) broods log

  abbrev pub deliver_by : Option Talk → ℕ → ℕ → Trees (Box M) → Trees (Box M)
  deliver_by None i word trees = trees
  deliver_by (Some (send j)) i word trees = at_child (delivered i word) j trees
  deliver_by (Some (receive j)) i word trees = trees

  -- the children of a ticket after a step of child i: what it sends comes to its sibling
  abbrev pub sibling_step_by : Bool → Option (Tree (Box M)) → ℕ → Trees (Box M) → Trees (Box M)
  sibling_step_by true c i trees = trees
  sibling_step_by false None i trees = trees
  sibling_step_by false (Some t) i trees =
      deliver_by (k.talk (machine t).machine) i (k.word (machine t).machine) (at_child (step (boxed o k)) i trees)

  abbrev pub sibling_step : ℕ → Trees (Box M) → Trees (Box M)
  sibling_step i trees = sibling_step_by (sibling_rests i trees) (child_at i trees) i trees

  -- one step of the machine at a path. A root has no siblings
  unfoldable pub settle : Path → Tree (Box M) → Tree (Box M)
  settle [] t = step (boxed o k) t
  settle (b ∷ []) t = with_broods (at_brood (sibling_step b.child) b.ticket) t
  settle (b ∷ (c ∷ path)) t = with_broods (at_brood (at_child (settle (c ∷ path)) b.child) b.ticket) t

  -- one step for each of the paths, in order
  unfoldable pub settle_all : List Path → Tree (Box M) → Tree (Box M)
  settle_all [] t = t
  settle_all (path ∷ rest) t = settle_all rest (settle path t)

  -- the machine at a path makes no step: none is there, or it has ended, or it waits
  unfoldable pub rests_at : Path → Tree (Box M) → Bool
  rests_at [] t = rests (boxed o k) (Some t)
  rests_at (b ∷ []) t = sibling_rests b.child (brood_of b.ticket (broods_of t))
  rests_at (b ∷ (c ∷ path)) t = rests_there (rests_at (c ∷ path)) (child_at b.child (brood_of b.ticket (broods_of t)))
