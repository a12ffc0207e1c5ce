-- How two steps of a tree meet.
use Rattle.std.specs.Prelude.{◌≡◌, ℕ, zero, suc, ◌==◌, ◌&&◌, not, Bool, true, false, List, [], ◌∷◌, Option, Some, None, IsSome, is_some, option_map}
use Rattle.forest_tree.specs.Operations.{Operations}
use Rattle.forest_tree.specs.Tree.{Tree, machine, Path, subtree}
use Rattle.sibling_forest.specs.Talk.{Talks, Inbox, Box}
use Rattle.sibling_forest.specs.Settle.{settle, settle_all, rests_at}

module _ {M E : Type 0} (o : Operations M E) (k : Talks M) where
  -- of two steps that can be made each can be made after the other, and the order makes no difference; or the one
  -- drops the machine that would make the other, and leads to the same tree without it
  pub data Meet (one other : Path) (t : Tree (Box M)) : Type 0 where
    commute : settle o k one (settle o k other t) ≡ settle o k other (settle o k one t)
        → rests_at o k one (settle o k other t) ≡ false → rests_at o k other (settle o k one t) ≡ false → Meet one other t
    drops : settle o k one (settle o k other t) ≡ settle o k one t → rests_at o k one (settle o k other t) ≡ false
        → subtree other (settle o k one t) ≡ None → Meet one other t
    dropped : settle o k other (settle o k one t) ≡ settle o k other t → rests_at o k other (settle o k one t) ≡ false
        → subtree one (settle o k other t) ≡ None → Meet one other t

-- the number of the machine at a path among the children of its ticket, and 0 of a root
unfoldable pub child_number : Path → ℕ
child_number [] = 0
child_number (b ∷ []) = b.child
child_number (b ∷ (c ∷ path)) = child_number (c ∷ path)

-- whether the second path leads to a child of the ticket of which the first leads to one
unfoldable pub is_sibling : Path → Path → Bool
is_sibling [] at = false
is_sibling (b ∷ []) [] = false
is_sibling (b ∷ []) (y ∷ []) = b.ticket == y.ticket
is_sibling (b ∷ []) (y ∷ (z ∷ at)) = false
is_sibling (b ∷ (c ∷ path)) [] = false
is_sibling (b ∷ (c ∷ path)) (y ∷ at) = (b.ticket == y.ticket) && (b.child == y.child) && is_sibling (c ∷ path) at

-- the k-th queue, from 1, or none where there is none
unfoldable pub queue_from : ℕ → Inbox → Option (List ℕ)
queue_from k [] = None
queue_from zero (q ∷ rest) = None
queue_from (suc zero) (q ∷ rest) = Some q
queue_from (suc (suc k)) (q ∷ rest) = queue_from (suc k) rest

module _ {M E : Type 0} (o : Operations M E) where
  -- what child i reads of a sibling, if there is one: whether it lives, and the words to it from child i
  abbrev pub read_of : ℕ → Option (Tree (Box M)) → Option (Bool × Option (List ℕ))
  read_of i c = option_map (λ (t : Tree (Box M)). (not (is_some (o.ending (machine t).machine)), queue_from i (machine t).inbox)) c

  -- two trees are alike in what the machine at a path reads: itself with the words to it and what is below it, and what it
  -- reads of each sibling
  pub record ReadAlike (path : Path) (t u : Tree (Box M)) : Type 0 where
    pub there : IsSome (subtree path t)
    pub own : subtree path u ≡ subtree path t
    pub siblings : (at : Path) → is_sibling path at ≡ true
        → read_of (child_number path) (subtree at u) ≡ read_of (child_number path) (subtree at t)

-- no live machine of the tree comes to a talk, whichever machines make steps
abbrev pub IsSilent : {M E : Type 0} → Operations M E → Talks M → Tree (Box M) → Type 0
IsSilent {M} o k t = (paths : List Path) (at : Path) (a : Tree (Box M)) → subtree at (settle_all o k paths t) ≡ Some a
    → o.ending (machine a).machine ≡ None → k.talk (machine a).machine ≡ None

-- what f leaves of a machine talks as the machine does
pub record TalksAlike {M N : Type 0} (k : Talks M) (l : Talks N) (f : M → N) : Type 0 where
  pub talk : (m : M) → l.talk (f m) ≡ k.talk m
  pub word : (m : M) → l.word (f m) ≡ k.word m
  pub received : (m : M) (word : Option ℕ) → l.received (f m) word ≡ f (k.received m word)

-- the box of what f leaves of the machine
abbrev pub box_of : {M N : Type 0} → (M → N) → Box M → Box N
box_of f b = record { machine = f b.machine; inbox = b.inbox }
