-- The queues of a brood: one for each ordered pair of its members.
use Rattle.std.specs.Prelude.{◌≡◌, ◌≤◌, ℕ, suc, [], length, IsSome}
use Rattle.forest_tree.specs.Operations.{Operations}
use Rattle.forest_tree.specs.Tree.{Tree, node, Trees, no_tree, tree, Broods, no_brood, brood, machine, size}
use Rattle.forest_tree.specs.Sound.{IsSound}
use Rattle.sibling_forest.specs.Talk.{Talks, queue, emptied, Box, boxed}

module _ {M E : Type 0} (o : Operations M E) (k : Talks M) where
  -- child i of a ticket with so many children: it has a queue from each of them, of at most 8 words, none from itself,
  -- and none where it has ended
  pub record IsMember (count i : ℕ) (b : Box M) : Type 0 where
    pub number : k.number b.machine ≡ i
    pub siblings : k.siblings b.machine ≡ count
    pub one_each : length b.inbox ≡ count
    pub within : (j : ℕ) → length (queue j b.inbox) ≤ 8
    pub own : queue i b.inbox ≡ []
    pub ended : IsSome (o.ending b.machine) → b.inbox ≡ emptied b.inbox

  unfoldable mutual
    -- each brood below it has its members
    pub HaveMembers : Tree (Box M) → Type 0
    HaveMembers (node b broods log) = BroodsHave broods

    pub BroodsHave : Broods (Box M) → Type 0
    BroodsHave no_brood = Unit {0}
    BroodsHave (brood t trees rest) = AreMembers (size trees) 1 trees × BroodsHave rest

    pub AreMembers : ℕ → ℕ → Trees (Box M) → Type 0
    AreMembers count i no_tree = Unit {0}
    AreMembers count i (tree t rest) = IsMember count i (machine t) × HaveMembers t × AreMembers count (suc i) rest

  -- a tree that a forest of talking machines can come to, from its root on, which has no siblings
  pub record IsWholeForest (t : Tree (Box M)) : Type 0 where
    pub sound : IsSound (boxed o k) t
    pub members : HaveMembers t
    pub root : k.siblings (machine t).machine ≡ 0
