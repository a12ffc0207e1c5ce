-- Trees that a forest can come to.
use Rattle.std.specs.Prelude.{◌≡◌, ℕ, true, if◌then◌else◌, None, IsSome}
use Rattle.forest_tree.specs.Operations.{Grant, Operations, is_cloned}
use Rattle.forest_tree.specs.Tree.{Tree, node, Trees, no_tree, tree, Broods, no_brood, brood, machine, size, broods_with}

module _ {M E : Type 0} (o : Operations M E) where
  -- a good machine with its broods: none where it has ended, and else one for each of its cloned tickets
  -- and no other
  pub record IsSoundMachine (m : M) (broods : Broods M) : Type 0 where
    pub good : o.is_good m ≡ true
    pub ended : IsSome (o.ending m) → broods ≡ no_brood
    pub one_each : o.ending m ≡ None → (t : ℕ) → broods_with t broods ≡ (if is_cloned o m t then 1 else 0)

  unfoldable mutual
    -- each machine in it is sound
    pub IsSound : Tree M → Type 0
    IsSound (node m broods log) = IsSoundMachine m broods × AreSound (o.grant m) broods

    -- the brood of each ticket has as many trees as were granted
    pub AreSound : (ℕ → Grant) → Broods M → Type 0
    AreSound grant no_brood = Unit {0}
    AreSound grant (brood t trees rest) =
        (size trees ≡ (grant t).children) × Hold (grant t).share trees × AreSound grant rest

    -- and each of these is sound, and holds the share
    pub Hold : ℕ → Trees M → Type 0
    Hold share no_tree = Unit {0}
    Hold share (tree t rest) = (o.holding (machine t) ≡ share) × IsSound t × Hold share rest
