-- What a pass holds after its one machine was handed back.
use Rattle.std.proofs.Common.{◌≡◌, ◌≢◌, ◌⊎◌, inl, inr, Bool, true, false, refl, sym, ap, ◌∙◌, subst}
use Rattle.forest_tree.specs.Tree.{Path}
use Rattle.talking_history.specs.Histories.{is_same_path}
use Rattle.talking_history.specs.Rows.{How}
use Rattle.talking_history.proofs.Held.{same-is, same-self}
use Rattle.world_core.specs.declared.world.Placed.{Placed}
use Rattle.world_core.specs.declared.world.Placed.TheVariants.{Done, Parked, Dropped, Memory}
use Rattle.world_core.specs.Answers.{IsLentOf, home_by}
use Rattle.world_core.specs.Lent.{Lent}
use Rattle.world_core.proofs.Giving.{home-wants-none}
use Rattle.fork_board.specs.Answers.{Places}
use Rattle.fork_board.specs.Follows.{depot_of}
use Rattle.fork_board.specs.Notes.{placed_entry}
use Rattle.fork_board.specs.Passes.{HoldsNone, IsFree, Makes, PassValue}
use Rattle.fork_board.specs.Holds.{HoldsOne, HoldsPlaced}

same-or-apart : (a b : Path) → (a ≡ b) ⊎ (a ≢ b)
same-or-apart a b = by (is_same_path a b) refl
  where
    by : (same : Bool) → is_same_path a b ≡ same → (a ≡ b) ⊎ (a ≢ b)
    by true e = inl (same-is a b e)
    by false e = inr (λ same. let yes : true ≡ false = sym (same-self a) ∙ ap (is_same_path a) same ∙ e in absurd (cc))

module _ (old new : PassValue) (lease : Lent) (one : HoldsOne old lease) where
  -- a name is the lease's, or was free before
  handed : (name : Path) → (lease.name ≡ name) ⊎ IsFree old name
  handed name = by (same-or-apart lease.name name)
    where
      by : (lease.name ≡ name) ⊎ (lease.name ≢ name) → (lease.name ≡ name) ⊎ IsFree old name
      by (inl same) = inl same
      by (inr apart) = inr (one.others name apart)

  pub holds-placed : (how : How) (placed : Placed) → Makes old new (placed_entry how lease.name lease.ran placed) → Places how lease new placed
      → HoldsPlaced new placed
  holds-placed how Done makes places = λ name. makes.free name (handed name)
  holds-placed how Parked makes places = λ name. makes.free name (handed name)
  holds-placed how Dropped makes places = λ name. makes.free name (handed name)
  holds-placed how (Memory back) makes places = subst (HoldsOne new) (sym places.1) (record {
    held = places.2;
    of_depot = subst (λ b. IsLentOf (depot_of b.opening) lease) (sym makes.same_board) one.of_depot;
    others = λ name apart. makes.free name (one.others name apart);
  })

  pub home-again : (placed : Placed) → Makes old new (placed_entry (home_by lease.now.ending) lease.name lease.ran placed)
      → Places (home_by lease.now.ending) lease new placed → HoldsNone new
  home-again Done makes places = holds-placed (home_by lease.now.ending) Done makes places
  home-again Parked makes places = holds-placed (home_by lease.now.ending) Parked makes places
  home-again Dropped makes places = holds-placed (home_by lease.now.ending) Dropped makes places
  home-again (Memory back) makes places = absurd (home-wants-none lease.now.ending places.0)
