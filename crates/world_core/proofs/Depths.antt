-- Names that are too long for a machine of a world.
use Rattle.std.proofs.Common.{◌≡◌, ℕ, ◌+◌, ◌<◌, true, false, refl, sym, ap, ◌∙◌, ◌⊎◌, inl, inr, List, [], ◌∷◌, length, length-append, is_some, IsSome, Option, Some, None, subst, ◌≤◌, arith}
use Rattle.std.specs.Prelude.{IsSomeAnd}
use Rattle.std.specs.Ordering.{is_lt}
use Rattle.std.specs.BTreeMap.{BTreeMap, IsUpperBound, btree_map_len, get, is_at}
use Rattle.std.specs.Map.{lookup}
use Rattle.image_depot.specs.Key.{Shelves}
use Rattle.forest_tree.specs.Tree.{Path, subtree}
use Rattle.talking_history.specs.World.{is_at_home}
use Rattle.forest_model.specs.Paged.{paged_machines, paged_talks}
use Rattle.machine_names.specs.Name.{child_path}
use Rattle.machine_names.specs.NameOrder.{path_cmp}
use Rattle.run_report.specs.Report.{Ended as Report}
use Rattle.machine_names.proofs.NameMaps.{shorter-first}
use Rattle.world_core.specs.declared.cell.Cell.{Cell}
use Rattle.world_core.specs.declared.world.World.{World}
use Rattle.world_core.specs.Shows.{IsAwake}
use Rattle.world_core.specs.World.{Forest, IsReached, ShowsTree, StandsFor, rests_in}
use Rattle.world_core.proofs.ByName.{before-named, no_cell-home, over-nobody, root-cell}
use Rattle.world_core.proofs.Sleepers.{cell-shows, none-sleeps}

-- a path that is not the root's is that of a child
pub record IsChild (name : Path) : Type 0 where
  pub parent : Path
  pub ticket : ℕ
  pub child : ℕ
  pub is : name ≡ child_path parent ticket child

pub last-fork : (name : Path) → 0 < length name → IsChild name
last-fork [] some = absurd (omega (arith, some))
last-fork (b ∷ []) some = record { parent = []; ticket = b.ticket; child = b.child; is = refl }
last-fork (b ∷ (c ∷ rest)) some =
    let last = last-fork (c ∷ rest) (omega arith) in
    record { parent = b ∷ last.parent; ticket = last.ticket; child = last.child; is = ap (λ path. b ∷ path) last.is }

-- no key of a map is longer than one that is an upper bound
pub beyond-longest : {V : Type 0} (cells : BTreeMap Path V) (longest name : Path) → IsUpperBound path_cmp cells longest → length longest < length name
    → get path_cmp cells name ≡ None
beyond-longest {V} cells longest name bound longer = by (get path_cmp cells name) refl
  where
    by : (c : Option V) → get path_cmp cells name ≡ c → get path_cmp cells name ≡ None
    by None e = e
    by (Some c) e =
        let there : IsSome (get path_cmp cells name) = ap is_some e in
        let no : true ≡ false = sym (ap is_lt (shorter-first longest name longer)) ∙ bound name there in
        absurd (cc)

-- a map of no entries
pub no-entries : {A : Type 0} (xs : List A) → (0 < length xs → ⊥) → xs ≡ []
no-entries [] none = refl
no-entries (x ∷ xs) none = absurd (none (omega arith))

pub none-left : {V : Type 0} (cells : BTreeMap Path V) (name : Path) → cells.entries ≡ [] → get path_cmp cells name ≡ None
none-left cells name empty = ap (lookup (is_at (path_cmp name))) empty

module _ (depot : Shelves) (w : World) (f : Forest) (h : StandsFor depot w f) where
  -- no live machine is at home that has no cell, and whose parent has none
  pub far-nobody : (name : Path) → get path_cmp w.cells name ≡ None → ((parent : Path) → length name ≡ length parent + 1 → get path_cmp w.cells parent ≡ None)
      → is_at_home paged_machines paged_talks name f.tree ≡ false
  far-nobody name none above = by w.outcome refl
    where
      by : (o : Option Report) → w.outcome ≡ o → is_at_home paged_machines paged_talks name f.tree ≡ false
      by (Some outcome) e = over-nobody depot w f name h (ap is_some e)
      by None e = elim (cases name refl) [
        | inl root ↦ absurd (root-cell depot w f name h e (sym none) root)
        | inr some ↦
            let last = last-fork name some in
            let counted : length name ≡ length last.parent + 1 = omega (arith, ap length last.is, length-append last.parent (record { ticket = last.ticket; child = last.child } ∷ [])) in
            no_cell-home depot w f name h e (sym none) last.parent last.ticket last.child last.is
            (none-sleeps depot w.cells f.tree (before-named depot w f name h e) last.parent last.ticket last.child (above last.parent counted))
      ]
        where
          cases : (path : Path) → name ≡ path → (name ≡ []) ⊎ (0 < length name)
          cases [] e = inl e
          cases (b ∷ rest) e = inr (omega (arith, ap length e))

  -- the longest name of a machine that is awake tells
  pub too-deep : (longest name : Path) → IsUpperBound path_cmp w.cells longest → length longest + 1 < length name → is_at_home paged_machines paged_talks name f.tree ≡ false
  too-deep longest name bound longer =
      far-nobody name (beyond-longest w.cells longest name bound (omega arith))
      (λ parent counted. beyond-longest w.cells longest parent bound (omega arith))

  pub none-awake : (name : Path) → (0 < btree_map_len w.cells → ⊥) → is_at_home paged_machines paged_talks name f.tree ≡ false
  none-awake name none =
      let empty = no-entries w.cells.entries none in
      far-nobody name (none-left w.cells name empty) (λ parent counted. none-left w.cells parent empty)

  -- a machine that has a cell is awake
  awake-there : (name : Path) (c : Cell) → get path_cmp w.cells name ≡ Some c → IsSomeAnd (subtree name f.tree) IsAwake
  awake-there name c found = by w.outcome refl
    where
      by : (o : Option Report) → w.outcome ≡ o → IsSomeAnd (subtree name f.tree) IsAwake
      by (Some outcome) e =
          let shown = subst (λ o. ShowsTree o depot w f.tree) e h.tree in
          let none : get path_cmp w.cells name ≡ None = shown.cells name in
          absurd (cc)
      by None e =
          let shown = cell-shows depot name (rests_in f.tree name) (get path_cmp w.cells name) c (subtree name f.tree) found ((before-named depot w f name h e).shows name) in
          subst (λ o. IsSomeAnd o IsAwake) (sym shown.1) shown.2.awake

  pub reached : (longest : Path) (c : Cell) (depth : ℕ) → get path_cmp w.cells longest ≡ Some c → depth ≤ length longest + 1 → IsReached depth f
  reached longest c depth found near = record { name = longest; near = near; awake = awake-there longest c found }
