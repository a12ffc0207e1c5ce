-- Whether the name of a lease is there, by the slot that its parent has for it.
use Rattle.std.proofs.Common.{◌≡◌, ◌≤◌, Bool, true, false, refl, sym, ap, ◌∙◌, subst, [], ◌∷◌, ◌++◌, Option, Some, None, IsSome, MatchBool}
use Rattle.std.specs.Ordering.{nat_cmp}
use Rattle.std.specs.BTreeMap.{get}
use Rattle.std.specs.Option.{IfSome}
use Rattle.std.specs.Prelude.{Result, Ok, Err}
use Rattle.std.specs.Result.{IsErr}
use Rattle.std.specs.declared.alloc.AllocError.{AllocError}
use Rattle.image_depot.specs.Key.{Shelves}
use Rattle.sibling_port.specs.declared.talk.Talk.{Talk}
use Rattle.forest_tree.specs.Tree.{Tree, node, broods_of, brood_of, Branch, Path, subtree}
use Rattle.forest_tree.proofs.Places.{some-same}
use Rattle.machine_names.specs.NameOrder.{path_cmp}
use Rattle.run_report.specs.Report.{Ended as Outcome}
use Rattle.world_core.specs.declared.cell.Cell.{Cell}
use Rattle.world_core.specs.declared.cell.ChildSlot.{ChildSlot}
use Rattle.world_core.specs.declared.cell.ChildSlot.TheVariants.{Asleep, Awake, Ended}
use Rattle.world_core.specs.declared.cell.talks.Said.{Said}
use Rattle.world_core.specs.declared.world.World.{World}
use Rattle.world_core.specs.Answers.{IsHandedOut}
use Rattle.world_core.specs.Lent.{Lent}
use Rattle.world_core.specs.Shows.{Member, Shows}
use Rattle.world_core.specs.Spoken.{IsThereBy, NotesPeer, Spoke, said_forest}
use Rattle.world_core.specs.Talking.{IsAwakeSlot, IsNotAwake, slot_in}
use Rattle.world_core.specs.World.{Forest, ShowsTree, StandsFor, rests_in}
use Rattle.world_core.proofs.Awake.{child-below}
use Rattle.world_core.proofs.Returns.{Handed, gone, handed, there}
use Rattle.world_core.proofs.Siblings.{beside}
use Rattle.world_core.proofs.SlotChanges.{child-place}
use Rattle.world_core.proofs.Steps.{lent_out}
use Rattle.world_core.proofs.Stirs.{born-awake, named}

-- the root is there
pub root-there : (name : Path) (t : Tree Member) → name ≡ [] → IsSome (subtree name t)
unfolding subtree
root-there name t root = subst (λ n. IsSome (subtree n t)) (sym root) refl

awake-name : (slot : Option ChildSlot) → IsAwakeSlot slot → (name : Path) × (slot ≡ Some (Awake name))
awake-name None h = absurd h
awake-name (Some Asleep) h = absurd h
awake-name (Some (Awake name)) h = (name, refl)
awake-name (Some (Ended outcome)) h = absurd h

module _ (depot : Shelves) (w : World) (f : Forest) (lease : Lent) (parent : Path) (x : Branch) (stands : StandsFor depot w f)
    (is_child : lease.name ≡ parent ++ (x ∷ [])) where
  module _ (c : Cell) (found : Some c ≡ get path_cmp w.cells parent) where
    -- one that has its name in its slot is there
    awake-there : (1 ≤ x.child) × IsAwakeSlot (slot_in x.child (get nat_cmp c.broods x.ticket)) → IsSome (subtree lease.name f.tree)
    awake-there slot = by w.outcome stands.tree
      where
        known : (name : Path) × (slot_in x.child (get nat_cmp c.broods x.ticket) ≡ Some (Awake name))
        known = awake-name (slot_in x.child (get nat_cmp c.broods x.ticket)) slot.1

        above : (o : Option (Tree Member)) → subtree parent f.tree ≡ o → Shows depot parent (rests_in f.tree parent) (Some c) o → IsSome (subtree lease.name f.tree)
        above None e shown = absurd shown
        above (Some p) e shown =
            let one = named depot parent x.ticket x.child c p known.0 shown.holds slot.0 known.1 in
            let at : subtree lease.name f.tree ≡ Some one.child =
            ap (λ n. subtree n f.tree) is_child ∙ child-below parent x.ticket x.child f.tree (Some p) e ∙ one.is_child in
            subst IsSome (sym at) refl

        by : (outcome : Option Outcome) → ShowsTree outcome depot w f.tree → IsSome (subtree lease.name f.tree)
        by None live =
            above (subtree parent f.tree) refl
            (subst (λ o. Shows depot parent (rests_in f.tree parent) o (subtree parent f.tree)) (sym found) (live.each.cells parent))
        by (Some outcome) end = let no : Some c ≡ None = found ∙ end.cells parent in absurd (cc)

    pub there-by : (P : Type 0) (is : Bool) → is ≡ true → MatchBool is ((1 ≤ x.child) × IsAwakeSlot (slot_in x.child (get nat_cmp c.broods x.ticket))) P
        → IsSome (subtree lease.name f.tree)
    there-by P true goes slot = awake-there slot
    there-by P false goes slot = absurd (cc)

  module _ (out_as : IsHandedOut f lease) where
    -- a machine whose parent has no cell is gone
    pub gone-above : None ≡ get path_cmp w.cells parent → subtree lease.name f.tree ≡ None
    gone-above none = by (handed depot w f lease stands out_as)
      where
        by : Handed depot w f lease → subtree lease.name f.tree ≡ None
        by (gone lost cell) = lost
        by (there start inbox broods log cell is_as is) =
            let b = beside depot (rests_in f.tree) w f.tree parent x (node (lent_out inbox start) broods log) stands.whole is.live.root is.live.each
            (ap (λ n. subtree n f.tree) (sym is_child) ∙ is.there) in
            let no : None ≡ Some b.cell = none ∙ b.found in absurd (cc)

    -- so is one whose slot has no name
    pub gone-by : (c : Cell) → Some c ≡ get path_cmp w.cells parent → (P : Type 0) (is : Bool) → is ≡ false
        → MatchBool is P (1 ≤ x.child → IsNotAwake (get nat_cmp c.broods x.ticket) x.child) → subtree lease.name f.tree ≡ None
    gone-by c found P true lost slot = absurd (cc)
    gone-by c found P false lost slot = by (handed depot w f lease stands out_as)
      where
        by : Handed depot w f lease → subtree lease.name f.tree ≡ None
        by (gone none cell) = none
        by (there start inbox broods log cell is_as is) =
            let t : Tree Member = node (lent_out inbox start) broods log in
            let b = beside depot (rests_in f.tree) w f.tree parent x t stands.whole is.live.root is.live.each (ap (λ n. subtree n f.tree) (sym is_child) ∙ is.there) in
            let same : b.cell ≡ c = some-same b.cell c (sym b.found ∙ sym found) in
            let has : get nat_cmp c.broods x.ticket ≡ Some b.brood = ap (λ (d : Cell). get nat_cmp d.broods x.ticket) (sym same) ∙ b.has in
            let place = child-place depot parent b.cell b.above t x.ticket x.child b.brood b.shows.holds b.is_child b.has in
            absurd (slot place.0 (subst (λ o. IsAwakeSlot (slot_in x.child o)) (sym has)
            (born-awake depot parent x.ticket b.brood.image b.brood.slots.items (brood_of x.ticket (broods_of b.above)) x.child t b.held.born b.is_child is.shows.awake)))

pub err-there : (f : Forest) (lease : Lent) (r : Result (Option (Said × Bool)) AllocError) → IsErr r → IsSome (subtree lease.name f.tree) → IsThereBy f lease r
err-there f lease (Ok told) err some = absurd (cc)
err-there f lease (Err e) err some = some

pub not-there : (f : Forest) (lease : Lent) (r : Result (Option (Said × Bool)) AllocError) → ((told : Option (Said × Bool)) → r ≡ Ok told → ⊥) → IsThereBy f lease r
    → IsSome (subtree lease.name f.tree)
not-there f lease (Ok told) never h = absurd (never told refl)
not-there f lease (Err e) never h = h

-- ---- what is told of a talk

pub told-some : (depot : Shelves) (v : World) (f : Forest) (lease : Lent) (what : Talk) (told : Option (Said × Bool)) (became : Said) (heard : Bool)
    → told ≡ Some (became, heard) → IsThereBy f lease (Ok told) → IfSome told (λ (t : Said × Bool). Spoke f lease what t.0)
    → IfSome told (λ (t : Said × Bool). StandsFor depot v (said_forest lease what t.0 f))
    → IsSome (subtree lease.name f.tree) × Spoke f lease what became × StandsFor depot v (said_forest lease what became f)
told-some depot v f lease what told became heard is some spoke after = (
  subst (λ (o : Option (Said × Bool)). IsThereBy f lease (Ok o)) is some,
  subst (λ o. IfSome o (λ (t : Said × Bool). Spoke f lease what t.0)) is spoke,
  subst (λ o. IfSome o (λ (t : Said × Bool). StandsFor depot v (said_forest lease what t.0 f))) is after,
)

pub notes-some : (v : World) (lease : Lent) (what : Talk) (told : Option (Said × Bool)) (became : Said) (heard : Bool) → told ≡ Some (became, heard)
    → IfSome told (λ (t : Said × Bool). NotesPeer what lease.name t.0 v) → NotesPeer what lease.name became v
notes-some v lease what told became heard is notes = subst (λ o. IfSome o (λ (t : Said × Bool). NotesPeer what lease.name t.0 v)) is notes
