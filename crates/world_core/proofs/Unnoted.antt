-- A talk that wakes nobody, since the sibling that it names did not come to wait for it.
use Rattle.std.proofs.Common.{◌≡◌, ◌≢◌, ◌⊎◌, inl, inr, ℕ, not, eqb, eqb-true, Bool, true, false, refl, sym, ap, ◌∙◌, subst, Option, Some, None}
use Rattle.std.proofs.lemmas.Bool.{eqb-false}
use Rattle.std.specs.Option.{IfSome}
use Rattle.std.specs.Ordering.{nat_cmp}
use Rattle.std.specs.BTreeMap.{get}
use Rattle.image_depot.specs.Key.{Shelves}
use Rattle.sibling_port.specs.declared.talk.Talk.{Talk}
use Rattle.sibling_port.specs.declared.talk.Talk.TheVariants.{Send, Receive}
use Rattle.forest_tree.specs.Tree.{Tree, machine, Path, subtree}
use Rattle.forest_tree.specs.Step.{has_ended}
use Rattle.forest_tree.proofs.Places.{some-same}
use Rattle.talking_history.specs.Places.{parked}
use Rattle.talking_history.specs.World.{is_asleep_at, is_out_at}
use Rattle.forest_model.specs.Forest.{tree_talk}
use Rattle.machine_names.specs.Name.{child_path}
use Rattle.machine_names.specs.NameOrder.{path_cmp}
use Rattle.sibling_words.specs.Notes.{noted}
use Rattle.world_core.specs.declared.cell.Awaited.{Awaited}
use Rattle.world_core.specs.declared.cell.Awaited.TheVariants.{Children, Sibling}
use Rattle.world_core.specs.declared.cell.Brood.{Brood}
use Rattle.world_core.specs.declared.cell.Cell.{Cell}
use Rattle.world_core.specs.declared.cell.Change.{Change}
use Rattle.world_core.specs.declared.cell.Change.TheVariants.{Word, Room}
use Rattle.world_core.specs.declared.cell.State.{State}
use Rattle.world_core.specs.declared.cell.State.TheVariants.{Home, Parked, Out}
use Rattle.world_core.specs.declared.cell.talks.Said.{Said}
use Rattle.world_core.specs.declared.cell.talks.Said.TheVariants as said
use Rattle.world_core.specs.declared.world.World.{World}
use Rattle.world_core.specs.Shows.{Member, forest, Awaits, IsAwake, Shows, StateShows}
use Rattle.world_core.specs.Stirring.{IsWokenBy, RestsAsBefore, WakesOne}
use Rattle.world_core.specs.Talking.{change_by, peer_of}
use Rattle.world_core.specs.Unparked.{ends_wait}
use Rattle.world_core.specs.World.{IsForest, Rests, ShowsEach}
use Rattle.world_core.proofs.Returns.{same-or-apart}
use Rattle.world_core.proofs.Siblings.{IsBeside, beside, peer-is}
use Rattle.world_core.proofs.Skipping.{each-as}
use Rattle.world_core.proofs.SlotPlaces.{not-parked}

-- ---- whom a change may wake

-- one that waits for this sibling alone
pub record IsOf (change : Change) (who : ℕ) : Type 0 where
  pub no_join : (ticket : ℕ) → ends_wait change (Children ticket) ≡ false
  pub by_talk : (what : Talk) → ends_wait change (Sibling what) ≡ true → peer_of what ≡ who

word-of : (who : ℕ) → IsOf (Word who) who
word-of who = record { no_join = λ ticket. refl; by_talk = by }
  where
    by : (what : Talk) → ends_wait (Word who) (Sibling what) ≡ true → peer_of what ≡ who
    by (Send j) e = absurd (cc)
    by (Receive j) e = sym (eqb-true who j e)

room-of : (who : ℕ) → IsOf (Room who) who
room-of who = record { no_join = λ ticket. refl; by_talk = by }
  where
    by : (what : Talk) → ends_wait (Room who) (Sibling what) ≡ true → peer_of what ≡ who
    by (Send j) e = sym (eqb-true who j e)
    by (Receive j) e = absurd (cc)

pub changed-of : (became : Said) (who : ℕ) (change : Change) → change_by became who ≡ Some change → IsOf change who
changed-of said.Waits who change is = absurd (cc)
changed-of said.Sent who change is = let same : Word who ≡ change = cc in subst (λ c. IsOf c who) same (word-of who)
changed-of (said.Received word) who change is = let same : Room who ≡ change = cc in subst (λ c. IsOf c who) same (room-of who)
changed-of said.Ended who change is = absurd (cc)

-- what is not noted
pub unnoted-by : (o : Option Brood) (is : Bool) (asked peer who : ℕ) → is ≡ false → asked ≡ peer → IfSome o (λ (b : Brood). is ≡ eqb (noted b.notes asked) who)
    → IfSome o (λ (b : Brood). noted b.notes peer ≢ who)
unnoted-by None is asked peer who none same h = tt
unnoted-by (Some b) is asked peer who none same h =
    subst (λ n. noted b.notes n ≢ who) same (eqb-false (noted b.notes asked) who (sym h ∙ none))

-- ---- the sibling rests as before

module _ (depot : Shelves) (w : World) (t : Tree Member) (before after : Rests) (change : Change) (parent : Path) (ticket k who : ℕ) (whole : IsForest t)
    (root : IsAwake t) (each : ShowsEach depot before w t) (wakes : WakesOne change (child_path parent ticket k) before after t) (of_it : IsOf change who)
    (c : Cell) (found : get path_cmp w.cells parent ≡ Some c) (none : IfSome (get nat_cmp c.broods ticket) (λ (b : Brood). noted b.notes k ≢ who)) where
  abbrev name : Path
  name = child_path parent ticket k

  module _ (a : Tree Member) (there : subtree name t ≡ Some a) (lives : has_ended forest a ≡ false) (waits : (machine a).machine.place ≡ parked) where
    awake : IsAwake a
    awake = record { lives = lives; awake = ap is_asleep_at waits }

    woken : IsWokenBy change (before name) (after name) (machine a)
    woken = subst (λ o. IfSome o (λ (u : Tree Member). IsAwake u → IsWokenBy change (before name) (after name) (machine u))) there wakes.one awake

    -- it is noted for what it waits for
    not-ended : (awaited : Awaited) → Awaits awaited (machine a) → ends_wait change awaited ≡ false
    not-ended (Children u) speaks = of_it.no_join u
    not-ended (Sibling what) speaks = by (ends_wait change (Sibling what)) refl
      where
        s : IsBeside depot before w t parent (record { ticket = ticket; child = k }) a
        s = beside depot before w t parent (record { ticket = ticket; child = k }) a whole root each there

        not-noted : noted s.brood.notes k ≢ who
        not-noted =
            let same : c ≡ s.cell = some-same c s.cell (sym found ∙ s.found) in
            subst (λ o. IfSome o (λ (b : Brood). noted b.notes k ≢ who)) (ap (λ (cell : Cell). get nat_cmp cell.broods ticket) same ∙ s.has) none

        by : (is : Bool) → ends_wait change (Sibling what) ≡ is → is ≡ false
        by false e = refl
        by true e = absurd (not-noted (s.held.heard.notes k a s.is_child (tree_talk what) waits speaks ∙ peer-is what ∙ of_it.by_talk what e))

    awaits-by : (state : State) → StateShows name state (machine a) true → (awaited : Awaited) × Awaits awaited (machine a)
    awaits-by (Home vm) shown = elim shown.1 [
      | inl at_home ↦ absurd (not-parked (machine a).machine.place at_home waits)
      | inr goes ↦ let no : true ≡ false = goes.1 in absurd (cc)
    ]
    awaits-by (Parked awaited vm turn) shown = (awaited, shown.3)
    awaits-by Out shown = let no : true ≡ false = ap is_out_at (sym shown ∙ waits) in absurd (cc)

    awaits : (o : Option Cell) → Shows depot name true o (Some a) → (awaited : Awaited) × Awaits awaited (machine a)
    awaits None (inl over) = let no : true ≡ false = sym over.0 ∙ lives in absurd (cc)
    awaits None (inr sleeps) = let no : true ≡ false = sym sleeps ∙ awake.awake in absurd (cc)
    awaits (Some d) shown = awaits-by d.state shown.state

    unmoved : (rests : Bool) → before name ≡ rests → after name ≡ before name
    unmoved false was = woken.goes_on was ∙ sym was
    unmoved true was =
        let one = awaits (get path_cmp w.cells name)
        (subst (λ o. Shows depot name true (get path_cmp w.cells name) o) there
        (subst (λ rests. Shows depot name rests (get path_cmp w.cells name) (subtree name t)) was (each.cells name))) in
        woken.waits one.0 one.1 was ∙ ap not (not-ended one.0 one.1) ∙ sym was

  pub each-unnoted : ShowsEach depot after w t
  each-unnoted = each-as depot w t before after each (λ n. by n (same-or-apart name n))
    where
      itself : (o : Option (Tree Member)) → subtree name t ≡ o → IfSome o (RestsAsBefore (before name) (after name))
      itself None e = tt
      itself (Some a) e = record { same = λ lives waits. unmoved a e lives waits (before name) refl }

      by : (n : Path) → (n ≡ name) ⊎ (name ≢ n) → IfSome (subtree n t) (RestsAsBefore (before n) (after n))
      by n (inl e) = subst (λ m. IfSome (subtree m t) (RestsAsBefore (before m) (after m))) (sym e) (itself (subtree name t) refl)
      by n (inr other) = wakes.others n (λ e. other (sym e))
