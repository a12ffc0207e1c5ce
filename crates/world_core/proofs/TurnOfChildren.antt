-- A child that is handed out by a turn of its parent's children.
use Rattle.std.proofs.Common.{◌≡◌, ◌≢◌, ◌⊎◌, ℕ, ◌≤◌, ◌<◌, ◌&&◌, Bool, true, false, leb, refl, sym, ap, ◌∙◌, subst, inl, inr, List, ◌∷◌, Option, Some, None, is_some}
use Rattle.std.proofs.lemmas.Bool.Decides.{leb_tells}
use Rattle.std.specs.Option.{IfSome}
use Rattle.std.specs.BTreeMap.{get}
use Rattle.std.proofs.lemmas.Bool.{and_parts}
use Rattle.image_depot.specs.Key.{Shelves}
use Rattle.forest_tree.specs.Tree.{Tree, machine, Path, subtree, at_path}
use Rattle.forest_tree.specs.Step.{has_ended}
use Rattle.talking_history.specs.Places.{out, placed}
use Rattle.talking_history.specs.World.{is_asleep_at, is_ready_at, lives_ready, holds}
use Rattle.talking_history.specs.Rows.{took, wake_failed, Allows, does}
use Rattle.forest_model.specs.Paged.{paged_machines, paged_talks}
use Rattle.machine_names.specs.Name.{child_path}
use Rattle.machine_names.specs.NameOrder.{path_cmp}
use Rattle.world_core.specs.declared.cell.Cell.{Cell}
use Rattle.world_core.specs.Shows.{Member, paged_of, forest, Shows}
use Rattle.world_core.specs.declared.world.World.{World}
use Rattle.world_core.specs.Lent.{Lent, now_of}
use Rattle.ready_queue.specs.Ready.{Ready}
use Rattle.world_core.specs.Listed.{CoversBy, IsListed, IsCovered}
use Rattle.world_core.specs.World.{Forest, IsDue, ShowsLive, ShowsTree, StandsFor, is_ready_in, rests_in}
use Rattle.world_core.specs.Answers.{Goes, IsLentOf, Starts}
use Rattle.world_core.specs.Popped.{ShowsCells, IsFirstAsleep, is_listed_in, with_turn}
use Rattle.world_core.proofs.Sleepers.{wakes, wakes-any, wakes-there, dead-not}
use Rattle.world_core.proofs.TakenOut.{taken, allows-took}
use Rattle.world_core.proofs.TurnOut.{shown-with}

-- a machine that has no cell and is ready is still a descriptor
ready-asleep : (depot : Shelves) (n : Path) (resting : Bool) (u : Option (Tree Member)) → Shows depot n resting None u
    → holds (lives_ready paged_machines paged_talks resting) u ≡ true → wakes u ≡ true
ready-asleep depot n resting None h ready = absurd (cc)
ready-asleep depot n resting (Some a) (inl ended) ready =
    let no : false ≡ true = sym (dead-not (has_ended forest a) (is_ready_at (machine a).machine.place resting) ended.0) ∙ ready in absurd (cc)
ready-asleep depot n resting (Some a) (inr there) ready =
    sym (wakes-any resting (Some a)) ∙ both (lives_ready paged_machines paged_talks resting a) (is_asleep_at (machine a).machine.place) ready there
  where
    both : (p q : Bool) → p ≡ true → q ≡ true → p && q ≡ true
    both true true e f = refl
    both true false e f = absurd (cc)
    both false q e f = absurd (cc)

-- whether a cell is listed, and what holds where it is
pub listed-by : {X : Type 0} (o : Option Cell) → (is_listed_in o ≡ true → X) → IfSome o (λ (c : Cell). c.is_listed ≡ true → X)
listed-by None h = tt
listed-by (Some c) h = h

pub listed-in : {X : Type 0} (o : Option Cell) → IfSome o (λ (c : Cell). c.is_listed ≡ true → X) → is_listed_in o ≡ true → X
listed-in None h is = absurd (cc)
listed-in (Some c) h is = h is

pub due-alike : (a b : Option Cell) (n : Path) (turns : List Ready) → is_some b ≡ is_some a → IsDue a n turns → IsDue b n turns
due-alike None None n turns e h = h
due-alike None (Some d) n turns e h = absurd (cc)
due-alike (Some c) None n turns e h = absurd (cc)
due-alike (Some c) (Some d) n turns e h = h

module _ (depot : Shelves) (turn : Ready) (ticket first : ℕ) (w : World) (f : Forest) (children : turn.children ≡ Some (ticket, first))
    (h : StandsFor depot (with_turn turn w) f) (going : w.outcome ≡ None) where
  shows-children : ShowsLive depot (with_turn turn w) f.tree
  shows-children = shown-with depot turn w f h going

  pub before-children : ShowsCells depot w.cells f.tree
  before-children = record { whole = h.whole; root = shows-children.root; shows = shows-children.each.cells }

  asleep-due : (n : Path) → get path_cmp w.cells n ≡ None → is_ready_in (rests_in f.tree) n f.tree ≡ true → wakes (subtree n f.tree) ≡ true
  asleep-due n none ready = ready-asleep depot n (rests_in f.tree n) (subtree n f.tree)
      (subst (λ c. Shows depot n (rests_in f.tree n) c (subtree n f.tree)) none (shows-children.each.cells n)) ready

  not-own : (n : Path) → IsListed n (turn ∷ w.ready) → IsListed n w.ready
  unfolding IsListed
  not-own n (inl e) =
      let no : ◌≡◌ {A = Option (ℕ × ℕ)} (Some (ticket, first)) None = sym children ∙ ap (λ (v : Ready). v.children) e in absurd (cc)
  not-own n (inr listed) = listed

  -- covered by the turn, or by another
  covered-by : (n : Path) → IsCovered n (turn ∷ w.ready) → ((k : ℕ) × (first ≤ k) × (n ≡ child_path turn.name ticket k)) ⊎ IsCovered n w.ready
  unfolding IsCovered
  covered-by n (inl covers) = inl (subst (CoversBy n turn.name) children covers)
  covered-by n (inr rest) = inr rest

  -- none of the children is a descriptor any more
  pub spent-turn : IsFirstAsleep turn.name ticket first f.tree None → StandsFor depot w f
  spent-turn none = record {
    whole = h.whole;
    halted = h.halted;
    tree = subst (λ o. ShowsTree o depot w f.tree) (sym going) (record {
      root = shows-children.root;
      each = record {
        cells = shows-children.each.cells;
        ready = λ n ready. due n ready (get path_cmp w.cells n) refl (shows-children.each.ready n ready);
        listed = λ n. listed-by (get path_cmp w.cells n) (λ is. not-own n (listed-in (get path_cmp w.cells n) (shows-children.each.listed n) is));
      };
    });
  }
    where
      due : (n : Path) → is_ready_in (rests_in f.tree) n f.tree ≡ true → (c : Option Cell) → get path_cmp w.cells n ≡ c → IsDue c n (turn ∷ w.ready) → IsDue c n w.ready
      due n ready None e covered = elim (covered-by n covered) [
        | inl by ↦
            let no : true ≡ false = sym (asleep-due n e ready) ∙ ap (λ m. wakes (subtree m f.tree)) by.2
            ∙ sym (wakes-any (rests_in f.tree (child_path turn.name ticket by.0)) (subtree (child_path turn.name ticket by.0) f.tree)) ∙ none by.0 by.1 in absurd (cc)
        | inr rest ↦ rest
      ]
      due n ready (Some c) e listed = not-own n listed

  -- the first of them that is a descriptor
  module _ (index : ℕ) (found : IsFirstAsleep turn.name ticket first f.tree (Some index)) (v : World) (later : Ready)
      (is : later ≡ record { name = turn.name; children = Some (ticket, index) }) (ready : v.ready ≡ later ∷ w.ready) where
    listed-later : (n : Path) → IsListed n (turn ∷ w.ready) → IsListed n v.ready
    unfolding IsListed
    listed-later n listed = subst (IsListed n) (sym ready) (inr (not-own n listed))

    covers-later : (n : Path) (k : ℕ) → index ≤ k → n ≡ child_path turn.name ticket k → IsCovered n v.ready
    unfolding IsCovered
    covers-later n k le e = subst (IsCovered n) (sym ready) (subst (λ u. IsCovered n (u ∷ w.ready)) (sym is) (inl (k, le, e)))

    covered-later : (n : Path) → IsCovered n w.ready → IsCovered n v.ready
    unfolding IsCovered
    covered-later n rest = subst (IsCovered n) (sym ready) (inr rest)

    due-later : (n : Path) → is_ready_in (rests_in f.tree) n f.tree ≡ true → (c : Option Cell) → get path_cmp w.cells n ≡ c → IsDue c n (turn ∷ w.ready) → IsDue c n v.ready
    due-later n now None e covered = elim (covered-by n covered) [
      | inl by ↦ from by.0 by.1 by.2 (leb_tells index by.0)
      | inr rest ↦ covered-later n rest
    ]
      where
        from : (k : ℕ) → first ≤ k → n ≡ child_path turn.name ticket k → ((leb index k ≡ true) × (index ≤ k)) ⊎ ((leb index k ≡ false) × (k < index)) → IsCovered n v.ready
        from k le same (inr before) =
            let no : true ≡ false = sym (asleep-due n e now) ∙ ap (λ m. wakes (subtree m f.tree)) same
            ∙ sym (wakes-any (rests_in f.tree (child_path turn.name ticket k)) (subtree (child_path turn.name ticket k) f.tree)) ∙ found.2 k le before.1 in absurd (cc)
        from k le same (inl after) = covers-later n k after.1 same
    due-later n now (Some c) e listed = listed-later n listed

    -- the child is handed out
    pub child-taken : (lease : Lent) → lease.name ≡ child_path turn.name ticket index → lease.ran ≡ 0 → lease.now ≡ lease.start → IsLentOf depot lease
        → IfSome (subtree lease.name f.tree) (λ a. (paged_of (machine a)) ≡ now_of lease)
        → ShowsCells depot v.cells (at_path (placed out) (child_path turn.name ticket index) f.tree)
        → ((n : Path) → is_listed_in (get path_cmp v.cells n) ≡ is_listed_in (get path_cmp w.cells n))
        → ((n : Path) → n ≢ child_path turn.name ticket index → is_some (get path_cmp v.cells n) ≡ is_some (get path_cmp w.cells n))
        → v.halted ≡ w.halted → v.outcome ≡ w.outcome → w.halted ≡ None
        → Goes depot f (took lease.name) v × Starts f lease × IsLentOf depot lease
    child-taken lease name ran now of_depot start cells listed others halted outcome unhalted =
        let path : Path = child_path turn.name ticket index in
        let there = wakes-there (subtree path f.tree) (sym (wakes-any (rests_in f.tree path) (subtree path f.tree)) ∙ found.1) in (
          subst (λ n. Goes depot f (took n) v) (sym name)
              (record {
                allowed = allows-took f path shows-children.root.lives (sym h.halted ∙ unhalted)
                    (and_parts (holds (lives_ready paged_machines paged_talks (rests_in f.tree path)) (subtree path f.tree))
                    (holds (λ (a : Tree Member). is_asleep_at (machine a).machine.place) (subtree path f.tree)) found.1).0;
                after = taken depot v f path there.0 there.1 cells (halted ∙ h.halted) (outcome ∙ going)
                    (λ n other ready_then.
                    due-alike (get path_cmp w.cells n) (get path_cmp v.cells n) n v.ready (others n (λ same. other (sym same)))
                    (due-later n ready_then (get path_cmp w.cells n) refl (shows-children.each.ready n ready_then)))
                    (λ n.
                    listed-by (get path_cmp v.cells n)
                    (λ is_now. listed-later n (listed-in (get path_cmp w.cells n) (shows-children.each.listed n) (sym (listed n) ∙ is_now))));
              }),
          record { ran = ran; now = now; start = start },
          of_depot,
        )

    -- there is no room for it
    pub child-kept : ((n : Path) → get path_cmp v.cells n ≡ get path_cmp w.cells n) → v.halted ≡ w.halted → v.outcome ≡ w.outcome → w.halted ≡ None
        → Goes depot f wake_failed v
    unfolding Allows does
    child-kept cells halted outcome unhalted = record {
      allowed = ((shows-children.root.lives, sym h.halted ∙ unhalted), (child_path turn.name ticket index, found.1));
      after = record {
        whole = h.whole;
        halted = halted ∙ h.halted;
        tree = subst (λ o. ShowsTree o depot v f.tree) (sym (outcome ∙ going)) (record {
          root = shows-children.root;
          each = record {
            cells = λ n. subst (λ c. Shows depot n (rests_in f.tree n) c (subtree n f.tree)) (sym (cells n)) (shows-children.each.cells n);
            ready = λ n ready_then.
                subst (λ c. IsDue c n v.ready) (sym (cells n)) (due-later n ready_then (get path_cmp w.cells n) refl (shows-children.each.ready n ready_then));
            listed = λ n.
                subst (λ o. IfSome o (λ (c : Cell). c.is_listed ≡ true → IsListed n v.ready)) (sym (cells n))
                (listed-by (get path_cmp w.cells n) (λ is_now. listed-later n (listed-in (get path_cmp w.cells n) (shows-children.each.listed n) is_now)));
          };
        });
      };
    }
