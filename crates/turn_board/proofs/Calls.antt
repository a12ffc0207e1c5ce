-- From what the steps tell to what the calls ensure.
use Rattle.std.proofs.Common.{◌≡◌, ◌⊎◌, inl, inr, ℕ, ◌+◌, ◌%◌, ◌^◌, ◌≤◌, List, [], ◌∷◌, ◌++◌, length, Bool, true, false, Option, Some, None, refl, sym, ap, ◌∙◌, subst}
use Rattle.std.specs.Prelude.{nat_lt, if◌then◌else◌}
use mathlib.Core.Option.{none}
use Rattle.std.specs.declared.snapshot.Snapshot.{Snapshot}
use Rattle.atomic_table.specs.declared.shared.Seat.{Seat}
use Rattle.atomic_table.specs.Seated.{TableId}
use Rattle.atomic_table.specs.Table.{Me, Step, step, rest, Allows}
use Rattle.turn_board.specs.declared.view.Content.{Content}
use Rattle.turn_board.specs.declared.view.View.{View}
use Rattle.turn_board.specs.History.{History, HasEnded, StartsWith, entries_by, longer}
use Rattle.turn_board.specs.Rule.{content, informed, IsLive, Turning}
use Rattle.turn_board.specs.Steps.{learned, passed_view, passed}
use Rattle.turn_board.specs.Calls.{IsSeat, IsTurn, Joins, Leaves}
use Rattle.turn_board.proofs.Entries.{entries_by-push_same}
use Rattle.turn_board.proofs.Moves.{passes}

one_of : {N : Type 0} (shorter : Bool) (xs ys : History N) → ((if shorter then ys else xs) ≡ xs) ⊎ ((if shorter then ys else xs) ≡ ys)
one_of true xs ys = inr refl
one_of false xs ys = inl refl

module _ {A N T : Type 0} where
  -- the turn passes from a seat that has put the value home
  pub passes_home : (stands : A → History N → T → Type 0) (key : A) (slots id : ℕ) (me : Me (Content T N) (View A N)) (v : View A N) (x : T) (note : Snapshot N)
      → me ≡ (v, (0, content (Some x) (Some note)) ∷ []) → slots ≡ 1 → v.about ≡ Some key → v.served ≡ true → stands key (v.seen ++ (v.seat, note.value) ∷ []) x
      → Allows (Turning stands key) slots id me 1 (λ n. (n + 1) % 2 ^ 64) (passed (step slots 1 1 0 none) me)
  passes_home stands key slots id me v x note is one knows served stood =
      subst (λ m. Allows (Turning stands key) slots id m 1 (λ n. (n + 1) % 2 ^ 64) (passed (step slots 1 1 0 none) m)) (sym is) (passes stands key slots id v x note one knows served stood)

  -- the slot that a seat holds
  pub holds_slot : (me : Me (Content T N) (View A N)) (v : View A N) (y : Content T N) (l : List (ℕ × Content T N)) → me ≡ (v, (0, y) ∷ l) → me.1 ≡ (0, y) ∷ rest me.1
  holds_slot me v y l is = ap (λ m. m.1) is ∙ sym (ap (λ m. (0, y) ∷ rest m.1) is)

  -- the seat after the value is put home
  pub put_home : (old new : Me (Content T N) (View A N)) (x : T) (note : Snapshot N) → old.1 ≡ (0, content None None) ∷ [] → new ≡ (old.0, (0, content (Some x) (Some note)) ∷ rest old.1)
      → new ≡ (old.0, (0, content (Some x) (Some note)) ∷ [])
  put_home old new x note out is = is ∙ ap (λ l. (old.0, (0, content (Some x) (Some note)) ∷ rest l)) out

  pub passed_me : (me w : Me (Content T N) (View A N)) (v : View A N) (x : T) (snapshot : Snapshot N) (note : N)
      → me ≡ (v, (0, content (Some x) (Some snapshot)) ∷ []) → snapshot.value ≡ note
      → ((value : Option T) (m : Snapshot N) → me.1 ≡ (0, content value (Some m)) ∷ rest me.1 → w ≡ (passed_view me.0 m.value, rest me.1)) → w ≡ (passed_view v note, [])
  passed_me me w v x snapshot note is noted told = told (Some x) snapshot (holds_slot me v (content (Some x) (Some snapshot)) [] is)
      ∙ ap (λ m. (passed_view m.0 snapshot.value, rest m.1)) is ∙ ap (λ n. (passed_view v n, [])) noted

  pub passed_seat : (table : TableId) (key : A) (old new : Seat (Content T N) (View A N)) (note : N) → IsTurn table key old
      → new.table_id ≡ old.table_id → new.me ≡ (passed_view old.me.0 note, []) → IsSeat table key new
  passed_seat table key old new note turn here is = record {
    here = here ∙ turn.here;
    empty = ap (λ m. m.1) is;
    knows = ap (λ m. m.0.about) is ∙ turn.knows;
    undrawn = ap (λ m. m.0.number) is;
    idle = ap (λ m. m.0.served) is;
    own = subst (λ m. entries_by m.0.seat m.0.seen ≡ m.0.mine) (sym is) (entries_by-push_same old.me.0.seat old.me.0.seen note ∙ ap (λ es. es ++ (old.me.0.seat, note) ∷ []) turn.own);
  }

  pub passed_leaves : (old new : Seat (Content T N) (View A N)) (note : N) → new.me ≡ (passed_view old.me.0 note, []) → Leaves old new note
  passed_leaves old new note is = record {
    same_seat = ap (λ m. m.0.seat) is;
    same_splits = ap (λ m. m.0.splits) is;
    same_ended = ap (λ m. m.0.ended) is;
    seen = ap (λ m. m.0.seen) is;
    mine = ap (λ m. m.0.mine) is;
  }

  -- the seat after it has learned what the other had seen
  pub joined_seats : (seat other new : Seat (Content T N) (View A N)) (mid : Me (Content T N) (View A N)) (by : Step (Content T N)) (n : ℕ)
      → IsLive seat.me.0.about → mid ≡ (informed seat.me.0 other.me.0, seat.me.1) → learned by mid n new.me → Joins seat other new
  joined_seats seat other new mid by n live is told = from (subst (λ m. learned by m n new.me) is told)
    where
      from : learned by (informed seat.me.0 other.me.0, seat.me.1) n new.me → Joins seat other new
      from l =
          let seen : new.me.0.seen ≡ longer seat.me.0.seen other.me.0.seen = ap (λ m. m.0.seen) l.is in
          record {
            same_seat = ap (λ m. m.0.seat) l.is;
            same_splits = ap (λ m. m.0.splits) l.is;
            same_mine = ap (λ m. m.0.mine) l.is;
            either =
                subst (λ (s : History N). (s ≡ seat.me.0.seen) ⊎ (s ≡ other.me.0.seen)) (sym seen)
                (one_of (nat_lt (length seat.me.0.seen) (length other.me.0.seen)) seat.me.0.seen other.me.0.seen);
            seen = subst (λ s. StartsWith s seat.me.0.seen) (sym seen) l.seen;
            told = subst (λ s. StartsWith s other.me.0.seen) (sym seen) l.told;
            unmade = λ k below le.
                ap (λ m. entries_by (m.0.seat ++ k ∷ below) m.0.seen) l.is
                ∙ l.unmade live k below (subst (λ m. m.0.splits ≤ k) l.is le);
            ended = ap (λ m. m.0.ended) l.is;
            still = λ s splits has. subst (HasEnded s splits seat.me.0.seen) (sym seen) (l.still s splits has);
            last = λ s splits has. subst (HasEnded s splits other.me.0.seen) (sym seen) (l.last s splits has);
          }
