-- What is on record of a board: the laws of histories, of its machines.
use Rattle.std.proofs.Common.{◌≡◌, ◌≢◌, ◌⊎◌, inl, inr, ℕ, ◌<◌, length, List, [], ◌∷◌, ◌++◌, Bool, true, false, cond, Option, Some, None, refl, sym, ap, ◌∙◌, subst}
use Rattle.std.specs.List.{All}
use Rattle.std.specs.Option.{IfSome}
use Rattle.std.proofs.lemmas.List.Elements.{All-cons, All-head, All-nil, All-tail}
use Rattle.forest_tree.specs.Tree.{Tree, machine, Path, subtree}
use Rattle.forest_tree.specs.Sound.{IsSound}
use Rattle.sibling_forest.specs.Talk.{Box}
use Rattle.talking_history.specs.Places.{Spot, out, boxes}
use Rattle.talking_history.specs.World as history
use Rattle.talking_history.specs.Rows.{Row, over, stopped, stuck, idle, took, wake_failed, spent, dropped, kept, halted, Allows, does}
use Rattle.talking_history.specs.Histories.{Holding, Seat, holding, is_same_path, without_name, Entry, row, told, heard, tell_failed, hear_failed, History, HandsBack, IsLegal, Permits, Record}
use Rattle.talking_history.specs.Histories.{holdings_after, record_after, replay, with_taken}
use Rattle.talking_history.proofs.Held.{same-is, same-self, without-other, without-same}
use Rattle.talking_history.proofs.Histories as histories
use Rattle.talking_history.proofs.Leases as leases
use Rattle.talking_history.proofs.Seen as seen
use Rattle.forest_model.specs.Forest.{machines, talks}
use Rattle.forest_model.specs.Machine.{Machine}
use Rattle.forest_model.specs.Paged.{Paged, paged_machines, paged_talks}
use Rattle.forest_model.proofs.Paged.{paged-alike, paged-projects}
use Rattle.forest_model.proofs.Talking.{machines-talk}
use Rattle.forest_model.proofs.Rules.{machines-rules}
use Rattle.turn_board.specs.History.{entries_by}
use Rattle.turn_board.specs.Seats.{is_seat}
use Rattle.turn_board.proofs.Names.{same_is}
use Rattle.world_core.specs.declared.reason.Reason.{Reason}
use Rattle.world_core.specs.World.{Forest}
use Rattle.fork_board.specs.declared.note.Opening.{Opening}
use Rattle.fork_board.specs.Follows.{family_of, opening_record, record_at}
use Rattle.fork_board.specs.Passes.{FreeAfter, Leaves}

-- ---- one entry

module _ (seat : Seat) where
  pub permits-row : (x : Row Reason) (r : Record Machine Reason) → Allows machines talks x r.world → HandsBack seat x r.holdings
      → Permits machines talks seat (row x) r
  unfolding Permits
  permits-row x r allowed back = (allowed, back)

  pub permits-told : (image page : ℕ) (r : Record Machine Reason) → Permits machines talks seat (told image page) r
  unfolding Permits
  permits-told image page r = tt

  pub permits-heard : (place : ℕ) (r : Record Machine Reason) → Permits machines talks seat (heard place) r
  unfolding Permits
  permits-heard place r = tt

  pub permits-tell_failed : (r : Record Machine Reason) → Permits machines talks seat tell_failed r
  unfolding Permits
  permits-tell_failed r = tt

  pub permits-hear_failed : (place : ℕ) (r : Record Machine Reason) → place < length r.told → Permits machines talks seat (hear_failed place) r
  unfolding Permits
  permits-hear_failed place r there = there

  stays : (name : Path) (k : ℕ) (r : Record Machine Reason) → (record_after machines talks seat (row (kept name k)) r).holdings ≡ r.holdings
  unfolding record_after
  stays name k r = refl

  pub heard-told : (place : ℕ) (r : Record Machine Reason) → (record_after machines talks seat (heard place) r).told ≡ r.told
  unfolding record_after
  heard-told place r = refl

-- ---- one entry more

module _ (opening : Opening) (log : History Reason) (seat : Seat) where
  pub record-more : (entry : Entry Reason) → record_at opening (log ++ (seat, entry) ∷ []) ≡ record_after machines talks seat entry (record_at opening log)
  record-more entry = histories.replay-push machines talks log seat entry (opening_record opening)

  pub legal-more : (entry : Entry Reason) → IsLegal machines talks log (opening_record opening) → Permits machines talks seat entry (record_at opening log)
      → IsLegal machines talks (log ++ (seat, entry) ∷ []) (opening_record opening)
  legal-more entry legal permits = histories.legal-push machines talks log seat entry (opening_record opening) legal permits

  -- a lease that stays leaves all holdings as they were
  pub kept-holdings : (name : Path) (k : ℕ) → (record_at opening (log ++ (seat, row (kept name k)) ∷ [])).holdings ≡ (record_at opening log).holdings
  kept-holdings name k = ap (λ (r : Record Machine Reason). r.holdings) (record-more (row (kept name k))) ∙ stays seat name k (record_at opening log)

-- ---- rows of forests

pub allows-family : (x : Row Reason) (f : Forest) → Allows paged_machines paged_talks x f → Allows machines talks x (family_of f)
allows-family x f h = seen.allows-seen paged_machines machines paged_talks talks (λ (p : Paged). p.machine) paged-projects paged-alike x f h

pub does-family : (x : Row Reason) (f : Forest) → family_of (does paged_machines paged_talks x f) ≡ does machines talks x (family_of f)
does-family x f = seen.does-seen paged_machines machines paged_talks talks (λ (p : Paged). p.machine) paged-projects paged-alike x f

-- ---- who holds what

pub same-path : (name : Path) → is_same_path name name ≡ true
same-path name = same-self name

-- a history without an entry of a seat is one of other seats
others-made : {K : Type 0} (seat : Seat) (log : List (Seat × K)) → entries_by seat log ≡ [] → All (λ (e : Seat × K). e.0 ≢ seat) log
others-made {K} seat [] none = All-nil (λ (e : Seat × K). e.0 ≢ seat)
others-made {K} seat (e ∷ log) none = at (is_seat e.0 seat) refl none (others-made seat log)
  where
    at : (b : Bool) → is_seat e.0 seat ≡ b → cond b (e ∷ entries_by seat log) (entries_by seat log) ≡ []
        → (entries_by seat log ≡ [] → All (λ (x : Seat × K). x.0 ≢ seat) log) → All (λ (x : Seat × K). x.0 ≢ seat) (e ∷ log)
    at true is empty down = absurd (cc)
    at false is empty down = All-cons (λ (x : Seat × K). x.0 ≢ seat) e log
        (λ same. let yes : true ≡ false = sym (same_is e.0) ∙ ap (is_seat e.0) same ∙ is in absurd (cc)) (down empty)

module _ (opening : Opening) (log : History Reason) (start : IsSound (boxes machines talks) (opening_record opening).world.tree) where
  pub out-as-taken : IsLegal machines talks log (opening_record opening) → (name : Path) (x : Holding Machine)
      → holding name (record_at opening log).holdings ≡ Some x
      → IfSome (subtree name (record_at opening log).world.tree) (λ t. ((machine t).machine.place ≡ out) × ((machine t).machine.machine ≡ x.found))
  out-as-taken legal name x held = leases.held-stays machines talks machines-rules machines-talk log (opening_record opening).world start legal name x held

  pub others-keep : (between : History Reason) (name : Path) (x : Holding Machine) → IsLegal machines talks (log ++ between) (opening_record opening)
      → entries_by x.seat between ≡ [] → holding name (record_at opening log).holdings ≡ Some x
      → holding name (record_at opening (log ++ between)).holdings ≡ Some x
  others-keep between name x legal none held =
      leases.others-keep machines talks machines-rules machines-talk x.seat log between (opening_record opening).world start legal (others-made x.seat between none) name x held refl

-- ---- what a seat does not hold

abbrev pub Free : Seat → Path → List (Holding Machine) → Type 0
Free seat name held = IfSome (holding name held) (λ h. h.seat ≢ seat)

module _ (seat by : Seat) (name other : Path) (held : List (Holding Machine)) (h : Free seat name held) where
  free-taken : (by ≢ seat) ⊎ (other ≢ name) → (t : Option (Tree (Box (Spot Machine)))) → Free seat name (with_taken by other t held)
  unfolding holding
  free-taken apart None = h
  free-taken apart (Some t) = at apart (is_same_path other name) refl
    where
      at : (by ≢ seat) ⊎ (other ≢ name) → (same : Bool) → is_same_path other name ≡ same
          → IfSome (cond same (Some (record { name = other; seat = by; found = (machine t).machine.machine })) (holding name held)) (λ (x : Holding Machine). x.seat ≢ seat)
      at (inl unlike) true e = unlike
      at (inr unlike) true e = absurd (unlike (same-is other name e))
      at unlike false e = h

  free-left : Free seat name (without_name other held)
  free-left = at (is_same_path other name) refl
    where
      at : (same : Bool) → is_same_path other name ≡ same → Free seat name (without_name other held)
      at true e = subst (λ n. Free seat name (without_name n held)) (sym (same-is other name e))
          (subst (λ o. IfSome o (λ (x : Holding Machine). x.seat ≢ seat)) (sym (without-same name held)) tt)
      at false e = subst (λ o. IfSome o (λ (x : Holding Machine). x.seat ≢ seat)) (sym (without-other other name held e)) h

-- what is handed back is held no more
free-back : (seat : Seat) (name : Path) (held : List (Holding Machine)) → Free seat name (without_name name held)
free-back seat name held = subst (λ o. IfSome o (λ (x : Holding Machine). x.seat ≢ seat)) (sym (without-same name held)) tt

module _ (seat by : Seat) (name : Path) (unlike : by ≢ seat) where
  free-row : (x : Row Reason) (w : history.World Machine Reason) (held : List (Holding Machine)) → Free seat name held
      → Free seat name (holdings_after by x w held)
  free-row over w held h = h
  free-row (stopped r) w held h = h
  free-row stuck w held h = h
  free-row idle w held h = h
  free-row (took other) w held h = free-taken seat by name other held h (inl unlike) (subtree other w.tree)
  free-row wake_failed w held h = h
  free-row (spent how other k) w held h = free-left seat by name other held h
  free-row (dropped other) w held h = free-left seat by name other held h
  free-row (kept other k) w held h = h
  free-row (halted r) w held h = h

  free-entry : (e : Entry Reason) (r : Record Machine Reason) → Free seat name r.holdings → Free seat name (record_after machines talks by e r).holdings
  unfolding record_after
  free-entry (row x) r h = free-row x r.world r.holdings h
  free-entry (told image page) r h = h
  free-entry (heard place) r h = h
  free-entry tell_failed r h = h
  free-entry (hear_failed place) r h = h

module _ (seat : Seat) (name : Path) where
  -- others give it nothing
  pub free-others : (between : History Reason) (r : Record Machine Reason) → All (λ (e : Seat × Entry Reason). e.0 ≢ seat) between
      → Free seat name r.holdings → Free seat name (replay machines talks between r).holdings
  unfolding replay
  free-others [] r others h = h
  free-others (e ∷ rest) r others h =
      free-others rest (record_after machines talks e.0 e.1 r) (All-tail (λ (x : Seat × Entry Reason). x.0 ≢ seat) e rest others)
      (free-entry seat e.0 name (All-head (λ (x : Seat × Entry Reason). x.0 ≢ seat) e rest others) e.1 r h)

  left : (other : Path) (held : List (Holding Machine)) → (other ≡ name) ⊎ Free seat name held → Free seat name (without_name other held)
  left other held (inl same) = subst (λ n. Free seat name (without_name n held)) (sym same) (free-back seat name held)
  left other held (inr h) = free-left seat seat name other held h

  -- nor does it get any but by `take`
  free-own-row : (x : Row Reason) (w : history.World Machine Reason) (held : List (Holding Machine)) → FreeAfter (row x) name (Free seat name held)
      → Free seat name (holdings_after seat x w held)
  free-own-row over w held h = h
  free-own-row (stopped r) w held h = h
  free-own-row stuck w held h = h
  free-own-row idle w held h = h
  free-own-row (took other) w held h = free-taken seat seat name other held h.1 (inr h.0) (subtree other w.tree)
  free-own-row wake_failed w held h = h
  free-own-row (spent how other k) w held h = left other held h
  free-own-row (dropped other) w held h = left other held h
  free-own-row (kept other k) w held h = h
  free-own-row (halted r) w held h = h

  pub free-own : (e : Entry Reason) (r : Record Machine Reason) → FreeAfter e name (Free seat name r.holdings)
      → Free seat name (record_after machines talks seat e r).holdings
  unfolding record_after
  free-own (row x) r h = free-own-row x r.world r.holdings h
  free-own (told image page) r h = h
  free-own (heard place) r h = h
  free-own tell_failed r h = h
  free-own (hear_failed place) r h = h

  left-over : (A B : Type 0) → (A → B) → (P : Type 0) → P ⊎ A → P ⊎ B
  left-over A B goes P (inl p) = inl p
  left-over A B goes P (inr a) = inr (goes a)

  pub free-after : (e : Entry Reason) (A B : Type 0) → (A → B) → FreeAfter e name A → FreeAfter e name B
  free-after (row over) A B goes h = goes h
  free-after (row (stopped r)) A B goes h = goes h
  free-after (row stuck) A B goes h = goes h
  free-after (row idle) A B goes h = goes h
  free-after (row (took other)) A B goes h = (h.0, goes h.1)
  free-after (row wake_failed) A B goes h = goes h
  free-after (row (spent how other k)) A B goes h = left-over A B goes (other ≡ name) h
  free-after (row (dropped other)) A B goes h = left-over A B goes (other ≡ name) h
  free-after (row (kept other k)) A B goes h = goes h
  free-after (row (halted r)) A B goes h = goes h
  free-after (told image page) A B goes h = goes h
  free-after (heard place) A B goes h = goes h
  free-after tell_failed A B goes h = goes h
  free-after (hear_failed place) A B goes h = goes h

  pub free-more : (opening : Opening) (log between : History Reason) → entries_by seat between ≡ [] → Free seat name (record_at opening log).holdings
      → Free seat name (record_at opening (log ++ between)).holdings
  free-more opening log between none h =
      subst (λ (r : Record Machine Reason). Free seat name r.holdings) (sym (histories.replay-append machines talks log between (opening_record opening)))
      (free-others between (record_at opening log) (others-made seat between none) h)

-- ---- what a seat holds

-- an entry of a seat that leaves a machine where it is leaves it with who holds it
module _ (seat : Seat) (name : Path) where
  unlike : (other : Path) → other ≢ name → is_same_path other name ≡ false
  unlike other apart = by (is_same_path other name) refl
    where
      by : (same : Bool) → is_same_path other name ≡ same → same ≡ false
      by true e = absurd (apart (same-is other name e))
      by false e = refl

  held-taken : (other : Path) (t : Option (Tree (Box (Spot Machine)))) (held : List (Holding Machine)) → other ≢ name
      → holding name (with_taken seat other t held) ≡ holding name held
  unfolding holding
  held-taken other None held apart = refl
  held-taken other (Some t) held apart =
      let was : Holding Machine = record { name = other; seat = seat; found = (machine t).machine.machine } in
      ap (λ same. cond same (Some was) (holding name held)) (unlike other apart)

  held-row : (x : Row Reason) (w : history.World Machine Reason) (held : List (Holding Machine)) → Leaves (row x) name
      → holding name (holdings_after seat x w held) ≡ holding name held
  held-row over w held h = refl
  held-row (stopped r) w held h = refl
  held-row stuck w held h = refl
  held-row idle w held h = refl
  held-row (took other) w held h = held-taken other (subtree other w.tree) held h
  held-row wake_failed w held h = refl
  held-row (spent how other k) w held h = without-other other name held (unlike other h)
  held-row (dropped other) w held h = without-other other name held (unlike other h)
  held-row (kept other k) w held h = refl
  held-row (halted r) w held h = refl

  pub held-own : (e : Entry Reason) (r : Record Machine Reason) → Leaves e name
      → holding name (record_after machines talks seat e r).holdings ≡ holding name r.holdings
  unfolding record_after
  held-own (row x) r h = held-row x r.world r.holdings h
  held-own (told image page) r h = refl
  held-own (heard place) r h = refl
  held-own tell_failed r h = refl
  held-own (hear_failed place) r h = refl
