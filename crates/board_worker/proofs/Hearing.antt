-- Replies that a worker hears.
use Rattle.std.proofs.Common.{◌≡◌, ◌≢◌, ◌⊎◌, inl, inr, ℕ, zero, suc, ◌+◌, ◌<◌, List, [], ◌∷◌, ◌++◌, Option, Some, None, Result, Ok, Err, is_some}
use Rattle.std.proofs.Common.{IsSome, IsSomeAnd, OnOk, OnErr, slice_get, sym, refl, ap, ap₂, ◌∙◌, subst, arith}
use Rattle.std.specs.declared.alloc.AllocError.{AllocError}
use Rattle.std.proofs.lemmas.Bool.{cases_eq}
use Rattle.std.proofs.lemmas.Option.{slice_get_within}
use Rattle.image_depot.specs.Reply.{Delivery, IsSentOf, sent_image, sent_page}
use Rattle.talking_history.specs.Histories.{Seat, Entry, row, told, heard, tell_failed, hear_failed, History, Record, record_after, replay}
use Rattle.talking_history.proofs.Histories.{replay-append}
use Rattle.forest_model.specs.Forest.{machines, talks}
use Rattle.forest_model.specs.Machine.{Machine}
use Rattle.host_fetch.specs.Heard.{KeepsOthers, Place, Replies, found}
use Rattle.world_core.specs.declared.reason.Reason.{Reason}
use Rattle.fork_board.specs.Answers.{Hears}
use Rattle.fork_board.specs.Follows.{depot_of, opening_record, pair_of, record_at}
use Rattle.fork_board.specs.Passes.{BoardValue, PassValue, seen_record}
use Rattle.board_worker.specs.Hears.{AreFound, IsFound, StayFound}
use Rattle.board_worker.specs.Stays.{Stays}

-- the place of a reply is not the last that there may be
pub place-counted : (new : PassValue) (place : ℕ) (sent : Delivery) → Hears new place (Ok (Some sent)) → place + 1 < 18446744073709551616
place-counted new place sent hears =
    let few = hears.few in
    let below = slice_get_within (seen_record new).told place (pair_of sent) (sym hears.value) in
    omega arith

-- the depot keeps it
pub heard-kept : (board : BoardValue) (new : PassValue) (place : ℕ) (sent : Delivery) → new.board ≡ board → Hears new place (Ok (Some sent))
    → IsSentOf (depot_of board.opening) sent
heard-kept board new place sent same hears = subst (λ (b : BoardValue). IsSentOf (depot_of b.opening) sent) same (hears.kept sent refl)

-- ---- what was told stays where it is

module _ (P : ℕ × ℕ → Type 0) where
  some-longer : (xs ys : List (ℕ × ℕ)) (i : ℕ) → IsSomeAnd (slice_get xs i) P → IsSomeAnd (slice_get (xs ++ ys) i) P
  some-longer [] ys i h = absurd h
  some-longer (x ∷ xs) ys zero h = h
  some-longer (x ∷ xs) ys (suc i) h = some-longer xs ys i h

  told-after : (place : ℕ) (seat : Seat) (e : Entry Reason) (r : Record Machine Reason) → IsSomeAnd (slice_get r.told place) P
      → IsSomeAnd (slice_get (record_after machines talks seat e r).told place) P
  unfolding record_after
  told-after place seat (row x) r h = h
  told-after place seat (told image page) r h = some-longer r.told ((image, page) ∷ []) place h
  told-after place seat (heard at) r h = h
  told-after place seat tell_failed r h = h
  told-after place seat (hear_failed at) r h = h

  told-later : (place : ℕ) (log : History Reason) (r : Record Machine Reason) → IsSomeAnd (slice_get r.told place) P
      → IsSomeAnd (slice_get (replay machines talks log r).told place) P
  unfolding replay
  told-later place [] r h = h
  told-later place (e ∷ rest) r h = told-later place rest (record_after machines talks e.0 e.1 r) (told-after place e.0 e.1 r h)

  -- for a pass that has seen more, too
  told-still : (old new : PassValue) (place : ℕ) → Stays old new → IsSomeAnd (slice_get (seen_record old).told place) P
      → IsSomeAnd (slice_get (seen_record new).told place) P
  told-still old new place s h =
      let grown : seen_record new ≡ replay machines talks s.rest (seen_record old) =
      ap₂ (λ (b : BoardValue) (l : History Reason). record_at b.opening l) s.same_board s.seen
      ∙ replay-append machines talks old.seen s.rest (opening_record old.board.opening) in
      subst (λ (r : Record Machine Reason). IsSomeAnd (slice_get r.told place) P) (sym grown) (told-later place s.rest (seen_record old) h)

some-then : (P Q : ℕ × ℕ → Type 0) (o : Option (ℕ × ℕ)) → ((reply : ℕ × ℕ) → P reply → Q reply) → IsSomeAnd o P → IsSomeAnd o Q
some-then P Q None then h = h
some-then P Q (Some reply) then h = then reply h

-- ---- what was heard

-- nothing was told at no place
pub found-none : (list : List (ℕ × ℕ)) (place : ℕ) (es : Replies) → AreFound list place place es
found-none list place es at from below = absurd (omega (arith, from, below))

-- what was found is found still
pub found-then : (list : List (ℕ × ℕ)) (first next : ℕ) (old new : Replies) → StayFound old new → AreFound list first next old → AreFound list first next new
found-then list first next old new still all place from below =
    some-then (IsFound old) (IsFound new) (slice_get list place) still (all place from below)

-- a pass has seen more since
pub found-on : (old new : PassValue) (first next : ℕ) (es : Replies) → Stays old new → AreFound (seen_record old).told first next es
    → AreFound (seen_record new).told first next es
found-on old new first next es s all place from below = told-still (IsFound es) old new place s (all place from below)

module _ (sent : Delivery) (old new : Replies) where
  found-still : found new (sent_image sent) (sent_page sent) ≡ Some sent → KeepsOthers sent old new → StayFound old new
  found-still is others reply h = by (cases_eq reply.0 (sent_image sent)) (cases_eq reply.1 (sent_page sent))
    where
      apart : ◌≢◌ {A = Place} (reply.0, reply.1) (sent_image sent, sent_page sent) → IsFound new reply
      apart differ = subst (λ (o : Option Delivery). IsSome o) (sym (others reply.0 reply.1 differ)) h

      by : (reply.0 ≡ sent_image sent) ⊎ (reply.0 ≡ sent_image sent → ⊥) → (reply.1 ≡ sent_page sent) ⊎ (reply.1 ≡ sent_page sent → ⊥)
          → IsFound new reply
      by (inl image) (inl page) = ap is_some (ap₂ (λ i p. found new i p) image page ∙ is)
      by (inl image) (inr other) = apart (λ same. other (ap (λ (p : Place). p.1) same))
      by (inr other) page = apart (λ same. other (ap (λ (p : Place). p.0) same))

  -- whether it was taken in, or memory was wanting for it
  pub found-after : (r : Result (Unit {0}) AllocError) → OnOk r (found new (sent_image sent) (sent_page sent) ≡ Some sent)
      → OnOk r (KeepsOthers sent old new) → OnErr r (new ≡ old) → StayFound old new
  found-after (Ok u) is others same = found-still is others
  found-after (Err e) is others same = λ reply h. subst (λ (l : Replies). IsFound l reply) (sym same) h

-- the next one was told and is taken in
pub found-more : (was now : PassValue) (first next : ℕ) (old new : Replies) (sent : Delivery) → Stays was now → Hears now next (Ok (Some sent))
    → found new (sent_image sent) (sent_page sent) ≡ Some sent → StayFound old new → AreFound (seen_record was).told first next old
    → AreFound (seen_record now).told first (next + 1) new
found-more was now first next old new sent s hears is still all place from below = by (cases_eq place next)
  where
    here : IsSomeAnd (slice_get (seen_record now).told next) (IsFound new)
    here = subst (λ (o : Option (ℕ × ℕ)). IsSomeAnd o (IsFound new)) hears.value (ap is_some is)

    by : (place ≡ next) ⊎ (place ≡ next → ⊥) → IsSomeAnd (slice_get (seen_record now).told place) (IsFound new)
    by (inl same) = subst (λ n. IsSomeAnd (slice_get (seen_record now).told n) (IsFound new)) (sym same) here
    by (inr other) =
        some-then (IsFound old) (IsFound new) (slice_get (seen_record now).told place) still
        (told-still (IsFound old) was now place s (all place from (omega (arith, below, other))))
