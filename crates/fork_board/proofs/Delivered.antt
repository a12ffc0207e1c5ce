-- Replies that are told and heard.
use Rattle.std.proofs.Common.{◌≡◌, ℕ, zero, suc, ◌<◌, List, [], ◌∷◌, ◌++◌, length, map, Option, option_map, Result, Ok, Err, IfOk, OnOk, OnErr, refl, sym, ap, ap₂, ◌∙◌, subst, slice_get}
use Rattle.std.specs.List.{All}
use Rattle.std.specs.Option.{ForSome}
use Rattle.std.specs.declared.alloc.AllocError.{AllocError}
use Rattle.std.proofs.lemmas.List.{map-append, length-map}
use Rattle.std.proofs.lemmas.List.Elements.{All-push}
use Rattle.image_depot.specs.Key.{Shelves}
use Rattle.image_depot.specs.Reply.{Delivery, IsSentOf, sent_image, sent_page}
use Rattle.talking_history.specs.Histories.{Seat, told, heard, tell_failed, hear_failed, History, Record, record_after}
use Rattle.forest_model.specs.Forest.{machines, talks}
use Rattle.forest_model.specs.Machine.{Machine}
use Rattle.world_core.specs.declared.reason.Reason.{Reason}
use Rattle.world_core.specs.declared.world.World.{World}
use Rattle.world_core.specs.Told.{AreKept, told_of}
use Rattle.world_core.specs.World.{Forest, StandsFor}
use Rattle.fork_board.specs.declared.note.Opening.{Opening}
use Rattle.fork_board.specs.Answers.{Hears}
use Rattle.fork_board.specs.Follows.{Follows, IsWorldOf, depot_of, pair_of, record_at}
use Rattle.fork_board.specs.Notes.{heard_entry, told_entry}
use Rattle.fork_board.specs.Passes.{BoardValue, PassValue}
use Rattle.fork_board.proofs.Records.{heard-told, permits-hear_failed, permits-heard, permits-tell_failed, permits-told, record-more}
use Rattle.fork_board.proofs.Worlds.{follows-more}

module _ (depot : Shelves) (seat : Seat) (r : Record Machine Reason) (old new : World) (was : IsWorldOf depot r old) where
  world-told : (sent : Delivery) → told_of new ≡ told_of old ++ sent ∷ [] → ((d : Shelves) (f : Forest) → StandsFor d old f → StandsFor d new f)
      → IsSentOf depot sent → IsWorldOf depot (record_after machines talks seat (told (sent_image sent) (sent_page sent)) r) new
  unfolding record_after
  world-told sent more stays is = record {
    forest = was.forest;
    stands = stays depot was.forest was.stands;
    family = was.family;
    replies = ap (map pair_of) more ∙ map-append pair_of (told_of old) (sent ∷ []) ∙ ap (λ l. l ++ pair_of sent ∷ []) was.replies;
    kept = subst (All (IsSentOf depot)) (sym more) (All-push (IsSentOf depot) (told_of old) sent was.kept is);
  }

  world-tell_failed : told_of new ≡ told_of old → ((d : Shelves) (f : Forest) → StandsFor d old f → StandsFor d new f)
      → IsWorldOf depot (record_after machines talks seat tell_failed r) new
  unfolding record_after
  world-tell_failed same stays = record {
    forest = was.forest;
    stands = stays depot was.forest was.stands;
    family = was.family;
    replies = ap (map pair_of) same ∙ was.replies;
    kept = subst (All (IsSentOf depot)) (sym same) was.kept;
  }

module _ (depot : Shelves) (seat : Seat) (r : Record Machine Reason) (w : World) (was : IsWorldOf depot r w) (place : ℕ) where
  world-heard : IsWorldOf depot (record_after machines talks seat (heard place) r) w
  unfolding record_after
  world-heard = was

  world-hear_failed : IsWorldOf depot (record_after machines talks seat (hear_failed place) r) w
  unfolding record_after
  world-hear_failed = was

module _ (opening : Opening) (log : History Reason) (seat : Seat) where
  -- the reply is told, or memory is wanting
  pub follows-told : (sent : Delivery) (r : Result (Unit {0}) AllocError) (old new : World) → Follows opening log old
      → OnOk r (told_of new ≡ told_of old ++ sent ∷ []) → OnErr r (told_of new ≡ told_of old)
      → ((depot : Shelves) (f : Forest) → StandsFor depot old f → StandsFor depot new f) → IsSentOf (depot_of opening) sent
      → Follows opening (log ++ (seat, told_entry (sent_image sent) (sent_page sent) r) ∷ []) new
  follows-told sent (Ok u) old new h more same stays is =
      follows-more opening log seat (told (sent_image sent) (sent_page sent)) old new h
      (permits-told seat (sent_image sent) (sent_page sent) (record_at opening log))
      (world-told (depot_of opening) seat (record_at opening log) old new h.world sent more stays is)
  follows-told sent (Err e) old new h more same stays is =
      follows-more opening log seat tell_failed old new h (permits-tell_failed seat (record_at opening log))
      (world-tell_failed (depot_of opening) seat (record_at opening log) old new h.world same stays)

  -- a reply is heard, or none is there, or memory is wanting
  pub follows-heard : (place : ℕ) (r : Result (Option Delivery) AllocError) (w : World) → Follows opening log w
      → OnErr r (place < length (told_of w)) → Follows opening (log ++ (seat, heard_entry place r) ∷ []) w
  follows-heard place (Ok sent) w h beyond =
      follows-more opening log seat (heard place) w w h (permits-heard seat place (record_at opening log))
      (world-heard (depot_of opening) seat (record_at opening log) w h.world place)
  follows-heard place (Err e) w h beyond =
      follows-more opening log seat (hear_failed place) w w h
      (permits-hear_failed seat place (record_at opening log)
      (subst (λ n. place < n) (sym (length-map (told_of w) pair_of) ∙ ap length h.world.replies) beyond))
      (world-hear_failed (depot_of opening) seat (record_at opening log) w h.world place)

  told-then : (place : ℕ) → (record_at opening (log ++ (seat, heard place) ∷ [])).told ≡ (record_at opening log).told
  told-then place = ap (λ (r : Record Machine Reason). r.told) (record-more opening log seat (heard place)) ∙ heard-told seat place (record_at opening log)

get-map : (xs : List Delivery) (i : ℕ) → option_map pair_of (slice_get xs i) ≡ slice_get (map pair_of xs) i
get-map [] i = refl
get-map (x ∷ xs) zero = refl
get-map (x ∷ xs) (suc i) = get-map xs i

-- what is heard is what was told
pub hears : (now new : PassValue) (w : World) (h : Follows now.board.opening now.seen w) (place : ℕ) (r : Result (Option Delivery) AllocError)
    → new.board ≡ now.board → new.seen ≡ now.seen ++ (now.number, heard_entry place r) ∷ []
    → IfOk r (λ sent. sent ≡ slice_get (told_of w) place)
    → ((depot : Shelves) → AreKept depot w → IfOk r (λ sent. ForSome sent (IsSentOf depot))) → length (told_of w) < 18446744073709551616
    → Hears new place r
hears now new w h place (Ok sent) board seen value kept few = record {
  value = ap (option_map pair_of) value ∙ get-map (told_of w) place ∙ ap (λ l. slice_get l place) all;
  few = subst (λ n. n < 18446744073709551616) (sym (length-map (told_of w) pair_of) ∙ ap length all) few;
  kept = subst (λ (b : BoardValue). ForSome sent (IsSentOf (depot_of b.opening))) (sym board) (kept (depot_of now.board.opening) h.world.kept);
}
  where
    all : map pair_of (told_of w) ≡ (record_at new.board.opening new.seen).told
    all =
        h.world.replies ∙ sym (told-then now.board.opening now.seen now.number place)
        ∙ sym (ap₂ (λ (b : BoardValue) l. (record_at b.opening l).told) board seen)
hears now new w h place (Err e) board seen value kept few = tt
