-- A turn in which a lease comes back and another is handed out.
use Rattle.std.proofs.Common.{◌≡◌, [], ◌∷◌, ◌++◌, append_assoc, append-nil, refl, sym, ap, ◌∙◌, subst}
use Rattle.image_depot.specs.Key.{Shelves}
use Rattle.talking_history.specs.Rows.{How, spent, took}
use Rattle.talking_history.specs.Histories.{Entry, row, IsLegal}
use Rattle.forest_model.specs.Forest.{machines, talks}
use Rattle.turn_board.specs.History.{entries_by}
use Rattle.turn_board.proofs.Entries.{entries_by-push_other, entries_by-push_same}
use Rattle.world_core.specs.declared.reason.Reason.{Reason}
use Rattle.world_core.specs.declared.world.World.{World}
use Rattle.world_core.specs.declared.world.Placed.{Placed}
use Rattle.world_core.specs.declared.world.Placed.TheVariants as placed
use Rattle.world_core.specs.declared.world.Taken.{Taken}
use Rattle.world_core.specs.declared.world.Taken.TheVariants as taken
use Rattle.world_core.specs.Answers as core
use Rattle.world_core.specs.Answers.{Goes, IsLentOf, StaysOnLease, after_spent}
use Rattle.world_core.specs.Lent.{Lent}
use Rattle.world_core.specs.Told.{told_of}
use Rattle.world_core.specs.World.{Forest, StandsFor}
use Rattle.fork_board.specs.declared.note.Note.{Note}
use Rattle.fork_board.specs.declared.note.TurnNote.TheVariants.{One, Two}
use Rattle.fork_board.specs.Answers.{Places}
use Rattle.fork_board.specs.Follows.{Follows, depot_of, opening_record}
use Rattle.fork_board.specs.Notes.{entry_of, placed_entry, taken_entry, turn_entries}
use Rattle.fork_board.specs.Passes.{BoardValue, Makes, PassValue}
use Rattle.fork_board.specs.Swaps.{TakesNext}
use Rattle.fork_board.specs.Visits.{Passed, Visits}
use Rattle.fork_board.proofs.Passing.{Sees, noted, sees-now, unlike-below}
use Rattle.fork_board.proofs.Returning.{Comes}
use Rattle.fork_board.proofs.Taking.{followed, taken}
use Rattle.fork_board.proofs.Worlds.{Leads, follows-there, held-by, held-still, leads-now, leads-row, taken-held}

-- the pass between the two entries of its turn
abbrev pub halfway : PassValue → Entry Reason → PassValue
halfway now entry = record now { seen = now.seen ++ (now.number, entry) ∷ []; mine = now.mine ++ (now.number, entry) ∷ [] }

module _ (pass now : PassValue) (v : Sees pass now) where
  own-then : (entry : Entry Reason) → entries_by now.number (now.seen ++ (now.number, entry) ∷ []) ≡ now.mine ++ (now.number, entry) ∷ []
  own-then entry = entries_by-push_same now.number now.seen entry ∙ ap (λ l. l ++ (now.number, entry) ∷ []) v.own

  -- it leaves its turn
  pub passed-first : (first : Note) → Passed now (halfway now (entry_of first)) (One first)
  passed-first first = record {
    same_board = refl;
    same_number = refl;
    same_splits = refl;
    same_ended = refl;
    seen = refl;
    mine = refl;
    own = own-then (entry_of first);
  }

  -- and comes again at once
  pub sees-again : (entry : Entry Reason) → IsLegal machines talks (now.seen ++ (now.number, entry) ∷ []) (opening_record now.board.opening)
      → Sees (halfway now entry) (halfway now entry)
  sees-again entry legal = record {
    same_board = refl;
    same_number = refl;
    same_splits = refl;
    same_mine = refl;
    same_ended = refl;
    between = [];
    seen = sym (append-nil (now.seen ++ (now.number, entry) ∷ []));
    others = refl;
    own = own-then entry;
    unmade = λ k below le.
        entries_by-push_other (now.number ++ k ∷ below) now.number now.seen entry (unlike-below now.number k below) ∙ v.unmade k below le;
    start = v.start;
    legal = legal;
  }

visits-again : (pass now : PassValue) (entry : Entry Reason) (next : World) → Sees pass now
    → Follows now.board.opening (now.seen ++ (now.number, entry) ∷ []) next → Visits (halfway now entry) (halfway now entry) next
visits-again pass now entry next v follows =
    let again = sees-again pass now v entry follows.legal in
    record {
      same_board = refl;
      same_number = refl;
      same_splits = refl;
      same_mine = refl;
      same_ended = refl;
      between = again.between;
      seen = again.seen;
      others = again.others;
      own = again.own;
      unmade = again.unmade;
      follows = follows;
    }

pub passed-then : (now new : PassValue) (first then : Note) → Passed now new (Two first then) → Passed (halfway now (entry_of first)) new (One then)
passed-then now new first then p = record {
  same_board = p.same_board;
  same_number = p.same_number;
  same_splits = p.same_splits;
  same_ended = p.same_ended;
  seen = p.seen ∙ sym (append_assoc now.seen ((now.number, entry_of first) ∷ []) ((now.number, entry_of then) ∷ []));
  mine = p.mine ∙ sym (append_assoc now.mine ((now.number, entry_of first) ∷ []) ((now.number, entry_of then) ∷ []));
  own = p.own;
}

-- the world follows both entries of a turn
both-follow : (now : PassValue) (first then : Note) (last : World)
    → Follows now.board.opening ((now.seen ++ (now.number, entry_of first) ∷ []) ++ (now.number, entry_of then) ∷ []) last
    → Follows now.board.opening (now.seen ++ turn_entries now.number (Two first then)) last
both-follow now first then last on =
    subst (λ l. Follows now.board.opening l last) (append_assoc now.seen ((now.number, entry_of first) ∷ []) ((now.number, entry_of then) ∷ [])) on

-- the world goes on by the first entry, and then one is taken
module _ (pass now : PassValue) (v : Sees pass now) (next last : World) (depot : Shelves) (first then : Note) (answer : Taken)
    (here : depot_of now.board.opening ≡ depot) (is : entry_of then ≡ taken_entry answer)
    (on : Follows now.board.opening (now.seen ++ (now.number, entry_of first) ∷ []) next)
    (answers : (f : Forest) → StandsFor depot next f → core.Takes depot f answer last) (told : told_of last ≡ told_of next) where
  pub follows-both : Follows now.board.opening (now.seen ++ turn_entries now.number (Two first then)) last
  follows-both =
      both-follow now first then last
      (followed (halfway now (entry_of first)) (halfway now (entry_of first)) next last depot answer then
      (visits-again pass now (entry_of first) next v on) here is answers told)

  pub takes-next : (how : How) (lease : Lent) (back : Placed)
      → ((new : PassValue) → Passed now new (One first) → Makes pass new (placed_entry how lease.name lease.ran back) × Places how lease new back)
      → (new : PassValue) → Passed now new (Two first then) → TakesNext how lease back answer pass new
  takes-next how lease back gave new p =
      let half = halfway now (entry_of first) in
      let q = passed-then now new first then p in
      let before = gave half (passed-first pass now v first) in
      let after = taken half half next last depot answer then (visits-again pass now (entry_of first) next v on) here is answers told new q in
      record {
        halfway = half;
        gives = before.0;
        places = before.1;
        makes = after.0;
        at_once = q.seen ∙ ap (λ e. half.seen ++ (now.number, e) ∷ []) is;
        takes = after.1;
      }

-- the machine made its talk, and is taken again
module _ (pass now : PassValue) (w last : World) (lease next : Lent) (h : Comes pass now w lease) (how : How) (first then : Note)
    (did : entry_of first ≡ row (spent how lease.name lease.ran)) (is : entry_of then ≡ row (took next.name))
    (a : StaysOnLease (depot_of now.board.opening) h.out.forest how lease next last) (told : told_of last ≡ told_of w) where
  spent-leads : Leads now.board.opening (now.seen ++ (now.number, entry_of first) ∷ []) (after_spent h.out.forest how lease) w
  spent-leads =
      subst (λ e. Leads now.board.opening (now.seen ++ (now.number, e) ∷ []) (after_spent h.out.forest how lease) w) (sym did)
      (leads-row now.board.opening now.seen now.number (spent how lease.name lease.ran) h.out.forest w
      (leads-now now.board.opening now.seen h.out.forest w h.visits.follows h.out.family) a.allowed
      (held-by now.board.opening now.seen w lease now.number h.visits.follows h.held))

  again : Goes (depot_of now.board.opening) (after_spent h.out.forest how lease) (took next.name) last
  again = subst (λ n. Goes (depot_of now.board.opening) (after_spent h.out.forest how lease) (took n) last) (sym a.same) a.taken_again

  stays-follows : Follows now.board.opening ((now.seen ++ (now.number, entry_of first) ∷ []) ++ (now.number, entry_of then) ∷ []) last
  stays-follows =
      subst (λ e. Follows now.board.opening ((now.seen ++ (now.number, entry_of first) ∷ []) ++ (now.number, e) ∷ []) last) (sym is)
      (follows-there now.board.opening _ _ w last
      (leads-row now.board.opening (now.seen ++ (now.number, entry_of first) ∷ []) now.number (took next.name) (after_spent h.out.forest how lease) w
      spent-leads again.allowed tt) again.after told)

  pub follows-on : Follows now.board.opening (now.seen ++ turn_entries now.number (Two first then)) last
  follows-on = both-follow now first then last stays-follows

  pub goes-on : (new : PassValue) → Passed now new (Two first then) → TakesNext how lease placed.Done (taken.Took next) pass new
  goes-on new p =
      let half = halfway now (entry_of first) in
      let q = passed-then now new first then p in
      let sees = sees-now pass now w h.visits in
      let seen = q.seen ∙ ap (λ e. half.seen ++ (now.number, e) ∷ []) is in
      record {
        halfway = half;
        gives = noted pass now half first (row (spent how lease.name lease.ran)) sees (passed-first pass now sees first) did spent-leads.legal;
        places = tt;
        makes = noted half half new then (row (took next.name)) (sees-again pass now sees (entry_of first) spent-leads.legal) q is stays-follows.legal;
        at_once = seen;
        takes = record {
          ran = a.starts.ran;
          now = a.starts.now;
          of_depot = subst (λ (b : BoardValue). IsLentOf (depot_of b.opening) next) (sym q.same_board) a.of_depot;
          held =
              held-still new now.board.opening half.seen now.number (row (took next.name)) next
              (ap (λ (b : BoardValue). b.opening) q.same_board) q.same_number seen
              (taken-held now.board.opening half.seen now.number (after_spent h.out.forest how lease) next spent-leads.family again.allowed a.starts);
        };
      }
