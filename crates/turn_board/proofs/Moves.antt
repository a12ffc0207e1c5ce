-- Each step on the words keeps the rule, and tells what it says.
use Rattle.std.proofs.Common.{◌≡◌, ◌≢◌, ℕ, suc, ◌+◌, ◌%◌, ◌^◌, ◌<◌, ◌≤◌, List, [], ◌∷◌, ◌++◌, length, set, Bool, true}
use Rattle.std.proofs.Common.{false, true≢false, Option, Some, None, refl, sym, ap, ◌∙◌, subst, inl, inr, ⊎_elim, arith}
use Rattle.std.specs.Prelude.{slice_index}
use mathlib.Core.Logic.{dite}
use mathlib.Core.Option.{none, some, some-ne-none, some-injective}
use native.Mathlib.Decide.{ℕ_discrete, dec_lt}
use lib.ListN.{get_elem?}
use Rattle.std.proofs.Math.Nat.{mod-eq_of_lt}
use Rattle.std.proofs.lemmas.List.{append-nil, length_push, set-get_or}
use Rattle.std.specs.declared.snapshot.Snapshot.{Snapshot}
use Rattle.atomic_table.specs.Table.{State, Act, keeps, takes, gives, step, stepped, carried_after, Valid, Allows, Splits, opening}
use Rattle.atomic_table.specs.Table.{Joins as Absorbs}
use Rattle.atomic_table.proofs.Lists.{set_here, set_else, set_again, at_longer}
use Rattle.turn_board.specs.declared.view.Content.{Content}
use Rattle.turn_board.specs.declared.view.View.{View}
use Rattle.turn_board.specs.Seats.{has_seat, next_seat, room}
use Rattle.turn_board.specs.History.{History, HasEnded, StartsWith, entries_by, longer}
use Rattle.turn_board.specs.Rule.{content, count_if, IsLive, room_of, drawn_of, newcomer, parent, child, informed, spent, IsNamed, IsOver, HasAll, HasDrawn, Fits, Unlike, Home, Turning}
use Rattle.turn_board.specs.Steps.{drawn_view, served_view, learned_view, passed_view, drew, looked, passed, learned}
use Rattle.turn_board.proofs.Views.{total_set, total_push, total_le, set_at, each_set, each_push, each_two, pairs_set, pairs_push}
use Rattle.std.proofs.lemmas.Bool.{false_from_ne_true}
use Rattle.turn_board.proofs.Names.{has_new, has_old, has_not, had, had_append, had_not, unmade_below, above_self, same_child, room_split, room_pos}
use Rattle.turn_board.proofs.Entries.{begins_self, begins_longer, longer_is, entries_by-push_same, entries_by-push_other, none_before, same_between}

off : {P : Type 0} (b : Bool) → b ≡ false → b ≡ true → P
off b is on = absurd (true≢false (sym on ∙ is))

no_number : {P : Type 0} (o : Option ℕ) (n : ℕ) → o ≡ None → o ≡ Some n → P
no_number o n e f = absurd (cc)

same_number : (o : Option ℕ) (m n : ℕ) → o ≡ Some m → o ≡ Some n → m ≡ n
same_number o m n e f = cc

small : (n : ℕ) → n < 18446744073709551616 → n % 2 ^ 64 ≡ n
small n lt = mod-eq_of_lt lt

-- a seat that has ended is not one that lives
ended_apart : (gone : List (List ℕ)) (seat s : List ℕ) → has_seat gone seat ≡ false → has_seat gone s ≡ true → seat ≢ s
ended_apart gone seat s lives has same = true≢false (sym has ∙ ap (has_seat gone) (sym same) ∙ lives)

-- what was seen of the seats that have ended
module _ {N : Type 0} where
  none_ended : (log : History N) (made gone : List (List ℕ)) (seen : History N) → HasAll log made gone [] seen
  none_ended log made gone seen s splits has = absurd (true≢false (sym has))

  -- another makes an entry
  all_other : (log : History N) (made gone ended : List (List ℕ)) (seen : History N) (seat : List ℕ) (note : N) → has_seat gone seat ≡ false
      → HasAll log made gone ended seen → HasAll (log ++ (seat, note) ∷ []) made gone ended seen
  all_other log made gone ended seen seat note lives all s splits has =
      let h = all s splits has in
      record {
        is_gone = h.is_gone;
        all = entries_by-push_other s seat log note (ended_apart gone seat s lives h.is_gone) ∙ h.all;
        unmade = h.unmade;
      }

  -- one more has ended
  all_gone : (log : History N) (made gone ended : List (List ℕ)) (seen : History N) (seat : List ℕ) → HasAll log made gone ended seen
      → HasAll log made (seat ∷ gone) ended seen
  all_gone log made gone ended seen seat all s splits has =
      let h = all s splits has in record { is_gone = has_old gone seat s h.is_gone; all = h.all; unmade = h.unmade }

  -- one more is made, which is split off from a seat that lives
  all_made : (log : History N) (made gone ended : List (List ℕ)) (seen : History N) (seat : List ℕ) (n : ℕ) → has_seat gone seat ≡ false
      → HasAll log made gone ended seen → HasAll log (next_seat seat n ∷ made) gone ended seen
  all_made log made gone ended seen seat n lives all s splits has =
      let h = all s splits has in
      record {
        is_gone = h.is_gone;
        all = h.all;
        unmade = λ k le. has_not made (next_seat seat n) (s ++ k ∷ []) (λ same. ended_apart gone seat s lives h.is_gone (same_child seat s n k same).0) (h.unmade k le);
      }

  -- of a history between what was seen and the whole
  all_between : (log seen later : History N) (s : List ℕ) → StartsWith log later → StartsWith later seen → entries_by s log ≡ entries_by s seen
      → entries_by s later ≡ entries_by s seen
  all_between log seen later s whole part all = same_between s log later seen (entries_by s seen) whole part all refl

module _ {A N : Type 0} where
  turned : (v w : View A N) → Unlike v w → Unlike w v
  turned v w u = ((λ n e f. u.0 n f e), (λ a b e. u.1 b a (sym e)))

  live_room : (key : A) (made : List (List ℕ)) (v : View A N) → IsNamed key made v.about v.seat v.splits → IsLive v.about → 1 ≤ room_of v
  live_room key made v f live = subst (λ o. 1 ≤ count_if o (room (length v.seat) v.splits)) (sym live.1) (room_pos (length v.seat) v.splits f.depth f.few)

  drawn_le_room : (key : A) (log : History N) (made gone : List (List ℕ)) (ticket : ℕ) (v : View A N) → Fits key log made gone ticket v → drawn_of v ≤ room_of v
  drawn_le_room key log made gone ticket v f = at v.number refl
    where
      at : (o : Option ℕ) → v.number ≡ o → count_if o 1 ≤ room_of v
      at None e = omega arith
      at (Some n) e = live_room key made v f.named (f.draws.number_is n e).0

  -- a number that is later than those drawn
  drawn_later : (log : History N) (ticket : ℕ) (about : Option A) (number : Option ℕ) (served : Bool) (seen : History N)
      → HasDrawn log ticket about number served seen → HasDrawn log (ticket + 1) about number served seen
  drawn_later log ticket about number served seen d = record { number_is = λ n e. (let h = d.number_is n e in (h.0, h.1, omega arith)); served_is = d.served_is }

module _ {A N T : Type 0} (stands : A → History N → T → Type 0) (key : A) where
  abbrev Lock : Type 0
  Lock = State (Content T N) (View A N)

  abbrev Rule : Lock → Type 0
  Rule = Turning stands key

  few_tickets : (s : Lock) (h : Rule s) → h.ticket ≤ length h.log + 281474976710656
  few_tickets s h =
      let less = total_le drawn_of room_of s.views (λ i v e. drawn_le_room key h.log h.made h.gone h.ticket v (h.fits i v e)) in
      let c = h.count in
      let r = h.seats in
      omega arith

  same_words : (s : Lock) (i : ℕ) → set s.words i (slice_index s.words i) ≡ s.words
  same_words s i = set-get_or s.words i 0

  home_set : (log : History N) (s : Lock) (words : List ℕ) (id : ℕ) (v w : View A N) → get_elem? s.views id ≡ some v → (v.served ≡ true → w.served ≡ true) → Home stands key log s
      → Home stands key log record { words = words; homes = s.homes; views = set s.views id w }
  home_set log s words id v w at kept home = ⊎_elim
      (λ here. inl here)
      (λ (out : (j : ℕ) × (u : View A N) × (get_elem? s.views j ≡ some u) × (u.served ≡ true)). dite (ℕ_discrete out.0 id)
      (λ (same : out.0 ≡ id).
      let is : out.1 ≡ v = some-injective _ _ (sym out.2 ∙ ap (get_elem? s.views) same ∙ at) in
      inr (id, w, set_at s.views id v w at, kept (ap (λ (u : View A N). u.served) (sym is) ∙ out.3)))
      (λ (other : out.0 ≢ id). inr (out.0, out.1, set_else s.views id out.0 w other ∙ out.2, out.3)))
      home

  -- a number is drawn
  pub draws : (slots id : ℕ) (v : View A N) (c : List (ℕ × Content T N)) → v.about ≡ Some key → v.number ≡ None → v.served ≡ false
      → Allows Rule slots id (v, c) 0 (λ n. (n + 1) % 2 ^ 64) (drew (step slots 0 1 0 none) (v, c))
  draws slots id v c knows undrawn idle s h slots_are at fit =
      let n = slice_index s.words 0 in
      let found : n ≡ h.ticket = ap (λ ws. slice_index ws 0) h.words_are in
      let w = drawn_view v n in
      let f = h.fits id v at in
      let few = few_tickets s h in
      let bound = h.bound in
      let live : IsLive v.about = (key, knows) in (
        w,
        keeps,
        tt,
        record {
          log = h.log;
          made = h.made;
          gone = h.gone;
          ticket = h.ticket + 1;
          words_are = ap (λ ws. set ws 0 ((slice_index ws 0 + 1) % 2 ^ 64)) h.words_are ∙ ap (λ t. t ∷ length h.log ∷ []) (small (h.ticket + 1) (omega arith));
          count =
              let sum = total_set drawn_of s.views id v w at in
              let was : drawn_of v ≡ 0 = ap (λ o. count_if o 1) undrawn in
              let c = h.count in
              omega arith;
          seats =
              let sum = total_set room_of s.views id v w at in
              let r = h.seats in
              omega arith;
          bound = h.bound;
          fits = each_set (Fits key h.log h.made h.gone (h.ticket + 1)) s.views id w
              (record {
                named = f.named;
                sees = f.sees;
                draws = record {
                  number_is = λ m e. (let is : n ≡ m = same_number w.number n m refl e in let c = h.count in (live, omega arith, omega arith));
                  served_is = λ on. off v.served idle on;
                };
                outlives = f.outlives;
              })
              (λ j u other e. let g = h.fits j u e in record { named = g.named; sees = g.sees; draws = drawn_later h.log h.ticket u.about u.number u.served u.seen g.draws; outlives = g.outlives });
          apart = pairs_set Unlike turned s.views id w h.apart (λ j u other e. (
            (λ m mine theirs. let is : n ≡ m = same_number w.number n m refl mine in let below = ((h.fits j u e).draws.number_is m theirs).2 in absurd (omega arith)),
            (h.apart id j v u (λ k. other (sym k)) at e).1,
          ));
          rooted = h.rooted;
          gone_made = h.gone_made;
          fresh = h.fresh;
          home = home_set h.log s (set s.words 0 ((n + 1) % 2 ^ 64)) id v w at (λ on. off v.served idle on) h.home;
        },
        refl,
      )

  -- where a step changes nothing
  unmoved : (s : Lock) (h : Rule s) (i id : ℕ) (v : View A N) (c : List (ℕ × Content T N)) → get_elem? s.views id ≡ some v → Rule (stepped s i (slice_index s.words i) id c v keeps)
  unmoved s h i id v c at =
      subst (λ (z : List ℕ × List (View A N)). Rule record { words = z.0; homes = s.homes; views = z.1 }) (λ k. (sym (same_words s i) k, sym (set_again s.views id v at) k)) h

  -- the slot is at home where the turn of a seat that does not have it has come
  at_home : (s : Lock) (h : Rule s) (id : ℕ) (v : View A N) → get_elem? s.views id ≡ some v → v.number ≡ Some (length h.log) → v.served ≡ false
      → (x : T) × (note : Option (Snapshot N)) × (get_elem? s.homes 0 ≡ some (some (content (Some x) note))) × stands key h.log x
  at_home s h id v at drawn idle = ⊎_elim
      (λ (here : (x : T) × (note : Option (Snapshot N)) × (get_elem? s.homes 0 ≡ some (some (content (Some x) note))) × stands key h.log x). here)
      (λ (out : (j : ℕ) × (u : View A N) × (get_elem? s.views j ≡ some u) × (u.served ≡ true)). dite (ℕ_discrete out.0 id)
      (λ (same : out.0 ≡ id).
      let is : out.1 ≡ v = some-injective _ _ (sym out.2 ∙ ap (get_elem? s.views) same ∙ at) in
      off v.served idle (ap (λ (u : View A N). u.served) (sym is) ∙ out.3))
      (λ (other : out.0 ≢ id). absurd ((h.apart out.0 id out.1 v other out.2 at).0 (length h.log) ((h.fits out.0 out.1 out.2).draws.served_is out.3).0 drawn)))
      h.home

  comes : (s : Lock) (h : Rule s) (id : ℕ) (v : View A N) (c : List (ℕ × Content T N)) (y : Content T N) → get_elem? s.views id ≡ some v
      → v.number ≡ Some (length h.log) → length h.log < 9223372036854775808
      → Rule (stepped s 1 (slice_index s.words 1) id c (served_view v h.log) (takes 0 y))
  comes s h id v c y at drawn few =
      let w = served_view v h.log in
      let f = h.fits id v at in record {
        log = h.log;
        made = h.made;
        gone = h.gone;
        ticket = h.ticket;
        words_are = same_words s 1 ∙ h.words_are;
        count = let sum = total_set drawn_of s.views id v w at in let n = h.count in omega arith;
        seats = let sum = total_set room_of s.views id v w at in let r = h.seats in omega arith;
        bound = h.bound;
        fits = each_set (Fits key h.log h.made h.gone h.ticket) s.views id w
            (record {
              named = f.named;
              sees = record { seen_is = begins_self h.log; told_is = f.sees.told_is; mine_is = f.sees.mine_is; own_is = f.sees.mine_is };
              draws = record { number_is = f.draws.number_is; served_is = λ on. (drawn, refl, few) };
              outlives = record {
                here = f.outlives.here;
                ended_is = λ s splits has. (let o = f.outlives.ended_is s splits has in record { is_gone = o.is_gone; all = refl; unmade = o.unmade });
                told_is = f.outlives.told_is;
              };
            })
            (λ j u other e. h.fits j u e);
        apart = pairs_set Unlike turned s.views id w h.apart (λ j u other e. h.apart id j v u (λ k. other (sym k)) at e);
        rooted = h.rooted;
        gone_made = h.gone_made;
        fresh = h.fresh;
        home = inr (id, w, set_at s.views id v w at, refl);
      }

  -- what a look gives
  abbrev Looked : Lock → ℕ → View A N → List (ℕ × Content T N) → Type 0
  Looked s id v c = (w : View A N) × (a : Act (Content T N)) × Valid s.homes c a × Rule (stepped s 1 (slice_index s.words 1) id c w a)
      × looked stands (step 1 1 0 0 none) (v, c) (slice_index s.words 1) (w, carried_after c a)

  waits : (s : Lock) (h : Rule s) (id : ℕ) (v : View A N) (c : List (ℕ × Content T N)) → get_elem? s.views id ≡ some v
      → (v.number ≡ Some (slice_index s.words 1) → slice_index s.words 1 < 9223372036854775808 → ⊥)
      → Looked s id v c
  waits s h id v c at not_yet = (v, keeps, tt, unmoved s h 1 id v c at, ((λ e few. absurd (not_yet e few)), (λ _. refl)))

  -- a seat looks whether its turn has come
  pub looks : (slots id : ℕ) (v : View A N) (c : List (ℕ × Content T N)) (number : ℕ) → v.about ≡ Some key → v.number ≡ Some number → v.served ≡ false
      → Allows Rule slots id (v, c) 1 (λ n. n) (looked stands (step slots 1 0 0 none) (v, c))
  looks slots id v c number knows drawn idle s h slots_are at fit =
      let n = slice_index s.words 1 in
      let found : n ≡ length h.log = ap (λ ws. slice_index ws 1) h.words_are in
      let f = h.fits id v at in
      let live : IsLive v.about = (key, knows) in
      let stays : (v.number ≡ Some n → n < 9223372036854775808 → ⊥) → Looked s id v c = waits s h id v c at in
      dite (ℕ_discrete number (length h.log))
      (λ (mine : number ≡ length h.log). dite (dec_lt (length h.log) 9223372036854775808)
      (λ (few : length h.log < 9223372036854775808).
      let is : v.number ≡ Some (length h.log) = drawn ∙ ap Some mine in
      let here = at_home s h id v at is idle in (
        served_view v h.log,
        takes 0 (content (Some here.0) here.1),
        here.2,
        comes s h id v c (content (Some here.0) here.1) at is few,
        (
          (λ e lt. record {
            log = h.log;
            value = here.0;
            note = here.1;
            is = refl;
            later = f.sees.seen_is;
            few = few;
            own = f.sees.mine_is live;
            unmade = λ k below le. h.fresh (v.seat ++ k ∷ below) (unmade_below h.made h.rooted below v.seat k (f.named.unmade live k le));
            stands_for = λ a knew. subst (λ k. stands k h.log here.0) (sym (f.named.about_is a knew)) here.3;
          }),
          (λ many. let lots = many (is ∙ ap Some (sym found)) in absurd (omega arith)),
        ),
      ))
      (λ (many : length h.log < 9223372036854775808 → ⊥). stays (λ e few. many (omega arith))))
      (λ (other : number ≢ length h.log). stays (λ e few. other (same_number v.number number n drawn e ∙ found)))

  -- the turn passes, and the history has one entry more
  pub passes : (slots id : ℕ) (v : View A N) (x : T) (note : Snapshot N) → slots ≡ 1 → v.about ≡ Some key → v.served ≡ true → stands key (v.seen ++ (v.seat, note.value) ∷ []) x
      → Allows Rule slots id (v, (0, content (Some x) (Some note)) ∷ []) 1 (λ n. (n + 1) % 2 ^ 64) (passed (step slots 1 1 0 none) (v, (0, content (Some x) (Some note)) ∷ []))
  passes slots id v x note one knows served stood s h slots_are at fit =
      let entry : List ℕ × N = (v.seat, note.value) in
      let log = h.log ++ entry ∷ [] in
      let w = passed_view v note.value in
      let f = h.fits id v at in
      let live : IsLive v.about = (key, knows) in
      let mine = f.draws.served_is served in
      let drawn : v.number ≡ Some (length h.log) = mine.0 in
      let few = mine.2 in
      let bound = h.bound in
      let long : length log ≡ length h.log + 1 = length_push h.log entry in
      let fewer = few_tickets s h in (
        w,
        gives,
        tt,
        record {
          log = log;
          made = h.made;
          gone = h.gone;
          ticket = h.ticket;
          words_are = ap (λ ws. set ws 1 ((slice_index ws 1 + 1) % 2 ^ 64)) h.words_are ∙ ap (λ t. h.ticket ∷ t ∷ []) (small (length h.log + 1) (omega arith) ∙ sym long);
          count =
              let sum = total_set drawn_of s.views id v w at in
              let was : drawn_of v ≡ 1 = ap (λ o. count_if o 1) drawn in
              let n = h.count in
              omega arith;
          seats = let sum = total_set room_of s.views id v w at in let r = h.seats in omega arith;
          bound = omega arith;
          fits = each_set (Fits key log h.made h.gone h.ticket) s.views id w
              (record {
                named = f.named;
                sees = record {
                  seen_is = ([], ap (λ l. l ++ entry ∷ []) (sym mine.1) ∙ sym (append-nil (v.seen ++ entry ∷ [])));
                  told_is = begins_longer h.log (entry ∷ []) v.told f.sees.told_is;
                  mine_is = λ l. entries_by-push_same v.seat h.log note.value ∙ ap (λ es. es ++ entry ∷ []) (f.sees.mine_is l);
                  own_is = λ l. entries_by-push_same v.seat v.seen note.value ∙ ap (λ es. es ++ entry ∷ []) (f.sees.own_is l);
                };
                draws = record { number_is = λ m e. no_number w.number m refl e; served_is = λ on. off w.served refl on };
                outlives = record {
                  here = f.outlives.here;
                  ended_is = λ s splits has. (
                      let o = f.outlives.ended_is s splits has in
                      record { is_gone = o.is_gone; all = ap (λ l. entries_by s (l ++ entry ∷ [])) (sym mine.1); unmade = o.unmade });
                  told_is = all_other h.log h.made h.gone v.told_ended v.told v.seat note.value (f.outlives.here live) f.outlives.told_is;
                };
              })
              (λ j u other e.
              let g = h.fits j u e in
              let apart = h.apart id j v u (λ k. other (sym k)) at e in record {
                named = g.named;
                sees = record {
                  seen_is = begins_longer h.log (entry ∷ []) u.seen g.sees.seen_is;
                  told_is = begins_longer h.log (entry ∷ []) u.told g.sees.told_is;
                  mine_is = λ l. entries_by-push_other u.seat v.seat h.log note.value (apart.1 live l) ∙ g.sees.mine_is l;
                  own_is = g.sees.own_is;
                };
                draws = record {
                  number_is = λ m e. (
                      let d = g.draws.number_is m e in
                      let later : length h.log ≢ m = λ same. apart.0 (length h.log) drawn (e ∙ ap Some (sym same)) in
                      (d.0, omega arith, d.2)
                      );
                  served_is = λ on. absurd (apart.0 (length h.log) drawn (g.draws.served_is on).0);
                };
                outlives = record {
                  here = g.outlives.here;
                  ended_is = all_other h.log h.made h.gone u.ended u.seen v.seat note.value (f.outlives.here live) g.outlives.ended_is;
                  told_is = all_other h.log h.made h.gone u.told_ended u.told v.seat note.value (f.outlives.here live) g.outlives.told_is;
                };
              });
          apart = pairs_set Unlike turned s.views id w h.apart (λ j u other e. ((λ m e. no_number w.number m refl e), (h.apart id j v u (λ k. other (sym k)) at e).1));
          rooted = h.rooted;
          gone_made = h.gone_made;
          fresh = λ seat unmade.
              entries_by-push_other seat v.seat h.log note.value (λ same. true≢false (sym (subst (λ t. has_seat h.made t ≡ true) same (f.named.made_is live)) ∙ unmade)) ∙ h.fresh seat unmade;
          home = inl (x, Some note, set_here s.homes 0 (some (content (Some x) (Some note))) (omega arith), subst (λ l. stands key (l ++ entry ∷ []) x) mine.1 stood);
        },
        λ value other e.
            let slot : content (Some x) (Some note) ≡ content value (Some other) = ap (λ (z : ℕ × Content T N). z.1) (heads _ _ e) in
            ap (λ (m : Snapshot N). (passed_view v m.value, [])) (same_note note other (ap (λ (z : Content T N). z.note) slot)),
      )
    where
      heads : (a b : ℕ × Content T N) → a ∷ [] ≡ b ∷ [] → a ≡ b
      heads a b e = cc

      same_note : (m n : Snapshot N) → Some m ≡ Some n → m ≡ n
      same_note m n e = cc

  -- a beginning of the history has no entry of a seat that is not made, nor of one that would be split off from it
  unseen : (s : Lock) (h : Rule s) (seen : History N) → StartsWith h.log seen → (seat : List ℕ) (k : ℕ) (below : List ℕ)
      → has_seat h.made (seat ++ k ∷ []) ≡ false → entries_by (seat ++ k ∷ below) seen ≡ []
  unseen s h seen part seat k below unmade =
      none_before (seat ++ k ∷ below) h.log seen part (h.fresh (seat ++ k ∷ below) (unmade_below h.made h.rooted below seat k unmade))

  -- one that begins with what was seen has no more entries of a seat that had ended
  over : (s : Lock) (h : Rule s) (seen later : History N) (seat : List ℕ) (splits : ℕ) → StartsWith h.log later → StartsWith later seen
      → IsOver h.log h.made h.gone seat splits seen → HasEnded seat splits seen later
  over s h seen later seat splits whole part o = record {
    all = all_between h.log seen later seat whole part o.all;
    none = λ k below le. unseen s h later whole seat k below (o.unmade k le);
  }

  -- a seat learns which is longer, what it had seen or what it was told
  pub learns : (slots id : ℕ) (v : View A N) (c : List (ℕ × Content T N)) → v.served ≡ false → Allows Rule slots id (v, c) 0 (λ n. n) (learned (step slots 0 0 0 none) (v, c))
  learns slots id v c idle s h slots_are at fit =
      let w = learned_view v in
      let f = h.fits id v at in
      let l = longer_is h.log v.seen v.told f.sees.seen_is f.sees.told_is in
      let own = λ (live : IsLive v.about). same_between v.seat h.log (longer v.seen v.told) v.seen v.mine l.all l.first (f.sees.mine_is live) (f.sees.own_is live) in
      let later = longer v.seen v.told in
      let unmade = λ (live : IsLive v.about) (k : ℕ) (below : List ℕ) (le : v.splits ≤ k).
      unseen s h later l.all v.seat k below (f.named.unmade live k le) in
      let still : (s : List ℕ) (splits : ℕ) → has_seat v.ended (next_seat s splits) ≡ true → HasEnded s splits v.seen later =
      λ t splits has. over s h v.seen later t splits l.all l.first (f.outlives.ended_is t splits has) in
      let last : (s : List ℕ) (splits : ℕ) → has_seat v.told_ended (next_seat s splits) ≡ true → HasEnded s splits v.told later =
      λ t splits has. over s h v.told later t splits l.all l.second (f.outlives.told_is t splits has) in (
        w,
        keeps,
        tt,
        record {
          log = h.log;
          made = h.made;
          gone = h.gone;
          ticket = h.ticket;
          words_are = same_words s 0 ∙ h.words_are;
          count = let sum = total_set drawn_of s.views id v w at in let n = h.count in omega arith;
          seats = let sum = total_set room_of s.views id v w at in let r = h.seats in omega arith;
          bound = h.bound;
          fits = each_set (Fits key h.log h.made h.gone h.ticket) s.views id w
              (record {
                named = f.named;
                sees = record { seen_is = l.all; told_is = (h.log, refl); mine_is = f.sees.mine_is; own_is = own };
                draws = record { number_is = f.draws.number_is; served_is = λ on. off v.served idle on };
                outlives = record {
                  here = f.outlives.here;
                  ended_is = λ t splits has. ⊎_elim
                      (λ (old : has_seat v.ended (next_seat t splits) ≡ true).
                      let o = f.outlives.ended_is t splits old in
                      record { is_gone = o.is_gone; all = o.all ∙ sym (still t splits old).all; unmade = o.unmade })
                      (λ (new : has_seat v.told_ended (next_seat t splits) ≡ true).
                      let o = f.outlives.told_is t splits new in
                      record { is_gone = o.is_gone; all = o.all ∙ sym (last t splits new).all; unmade = o.unmade })
                      (had_append v.ended v.told_ended (next_seat t splits) has);
                  told_is = none_ended h.log h.made h.gone [];
                };
              })
              (λ j u other e. h.fits j u e);
          apart = pairs_set Unlike turned s.views id w h.apart (λ j u other e. h.apart id j v u (λ k. other (sym k)) at e);
          rooted = h.rooted;
          gone_made = h.gone_made;
          fresh = h.fresh;
          home = home_set h.log s (set s.words 0 (slice_index s.words 0)) id v w at (λ on. on) h.home;
        },
        record { is = refl; seen = l.first; told = l.second; own = own; unmade = unmade; still = still; last = last },
      )

  -- a seat is split off
  pub splits : (id : ℕ) (v : View A N) → v.about ≡ Some key → v.served ≡ false → length v.seat < 3 → v.splits < 65535 → Splits Rule id v (parent v) (child v)
  splits id v knows idle parts few s h at =
      let w = parent v in
      let x = child v in
      let made = x.seat ∷ h.made in
      let f = h.fits id v at in
      let live : IsLive v.about = (key, knows) in
      let unmade : has_seat h.made x.seat ≡ false = f.named.unmade live v.splits (omega arith) in
      let is_made = f.named.made_is live in
      let long : length x.seat ≡ suc (length v.seat) = (let l = length_push v.seat v.splits in omega arith) in
      let none_yet = h.fresh x.seat unmade in record {
        log = h.log;
        made = made;
        gone = h.gone;
        ticket = h.ticket;
        words_are = h.words_are;
        count =
            let sum = total_set drawn_of s.views id v w at in
            let all = total_push drawn_of (set s.views id w) x in
            let n = h.count in
            omega arith;
        seats =
            let sum = total_set room_of s.views id v w at in
            let all = total_push room_of (set s.views id w) x in
            let r = h.seats in
            let before : room_of v ≡ room (length v.seat) v.splits = ap (λ o. count_if o (room (length v.seat) v.splits)) knows in
            let after : room_of w ≡ room (length v.seat) (v.splits + 1) = ap (λ o. count_if o (room (length v.seat) (v.splits + 1))) knows in
            let new : room_of x ≡ room (suc (length v.seat)) 0 = ap (λ o. count_if o (room (length x.seat) 0)) knows ∙ ap (λ p. room p 0) long in
            let handed = room_split (length v.seat) v.splits parts few in
            omega arith;
        bound = h.bound;
        fits = each_push (Fits key h.log made h.gone h.ticket) (set s.views id w) x
            (record {
              named = record {
                about_is = f.named.about_is;
                depth = omega arith;
                few = omega arith;
                made_is = λ l. has_new h.made x.seat;
                unmade = λ l k le. has_not h.made x.seat (x.seat ++ k ∷ []) (λ same. above_self x.seat k (sym same)) (false_from_ne_true _ (λ has. true≢false (sym (h.rooted x.seat k has) ∙ unmade)));
              };
              sees = record { seen_is = f.sees.seen_is; told_is = (h.log, refl); mine_is = λ l. none_yet; own_is = λ l. none_before x.seat h.log v.seen f.sees.seen_is none_yet };
              draws = record { number_is = λ m e. no_number x.number m refl e; served_is = λ on. off x.served refl on };
              outlives = record {
                here = λ l. false_from_ne_true (has_seat h.gone x.seat) (λ has. true≢false (sym (h.gone_made x.seat has) ∙ unmade));
                ended_is = none_ended h.log made h.gone v.seen;
                told_is = none_ended h.log made h.gone [];
              };
            })
            (each_set (Fits key h.log made h.gone h.ticket) s.views id w
            (record {
              named = record {
                about_is = f.named.about_is;
                depth = f.named.depth;
                few = omega arith;
                made_is = λ l. has_old h.made x.seat v.seat is_made;
                unmade = λ l k le. has_not h.made x.seat (v.seat ++ k ∷ []) (λ same. let is = (same_child v.seat v.seat v.splits k same).1 in absurd (omega arith)) (f.named.unmade l k (omega arith));
              };
              sees = f.sees;
              draws = f.draws;
              outlives = record {
                here = f.outlives.here;
                ended_is = all_made h.log h.made h.gone v.ended v.seen v.seat v.splits (f.outlives.here live) f.outlives.ended_is;
                told_is = all_made h.log h.made h.gone v.told_ended v.told v.seat v.splits (f.outlives.here live) f.outlives.told_is;
              };
            })
            (λ j u other e. let g = h.fits j u e in record {
              named = record {
                about_is = g.named.about_is;
                depth = g.named.depth;
                few = g.named.few;
                made_is = λ l. has_old h.made x.seat u.seat (g.named.made_is l);
                unmade = λ l k le. has_not h.made x.seat (u.seat ++ k ∷ [])
                    (λ same. (h.apart id j v u (λ z. other (sym z)) at e).1 live l (same_child v.seat u.seat v.splits k same).0) (g.named.unmade l k le);
              };
              sees = g.sees;
              draws = g.draws;
              outlives = record {
                here = g.outlives.here;
                ended_is = all_made h.log h.made h.gone u.ended u.seen v.seat v.splits (f.outlives.here live) g.outlives.ended_is;
                told_is = all_made h.log h.made h.gone u.told_ended u.told v.seat v.splits (f.outlives.here live) g.outlives.told_is;
              };
            }));
        apart = pairs_push Unlike turned (set s.views id w) x
            (pairs_set Unlike turned s.views id w h.apart (λ j u other e. h.apart id j v u (λ z. other (sym z)) at e))
            (λ j u e. (
              (λ m n. no_number x.number m refl n),
              (λ l k same. true≢false (sym (each_set (λ (y : View A N). IsLive y.about → has_seat h.made y.seat ≡ true) s.views id w (λ _. is_made)
                  (λ i y _ there. (h.fits i y there).named.made_is) j u e k) ∙ ap (has_seat h.made) (sym same) ∙ unmade)),
            ));
        rooted = λ seat k has. ⊎_elim
            (λ (same : x.seat ≡ seat ++ k ∷ []). has_old h.made x.seat seat (subst (λ t. has_seat h.made t ≡ true) (same_child v.seat seat v.splits k same).0 is_made))
            (λ (old : has_seat h.made (seat ++ k ∷ []) ≡ true). has_old h.made x.seat seat (h.rooted seat k old))
            (had h.made x.seat (seat ++ k ∷ []) has);
        gone_made = λ seat has. has_old h.made x.seat seat (h.gone_made seat has);
        fresh = λ seat none. h.fresh seat (had_not h.made x.seat seat none).1;
        home = pushed s.words (set s.views id w) x (home_set h.log s s.words id v w at (λ on. on) h.home);
      }
    where
      pushed : (words : List ℕ) (views : List (View A N)) (x : View A N)
          → Home stands key h.log record { words = words; homes = s.homes; views = views } → Home stands key h.log record { words = words; homes = s.homes; views = views ++ x ∷ [] }
      pushed words views x home = ⊎_elim
          (λ here. inl here)
          (λ (out : (j : ℕ) × (u : View A N) × (get_elem? views j ≡ some u) × (u.served ≡ true)). inr (out.0, out.1, at_longer views (x ∷ []) out.0 out.1 out.2, out.3))
          home

  -- a seat is told what another has seen, which ends
  pub joins : (id : ℕ) (v : View A N) (other : ℕ) (w : View A N) → w.about ≡ Some key → w.number ≡ None → w.served ≡ false
      → Absorbs Rule id v other w (informed v w) spent
  joins id v other w knows undrawn idle s h at apart there =
      let x = informed v w in
      let old : get_elem? s.views other ≡ some w = sym (set_else s.views id other x apart) ∙ there in
      let live : IsLive w.about = (key, knows) in
      let f = h.fits id v at in
      let g = h.fits other w old in
      let gone = w.seat ∷ h.gone in
      let ends : IsOver h.log h.made gone w.seat w.splits w.seen = record {
        is_gone = has_new h.gone w.seat;
        all = g.sees.mine_is live ∙ sym (g.sees.own_is live);
        unmade = g.named.unmade live;
      } in
      let ends_now = λ (s : List ℕ) (splits : ℕ) (same : (w.seat ≡ s) × (w.splits ≡ splits)).
      subst (λ n. IsOver h.log h.made gone s n w.seen) same.1 (subst (λ t. IsOver h.log h.made gone t w.splits w.seen) same.0 ends) in record {
        log = h.log;
        made = h.made;
        gone = gone;
        ticket = h.ticket;
        words_are = h.words_are;
        count =
            let first = total_set drawn_of s.views id v x at in
            let second = total_set drawn_of (set s.views id x) other w spent there in
            let was : drawn_of w ≡ 0 = ap (λ o. count_if o 1) undrawn in
            let n = h.count in
            omega arith;
        seats =
            let first = total_set room_of s.views id v x at in
            let second = total_set room_of (set s.views id x) other w spent there in
            let r = h.seats in
            omega arith;
        bound = h.bound;
        fits = each_two (Fits key h.log h.made gone h.ticket) s.views id other x spent
            (record {
              named = f.named;
              sees = record { seen_is = f.sees.seen_is; told_is = g.sees.seen_is; mine_is = f.sees.mine_is; own_is = f.sees.own_is };
              draws = f.draws;
              outlives = record {
                here = λ l. has_not h.gone w.seat v.seat ((h.apart other id w v apart old at).1 live l) (f.outlives.here l);
                ended_is = all_gone h.log h.made h.gone v.ended v.seen w.seat f.outlives.ended_is;
                told_is = λ s splits has. ⊎_elim
                    (λ (same : next_seat w.seat w.splits ≡ next_seat s splits). ends_now s splits (same_child w.seat s w.splits splits same))
                    (λ (had : has_seat w.ended (next_seat s splits) ≡ true). all_gone h.log h.made h.gone w.ended w.seen w.seat g.outlives.ended_is s splits had)
                    (had w.ended (next_seat w.seat w.splits) (next_seat s splits) has);
              };
            })
            (record {
              named = record { about_is = λ a e. absurd (not_live a e); depth = omega arith; few = omega arith; made_is = λ l. absurd (not_live l.0 l.1); unmade = λ l. absurd (not_live l.0 l.1) };
              sees = record { seen_is = (h.log, refl); told_is = (h.log, refl); mine_is = λ l. absurd (not_live l.0 l.1); own_is = λ l. absurd (not_live l.0 l.1) };
              draws = record { number_is = λ m e. no_number None m refl e; served_is = λ on. off false refl on };
              outlives = record { here = λ l. absurd (not_live l.0 l.1); ended_is = none_ended h.log h.made gone []; told_is = none_ended h.log h.made gone [] };
            })
            (λ j u this that e. let k = h.fits j u e in record {
              named = k.named;
              sees = k.sees;
              draws = k.draws;
              outlives = record {
                here = λ l. has_not h.gone w.seat u.seat ((h.apart other j w u (λ z. that (sym z)) old e).1 live l) (k.outlives.here l);
                ended_is = all_gone h.log h.made h.gone u.ended u.seen w.seat k.outlives.ended_is;
                told_is = all_gone h.log h.made h.gone u.told_ended u.told w.seat k.outlives.told_is;
              };
            });
        apart = pairs_set Unlike turned (set s.views id x) other spent
            (pairs_set Unlike turned s.views id x h.apart (λ j u apart e. h.apart id j v u (λ z. apart (sym z)) at e))
            (λ j u other e. ((λ m n. no_number None m refl n), (λ l. absurd (not_live l.0 l.1))));
        rooted = h.rooted;
        gone_made = λ seat has. ⊎_elim
            (λ (same : w.seat ≡ seat). subst (λ t. has_seat h.made t ≡ true) same (g.named.made_is live))
            (λ (old : has_seat h.gone seat ≡ true). h.gone_made seat old)
            (had h.gone w.seat seat has);
        fresh = h.fresh;
        home = home_set h.log record { words = s.words; homes = s.homes; views = set s.views id x } s.words other w spent there
            (λ on. off w.served idle on) (home_set h.log s s.words id v x at (λ on. on) h.home);
      }
    where
      not_live : (a : A) → None ≡ Some a → ⊥
      not_live a e = cc

  -- the lock begins with one seat, and the value at home
  pub begins : (value : T) → stands key [] value → Rule (opening (0 ∷ 0 ∷ []) (content (Some value) None ∷ []) (newcomer key))
  begins value stood =
      let v = newcomer key in record {
        log = [];
        made = [] ∷ [];
        gone = [];
        ticket = 0;
        words_are = refl;
        count = refl;
        seats = omega arith;
        bound = omega arith;
        fits = each_push (Fits key [] ([] ∷ []) [] 0) [] v
            (record {
              named = record {
                about_is = λ a e. (let is : key ≡ a = cc in sym is);
                depth = omega arith;
                few = omega arith;
                made_is = λ l. has_new [] [];
                unmade = λ l k le. has_not [] [] (k ∷ []) (λ same. above_self [] k (sym same)) refl;
              };
              sees = record { seen_is = ([], refl); told_is = ([], refl); mine_is = λ l. refl; own_is = λ l. refl };
              draws = record { number_is = λ m e. no_number None m refl e; served_is = λ on. off false refl on };
              outlives = record { here = λ l. refl; ended_is = none_ended [] ([] ∷ []) [] []; told_is = none_ended [] ([] ∷ []) [] [] };
            })
            (λ j u e. absurd (some-ne-none u (sym e)));
        apart = pairs_push Unlike turned [] v (λ i j u w apart e f. absurd (some-ne-none u (sym e))) (λ j u e. absurd (some-ne-none u (sym e)));
        rooted = λ seat k has. ⊎_elim (λ (same : [] ≡ seat ++ k ∷ []). (let long = ap length same in absurd (omega (arith, length_push seat k))))
            (λ (old : false ≡ true). absurd (true≢false (sym old))) (had [] [] (seat ++ k ∷ []) has);
        gone_made = λ seat has. absurd (true≢false (sym has));
        fresh = λ seat unmade. refl;
        home = inl (value, None, refl, stood);
      }
