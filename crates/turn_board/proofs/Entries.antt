-- Histories that begin with one another, and the entries of one seat in them.
use Rattle.std.proofs.Common.{◌≡◌, ◌≢◌, ℕ, ◌≤◌, List, [], ◌∷◌, ◌++◌, length, Bool, true, false, cond, refl, sym, ap, ◌∙◌, arith, append_assoc, length-append}
use Rattle.std.specs.Prelude.{nat_lt, if◌then◌else◌}
use Rattle.std.proofs.lemmas.List.{append-nil, nil_from_length}
use Rattle.std.proofs.lemmas.List.Elements.{filter-append}
use Rattle.std.proofs.lemmas.Bool.Decides.{Decides-ltb}
use Rattle.turn_board.specs.Seats.{is_seat}
use Rattle.turn_board.specs.History.{History, entries_by, StartsWith, longer}
use Rattle.turn_board.proofs.Names.{same_is, unlike_is}

module _ {N : Type 0} where
  pub begins_self : (log : History N) → StartsWith log log
  begins_self log = ([], sym (append-nil log))

  pub begins_longer : (log more seen : History N) → StartsWith log seen → StartsWith (log ++ more) seen
  begins_longer log more seen s = (s.0 ++ more, ap (λ l. l ++ more) s.1 ∙ append_assoc seen s.0 more)

  -- of two beginnings of one history the shorter begins the longer
  begins_other : (a b r s : History N) → a ++ r ≡ b ++ s → length a ≤ length b → StartsWith b a
  begins_other [] b r s e short = (b, refl)
  begins_other (x ∷ a) [] r s e short = absurd (omega arith)
  begins_other (x ∷ a) (y ∷ b) r s e short =
      let head : x ≡ y = cc in
      let t = begins_other a b r s (cc) (omega arith) in
      (t.0, λ i. sym head i ∷ t.1 i)

  pub record Longer (log a b both : History N) : Type 0 where
    pub all : StartsWith log both
    pub first : StartsWith both a
    pub second : StartsWith both b

  pub longer_is : (log a b : History N) → StartsWith log a → StartsWith log b → Longer log a b (longer a b)
  longer_is log a b s t = at (nat_lt (length a) (length b)) refl
    where
      at : (less : Bool) → nat_lt (length a) (length b) ≡ less → Longer log a b (if less then b else a)
      at true e = let lt = (Decides-ltb (length a) (length b)).0 e in record { all = t; first = begins_other a b s.0 t.0 (sym s.1 ∙ t.1) (omega arith); second = begins_self b }
      at false e = record { all = s; first = begins_self a; second = begins_other b a t.0 s.0 (sym t.1 ∙ s.1) (grind (arith, Decides-ltb (length a) (length b))) }

  pub entries_by-push_same : (seat : List ℕ) (log : History N) (note : N) → entries_by seat (log ++ (seat, note) ∷ []) ≡ entries_by seat log ++ (seat, note) ∷ []
  entries_by-push_same seat log note = filter-append (λ e. is_seat e.0 seat) log ((seat, note) ∷ []) ∙ ap (λ b. entries_by seat log ++ cond b ((seat, note) ∷ []) []) (same_is seat)

  pub entries_by-push_other : (seat by : List ℕ) (log : History N) (note : N) → by ≢ seat → entries_by seat (log ++ (by, note) ∷ []) ≡ entries_by seat log
  entries_by-push_other seat by log note other =
      filter-append (λ e. is_seat e.0 seat) log ((by, note) ∷ []) ∙ ap (λ b. entries_by seat log ++ cond b ((by, note) ∷ []) []) (unlike_is by seat other) ∙ append-nil (entries_by seat log)

  by_more : (seat : List ℕ) (log seen : History N) (s : StartsWith log seen) → entries_by seat log ≡ entries_by seat seen ++ entries_by seat s.0
  by_more seat log seen s = ap (entries_by seat) s.1 ∙ filter-append (λ e. is_seat e.0 seat) seen s.0

  -- a beginning of a history in which the seat has no entry has none
  pub none_before : (seat : List ℕ) (log seen : History N) → StartsWith log seen → entries_by seat log ≡ [] → entries_by seat seen ≡ []
  none_before seat log seen s none =
      let all = ap length (sym (by_more seat log seen s) ∙ none) in
      nil_from_length (entries_by seat seen) (omega (arith, length-append (entries_by seat seen) (entries_by seat s.0)))

  -- what has the same entries of a seat at its beginning and in all has them in between
  pub same_between : (seat : List ℕ) (log told seen mine : History N) → StartsWith log told → StartsWith told seen → entries_by seat log ≡ mine
      → entries_by seat seen ≡ mine → entries_by seat told ≡ mine
  same_between seat log told seen mine s t whole part =
      let up = by_more seat log told s in
      let down = by_more seat told seen t in
      let long = ap length up in
      let short = ap length down in
      let m = ap length whole in
      let n = ap length part in
      let nothing : entries_by seat t.0 ≡ [] = nil_from_length (entries_by seat t.0)
      (omega (arith, length-append (entries_by seat seen) (entries_by seat t.0), length-append (entries_by seat told) (entries_by seat s.0))) in
      down ∙ ap (λ l. entries_by seat seen ++ l) nothing ∙ append-nil (entries_by seat seen) ∙ part
