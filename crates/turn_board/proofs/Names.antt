-- Numbers of seats: which are made, and how many may yet be.
use Rattle.std.proofs.Common.{◌≡◌, ◌≢◌, ◌⊎◌, ℕ, zero, suc, ◌+◌, ◌<◌, ◌≤◌, List, [], ◌∷◌, ◌++◌, length, Bool, true, false, true≢false, refl, sym, ap, ◌∙◌, subst, inl, inr, arith, append_assoc}
use Rattle.std.specs.Prelude.{◌||◌}
use Rattle.std.proofs.lemmas.Bool.{false_from_ne_true}
use Rattle.std.proofs.lemmas.List.{length_push, same_from_push}
use Rattle.std.proofs.lemmas.Slice.Eq.{bytes_eq-Decides}
use Rattle.turn_board.specs.Seats.{is_seat, has_seat, room}

pub same_is : (s : List ℕ) → is_seat s s ≡ true
same_is s = (bytes_eq-Decides s s).1 refl

pub unlike_is : (s t : List ℕ) → s ≢ t → is_seat s t ≡ false
unlike_is s t other = false_from_ne_true (is_seat s t) (λ e. other ((bytes_eq-Decides s t).0 e))

pub has_new : (made : List (List ℕ)) (s : List ℕ) → has_seat (s ∷ made) s ≡ true
has_new made s = ap (λ b. b || has_seat made s) (same_is s)

pub has_old : (made : List (List ℕ)) (s t : List ℕ) → has_seat made t ≡ true → has_seat (s ∷ made) t ≡ true
has_old made s t had = ap (λ b. is_seat s t || b) had ∙ or_true (is_seat s t)
  where
    or_true : (b : Bool) → (b || true) ≡ true
    or_true true = refl
    or_true false = refl

pub has_not : (made : List (List ℕ)) (s t : List ℕ) → s ≢ t → has_seat made t ≡ false → has_seat (s ∷ made) t ≡ false
has_not made s t other none = ap (λ b. b || has_seat made t) (unlike_is s t other) ∙ none

pub had : (made : List (List ℕ)) (s t : List ℕ) → has_seat (s ∷ made) t ≡ true → (s ≡ t) ⊎ (has_seat made t ≡ true)
had made s t has = either (is_seat s t) refl has
  where
    either : (b : Bool) → is_seat s t ≡ b → (b || has_seat made t) ≡ true → (s ≡ t) ⊎ (has_seat made t ≡ true)
    either true same h = inl ((bytes_eq-Decides s t).0 same)
    either false same h = inr h

-- among several lists
pub had_append : (made more : List (List ℕ)) (t : List ℕ) → has_seat (made ++ more) t ≡ true → (has_seat made t ≡ true) ⊎ (has_seat more t ≡ true)
had_append [] more t has = inr has
had_append (s ∷ made) more t has = by (had (made ++ more) s t has) (had_append made more t)
  where
    later : (has_seat made t ≡ true) ⊎ (has_seat more t ≡ true) → (has_seat (s ∷ made) t ≡ true) ⊎ (has_seat more t ≡ true)
    later (inl first) = inl (has_old made s t first)
    later (inr second) = inr second

    by : (s ≡ t) ⊎ (has_seat (made ++ more) t ≡ true)
        → (has_seat (made ++ more) t ≡ true → (has_seat made t ≡ true) ⊎ (has_seat more t ≡ true))
        → (has_seat (s ∷ made) t ≡ true) ⊎ (has_seat more t ≡ true)
    by (inl same) down = inl (subst (λ u. has_seat (s ∷ made) u ≡ true) same (has_new made s))
    by (inr old) down = later (down old)

pub has_front : (made more : List (List ℕ)) (t : List ℕ) → has_seat made t ≡ true → has_seat (made ++ more) t ≡ true
has_front [] more t has = absurd (true≢false (sym has))
has_front (s ∷ made) more t has = by (had made s t has) (has_front made more t)
  where
    by : (s ≡ t) ⊎ (has_seat made t ≡ true) → (has_seat made t ≡ true → has_seat (made ++ more) t ≡ true) → has_seat (s ∷ made ++ more) t ≡ true
    by (inl same) down = subst (λ u. has_seat (s ∷ made ++ more) u ≡ true) same (has_new (made ++ more) s)
    by (inr old) down = has_old (made ++ more) s t (down old)

pub has_back : (made more : List (List ℕ)) (t : List ℕ) → has_seat more t ≡ true → has_seat (made ++ more) t ≡ true
has_back [] more t has = has
has_back (s ∷ made) more t has = has_old (made ++ more) s t (has_back made more t has)

pub had_not : (made : List (List ℕ)) (s t : List ℕ) → has_seat (s ∷ made) t ≡ false → (s ≢ t) × (has_seat made t ≡ false)
had_not made s t none = (
  (λ same. differ (sym (subst (λ u. has_seat (s ∷ made) u ≡ true) same (has_new made s)) ∙ none)),
  false_from_ne_true (has_seat made t) (λ has. differ (sym (has_old made s t has) ∙ none)),
)
  where
    differ : true ≡ false → ⊥
    differ e = cc

pub above_self : (s : List ℕ) (k : ℕ) → s ++ k ∷ [] ≢ s
above_self s k e = let longer = ap length e in absurd (omega (arith, length_push s k))

-- nor is a seat made that would be split off from one that is not
pub unmade_below : (made : List (List ℕ)) → ((seat : List ℕ) (k : ℕ) → has_seat made (seat ++ k ∷ []) ≡ true → has_seat made seat ≡ true)
    → (below seat : List ℕ) (k : ℕ) → has_seat made (seat ++ k ∷ []) ≡ false → has_seat made (seat ++ k ∷ below) ≡ false
unmade_below made rooted [] seat k none = none
unmade_below made rooted (j ∷ below) seat k none =
    ap (has_seat made) (sym (append_assoc seat (k ∷ []) (j ∷ below)))
    ∙ unmade_below made rooted below (seat ++ k ∷ []) j
    (false_from_ne_true (has_seat made ((seat ++ k ∷ []) ++ j ∷ [])) (λ has. true≢false (sym (rooted (seat ++ k ∷ []) j has) ∙ none)))

pub same_child : (s t : List ℕ) (j k : ℕ) → s ++ j ∷ [] ≡ t ++ k ∷ [] → (s ≡ t) × (j ≡ k)
same_child s t j k e = same_from_push s t j k e

-- a split hands on just the room of the new seat
pub room_split : (p splits : ℕ) → p < 3 → splits < 65535 → room p splits ≡ room p (splits + 1) + room (suc p) 0
room_split zero k low few = omega arith
room_split (suc zero) k low few = omega arith
room_split (suc (suc zero)) k low few = omega arith
room_split (suc (suc (suc p))) k low few = absurd (omega arith)

-- a seat has room for itself
pub room_pos : (p splits : ℕ) → p ≤ 3 → splits ≤ 65535 → 1 ≤ room p splits
room_pos zero k low few = omega arith
room_pos (suc zero) k low few = omega arith
room_pos (suc (suc zero)) k low few = omega arith
room_pos (suc (suc (suc zero))) k low few = omega arith
room_pos (suc (suc (suc (suc p)))) k low few = absurd (omega arith)
