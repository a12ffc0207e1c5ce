-- Turns in another order are the same turns.
use Rattle.std.proofs.Common.{◌≡◌, ◌⊎◌, ℕ, inl, inr, List, [], ◌∷◌, ◌++◌, Result, Ok, Err, sym, subst}
use Rattle.std.specs.Result.{OnErr, OnOk}
use Rattle.std.proofs.lemmas.List.{append-nil}
use Rattle.forest_tree.specs.Tree.{Path}
use Rattle.ready_queue.specs.Ready.{IsOneMore, Raises, Ready, StoodAmong}
use Rattle.world_core.specs.Listed.{IsListed, IsCovered, Keeps}
use Rattle.world_core.proofs.Ready.{IsListed-more, IsCovered-more}

listed-front : (n : Path) (w : Ready) (xs ys : List Ready) → IsListed n (xs ++ (w ∷ ys)) → IsListed n (w ∷ (xs ++ ys))
unfolding IsListed
listed-front n w [] ys h = h
listed-front n w (x ∷ xs) ys (inl e) = inr (inl e)
listed-front n w (x ∷ xs) ys (inr h) = by (listed-front n w xs ys h)
  where
    by : IsListed n (w ∷ (xs ++ ys)) → IsListed n (w ∷ (x ∷ (xs ++ ys)))
    by (inl e) = inl e
    by (inr rest) = inr (inr rest)

listed-back : (n : Path) (w : Ready) (xs ys : List Ready) → IsListed n (w ∷ (xs ++ ys)) → IsListed n (xs ++ (w ∷ ys))
unfolding IsListed
listed-back n w [] ys h = h
listed-back n w (x ∷ xs) ys (inl e) = inr (listed-back n w xs ys (inl e))
listed-back n w (x ∷ xs) ys (inr (inl e)) = inl e
listed-back n w (x ∷ xs) ys (inr (inr h)) = inr (listed-back n w xs ys (inr h))

covered-front : (n : Path) (w : Ready) (xs ys : List Ready) → IsCovered n (xs ++ (w ∷ ys)) → IsCovered n (w ∷ (xs ++ ys))
unfolding IsCovered
covered-front n w [] ys h = h
covered-front n w (x ∷ xs) ys (inl e) = inr (inl e)
covered-front n w (x ∷ xs) ys (inr h) = by (covered-front n w xs ys h)
  where
    by : IsCovered n (w ∷ (xs ++ ys)) → IsCovered n (w ∷ (x ∷ (xs ++ ys)))
    by (inl e) = inl e
    by (inr rest) = inr (inr rest)

covered-back : (n : Path) (w : Ready) (xs ys : List Ready) → IsCovered n (w ∷ (xs ++ ys)) → IsCovered n (xs ++ (w ∷ ys))
unfolding IsCovered
covered-back n w [] ys h = h
covered-back n w (x ∷ xs) ys (inl e) = inr (covered-back n w xs ys (inl e))
covered-back n w (x ∷ xs) ys (inr (inl e)) = inl e
covered-back n w (x ∷ xs) ys (inr (inr h)) = inr (covered-back n w xs ys (inr h))

keeps-all : (xs : List Ready) → Keeps xs xs
keeps-all xs = record { listed = λ n h. h; covered = λ n h. h }

keeps-same : (xs ys : List Ready) → xs ≡ ys → Keeps xs ys
keeps-same xs ys e = subst (Keeps xs) e (keeps-all xs)

-- a turn comes to the front
keeps-front : (w : Ready) (xs ys : List Ready) → Keeps (xs ++ (w ∷ ys)) (w ∷ (xs ++ ys))
keeps-front w xs ys = record { listed = λ n. listed-front n w xs ys; covered = λ n. covered-front n w xs ys }

-- the first turn goes behind others
keeps-back : (w : Ready) (xs ys : List Ready) → Keeps (w ∷ (xs ++ ys)) (xs ++ (w ∷ ys))
keeps-back w xs ys = record { listed = λ n. listed-back n w xs ys; covered = λ n. covered-back n w xs ys }

-- one more turn behind the others
pub keeps-last : (turn : Ready) (old new : List Ready) → new ≡ old ++ turn ∷ [] → Keeps (turn ∷ old) new
keeps-last turn old new e =
    subst (Keeps (turn ∷ old)) (sym e) (subst (λ list. Keeps (turn ∷ list) (old ++ turn ∷ [])) (append-nil old) (keeps-back turn old []))

-- one more turn before the others
keeps-more : (turn : Ready) (turns : List Ready) → Keeps turns (turn ∷ turns)
keeps-more turn turns = record { listed = λ n. IsListed-more n turn turns; covered = λ n. IsCovered-more n turn turns }

-- a turn that is the first then
keeps-raised : (name : Path) (ticket : ℕ) (old new : List Ready) → Raises name ticket old new → Keeps old new
keeps-raised name ticket old new raises = subst (Keeps old) (sym raises.first) (by raises.from)
  where
    by : StoodAmong raises.turn old raises.others ⊎ IsOneMore name ticket raises.turn old raises.others → Keeps old (raises.turn ∷ raises.others)
    by (inl stood) =
        subst (λ list. Keeps list (raises.turn ∷ raises.others)) (sym stood.was)
        (subst (λ list. Keeps (stood.before ++ raises.turn ∷ stood.after) (raises.turn ∷ list)) (sym stood.left) (keeps-front raises.turn stood.before stood.after))
    by (inr more) = subst (λ list. Keeps old (raises.turn ∷ list)) (sym more.1) (keeps-more raises.turn old)

pub keeps-tried : {T E : Type 0} (name : Path) (ticket : ℕ) (old new : List Ready) (r : Result T E) → OnOk r (Raises name ticket old new) → OnErr r (new ≡ old) → Keeps old new
keeps-tried name ticket old new (Ok x) raised same = keeps-raised name ticket old new raised
keeps-tried name ticket old new (Err e) raised same = keeps-same old new (sym same)
