-- Queues of words, and changes of one.
use Rattle.std.proofs.Common.{◌≡◌, ◌≢◌, ℕ, zero, suc, ◌≤◌, false, refl, ap, arith, le_refl, List, [], ◌∷◌, length}
use Rattle.sibling_forest.specs.Talk.{Inbox, queue, at_queue, emptied, first_taken}
use Rattle.sibling_forest.specs.Settle.{with_word, is_empty}

pub at_queue-swap : (f g : List ℕ → List ℕ) (i j : ℕ) (inbox : Inbox)
    → (i ≡ j → f (g (queue i inbox)) ≡ g (f (queue i inbox)))
    → at_queue f i (at_queue g j inbox) ≡ at_queue g j (at_queue f i inbox)
unfolding at_queue queue
at_queue-swap f g i j [] h = refl
at_queue-swap f g zero zero (q ∷ rest) h = refl
at_queue-swap f g zero (suc zero) (q ∷ rest) h = refl
at_queue-swap f g zero (suc (suc j)) (q ∷ rest) h = refl
at_queue-swap f g (suc zero) zero (q ∷ rest) h = refl
at_queue-swap f g (suc zero) (suc zero) (q ∷ rest) h = ap (λ p. p ∷ rest) (h refl)
at_queue-swap f g (suc zero) (suc (suc j)) (q ∷ rest) h = refl
at_queue-swap f g (suc (suc i)) zero (q ∷ rest) h = refl
at_queue-swap f g (suc (suc i)) (suc zero) (q ∷ rest) h = refl
at_queue-swap f g (suc (suc i)) (suc (suc j)) (q ∷ rest) h = ap (λ (r : Inbox). q ∷ r) (at_queue-swap f g (suc i) (suc j) rest (λ e. h (ap suc e)))

pub queue-other : (f : List ℕ → List ℕ) (i j : ℕ) (inbox : Inbox) → i ≢ j → queue j (at_queue f i inbox) ≡ queue j inbox
unfolding at_queue queue
queue-other f i j [] other = refl
queue-other f zero j (q ∷ rest) other = refl
queue-other f (suc zero) zero (q ∷ rest) other = refl
queue-other f (suc zero) (suc zero) (q ∷ rest) other = absurd (other refl)
queue-other f (suc zero) (suc (suc j)) (q ∷ rest) other = refl
queue-other f (suc (suc i)) zero (q ∷ rest) other = refl
queue-other f (suc (suc i)) (suc zero) (q ∷ rest) other = refl
queue-other f (suc (suc i)) (suc (suc j)) (q ∷ rest) other = queue-other f (suc i) (suc j) rest (λ e. other (ap suc e))

-- a queue with a word in it is there
pub queue-same : (f : List ℕ → List ℕ) (i : ℕ) (inbox : Inbox) → is_empty (queue i inbox) ≡ false → queue i (at_queue f i inbox) ≡ f (queue i inbox)
unfolding at_queue queue
queue-same f i [] some = absurd (cc)
queue-same f zero (q ∷ rest) some = absurd (cc)
queue-same f (suc zero) (q ∷ rest) some = refl
queue-same f (suc (suc i)) (q ∷ rest) some = queue-same f (suc i) rest some

pub emptied-at : (f : List ℕ → List ℕ) (i : ℕ) (inbox : Inbox) → emptied (at_queue f i inbox) ≡ emptied inbox
unfolding at_queue emptied
emptied-at f i [] = refl
emptied-at f zero (q ∷ rest) = refl
emptied-at f (suc zero) (q ∷ rest) = refl
emptied-at f (suc (suc i)) (q ∷ rest) = ap (λ (r : Inbox). [] ∷ r) (emptied-at f (suc i) rest)

pub still-words : (word : ℕ) (q : List ℕ) → is_empty (with_word word q) ≡ false
still-words word [] = refl
still-words word (first ∷ rest) = refl

-- where a word is in the queue, one is there after another came
pub words-stay : (word i j : ℕ) (inbox : Inbox) → is_empty (queue j inbox) ≡ false → is_empty (queue j (at_queue (with_word word) i inbox)) ≡ false
unfolding at_queue queue
words-stay word i j [] some = some
words-stay word zero j (q ∷ rest) some = some
words-stay word (suc zero) zero (q ∷ rest) some = some
words-stay word (suc zero) (suc zero) (q ∷ rest) some = still-words word q
words-stay word (suc zero) (suc (suc j)) (q ∷ rest) some = some
words-stay word (suc (suc i)) zero (q ∷ rest) some = some
words-stay word (suc (suc i)) (suc zero) (q ∷ rest) some = some
words-stay word (suc (suc i)) (suc (suc j)) (q ∷ rest) some = words-stay word (suc i) (suc j) rest some

fewer-words : (q : List ℕ) → length (first_taken q) ≤ length q
fewer-words [] = le_refl 0
fewer-words (word ∷ rest) = omega arith

-- a word that is taken leaves no queue longer
pub taken-within : (i j : ℕ) (inbox : Inbox) → length (queue j (at_queue first_taken i inbox)) ≤ length (queue j inbox)
unfolding at_queue queue
taken-within i j [] = le_refl _
taken-within zero j (q ∷ rest) = le_refl _
taken-within (suc zero) zero (q ∷ rest) = le_refl _
taken-within (suc zero) (suc zero) (q ∷ rest) = fewer-words q
taken-within (suc zero) (suc (suc j)) (q ∷ rest) = le_refl _
taken-within (suc (suc i)) zero (q ∷ rest) = le_refl _
taken-within (suc (suc i)) (suc zero) (q ∷ rest) = le_refl _
taken-within (suc (suc i)) (suc (suc j)) (q ∷ rest) = taken-within (suc i) (suc j) rest

-- a word that comes and one that is taken
pub comes-and-goes : (word : ℕ) (q : List ℕ) → is_empty q ≡ false → with_word word (first_taken q) ≡ first_taken (with_word word q)
comes-and-goes word [] some = absurd (cc)
comes-and-goes word (first ∷ rest) some = refl
