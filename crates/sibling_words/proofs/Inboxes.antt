-- What is read of inboxes that were changed.
use Rattle.std.proofs.Common.{◌≡◌, ◌≢◌, ◌<◌, ◌≤◌, ◌==◌, ◌&&◌, ℕ, zero, suc, List, [], ◌∷◌, ◌++◌, length, ap, if◌then◌else◌, set, get_or, true, refl, arith}
use Rattle.std.proofs.lemmas.Option.{slice_get_read, slice_get_past}
use Rattle.std.proofs.lemmas.Bool.Decides.{nat_tests}
use Rattle.sibling_words.specs.declared.words.Inbox.{Inbox}
use Rattle.sibling_words.specs.Words.{words_at, words_from, words_there}

-- an inbox that is read
pub words_at-read : (xs : List Inbox) (i : ℕ) (e : Inbox) (f : ℕ) → i < length xs → e ≡ get_or xs i e → words_at xs i f ≡ words_from f e
words_at-read xs i e f inside read = ap (words_there f) (slice_get_read xs (length xs) i e refl inside read)

-- a child that has no inbox
pub words_at-past : (xs : List Inbox) (i f : ℕ) → length xs ≤ i → words_at xs i f ≡ []
words_at-past xs i f past = ap (words_there f) (slice_get_past xs i past)

set_here : (xs : List Inbox) (i : ℕ) (e : Inbox) (f : ℕ) → i < length xs → words_at (set xs i e) i f ≡ words_from f e
set_here [] i e f inside = absurd (omega arith)
set_here (x ∷ xs) zero e f inside = refl
set_here (x ∷ xs) (suc i) e f inside = set_here xs i e f (omega arith)

set_apart : (xs : List Inbox) (i t : ℕ) (e : Inbox) (f : ℕ) → t ≢ i → words_at (set xs i e) t f ≡ words_at xs t f
set_apart [] i t e f apart = refl
set_apart (x ∷ xs) zero zero e f apart = absurd (apart refl)
set_apart (x ∷ xs) zero (suc t) e f apart = refl
set_apart (x ∷ xs) (suc i) zero e f apart = refl
set_apart (x ∷ xs) (suc i) (suc t) e f apart = set_apart xs i t e f (λ is. apart (ap suc is))

-- an inbox in the place of another
pub words_at-set : (xs : List Inbox) (i : ℕ) (e : Inbox) (t f : ℕ) → i < length xs
    → words_at (set xs i e) t f ≡ (if t == i then words_from f e else words_at xs t f)
words_at-set xs i e t f inside =
    let here = set_here xs i e f inside in
    let apart : t ≢ i → words_at (set xs i e) t f ≡ words_at xs t f = set_apart xs i t e f in
    grind (arith, nat_tests)

-- an inbox with the same words is put in the place of one
pub words_at-kept : (xs : List Inbox) (i : ℕ) (old new : Inbox) → i < length xs → old ≡ get_or xs i old
    → ((f : ℕ) → words_from f new ≡ words_from f old) → (t f : ℕ) → words_at (set xs i new) t f ≡ words_at xs t f
words_at-kept xs i old new inside read same t f =
    let is = words_at-set xs i new t f inside in
    let was = words_at-read xs i old f inside read in
    let here = same f in
    grind (arith, nat_tests)

-- an inbox with one word more is put in the place of one
pub words_at-put : (xs : List Inbox) (to from word : ℕ) (old new : Inbox) → to < length xs → old ≡ get_or xs to old
    → ((f : ℕ) → words_from f new ≡ (if f == from then words_from from old ++ word ∷ [] else words_from f old))
    → (t f : ℕ) → words_at (set xs to new) t f ≡ (if (t == to) && (f == from) then words_at xs to from ++ word ∷ [] else words_at xs t f)
words_at-put xs to from word old new inside read put t f =
    let is = words_at-set xs to new t f inside in
    let was = words_at-read xs to old f inside read in
    let there = words_at-read xs to old from inside read in
    let here = put f in
    grind (arith, nat_tests)

-- an inbox with other words of one sibling is put in the place of one
pub words_at-others : (xs : List Inbox) (to from : ℕ) (old new : Inbox) → to < length xs → old ≡ get_or xs to old
    → ((f : ℕ) → f ≢ from → words_from f new ≡ words_from f old)
    → (t f : ℕ) → ((t == to) && (f == from)) ≢ true → words_at (set xs to new) t f ≡ words_at xs t f
words_at-others xs to from old new inside read others t f apart =
    let is = words_at-set xs to new t f inside in
    let was = words_at-read xs to old f inside read in
    let here : f ≢ from → words_from f new ≡ words_from f old = others f in
    grind (arith, nat_tests)
