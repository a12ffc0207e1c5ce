-- The seeds that wires are given.
use Rattle.std.proofs.Common.{◌≡◌, ◌⊎◌, inl, inr, ℕ, zero, suc, ◌+◌, ◌<◌, ◌≤◌, true, List, [], ◌∷◌, ◌++◌, drop, length, length-append, map, min, slice_index_or}
use Rattle.std.proofs.Common.{slice_set, take, Option, None, Some, Result, Ok, Err, IfErr, refl, sym, ap, ap₂, ◌∙◌, subst, arith, add-one}
use Rattle.std.proofs.Math.Seq.{take-append_seam}
use Rattle.std.proofs.lemmas.List.{append-nil, length-map, map-append}
use Rattle.command_line.specs.Words.{Command, RunValues}
use Rattle.guest_files.specs.declared.stop.Stop.{Stop}
use Rattle.guest_files.specs.declared.stop.Stop.TheVariants.{ReadFault, ImageRefused, DataRefused, ScriptRefused, WriteFault, Wire, Memory}
use Rattle.io_edge.specs.Asked.{Asked}
use Rattle.guest_files.specs.Parts.{AreAsked, HasMade, Stops, loads_of}
use Rattle.guest_files.proofs.PartLemmas.{all-loads}
use Rattle.guest_files.specs.Reads.{Refusal}
use Rattle.wire_fates.specs.Fates.{seeded_with}
use Rattle.command_texts.specs.Seeded.{IfBefore, IfRun, all_seeded, is_before, is_run, seeded_for}
use Rattle.command_texts.specs.Status.{AreLoaded, ArePartlyLoaded, has_read, last_read}
use Rattle.command_texts.proofs.Codes.{status_of}

-- ---- one wire after another

abbrev given_to : ℕ → ℕ → List (Option (List ℕ)) → List (Option (List ℕ))
given_to seed i given = all_seeded seed (take i given) ++ drop i given

head-same : {X : Type 0} (x y : X) (xs ys : List X) → x ∷ xs ≡ y ∷ ys → x ≡ y
head-same x y xs ys e = cc

tail-same : {X : Type 0} (x y : X) (xs ys : List X) → x ∷ xs ≡ y ∷ ys → xs ≡ ys
tail-same x y xs ys e = cc

module _ {W : Type 0} (seeds : W → Option (List ℕ)) (seed : ℕ) where
  one-given : (i : ℕ) (given : List (Option (List ℕ))) (ws : List W) (d w : W) → map seeds ws ≡ given_to seed i given
      → seeds w ≡ seeded_with (seeds (slice_index_or ws i d)) seed → i < length ws → map seeds (slice_set ws i w) ≡ given_to seed (suc i) given
  one-given i given [] d w is given_is below = absurd (omega (arith, below))
  one-given zero [] (v ∷ ws) d w is given_is below = absurd (cc)
  one-given zero (g ∷ given) (v ∷ ws) d w is given_is below =
      ap₂ (λ (s : Option (List ℕ)) l. s ∷ l) (given_is ∙ ap (λ s. seeded_with s seed) (head-same (seeds v) g (map seeds ws) given is))
      (tail-same (seeds v) g (map seeds ws) given is)
  one-given (suc i) [] (v ∷ ws) d w is given_is below = absurd (cc)
  one-given (suc i) (g ∷ given) (v ∷ ws) d w is given_is below =
      ap₂ (λ (s : Option (List ℕ)) l. s ∷ l) (head-same (seeds v) (seeded_with g seed) (map seeds ws) (given_to seed i given) is)
      (one-given i given ws d w (tail-same (seeds v) (seeded_with g seed) (map seeds ws) (given_to seed i given) is) given_is (omega (arith, below)))

  -- the next wire is given its seed
  pub next-given : (i : ℕ) (given : List (Option (List ℕ))) (ws : List W) (d w : W) → map seeds ws ≡ given_to seed i given
      → seeds w ≡ seeded_with (seeds (slice_index_or ws i d)) seed → i < length ws → map seeds (slice_set ws i w) ≡ given_to seed (i + 1) given
  next-given i given ws d w is given_is below =
      one-given i given ws d w is given_is below ∙ ap (λ n. given_to seed n given) (sym (add-one i))

  to-all : (i : ℕ) (given : List (Option (List ℕ))) → length given ≤ i → given_to seed i given ≡ all_seeded seed given
  to-all zero [] few = refl
  to-all zero (g ∷ given) few = absurd (omega (arith, few))
  to-all (suc i) [] few = refl
  to-all (suc i) (g ∷ given) few = ap (λ l. seeded_with g seed ∷ l) (to-all i given (omega (arith, few)))

  length-given : (i : ℕ) (given : List (Option (List ℕ))) → length (given_to seed i given) ≡ length given
  length-given zero given = refl
  length-given (suc i) [] = refl
  length-given (suc i) (g ∷ given) = let rest : length (given_to seed i given) ≡ length given = length-given i given in omega (arith, rest)

  -- all of them were
  pub all-given : (i : ℕ) (old new : List W) → map seeds new ≡ given_to seed i (map seeds old) → length new ≤ i → map seeds new ≡ all_seeded seed (map seeds old)
  all-given i old new is few = is ∙ to-all i (map seeds old) (omega (arith, few, length-map new seeds, ap length is, length-given i (map seeds old)))

-- ---- those of the workers alone

first-part : {X : Type 0} (front rest : List X) (n : ℕ) → length front ≡ min (length (front ++ rest)) n → (take n (front ++ rest) ≡ front) × (drop n (front ++ rest) ≡ rest)
first-part [] rest zero e = (refl, refl)
first-part [] [] (suc n) e = (refl, refl)
first-part [] (x ∷ rest) (suc n) e = absurd (omega (arith, e))
first-part (x ∷ front) rest zero e = absurd (omega (arith, e))
first-part (x ∷ front) rest (suc n) e =
    let more = first-part front rest n (omega (arith, e)) in
    (ap (λ l. x ∷ l) more.0, more.1)

-- the first of the wires are given it, and the others stay
part-given : {W : Type 0} (seeds : W → Option (List ℕ)) (how : RunValues) (old front rest new front' : List W) → old ≡ front ++ rest
    → length front ≡ min (length old) how.workers → new ≡ front' ++ rest → map seeds front' ≡ all_seeded how.seed (map seeds front)
    → map seeds new ≡ seeded_for how (map seeds old)
part-given seeds how old front rest new front' old_is count new_is given =
    let first = map seeds front in
    let later = map seeds rest in
    let both : map seeds old ≡ first ++ later = ap (map seeds) old_is ∙ map-append seeds front rest in
    let many : length first ≡ min (length (first ++ later)) how.workers
    = length-map front seeds ∙ count ∙ ap (λ n. min n how.workers) (sym (length-map old seeds) ∙ ap length both) in
    let parts = first-part first later how.workers many in
    ap (map seeds) new_is ∙ map-append seeds front' rest
    ∙ ap₂ (λ a b. a ++ b) (given ∙ ap (all_seeded how.seed) (sym parts.0)) (sym parts.1)
    ∙ ap (seeded_for how) (sym both)

-- the first of them are lent, and come back
pub lent-given : {W : Type 0} (seeds : W → Option (List ℕ)) (how : RunValues) (old front rest part : List W) (n : ℕ) → n ≡ length old → old ≡ front ++ rest
    → length front ≡ min (length old) how.workers → length part ≡ length front → map seeds part ≡ all_seeded how.seed (map seeds front)
    → map seeds (take n ((part ++ rest) ++ drop (length (part ++ rest)) old)) ≡ seeded_for how (map seeds old)
lent-given seeds how old front rest part n count split many few given =
    let tail = drop (length (part ++ rest)) old in
    let same : n ≡ length (part ++ rest) = omega (arith, count, ap length split, length-append front rest, length-append part rest, few) in
    part-given seeds how old front rest (take n ((part ++ rest) ++ tail)) part split many
    (ap (λ n. take n ((part ++ rest) ++ tail)) same ∙ take-append_seam (part ++ rest) tail) given

-- ---- ends

-- a part before the run that stopped
pub stops-unrun : (A : Type 0) {B : Type 0} (final : ℕ) (P : ℕ → Type 0) (told : Option (Result B Refusal)) (stop : Stop) (then : Type 0) → Stops final P told stop
    → IfRun {A = A} (Err stop) then
stops-unrun A final P told (ReadFault load) then h = tt
stops-unrun A final P told (ImageRefused number) then h = tt
stops-unrun A final P told (DataRefused number) then h = tt
stops-unrun A final P told (ScriptRefused line kind) then h = tt
stops-unrun A final P told WriteFault then h = absurd h
stops-unrun A final P told Wire then h = absurd h
stops-unrun A final P told Memory then h = tt

-- whatever it gives
pub stop-same : (A B : Type 0) (stop : Stop) (then : Type 0) → IfRun {A = A} (Err stop) then → IfRun {A = B} (Err stop) then
stop-same A B (ReadFault load) then h = tt
stop-same A B (ImageRefused number) then h = tt
stop-same A B (DataRefused number) then h = tt
stop-same A B (ScriptRefused line kind) then h = tt
stop-same A B WriteFault then h = h
stop-same A B Wire then h = h
stop-same A B Memory then h = tt

-- a family that was run, whatever came of it
pub always-run : {A : Type 0} (result : Result A Stop) (then : Type 0) → then → IfRun result then
always-run (Ok value) then h = h
always-run (Err (ReadFault load)) then h = tt
always-run (Err (ImageRefused number)) then h = tt
always-run (Err (DataRefused number)) then h = tt
always-run (Err (ScriptRefused line kind)) then h = tt
always-run (Err WriteFault) then h = h
always-run (Err Wire) then h = h
always-run (Err Memory) then h = tt

-- whatever stopped it before
pub before-all : (stop : Stop) (then : Type 0) → then → IfBefore stop then
before-all (ReadFault load) then h = h
before-all (ImageRefused number) then h = h
before-all (DataRefused number) then h = h
before-all (ScriptRefused line kind) then h = h
before-all WriteFault then h = tt
before-all Wire then h = tt
before-all Memory then h = tt

-- a family that was run did not stop before
pub run-after : {A : Type 0} (result : Result A Stop) (P then : Type 0) → IfErr result (λ stop. (stop ≡ Memory) ⊎ ((stop ≡ Wire) × P))
    → IfErr result (λ stop. IfBefore stop then)
run-after (Ok value) P then h = tt
run-after (Err stop) P then (inl is) = subst (λ s. IfBefore s then) (sym is) tt
run-after (Err stop) P then (inr is) = subst (λ s. IfBefore s then) (sym is.0) tt

-- ---- codes

run-ends : (P : Type 0) (end : Result Unit Stop) → IfRun end P → is_run (status_of end).code ≡ true → P
run-ends P (Ok done) h code = h
run-ends P (Err (ReadFault load)) h code = absurd (cc)
run-ends P (Err (ImageRefused number)) h code = absurd (cc)
run-ends P (Err (DataRefused number)) h code = absurd (cc)
run-ends P (Err (ScriptRefused line kind)) h code = absurd (cc)
run-ends P (Err WriteFault) h code = h
run-ends P (Err Wire) h code = h
run-ends P (Err Memory) h code = absurd (cc)

-- a command that was run, by its code
pub ends-run : {done end : Result Unit Stop} {meant : Option Command} (P : Option Command → Type 0) (command : Command) → done ≡ end → Some command ≡ meant
    → IfRun done (P (Some command)) → is_run (status_of end).code ≡ true → P meant
ends-run {end = end} P command is same h code =
    subst P same (run-ends (P (Some command)) end (subst (λ (r : Result Unit Stop). IfRun r (P (Some command))) is h) code)

before-ends : (P : Type 0) (end : Result Unit Stop) → IfErr end (λ stop. IfBefore stop P) → is_before (status_of end).code ≡ true → P
before-ends P (Ok done) h code = absurd (cc)
before-ends P (Err (ReadFault load)) h code = h
before-ends P (Err (ImageRefused number)) h code = h
before-ends P (Err (DataRefused number)) h code = h
before-ends P (Err (ScriptRefused line kind)) h code = h
before-ends P (Err WriteFault) h code = absurd (cc)
before-ends P (Err Wire) h code = absurd (cc)
before-ends P (Err Memory) h code = absurd (cc)

pub ends-before : {done end : Result Unit Stop} {P : Type 0} → done ≡ end → IfErr done (λ stop. IfBefore stop P) → is_before (status_of end).code ≡ true → P
ends-before {end = end} {P} is h code = before-ends P end (subst (λ (r : Result Unit Stop). IfErr r (λ stop. IfBefore stop P)) is h) code

-- ---- the loads of a command, by its code

made-ends : (command : Command) (old new : Asked) (end : Result Unit Stop) → HasMade (loads_of command) end old new → has_read (status_of end).code ≡ true
    → AreLoaded (Some command) (last_read (status_of end)) old new
made-ends command old new (Ok done) h code = subst (λ loads. AreAsked loads old new) (sym (all-loads command)) h
made-ends command old new (Err (ReadFault load)) h code = absurd (cc)
made-ends command old new (Err (ImageRefused number)) h code = h.just (λ is. absurd (cc))
made-ends command old new (Err (DataRefused number)) h code = h.just (λ is. absurd (cc))
made-ends command old new (Err (ScriptRefused line kind)) h code = h.just (λ is. absurd (cc))
made-ends command old new (Err WriteFault) h code = h.just (λ is. absurd (cc))
made-ends command old new (Err Wire) h code = h.just (λ is. absurd (cc))
made-ends command old new (Err Memory) h code = absurd (cc)

pub ends-read : {done end : Result Unit Stop} {meant : Option Command} (old new : Asked) (command : Command) → done ≡ end → Some command ≡ meant
    → HasMade (loads_of command) done old new → has_read (status_of end).code ≡ true → AreLoaded meant (last_read (status_of end)) old new
ends-read {end = end} old new command is same h code =
    subst (λ m. AreLoaded m (last_read (status_of end)) old new) same
    (made-ends command old new end (subst (λ (r : Result Unit Stop). HasMade (loads_of command) r old new) is h) code)

made-first : (command : Command) (old new : Asked) (end : Result Unit Stop) → HasMade (loads_of command) end old new → ArePartlyLoaded (Some command) old new
made-first command old new (Ok done) h = record { made = loads_of command; rest = []; place = sym (append-nil (loads_of command)); asked = h }
made-first command old new (Err stop) h = h.some

pub ends-first : {meant : Option Command} (old new : Asked) (command : Command) (done : Result Unit Stop) → Some command ≡ meant
    → HasMade (loads_of command) done old new → ArePartlyLoaded meant old new
ends-first old new command done same h = subst (λ m. ArePartlyLoaded m old new) same (made-first command old new done h)

-- where none was made
pub none-first : (meant : Option Command) (asked : Asked) → ArePartlyLoaded meant asked asked
none-first None asked = (refl, refl)
none-first (Some command) asked = record { made = []; rest = loads_of command; place = refl; asked = (refl, refl) }
