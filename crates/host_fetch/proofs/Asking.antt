-- Pages that are asked for, and replies that wait.
use Rattle.std.proofs.Common.{◌≡◌, ◌⊎◌, inl, inr, Result, Ok, Err, OnOk, OnErr, IfOk, ℕ, zero, suc, ◌+◌, ◌-◌, ◌<◌, ◌≤◌, Bool, true, false, not, cond, List, [], ◌∷◌, ◌++◌, drop, length, map, take, get_or}
use Rattle.std.proofs.Common.{slice_get, slice_set, Option, Some, refl, sym, ap, ◌∙◌, subst, arith, append_assoc, add-one, length-append}
use Rattle.std.specs.List.{All, remove, take-map, drop-map}
use Rattle.std.specs.Prelude.{Contains}
use Rattle.std.proofs.lemmas.List.{append-nil, at_drop_more, map-append, set-get_or, take-append-drop}
use Rattle.std.proofs.lemmas.List.Elements.{All-push, Contains-append_left, Contains-append_right}
use Rattle.std.proofs.lemmas.Option.{get_or_from_slice_get}
use Rattle.cow_disk.specs.declared.arrived.Arrived.{Arrived}
use Rattle.cow_disk.specs.declared.arrived.Arrived.TheVariants.{Got, Had}
use Rattle.image_depot.specs.Key.{Shelves, Key, number_of}
use Rattle.image_depot.specs.Receiver.{Arrives, IsOfImage}
use Rattle.image_depot.specs.Reply.{Reply, Delivery, IsSentOf}
use Rattle.page_claims.specs.declared.first.Claimed.{Claimed}
use Rattle.page_claims.specs.declared.first.Claimed.TheVariants.{First, Repeat, Outside}
use Rattle.page_claims.specs.Calls.{Answers, IsSamePass}
use Rattle.page_claims.specs.Values.{ClaimsValue, PassValue}
use Rattle.host_fetch.specs.declared.error.FetchError.{FetchError}
use Rattle.host_fetch.specs.declared.error.FetchError.TheVariants.{Wire, Memory}
use Rattle.host_fetch.specs.Asked.{AreAsked, ArePartlyAsked, HasAsked, IsAsked, IsTold, IsUntold, Telling, absent_among, reply_with}

-- a page that was here is set here once more
set_again : (here : List Bool) (page : ℕ) → slice_get here page ≡ Some true → slice_set here page true ≡ here
set_again here page is_here =
    ap (slice_set here page) (sym (get_or_from_slice_get here page true false is_here)) ∙ set-get_or here page false

-- a reply of the image of the key has come: its page is here, whether it was before or not
pub given_here : (key : Option Key) (old new : List Bool) (reply : Reply) (arrived : Arrived)
    → key ≡ Some reply.key → Arrives key old reply new arrived → new ≡ slice_set old reply.page true
given_here key old new reply (Got page) of_image h = h.3 ∙ ap (λ p. slice_set old p true) h.0
given_here key old new reply (Had page) of_image h =
    h.1 ∙ sym (set_again old reply.page (subst (λ p. slice_get old p ≡ Some true) h.0 (h.2 (subst (λ k. IsOfImage k reply) (sym of_image) refl))))

pub map-remove : {X Y : Type 0} (f : X → Y) (xs : List X) (i : ℕ) → map f (remove xs i) ≡ remove (map f xs) i
map-remove f xs i = rw (map-append, take-map, drop-map)

-- an absent page is the next that is asked for
pub absent_next : (here : List Bool) (next count : ℕ) → get_or here next false ≡ false
    → absent_among here next (count + 1) ≡ next ∷ absent_among here (next + 1) count
absent_next here next count absent =
    rw (add-one count) (ap (λ b. cond (not b) (next ∷ absent_among here (next + 1) count) (absent_among here (next + 1) count)) absent)

-- one that is here is passed over
pub here_next : (here : List Bool) (next count : ℕ) → get_or here next false ≡ true
    → absent_among here next (count + 1) ≡ absent_among here (next + 1) count
here_next here next count is_here =
    rw (add-one count) (ap (λ b. cond (not b) (next ∷ absent_among here (next + 1) count) (absent_among here (next + 1) count)) is_here)

-- how many pages are left
count_left : (next pages : ℕ) → next < pages → pages - next ≡ pages - (next + 1) + 1
count_left next pages below = omega arith

-- so what was found and what is still to be found are together the same as before
pub found_here : (here : List Bool) (next pages room : ℕ) (found whole : List ℕ) → next < pages → get_or here next false ≡ true
    → found ++ take room (absent_among here next (pages - next)) ≡ whole
    → found ++ take room (absent_among here (next + 1) (pages - (next + 1))) ≡ whole
found_here here next pages room found whole below is_here is =
    ap (λ l. found ++ take room l) (sym (ap (absent_among here next) (count_left next pages below) ∙ here_next here next (pages - (next + 1)) is_here)) ∙ is

pub found_absent : (here : List Bool) (next pages most : ℕ) (found whole : List ℕ) → next < pages → get_or here next false ≡ false → length found < most
    → found ++ take (most - length found) (absent_among here next (pages - next)) ≡ whole
    → (found ++ next ∷ []) ++ take (most - length (found ++ next ∷ [])) (absent_among here (next + 1) (pages - (next + 1))) ≡ whole
found_absent here next pages most found whole below absent room is =
    let k : ℕ = most - length (found ++ next ∷ []) in
    let rest : List ℕ = absent_among here (next + 1) (pages - (next + 1)) in
    let e : absent_among here next (pages - next) ≡ next ∷ rest = ap (absent_among here next) (count_left next pages below) ∙ absent_next here next (pages - (next + 1)) absent in
    let r : most - length found ≡ suc k = omega (arith, length-append found (next ∷ [])) in
    append_assoc found (next ∷ []) (take k rest)
    ∙ ap (λ l. found ++ l) (sym (ap (λ n. take n (next ∷ rest)) r))
    ∙ ap (λ l. found ++ take (most - length found) l) (sym e) ∙ is

-- as many were found as may be
pub found_most : (found rest whole : List ℕ) (most : ℕ) → most ≤ length found → found ++ take (most - length found) rest ≡ whole → found ≡ whole
found_most found rest whole most full is =
    let none : most - length found ≡ 0 = omega (arith, full) in
    sym (append-nil found) ∙ ap (λ n. found ++ take n rest) (sym none) ∙ is

take_none : (n : ℕ) → take {A = ℕ} n [] ≡ []
take_none zero = refl
take_none (suc n) = refl

-- no page is left
pub found_all : (here : List Bool) (next pages room : ℕ) (found whole : List ℕ) → pages ≤ next
    → found ++ take room (absent_among here next (pages - next)) ≡ whole → found ≡ whole
found_all here next pages room found whole past is =
    let none : pages - next ≡ 0 = omega (arith, past) in
    let empty : take room (absent_among here next (pages - next)) ≡ [] = ap (λ n. take room (absent_among here next n)) none ∙ take_none room in
    sym (append-nil found) ∙ ap (λ l. found ++ l) (sym empty) ∙ is

-- ---- results

pub err-with : {E : Type 0} {P Q : Type 0} (r : Result (Unit {0}) E) → (P → Q) → OnErr r P → OnErr r Q
err-with (Ok v) f h = tt
err-with (Err e) f h = f h

pub err-any : {E : Type 0} {Q : Type 0} (r : Result (Unit {0}) E) → Q → OnErr r Q
err-any (Ok v) q = tt
err-any (Err e) q = q

pub ok-of : {A E : Type 0} (P : A → Type 0) (r : Result A E) (x : A) → r ≡ Ok x → IfOk r P → P x
ok-of P (Ok y) x is h = let same : y ≡ x = cc in subst P same h
ok-of P (Err e) x is h = absurd (cc)

pub ok-on : {A E : Type 0} {P : Type 0} (r : Result A E) (x : A) → r ≡ Ok x → OnOk r P → P
ok-on (Ok y) x is h = h
ok-on (Err e) x is h = absurd (cc)

pub err-of : {A E : Type 0} {P : Type 0} (r : Result A E) (e : E) → r ≡ Err e → OnErr r P → P
err-of (Ok y) e is h = absurd (cc)
err-of (Err f) e is h = h

-- ---- what was asked for

pub asked_one : (depot : Shelves) (claims : ClaimsValue) (key : Key) (page : ℕ) (old new : Telling) → IsAsked depot claims key page old new → AreAsked depot claims key (page ∷ []) old new
asked_one depot claims key page old new asked = (new, asked, refl)

pub asked_more : (depot : Shelves) (claims : ClaimsValue) (key : Key) (pages more : List ℕ) (old middle new : Telling)
    → AreAsked depot claims key pages old middle → AreAsked depot claims key more middle new → AreAsked depot claims key (pages ++ more) old new
asked_more depot claims key [] more old middle new a b = subst (λ t. AreAsked depot claims key more t new) a b
asked_more depot claims key (page ∷ pages) more old middle new a b = (a.0, a.1, asked_more depot claims key pages more a.0 middle new a.2 b)

told_kept : (depot : Shelves) (reply : Reply) (claimed : Claimed) (old new : List Delivery) → IsTold depot reply claimed old new → All (IsSentOf depot) old → All (IsSentOf depot) new
told_kept depot reply (First token) old new told kept = subst (All (IsSentOf depot)) (sym told.3) (All-push (IsSentOf depot) old told.0 kept told.1)
told_kept depot reply Repeat old new told kept = subst (All (IsSentOf depot)) (sym told) kept
told_kept depot reply Outside old new told kept = subst (All (IsSentOf depot)) (sym told) kept

pub asked_kept : (depot : Shelves) (claims : ClaimsValue) (key : Key) (pages : List ℕ) (old new : Telling) → AreAsked depot claims key pages old new
    → All (IsSentOf depot) old.sent → All (IsSentOf depot) new.sent
asked_kept depot claims key [] old new same kept = subst (λ (t : Telling). All (IsSentOf depot) t.sent) (sym same) kept
asked_kept depot claims key (page ∷ pages) old new asked kept =
    asked_kept depot claims key pages asked.0 new asked.2 (told_kept depot (reply_with key page) asked.1.claimed old.sent asked.0.sent asked.1.told kept)

partly_kept : (depot : Shelves) (claims : ClaimsValue) (key : Key) (due : List ℕ) (old new : Telling)
    → (new ≡ old) ⊎ ((page : ℕ) × Contains due page × IsUntold claims key page old new) → All (IsSentOf depot) old.sent → All (IsSentOf depot) new.sent
partly_kept depot claims key due old new (inl same) kept = subst (λ (t : Telling). All (IsSentOf depot) t.sent) (sym same) kept
partly_kept depot claims key due old new (inr untold) kept = subst (All (IsSentOf depot)) (sym untold.2.sent) kept

-- all that was told is kept, where what was told before is
pub fetched_kept : (depot : Shelves) (claims : ClaimsValue) (key : Key) (due : List ℕ) (r : Result (Unit {0}) FetchError) (pages : List ℕ) (old new : Telling)
    → HasAsked depot claims key due r pages old new
    → All (IsSentOf depot) old.sent → All (IsSentOf depot) new.sent
fetched_kept depot claims key due (Ok done) pages old new asked kept = asked_kept depot claims key pages old new asked kept
fetched_kept depot claims key due (Err Wire) pages old new asked kept = asked_kept depot claims key pages old new asked kept
fetched_kept depot claims key due (Err Memory) pages old new partly kept =
    partly_kept depot claims key due partly.middle new partly.last (asked_kept depot claims key pages old partly.middle partly.asked kept)

-- the next page that is due is due
pub due_next : (pages : List ℕ) (i : ℕ) → i < length pages → Contains (take 1 (drop i pages)) (get_or pages i 0)
due_next pages i below =
    subst (λ l. Contains l (get_or pages i 0)) (sym (at_drop_more (take 1) pages i 0 below)) (0, omega arith, refl)

due_all : (count : ℕ) (pages : List ℕ) (page : ℕ) → Contains (take 1 (drop count pages)) page → Contains pages page
due_all count pages page due =
    subst (λ l. Contains l page) (take-append-drop count pages) (Contains-append_right (take count pages) (drop count pages) page
    (subst (λ l. Contains l page) (take-append-drop 1 (drop count pages)) (Contains-append_left (take 1 (drop count pages)) (drop 1 (drop count pages)) page due)))

all_due : (claims : ClaimsValue) (key : Key) (pages : List ℕ) (count : ℕ) (old new : Telling)
    → (new ≡ old) ⊎ ((page : ℕ) × Contains (take 1 (drop count pages)) page × IsUntold claims key page old new)
    → (new ≡ old) ⊎ ((page : ℕ) × Contains pages page × IsUntold claims key page old new)
all_due claims key pages count old new (inl same) = inl same
all_due claims key pages count old new (inr untold) = inr (untold.0, due_all count pages untold.0 untold.1, untold.2)

pub partly_due : (depot : Shelves) (claims : ClaimsValue) (key : Key) (pages : List ℕ) (count : ℕ) (old new : Telling)
    → ArePartlyAsked depot claims key (take 1 (drop count pages)) (take count pages) old new → ArePartlyAsked depot claims key pages (take count pages) old new
partly_due depot claims key pages count old new partly =
    record { middle = partly.middle; asked = partly.asked; last = all_due claims key pages count partly.middle new partly.last }

-- ---- a pass stays of the same claims, with as many parts

pub same_pass : (pass : PassValue) → IsSamePass pass pass
same_pass pass = record { table = refl; parts = refl }

pub same_more : (a b c : PassValue) → IsSamePass a b → IsSamePass b c → IsSamePass a c
same_more a b c h k = record { table = k.table ∙ h.table; parts = k.parts ∙ h.parts }

same_claimed : (claims : ClaimsValue) (image page : ℕ) (old new : PassValue) (claimed : Claimed) → Answers claims image page old new claimed → IsSamePass old new
same_claimed claims image page old new (First token) h = record { table = ap (λ (p : PassValue). p.table) h.2; parts = ap (λ (p : PassValue). p.parts) h.2 }
same_claimed claims image page old new Repeat h = record { table = ap (λ (p : PassValue). p.table) h.1; parts = ap (λ (p : PassValue). p.parts) h.1 }
same_claimed claims image page old new Outside h = record { table = ap (λ (p : PassValue). p.table) h.1; parts = ap (λ (p : PassValue). p.parts) h.1 }

pub same_asked : (depot : Shelves) (claims : ClaimsValue) (key : Key) (pages : List ℕ) (old new : Telling) → AreAsked depot claims key pages old new → IsSamePass old.pass new.pass
same_asked depot claims key [] old new same = subst (λ (t : Telling). IsSamePass old.pass t.pass) (sym same) (same_pass old.pass)
same_asked depot claims key (page ∷ pages) old new asked =
    same_more old.pass asked.0.pass new.pass (same_claimed claims (number_of key) page old.pass asked.0.pass asked.1.claimed asked.1.answers)
    (same_asked depot claims key pages asked.0 new asked.2)

-- one reply more waits
pub waits_more : (key : Key) (pages : List ℕ) (page : ℕ) (old new : List Reply)
    → new ≡ old ++ reply_with key page ∷ [] → old ≡ map (reply_with key) pages → new ≡ map (reply_with key) (pages ++ page ∷ [])
waits_more key pages page old new more is =
    more ∙ ap (λ l. l ++ reply_with key page ∷ []) is ∙ sym (map-append (reply_with key) pages (page ∷ []))
