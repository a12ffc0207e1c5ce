-- A fetch goes on fate by fate, and comes to an end.
use Rattle.std.proofs.Common.{◌≡◌, ℕ, zero, suc, ◌+◌, ◌-◌, ◌*◌, ◌<◌, ◌≤◌, Bool, true, false, cond, if◌then◌else◌, ◌||◌}
use Rattle.std.proofs.Common.{eqb, eqb-true, eq-eqb, List, [], ◌∷◌, ◌++◌, drop, length, map, take, get_or, slice_get, slice_set}
use Rattle.std.proofs.Common.{Option, Some, refl, sym, ap, ◌∙◌, subst, arith, inl, Err, length-append}
use Rattle.std.specs.List.{All, remove, list_any}
use Rattle.std.proofs.lemmas.List.{length-map, length-set, append-nil}
use Rattle.std.proofs.lemmas.List.Edits.{length-remove}
use Rattle.std.proofs.lemmas.Option.{slice_get_within, slice_get_read}
use Rattle.std.proofs.lemmas.Simd.{map-map}
use Rattle.wire_fates.specs.Fates.{place_of, streak_after}
use Rattle.wire_fates.specs.declared.fate.Fate.{Fate}
use Rattle.wire_fates.specs.declared.fate.Fate.TheVariants.{Give, Again, Lose}
use Rattle.image_depot.specs.Key.{Shelves, Key}
use Rattle.image_depot.specs.Receiver.{IsHere, IsAbsent}
use Rattle.image_depot.specs.Reply.{Reply}
use Rattle.page_claims.specs.Values.{ClaimsValue}
use Rattle.host_fetch.specs.Asked.{AreAsked, ArePartlyAsked, Telling, reply_with}
use Rattle.host_fetch.specs.declared.error.FetchError.TheVariants.{Memory}
use Rattle.host_fetch.specs.Fetch.{Fetching, Comes, Ends, Finishes, Grows, StopsGiving, after_fate, asked_again, begun, here_after, waiting_after, waits}
use Rattle.host_fetch.specs.Fetch.Comes.{begins, goes_on}
use Rattle.host_fetch.proofs.Asking.{asked_more, map-remove, partly_due, waits_more}

-- where a fetch stands between two fates
pub record Stands {T W X : Type 0} (here : T → List Bool) (key : T → Option Key) (rest : T → T) (tells : W → ℕ → Fate → W → Type 0) (streak : W → ℕ) (seeds : W → Option (List ℕ)) (now : X → Reply)
    (depot : Shelves) (claims : ClaimsValue) (k : Key) (page : ℕ) (first : List ℕ) (t0 : T) (w0 : W) (sent0 : Telling) (t : T) (w : W) (items : List X) (sent : Telling) : Type 0 where
  pub f : Fetching
  pub comes : Comes tells streak page w0 (begun (here t0) first) w f
  pub here_is : f.here ≡ here t
  pub replies : map now items ≡ map (reply_with k) f.waiting
  pub grown : AreAsked depot claims k f.asked sent0 sent
  pub waits_is : waits page f.waiting ≡ true
  pub seeds_is : seeds w ≡ seeds w0
  pub key_is : key t ≡ Some k
  pub rest_is : rest t ≡ rest t0
  pub grows : Grows (here t0) (here t)
  pub absent : IsAbsent (here t) page

-- what is set to be here leaves the others as they are
set_keeps : (here : List Bool) (i page : ℕ) → IsHere here page → IsHere (slice_set here i true) page
set_keeps [] i page e = e
set_keeps (b ∷ here) zero zero e = refl
set_keeps (b ∷ here) zero (suc page) e = e
set_keeps (b ∷ here) (suc i) zero e = e
set_keeps (b ∷ here) (suc i) (suc page) e = set_keeps here i page e

pub set_is_here : (here : List Bool) (page : ℕ) → page < length here → IsHere (slice_set here page true) page
set_is_here [] page below = absurd (omega (arith, below))
set_is_here (b ∷ here) zero below = refl
set_is_here (b ∷ here) (suc page) below = set_is_here here page (omega (arith, below))

pub grows_none : (here : List Bool) → Grows here here
grows_none here = record { pages = refl; stays = λ page e. e }

pub grows_more : (a b c : List Bool) → Grows a b → Grows b c → Grows a c
grows_more a b c h k = record { pages = k.pages ∙ h.pages; stays = λ page e. k.stays page (h.stays page e) }

pub Grows-same : (a b c : List Bool) → Grows a b → c ≡ b → Grows a c
Grows-same a b c g same = subst (Grows a) (sym same) g

-- a fate takes no page away
pub fate_grows : (fate : Fate) (waiting : List ℕ) (here : List Bool) → Grows here (here_after fate waiting here)
fate_grows (Give place) waiting here = record { pages = length-set here (get_or waiting place 0) true; stays = set_keeps here (get_or waiting place 0) }
fate_grows (Again place) waiting here = record { pages = length-set here (get_or waiting place 0) true; stays = set_keeps here (get_or waiting place 0) }
fate_grows (Lose place) waiting here = grows_none here

pub grown_on : (a b c : List Bool) (fate : Fate) (waiting : List ℕ) → Grows a b → c ≡ here_after fate waiting b → Grows a c
grown_on a b c fate waiting g h = grows_more a b c g (subst (Grows b) (sym h) (fate_grows fate waiting b))

waiting_map : {X Y : Type 0} (f : X → Y) (fate : Fate) (xs : List X) → map f (waiting_after fate xs) ≡ waiting_after fate (map f xs)
waiting_map f (Give place) xs = map-remove f xs place
waiting_map f (Again place) xs = refl
waiting_map f (Lose place) xs = map-remove f xs place

pages_back : (k : Key) (pages : List ℕ) → map (λ reply. reply.page) (map (reply_with k) pages) ≡ pages
pages_back k [] = refl
pages_back k (p ∷ pages) = ap (λ l. p ∷ l) (pages_back k pages)

pages_are : {X : Type 0} (now : X → Reply) (k : Key) (items : List X) (pages : List ℕ) → map now items ≡ map (reply_with k) pages → map (λ x. (now x).page) items ≡ pages
pages_are now k items pages e = sym (map-map (λ reply. reply.page) now items) ∙ ap (map (λ reply. reply.page)) e ∙ pages_back k pages

keys_are : {X : Type 0} (now : X → Reply) (k : Key) (items : List X) (pages : List ℕ) → map now items ≡ map (reply_with k) pages → All (λ x. (now x).key ≡ k) items
keys_are now k [] pages e i d below = absurd (omega (arith, below))
keys_are now k (x ∷ xs) [] e i d below = cc
keys_are now k (x ∷ xs) (p ∷ pages) e zero d below = let h : now x ≡ reply_with k p = cc in ap (λ r. r.key) h
keys_are now k (x ∷ xs) (p ∷ pages) e (suc i) d below = let h : map now xs ≡ map (reply_with k) pages = cc in keys_are now k xs pages h i d (omega (arith, below))

any_map : {X Y : Type 0} (test : Y → Bool) (f : X → Y) (xs : List X) → list_any test (map f xs) ≡ list_any (λ x. test (f x)) xs
any_map test f [] = refl
any_map test f (x ∷ xs) = ap (λ b. test (f x) || b) (any_map test f xs)

or_right : (a b : Bool) → (a ≡ true → ⊥) → (a || b) ≡ true → b ≡ true
or_right true b never h = absurd (never refl)
or_right false b never h = h

or_on : (a b c : Bool) → (b ≡ true → c ≡ true) → (a || b) ≡ true → (a || c) ≡ true
or_on true b c f h = refl
or_on false b c f h = f h

or_last : (a b : Bool) → b ≡ true → (a || b) ≡ true
or_last true b h = refl
or_last false b h = h

-- a reply that is not the one with the page is taken away
waits_still : (page : ℕ) (waiting : List ℕ) (i : ℕ) → waits page waiting ≡ true → i < length waiting → (get_or waiting i 0 ≡ page → ⊥) → waits page (remove waiting i) ≡ true
waits_still page [] i w below other = absurd (omega (arith, below))
waits_still page (x ∷ xs) zero w below other = or_right (eqb x page) (waits page xs) (λ t. other (eqb-true x page t)) w
waits_still page (x ∷ xs) (suc i) w below other =
    or_on (eqb x page) (waits page xs) (waits page (remove xs i)) (λ v. waits_still page xs i v (omega (arith, below)) other) w

waits_last : (page : ℕ) (waiting : List ℕ) → waits page (waiting ++ page ∷ []) ≡ true
waits_last page [] = ap (λ b. b || false) (eq-eqb page page refl)
waits_last page (x ∷ xs) = or_last (eqb x page) (waits page (xs ++ page ∷ [])) (waits_last page xs)

pub waits_some : (page : ℕ) (waiting : List ℕ) → waits page waiting ≡ true → 0 < length waiting
waits_some page [] w = absurd (cc)
waits_some page (x ∷ xs) w = omega arith

-- the page is absent, so it was not the one of the reply that was given
given_other : (page : ℕ) (given : ℕ) (here : List Bool) → page < length here → IsAbsent (slice_set here given true) page → given ≡ page → ⊥
given_other page given here below absent same =
    let is_here : Some true ≡ Some false = sym (set_is_here here page below) ∙ ap (λ p. slice_get (slice_set here p true) page) (sym same) ∙ absent in cc

-- the page is asked for again, unless its reply waits
abbrev again : Bool → ℕ → Fetching → Fetching
again b page f = if b then f else record f { waiting = f.waiting ++ page ∷ []; asked = f.asked ++ page ∷ [] }

again_waits : (b : Bool) (page : ℕ) (f : Fetching) → waits page f.waiting ≡ b → waits page (again b page f).waiting ≡ true
again_waits true page f e = e
again_waits false page f e = waits_last page f.waiting

again_here : (b : Bool) (page : ℕ) (f : Fetching) → (again b page f).here ≡ f.here
again_here true page f = refl
again_here false page f = refl

again_replies : (b : Bool) (k : Key) (page : ℕ) (f : Fetching) (old new : List Reply) → old ≡ map (reply_with k) f.waiting
    → new ≡ old ++ cond b [] (reply_with k page ∷ []) → new ≡ map (reply_with k) (again b page f).waiting
again_replies true k page f old new is more = more ∙ append-nil old ∙ is
again_replies false k page f old new is more = waits_more k f.waiting page old new more is

again_grown : (b : Bool) (depot : Shelves) (claims : ClaimsValue) (k : Key) (page : ℕ) (f : Fetching) (old middle new : Telling) → AreAsked depot claims k f.asked old middle
    → AreAsked depot claims k (cond b [] (page ∷ [])) middle new → AreAsked depot claims k (again b page f).asked old new
again_grown true depot claims k page f old middle new g h = subst (λ l. AreAsked depot claims k l old new) (append-nil f.asked) (asked_more depot claims k f.asked [] old middle new g h)
again_grown false depot claims k page f old middle new g h = asked_more depot claims k f.asked (page ∷ []) old middle new g h

again_length : (b : Bool) (page : ℕ) (f : Fetching) → length (again b page f).waiting ≤ length f.waiting + 1
again_length true page f = omega arith
again_length false page f = omega (arith, length-append f.waiting (page ∷ []))

again_same : (b : Bool) (page : ℕ) (f : Fetching) → b ≡ true → length (again b page f).waiting ≡ length f.waiting
again_same true page f e = refl
again_same false page f e = absurd (cc)

-- each fate that a fetch goes on after lessens this number
pub falls : (fate : Fate) (page : ℕ) (f : Fetching) (streak longer : ℕ) → place_of fate < length f.waiting → page < length f.here → waits page f.waiting ≡ true
    → IsAbsent (here_after fate f.waiting f.here) page → longer ≡ streak_after fate streak → longer < 64
    → 65 * length (asked_again page (after_fate fate f)).waiting + (64 - longer) < 65 * length f.waiting + (64 - streak)
falls (Give place) page f streak longer among below w absent is less =
    let w2 = waits_still page f.waiting place w among (given_other page (get_or f.waiting place 0) f.here below absent) in
    omega (arith, again_same (waits page (remove f.waiting place)) page (after_fate (Give place) f) w2, length-remove f.waiting place among, is)
falls (Again place) page f streak longer among below w absent is less =
    omega (arith, again_same (waits page f.waiting) page (after_fate (Again place) f) w, is, less)
falls (Lose place) page f streak longer among below w absent is less =
    omega (arith, again_length (waits page (remove f.waiting place)) page (after_fate (Lose place) f), length-remove f.waiting place among, is, less)

pub is_present : (here : List Bool) (page : ℕ) → get_or here page false ≡ true → IsHere here page
is_present [] page e = absurd (cc)
is_present (b ∷ here) zero e = ap (λ c. Some c) e
is_present (b ∷ here) (suc page) e = is_present here page e

pub is_absent : (here : List Bool) (page : ℕ) → page < length here → get_or here page false ≡ false → IsAbsent here page
is_absent here page below e = slice_get_read here (length here) page false refl below (sym e)

-- where memory was wanting, some of the first pages were asked for
pub part_asked : {W : Type 0} (tells : W → ℕ → Fate → W → Type 0) (streak : W → ℕ) (page : ℕ) (depot : Shelves) (claims : ClaimsValue) (k : Key) (here : List Bool) (w : W)
    (first asked : List ℕ) (count : ℕ) (old new : Telling) → asked ≡ first → ArePartlyAsked depot claims k (take 1 (drop count asked)) (take count asked) old new
    → (x : List ℕ) × ArePartlyAsked depot claims k first x old new × Finishes tells streak page w (begun here first) w here x (Err Memory)
part_asked tells streak page depot claims k here w first asked count old new same partly =
    (take count asked, subst (λ due. ArePartlyAsked depot claims k due (take count asked) old new) same (partly_due depot claims k asked count old new partly), inl (record { count = count; asked_is = ap (take count) same; here_is = refl; wire_is = refl }))

pub none_asked : {W : Type 0} (tells : W → ℕ → Fate → W → Type 0) (streak : W → ℕ) (page : ℕ) (depot : Shelves) (claims : ClaimsValue) (k : Key) (here : List Bool) (w : W)
    (first : List ℕ) (t : Telling) → (x : List ℕ) × ArePartlyAsked depot claims k first x t t × Finishes tells streak page w (begun here first) w here x (Err Memory)
none_asked tells streak page depot claims k here w first t =
    part_asked tells streak page depot claims k here w first first 0 t t refl (record { middle = t; asked = refl; last = inl refl })

-- the replies that wait are those of the pages that wait
same_count : {X : Type 0} (now : X → Reply) (k : Key) (items : List X) (pages : List ℕ) → map now items ≡ map (reply_with k) pages → length items ≡ length pages
same_count now k items pages e = sym (length-map items now) ∙ ap length e ∙ length-map pages (reply_with k)

module _ {T W X : Type 0} (here : T → List Bool) (key : T → Option Key) (rest : T → T) (tells : W → ℕ → Fate → W → Type 0) (streak : W → ℕ) (seeds : W → Option (List ℕ)) (now : X → Reply)
    (depot : Shelves) (claims : ClaimsValue) (k : Key) (page : ℕ) (first : List ℕ) (t0 : T) (w0 : W) (sent0 : Telling) where
  -- the replies that were asked for at first wait
  pub stands : (t : T) (w : W) (items : List X) (sent : Telling) (more : List ℕ) → first ≡ page ∷ more → t ≡ t0 → w ≡ w0 → map now items ≡ map (reply_with k) first
      → AreAsked depot claims k first sent0 sent → key t0 ≡ Some k → IsAbsent (here t0) page
      → Stands here key rest tells streak seeds now depot claims k page first t0 w0 sent0 t w items sent
  stands t w items sent more is_first same_t same_w replies grown key_is absent =
      subst (λ t. Stands here key rest tells streak seeds now depot claims k page first t0 w0 sent0 t w items sent) (sym same_t)
      (subst (λ w. Stands here key rest tells streak seeds now depot claims k page first t0 w0 sent0 t0 w items sent) (sym same_w) (record {
        f = begun (here t0) first;
        comes = begins;
        here_is = refl;
        replies = replies;
        grown = grown;
        waits_is = subst (λ l. waits page l ≡ true) (sym is_first) (ap (λ b. b || waits page more) (eq-eqb page page refl));
        seeds_is = refl;
        key_is = key_is;
        rest_is = refl;
        grows = grows_none (here t0);
        absent = absent;
      }))

  -- the state of a fetch after a fate
  after_is : (t t2 : T) (items : List X) (f : Fetching) (fate : Fate) → f.here ≡ here t → map now items ≡ map (reply_with k) f.waiting
      → here t2 ≡ here_after fate (map (λ x. (now x).page) items) (here t) → here t2 ≡ (after_fate fate f).here
  after_is t t2 items f fate here_is replies h =
      h ∙ ap (λ l. here_after fate l (here t)) (pages_are now k items f.waiting replies) ∙ ap (here_after fate f.waiting) (sym here_is)

  pub ended : (t t2 : T) (w w2 : W) (items : List X) (sent : Telling) (fate : Fate) (count : ℕ)
      → (s : Stands here key rest tells streak seeds now depot claims k page first t0 w0 sent0 t w items sent) → count ≡ length items → tells w count fate w2
      → here t2 ≡ here_after fate (map (λ x. (now x).page) items) (here t)
      → Ends tells streak page w0 (begun (here t0) first) w2 (here t2) s.f.asked
  ended t t2 w w2 items sent fate count s counted told h = record {
    before = w;
    f = s.f;
    fate = fate;
    comes = s.comes;
    told = subst (λ n. tells w n fate w2) (counted ∙ same_count now k items s.f.waiting s.replies) told;
    here_is = after_is t t2 items s.f fate s.here_is s.replies h;
    asked_is = refl;
  }

  -- memory was wanting to take the reply of a fate in
  pub stops : (t t2 : T) (w w2 : W) (items : List X) (sent : Telling) (fate : Fate) (count : ℕ)
      → (s : Stands here key rest tells streak seeds now depot claims k page first t0 w0 sent0 t w items sent) → count ≡ length items → tells w count fate w2 → t2 ≡ t
      → StopsGiving tells streak page w0 (begun (here t0) first) w2 (here t2) s.f.asked
  stops t t2 w w2 items sent fate count s counted told same = record {
    before = w;
    f = s.f;
    fate = fate;
    comes = s.comes;
    told = subst (λ n. tells w n fate w2) (counted ∙ same_count now k items s.f.waiting s.replies) told;
    here_is = ap here same ∙ sym s.here_is;
    asked_is = refl;
  }

  pub below_after : (t t2 : T) (w : W) (items : List X) (sent : Telling) (fate : Fate) → Stands here key rest tells streak seeds now depot claims k page first t0 w0 sent0 t w items sent
      → here t2 ≡ here_after fate (map (λ x. (now x).page) items) (here t) → page < length (here t2)
  below_after t t2 w items sent fate s h =
      omega (arith, slice_get_within (here t) page false s.absent, ap length h, (fate_grows fate (map (λ x. (now x).page) items) (here t)).pages)

  waits_same : (items : List X) (pages : List ℕ) → map now items ≡ map (reply_with k) pages → list_any (λ x. eqb (now x).page page) items ≡ waits page pages
  waits_same items pages e = sym (any_map (λ other. eqb other page) (λ x. (now x).page) items) ∙ ap (waits page) (pages_are now k items pages e)

  replies_after : (items items2 : List X) (f : Fetching) (fate : Fate) → map now items ≡ map (reply_with k) f.waiting → map now items2 ≡ waiting_after fate (map now items)
      → map now items2 ≡ map (reply_with k) (after_fate fate f).waiting
  replies_after items items2 f fate replies e = e ∙ ap (waiting_after fate) replies ∙ sym (waiting_map (reply_with k) fate f.waiting)

  pub stands_on : (t t2 : T) (w w2 : W) (items items2 items3 : List X) (sent sent3 : Telling) (fate : Fate) (count : ℕ)
      → Stands here key rest tells streak seeds now depot claims k page first t0 w0 sent0 t w items sent → count ≡ length items → tells w count fate w2
      → here t2 ≡ here_after fate (map (λ x. (now x).page) items) (here t) → map now items2 ≡ waiting_after fate (map now items) → seeds w2 ≡ seeds w → key t2 ≡ key t → rest t2 ≡ rest t
      → IsAbsent (here t2) page → streak w2 < 64
      → map now items3 ≡ map now items2 ++ cond (list_any (λ x. eqb (now x).page page) items2) [] (reply_with k page ∷ [])
      → AreAsked depot claims k (cond (list_any (λ x. eqb (now x).page page) items2) [] (page ∷ [])) sent sent3
      → Stands here key rest tells streak seeds now depot claims k page first t0 w0 sent0 t2 w2 items3 sent3
  stands_on t t2 w w2 items items2 items3 sent sent3 fate count s counted told h waiting same_seeds same_key same_rest absent less more grown =
      let f2 : Fetching = after_fate fate s.f in
      let b : Bool = waits page f2.waiting in
      let here2 = after_is t t2 items s.f fate s.here_is s.replies h in
      let replies2 = replies_after items items2 s.f fate s.replies waiting in
      let same = waits_same items2 f2.waiting replies2 in
      record {
        f = again b page f2;
        comes = goes_on w w2 fate s.f s.comes (subst (λ n. tells w n fate w2) (counted ∙ same_count now k items s.f.waiting s.replies) told) (subst (λ l. IsAbsent l page) here2 absent) less;
        here_is = again_here b page f2 ∙ sym here2;
        replies = again_replies b k page f2 _ _ replies2 (subst (λ c. map now items3 ≡ map now items2 ++ cond c [] (reply_with k page ∷ [])) same more);
        grown = again_grown b depot claims k page f2 sent0 sent sent3 s.grown (subst (λ c. AreAsked depot claims k (cond c [] (page ∷ [])) sent sent3) same grown);
        waits_is = again_waits b page f2 refl;
        seeds_is = same_seeds ∙ s.seeds_is;
        key_is = same_key ∙ s.key_is;
        rest_is = same_rest ∙ s.rest_is;
        grows = grown_on (here t0) (here t) (here t2) fate (map (λ x. (now x).page) items) s.grows h;
        absent = absent;
      }

  pub less : (t t2 : T) (w w2 : W) (items items2 items3 : List X) (sent : Telling) (fate : Fate) (count : ℕ)
      → Stands here key rest tells streak seeds now depot claims k page first t0 w0 sent0 t w items sent → count ≡ length items → place_of fate < count
      → here t2 ≡ here_after fate (map (λ x. (now x).page) items) (here t) → map now items2 ≡ waiting_after fate (map now items)
      → IsAbsent (here t2) page → streak w2 ≡ streak_after fate (streak w) → streak w2 < 64
      → map now items3 ≡ map now items2 ++ cond (list_any (λ x. eqb (now x).page page) items2) [] (reply_with k page ∷ [])
      → 65 * length items3 + (64 - streak w2) < 65 * length items + (64 - streak w)
  less t t2 w w2 items items2 items3 sent fate count s counted among h waiting absent longer short more =
      let f2 : Fetching = after_fate fate s.f in
      let here2 = after_is t t2 items s.f fate s.here_is s.replies h in
      let replies2 = replies_after items items2 s.f fate s.replies waiting in
      let same = waits_same items2 f2.waiting replies2 in
      let replies3 = again_replies (waits page f2.waiting) k page f2 _ _ replies2 (subst (λ c. map now items3 ≡ map now items2 ++ cond c [] (reply_with k page ∷ [])) same more) in
      let n = same_count now k items s.f.waiting s.replies in
      let n3 = same_count now k items3 (again (waits page f2.waiting) page f2).waiting replies3 in
      let below : page < length s.f.here = subst (λ l. page < length l) (sym s.here_is) (slice_get_within (here t) page false s.absent) in
      let fall = falls fate page s.f (streak w) (streak w2) (omega (arith, among, counted, n)) below s.waits_is (subst (λ l. IsAbsent l page) here2 absent) longer short in
      omega (arith, fall, n, n3)

  -- a reply waits
  pub some_wait : (t : T) (w : W) (items : List X) (sent : Telling) → Stands here key rest tells streak seeds now depot claims k page first t0 w0 sent0 t w items sent → 0 < length items
  some_wait t w items sent s = omega (arith, waits_some page s.f.waiting s.waits_is, same_count now k items s.f.waiting s.replies)

  -- what may be given to the receiver
  pub keys_of : (t : T) (w : W) (items : List X) (sent : Telling) → Stands here key rest tells streak seeds now depot claims k page first t0 w0 sent0 t w items sent
      → All (λ x. key t ≡ Some (now x).key) items
  keys_of t w items sent s i d below = s.key_is ∙ ap (λ c. Some c) (sym (keys_are now k items s.f.waiting s.replies i d below))
