-- Who rests where the words to one machine are others.
use Rattle.std.proofs.Common.{◌≡◌, ◌≢◌, ◌⊎◌, inl, inr, ℕ, zero, suc, ◌&&◌, ◌||◌, not, eqb, eqb-true, Bool, true, false}
use Rattle.std.proofs.Common.{refl, sym, ap, ap₂, ◌∙◌, subst, List, [], ◌∷◌, ◌++◌, Option, Some, None, is_some, option_map}
use Rattle.std.proofs.lemmas.Bool.{and_parts, eqb-false}
use Rattle.std.specs.Option.{IfSome}
use Rattle.forest_tree.specs.Tree.{Tree, node, Trees, machine, broods_of, brood_of, at_child, child_at, Branch, Path, subtree, beyond, goes_on, at_beyond, at_path}
use Rattle.forest_tree.specs.Step.{has_ended, waits}
use Rattle.forest_tree.proofs.Places.{at_child-none, child_at-same, child_at-other, some-same}
use Rattle.sibling_forest.specs.Talk.{Inbox, Talk, send, receive, at_queue, queue}
use Rattle.sibling_forest.specs.Settle.{box_at, is_empty, is_full, is_full_there, lives_there, waits_by}
use Rattle.sibling_forest.specs.Laws.{child_number, is_sibling, queue_from, read_of}
use Rattle.sibling_forest.proofs.Crossing.{changed-brood}
use Rattle.talking_history.specs.Places.{out, parked, spots, spot_talks}
use Rattle.forest_tree.proofs.Changes.{at_path-here, at_path-elsewhere, at_path-machine}
use Rattle.forest_model.specs.Paged.{paged_machines, paged_talks}
use Rattle.machine_names.specs.Name.{child_path}
use Rattle.machine_names.proofs.Below.{beyond-append}
use Rattle.world_core.specs.declared.cell.Change.TheVariants.{Word, Room}
use Rattle.world_core.specs.Shows.{Member, forest, next_talk, IsAwake, child_of}
use Rattle.world_core.specs.Stirring.{IsWokenBy, RestsAsBefore, WakesOne}
use Rattle.world_core.specs.World.{rests_in}
use Rattle.world_core.proofs.Awake.{child-below}
use Rattle.world_core.proofs.Changes.{Lies, here, below, parent, above, apart, beyond-parent, lies, outside}
use Rattle.world_core.proofs.Heard.{Rewrites}
use Rattle.world_core.proofs.Resting.{alive-rests, rests-below, rests-reading, talk_rests}
use Rattle.world_core.proofs.Returns.{same-or-apart}
use Rattle.world_core.proofs.Saying.{heard, heard-inbox, heard-lives, heard-rests, heard-spot, heard-talk, heard-waits}
use Rattle.world_core.proofs.Skipping.{heeds, rests-same, woken-by}
use Rattle.world_core.proofs.Waiting.{rests-among, talk-at, talk-now}

-- ---- queues and names

pub queue_from-other : (f : List ℕ → List ℕ) (i k : ℕ) (inbox : Inbox) → k ≢ i → queue_from k (at_queue f i inbox) ≡ queue_from k inbox
unfolding queue_from at_queue
queue_from-other f i k [] other = refl
queue_from-other f zero k (q ∷ rest) other = refl
queue_from-other f (suc zero) zero (q ∷ rest) other = refl
queue_from-other f (suc zero) (suc zero) (q ∷ rest) other = absurd (other refl)
queue_from-other f (suc zero) (suc (suc k)) (q ∷ rest) other = refl
queue_from-other f (suc (suc i)) zero (q ∷ rest) other = refl
queue_from-other f (suc (suc i)) (suc zero) (q ∷ rest) other = refl
queue_from-other f (suc (suc i)) (suc (suc k)) (q ∷ rest) other = queue_from-other f (suc i) (suc k) rest (λ e. other (ap suc e))

same-branch : (b y : Branch) → b.ticket ≡ y.ticket → b.child ≡ y.child → b ≡ y
same-branch b y ticket child = ap₂ (λ (t c : ℕ). record { ticket = t; child = c }) ticket child

-- a sibling has the name of one of the children
sibling-name : (way : Path) (y : Branch) (n : Path) → is_sibling n (way ++ (y ∷ [])) ≡ true → n ≡ child_path way y.ticket (child_number n)
unfolding is_sibling child_number
sibling-name way y [] beside = absurd (cc)
sibling-name [] y (b ∷ []) beside = ap (λ (b : Branch). b ∷ []) (same-branch b (record { ticket = y.ticket; child = b.child }) (eqb-true b.ticket y.ticket beside) refl)
sibling-name [] y (b ∷ (c ∷ [])) beside =
    let no : false ≡ true = (and_parts (eqb b.ticket y.ticket && eqb b.child y.child) false beside).1 in absurd (cc)
sibling-name [] y (b ∷ (c ∷ (d ∷ n))) beside =
    let no : false ≡ true = (and_parts (eqb b.ticket y.ticket && eqb b.child y.child) false beside).1 in absurd (cc)
sibling-name (z ∷ []) y (b ∷ []) beside = absurd (cc)
sibling-name (z ∷ (v ∷ way)) y (b ∷ []) beside = absurd (cc)
sibling-name (z ∷ way) y (b ∷ (c ∷ n)) beside =
    let both = and_parts (eqb b.ticket z.ticket && eqb b.child z.child) (is_sibling (c ∷ n) (way ++ (y ∷ []))) beside in
    let first = and_parts (eqb b.ticket z.ticket) (eqb b.child z.child) both.0 in
    ap₂ (λ (b : Branch) (rest : Path). b ∷ rest) (same-branch b z (eqb-true b.ticket z.ticket first.0) (eqb-true b.child z.child first.1))
    (sibling-name way y (c ∷ n) both.1)

-- the root is not below
pub root-heard : (g : Member → Inbox) (way : Path) (x : Branch) (t : Tree Member) → machine (at_path (heard g) (way ++ (x ∷ [])) t) ≡ machine t
root-heard g [] x t = at_path-machine (heard g) x [] t
root-heard g (y ∷ way) x t = at_path-machine (heard g) y (way ++ (x ∷ [])) t

pub and-false : (a : Bool) → (a && false) ≡ false
and-false true = refl
and-false false = refl

-- ---- the children of a ticket, of which one hears others

module _ (g : Member → Inbox) (c : ℕ) (trees : Trees Member) (a : Tree Member) (found : child_at c trees ≡ Some a) where
  abbrev after : Trees Member
  after = at_child (heard g) c trees

  box-here : (j : ℕ) → eqb c j ≡ true → box_at (spots paged_machines) (spot_talks paged_talks) j after ≡ Some (machine (heard g a))
  box-here j same =
      ap (λ n. box_at (spots paged_machines) (spot_talks paged_talks) n after) (sym (eqb-true c j same))
      ∙ ap (option_map machine) (child_at-same (heard g) c trees ∙ ap (option_map (heard g)) found)

  box-was : (j : ℕ) → eqb c j ≡ true → box_at (spots paged_machines) (spot_talks paged_talks) j trees ≡ Some (machine a)
  box-was j same =
      ap (λ n. box_at (spots paged_machines) (spot_talks paged_talks) n trees) (sym (eqb-true c j same)) ∙ ap (option_map machine) found

  box-other : (j : ℕ) → eqb c j ≡ false → box_at (spots paged_machines) (spot_talks paged_talks) j after ≡ box_at (spots paged_machines) (spot_talks paged_talks) j trees
  box-other j other = ap (option_map machine) (child_at-other (heard g) c j trees (eqb-false c j other))

  lives-alike : (j : ℕ) → lives_there (spots paged_machines) (spot_talks paged_talks) (box_at (spots paged_machines) (spot_talks paged_talks) j after)
      ≡ lives_there (spots paged_machines) (spot_talks paged_talks) (box_at (spots paged_machines) (spot_talks paged_talks) j trees)
  lives-alike j = by (eqb c j) refl
    where
      by : (same : Bool) → eqb c j ≡ same → lives_there (spots paged_machines) (spot_talks paged_talks) (box_at (spots paged_machines) (spot_talks paged_talks) j after)
          ≡ lives_there (spots paged_machines) (spot_talks paged_talks) (box_at (spots paged_machines) (spot_talks paged_talks) j trees)
      by true e =
          ap (lives_there (spots paged_machines) (spot_talks paged_talks)) (box-here j e)
          ∙ ap (λ s. not (is_some ((spots paged_machines).ending s))) (heard-spot g a)
          ∙ ap (lives_there (spots paged_machines) (spot_talks paged_talks)) (sym (box-was j e))
      by false e = ap (lives_there (spots paged_machines) (spot_talks paged_talks)) (box-other j e)

  -- a queue to it that is the same
  full-alike : (l j : ℕ) → queue l (g (machine a)) ≡ queue l (machine a).inbox
      → is_full_there (spots paged_machines) (spot_talks paged_talks) l (box_at (spots paged_machines) (spot_talks paged_talks) j after)
      ≡ is_full_there (spots paged_machines) (spot_talks paged_talks) l (box_at (spots paged_machines) (spot_talks paged_talks) j trees)
  full-alike l j words = by (eqb c j) refl
    where
      by : (same : Bool) → eqb c j ≡ same
          → is_full_there (spots paged_machines) (spot_talks paged_talks) l (box_at (spots paged_machines) (spot_talks paged_talks) j after)
          ≡ is_full_there (spots paged_machines) (spot_talks paged_talks) l (box_at (spots paged_machines) (spot_talks paged_talks) j trees)
      by true e =
          ap (is_full_there (spots paged_machines) (spot_talks paged_talks) l) (box-here j e)
          ∙ ap is_full (ap (queue l) (heard-inbox g a) ∙ words)
          ∙ ap (is_full_there (spots paged_machines) (spot_talks paged_talks) l) (sym (box-was j e))
      by false e = ap (is_full_there (spots paged_machines) (spot_talks paged_talks) l) (box-other j e)

  -- one queue to it is another
  module _ (from : ℕ) (q : List ℕ) (rewrites : Rewrites from q (machine a).inbox (g (machine a))) where
    -- it has a word of that sibling then
    pub word-heeded : from ≢ c → is_empty q ≡ false → (what : Option Talk)
        → waits_by (spots paged_machines) (spot_talks paged_talks) what c (machine (heard g a)) after
        ≡ (not (heeds (Word from) what) && waits_by (spots paged_machines) (spot_talks paged_talks) what c (machine a) trees)
    word-heeded other some None = refl
    word-heeded other some (Some (send j)) =
        ap₂ (λ lives full. lives && full) (lives-alike j) (full-alike c j (rewrites.others c (λ e. other (sym e))))
    word-heeded other some (Some (receive j)) = by (eqb from j) refl
      where
        by : (same : Bool) → eqb from j ≡ same
            → (lives_there (spots paged_machines) (spot_talks paged_talks) (box_at (spots paged_machines) (spot_talks paged_talks) j after) && is_empty (queue j (machine (heard g a)).inbox))
            ≡ (not same && (lives_there (spots paged_machines) (spot_talks paged_talks) (box_at (spots paged_machines) (spot_talks paged_talks) j trees) && is_empty (queue j (machine a).inbox)))
        by true e =
            ap (λ none. lives_there (spots paged_machines) (spot_talks paged_talks) (box_at (spots paged_machines) (spot_talks paged_talks) j after) && none)
            (ap (λ n. is_empty (queue n (machine (heard g a)).inbox)) (sym (eqb-true from j e))
            ∙ ap is_empty (ap (queue from) (heard-inbox g a) ∙ rewrites.here) ∙ some)
            ∙ and-false (lives_there (spots paged_machines) (spot_talks paged_talks) (box_at (spots paged_machines) (spot_talks paged_talks) j after))
        by false e =
            ap₂ (λ lives none. lives && none) (lives-alike j)
            (ap is_empty (ap (queue j) (heard-inbox g a) ∙ rewrites.others j (λ same. eqb-false from j e (sym same))))

    -- there is room for a word to it from that sibling then
    pub room-heeded : is_full q ≡ false → (what : Option Talk) (m : Member)
        → waits_by (spots paged_machines) (spot_talks paged_talks) what from m after
        ≡ (not (heeds (Room c) what) && waits_by (spots paged_machines) (spot_talks paged_talks) what from m trees)
    room-heeded room None m = refl
    room-heeded room (Some (receive j)) m = ap (λ lives. lives && is_empty (queue j m.inbox)) (lives-alike j)
    room-heeded room (Some (send j)) m = by (eqb c j) refl
      where
        by : (same : Bool) → eqb c j ≡ same
            → (lives_there (spots paged_machines) (spot_talks paged_talks) (box_at (spots paged_machines) (spot_talks paged_talks) j after)
            && is_full_there (spots paged_machines) (spot_talks paged_talks) from (box_at (spots paged_machines) (spot_talks paged_talks) j after))
            ≡ (not same && (lives_there (spots paged_machines) (spot_talks paged_talks) (box_at (spots paged_machines) (spot_talks paged_talks) j trees)
            && is_full_there (spots paged_machines) (spot_talks paged_talks) from (box_at (spots paged_machines) (spot_talks paged_talks) j trees)))
        by true e =
            ap (λ full. lives_there (spots paged_machines) (spot_talks paged_talks) (box_at (spots paged_machines) (spot_talks paged_talks) j after) && full)
            (ap (is_full_there (spots paged_machines) (spot_talks paged_talks) from) (box-here j e)
            ∙ ap is_full (ap (queue from) (heard-inbox g a) ∙ rewrites.here) ∙ room)
            ∙ and-false (lives_there (spots paged_machines) (spot_talks paged_talks) (box_at (spots paged_machines) (spot_talks paged_talks) j after))
        by false e =
            ap (λ box. lives_there (spots paged_machines) (spot_talks paged_talks) box && is_full_there (spots paged_machines) (spot_talks paged_talks) from box) (box-other j e)

-- ---- in a forest

module _ (g : Member → Inbox) (way : Path) (ticket c from : ℕ) (t a : Tree Member) (there : subtree (child_path way ticket c) t ≡ Some a)
    (apart_from : (k : ℕ) → k ≢ from → queue_from k (g (machine a)) ≡ queue_from k (machine a).inbox) where
  abbrev name : Path
  name = child_path way ticket c

  abbrev then : Tree Member
  then = at_path (heard g) name t

  reads-alike : (n : Path) → n ≢ child_path way ticket from → is_sibling n name ≡ true
      → read_of (spots paged_machines) (child_number n) (Some (heard g a)) ≡ read_of (spots paged_machines) (child_number n) (Some a)
  reads-alike n other beside =
      ap₂ (λ (lives : Bool) (q : Option (List ℕ)). Some (lives, q)) (ap (λ s. not (is_some ((spots paged_machines).ending s))) (heard-spot g a))
      (ap (queue_from (child_number n)) (heard-inbox g a)
      ∙ apart_from (child_number n) (λ e. other (sibling-name way (record { ticket = ticket; child = c }) n beside ∙ ap (child_path way ticket) e)))

  -- who is neither the one that hears nor the one that it hears
  rests-apart : (n : Path) (u : Tree Member) → n ≢ name → n ≢ child_path way ticket from → subtree n then ≡ Some u → rests_in then n ≡ rests_in t n
  rests-apart n u other beside at = by (lies name n)
    where
      outer : beyond name n ≡ None → rests_in then n ≡ rests_in t n
      outer none = in_old (subtree n t) refl
        where
          in_old : (o : Option (Tree Member)) → subtree n t ≡ o → rests_in then n ≡ rests_in t n
          in_old None e =
              let no : None ≡ Some u = sym (at_path-elsewhere (heard g) name n t (ap goes_on none) ∙ ap (option_map (at_beyond (heard g) (beyond n name))) e) ∙ at in
              absurd (cc)
          in_old (Some v) e = rests-reading (heard g) name n t a v there (heard-lives g a) (reads-alike n beside) none e

      by : Lies name n → rests_in then n ≡ rests_in t n
      by (here e) = absurd (other e)
      by (below y rest e) =
          ap (rests_in then) e
          ∙ rests-below name y rest then (heard g a) (at_path-here (heard g) name t ∙ ap (option_map (heard g)) there)
          ∙ heard-rests g y rest a
          ∙ sym (rests-below name y rest t a there)
          ∙ ap (rests_in t) (sym e)
      by (parent y none e) = outer none
      by (above y z rest none e) = outer none
      by (apart none e) = outer none

  -- one of the two is on lease, and the other may wake
  others-as : (lent woken : Path) → ((n : Path) → n ≢ lent → n ≢ woken → (n ≢ name) × (n ≢ child_path way ticket from))
      → ((u : Tree Member) → subtree lent then ≡ Some u → (machine u).machine.place ≡ out) → (n : Path) → n ≢ woken
      → IfSome (subtree n then) (RestsAsBefore (rests_in t n) (rests_in then n))
  others-as lent woken both away n other = by (same-or-apart lent n)
    where
      never : (u : Tree Member) → (machine u).machine.place ≡ out → (machine u).machine.place ≡ parked → ⊥
      never u at is_parked = let no : out ≡ parked = sym at ∙ is_parked in cc

      at_lent : (o : Option (Tree Member)) → subtree lent then ≡ o → IfSome o (RestsAsBefore (rests_in t lent) (rests_in then lent))
      at_lent None e = tt
      at_lent (Some u) e = record { same = λ lives is_parked. absurd (never u (away u e) is_parked) }

      by : (n ≡ lent) ⊎ (lent ≢ n) → IfSome (subtree n then) (RestsAsBefore (rests_in t n) (rests_in then n))
      by (inl e) = subst (λ m. IfSome (subtree m then) (RestsAsBefore (rests_in t m) (rests_in then m))) (sym e) (at_lent (subtree lent then) refl)
      by (inr apart_lent) =
          let two = both n (λ e. apart_lent (sym e)) other in
          rests-same (rests_in t n) (rests_in then n) (subtree n then) (λ u at. rests-apart n u two.0 two.1 at)

-- the children of the ticket then
pub brood-then : (g : Member → Inbox) (x : Branch) (p : Tree Member)
    → brood_of x.ticket (broods_of (at_path (heard g) (x ∷ []) p)) ≡ at_child (heard g) x.child (brood_of x.ticket (broods_of p))
unfolding at_path
brood-then g x (node s broods log) = changed-brood (at_child (heard g) x.child) (at_child-none (heard g) x.child) x.ticket broods

-- ---- a word has come, or there is room for one

module _ (g : Member → Inbox) (way : Path) (ticket c from : ℕ) (t p a : Tree Member) (q : List ℕ) (at : subtree way t ≡ Some p) (found : child_of ticket c p ≡ Some a)
    (rewrites : Rewrites from q (machine a).inbox (g (machine a))) (apart_from : (k : ℕ) → k ≢ from → queue_from k (g (machine a)) ≡ queue_from k (machine a).inbox)
    (other : from ≢ c) where
  abbrev trees : Trees Member
  trees = brood_of ticket (broods_of p)

  abbrev hearer : Branch
  hearer = record { ticket = ticket; child = c }

  there_is : subtree (child_path way ticket c) t ≡ Some a
  there_is = child-below way ticket c t (Some p) at ∙ found

  abbrev forest_then : Tree Member
  forest_then = at_path (heard g) (child_path way ticket c) t

  here-then : subtree (child_path way ticket c) forest_then ≡ Some (heard g a)
  here-then = at_path-here (heard g) (child_path way ticket c) t ∙ ap (option_map (heard g)) there_is

  above-then : subtree way forest_then ≡ Some (at_path (heard g) (hearer ∷ []) p)
  above-then =
      outside (heard g) (way ++ (hearer ∷ [])) way t (Some (hearer ∷ [])) (beyond-parent way hearer []) (beyond-append way (hearer ∷ []))
      ∙ ap (option_map (at_path (heard g) (hearer ∷ []))) at

  -- a sibling of it is as it was
  pub sibling-was : (k : ℕ) (u : Tree Member) → c ≢ k → subtree (child_path way ticket k) forest_then ≡ Some u → child_of ticket k p ≡ Some u
  sibling-was k u beside e =
      sym (child_at-other (heard g) c k trees beside)
      ∙ sym (ap (child_at k) (brood-then g hearer p))
      ∙ sym (child-below way ticket k forest_then (Some (at_path (heard g) (hearer ∷ []) p)) above-then) ∙ e

  -- the machine that sent it is on lease, and the one that it came to may wake
  pub word-wakes : (is_some_end : has_ended forest a ≡ false → is_empty q ≡ false)
      → ((u : Tree Member) → subtree (child_path way ticket from) forest_then ≡ Some u → (machine u).machine.place ≡ out)
      → WakesOne (Word from) (child_path way ticket c) (rests_in t) (rests_in forest_then) forest_then
  word-wakes some away = record {
    one = subst (λ o. IfSome o (λ (u : Tree Member). IsAwake u
        → IsWokenBy (Word from) (rests_in t (child_path way ticket c)) (rests_in forest_then (child_path way ticket c)) (machine u))) (sym here-then)
        (λ awake. woken-by (Word from) (heard g a) (talk_rests (child_path way ticket c) t) (rests_in t (child_path way ticket c))
        (rests_in forest_then (child_path way ticket c)) (λ u. refl) (was awake) (is awake));
    others = others-as g way ticket c from t a there_is apart_from (child_path way ticket from) (child_path way ticket c) (λ n lent woken. (woken, lent)) away;
  }
    where
      lived : IsAwake (heard g a) → has_ended forest a ≡ false
      lived awake = sym (heard-lives g a) ∙ awake.lives

      was : IsAwake (heard g a) → rests_in t (child_path way ticket c) ≡ (waits forest (heard g a) || talk_rests (child_path way ticket c) t)
      was awake =
          alive-rests (child_path way ticket c) t a there_is (lived awake)
          ∙ ap (λ own. own || talk_rests (child_path way ticket c) t) (sym (heard-waits g a))

      talks : IsAwake (heard g a) → talk_rests (child_path way ticket c) forest_then
          ≡ (not (heeds (Word from) (next_talk (machine (heard g a)))) && talk_rests (child_path way ticket c) t)
      talks awake =
          talk-now (heard g) way hearer t p a at found
          ∙ ap (λ what. rests-among ticket c (at_child (heard g) c trees) what (machine (heard g a))) (heard-talk g a)
          ∙ word-heeded g c trees a found from q rewrites other (some (lived awake)) (next_talk (machine a))
          ∙ ap₂ (λ what by_talk. not (heeds (Word from) what) && by_talk) (sym (heard-talk g a)) (sym (talk-at way hearer t p a at found))

      is : IsAwake (heard g a) → rests_in forest_then (child_path way ticket c)
          ≡ (waits forest (heard g a) || (not (heeds (Word from) (next_talk (machine (heard g a)))) && talk_rests (child_path way ticket c) t))
      is awake =
          alive-rests (child_path way ticket c) forest_then (heard g a) here-then awake.lives
          ∙ ap (λ by_talk. waits forest (heard g a) || by_talk) (talks awake)

  -- the machine that took it is on lease, and the one that sent it may wake
  pub room-wakes : is_full q ≡ false → (machine (heard g a)).machine.place ≡ out
      → WakesOne (Room c) (child_path way ticket from) (rests_in t) (rests_in forest_then) forest_then
  room-wakes room away = record {
    one = by (subtree (child_path way ticket from) forest_then) refl;
    others = others-as g way ticket c from t a there_is apart_from (child_path way ticket c) (child_path way ticket from) (λ n lent woken. (lent, woken))
        (λ u e. ap (λ (v : Tree Member). (machine v).machine.place) (some-same u (heard g a) (sym e ∙ here-then)) ∙ away);
  }
    where
      sender : Branch
      sender = record { ticket = ticket; child = from }

      by : (o : Option (Tree Member)) → subtree (child_path way ticket from) forest_then ≡ o → IfSome o (λ (u : Tree Member). IsAwake u
          → IsWokenBy (Room c) (rests_in t (child_path way ticket from)) (rests_in forest_then (child_path way ticket from)) (machine u))
      by None e = tt
      by (Some u) e = λ awake.
          let was = sibling-was from u (λ same. other (sym same)) e in
          let still : child_of ticket from (at_path (heard g) (hearer ∷ []) p) ≡ Some u =
          sym (child-below way ticket from forest_then (Some (at_path (heard g) (hearer ∷ []) p)) above-then) ∙ e in
          woken-by (Room c) u (talk_rests (child_path way ticket from) t) (rests_in t (child_path way ticket from)) (rests_in forest_then (child_path way ticket from)) (λ n. refl)
          (alive-rests (child_path way ticket from) t u (child-below way ticket from t (Some p) at ∙ was) awake.lives)
          (alive-rests (child_path way ticket from) forest_then u e awake.lives
          ∙ ap (λ by_talk. waits forest u || by_talk)
          (talk-at way sender forest_then (at_path (heard g) (hearer ∷ []) p) u above-then still
          ∙ ap (λ left. rests-among ticket from left (next_talk (machine u)) (machine u)) (brood-then g hearer p)
          ∙ room-heeded g c trees a found from q rewrites room (next_talk (machine u)) (machine u)
          ∙ ap (λ by_talk. not (heeds (Room c) (next_talk (machine u))) && by_talk) (sym (talk-at way sender t p u at was))))
