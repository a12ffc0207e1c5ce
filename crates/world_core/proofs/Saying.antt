-- A forest in which the words to one machine are others.
use Rattle.std.proofs.Common.{◌≡◌, ◌≢◌, ℕ, zero, suc, ◌+◌, ◌<◌, ◌≤◌, ◌&&◌, not, eqb, Bool, true, false, refl, sym, ap, ◌∙◌}
use Rattle.std.proofs.Common.{subst, List, [], ◌∷◌, ◌++◌, length, length-append, arith, Option, Some, None, IsSome, is_some}
use Rattle.std.proofs.lemmas.Bool.{and_parts, eqb-false, leb-false, ne_eqb, not-true}
use Rattle.fork_port.specs.declared.ending.Ending.{Ending}
use Rattle.forest_tree.specs.Tree.{Tree, node, machine, Branch, Path, subtree, at_path}
use Rattle.forest_tree.specs.Step.{has_ended, waits}
use Rattle.forest_tree.specs.Sound.{IsSound}
use Rattle.forest_tree.proofs.Sound.{KeepsTo, at_path-keeps}
use Rattle.sibling_forest.specs.Talk.{Inbox, at_queue, boxed, emptied, first_taken, queue}
use Rattle.sibling_forest.specs.Members.{HaveMembers, IsMember}
use Rattle.sibling_forest.specs.Settle.{delivered, heard_by, is_full, rests_at, with_word}
use Rattle.sibling_forest.specs.Laws.{child_number}
use Rattle.sibling_forest.proofs.Queues.{emptied-at, queue-other, taken-within}
use Rattle.talking_history.specs.Places.{spots, spot_talks}
use Rattle.forest_tree.proofs.Changes.{at_path-agree}
use Rattle.talking_history.specs.Changes.{to_sibling}
use Rattle.forest_model.specs.Paged.{paged_machines, paged_talks}
use Rattle.machine_names.specs.Name.{child_path}
use Rattle.world_core.specs.Shows.{Member, forest, next_talk, siblings_of}
use Rattle.world_core.specs.Spoken.{without_word}
use Rattle.world_core.specs.World.{IsForest, rests_in}
use Rattle.world_core.proofs.MembersKept.{MemberStays, path-members}
use Rattle.world_core.proofs.Spending.{at_path-there}
use Rattle.world_core.proofs.Steps.{forest-rules}

-- ---- a machine with other words to it

abbrev pub heard : (Member → Inbox) → Tree Member → Tree Member
heard g (node b broods log) = node (record b { inbox = g b }) broods log

module _ (g : Member → Inbox) where
  pub heard-spot : (a : Tree Member) → (machine (heard g a)).machine ≡ (machine a).machine
  heard-spot (node b broods log) = refl

  pub heard-inbox : (a : Tree Member) → (machine (heard g a)).inbox ≡ g (machine a)
  heard-inbox (node b broods log) = refl

  pub heard-lives : (a : Tree Member) → has_ended forest (heard g a) ≡ has_ended forest a
  unfolding boxed
  heard-lives (node b broods log) = refl

  pub heard-waits : (a : Tree Member) → waits forest (heard g a) ≡ waits forest a
  unfolding boxed
  heard-waits (node b broods log) = refl

  pub heard-talk : (a : Tree Member) → next_talk (machine (heard g a)) ≡ next_talk (machine a)
  heard-talk (node b broods log) = refl

  pub heard-below : (x : Branch) (rest : Path) (a : Tree Member) → subtree (x ∷ rest) (heard g a) ≡ subtree (x ∷ rest) a
  unfolding subtree
  heard-below x rest (node b broods log) = refl

  pub heard-rests : (x : Branch) (rest : Path) (a : Tree Member) → rests_in (heard g a) (x ∷ rest) ≡ rests_in a (x ∷ rest)
  unfolding rests_at
  heard-rests x [] (node b broods log) = refl
  heard-rests x (y ∷ rest) (node b broods log) = refl

  -- ---- the forest

  heard-have : (t : Tree Member) → HaveMembers (spots paged_machines) (spot_talks paged_talks) t → HaveMembers (spots paged_machines) (spot_talks paged_talks) (heard g t)
  unfolding HaveMembers
  heard-have (node b broods log) h = h

  heard-keeps : (t : Tree Member) → IsSound forest t → KeepsTo forest t (heard g t)
  unfolding IsSound boxed
  heard-keeps (node b broods log) h =
      record { sound = (record { good = h.0.good; ended = h.0.ended; one_each = h.0.one_each }, h.1); holding = refl }

  heard-siblings : (name : Path) (t : Tree Member) → siblings_of (machine (at_path (heard g) name t)) ≡ siblings_of (machine t)
  unfolding spot_talks at_path
  heard-siblings [] (node b broods log) = refl
  heard-siblings (x ∷ name) (node b broods log) = refl

  pub heard-whole : MemberStays (spots paged_machines) (spot_talks paged_talks) (heard g) → (name : Path) (t : Tree Member) → IsForest t
      → IsForest (at_path (heard g) name t)
  heard-whole stays name t h = record {
    sound = (at_path-keeps forest forest-rules (heard g) (λ u sound. heard-keeps u sound) name t h.sound).sound;
    members = path-members (spots paged_machines) (spot_talks paged_talks) (heard g) stays (λ u have. heard-have u have) name t h.members;
    root = heard-siblings name t ∙ h.root;
  }

heard-same : (g h : Member → Inbox) (a : Tree Member) → g (machine a) ≡ h (machine a) → heard g a ≡ heard h a
heard-same g h (node b broods log) same = ap (λ q. node (record b { inbox = q }) broods log) same

-- where the words to the machine of a name are the same
heard-alike : (g h : Member → Inbox) (name : Path) (t a : Tree Member) → IsSound forest t → subtree name t ≡ Some a → g (machine a) ≡ h (machine a)
    → at_path (heard g) name t ≡ at_path (heard h) name t
heard-alike g h name t a sound there same =
    at_path-there forest (heard g) name t a sound there
    ∙ ap (λ v. at_path (λ b. v) name t) (heard-same g h a same)
    ∙ sym (at_path-there forest (heard h) name t a sound there)

-- ---- a queue without its first word, and one with a word more

pub as-many : (f : List ℕ → List ℕ) (j : ℕ) (inbox : Inbox) → length (at_queue f j inbox) ≡ length inbox
unfolding at_queue
as-many f j [] = refl
as-many f zero (q ∷ rest) = refl
as-many f (suc zero) (q ∷ rest) = refl
as-many f (suc (suc j)) (q ∷ rest) = ap suc (as-many f (suc j) rest)

taken-emptied : (j : ℕ) (inbox : Inbox) → at_queue first_taken j (emptied inbox) ≡ emptied inbox
unfolding at_queue emptied
taken-emptied j [] = refl
taken-emptied zero (q ∷ rest) = refl
taken-emptied (suc zero) (q ∷ rest) = refl
taken-emptied (suc (suc j)) (q ∷ rest) = ap (λ (r : Inbox). [] ∷ r) (taken-emptied (suc j) rest)

none-left : (q : List ℕ) → length q ≤ 0 → q ≡ []
none-left [] few = refl
none-left (word ∷ rest) few = absurd (omega (arith, few))

-- a queue that is there
pub queue-here : (f : List ℕ → List ℕ) (i : ℕ) (inbox : Inbox) → 1 ≤ i → i ≤ length inbox → queue i (at_queue f i inbox) ≡ f (queue i inbox)
unfolding at_queue queue
queue-here f i [] first last = absurd (omega (arith, first, last))
queue-here f zero (q ∷ rest) first last = absurd (omega (arith, first))
queue-here f (suc zero) (q ∷ rest) first last = refl
queue-here f (suc (suc i)) (q ∷ rest) first last = queue-here f (suc i) rest (omega arith) (omega (arith, last))

few-at : (f : List ℕ → List ℕ) (i j : ℕ) (inbox : Inbox) → length (f (queue i inbox)) ≤ 8 → length (queue j inbox) ≤ 8 → length (queue j (at_queue f i inbox)) ≤ 8
unfolding at_queue queue
few-at f i j [] fits h = h
few-at f zero j (q ∷ rest) fits h = h
few-at f (suc zero) zero (q ∷ rest) fits h = h
few-at f (suc zero) (suc zero) (q ∷ rest) fits h = fits
few-at f (suc zero) (suc (suc j)) (q ∷ rest) fits h = h
few-at f (suc (suc i)) zero (q ∷ rest) fits h = h
few-at f (suc (suc i)) (suc zero) (q ∷ rest) fits h = h
few-at f (suc (suc i)) (suc (suc j)) (q ∷ rest) fits h = few-at f (suc i) (suc j) rest fits h

-- ---- a word is taken

abbrev pub taken : ℕ → Member → Inbox
taken j b = at_queue first_taken j b.inbox

taken-member : (j : ℕ) → MemberStays (spots paged_machines) (spot_talks paged_talks) (heard (taken j))
taken-member j count i (node b broods log) h = record {
  number = h.number;
  siblings = h.siblings;
  one_each = as-many first_taken j b.inbox ∙ h.one_each;
  within = λ l. omega (arith, taken-within j l b.inbox, h.within l);
  own = none-left (queue i (at_queue first_taken j b.inbox)) (omega (arith, taken-within j i b.inbox, ap (λ (q : List ℕ). length q) h.own));
  ended = λ over.
      ap (at_queue first_taken j) (h.ended over)
      ∙ taken-emptied j b.inbox
      ∙ sym (emptied-at first_taken j b.inbox);
}

pub taken-is : (j : ℕ) (t : Tree Member) → without_word j t ≡ heard (taken j) t
taken-is j (node b broods log) = refl

pub taken-path : (j : ℕ) (name : Path) (t : Tree Member) → at_path (without_word j) name t ≡ at_path (heard (taken j)) name t
taken-path j name t = at_path-agree (without_word j) (heard (taken j)) (taken-is j) name t

pub taken-whole : (j : ℕ) (name : Path) (t : Tree Member) → IsForest t → IsForest (at_path (heard (taken j)) name t)
taken-whole j name t h = heard-whole (taken j) (taken-member j) name t h

-- ---- a word comes

abbrev pub ending_of : Member → Option Ending
ending_of b = (spots paged_machines).ending b.machine

abbrev pub told_word : ℕ → ℕ → Member → Inbox
told_word i word b = (heard_by (spots paged_machines) (spot_talks paged_talks) (ending_of b) i word b).inbox

pub delivered-is : (i word : ℕ) (t : Tree Member) → delivered (spots paged_machines) (spot_talks paged_talks) i word t ≡ heard (told_word i word) t
delivered-is i word (node b broods log) = ap (λ c. node c broods log) (by (ending_of b))
  where
    by : (e : Option Ending) → heard_by (spots paged_machines) (spot_talks paged_talks) e i word b
        ≡ record b { inbox = (heard_by (spots paged_machines) (spot_talks paged_talks) e i word b).inbox }
    by None = refl
    by (Some ending) = refl

pub delivered-path : (i word : ℕ) (name : Path) (t : Tree Member)
    → at_path (delivered (spots paged_machines) (spot_talks paged_talks) i word) name t ≡ at_path (heard (told_word i word)) name t
delivered-path i word name t =
    at_path-agree (delivered (spots paged_machines) (spot_talks paged_talks) i word) (heard (told_word i word)) (delivered-is i word) name t

-- the same, but that no word comes to a queue that is full, nor to one from the machine itself
abbrev number_of : Member → ℕ
number_of b = (spot_talks paged_talks).number b.machine

abbrev has_room : ℕ → Member → Bool
has_room i b = not (is_some (ending_of b)) && (not (is_full (queue i b.inbox)) && not (eqb i (number_of b)))

abbrev word_if : Bool → ℕ → ℕ → Member → Inbox
word_if true i word b = at_queue (with_word word) i b.inbox
word_if false i word b = b.inbox

abbrev fitting : ℕ → ℕ → Member → Inbox
fitting i word b = word_if (has_room i b) i word b

word-fits : (word i l : ℕ) (inbox : Inbox) → is_full (queue i inbox) ≡ false → ((n : ℕ) → length (queue n inbox) ≤ 8)
    → length (queue l (at_queue (with_word word) i inbox)) ≤ 8
word-fits word i l inbox room within =
    let more : length (with_word word (queue i inbox)) ≡ length (queue i inbox) + 1 = length-append (queue i inbox) (word ∷ []) in
    let space : length (queue i inbox) < 8 = leb-false 8 (length (queue i inbox)) room in
    few-at (with_word word) i l inbox (omega arith) (within l)

fitting-member : (i word : ℕ) → MemberStays (spots paged_machines) (spot_talks paged_talks) (heard (fitting i word))
fitting-member i word count k (node b broods log) h = by (has_room i b) refl
  where
    by : (room : Bool) → has_room i b ≡ room → IsMember (spots paged_machines) (spot_talks paged_talks) count k (record b { inbox = word_if room i word b })
    by false e = record {
      number = h.number;
      siblings = h.siblings;
      one_each = h.one_each;
      within = h.within;
      own = h.own;
      ended = h.ended;
    }
    by true e =
        let lives = and_parts (not (is_some (ending_of b))) (not (is_full (queue i b.inbox)) && not (eqb i (number_of b))) e in
        let fits = and_parts (not (is_full (queue i b.inbox))) (not (eqb i (number_of b))) lives.1 in
        let none : is_some (ending_of b) ≡ false = not-true (is_some (ending_of b)) lives.0 in
        let other : i ≢ k = λ same. eqb-false i (number_of b) (not-true (eqb i (number_of b)) fits.1) (same ∙ sym h.number) in
        record {
          number = h.number;
          siblings = h.siblings;
          one_each = as-many (with_word word) i b.inbox ∙ h.one_each;
          within = λ l. word-fits word i l b.inbox (not-true (is_full (queue i b.inbox)) fits.0) h.within;
          own = queue-other (with_word word) i k b.inbox other ∙ h.own;
          ended = λ over. let no : true ≡ false = sym (some-true (ending_of b) over) ∙ none in absurd (cc);
        }
      where
        some-true : (e : Option Ending) → IsSome e → is_some e ≡ true
        some-true None some = absurd (cc)
        some-true (Some ending) some = refl

-- the words are put where they fit
fits-there : (i word : ℕ) (b : Member) → (ending_of b ≡ None → is_full (queue i b.inbox) ≡ false) → i ≢ number_of b → told_word i word b ≡ fitting i word b
fits-there i word b room other = by (ending_of b) room
  where
    fits : {full same : Bool} → full ≡ false → same ≡ false → word_if (not full && not same) i word b ≡ at_queue (with_word word) i b.inbox
    fits {full} {same} e d = ap (λ f. word_if (not f && not same) i word b) e ∙ ap (λ own. word_if (not own) i word b) d

    by : (e : Option Ending) → (e ≡ None → is_full (queue i b.inbox) ≡ false)
        → (heard_by (spots paged_machines) (spot_talks paged_talks) e i word b).inbox
        ≡ word_if (not (is_some e) && (not (is_full (queue i b.inbox)) && not (eqb i (number_of b)))) i word b
    by None room = sym (fits (room refl) (ne_eqb i (number_of b) other))
    by (Some ending) room = refl

pub told-whole : (i word : ℕ) (name : Path) (t a : Tree Member) → IsForest t → subtree name t ≡ Some a
    → (ending_of (machine a) ≡ None → is_full (queue i (machine a).inbox) ≡ false) → i ≢ (spot_talks paged_talks).number (machine a).machine
    → IsForest (at_path (heard (told_word i word)) name t)
told-whole i word name t a h there room other =
    subst IsForest (sym (heard-alike (told_word i word) (fitting i word) name t a h.sound there (fits-there i word (machine a) room other)))
    (heard-whole (fitting i word) (fitting-member i word) name t h)

-- ---- names beside a name

pub number-last : (parent : Path) (x : Branch) → child_number (parent ++ (x ∷ [])) ≡ x.child
unfolding child_number
number-last [] x = refl
number-last (b ∷ []) x = refl
number-last (b ∷ (c ∷ parent)) x = number-last (c ∷ parent) x

pub sibling-last : (j : ℕ) (parent : Path) (x : Branch) → to_sibling j (parent ++ (x ∷ [])) ≡ child_path parent x.ticket j
unfolding to_sibling
sibling-last j [] x = refl
sibling-last j (b ∷ []) x = refl
sibling-last j (b ∷ (c ∷ parent)) x = ap (λ (path : Path). b ∷ path) (sibling-last j (c ∷ parent) x)
