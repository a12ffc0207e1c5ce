-- The talk of a machine on lease, as far as it is of the words.
use Rattle.std.proofs.Common.{◌≡◌, ◌≢◌, ℕ, zero, suc, ◌≤◌, ◌&&◌, not, eqb, eqb-true, nat_le, Bool, true, false, cond, refl, sym, ap}
use Rattle.std.proofs.Common.{ap₂, ◌∙◌, subst, arith, List, [], ◌∷◌, ◌++◌, length, Option, Some, None, IsSome, is_some, option_map}
use Rattle.std.proofs.lemmas.Bool.{eqb-false, lt-leb}
use Rattle.std.specs.Option.{IfSome, IsSomeAnd}
use Rattle.std.specs.Ordering.{nat_cmp}
use Rattle.std.specs.Prelude.{Result, Ok, Err}
use Rattle.std.specs.Result.{OnErr}
use Rattle.std.specs.BTreeMap.{BTreeMap, WritesThrough, get}
use Rattle.std.specs.declared.alloc.Global.{Global}
use Rattle.std.specs.declared.boxed.Box.{Box}
use Rattle.fork_port.specs.declared.ending.Ending.{Ending}
use Rattle.image_depot.specs.Key.{Shelves}
use Rattle.image_depot.specs.Key.{number_of as key_number}
use Rattle.vm_cell.specs.declared.vm.fork.ForkImage.{ForkImage}
use Rattle.sibling_port.specs.declared.talk.Talk.{Talk}
use Rattle.sibling_port.specs.declared.talk.Talk.TheVariants.{Send, Receive}
use Rattle.forest_tree.specs.Tree.{Tree, node, Trees, no_tree, tree, machine, broods_of, brood_of, child_at, size, Branch, Path, subtree, at_path}
use Rattle.forest_tree.specs.Step.{has_ended}
use Rattle.forest_tree.proofs.Broods.{eqb-same}
use Rattle.forest_tree.proofs.Places.{some-same}
use Rattle.sibling_forest.specs.Talk as siblings
use Rattle.sibling_forest.specs.Talk.{at_queue, boxed, first_taken, queue}
use Rattle.sibling_forest.specs.Members.{IsMember}
use Rattle.sibling_forest.specs.Settle.{delivered, heard_by, is_empty, is_full, lives_there, with_word}
use Rattle.sibling_forest.specs.Laws.{child_number, queue_from}
use Rattle.sibling_forest.proofs.Queues.{queue-other, queue-same, still-words}
use Rattle.talking_history.specs.Places.{spots, spot_talks}
use Rattle.talking_history.specs.World.{is_asleep_at}
use Rattle.talking_history.specs.Changes.{to_sibling, told}
use Rattle.forest_model.specs.Forest.{tree_talk}
use Rattle.forest_model.specs.Paged.{paged_machines, paged_talks}
use Rattle.forest_model.proofs.Paged.{paged-talk}
use Rattle.machine_names.specs.Name.{child_path}
use Rattle.machine_names.specs.NameOrder.{path_cmp}
use Rattle.sibling_words.specs.Notes.{noted}
use Rattle.sibling_words.specs.Words as words
use Rattle.sibling_words.specs.Words.{words_of}
use Rattle.sibling_words.specs.declared.words.TheConstants.{MAX_WORDS}
use Rattle.ready_queue.specs.Ready.{Ready}
use Rattle.vm_cell.specs.Keyed.{KeyedMachine}
use Rattle.vm_cell.specs.Standing.{standing_talk}
use Rattle.world_core.specs.declared.cell.Awaited.{Awaited}
use Rattle.world_core.specs.declared.cell.Brood.{Brood}
use Rattle.world_core.specs.declared.cell.Cell.{Cell}
use Rattle.world_core.specs.declared.cell.Change.{Change}
use Rattle.world_core.specs.declared.cell.Change.TheVariants.{Word, Room}
use Rattle.world_core.specs.declared.cell.State.TheVariants.{Parked}
use Rattle.world_core.specs.declared.cell.talks.Said.{Said}
use Rattle.world_core.specs.declared.cell.talks.Said.TheVariants as said
use Rattle.world_core.specs.declared.world.World.{World}
use Rattle.world_core.specs.Answers.{IsHandedOut, stands_waiting_of}
use Rattle.world_core.specs.Images.{HasImages, Images, IsBroodAt, IsStateAt}
use Rattle.world_core.specs.Kin.{IsKin}
use Rattle.world_core.specs.Lent.{IsLent, Lent, now_of, vm_of}
use Rattle.world_core.specs.Shows.{Member, forest, AreTold, BroodShows, CellShows, IsAwake, child_of, slot_at}
use Rattle.world_core.specs.Spoken.{NotesPeer, Spoke, said_forest, without_word, word_of}
use Rattle.world_core.specs.Stirring.{WakesOne}
use Rattle.world_core.specs.Talking.{HaveSameSlots, Hears, IsSameBut, IsUnheard, MaySay, SaysSo, SaysTo, Parks, change_by, lives_in, parked_in, peer_of, waits_in}
use Rattle.world_core.specs.World.{Forest, IsForest, ShowsEach, ShowsTree, StandsFor, rests_in}
use Rattle.world_core.proofs.Awake.{child-below}
use Rattle.world_core.proofs.Heard.{Rewrites, brood-alike, brood-heard, cell-heard, cell-told, each-heard, each-told, slots-alike, told-noted, told-unheard}
use Rattle.world_core.proofs.Hearing.{and-false, queue_from-other, room-wakes, root-heard, sibling-was, word-wakes}
use Rattle.world_core.proofs.Leaving.{same-parent}
use Rattle.sibling_forest.proofs.MemberAt.{member-of}
use Rattle.world_core.proofs.Returns.{Handed, gone, handed, some-is, there, there-is, written-apart, written-here}
use Rattle.world_core.proofs.Saying.{delivered-path, ending_of, heard, number-last, queue-here, sibling-last, taken, taken-path, taken-whole, told-whole, told_word}
use Rattle.world_core.proofs.Siblings.{IsBeside, TalksHere, child-talks, peer-is, talks-here}
use Rattle.world_core.proofs.SlotChanges.{brood-size, child-place}
use Rattle.world_core.proofs.Steps.{lease-numbers, lent_out, talking}
use Rattle.world_core.proofs.Waiting.{sibling-lives}
use Rattle.world_core.proofs.Waking.{last-same}

-- a child of each number
child-within : (trees : Trees Member) (j : ℕ) → 1 ≤ j → j ≤ size trees → (a : Tree Member) × (child_at j trees ≡ Some a)
unfolding child_at size
child-within no_tree j first last = absurd (omega (arith, first, last))
child-within (tree t rest) zero first last = absurd (omega (arith, first))
child-within (tree t rest) (suc zero) first last = (t, refl)
child-within (tree t rest) (suc (suc j)) first last = child-within rest (suc j) (omega arith) (omega (arith, last))

-- the name of a machine ends as its parent's tells
pub kin-named : (parent name : Path) (ticket k : ℕ) → IsKin (Some parent) name → (way : Path) × (name ≡ child_path way ticket k) → name ≡ child_path parent ticket k
kin-named parent name ticket k kin last =
    last.1 ∙ ap (λ way. child_path way ticket k)
    (same-parent last.0 parent (record { ticket = ticket; child = k }) (record { ticket = kin.0; child = kin.1 }) (sym last.1 ∙ kin.2))

-- ---- a machine that stands at a talk, with the sibling that it names

pub record Speaks (depot : Shelves) (w : World) (f : Forest) (lease : Lent) (what : Talk) (parent : Path) (x : Branch) : Type 0 where
  pub whole : IsForest f.tree
  pub halted : w.halted ≡ f.halted
  pub here : TalksHere depot w f lease
  pub stands : standing_talk (vm_of lease) ≡ Some what
  pub named : lease.name ≡ parent ++ (x ∷ [])
  pub with_kin : IsBeside depot (rests_in f.tree) w f.tree parent x (node (lent_out here.inbox here.start) here.broods here.log)
  pub may : MaySay x.child what with_kin.brood
  pub waits : stands_waiting_of (vm_of lease) lease.name f.tree ≡ waits_in with_kin.brood x.child what
  pub sibling : Tree Member
  pub is_sibling : child_of x.ticket (peer_of what) with_kin.above ≡ Some sibling
  pub first : 1 ≤ x.child
  pub last : x.child ≤ size (brood_of x.ticket (broods_of with_kin.above))
  pub own : IsMember (spots paged_machines) (spot_talks paged_talks) (size (brood_of x.ticket (broods_of with_kin.above))) x.child (lent_out here.inbox here.start)
  pub its : IsMember (spots paged_machines) (spot_talks paged_talks) (size (brood_of x.ticket (broods_of with_kin.above))) (peer_of what) (machine sibling)
  pub other : peer_of what ≢ x.child

pub speaks : (depot : Shelves) (w : World) (f : Forest) (lease : Lent) (what : Talk) (parent : Path) (x : Branch) → StandsFor depot w f → IsHandedOut f lease
    → IsLent lease.start lease.ran lease.now → IsSome (subtree lease.name f.tree) → standing_talk (vm_of lease) ≡ Some what → lease.name ≡ parent ++ (x ∷ [])
    → Speaks depot w f lease what parent x
unfolding spot_talks
speaks depot w f lease what parent x h out_as lent some stands named =
    let here = talks-here depot w f lease h out_as lent some in
    let known = child-talks depot w f lease what parent x h.whole here stands named in
    let b = known.0 in
    let many = brood-size depot parent b.cell b.above x.ticket b.brood b.shows.holds b.has in
    let place = child-place depot parent b.cell b.above (node (lent_out here.inbox here.start) here.broods here.log) x.ticket x.child b.brood b.shows.holds b.is_child b.has in
    let u = child-within (brood_of x.ticket (broods_of b.above)) (peer_of what) known.1.least (omega (arith, known.1.most, many)) in
    let own = member-of (spots paged_machines) (spot_talks paged_talks) parent x f.tree b.above (node (lent_out here.inbox here.start) here.broods here.log) h.whole.members b.at b.is_child in
    let number : paged_talks.number (now_of lease) ≡ x.child = (lease-numbers here.start (now_of lease) lease.ran here.has).number ∙ own.number in
    record {
      whole = h.whole;
      halted = h.halted;
      here = here;
      stands = stands;
      named = named;
      with_kin = b;
      may = known.1;
      waits = known.2;
      sibling = u.0;
      is_sibling = u.1;
      first = place.0;
      last = omega (arith, place.0, place.1, many);
      own = own;
      its = member-of (spots paged_machines) (spot_talks paged_talks) parent (record { ticket = x.ticket; child = peer_of what }) f.tree b.above u.0 h.whole.members b.at u.1;
      other = λ same. paged-talk.other (now_of lease) (tree_talk what) (talking (vm_of lease) what stands).1 (peer-is what ∙ same ∙ sym number);
    }

-- ---- the world once its parent's cell is another

pub record IsToldIn (w v : World) (parent : Path) (ticket : ℕ) (c : Cell) (old : Brood) : Type 0 where
  pub cell : Cell
  pub new : Brood
  pub found : get path_cmp v.cells parent ≡ Some cell
  pub others : (n : Path) → parent ≢ n → get path_cmp v.cells n ≡ get path_cmp w.cells n
  pub ready : v.ready ≡ w.ready
  pub halted : v.halted ≡ w.halted
  pub outcome : v.outcome ≡ w.outcome
  pub but : IsSameBut c cell
  pub broods : (u : ℕ) → u ≢ ticket → get nat_cmp cell.broods u ≡ get nat_cmp c.broods u
  pub has : get nat_cmp cell.broods ticket ≡ Some new
  pub same : HaveSameSlots old new

-- a world in which one may wake
pub record IsToWake (depot : Shelves) (v : World) (f : Forest) (t : Tree Member) (change : Change) (name : Path) : Type 0 where
  pub whole : IsForest t
  pub root : IsAwake t
  pub halted : v.halted ≡ f.halted
  pub going : v.outcome ≡ None
  pub each : ShowsEach depot (rests_in f.tree) v t
  pub wakes : WakesOne change name (rests_in f.tree) (rests_in t) t

pub woken-stands : (depot : Shelves) (v u : World) (f : Forest) (t : Tree Member) (change : Change) (name : Path) → IsToWake depot v f t change name
    → ShowsEach depot (rests_in t) u t → u.halted ≡ v.halted → u.outcome ≡ v.outcome → StandsFor depot u (record f { tree = t })
woken-stands depot v u f t change name h each halted outcome = record {
  whole = h.whole;
  halted = halted ∙ h.halted;
  tree = subst (λ o. ShowsTree o depot u t) (sym (outcome ∙ h.going)) (record { root = h.root; each = each });
}

-- no word waits but those that do
unheard-hears : (old new : Brood) (to from : ℕ) → IsUnheard old new → Hears to from (words_of old.words to from) old new
unheard-hears old new to from same = record { words = λ k i. by k i (eqb k to) (eqb i from) refl refl; notes = same.notes; room = same.room }
  where
    by : (k i : ℕ) (a b : Bool) → eqb k to ≡ a → eqb i from ≡ b
        → words_of new.words k i ≡ cond (eqb k to && eqb i from) (words_of old.words to from) (words_of old.words k i)
    by k i true true e d =
        same.words k i
        ∙ ap₂ (λ m n. words_of old.words m n) (eqb-true k to e) (eqb-true i from d)
        ∙ sym (ap₂ (λ u v. cond (u && v) (words_of old.words to from) (words_of old.words k i)) e d)
    by k i true false e d = same.words k i ∙ sym (ap₂ (λ u v. cond (u && v) (words_of old.words to from) (words_of old.words k i)) e d)
    by k i false b e d = same.words k i ∙ sym (ap (λ u. cond (u && eqb i from) (words_of old.words to from) (words_of old.words k i)) e)

-- what the words to a sibling are that was sent one
record IsSentTo (i j word : ℕ) (old new : Brood) (u : Tree Member) : Type 0 where
  q : List ℕ
  hears : Hears j i q old new
  rewrites : Rewrites i q (machine u).inbox (told_word i word (machine u))
  some : has_ended forest u ≡ false → is_empty q ≡ false
  apart_from : (k : ℕ) → k ≢ i → queue_from k (told_word i word (machine u)) ≡ queue_from k (machine u).inbox

sent-to : (i j word : ℕ) (old new : Brood) (u : Tree Member) → 1 ≤ i → i ≤ length (machine u).inbox → ((l : ℕ) → queue l (machine u).inbox ≡ words_of old.words j l)
    → (lives : Bool) → lives ≡ not (is_some (ending_of (machine u))) → SaysTo lives old i j word new → IsSentTo i j word old new u
unfolding boxed
sent-to i j word old new u first last words lives e says = by (ending_of (machine u)) refl lives e says
  where
    told_by : (o : Option Ending) → ending_of (machine u) ≡ o
        → told_word i word (machine u) ≡ (heard_by (spots paged_machines) (spot_talks paged_talks) o i word (machine u)).inbox
    told_by o is = ap (λ p. (heard_by (spots paged_machines) (spot_talks paged_talks) p i word (machine u)).inbox) is

    by : (o : Option Ending) → ending_of (machine u) ≡ o → (lives : Bool) → lives ≡ not (is_some (ending_of (machine u))) → SaysTo lives old i j word new
        → IsSentTo i j word old new u
    by None is true e says = record {
      q = with_word word (words_of old.words j i);
      hears = says;
      rewrites = record {
        here = ap (queue i) (told_by None is) ∙ queue-here (with_word word) i (machine u).inbox first last ∙ ap (with_word word) (words i);
        others = λ l other. ap (queue l) (told_by None is) ∙ queue-other (with_word word) i l (machine u).inbox (λ same. other (sym same));
      };
      some = λ lives. still-words word (words_of old.words j i);
      apart_from = λ k other. ap (queue_from k) (told_by None is) ∙ queue_from-other (with_word word) i k (machine u).inbox other;
    }
    by None is false e says = let no : false ≡ true = e ∙ ap (λ o. not (is_some o)) is in absurd (cc)
    by (Some ending) is true e says = let no : true ≡ false = e ∙ ap (λ o. not (is_some o)) is in absurd (cc)
    by (Some ending) is false e says = record {
      q = words_of old.words j i;
      hears = unheard-hears old new j i says;
      rewrites = record {
        here = ap (queue i) (told_by (Some ending) is) ∙ words i;
        others = λ l other. ap (queue l) (told_by (Some ending) is);
      };
      some = λ lives. let no : true ≡ false = sym (ap is_some is) ∙ lives in absurd (cc);
      apart_from = λ k other. ap (queue_from k) (told_by (Some ending) is);
    }

module _ (depot : Shelves) (w v : World) (f : Forest) (lease : Lent) (what : Talk) (parent : Path) (x : Branch) (s : Speaks depot w f lease what parent x)
    (told_in : IsToldIn w v parent x.ticket s.with_kin.cell s.with_kin.brood) where
  abbrev before : Tree Member
  before = node (lent_out s.here.inbox s.here.start) s.here.broods s.here.log

  abbrev trees : Trees Member
  trees = brood_of x.ticket (broods_of s.with_kin.above)

  abbrev old : Brood
  old = s.with_kin.brood

  abbrev new : Brood
  new = told_in.new

  -- ---- the forest is the same

  same-stands : AreTold new.words new.notes trees → StandsFor depot v f
  same-stands told_so = record {
    whole = s.whole;
    halted = told_in.halted ∙ s.halted;
    tree = subst (λ o. ShowsTree o depot v f.tree) (sym (told_in.outcome ∙ s.here.is.going)) (record {
      root = s.here.is.live.root;
      each = each-told depot w v f.tree (rests_in f.tree) s.here.is.live.each parent s.with_kin.cell told_in.cell s.with_kin.found told_in.found told_in.others
          told_in.ready told_in.but.is_listed (λ p at. shows p (some-same s.with_kin.above p (sym s.with_kin.at ∙ at)));
    });
  }
    where
      shows : (p : Tree Member) → s.with_kin.above ≡ p → CellShows depot parent (rests_in f.tree parent) s.with_kin.cell p
          → CellShows depot parent (rests_in f.tree parent) told_in.cell p
      shows p same h =
          cell-told depot parent (rests_in f.tree parent) s.with_kin.cell told_in.cell x.ticket old new told_in.but told_in.broods s.with_kin.has told_in.has told_in.same p h
          (subst (λ (t : Tree Member). BroodShows depot parent x.ticket new (brood_of x.ticket (broods_of t))) same
          (brood-alike depot parent x.ticket old new trees (slots-alike old new told_in.same) told_so s.with_kin.held))

  pub unheard-stands : IsUnheard old new → StandsFor depot v f
  unheard-stands unheard = same-stands (told-unheard old new trees unheard s.with_kin.held.heard)

  pub waits-stands : SaysSo old x.child what (word_of lease) said.Waits new → StandsFor depot v f
  waits-stands says = same-stands
      (told-noted old new trees x.child (peer_of what) says.1 says.2 says.3
      (λ t found. ap (λ (u : Tree Member). (machine u).machine.place) (some-same t before (sym found ∙ s.with_kin.is_child))) s.with_kin.held.heard)

  -- ---- a word was sent

  module _ (j : ℕ) (sends : what ≡ Send j) where
    abbrev sib : Path
    sib = child_path parent x.ticket j

    abbrev sent_tree : Tree Member
    sent_tree = at_path (heard (told_word x.child (word_of lease))) sib f.tree

    peer-j : peer_of what ≡ j
    peer-j = ap peer_of sends

    is-child : child_of x.ticket j s.with_kin.above ≡ Some s.sibling
    is-child = ap (λ n. child_of x.ticket n s.with_kin.above) (sym peer-j) ∙ s.is_sibling

    sib-there : subtree sib f.tree ≡ Some s.sibling
    sib-there = child-below parent x.ticket j f.tree (Some s.with_kin.above) s.with_kin.at ∙ is-child

    its-words : (l : ℕ) → queue l (machine s.sibling).inbox ≡ words_of old.words j l
    its-words l = s.with_kin.held.heard.words j s.sibling is-child l

    its-life : lives_in (slot_at j old.slots.items) ≡ not (is_some (ending_of (machine s.sibling)))
    its-life =
        sibling-lives depot parent x.ticket old trees s.with_kin.held j (subst (λ n. 1 ≤ n) peer-j s.may.least)
        ∙ ap (λ c. lives_there (spots paged_machines) (spot_talks paged_talks) (option_map machine c)) is-child

    not-own : x.child ≢ j
    not-own same = s.other (peer-j ∙ sym same)

    goes-on : waits_in old x.child what ≡ waits_in old x.child (Send j)
    goes-on = ap (waits_in old x.child) sends

    -- a queue to one that lives has room
    has-room : waits_in old x.child (Send j) ≡ false → ending_of (machine s.sibling) ≡ None → is_full (queue x.child (machine s.sibling).inbox) ≡ false
    has-room goes lives =
        ap is_full (its-words x.child)
        ∙ sym (ap (λ life. life && nat_le MAX_WORDS (length (words_of old.words j x.child))) (its-life ∙ ap (λ o. not (is_some o)) lives))
        ∙ goes

    pub sent-waking : SaysSo old x.child (Send j) (word_of lease) said.Sent new → IsToWake depot v f sent_tree (Word x.child) sib
    sent-waking says =
        let sent = sent-to x.child j (word_of lease) old new s.sibling s.first (omega (arith, s.last, s.its.one_each)) its-words
        (lives_in (slot_at j old.slots.items)) its-life says.1 in
        record {
          whole = told-whole x.child (word_of lease) sib f.tree s.sibling s.whole sib-there (has-room says.0) (λ same. not-own (same ∙ s.its.number ∙ peer-j));
          root = awake-by (root-heard (told_word x.child (word_of lease)) parent (record { ticket = x.ticket; child = j }) f.tree);
          halted = told_in.halted ∙ s.halted;
          going = told_in.outcome ∙ s.here.is.going;
          each = each-heard depot w v f.tree (rests_in f.tree) s.here.is.live.each parent s.with_kin.cell told_in.cell s.with_kin.found told_in.found told_in.others
              told_in.ready told_in.but.is_listed (told_word x.child (word_of lease)) (record { ticket = x.ticket; child = j }) s.sibling s.with_kin.above s.with_kin.at sib-there
              (cell-heard depot parent (rests_in f.tree parent) s.with_kin.cell told_in.cell x.ticket old new told_in.but told_in.broods s.with_kin.has told_in.has
              told_in.same (told_word x.child (word_of lease)) j s.with_kin.above s.with_kin.shows
              (brood-heard (told_word x.child (word_of lease)) j x.child sent.q old new trees s.sibling is-child sent.rewrites sent.hears s.with_kin.held.heard
              depot parent x.ticket (slots-alike old new told_in.same) s.with_kin.held));
          wakes = word-wakes (told_word x.child (word_of lease)) parent x.ticket j x.child f.tree s.with_kin.above s.sibling sent.q s.with_kin.at is-child sent.rewrites
              sent.apart_from not-own sent.some (λ u e.
              ap (λ (t : Tree Member). (machine t).machine.place)
              (some-same u before (sym (sibling-was (told_word x.child (word_of lease)) parent x.ticket j x.child f.tree s.with_kin.above s.sibling sent.q s.with_kin.at is-child
              sent.rewrites sent.apart_from not-own x.child u (λ same. not-own (sym same)) e) ∙ s.with_kin.is_child)));
        }
      where
        awake-by : {t : Tree Member} → machine t ≡ machine f.tree → IsAwake t
        awake-by {t} same = record {
          lives = ap (λ (b : Member). is_some (forest.ending b)) same ∙ s.here.is.live.root.lives;
          awake = ap (λ (b : Member). is_asleep_at b.machine.place) same ∙ s.here.is.live.root.awake;
        }

    -- it is what a talk makes of the forest
    pub sent-tree : told (spots paged_machines) (spot_talks paged_talks) (Some (siblings.send j)) (word_of lease) lease.name f.tree ≡ sent_tree
    sent-tree =
        ap (λ n. at_path (delivered (spots paged_machines) (spot_talks paged_talks) (child_number n) (word_of lease)) (to_sibling j n) f.tree) s.named
        ∙ ap₂ (λ i path. at_path (delivered (spots paged_machines) (spot_talks paged_talks) i (word_of lease)) path f.tree) (number-last parent x) (sibling-last j parent x)
        ∙ delivered-path x.child (word_of lease) sib f.tree

  -- ---- a word was received

  module _ (j : ℕ) (receives : what ≡ Receive j) where
    its-number : peer_of what ≡ j
    its-number = ap peer_of receives

    own-words : queue j s.here.inbox ≡ words_of old.words x.child j
    own-words = s.with_kin.held.heard.words x.child before s.with_kin.is_child j

    abbrev taken_tree : Tree Member
    taken_tree = at_path (heard (taken j)) (child_path parent x.ticket x.child) f.tree

    apart-from : j ≢ x.child
    apart-from same = s.other (its-number ∙ same)

    own-there : subtree (child_path parent x.ticket x.child) f.tree ≡ Some before
    own-there = child-below parent x.ticket x.child f.tree (Some s.with_kin.above) s.with_kin.at ∙ s.with_kin.is_child

    module _ (word : ℕ) (says : SaysSo old x.child (Receive j) (word_of lease) (said.Received word) new) where
      abbrev q : List ℕ
      q = words_of new.words x.child j

      was-words : queue j s.here.inbox ≡ word ∷ q
      was-words = own-words ∙ says.0

      taken-rewrites : Rewrites j q s.here.inbox (at_queue first_taken j s.here.inbox)
      taken-rewrites = record {
        here = queue-same first_taken j s.here.inbox (ap is_empty was-words) ∙ ap first_taken was-words;
        others = λ l other. queue-other first_taken j l s.here.inbox (λ same. other (sym same));
      }

      -- there is room for a word then
      room-then : is_full q ≡ false
      room-then =
          let more : length (queue j s.here.inbox) ≡ suc (length q) = ap (λ (l : List ℕ). length l) was-words in
          lt-leb 8 (length q) (omega (arith, more, s.own.within j))

      pub taken-waking : IsToWake depot v f taken_tree (Room x.child) (child_path parent x.ticket j)
      taken-waking = record {
        whole = taken-whole j (child_path parent x.ticket x.child) f.tree s.whole;
        root = record {
          lives = ap (λ (b : Member). is_some (forest.ending b)) (root-heard (taken j) parent x f.tree) ∙ s.here.is.live.root.lives;
          awake = ap (λ (b : Member). is_asleep_at b.machine.place) (root-heard (taken j) parent x f.tree) ∙ s.here.is.live.root.awake;
        };
        halted = told_in.halted ∙ s.halted;
        going = told_in.outcome ∙ s.here.is.going;
        each = each-heard depot w v f.tree (rests_in f.tree) s.here.is.live.each parent s.with_kin.cell told_in.cell s.with_kin.found told_in.found told_in.others
            told_in.ready told_in.but.is_listed (taken j) x before s.with_kin.above s.with_kin.at own-there
            (cell-heard depot parent (rests_in f.tree parent) s.with_kin.cell told_in.cell x.ticket old new told_in.but told_in.broods s.with_kin.has told_in.has
            told_in.same (taken j) x.child s.with_kin.above s.with_kin.shows
            (brood-heard (taken j) x.child j q old new trees before s.with_kin.is_child taken-rewrites says.1 s.with_kin.held.heard
            depot parent x.ticket (slots-alike old new told_in.same) s.with_kin.held));
        wakes = room-wakes (taken j) parent x.ticket x.child j f.tree s.with_kin.above before q s.with_kin.at s.with_kin.is_child taken-rewrites
            (λ k other. queue_from-other first_taken j k s.here.inbox other) apart-from room-then refl;
      }

      pub received-spoke : (stands_waiting_of (vm_of lease) lease.name f.tree ≡ false)
          × IsSomeAnd (subtree lease.name f.tree) (λ (t : Tree Member). (rest : List ℕ) × (queue j (machine t).inbox ≡ word ∷ rest))
      received-spoke = (
        s.waits ∙ ap (waits_in old x.child) receives
            ∙ ap (λ (l : List ℕ). lives_in (slot_at j old.slots.items) && words.is_empty l) says.0
            ∙ and-false (lives_in (slot_at j old.slots.items)),
        subst (λ o. IsSomeAnd o (λ (t : Tree Member). (rest : List ℕ) × (queue j (machine t).inbox ≡ word ∷ rest))) (sym s.here.is.there) (q, was-words),
      )

    pub taken-tree : at_path (without_word j) lease.name f.tree ≡ taken_tree
    taken-tree = ap (λ n. at_path (without_word j) n f.tree) s.named ∙ taken-path j (child_path parent x.ticket x.child) f.tree

    pub ended-spoke : SaysSo old x.child (Receive j) (word_of lease) said.Ended new
        → (stands_waiting_of (vm_of lease) lease.name f.tree ≡ false) × IsSomeAnd (subtree lease.name f.tree) (λ (t : Tree Member). queue j (machine t).inbox ≡ [])
    ended-spoke says = (
      s.waits ∙ ap (waits_in old x.child) receives ∙ ap (λ life. life && words.is_empty (words_of old.words x.child j)) says.0,
      subst (λ o. IsSomeAnd o (λ (t : Tree Member). queue j (machine t).inbox ≡ [])) (sym s.here.is.there) (own-words ∙ says.1),
    )

-- ---- what became of it

module _ (depot : Shelves) (w v : World) (f : Forest) (lease : Lent) (what : Talk) (parent : Path) (x : Branch) (s : Speaks depot w f lease what parent x)
    (told_in : IsToldIn w v parent x.ticket s.with_kin.cell s.with_kin.brood) where
  -- where it has changed nothing for the sibling
  pub quiet-stands : (became : Said) (u : Talk) → what ≡ u → SaysSo s.with_kin.brood x.child u (word_of lease) became told_in.new → change_by became x.child ≡ None
      → StandsFor depot v (said_forest lease u became f)
  quiet-stands said.Waits (Send j) is says none =
      waits-stands depot w v f lease what parent x s told_in
      (subst (λ t. SaysSo s.with_kin.brood x.child t (word_of lease) said.Waits told_in.new) (sym is) says)
  quiet-stands said.Waits (Receive j) is says none =
      waits-stands depot w v f lease what parent x s told_in
      (subst (λ t. SaysSo s.with_kin.brood x.child t (word_of lease) said.Waits told_in.new) (sym is) says)
  quiet-stands said.Sent u is says none = absurd (cc)
  quiet-stands (said.Received word) u is says none = absurd (cc)
  quiet-stands said.Ended (Send j) is says none = absurd says
  quiet-stands said.Ended (Receive j) is says none = unheard-stands depot w v f lease what parent x s told_in says.2

  -- where it has
  pub record IsWaking (u : Talk) (became : Said) (change : Change) : Type 0 where
    pub tree : Tree Member
    pub wakes : IsToWake depot v f tree change (child_path parent x.ticket (peer_of u))
    pub is : (said_forest lease u became f).tree ≡ tree
    pub halted : (said_forest lease u became f).halted ≡ f.halted

  pub waking : (became : Said) (u : Talk) (change : Change) → what ≡ u → SaysSo s.with_kin.brood x.child u (word_of lease) became told_in.new
      → change_by became x.child ≡ Some change → IsWaking u became change
  waking said.Waits u change is says some = absurd (cc)
  waking said.Sent (Send j) change is says some =
      let same : Word x.child ≡ change = cc in
      record {
        tree = at_path (heard (told_word x.child (word_of lease))) (child_path parent x.ticket j) f.tree;
        wakes = subst (λ c. IsToWake depot v f (at_path (heard (told_word x.child (word_of lease))) (child_path parent x.ticket j) f.tree) c (child_path parent x.ticket j)) same
            (sent-waking depot w v f lease what parent x s told_in j is says);
        is = sent-tree depot w v f lease what parent x s told_in j is;
        halted = refl;
      }
  waking said.Sent (Receive j) change is says some = absurd says
  waking (said.Received word) (Send j) change is says some = absurd says
  waking (said.Received word) (Receive j) change is says some =
      let same : Room x.child ≡ change = cc in
      record {
        tree = at_path (heard (taken j)) (child_path parent x.ticket x.child) f.tree;
        wakes = subst (λ c. IsToWake depot v f (at_path (heard (taken j)) (child_path parent x.ticket x.child) f.tree) c (child_path parent x.ticket j)) same
            (taken-waking depot w v f lease what parent x s told_in j is word says);
        is = taken-tree depot w v f lease what parent x s told_in j is;
        halted = refl;
      }
  waking said.Ended u change is says some = absurd (cc)

  -- when it became this
  pub spoke-by : (became : Said) (u : Talk) → what ≡ u → SaysSo s.with_kin.brood x.child u (word_of lease) became told_in.new → Spoke f lease u became
  spoke-by said.Waits (Send j) is says = s.waits ∙ ap (waits_in s.with_kin.brood x.child) is ∙ says.0
  spoke-by said.Waits (Receive j) is says = s.waits ∙ ap (waits_in s.with_kin.brood x.child) is ∙ says.0
  spoke-by said.Sent (Send j) is says = s.waits ∙ ap (waits_in s.with_kin.brood x.child) is ∙ says.0
  spoke-by said.Sent (Receive j) is says = absurd says
  spoke-by (said.Received word) (Send j) is says = absurd says
  spoke-by (said.Received word) (Receive j) is says = received-spoke depot w v f lease what parent x s told_in j is word says
  spoke-by said.Ended (Send j) is says = absurd says
  spoke-by said.Ended (Receive j) is says = ended-spoke depot w v f lease what parent x s told_in j is says

-- the world stands for the forest then, once the sibling is told
pub waking-stands : (depot : Shelves) (v z : World) (f g : Forest) (t : Tree Member) (change : Change) (name : Path) → IsToWake depot v f t change name
    → g.tree ≡ t → g.halted ≡ f.halted → ShowsEach depot (rests_in t) z t → z.halted ≡ v.halted → z.outcome ≡ v.outcome → StandsFor depot z g
waking-stands depot v z f g t change name wakes same_tree same each halted outcome = record {
  whole = subst IsForest (sym same_tree) wakes.whole;
  halted = halted ∙ wakes.halted ∙ sym same;
  tree = subst (ShowsTree z.outcome depot z) (sym same_tree)
      (subst (λ o. ShowsTree o depot z t) (sym (outcome ∙ wakes.going)) (record { root = wakes.root; each = each }));
}

-- ---- what the parent's cell told

-- it tells of the brood, and of no other
pub said-in : (depot : Shelves) (w : World) (f : Forest) (lease : Lent) (what : Talk) (parent : Path) (x : Branch) (s : Speaks depot w f lease what parent x)
    (cells : BTreeMap Path Cell) (c d : Cell) (P : Brood → Brood → Type 0) → Some c ≡ get path_cmp w.cells parent → WritesThrough path_cmp (path_cmp parent) w.cells d cells
    → IsSameBut c d → ((u : ℕ) → u ≢ x.ticket → get nat_cmp d.broods u ≡ get nat_cmp c.broods u)
    → ((b : Brood) → get nat_cmp c.broods x.ticket ≡ Some b → IsSomeAnd (get nat_cmp d.broods x.ticket) (λ e. P b e × HaveSameSlots b e))
    → (told_in : IsToldIn w (record w { cells = cells }) parent x.ticket s.with_kin.cell s.with_kin.brood) × P s.with_kin.brood told_in.new
said-in depot w f lease what parent x s cells c d P found written but others says =
    let one : Some c ≡ Some s.with_kin.cell = found ∙ s.with_kin.found in
    let same : c ≡ s.with_kin.cell = cc in
    let is = there-is (get nat_cmp d.broods x.ticket) (λ e. P s.with_kin.brood e × HaveSameSlots s.with_kin.brood e)
    (says s.with_kin.brood (ap (λ (cell : Cell). get nat_cmp cell.broods x.ticket) same ∙ s.with_kin.has)) in
    let some = some-is c (get path_cmp w.cells parent) found in (
      record {
        cell = d;
        new = is.0;
        found = written-here w.cells cells parent d written some;
        others = written-apart w.cells cells parent d written some;
        ready = refl;
        halted = refl;
        outcome = refl;
        but = subst (λ (cell : Cell). IsSameBut cell d) same but;
        broods = λ u other. others u other ∙ ap (λ (cell : Cell). get nat_cmp cell.broods u) same;
        has = is.1;
        same = is.2.1;
      },
      is.2.0,
    )

pub said-so : (depot : Shelves) (w : World) (f : Forest) (lease : Lent) (what : Talk) (parent : Path) (x : Branch) (s : Speaks depot w f lease what parent x)
    (cells : BTreeMap Path Cell) (c d : Cell) (became : Said) (word : ℕ) → word ≡ word_of lease → Some c ≡ get path_cmp w.cells parent
    → WritesThrough path_cmp (path_cmp parent) w.cells d cells → IsSameBut c d → ((u : ℕ) → u ≢ x.ticket → get nat_cmp d.broods u ≡ get nat_cmp c.broods u)
    → ((b : Brood) → get nat_cmp c.broods x.ticket ≡ Some b → IsSomeAnd (get nat_cmp d.broods x.ticket) (λ e. SaysSo b x.child what word became e × HaveSameSlots b e))
    → (told_in : IsToldIn w (record w { cells = cells }) parent x.ticket s.with_kin.cell s.with_kin.brood)
    × SaysSo s.with_kin.brood x.child what (word_of lease) became told_in.new
said-so depot w f lease what parent x s cells c d became word same found written but others says =
    let is = said-in depot w f lease what parent x s cells c d (λ b e. SaysSo b x.child what word became e) found written but others says in
    (is.0, subst (λ n. SaysSo s.with_kin.brood x.child what n became (is.0).new) same is.1)

-- what is wanted of it
pub may-say-in : (depot : Shelves) (w : World) (f : Forest) (lease : Lent) (what : Talk) (parent : Path) (x : Branch) → Speaks depot w f lease what parent x
    → (c : Cell) → Some c ≡ get path_cmp w.cells parent → IsSomeAnd (get nat_cmp c.broods x.ticket) (MaySay x.child what)
may-say-in depot w f lease what parent x s c found =
    let one : Some c ≡ Some s.with_kin.cell = found ∙ s.with_kin.found in
    let same : c ≡ s.with_kin.cell = cc in
    subst (λ o. IsSomeAnd o (MaySay x.child what)) (sym (ap (λ (cell : Cell). get nat_cmp cell.broods x.ticket) same ∙ s.with_kin.has)) s.may

-- the brood that it tells of
pub brood-in : (depot : Shelves) (w : World) (f : Forest) (lease : Lent) (what : Talk) (parent : Path) (x : Branch) (s : Speaks depot w f lease what parent x)
    → (c : Cell) → Some c ≡ get path_cmp w.cells parent → get nat_cmp c.broods x.ticket ≡ Some s.with_kin.brood
brood-in depot w f lease what parent x s c found =
    let one : Some c ≡ Some s.with_kin.cell = found ∙ s.with_kin.found in
    let same : c ≡ s.with_kin.cell = cc in
    ap (λ (cell : Cell). get nat_cmp cell.broods x.ticket) same ∙ s.with_kin.has

-- the machine has a parent, with a cell
pub no-parent : (depot : Shelves) (w : World) (f : Forest) (lease : Lent) (what : Talk) (parent : Path) (x : Branch) → Speaks depot w f lease what parent x
    → None ≡ get path_cmp w.cells parent → ⊥
no-parent depot w f lease what parent x s none = let no : None ≡ Some s.with_kin.cell = none ∙ s.with_kin.found in cc

-- whether it waits
pub waits-as-told : (depot : Shelves) (w : World) (f : Forest) (lease : Lent) (what : Talk) (parent : Path) (x : Branch) → Speaks depot w f lease what parent x
    → (c : Cell) (is : Bool) → Some c ≡ get path_cmp w.cells parent
    → IfSome (get nat_cmp c.broods x.ticket) (λ (b : Brood). 1 ≤ peer_of what → is ≡ waits_in b x.child what)
    → is ≡ stands_waiting_of (vm_of lease) lease.name f.tree
waits-as-told depot w f lease what parent x s c is found tells =
    let one : Some c ≡ Some s.with_kin.cell = found ∙ s.with_kin.found in
    let same : c ≡ s.with_kin.cell = cc in
    subst (λ o. IfSome o (λ (b : Brood). 1 ≤ peer_of what → is ≡ waits_in b x.child what))
    (ap (λ (cell : Cell). get nat_cmp cell.broods x.ticket) same ∙ s.with_kin.has) tells s.may.least
    ∙ sym s.waits

-- a machine that is there has a cell still
pub park-there : (depot : Shelves) (v : World) (f : Forest) (lease : Lent) → StandsFor depot v f → IsHandedOut f lease → IsSome (subtree lease.name f.tree)
    → IsSome (get path_cmp v.cells lease.name)
park-there depot v f lease h out_as some = by (handed depot v f lease h out_as)
  where
    by : Handed depot v f lease → IsSome (get path_cmp v.cells lease.name)
    by (gone none cell) = let no : false ≡ true = sym (ap is_some none) ∙ some in absurd (cc)
    by (there start inbox broods log c is_as is) = subst IsSome (sym is.cell) refl

noted-at : (what : Talk) (name : Path) (w : World) (parent : Path) (ticket k : ℕ) (d : Cell) (old new : Brood) (word : ℕ) → name ≡ child_path parent ticket k
    → get path_cmp w.cells parent ≡ Some d → get nat_cmp d.broods ticket ≡ Some new → SaysSo old k what word said.Waits new → (way : Path) (t j : ℕ)
    → name ≡ child_path way t j → IfSome (get path_cmp w.cells way) (λ (c : Cell). IfSome (get nat_cmp c.broods t) (λ (b : Brood). noted b.notes j ≡ peer_of what))
noted-at what name w parent ticket k d old new word named found has says way t j also =
    let same = last-same parent way (record { ticket = ticket; child = k }) (record { ticket = t; child = j }) (sym named ∙ also) in
    let ticket_is : ticket ≡ t = ap (λ (b : Branch). b.ticket) same.1 in
    let child_is : k ≡ j = ap (λ (b : Branch). b.child) same.1 in
    subst (λ n. IfSome (get path_cmp w.cells n) (λ (c : Cell). IfSome (get nat_cmp c.broods t) (λ (b : Brood). noted b.notes j ≡ peer_of what))) same.0
    (subst (λ o. IfSome o (λ (c : Cell). IfSome (get nat_cmp c.broods t) (λ (b : Brood). noted b.notes j ≡ peer_of what))) (sym found)
    (subst (λ u. IfSome (get nat_cmp d.broods u) (λ (b : Brood). noted b.notes j ≡ peer_of what)) ticket_is
    (subst (λ o. IfSome o (λ (b : Brood). noted b.notes j ≡ peer_of what)) (sym has)
    (subst (λ n. noted new.notes n ≡ peer_of what) child_is
    (says.2 k ∙ ap (λ is. cond is (peer_of what) (noted old.notes k)) (eqb-same k))))))

-- where it waits, it is noted
pub notes-peer : (what : Talk) (name : Path) (w : World) (parent : Path) (ticket k : ℕ) (d : Cell) (old new : Brood) (became : Said) (word : ℕ) → name ≡ child_path parent ticket k
    → get path_cmp w.cells parent ≡ Some d → get nat_cmp d.broods ticket ≡ Some new → SaysSo old k what word became new → change_by became k ≡ None
    → NotesPeer what name became w
notes-peer (Send j) name w parent ticket k d old new said.Waits word named found has says none = noted-at (Send j) name w parent ticket k d old new word named found has says
notes-peer (Receive j) name w parent ticket k d old new said.Waits word named found has says none = noted-at (Receive j) name w parent ticket k d old new word named found has says
notes-peer what name w parent ticket k d _ _ said.Sent word named found has says none = tt
notes-peer what name w parent ticket k d _ _ (said.Received taken) word named found has says none = tt
notes-peer what name w parent ticket k d _ _ said.Ended word named found has says none = tt

-- ---- a machine is parked

pub parks : (w : World) (cells : BTreeMap Path Cell) (c : Cell) (kin : Option Path) (vm : Box KeyedMachine Global) (awaited : Awaited) (turn : Ready)
    → Some c ≡ get path_cmp w.cells turn.name → WritesThrough path_cmp (path_cmp turn.name) w.cells (record c { kin = kin; state = Parked awaited vm turn }) cells
    → Parks turn kin vm.value awaited w (record w { cells = cells })
parks w cells c kin vm awaited turn found written =
    let some = some-is c (get path_cmp w.cells turn.name) found in
    let d : Cell = record c { kin = kin; state = Parked awaited vm turn } in
    record {
      cell = subst (λ o. IsSomeAnd o (λ e. IsSomeAnd (get path_cmp cells turn.name) (parked_in kin vm.value awaited turn e))) found
          (subst (λ o. IsSomeAnd o (parked_in kin vm.value awaited turn c)) (sym (written-here w.cells cells turn.name d written some))
          (refl, (vm, refl, refl), refl, refl, refl));
      others = λ n other. written-apart w.cells cells turn.name d written some n (λ e. other (sym e));
      ready = refl;
      halted = refl;
      outcome = refl;
      told = refl;
    }

-- the parent's name, as the lease has it
pub kin-read : (kin : Option Path) (inside name parent : Path) → kin ≡ Some parent → inside ≡ name → IsKin kin inside → IsKin (Some parent) name
kin-read kin inside name parent is named h = subst (IsKin (Some parent)) named (subst (λ k. IsKin k inside) is h)

-- ---- the keys of the parent's cell

pub said-images : (images : Images) (path : Path) (ticket : ℕ) (c d : Cell) (P : Brood → Brood → Type 0) (Q : Brood → Type 0) → IsSameBut c d
    → ((u : ℕ) → u ≢ ticket → get nat_cmp d.broods u ≡ get nat_cmp c.broods u)
    → ((b : Brood) → get nat_cmp c.broods ticket ≡ Some b → IsSomeAnd (get nat_cmp d.broods ticket) (λ e. P b e × HaveSameSlots b e))
    → IsSomeAnd (get nat_cmp c.broods ticket) Q → HasImages images path c → HasImages images path d
said-images images path ticket c d P Q but others says some h = record {
  state = subst (IsStateAt images path) (sym but.state) h.state;
  broods = λ u. by u (eqb ticket u) refl;
}
  where
    here-at : IfSome (get nat_cmp d.broods ticket) (IsBroodAt images path ticket)
    here-at =
        let b = there-is (get nat_cmp c.broods ticket) Q some in
        let e = there-is (get nat_cmp d.broods ticket) (λ e. P b.0 e × HaveSameSlots b.0 e) (says b.0 b.1) in
        let at : IsBroodAt images path ticket b.0 = subst (λ o. IfSome o (IsBroodAt images path ticket)) b.1 (h.broods ticket) in
        subst (λ o. IfSome o (IsBroodAt images path ticket)) (sym e.1)
        (subst (λ (image : Option ForkImage). IfSome image (λ y. images path ticket ≡ key_number y.key)) (sym e.2.1.image) at)

    by : (u : ℕ) (at : Bool) → eqb ticket u ≡ at → IfSome (get nat_cmp d.broods u) (IsBroodAt images path u)
    by u true e = subst (λ n. IfSome (get nat_cmp d.broods n) (IsBroodAt images path n)) (eqb-true ticket u e) here-at
    by u false e =
        subst (λ o. IfSome o (IsBroodAt images path u)) (sym (others u (λ at. eqb-false ticket u e (sym at)))) (h.broods u)

-- ---- results

pub on-error : {T E : Type 0} (P : Type 0) (r : Result T E) → P → OnErr r P
on-error P (Ok t) is = tt
on-error P (Err e) is = is

pub not-ok-err : {T E : Type 0} (P : Type 0) (r : Result T E) → ((t : T) → r ≡ Ok t → ⊥) → OnErr r P → P
not-ok-err P (Ok t) never h = absurd (never t refl)
not-ok-err P (Err e) never h = h
