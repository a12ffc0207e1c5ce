-- A world after a machine on lease has made its talk, and the rows of that.
use Rattle.std.proofs.Common.{◌≡◌, ◌≢◌, ◌⊎◌, ℕ, suc, ◌&&◌, ◌||◌, not, eqb, Bool, true, false, cond, refl, sym, ap, ap₂}
use Rattle.std.proofs.Common.{◌∙◌, subst, inl, inr, List, [], ◌∷◌, ◌++◌, Option, Some, None, IsSome, is_some, option_map}
use Rattle.std.proofs.lemmas.Bool.{ne_eqb}
use Rattle.std.specs.Option.{IfSome, IsSomeAnd}
use Rattle.std.specs.Ordering.{nat_cmp}
use Rattle.std.specs.BTreeMap.{get}
use Rattle.std.specs.declared.alloc.Global.{Global}
use Rattle.std.specs.declared.boxed.Box.{Box}
use Rattle.fork_port.specs.declared.ending.Ending.{Ending}
use Rattle.image_depot.specs.Key.{Shelves}
use Rattle.sibling_port.specs.declared.answers.TheConstants.{DONE, SIBLING_ENDED}
use Rattle.sibling_port.specs.declared.talk.Talk.{Talk}
use Rattle.sibling_port.specs.declared.talk.Talk.TheVariants.{Send, Receive}
use Rattle.forest_tree.specs.Operations.{Makes}
use Rattle.forest_tree.specs.Tree.{Tree, node, Trees, Broods, no_brood, brood, Log, machine, at_brood, at_child, Branch, Path, subtree, beyond, at_path}
use Rattle.forest_tree.specs.Step.{has_ended, settled, settled_by, step, steps}
use Rattle.forest_tree.specs.Sound.{IsSound}
use Rattle.forest_tree.proofs.Calls.{step-own}
use Rattle.forest_tree.proofs.Places.{some-same, subtree-sound}
use Rattle.forest_tree.proofs.Rests.{lives-none}
use Rattle.forest_tree.proofs.Sound.{root-sound, steps-keeps}
use Rattle.sibling_forest.specs.Talk as siblings
use Rattle.sibling_forest.specs.Talk.{Inbox, advance_by, after, after_receive, at_queue, boxed, first_taken, queue}
use Rattle.sibling_forest.specs.Settle.{delivered}
use Rattle.sibling_forest.specs.Laws.{child_number}
use Rattle.sibling_forest.proofs.Families.{at_brood-twice, at_child-swap}
use Rattle.talking_history.specs.Places.{home, parked, Spot, spots, placed, spot_talks}
use Rattle.talking_history.specs.World.{is_asleep_at, holds, lives_ready}
use Rattle.forest_tree.proofs.Changes.{at_path-here, at_path-twice}
use Rattle.talking_history.specs.Changes.{to_sibling, told}
use Rattle.talking_history.specs.Rows.{How, Allows, forked, is_receive, is_send, joined, kept, made, may_spend, came_back, received, sent, speaks, spent, waited}
use Rattle.talking_history.proofs.Spots.{machine-placed}
use Rattle.forest_model.specs.Machine.{Next, exception, timer_interrupt, plain, call, talk, next}
use Rattle.forest_model.specs.Forest.{machines, talk_of, talks, tree_talk}
use Rattle.forest_model.specs.Paged.{Paged, Pages, pages_after, paged_machines, paged_talks, stalled_at}
use Rattle.forest_model.specs.Talks.{talked}
use Rattle.forest_model.proofs.Spoken.{stepped-talk, talk-changes, talks-at}
use Rattle.machine_names.specs.Name.{child_path}
use Rattle.machine_names.specs.NameOrder.{path_cmp}
use Rattle.machine_names.proofs.Below.{beyond-is}
use Rattle.ready_queue.specs.Ready.{Ready}
use Rattle.sibling_words.specs.Notes.{noted}
use Rattle.vm_cell.specs.Keyed.{KeyedMachine, IsOfDepot, paged}
use Rattle.vm_cell.specs.Standing.{standing_talk, talk_by, talk_from}
use Rattle.world_core.specs.declared.cell.Awaited.{Awaited}
use Rattle.world_core.specs.declared.cell.Awaited.TheVariants.{Sibling}
use Rattle.world_core.specs.declared.cell.Brood.{Brood}
use Rattle.world_core.specs.declared.cell.Cell.{Cell}
use Rattle.world_core.specs.declared.cell.State.{State}
use Rattle.world_core.specs.declared.cell.State.TheVariants.{Parked}
use Rattle.world_core.specs.declared.cell.talks.Said.{Said}
use Rattle.world_core.specs.declared.cell.talks.Said.TheVariants as said
use Rattle.world_core.specs.declared.world.World.{World}
use Rattle.world_core.specs.Answers.{Goes, IsHandedOut, MayWait, MayWant, after_spent, said_by, stands_waiting_of, with_machine}
use Rattle.world_core.specs.Between.{IsBetween, IsHeardAs, settled_tree, with_tree}
use Rattle.world_core.specs.Images.{AreBroodsAt, AreOfImages, HasImages, Images, IsImageAt, IsStateAt}
use Rattle.world_core.specs.Kin.{IsKin}
use Rattle.world_core.specs.Lent.{IsLent, Lent, now_of, vm_of}
use Rattle.world_core.specs.Listed.{IsListed, IsCovered}
use Rattle.world_core.specs.Shows.{Member, paged_of, next_talk, forest, CellShows, HoldsAfter, IsAwake, IsKinIn, IsNoted, IsStateOf, Shows, StateShows, is_out_cell}
use Rattle.world_core.specs.Spoken.{IsPlacedAs, NotesPeer, Spoke, said_forest, without_word, word_of}
use Rattle.world_core.specs.Talking.{IsSendOf, Parks, answer_by, parked_in, peer_of}
use Rattle.world_core.specs.World.{Forest, IsForest, StandsFor, rests_in}
use Rattle.world_core.proofs.AtPlaces.{holds-placed, lives-placed}
use Rattle.world_core.proofs.Calling.{below-name, came-alive, lives-out, same-below}
use Rattle.world_core.proofs.Changes.{outside-apart}
use Rattle.world_core.proofs.Giving.{node-rests, stepped-heard}
use Rattle.world_core.proofs.Hearing.{and-false}
use Rattle.world_core.proofs.Resting.{put-rests, placed-rests, rests-below}
use Rattle.world_core.proofs.Returns.{IsOutHere, apart-below, below-placed, between-stands, out-here, same-or-apart, there-is}
use Rattle.world_core.proofs.Saying.{sibling-last}
use Rattle.world_core.proofs.Siblings.{TalksHere, peer-is, root-silent, talks-here}
use Rattle.world_core.proofs.SlotEnds.{holds-same}
use Rattle.world_core.proofs.SlotPlaces.{inbox-placed}
use Rattle.world_core.proofs.Spending.{at_path-there, came-allowed, came-goes, came-is, came-own, came-told, came-whole, later, row-keeps, settled-later, then}
use Rattle.world_core.proofs.Steps.{SameTickets, Holds-same, Tallies-same, came_out, forest-rules, lease-same, lease-steps, lent_out, paged-quiet, talking}
use Rattle.world_core.proofs.TurnByTurn.{out-by}
use Rattle.world_core.proofs.WordsSaid.{speaks as speaks-to}
use Rattle.world_core.proofs.Waiting.{talk-here, waiting-rests}

-- ---- a machine in the place of another

pub between-out : (depot : Shelves) (w : World) (f : Forest) (name : Path) (s n : Member) (broods : Broods Member) (log : Log Member) (c : Cell) → StandsFor depot w f
    → IsOutHere depot w f name (node s broods log) c → forest.ending s ≡ None → SameTickets s n → IsHeardAs (node n broods log) (node s broods log)
    → IsBetween depot w f name (node n broods log)
between-out depot w f name s n broods log c stands is alive same heard =
    let before : Tree Member = node s broods log in
    let after : Tree Member = node n broods log in
    let sound = root-sound forest s broods log (subtree-sound forest name f.tree before stands.whole.sound is.there) in
    record {
      whole = stands.whole;
      halted = stands.halted;
      going = is.going;
      root = is.live.root;
      there = subst (λ o. IsSomeAnd o IsAwake) (sym is.there) is.shows.awake;
      own = record { good = same.good; one_each = λ t. sound.one_each alive t ∙ ap (λ (b : Bool). cond b 1 0) (sym (same.cloned t)) };
      heard = subst (λ o. IsSomeAnd o (IsHeardAs after)) (sym is.there) heard;
      cell = subst (λ o. IsSomeAnd o (λ cell. HoldsAfter depot name cell after)) (sym is.cell)
          (Tallies-same name c s n broods broods log same is.shows.holds.tallies, λ lives. Holds-same depot name c s n broods log same is.shows.holds);
      below = λ x rest.
          let q : Path = name ++ (x ∷ rest) in
          subst (λ resting. Shows depot q resting (get path_cmp w.cells q) (subtree (x ∷ rest) after))
          (rests-below name x rest f.tree before is.there ∙ node-rests s n broods log log x rest)
          (subst (Shows depot q (rests_in f.tree q) (get path_cmp w.cells q))
          (below-name name f.tree before x rest is.there ∙ same-below s n broods log log x rest) (is.live.each.cells q));
      ready_below = λ x rest so_is.
          is.live.each.ready (name ++ (x ∷ rest))
          (ap₂ (λ resting v. holds (lives_ready paged_machines paged_talks resting) v)
          (rests-below name x rest f.tree before is.there ∙ node-rests s n broods log log x rest)
          (below-name name f.tree before x rest is.there ∙ same-below s n broods log log x rest) ∙ so_is);
      elsewhere = λ q none. is.live.each.cells q;
      ready = λ q none so_is. is.live.each.ready q so_is;
      listed = is.live.each.listed;
    }

-- ---- the machine after its talk

next-from : (ending : Option Ending) (step : Next) (t : Talk) → talk_from ending step ≡ Some t → step ≡ talk t
next-from None (exception cause value) t e = absurd (cc)
next-from None timer_interrupt t e = absurd (cc)
next-from None plain t e = absurd (cc)
next-from None (talk u) t e = let same : u ≡ t = cc in ap talk same
next-from None (call c) t e = absurd (cc)
next-from (Some ending) step t e = absurd (cc)

next-by : (waited : Option ℕ) (ending : Option Ending) (step : Next) (t : Talk) → talk_by waited ending step ≡ Some t → step ≡ talk t
next-by None ending step t e = next-from ending step t e
next-by (Some page) ending step t e = absurd (cc)

next-is : (v : KeyedMachine) (t : Talk) → standing_talk v ≡ Some t → next v.machine ≡ talk t
unfolding standing_talk
next-is v t e = next-by (stalled_at (paged v)) v.machine.ending (next v.machine) t e

-- a SEND leaves the pages, and its own words
sent-pages : (p : Paged) (t : Talk) → next p.machine ≡ talk t → paged_machines.advance p ≡ record p { machine = talked p.machine None DONE }
unfolding paged_machines machines
sent-pages p t is =
    let comes = talks-at p.machine (tree_talk t) (ap talk_of is) in
    ap₂ (λ m (pages : Pages). record { machine = m; pages = pages }) (stepped-talk p.machine comes.said comes.speaks) (ap (λ c. pages_after c p.pages) (talk-changes p.machine t is))

pub sent-box : (inbox : Inbox) (p : Paged) (j : ℕ) → next p.machine ≡ talk (Send j)
    → forest.advance (lent_out inbox p) ≡ came_out inbox (record p { machine = talked p.machine None DONE })
unfolding boxed spots spot_talks paged_talks talks
sent-box inbox p j is =
    ap (λ step. advance_by (spots paged_machines) (spot_talks paged_talks) (talk_of step) (lent_out inbox p)) is
    ∙ ap (came_out inbox) (sent-pages p (Send j) is)

pub received-box : (inbox : Inbox) (p : Paged) (j word : ℕ) (rest : List ℕ) → next p.machine ≡ talk (Receive j) → queue j inbox ≡ word ∷ rest
    → forest.advance (lent_out inbox p) ≡ came_out (at_queue first_taken j inbox) (record p { machine = talked p.machine (Some word) DONE })
unfolding boxed spots spot_talks paged_talks talks
received-box inbox p j word rest is waits =
    ap (λ step. advance_by (spots paged_machines) (spot_talks paged_talks) (talk_of step) (lent_out inbox p)) is
    ∙ ap (λ q. after_receive (spots paged_machines) (spot_talks paged_talks) q j (lent_out inbox p)) waits

pub ended-box : (inbox : Inbox) (p : Paged) (j : ℕ) → next p.machine ≡ talk (Receive j) → queue j inbox ≡ []
    → forest.advance (lent_out inbox p) ≡ came_out inbox (record p { machine = talked p.machine None SIBLING_ENDED })
unfolding boxed spots spot_talks paged_talks talks
ended-box inbox p j is none =
    ap (λ step. advance_by (spots paged_machines) (spot_talks paged_talks) (talk_of step) (lent_out inbox p)) is
    ∙ ap (λ q. after_receive (spots paged_machines) (spot_talks paged_talks) q j (lent_out inbox p)) none

-- its tickets are told of the machine alone
inbox-tickets : (p : Paged) (inbox other : Inbox) (n : Member) → SameTickets (lent_out inbox p) n → SameTickets (lent_out other p) n
unfolding boxed
inbox-tickets p inbox other n same = record { good = same.good; cloned = same.cloned; grants = same.grants }

-- a talk was made, and the machine is to be put home or to be ended
pub record IsMade (depot : Shelves) (v : World) (f : Forest) (then : Tree Member) (lease : Lent) (how : How) (vm : Paged) : Type 0 where
  pub tree : Tree Member
  pub between : IsBetween depot v (record f { tree = then }) lease.name tree
  pub is : paged_of (machine tree) ≡ vm
  pub whole : IsForest (at_path (λ a. placed home (settled_tree tree)) lease.name then)
  pub allowed : Allows paged_machines paged_talks (spent how lease.name lease.ran) f
  pub comes : after_spent f how lease ≡ record f { tree = at_path (λ a. placed home (settled_tree tree)) lease.name then }
  pub is_out : is_out_cell (get path_cmp v.cells lease.name) ≡ true

-- ---- two children of a ticket

beside-apart : (way : Path) (ticket i j : ℕ) → i ≢ j → beyond (child_path way ticket i) (child_path way ticket j) ≡ None
unfolding beyond
beside-apart [] ticket i j other =
    ap (λ same. cond (eqb ticket ticket && same) (Some []) None) (ne_eqb j i (λ e. other (sym e)))
    ∙ ap (λ same. cond same (Some []) None) (and-false (eqb ticket ticket))
beside-apart (b ∷ way) ticket i j other =
    ap (λ left. cond (eqb b.ticket b.ticket && eqb b.child b.child) left None) (beside-apart way ticket i j other)
    ∙ either (eqb b.ticket b.ticket && eqb b.child b.child)
  where
    either : (same : Bool) → ◌≡◌ {A = Option Path} (cond same None None) None
    either true = refl
    either false = refl

at_brood-each : (f g : Trees Member → Trees Member) → ((trees : Trees Member) → f trees ≡ g trees) → (ticket : ℕ) (broods : Broods Member)
    → at_brood f ticket broods ≡ at_brood g ticket broods
unfolding at_brood
at_brood-each f g same ticket no_brood = refl
at_brood-each f g same ticket (brood u trees rest) =
    ap₂ (λ changed left. brood u (cond (eqb u ticket) changed trees) left) (same trees) (at_brood-each f g same ticket rest)

-- changes of them go in either order
swap-broods : (f g : Trees Member → Trees Member) → ((trees : Trees Member) → f (g trees) ≡ g (f trees)) → (ticket : ℕ) (broods : Broods Member)
    → at_brood f ticket (at_brood g ticket broods) ≡ at_brood g ticket (at_brood f ticket broods)
swap-broods f g both ticket broods =
    at_brood-twice f g ticket broods
    ∙ at_brood-each (λ trees. f (g trees)) (λ trees. g (f trees)) both ticket broods
    ∙ sym (at_brood-twice g f ticket broods)

at_path-beside : (f g : Tree Member → Tree Member) (way : Path) (ticket i j : ℕ) → i ≢ j → (t : Tree Member)
    → at_path f (child_path way ticket i) (at_path g (child_path way ticket j) t) ≡ at_path g (child_path way ticket j) (at_path f (child_path way ticket i) t)
unfolding at_path
at_path-beside f g [] ticket i j other (node m broods log) =
    ap (λ left. node m left log)
    (swap-broods (at_child (at_path f []) i) (at_child (at_path g []) j)
    (λ trees. at_child-swap (at_path f []) (at_path g []) i j trees (λ c same found. absurd (other same))) ticket broods)
at_path-beside f g (b ∷ way) ticket i j other (node m broods log) =
    let one : Tree Member → Tree Member = at_path f (child_path way ticket i) in
    let two : Tree Member → Tree Member = at_path g (child_path way ticket j) in
    ap (λ left. node m left log)
    (swap-broods (at_child one b.child) (at_child two b.child)
    (λ trees. at_child-swap one two b.child b.child trees (λ c same found. at_path-beside f g way ticket i j other c)) b.ticket broods)

module _ (depot : Shelves) (w : World) (f : Forest) (lease : Lent) (what : Talk) (whole : IsForest f.tree) (h : TalksHere depot w f lease)
    (stands : standing_talk (vm_of lease) ≡ Some what) where
  abbrev before : Tree Member
  before = node (lent_out h.inbox h.start) h.broods h.log

  abbrev standing : Member
  standing = lent_out h.inbox (now_of lease)

  abbrev now : Tree Member
  now = node standing h.broods h.log

  lives : lease.now.ending ≡ None
  lives = (talking (vm_of lease) what stands).0

  speaks-now : paged_talks.talk (now_of lease) ≡ Some (tree_talk what)
  speaks-now = (talking (vm_of lease) what stands).1

  pub alive : forest.ending (lent_out h.inbox h.start) ≡ None
  alive = lives-none (forest.ending (lent_out h.inbox h.start)) h.is.shows.awake.lives

  abbrev later_is : Tree Member
  later_is = later f lease.name h.start (now_of lease) lease.ran h.inbox h.broods h.log whole h.is.there h.has alive

  abbrev then_is : Tree Member
  then_is = then f lease.name h.start (now_of lease) lease.ran h.inbox h.broods h.log whole h.is.there h.has alive

  later-now : later_is ≡ now
  later-now =
      settled-later f lease.name h.start (now_of lease) lease.ran h.inbox h.broods h.log whole h.is.there h.has alive None lives
      ∙ ap (λ s. node s h.broods h.log) (came-alive h.inbox (now_of lease) lives)

  before-sound : IsSound forest before
  before-sound = subtree-sound forest lease.name f.tree before whole.sound h.is.there

  ran-is : steps forest lease.ran before ≡ now
  ran-is =
      lease-steps h.start (now_of lease) lease.ran h.inbox h.has h.broods h.log alive
      ∙ ap (λ s. settled forest s h.broods h.log) (came-alive h.inbox (now_of lease) lives)
      ∙ ap (λ e. settled_by forest e standing h.broods h.log) (lives-out h.inbox (now_of lease) lives)

  now-sound : IsSound forest now
  now-sound = subst (IsSound forest) ran-is (steps-keeps forest forest-rules lease.ran before before-sound).sound

  makes : Makes forest standing None
  unfolding boxed spots
  makes = record {
    good = (root-sound forest standing h.broods h.log now-sound).good;
    lives = lives-out h.inbox (now_of lease) lives;
    call = paged-quiet (now_of lease) (tree_talk what) speaks-now;
  }

  stepped : step forest now ≡ settled_tree (node (forest.advance standing) h.broods h.log)
  stepped = step-own forest standing h.broods h.log makes.lives makes.call

  same-tickets : SameTickets (lent_out h.inbox h.start) (forest.advance standing)
  same-tickets =
      let one = forest-rules.advance standing makes in
      let ran = subst (SameTickets (lent_out h.inbox h.start)) (came-alive h.inbox (now_of lease) lives)
      (lease-same h.start (now_of lease) lease.ran h.inbox h.has (root-sound forest (lent_out h.inbox h.start) h.broods h.log before-sound).good) in
      record {
        good = one.good;
        cloned = λ t. one.tickets t ∙ ran.cloned t;
        grants = λ t is. one.grants t is ∙ ran.grants t (sym (one.tickets t) ∙ is);
      }

  -- whether it rests where it stands
  pub resting-now : rests_in then_is lease.name ≡ stands_waiting_of (vm_of lease) lease.name f.tree
  resting-now =
      ap (λ v. rests_in (at_path (λ a. v) lease.name f.tree) lease.name) later-now
      ∙ ap (λ t. rests_in t lease.name) (sym (at_path-there forest (with_machine (now_of lease)) lease.name f.tree before whole.sound h.is.there))
      ∙ sym (waiting-rests (vm_of lease) lease.name f.tree before h.is.there (talk-here (vm_of lease) what stands) lives)

  -- ---- it waits

  module _ (waiting : stands_waiting_of (vm_of lease) lease.name f.tree ≡ true) where
    may-wait : may_spend paged_machines paged_talks waited (now_of lease) (rests_in then_is lease.name) ≡ true
    unfolding paged_machines machines
    may-wait = ap₂ (λ ending resting. not (is_some ending) && resting) lives (resting-now ∙ waiting)

    came-to-wait : came_back paged_machines paged_talks waited lease.name lease.ran f.tree ≡ (with_tree lease.name (placed parked now) f).tree
    came-to-wait =
        came-own f lease.name h.start (now_of lease) lease.ran h.inbox h.broods h.log whole h.is.there h.has alive waited may-wait refl
        ∙ ap (λ v. at_path (λ a. placed parked v) lease.name f.tree) later-now

    parked-rests : rests_in (with_tree lease.name (placed parked now) f).tree lease.name ≡ true
    parked-rests =
        ap (λ t. rests_in t lease.name) (sym (at_path-twice (λ a. now) (placed parked) lease.name f.tree))
        ∙ put-rests parked lease.name lease.name (at_path (λ a. now) lease.name f.tree)
        ∙ ap (λ v. rests_in (at_path (λ a. v) lease.name f.tree) lease.name) (sym later-now)
        ∙ resting-now ∙ waiting

    parked-talk : next_talk (machine (placed parked now)) ≡ Some (tree_talk what)
    unfolding spot_talks
    parked-talk = speaks-now

    awake-parked : IsAwake (placed parked now)
    awake-parked = record {
      lives = lives-placed parked now ∙ ap is_some makes.lives;
      awake = ap (λ (s : Spot Paged). is_asleep_at s.place) (machine-placed parked now);
    }

    never-ready : (ended : Bool) → rests_in (with_tree lease.name (placed parked now) f).tree lease.name ≡ true
        → not ended && not (rests_in (with_tree lease.name (placed parked now) f).tree lease.name) ≡ true → ⊥
    never-ready ended rests so_is =
        let no : false ≡ true = sym (ap (λ (is : Bool). not ended && not is) rests ∙ and-false (not ended)) ∙ so_is in cc

    pub parked-goes : (v : World) (d : Cell) (vm : Box KeyedMachine Global) (kin : Option Path) (turn : Ready) → StandsFor depot w f
        → NotesPeer what lease.name said.Waits w → get path_cmp v.cells lease.name ≡ Some d
        → ((q : Path) → lease.name ≢ q → get path_cmp v.cells q ≡ get path_cmp w.cells q) → v.ready ≡ w.ready → v.halted ≡ w.halted → v.outcome ≡ w.outcome
        → d.kin ≡ kin → d.state ≡ Parked (Sibling what) vm turn → d.is_listed ≡ h.cell.is_listed → d.broods ≡ h.cell.broods → d.log ≡ h.cell.log
        → IsKin kin lease.name → paged vm.value ≡ now_of lease → IsOfDepot depot vm.value.key → turn ≡ record { name = lease.name; children = None }
        → Goes depot f (spent waited lease.name lease.ran) v
    parked-goes v d vm kin turn stands_for notes found others ready halted outcome kin_is state listed broods log kin_of now_is of_depot named =
        let b : Tree Member = placed parked now in
        came-goes f lease.name h.start (now_of lease) lease.ran h.inbox h.broods h.log whole h.is.there h.has alive waited may-wait (with_tree lease.name b f).tree came-to-wait
        depot v
        (between-stands depot w v f lease.name now b still others (λ q is. subst (IsListed q) (sym ready) is) (λ q is. subst (IsCovered q) (sym ready) is)
        (below-placed parked now) (placed-rests parked now)
        (came-whole f lease.name h.start (now_of lease) lease.ran h.inbox h.broods h.log whole h.is.there h.has alive waited may-wait (with_tree lease.name b f).tree came-to-wait)
        awake-parked halted outcome (λ t at. (
          λ n x e. noted-there n x e t,
          inbox-placed parked now ∙ ap (λ (u : Tree Member). (machine u).inbox) (some-same before t (sym h.is.there ∙ at)),
        ))
        (subst (λ o. Shows depot lease.name (rests_in (with_tree lease.name b f).tree lease.name) o (Some b)) (sym found) shows)
        (λ so_is. absurd (never-ready (has_ended forest b) parked-rests so_is))
        (subst (λ o. IfSome o (λ (cell : Cell). cell.is_listed ≡ true → IsListed lease.name v.ready)) (sym found) (λ so_is.
        subst (IsListed lease.name) (sym ready)
        (subst (λ o. IfSome o (λ (cell : Cell). cell.is_listed ≡ true → IsListed lease.name w.ready)) h.is.cell (h.is.live.each.listed lease.name) (sym listed ∙ so_is)))))
      where
        still : IsBetween depot w f lease.name now
        still =
            between-out depot w f lease.name (lent_out h.inbox h.start) standing h.broods h.log h.cell stands_for h.is alive
            (subst (SameTickets (lent_out h.inbox h.start)) (came-alive h.inbox (now_of lease) lives)
            (lease-same h.start (now_of lease) lease.ran h.inbox h.has (root-sound forest (lent_out h.inbox h.start) h.broods h.log before-sound).good))
            (inl (ap is_some makes.lives, refl))

        shows : CellShows depot lease.name (rests_in (with_tree lease.name (placed parked now) f).tree lease.name) d (placed parked now)
        shows = record {
          awake = awake-parked;
          kin = subst (λ (st : State). IsKinIn st d.kin lease.name) (sym state) (subst (λ (k : Option Path). IsKin k lease.name) (sym kin_is) kin_of);
          state = subst (λ (st : State). StateShows lease.name st (machine (placed parked now)) (rests_in (with_tree lease.name (placed parked now) f).tree lease.name)) (sym state)
              (now_is, refl, parked-rests, parked-talk, named);
          of_depot = subst (IsStateOf depot) (sym state) of_depot;
          holds = holds-same depot lease.name (record h.cell { kin = h.cell.kin; state = h.cell.state; is_listed = h.cell.is_listed }) d (placed parked now) broods log
              (holds-placed depot lease.name h.cell h.cell.kin h.cell.state h.cell.is_listed parked now
              (Holds-same depot lease.name h.cell (lent_out h.inbox h.start) standing h.broods h.log
              (subst (SameTickets (lent_out h.inbox h.start)) (came-alive h.inbox (now_of lease) lives)
              (lease-same h.start (now_of lease) lease.ran h.inbox h.has (root-sound forest (lent_out h.inbox h.start) h.broods h.log before-sound).good)) h.is.shows.holds));
        }

        noted-in : (o : Option Brood) (x : Branch) (t : Tree Member) → IfSome o (λ (brood : Brood). noted brood.notes x.child ≡ peer_of what)
            → IfSome o (λ (brood : Brood). IsNoted brood.notes x.child t → IsNoted brood.notes x.child (placed parked now))
        noted-in None x t is = tt
        noted-in (Some b) x t is = λ was what_then is_parked speaks_then.
            let same : Some (tree_talk what) ≡ Some what_then = sym parked-talk ∙ speaks_then in
            is ∙ sym (peer-is what) ∙ ap siblings.peer (some-same (tree_talk what) what_then same)

        noted-by : (o : Option Cell) (x : Branch) (t : Tree Member)
            → IfSome o (λ (cell : Cell). IfSome (get nat_cmp cell.broods x.ticket) (λ (brood : Brood). noted brood.notes x.child ≡ peer_of what))
            → IfSome o (λ (cell : Cell). IfSome (get nat_cmp cell.broods x.ticket)
            (λ (brood : Brood). IsNoted brood.notes x.child t → IsNoted brood.notes x.child (placed parked now)))
        noted-by None x t is = tt
        noted-by (Some cell) x t is = noted-in (get nat_cmp cell.broods x.ticket) x t is

        noted-there : (n : Path) (x : Branch) → beyond n lease.name ≡ Some (x ∷ []) → (t : Tree Member)
            → IfSome (get path_cmp v.cells n) (λ (cell : Cell). IfSome (get nat_cmp cell.broods x.ticket)
            (λ (brood : Brood). IsNoted brood.notes x.child t → IsNoted brood.notes x.child (placed parked now)))
        noted-there n x e t =
            let is : lease.name ≡ child_path n x.ticket x.child = beyond-is n lease.name (x ∷ []) e in
            let other : lease.name ≢ n = λ same. apart-below n x [] (sym same ∙ is) in
            noted-by (get path_cmp v.cells n) x t
            (subst (λ o. IfSome o (λ (cell : Cell). IfSome (get nat_cmp cell.broods x.ticket) (λ (brood : Brood). noted brood.notes x.child ≡ peer_of what)))
            (sym (others n other)) (notes n x.ticket x.child is))

  -- ---- it is made

  module _ (goes_on : stands_waiting_of (vm_of lease) lease.name f.tree ≡ false) (how : How) (one : made how lease.ran ≡ suc lease.ran)
      (may : may_spend paged_machines paged_talks how (now_of lease) false ≡ true) (t : Tree Member) (inbox : Inbox) (m : Paged)
      (there : subtree lease.name t ≡ Some (node (lent_out inbox h.start) h.broods h.log)) (box : forest.advance standing ≡ came_out inbox m)
      (tells : (u : Tree Member) → at_path (placed home) lease.name
      (told (spots paged_machines) (spot_talks paged_talks) (Some (tree_talk what)) (paged_talks.word (now_of lease)) lease.name (at_path (λ a. u) lease.name f.tree))
      ≡ at_path (λ a. placed home u) lease.name t) where
    abbrev made_tree : Tree Member
    made_tree = node (forest.advance standing) h.broods h.log

    may-now : may_spend paged_machines paged_talks how (now_of lease) (rests_in then_is lease.name) ≡ true
    may-now = ap (may_spend paged_machines paged_talks how (now_of lease)) (resting-now ∙ goes_on) ∙ may

    came-made : came_back paged_machines paged_talks how lease.name lease.ran f.tree ≡ at_path (λ a. placed home (settled_tree made_tree)) lease.name t
    came-made =
        came-told f lease.name h.start (now_of lease) lease.ran h.inbox h.broods h.log whole h.is.there h.has alive how may-now one
        ∙ ap (λ said_so. at_path (placed home) lease.name (told (spots paged_machines) (spot_talks paged_talks) said_so (paged_talks.word (now_of lease)) lease.name
        (at_path (λ a. step forest later_is) lease.name f.tree))) speaks-now
        ∙ tells (step forest later_is)
        ∙ ap (λ u. at_path (λ a. placed home u) lease.name t) (ap (step forest) later-now ∙ stepped)

    made-machine : paged_of (machine made_tree) ≡ m
    made-machine = ap paged_of box

    ending-alike : forest.ending (lent_out h.inbox h.start) ≡ None → forest.ending (lent_out inbox h.start) ≡ None
    unfolding boxed
    ending-alike e = e

    pub is-made : (v : World) → StandsFor depot v (record f { tree = t }) → IsMade depot v f t lease how m
    is-made v stands_then =
        let start : Tree Member = node (lent_out inbox h.start) h.broods h.log in
        let is = out-here depot v (record f { tree = t }) lease.name start stands_then there refl in
        record {
          tree = made_tree;
          between = between-out depot v (record f { tree = t }) lease.name (lent_out inbox h.start) (forest.advance standing) h.broods h.log is.0 stands_then is.1
              (ending-alike alive) (inbox-tickets h.start h.inbox inbox (forest.advance standing) same-tickets)
              (stepped-heard inbox m standing (forest.advance standing) start h.broods h.log box refl);
          is = made-machine;
          whole = came-whole f lease.name h.start (now_of lease) lease.ran h.inbox h.broods h.log whole h.is.there h.has alive how may-now
              (at_path (λ a. placed home (settled_tree made_tree)) lease.name t) came-made;
          allowed = came-allowed f lease.name h.start (now_of lease) lease.ran h.inbox h.broods h.log whole h.is.there h.has alive how may-now
              (at_path (λ a. placed home (settled_tree made_tree)) lease.name t) came-made;
          comes = came-is f lease.name h.start (now_of lease) lease.ran h.inbox h.broods h.log whole h.is.there h.has alive how may-now
              (at_path (λ a. placed home (settled_tree made_tree)) lease.name t) came-made;
          is_out = ap is_out_cell is.1.cell ∙ sym (out-by depot lease.name (rests_in t lease.name) (Some is.0) (Some start) is.1.shows);
        }

-- ---- the talks, one by one

module _ (depot : Shelves) (w : World) (f : Forest) (lease : Lent) (whole : IsForest f.tree) (h : TalksHere depot w f lease) where
  abbrev start_tree : Tree Member
  start_tree = node (lent_out h.inbox h.start) h.broods h.log

  may-talk : (how : How) (test : Option siblings.Talk → Bool) (what : Talk) → ((m : Paged) → may_spend paged_machines paged_talks how m false ≡ (speaks paged_machines paged_talks test m && true))
      → standing_talk (vm_of lease) ≡ Some what → test (Some (tree_talk what)) ≡ true → may_spend paged_machines paged_talks how (now_of lease) false ≡ true
  unfolding paged_machines machines
  may-talk how test what is stands one =
      let known = talking (vm_of lease) what stands in
      is (now_of lease)
      ∙ ap₂ (λ ending said_so. (not (is_some ending) && test said_so) && true) known.0 known.1
      ∙ ap (λ b. (true && b) && true) one

  -- a word was sent
  module _ (j : ℕ) (stands : standing_talk (vm_of lease) ≡ Some (Send j)) (parent : Path) (x : Branch) (named : lease.name ≡ parent ++ (x ∷ [])) (other : x.child ≢ j)
      (goes_on : stands_waiting_of (vm_of lease) lease.name f.tree ≡ false) where
    abbrev brought : Tree Member → Tree Member
    brought = delivered (spots paged_machines) (spot_talks paged_talks) (child_number lease.name) (word_of lease)

    abbrev sent_to : Tree Member → Tree Member
    sent_to t = told (spots paged_machines) (spot_talks paged_talks) (Some (siblings.send j)) (word_of lease) lease.name t

    sent-path : (t : Tree Member) → sent_to t ≡ at_path brought (child_path parent x.ticket j) t
    sent-path t = ap (λ path. at_path brought path t) (ap (to_sibling j) named ∙ sibling-last j parent x)

    sent-there : subtree lease.name (sent_to f.tree) ≡ Some start_tree
    sent-there =
        ap (subtree lease.name) (sent-path f.tree)
        ∙ outside-apart brought (child_path parent x.ticket j) lease.name f.tree
        (ap (beyond (child_path parent x.ticket j)) named ∙ beside-apart parent x.ticket j x.child (λ e. other (sym e)))
        (ap (λ n. beyond n (child_path parent x.ticket j)) named ∙ beside-apart parent x.ticket x.child j other)
        ∙ h.is.there

    sent-swaps : (u t : Tree Member) → sent_to (at_path (λ a. u) lease.name t) ≡ at_path (λ a. u) lease.name (sent_to t)
    sent-swaps u t =
        sent-path (at_path (λ a. u) lease.name t)
        ∙ ap (λ n. at_path brought (child_path parent x.ticket j) (at_path (λ a. u) n t)) named
        ∙ at_path-beside brought (λ a. u) parent x.ticket j x.child (λ e. other (sym e)) t
        ∙ ap (λ n. at_path (λ a. u) n (at_path brought (child_path parent x.ticket j) t)) (sym named)
        ∙ ap (at_path (λ a. u) lease.name) (sym (sent-path t))

    pub sent-made : (v : World) → StandsFor depot v (record f { tree = sent_to f.tree })
        → IsMade depot v f (sent_to f.tree) lease sent (record (now_of lease) { machine = talked lease.now None DONE })
    unfolding paged_talks talks
    sent-made v stands_then =
        is-made depot w f lease (Send j) whole h stands goes_on sent refl (may-talk sent is_send (Send j) (λ m. refl) stands refl) (sent_to f.tree) h.inbox
        (record (now_of lease) { machine = talked lease.now None DONE }) sent-there (sent-box h.inbox (now_of lease) j (next-is (vm_of lease) (Send j) stands))
        (λ u. ap (at_path (placed home) lease.name) (sent-swaps u f.tree) ∙ at_path-twice (λ a. u) (placed home) lease.name (sent_to f.tree)) v stands_then

  -- a word was received, or none where the sibling has ended
  module _ (j : ℕ) (stands : standing_talk (vm_of lease) ≡ Some (Receive j)) (goes_on : stands_waiting_of (vm_of lease) lease.name f.tree ≡ false) where
    pub received-made : (word : ℕ) → IsSomeAnd (subtree lease.name f.tree) (λ (t : Tree Member). (rest : List ℕ) × (queue j (machine t).inbox ≡ word ∷ rest)) → (v : World)
        → StandsFor depot v (record f { tree = at_path (without_word j) lease.name f.tree })
        → IsMade depot v f (at_path (without_word j) lease.name f.tree) lease received (record (now_of lease) { machine = talked lease.now (Some word) DONE })
    received-made word some v stands_then =
        let has = subst (λ o. IsSomeAnd o (λ (t : Tree Member). (rest : List ℕ) × (queue j (machine t).inbox ≡ word ∷ rest))) h.is.there some in
        is-made depot w f lease (Receive j) whole h stands goes_on received refl (may-talk received is_receive (Receive j) (λ m. refl) stands refl)
        (at_path (without_word j) lease.name f.tree) (at_queue first_taken j h.inbox) (record (now_of lease) { machine = talked lease.now (Some word) DONE })
        (at_path-here (without_word j) lease.name f.tree ∙ ap (option_map (without_word j)) h.is.there)
        (received-box h.inbox (now_of lease) j word has.0 (next-is (vm_of lease) (Receive j) stands) has.1)
        (λ u. at_path-twice (λ a. u) (placed home) lease.name f.tree ∙ sym (at_path-twice (without_word j) (λ a. placed home u) lease.name f.tree)) v stands_then

    pub ended-made : IsSomeAnd (subtree lease.name f.tree) (λ (t : Tree Member). queue j (machine t).inbox ≡ []) → (v : World) → StandsFor depot v f
        → IsMade depot v f f.tree lease received (record (now_of lease) { machine = talked lease.now None SIBLING_ENDED })
    ended-made none v stands_then =
        is-made depot w f lease (Receive j) whole h stands goes_on received refl (may-talk received is_receive (Receive j) (λ m. refl) stands refl)
        f.tree h.inbox (record (now_of lease) { machine = talked lease.now None SIBLING_ENDED }) h.is.there
        (ended-box h.inbox (now_of lease) j (next-is (vm_of lease) (Receive j) stands) (subst (λ o. IsSomeAnd o (λ (t : Tree Member). queue j (machine t).inbox ≡ [])) h.is.there none))
        (λ u. at_path-twice (λ a. u) (placed home) lease.name f.tree) v stands_then

-- ---- what became of a talk

-- the answer of a talk, in its parts
pair-of : (a b : Option ℕ) (m n : ℕ) → ◌≡◌ {A = Option (Option ℕ × ℕ)} (Some (a, m)) (Some (b, n)) → (a ≡ b) × (m ≡ n)
pair-of a b m n e =
    let same : ◌≡◌ {A = Option ℕ × ℕ} (a, m) (b, n) = some-same {A = Option ℕ × ℕ} (a, m) (b, n) e in
    (ap (λ (p : Option ℕ × ℕ). p.0) same, ap (λ (p : Option ℕ × ℕ). p.1) same)

pub made-by : (depot : Shelves) (w v : World) (f : Forest) (lease : Lent) (parent : Path) (x : Branch) → IsForest f.tree → TalksHere depot w f lease → lease.name ≡ parent ++ (x ∷ [])
    → (what : Talk) → standing_talk (vm_of lease) ≡ Some what → peer_of what ≢ x.child → (became : Said) (word : Option ℕ) (answer : ℕ) → answer_by became ≡ Some (word, answer)
    → Spoke f lease what became → StandsFor depot v (said_forest lease what became f)
    → IsMade depot v f (said_forest lease what became f).tree lease (said_by what) (record (now_of lease) { machine = talked lease.now word answer })
made-by depot w v f lease parent x whole h named what stands other said.Waits word answer is spoke after = absurd (cc)
made-by depot w v f lease parent x whole h named (Send j) stands other said.Sent word answer is spoke after =
    let parts : (None ≡ word) × (DONE ≡ answer) = pair-of None word DONE answer is in
    let one : None ≡ word = parts.0 in
    let two : DONE ≡ answer = parts.1 in
    subst (λ o. IsMade depot v f (said_forest lease (Send j) said.Sent f).tree lease sent (record (now_of lease) { machine = talked lease.now o answer })) one
    (subst (λ n. IsMade depot v f (said_forest lease (Send j) said.Sent f).tree lease sent (record (now_of lease) { machine = talked lease.now None n })) two
    (sent-made depot w f lease whole h j stands parent x named (λ e. other (sym e)) spoke v after))
made-by depot w v f lease parent x whole h named (Receive j) stands other said.Sent word answer is spoke after = absurd spoke
made-by depot w v f lease parent x whole h named (Send j) stands other (said.Received taken) word answer is spoke after = absurd spoke
made-by depot w v f lease parent x whole h named (Receive j) stands other (said.Received taken) word answer is spoke after =
    let parts : (Some taken ≡ word) × (DONE ≡ answer) = pair-of (Some taken) word DONE answer is in
    let one : Some taken ≡ word = parts.0 in
    let two : DONE ≡ answer = parts.1 in
    subst (λ o. IsMade depot v f (said_forest lease (Receive j) (said.Received taken) f).tree lease received (record (now_of lease) { machine = talked lease.now o answer })) one
    (subst (λ n. IsMade depot v f (said_forest lease (Receive j) (said.Received taken) f).tree lease received (record (now_of lease) { machine = talked lease.now (Some taken) n })) two
    (received-made depot w f lease whole h j stands spoke.0 taken spoke.1 v after))
made-by depot w v f lease parent x whole h named (Send j) stands other said.Ended word answer is spoke after = absurd spoke
made-by depot w v f lease parent x whole h named (Receive j) stands other said.Ended word answer is spoke after =
    let parts : (None ≡ word) × (SIBLING_ENDED ≡ answer) = pair-of None word SIBLING_ENDED answer is in
    let one : None ≡ word = parts.0 in
    let two : SIBLING_ENDED ≡ answer = parts.1 in
    subst (λ o. IsMade depot v f f.tree lease received (record (now_of lease) { machine = talked lease.now o answer })) one
    (subst (λ n. IsMade depot v f f.tree lease received (record (now_of lease) { machine = talked lease.now None n })) two
    (ended-made depot w f lease whole h j stands spoke.0 spoke.1 v after))

or-last : (a b c : Bool) → c ≡ true → (a || (b || c)) ≡ true
or-last true b c e = refl
or-last false true c e = refl
or-last false false c e = e

-- the lease is kept for want of memory
pub kept-talk : (depot : Shelves) (w v : World) (f : Forest) (lease : Lent) (what : Talk) (whole : IsForest f.tree) (h : TalksHere depot w f lease)
    → standing_talk (vm_of lease) ≡ Some what → IsSendOf what → stands_waiting_of (vm_of lease) lease.name f.tree ≡ false → StandsFor depot v f
    → Goes depot f (kept lease.name lease.ran) v
kept-talk depot w v f lease (Receive j) whole h stands sends goes_on after = absurd sends
kept-talk depot w v f lease (Send j) whole h stands sends goes_on after =
    let lives : forest.ending (lent_out h.inbox h.start) ≡ None = alive depot w f lease (Send j) whole h stands in
    let then_it : Tree Member = then f lease.name h.start (now_of lease) lease.ran h.inbox h.broods h.log whole h.is.there h.has lives in
    row-keeps f lease.name h.start (now_of lease) lease.ran h.inbox h.broods h.log whole h.is.there h.has lives
    (or-last (may_spend paged_machines paged_talks forked (now_of lease) (rests_in then_it lease.name))
    (may_spend paged_machines paged_talks joined (now_of lease) (rests_in then_it lease.name))
    (may_spend paged_machines paged_talks sent (now_of lease) (rests_in then_it lease.name))
    (may-spend-sent (resting-now depot w f lease (Send j) whole h stands ∙ goes_on))) depot v after
  where
    may-spend-sent : {resting : Bool} → resting ≡ false → may_spend paged_machines paged_talks sent (now_of lease) resting ≡ true
    may-spend-sent e =
        ap (may_spend paged_machines paged_talks sent (now_of lease)) e ∙ may-talk depot w f lease whole h sent is_send (Send j) (λ m. refl) stands refl

-- ---- what a talk of a world makes of a lease

pub talk-parked : (depot : Shelves) (w v : World) (f : Forest) (lease : Lent) (what : Talk) (turn : Ready) (kin : Option Path) (vm : KeyedMachine) → StandsFor depot w f
    → IsHandedOut f lease → IsLent lease.start lease.ran lease.now → IsSome (subtree lease.name f.tree) → standing_talk (vm_of lease) ≡ Some what
    → stands_waiting_of (vm_of lease) lease.name f.tree ≡ true → NotesPeer what lease.name said.Waits w → Parks turn kin vm (Sibling what) w v
    → turn.name ≡ lease.name → turn.children ≡ None → IsKin kin lease.name → paged vm ≡ now_of lease → IsOfDepot depot vm.key
    → Goes depot f (spent waited lease.name lease.ran) v
talk-parked depot w v f lease what turn kin vm stands_for out_as lent some stands waiting notes parks named alone kin_of now_is of_depot =
    let h = talks-here depot w f lease stands_for out_as lent some in
    let old = there-is (get path_cmp w.cells turn.name) (λ c. IsSomeAnd (get path_cmp v.cells turn.name) (parked_in kin vm (Sibling what) turn c)) parks.cell in
    let new = there-is (get path_cmp v.cells turn.name) (parked_in kin vm (Sibling what) turn old.0) old.2 in
    let at = new.2 in
    let same : old.0 ≡ h.cell = some-same old.0 h.cell (sym old.1 ∙ ap (get path_cmp w.cells) named ∙ h.is.cell) in
    parked-goes depot w f lease what stands_for.whole h stands waiting v new.0 at.1.0 kin turn stands_for notes (ap (get path_cmp v.cells) (sym named) ∙ new.1)
    (λ q other. parks.others q (λ e. other (sym named ∙ sym e))) parks.ready parks.halted parks.outcome at.0 at.1.2 (at.2 ∙ ap (λ (c : Cell). c.is_listed) same)
    (at.3 ∙ ap (λ (c : Cell). c.broods) same) (at.4 ∙ ap (λ (c : Cell). c.log) same) kin_of (ap paged at.1.1 ∙ now_is)
    (subst (λ (k : KeyedMachine). IsOfDepot depot k.key) (sym at.1.1) of_depot) (ap₂ (λ (name : Path) children. record { name = name; children = children }) named alone)

pub talk-made : (depot : Shelves) (w v : World) (f : Forest) (lease : Lent) (what : Talk) (kin : Option Path) → StandsFor depot w f → IsHandedOut f lease
    → IsLent lease.start lease.ran lease.now → IsSome (subtree lease.name f.tree) → IsKin kin lease.name → standing_talk (vm_of lease) ≡ Some what
    → (became : Said) (word : Option ℕ) (answer : ℕ) → answer_by became ≡ Some (word, answer) → Spoke f lease what became → StandsFor depot v (said_forest lease what became f)
    → IsMade depot v f (said_forest lease what became f).tree lease (said_by what) (record (now_of lease) { machine = talked lease.now word answer })
talk-made depot w v f lease what None stands_for out_as lent some root stands became word answer is spoke after =
    absurd (root-silent depot w f lease what stands_for.whole (talks-here depot w f lease stands_for out_as lent some) stands root)
talk-made depot w v f lease what (Some parent) stands_for out_as lent some child stands became word answer is spoke after =
    let x : Branch = record { ticket = child.0; child = child.1 } in
    let s = speaks-to depot w f lease what parent x stands_for out_as lent some stands child.2 in
    made-by depot w v f lease parent x s.whole s.here child.2 what stands s.other became word answer is spoke after

-- a talk that waits
pub waits-here : (depot : Shelves) (w : World) (f : Forest) (lease : Lent) (what : Talk) (became : Said) → answer_by became ≡ None → Spoke f lease what became
    → StandsFor depot w (said_forest lease what became f) → NotesPeer what lease.name became w
    → (stands_waiting_of (vm_of lease) lease.name f.tree ≡ true) × StandsFor depot w f × NotesPeer what lease.name said.Waits w
waits-here depot w f lease (Send j) said.Waits none spoke after notes = (spoke, after, notes)
waits-here depot w f lease (Receive j) said.Waits none spoke after notes = (spoke, after, notes)
waits-here depot w f lease what said.Sent none spoke after notes = absurd (cc)
waits-here depot w f lease what (said.Received word) none spoke after notes = absurd (cc)
waits-here depot w f lease what said.Ended none spoke after notes = absurd (cc)

pub may-wait-so : (what : Talk) → MayWait (said_by what)
may-wait-so (Send j) = tt
may-wait-so (Receive j) = tt

pub may-want-so : (what : Talk) → IsSendOf what → MayWant (said_by what)
may-want-so (Send j) sends = tt
may-want-so (Receive j) sends = absurd sends

-- the machine after its talk, as the code has it
pub talked-as : {old new : KeyedMachine} (lease : Lent) (word : Option ℕ) (answer : ℕ) → new ≡ record old { machine = talked old.machine word answer } → old ≡ vm_of lease
    → (record (now_of lease) { machine = talked lease.now word answer } ≡ paged new) × (new.key ≡ lease.key)
talked-as {old} {new} lease word answer made is =
    let all : new ≡ record (vm_of lease) { machine = talked lease.now word answer } =
    made ∙ ap (λ (v : KeyedMachine). record v { machine = talked v.machine word answer }) is in
    (sym (ap paged all), ap (λ (v : KeyedMachine). v.key) all)

-- it is to be placed
pub placed-as : (depot : Shelves) (v : World) (f : Forest) (lease : Lent) (name : Path) (how : How) (vm : KeyedMachine) → lease.name ≡ name → {t : Tree Member} {m : Paged}
    → IsMade depot v f t lease how m → m ≡ paged vm → IsPlacedAs depot v f lease name how vm
placed-as depot v f lease name how vm named {t} {m} k is = subst (λ n. IsPlacedAs depot v f lease n how vm) named (record {
  between_in = record f { tree = t };
  tree = k.tree;
  between = k.between;
  is = k.is ∙ is;
  whole = k.whole;
  allowed = k.allowed;
  comes = k.comes;
  is_out = k.is_out;
})

-- the keys of a machine that is parked
pub parked-images : (images : Images) (w v : World) (turn : Ready) (kin : Option Path) (vm : KeyedMachine) (awaited : Awaited) → Parks turn kin vm awaited w v
    → IsImageAt images turn.name vm.key → AreOfImages images w → AreOfImages images v
parked-images images w v turn kin vm awaited parks at h name = by (same-or-apart turn.name name)
  where
    here-at : IfSome (get path_cmp v.cells turn.name) (HasImages images turn.name)
    here-at =
        let old = there-is (get path_cmp w.cells turn.name) (λ c. IsSomeAnd (get path_cmp v.cells turn.name) (parked_in kin vm awaited turn c)) parks.cell in
        let new = there-is (get path_cmp v.cells turn.name) (parked_in kin vm awaited turn old.0) old.2 in
        let is = new.2 in
        let had : HasImages images turn.name old.0 = subst (λ o. IfSome o (HasImages images turn.name)) old.1 (h turn.name) in
        subst (λ o. IfSome o (HasImages images turn.name)) (sym new.1) (record {
          state = subst (IsStateAt images turn.name) (sym is.1.2) (subst (λ (k : KeyedMachine). IsImageAt images turn.name k.key) (sym is.1.1) at);
          broods = subst (AreBroodsAt images turn.name) (sym is.3) had.broods;
        })

    by : (name ≡ turn.name) ⊎ (turn.name ≢ name) → IfSome (get path_cmp v.cells name) (HasImages images name)
    by (inl e) = subst (λ n. IfSome (get path_cmp v.cells n) (HasImages images n)) (sym e) here-at
    by (inr other) = subst (λ o. IfSome o (HasImages images name)) (sym (parks.others name (λ e. other (sym e)))) (h name)
