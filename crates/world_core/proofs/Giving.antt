-- A world after a machine has come back that makes no call.
use Rattle.std.proofs.Common.{◌≡◌, ℕ, zero, suc, Bool, true, false, refl, sym, ap, ap₂, ◌∙◌, subst, inl, inr, [], ◌∷◌, ◌++◌, Option, Some, None, is_some, option_and_then, cond, not}
use Rattle.std.specs.Option.{IfSome, IsSomeAnd}
use Rattle.std.specs.BTreeMap.{get}
use Rattle.image_depot.specs.Key.{Shelves}
use Rattle.fork_port.specs.declared.ending.Ending.{Ending}
use Rattle.forest_tree.specs.Tree.{Tree, node, Broods, Log, machine, Branch, Path, subtree, at_path}
use Rattle.forest_tree.specs.Step.{has_ended, settled_by}
use Rattle.forest_tree.specs.Sound.{IsSound}
use Rattle.forest_tree.proofs.Sound.{root-sound}
use Rattle.forest_tree.proofs.Places.{subtree-parts, subtree-sound}
use Rattle.forest_tree.proofs.Rests.{lives-none}
use Rattle.sibling_forest.specs.Talk.{Inbox, boxed, emptied, kept_by, queue}
use Rattle.sibling_forest.specs.Settle.{rests_at}
use Rattle.talking_history.specs.Places.{home, spots, placed, spot_talks}
use Rattle.talking_history.specs.World.{holds, lives_ready}
use Rattle.talking_history.specs.Rows.{gave, ended, spent, dropped, may_spend, came_back, Allows, does}
use Rattle.forest_model.specs.Forest.{machines}
use Rattle.forest_model.specs.Paged.{Paged, paged_machines, paged_talks}
use Rattle.machine_names.specs.NameOrder.{path_cmp}
use Rattle.world_core.specs.declared.cell.Cell.{Cell}
use Rattle.world_core.specs.declared.world.World.{World}
use Rattle.world_core.specs.declared.world.Placed.{Placed}
use Rattle.world_core.specs.declared.world.Placed.TheVariants.{Done, Dropped}
use Rattle.world_core.specs.Lent.{Lent, IsLent, now_of}
use Rattle.world_core.specs.Shows.{Member, paged_of, forest, IsAwake, HoldsAfter, Shows, ended_tree}
use Rattle.world_core.specs.World.{Forest, IsForest, ShowsTree, StandsFor, rests_in}
use Rattle.world_core.specs.Between.{IsBetween, IsHeardAs, IsSameWorld, with_tree}
use Rattle.world_core.specs.Answers.{Answers, Goes, HandedOut, IsHandedOut, MayWant, home_by}
use Rattle.world_core.proofs.Resting.{rests-below}
use Rattle.world_core.proofs.Returns.{IsOutHere, Handed, gone, there, handed, shows-same}
use Rattle.world_core.proofs.Spending.{came-own, later, row-goes, row-whole, settled-later, then}
use Rattle.world_core.proofs.Steps.{SameTickets, Tallies-same, Holds-same, came_out, lent_out, lease-same, has-run, HasRun}

-- ---- a machine that has made its own steps, with the words to it

queue-emptied : (j : ℕ) (inbox : Inbox) → queue j (emptied inbox) ≡ []
unfolding queue emptied
queue-emptied j [] = refl
queue-emptied zero (q ∷ rest) = refl
queue-emptied (suc zero) (q ∷ rest) = refl
queue-emptied (suc (suc j)) (q ∷ rest) = queue-emptied (suc j) rest

-- it has them while it lives, and none where it has ended
pub came-heard : (inbox : Inbox) (m : Paged) (broods : Broods Member) (log : Log Member) (t : Tree Member) → inbox ≡ (machine t).inbox
    → IsHeardAs (node (came_out inbox m) broods log) t
unfolding boxed spots paged_machines machines
came-heard inbox m broods log t same = by m.machine.ending refl
  where
    by : (e : Option Ending) → m.machine.ending ≡ e → IsHeardAs (node (came_out inbox m) broods log) t
    by None e = inl (ap is_some e, ap (λ o. kept_by (spots paged_machines) (spot_talks paged_talks) o inbox) e ∙ same)
    by (Some ending) e =
        inr (ap is_some e, λ j. ap (λ o. queue j (kept_by (spots paged_machines) (spot_talks paged_talks) o inbox)) e ∙ queue-emptied j inbox)

-- so does a machine after its call
pub stepped-heard : (inbox : Inbox) (m : Paged) (s n : Member) (t : Tree Member) (broods : Broods Member) (log : Log Member) → n ≡ came_out inbox m
    → inbox ≡ (machine t).inbox → IsHeardAs (node n broods log) t
stepped-heard inbox m s n t broods log made same = subst (λ b. IsHeardAs (node b broods log) t) (sym made) (came-heard inbox m broods log t same)

-- who rests below a machine is of its broods alone
pub node-rests : (s n : Member) (broods : Broods Member) (log after : Log Member) (x : Branch) (rest : Path)
    → rests_in (node s broods log) (x ∷ rest) ≡ rests_in (node n broods after) (x ∷ rest)
unfolding rests_at
node-rests s n broods log after x [] = refl
node-rests s n broods log after x (y ∷ rest) = refl

-- the same world stands for the same
pub same-stands : (depot : Shelves) (w v : World) (f : Forest) → IsSameWorld w v → StandsFor depot w f → StandsFor depot v f
same-stands depot w v f same h = record {
  whole = h.whole;
  halted = same.halted ∙ h.halted;
  tree = subst (λ o. ShowsTree o depot v f.tree) (sym same.outcome) (shows-same depot w v same.cells same.ready w.outcome f.tree h.tree);
}

pub same-goes : (depot : Shelves) (w v : World) (f : Forest) (name : Path) → IsSameWorld w v → StandsFor depot w f → subtree name f.tree ≡ None
    → Goes depot f (dropped name) v
unfolding Allows does
same-goes depot w v f name same h none = record { allowed = none; after = same-stands depot w v f same h }

-- the machine has made its own steps
module _ (depot : Shelves) (w : World) (f : Forest) (lease : Lent) (start : Paged) (inbox : Inbox) (lent : HasRun start lease.ran (now_of lease))
    (stands : StandsFor depot w f) (broods : Broods Member) (log : Log Member) (c : Cell)
    (is : IsOutHere depot w f lease.name (node (lent_out inbox start) broods log) c) where
  abbrev before : Tree Member
  before = node (lent_out inbox start) broods log

  abbrev back : Tree Member
  back = node (came_out inbox (now_of lease)) broods log

  before-sound : IsSound forest before
  before-sound = subtree-sound forest lease.name f.tree before stands.whole.sound is.there

  pub before-lives : forest.ending (lent_out inbox start) ≡ None
  before-lives = lives-none (forest.ending (lent_out inbox start)) is.shows.awake.lives

  same-tickets : SameTickets (lent_out inbox start) (came_out inbox (now_of lease))
  same-tickets = lease-same start (now_of lease) lease.ran inbox lent (root-sound forest (lent_out inbox start) broods log before-sound).good

  same-below : (x : Branch) (rest : Path) → subtree (lease.name ++ (x ∷ rest)) f.tree ≡ subtree (x ∷ rest) back
  unfolding subtree
  same-below x rest = subtree-parts lease.name (x ∷ rest) f.tree ∙ ap (option_and_then (subtree (x ∷ rest))) is.there

  rests-same : (x : Branch) (rest : Path) → rests_in f.tree (lease.name ++ (x ∷ rest)) ≡ rests_in back (x ∷ rest)
  rests-same x rest =
      rests-below lease.name x rest f.tree before is.there ∙ node-rests (lent_out inbox start) (came_out inbox (now_of lease)) broods log log x rest

  pub back-between : IsBetween depot w f lease.name back
  back-between = record {
    whole = stands.whole;
    halted = stands.halted;
    going = is.going;
    root = is.live.root;
    there = subst (λ o. IsSomeAnd o IsAwake) (sym is.there) is.shows.awake;
    own = record {
      good = same-tickets.good;
      one_each = λ t.
          (root-sound forest (lent_out inbox start) broods log before-sound).one_each before-lives t
          ∙ ap (λ (b : Bool). cond b 1 0) (sym (same-tickets.cloned t));
    };
    heard = subst (λ o. IsSomeAnd o (IsHeardAs back)) (sym is.there) (came-heard inbox (now_of lease) broods log before refl);
    cell = subst (λ o. IsSomeAnd o (λ cell. HoldsAfter depot lease.name cell back)) (sym is.cell) (
      Tallies-same lease.name c (lent_out inbox start) (came_out inbox (now_of lease)) broods broods log same-tickets is.shows.holds.tallies,
      λ lives. Holds-same depot lease.name c (lent_out inbox start) (came_out inbox (now_of lease)) broods log same-tickets is.shows.holds,
    );
    below = λ x rest.
        let n : Path = lease.name ++ (x ∷ rest) in
        subst (λ resting. Shows depot n resting (get path_cmp w.cells n) (subtree (x ∷ rest) back)) (rests-same x rest)
        (subst (Shows depot n (rests_in f.tree n) (get path_cmp w.cells n)) (same-below x rest) (is.live.each.cells n));
    ready_below = λ x rest h.
        is.live.each.ready (lease.name ++ (x ∷ rest))
        (ap₂ (λ resting u. holds (lives_ready paged_machines paged_talks resting) u) (rests-same x rest) (same-below x rest) ∙ h);
    elsewhere = λ n none. is.live.each.cells n;
    ready = λ n none h. is.live.each.ready n h;
    listed = is.live.each.listed;
  }

  -- it lives, or has ended
  abbrev pub resting : Bool
  resting = rests_in (then f lease.name start (now_of lease) lease.ran inbox broods log stands.whole is.there lent before-lives) lease.name

  pub may-give : lease.now.ending ≡ None → may_spend paged_machines paged_talks gave (now_of lease) resting ≡ true
  unfolding paged_machines machines
  may-give lives = ap (λ o. not (is_some o)) lives

  pub may-end : (ending : Ending) → lease.now.ending ≡ Some ending → may_spend paged_machines paged_talks ended (now_of lease) resting ≡ true
  unfolding paged_machines machines
  may-end ending over = ap is_some over

  abbrev later_is : Tree Member
  later_is = later f lease.name start (now_of lease) lease.ran inbox broods log stands.whole is.there lent before-lives

  settled-is : (e : Option Ending) → lease.now.ending ≡ e → later_is ≡ settled_by forest e (came_out inbox (now_of lease)) broods log
  settled-is e same = settled-later f lease.name start (now_of lease) lease.ran inbox broods log stands.whole is.there lent before-lives e same

  gave-back : (lives : lease.now.ending ≡ None) → came_back paged_machines paged_talks gave lease.name lease.ran f.tree ≡ (with_tree lease.name (placed home back) f).tree
  gave-back lives =
      came-own f lease.name start (now_of lease) lease.ran inbox broods log stands.whole is.there lent before-lives gave (may-give lives) refl
      ∙ ap (λ v. at_path (λ a. placed home v) lease.name f.tree) (settled-is None lives)

  ended-back : (ending : Ending) (over : lease.now.ending ≡ Some ending)
      → came_back paged_machines paged_talks ended lease.name lease.ran f.tree ≡ (with_tree lease.name (placed home (ended_tree back)) f).tree
  ended-back ending over =
      came-own f lease.name start (now_of lease) lease.ran inbox broods log stands.whole is.there lent before-lives ended (may-end ending over) refl
      ∙ ap (λ v. at_path (λ a. placed home v) lease.name f.tree) (settled-is (Some ending) over)

  pub gave-whole : lease.now.ending ≡ None → IsForest (with_tree lease.name (placed home back) f).tree
  gave-whole lives =
      row-whole f lease.name start (now_of lease) lease.ran inbox broods log stands.whole is.there lent before-lives gave (may-give lives) (placed home back) (gave-back lives)

  pub gave-goes : lease.now.ending ≡ None → (new : World) → StandsFor depot new (with_tree lease.name (placed home back) f) → Goes depot f (spent gave lease.name lease.ran) new
  gave-goes lives new after =
      row-goes f lease.name start (now_of lease) lease.ran inbox broods log stands.whole is.there lent before-lives gave (may-give lives) (placed home back) (gave-back lives)
      depot new after

  pub ended-whole : (ending : Ending) → lease.now.ending ≡ Some ending → IsForest (with_tree lease.name (placed home (ended_tree back)) f).tree
  ended-whole ending over =
      row-whole f lease.name start (now_of lease) lease.ran inbox broods log stands.whole is.there lent before-lives ended (may-end ending over)
      (placed home (ended_tree back)) (ended-back ending over)

  pub ended-goes : (ending : Ending) → lease.now.ending ≡ Some ending → (new : World) → StandsFor depot new (with_tree lease.name (placed home (ended_tree back)) f)
      → Goes depot f (spent ended lease.name lease.ran) new
  ended-goes ending over new after =
      row-goes f lease.name start (now_of lease) lease.ran inbox broods log stands.whole is.there lent before-lives ended (may-end ending over)
      (placed home (ended_tree back)) (ended-back ending over) depot new after

-- what is wanted where a machine is to be put away
abbrev Between : World → Lent → Type 0
Between w lease = (depot : Shelves) × (f : Forest) × (a : Tree Member) × IsBetween depot w f lease.name a × (paged_of (machine a) ≡ now_of lease)

pub back-wanted : (w : World) (lease : Lent) → IsLent lease.start lease.ran lease.now → HandedOut w lease
    → IfSome (get path_cmp w.cells lease.name) (λ (c : Cell). Between w lease)
back-wanted w lease lent some = by (handed some.0 w some.1.0 lease some.1.1 some.1.2)
  where
    by : Handed some.0 w some.1.0 lease → IfSome (get path_cmp w.cells lease.name) (λ (c : Cell). Between w lease)
    by (gone none cell) = subst (λ o. IfSome o (λ (c : Cell). Between w lease)) (sym cell) tt
    by (there start inbox broods log c is_as is) =
        subst (λ o. IfSome o (λ (c : Cell). Between w lease)) (sym is.cell) (
          some.0,
          some.1.0,
          back some.0 w some.1.0 lease start inbox (has-run lease (node (lent_out inbox start) broods log) lent is_as) some.1.1 broods log c is,
          back-between some.0 w some.1.0 lease start inbox (has-run lease (node (lent_out inbox start) broods log) lent is_as) some.1.1 broods log c is,
          refl,
        )

-- the answers to a machine that lives, and to one that has ended
module _ (depot : Shelves) (w : World) (f : Forest) (lease : Lent) (lent : IsLent lease.start lease.ran lease.now) (stands : StandsFor depot w f)
    (out_as : IsHandedOut f lease) (result : Placed) (new : World)
    (none_there : get path_cmp w.cells lease.name ≡ None → (result ≡ Dropped) × IsSameWorld w new) where
  pub gave-answers : lease.now.ending ≡ None
      → ((a : Tree Member) → IsBetween depot w f lease.name a → paged_of (machine a) ≡ now_of lease → has_ended forest a ≡ false
      → IsForest (with_tree lease.name (placed home a) f).tree → (result ≡ Done) × StandsFor depot new (with_tree lease.name (placed home a) f))
      → Answers depot f gave lease result new
  unfolding boxed spots paged_machines machines
  gave-answers lives comes = by (handed depot w f lease stands out_as)
    where
      by : Handed depot w f lease → Answers depot f gave lease result new
      by (gone none cell) =
          let is = none_there cell in subst (λ r. Answers depot f gave lease r new) (sym is.0) (same-goes depot w new f lease.name is.1 stands none)
      by (there start inbox broods log c is_as is) =
          let ran = has-run lease (node (lent_out inbox start) broods log) lent is_as in
          let done = comes (back depot w f lease start inbox ran stands broods log c is) (back-between depot w f lease start inbox ran stands broods log c is) refl
          (ap is_some lives) (gave-whole depot w f lease start inbox ran stands broods log c is lives) in
          subst (λ r. Answers depot f gave lease r new) (sym done.0) (gave-goes depot w f lease start inbox ran stands broods log c is lives new done.1)

  pub ended-answers : (ending : Ending) → lease.now.ending ≡ Some ending
      → ((a : Tree Member) → IsBetween depot w f lease.name a → paged_of (machine a) ≡ now_of lease
      → IsForest (with_tree lease.name (placed home (ended_tree a)) f).tree
      → (result ≡ Done) × StandsFor depot new (with_tree lease.name (placed home (ended_tree a)) f))
      → Answers depot f ended lease result new
  ended-answers ending over comes = by (handed depot w f lease stands out_as)
    where
      by : Handed depot w f lease → Answers depot f ended lease result new
      by (gone none cell) =
          let is = none_there cell in subst (λ r. Answers depot f ended lease r new) (sym is.0) (same-goes depot w new f lease.name is.1 stands none)
      by (there start inbox broods log c is_as is) =
          let ran = has-run lease (node (lent_out inbox start) broods log) lent is_as in
          let done = comes (back depot w f lease start inbox ran stands broods log c is) (back-between depot w f lease start inbox ran stands broods log c is) refl
          (ended-whole depot w f lease start inbox ran stands broods log c is ending over) in
          subst (λ r. Answers depot f ended lease r new) (sym done.0) (ended-goes depot w f lease start inbox ran stands broods log c is ending over new done.1)

-- a machine that makes no call comes back without memory
pub home-wants-none : (ending : Option Ending) → MayWant (home_by ending) → ⊥
home-wants-none None h = h
home-wants-none (Some ending) h = h
