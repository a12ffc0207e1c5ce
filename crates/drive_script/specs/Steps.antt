-- The steps of one machine of a family whose machines talk, and why it stops.
use Rattle.std.specs.Prelude.{◌≡◌, ℕ, zero, suc, ◌-◌, ◌||◌, Bool, true, false, if◌then◌else◌, length, replicate}
use Rattle.std.specs.Prelude.{Option, Some, None, IsSome, is_some, option_and_then, option_map}
use Rattle.fetch_proto.specs.Number.{page_number, page_place}
use Rattle.forest_model.specs.Paged.{Paged, stalled_at}
use Rattle.forest_tree.specs.Operations.{Call, clone, join, kill, Operations}
use Rattle.forest_tree.specs.Tree.{Tree, node, machine, broods_of, brood_of, Path, subtree}
use Rattle.forest_tree.specs.Step.{have_ended, step}
use Rattle.sibling_forest.specs.Talk.{Talk, send, receive, Talks, Box}
use Rattle.sibling_forest.specs.Settle.{settle, settle_all, rests_at}
use Rattle.talking_history.specs.World.{holds}
use Rattle.fork_port.specs.declared.ending.Ending.{Ending}
use Rattle.drive_script.specs.declared.answer.Why.{Why}
use Rattle.drive_script.specs.declared.answer.Why.TheVariants.{Ended, Stalls, Waits, Sends, Receives, MayGoOn}

-- whole machines, each with what is known of its pages and with the words to it
abbrev pub Family : Type 0
Family = Tree (Box Paged)

module _ {M E : Type 0} (o : Operations M E) (k : Talks M) where
  -- the tree after so many steps of the machine at a path
  abbrev pub after_steps : ℕ → Path → Tree (Box M) → Tree (Box M)
  after_steps count path t = settle_all o k (replicate count path) t

module _ {M E : Type 0} (o : Operations M E) where
  abbrev pub if_lives : Option E → Tree (Box M) → Option (Tree (Box M))
  if_lives None t = Some t
  if_lives (Some ending) t = None

  -- the tree at a path, where its machine lives
  abbrev pub live_at : Path → Tree (Box M) → Option (Tree (Box M))
  live_at path t = option_and_then (λ (a : Tree (Box M)). if_lives (o.ending (machine a).machine) a) (subtree path t)

-- `stall` tells the page that the next step of a machine waits for, if it waits for one
module _ {M E : Type 0} (o : Operations M E) (k : Talks M) (stall : M → Option ℕ) where
  abbrev pub stalls_at : Path → Tree (Box M) → Bool
  stalls_at path t = holds (λ (a : Tree (Box M)). is_some (stall (machine a).machine)) (subtree path t)

  -- the next step of the machine at a path is not made: it has ended, or waits for a child, for a sibling or for a page, or
  -- none is there
  abbrev pub stops : Path → Tree (Box M) → Bool
  stops path t = rests_at o k path t || stalls_at path t

  -- of at most so many steps of the machine at a path, those that it makes before it stops
  unfoldable pub steps_made : ℕ → Path → Tree (Box M) → ℕ
  steps_made zero path t = 0
  steps_made (suc most) path t = if stops path t then 0 else suc (steps_made most path (settle o k path t))

-- what a machine waits for that makes this call or this talk next, if it waits with it
abbrev pub joined_ticket : Option Call → Option ℕ
joined_ticket None = None
joined_ticket (Some (clone ticket)) = None
joined_ticket (Some (join ticket)) = Some ticket
joined_ticket (Some (kill ticket)) = None

abbrev pub awaited_by : Option ℕ → Why
awaited_by None = MayGoOn
awaited_by (Some ticket) = Waits ticket

abbrev pub awaited : Option Talk → Option ℕ → Why
awaited None ticket = awaited_by ticket
awaited (Some (send j)) ticket = Sends j
awaited (Some (receive j)) ticket = Receives j

-- the first that holds: it has ended, waits for this page, or waits with its call or its talk
abbrev pub why_by : Option Ending → Option ℕ → Bool → Why → Why
why_by (Some ending) page resting waits_for = Ended ending
why_by None (Some page) resting waits_for = Stalls page
why_by None None true waits_for = waits_for
why_by None None false waits_for = MayGoOn

module _ {M : Type 0} (o : Operations M Ending) (k : Talks M) (stall : M → Option ℕ) where
  -- why a machine stops where it stands, which rests or not
  abbrev pub why_of : Bool → M → Why
  why_of resting m = why_by (o.ending m) (stall m) resting (awaited (k.talk m) (joined_ticket (o.call m)))

  -- why the machine at a path stops, if one is there
  abbrev pub why_at : Path → Tree (Box M) → Option Why
  why_at path t = option_map (λ (a : Tree (Box M)). why_of (rests_at o k path t) (machine a).machine) (subtree path t)

-- ---- pages, as a script tells them

-- the number of the page at a place of a machine
abbrev pub number_in : Paged → ℕ → ℕ
number_in p place = page_number (length p.pages.blank) place

-- the place of the page with a number, if the machine has it
abbrev pub place_in : Paged → ℕ → Option ℕ
place_in p number = page_place (length p.pages.blank) (length p.pages.here - length p.pages.blank) number

-- the number of the page that the next step of a machine waits for
abbrev pub stall_told : Paged → Option ℕ
stall_told p = option_map (number_in p) (stalled_at p)

-- the tree with another machine
abbrev pub with_machine : {M : Type 0} → M → Tree (Box M) → Tree (Box M)
with_machine m (node b broods log) = node (record b { machine = m }) broods log

-- the next step of the machine at the root drops the children of a ticket, or takes them where all have ended
pub data Drops {M E : Type 0} (o : Operations M E) (ticket : ℕ) (t : Tree M) : Type 0 where
  by_kill : o.call (machine t) ≡ Some (kill ticket) → Drops o ticket t
  by_join : o.call (machine t) ≡ Some (join ticket) → have_ended o (brood_of ticket (broods_of t)) ≡ true → Drops o ticket t
  by_end : IsSome (o.ending (machine (step o t))) → Drops o ticket t
