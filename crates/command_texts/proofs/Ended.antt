-- What is told of a family that has come to its end.
use Rattle.std.proofs.Common.{◌≡◌, ◌⊎◌, inl, inr, true, false, ◌++◌, append_assoc, [], ◌∷◌, Option, Some, None, option_map, Result, Ok, Err, refl, sym, ap, ◌∙◌}
use Rattle.std.specs.declared.alloc.AllocError.{AllocError}
use Rattle.forest_tree.specs.Tree.{Tree, node, Path, subtree}
use Rattle.forest_tree.specs.Step.{has_ended}
use Rattle.forest_tree.specs.Projection.{map_tree}
use Rattle.sibling_forest.specs.Talk.{Box, boxed}
use Rattle.sibling_forest.specs.Laws.{box_of}
use Rattle.talking_history.specs.Places.{Spot, spots, bare, boxes}
use Rattle.talking_history.specs.World.{is_out_at, holds, is_out, is_ready, place_of, world_of}
use Rattle.forest_tree.proofs.Projected.{subtree-map}
use Rattle.talking_history.specs.Seen.{spot_seen}
use Rattle.talking_history.specs.World as history
use Rattle.talking_history.specs.Rows.{Allows, stuck, took}
use Rattle.talking_history.specs.Histories.{History, row}
use Rattle.talking_history.proofs.Ends.{over-ends, rests-ends}
use Rattle.talking_history.proofs.Histories.{replay-leaves}
use Rattle.talking_history.proofs.Seen.{allows-seen}
use Rattle.forest_model.specs.Machine.{Machine}
use Rattle.forest_model.specs.Forest.{machines, finish, talks}
use Rattle.forest_model.specs.Paged.{Paged, paged_machines, paged_talks}
use Rattle.forest_model.proofs.Paged.{paged-alike, paged-projects}
use Rattle.forest_model.proofs.Rules.{machines-rules}
use Rattle.forest_model.proofs.Talking.{machines-talk}
use Rattle.run_report.specs.Lines.{Told, TellsSame, lines}
use Rattle.run_report.specs.Report.{Ended as Outcome, lines_of, told, told_box}
use Rattle.run_report.proofs.Seen.{lines-map}
use Rattle.world_core.specs.Outcome.{GoesOn, TellsOutcome}
use Rattle.world_core.specs.Shows.{Member, forest, told_member}
use Rattle.world_core.specs.declared.reason.Reason.{Reason}
use Rattle.world_core.specs.declared.world.World.{World}
use Rattle.world_core.specs.World.{Forest}
use Rattle.fork_board.specs.declared.note.Opening.{Opening}
use Rattle.fork_board.specs.Follows.{Follows, family_of, opening_record, record_at}
use Rattle.fork_board.specs.Passes.{Closes, PassValue}
use Rattle.board_ends.specs.Finishes.{HasStuck, IsAtEnd}
use Rattle.board_ends.proofs.Ending.{StuckThere, stuck-there}
use Rattle.board_ends.proofs.Over.{over-later}
use Rattle.command_texts.specs.Text.{first_family}

-- a machine tells the same at its place, and whatever is known of its pages
abbrev told_place : Told (Box (Spot Machine))
told_place = record {
  ending = λ b. told.ending b.machine.machine;
  cloned = λ b. told.cloned b.machine.machine;
  steps = λ b. told.steps b.machine.machine;
  output = λ b. told.output b.machine.machine;
}

tells-seen : TellsSame told_member told_place (box_of (spot_seen (λ (p : Paged). p.machine)))
tells-seen = record { ending = λ b. refl; cloned = λ b. refl; steps = λ b. refl; output = λ b. refl }

tells-bare : TellsSame told_place told_box (box_of (λ (s : Spot Machine). s.machine))
tells-bare = record { ending = λ b. refl; cloned = λ b. refl; steps = λ b. refl; output = λ b. refl }

family-lines : (f : Forest) → lines told_member [] f.tree ≡ lines told_box [] (bare (family_of f).tree)
family-lines f =
    sym (lines-map told_member told_place (box_of (spot_seen (λ (p : Paged). p.machine))) tells-seen [] f.tree)
    ∙ sym (lines-map told_place told_box (box_of (λ (s : Spot Machine). s.machine)) tells-bare [] (family_of f).tree)

first-bare : (m : Machine) → bare (world_of machines talks {R = Reason} m).tree ≡ first_family m
unfolding map_tree
first-bare m = refl

-- what a world of such machines tells of their ends, of who is ready, and of who is on lease
abbrev see : Tree Member → Tree (Box (Spot Machine))
see t = map_tree (box_of (spot_seen (λ (p : Paged). p.machine))) t

ended-seen : (t : Tree Member) → has_ended (boxes machines talks) (see t) ≡ has_ended forest t
unfolding map_tree machines paged_machines boxed spots
ended-seen (node b broods log) = refl

ready-seen : (name : Path) (t : Tree Member) → has_ended forest t ≡ false → is_ready paged_machines paged_talks name t ≡ true → is_ready machines talks name (see t) ≡ true
unfolding Allows
ready-seen name t lives ready =
    let going : Forest = record { tree = t; halted = None } in
    (allows-seen paged_machines machines paged_talks talks (λ (p : Paged). p.machine) paged-projects paged-alike (took name) going ((lives, refl), ready)).1

out-there : (u : Option (Tree Member))
    → holds (λ (a : Tree (Box (Spot Machine))). is_out_at (place_of a)) (option_map see u) ≡ holds (λ (a : Tree Member). is_out_at (place_of a)) u
unfolding map_tree
out-there None = refl
out-there (Some (node b broods log)) = refl

out-seen : (name : Path) (t : Tree Member) → is_out name (see t) ≡ is_out name t
out-seen name t =
    ap (holds (λ (a : Tree (Box (Spot Machine))). is_out_at (place_of a))) (subtree-map (box_of (spot_seen (λ (p : Paged). p.machine))) name t)
    ∙ out-there (subtree name t)

-- ---- a history at whose end the family has come to its own

-- the root has ended, or no machine makes a step any more
pub data EndsAt (opening : Opening) (log : History Reason) : Type 0 where
  over : has_ended (boxes machines talks) (record_at opening log).world.tree ≡ true → EndsAt opening log
  at_rest : StuckThere opening log → EndsAt opening log

-- a family that has come to its end after what a pass had seen is at its end after the whole history of the board
pub closed-ends : (pass : PassValue) (w : World) (h : Closes pass w) → IsAtEnd pass → EndsAt pass.board.opening h.log
closed-ends pass w h (inl has) = over (over-later pass (record pass { seen = h.log }) h.between refl h.later h.follows.legal has)
closed-ends pass w h (inr s) = at_rest (stuck-there pass.board.opening h.log h.follows.legal found)
  where
    found : HasStuck h.log
    found = record {
      before = s.found.before;
      seat = s.found.seat;
      later = s.found.later ++ h.between;
      entry =
          h.later ∙ ap (λ l. l ++ h.between) s.found.entry
          ∙ append_assoc s.found.before ((s.found.seat, row stuck) ∷ s.found.later) h.between;
    }

module _ (opening : Opening) (log : History Reason) (w : World) (h : Follows opening log w) where
  abbrev Family : Type 0
  Family = history.World Machine Reason

  -- it is what the first machine's family comes to
  at-end : EndsAt opening log → bare (record_at opening log).world.tree ≡ finish (first_family opening.first.value.machine)
  at-end ends =
      sym (same ends)
      ∙ replay-leaves machines talks machines-rules machines-talk log (opening_record opening) h.start
      ∙ ap finish (first-bare opening.first.value.machine)
    where
      same : EndsAt opening log → finish (bare (record_at opening log).world.tree) ≡ bare (record_at opening log).world.tree
      same (over has) = over-ends machines talks machines-rules machines-talk (record_at opening log).world.tree has
      same (at_rest s) = rests-ends machines talks machines-rules machines-talk (record_at opening log).world.tree s.resting

  -- and no world that stands for it tells that it goes on
  abbrev now : Forest
  now = h.world.forest

  goes-not : EndsAt opening log → GoesOn now.tree → ⊥
  goes-not (over has) goes =
      let no : false ≡ true =
      sym goes.0 ∙ sym (ended-seen now.tree)
      ∙ ap (λ (v : Family). has_ended (boxes machines talks) v.tree) h.world.family ∙ has in
      absurd (cc)
  goes-not (at_rest s) goes = by goes.1.1
    where
      name : Path
      name = goes.1.0

      by : (is_ready paged_machines paged_talks name now.tree ≡ true) ⊎ (is_out name now.tree ≡ true) → ⊥
      by (inl ready) =
          let no : false ≡ true =
          sym (s.none name) ∙ ap (λ (v : Family). is_ready machines talks name v.tree) (sym h.world.family)
          ∙ ready-seen name now.tree goes.0 ready in
          absurd (cc)
      by (inr away) =
          let no : false ≡ true =
          sym (s.whole name) ∙ ap (λ (v : Family). is_out name v.tree) (sym h.world.family) ∙ out-seen name now.tree ∙ away in
          absurd (cc)

  -- so there is an outcome, but for want of memory
  pub outcome-there : EndsAt opening log → (r : Result (Option Outcome) AllocError) → TellsOutcome now.tree r → r ≡ Ok None → ⊥
  outcome-there ends (Ok None) tells e = goes-not ends tells
  outcome-there ends (Ok (Some outcome)) tells e = cc
  outcome-there ends (Err error) tells e = cc

  some-same : (a b : Outcome) → ◌≡◌ {A = Result (Option Outcome) AllocError} (Ok (Some a)) (Ok (Some b)) → a ≡ b
  some-same a b e = cc

  pub ended-lines : EndsAt opening log → (r : Result (Option Outcome) AllocError) (outcome : Outcome) → TellsOutcome now.tree r → r ≡ Ok (Some outcome)
      → lines_of outcome ≡ lines told_box [] (finish (first_family opening.first.value.machine))
  ended-lines ends (Ok None) outcome tells e = absurd (goes-not ends tells)
  ended-lines ends (Ok (Some o)) outcome tells e =
      sym (ap lines_of (some-same o outcome e)) ∙ tells.1 ∙ family-lines now
      ∙ ap (lines told_box []) (ap (λ (v : Family). bare v.tree) h.world.family ∙ at-end ends)
  ended-lines ends (Err error) outcome tells e = absurd (cc)
