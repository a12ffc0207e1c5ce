-- A machine that is booted, and what is told of its family.
use Rattle.std.proofs.Common.{◌≡◌, ◌⊎◌, inl, inr, ℕ, [], List, Result, Ok, Err, IfErr, IfOk, refl, sym, ap, ◌∙◌, subst}
use Rattle.std.specs.Result.{IsOkAnd}
use Rattle.std.specs.declared.snapshot.Snapshot.{Snapshot}
use Rattle.image_depot.specs.Key.{Shelves}
use Rattle.elf_load.specs.Image.{Image}
use Rattle.board_ends.specs.declared.finish.Finish.{Finish}
use Rattle.board_ends.specs.declared.finish.Finish.TheVariants.{Stopped}
use Rattle.command_line.specs.Words.{GuestValues}
use Rattle.guest_files.specs.declared.stop.Stop.{Stop}
use Rattle.guest_files.specs.declared.stop.Stop.TheVariants.{Memory, Wire}
use Rattle.guest_files.specs.Parts.{Makes}
use Rattle.guest_files.specs.Reads.{Guest, Refusal, and_then}
use Rattle.drive_script.specs.Driven.{HasMachines}
use Rattle.drive_script.specs.Steps.{Family}
use Rattle.forest_tree.specs.Projection.{map_tree}
use Rattle.talking_history.specs.Places.{bare}
use Rattle.talking_history.specs.World.{world_of}
use Rattle.talking_history.proofs.Turned.{start-home}
use Rattle.forest_model.specs.declared.Options.{Options}
use Rattle.forest_model.specs.Machine.{boot}
use Rattle.forest_model.specs.Forest.{port_of, finish}
use Rattle.forest_model.specs.Paged.{Paged, paged_machines, paged_talks}
use Rattle.run_report.specs.Lines.{lines}
use Rattle.run_report.specs.Report.{Ended as Outcome, lines_of, told_box}
use Rattle.vm_cell.specs.Keyed.{KeyedMachine, paged}
use Rattle.world_core.specs.declared.reason.Reason.{Reason}
use Rattle.world_core.specs.declared.reason.Reason.TheVariants as why
use Rattle.world_core.specs.declared.world.World.{World}
use Rattle.command_texts.specs.Text.{HasLines, IsBooted, IsOfMachine, first_family, first_known, known_family, known_guest, told_by}
use Rattle.command_texts.specs.Writes.{MakesOver}
use Rattle.command_texts.proofs.TextLemmas.{told-there}

pub boot-ticketless : (image : Image) (disk input : List ℕ) (options : Options) → (port_of (boot image disk input options)).tickets ≡ []
unfolding boot
boot-ticketless image disk input options = refl

pub boot-alone : (image : Image) (disk input : List ℕ) (options : Options) → (boot image disk input options).state.ports.sibling.siblings ≡ 0
unfolding boot
boot-alone image disk input options = refl

world-bare : (p : Paged) → bare (world_of paged_machines paged_talks {R = Reason} p).tree ≡ first_known p
unfolding map_tree
world-bare p = refl

-- the world has the machine alone, at home
pub has-machine : (depot : Shelves) (p : Paged) (made : World × Snapshot KeyedMachine) → IsOfMachine depot p made
    → HasMachines depot made.0 (first_known p)
has-machine depot p made h = record {
  forest = world_of paged_machines paged_talks (paged made.1.value);
  stands = h.stands;
  whole = start-home paged_machines paged_talks Reason (paged made.1.value);
  same = world-bare (paged made.1.value) ∙ ap first_known h.is;
}

module _ (values : GuestValues) (guest : Guest) (depot : Shelves) (made : World × Snapshot KeyedMachine) where
  -- what has the lines of the family of that machine has those of the machine that is booted from the image
  family-lines : (image : Result Image Refusal) (outcome : Outcome) → IsOkAnd image (IsBooted depot values guest made)
      → lines_of outcome ≡ lines told_box [] (finish (first_family made.1.value.machine))
      → IsOkAnd image (HasLines values guest outcome)
  family-lines (Ok image) outcome is ran = ran ∙ ap (λ (p : Paged). lines told_box [] (finish (first_family p.machine))) is.is
  family-lines (Err refusal) outcome is ran = absurd is

  -- what came of its family, for which else than by a lost wire only memory was wanting
  pub family-ends : (lost : Type 0) (image : Result Image Refusal) (end : Finish) (r : Result Outcome Stop) → IsOkAnd image (IsBooted depot values guest made)
      → IfOk r (λ outcome. lines_of outcome ≡ lines told_box [] (finish (first_family made.1.value.machine)))
      → IfErr r (λ stop. stop ≡ Memory ⊎ (stop ≡ Wire) × (end ≡ Stopped why.Wire)) → (end ≡ Stopped why.Wire → lost)
      → MakesOver lost image (HasLines values guest) r
  family-ends lost image end (Ok outcome) is ran told to = family-lines image outcome is ran
  family-ends lost image end (Err stop) is ran (inl memory) to =
      subst (λ (s : Stop). MakesOver lost image (HasLines values guest) (Err s)) (sym memory) tt
  family-ends lost image end (Err stop) is ran (inr wire) to =
      subst (λ (s : Stop). MakesOver lost image (HasLines values guest) (Err s)) (sym wire.0)
      (to wire.1, told-there (IsBooted depot values guest made) image is)

  -- it has machines
  pub family-there : (image : Result Image Refusal) → IsOkAnd image (IsBooted depot values guest made) → (t : Family) × HasMachines depot made.0 t
  family-there (Ok image) is = (known_family values guest image, has-machine depot (known_guest values guest image) made is)
  family-there (Err refusal) is = absurd is

  -- what a script tells of them is what it tells of the machine that is booted
  pub drives : {A : Type 0} (text : List ℕ) (image : Result Image Refusal) (shows : A → List ℕ → Type 0) (result : Result A Stop)
      → IsOkAnd image (IsBooted depot values guest made) → ((t : Family) → HasMachines depot made.0 t → Makes (told_by text t) shows result)
      → Makes (and_then (λ image. told_by text (known_family values guest image)) image) shows result
  drives text (Ok image) shows result is told = told (known_family values guest image) (has-machine depot (known_guest values guest image) made is)
  drives text (Err refusal) shows result is told = absurd is
