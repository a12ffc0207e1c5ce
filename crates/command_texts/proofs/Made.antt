-- What the lines of a family tell of its text, and that the text of a generated guest is there.
use Rattle.std.proofs.Common.{◌≡◌, ℕ, ◌<◌, ◌*◌, ◌%◌, ◌==◌, if◌then◌else◌, [], List, Option, Result, Ok, Err, ap, ◌∙◌, subst, lit≤}
use Rattle.std.specs.Result.{IsErrAnd}
use Rattle.cow_disk.specs.declared.disk.TheConstants.{SECTOR_SIZE}
use Rattle.flat_memory.proofs.Zeros.{length-zeros}
use Rattle.elf_load.specs.Image.{Image}
use Rattle.elf_load.specs.OneSegment.{bytes_of_words, image_of_code}
use Rattle.elf_load.specs.declared.image.TheConstants.{RAM_BASE}
use Rattle.guest_gen.specs.Guest.{words}
use Rattle.guest_gen.proofs.Loading.{loads}
use Rattle.command_line.specs.Words.{GeneratedValues, GuestValues, generated_guest}
use Rattle.command_line.specs.declared.options.TheConstants.{RAM}
use Rattle.guest_files.specs.declared.stop.Stop.{Stop}
use Rattle.guest_files.specs.declared.stop.Stop.TheVariants.{ReadFault, ImageRefused, DataRefused, ScriptRefused, WriteFault, Wire, Memory}
use Rattle.guest_files.specs.Reads.{Guest, Refusal, and_then, disk_not_sectors}
use Rattle.guest_files.specs.Parts.{IsDataRefusal, IsImageRefusal, IsScriptRefusal}
use Rattle.forest_tree.specs.Tree.{Tree}
use Rattle.sibling_forest.specs.Talk.{Box}
use Rattle.forest_model.specs.Forest.{finish}
use Rattle.forest_model.specs.Machine.{Machine}
use Rattle.run_report.specs.Lines.{lines}
use Rattle.run_report.specs.Report.{Ended as Outcome, lines_of, told_box}
use Rattle.run_report.specs.Summary.{summary, summary_of}
use Rattle.run_report.proofs.Begin.{outcome-summary}
use Rattle.command_texts.specs.declared.generated.TheConstants.{SECTORS}
use Rattle.command_texts.specs.Text.{HasLines, family_of, family_text, generated_files, generated_text, guest_image, image_from}
use Rattle.command_texts.specs.Writes.{IsSilent, MakesOver, WritesFileless}

module _ (tell : Tree (Box Machine) → List ℕ) (tell_of : Outcome → List ℕ) (same : (outcome : Outcome) (t : Tree (Box Machine)) → lines_of outcome ≡ lines told_box [] t → tell_of outcome ≡ tell t)
    (lost : Type 0) (values : GuestValues) (guest : Guest) where
  abbrev shows : Outcome → List ℕ → Type 0
  shows outcome text = tell_of outcome ≡ text

  abbrev of_image : Result Image Refusal → Result (List ℕ) Refusal
  of_image image = and_then (λ image. Ok (tell (finish (family_of values guest image)))) image

  text-made : (image : Result Image Refusal) (result : Result Outcome Stop) → MakesOver lost image (HasLines values guest) result
      → MakesOver lost (of_image image) shows result
  text-made (Ok image) (Ok outcome) h = same outcome (finish (family_of values guest image)) h
  text-made (Ok image) (Err (ReadFault load)) h = absurd h.0
  text-made (Ok image) (Err (ImageRefused number)) h = absurd h
  text-made (Ok image) (Err (DataRefused number)) h = absurd h
  text-made (Ok image) (Err (ScriptRefused line kind)) h = absurd h
  text-made (Ok image) (Err WriteFault) h = absurd h
  text-made (Ok image) (Err Wire) h = (h.0, tt)
  text-made (Ok image) (Err Memory) h = tt
  text-made (Err refusal) (Ok outcome) h = absurd h
  text-made (Err refusal) (Err (ReadFault load)) h = absurd h.0
  text-made (Err refusal) (Err (ImageRefused number)) h = h
  text-made (Err refusal) (Err (DataRefused number)) h = h
  text-made (Err refusal) (Err (ScriptRefused line kind)) h = h
  text-made (Err refusal) (Err WriteFault) h = absurd h
  text-made (Err refusal) (Err Wire) h = absurd h.1
  text-made (Err refusal) (Err Memory) h = tt

  -- what shows the lines of a family shows its text
  pub family-made : (result : Result Outcome Stop) → MakesOver lost (guest_image values guest) (HasLines values guest) result
      → MakesOver lost (family_text tell values guest) shows result
  family-made result h = text-made (guest_image values guest) result h

-- what may be lost is more
pub lost-more : {A B : Type 0} (lost other : Type 0) (text : Result B Refusal) (shows : A → B → Type 0) (result : Result A Stop) → (lost → other)
    → MakesOver lost text shows result → MakesOver other text shows result
lost-more lost other text shows (Ok value) to h = h
lost-more lost other text shows (Err (ReadFault load)) to h = h
lost-more lost other text shows (Err (ImageRefused number)) to h = h
lost-more lost other text shows (Err (DataRefused number)) to h = h
lost-more lost other text shows (Err (ScriptRefused line kind)) to h = h
lost-more lost other text shows (Err WriteFault) to h = h
lost-more lost other text shows (Err Wire) to h = (to h.0, h.1)
lost-more lost other text shows (Err Memory) to h = h

-- ---- `self`

pub generated-made : (lost : Type 0) (values : GeneratedValues) (given : GuestValues) (files : Guest) (result : Result Outcome Stop)
    → given ≡ generated_guest → files ≡ generated_files values.seed
    → MakesOver ((0 < given.clones) × lost) (guest_image given files) (HasLines given files) result
    → MakesOver lost (generated_text values) (λ outcome text. summary_of values.seed outcome ≡ text) result
unfolding generated_text
generated-made lost values given files result is made h =
    let any = (0 < given.clones) × lost in
    let there = generated_files values.seed in
    let with_files : MakesOver any (guest_image given there) (HasLines given there) result
    = subst (λ (f : Guest). MakesOver any (guest_image given f) (HasLines given f) result) made h in
    let with_guest : MakesOver any (guest_image generated_guest there) (HasLines generated_guest there) result
    = subst (λ (v : GuestValues). MakesOver any (guest_image v there) (HasLines v there) result) is with_files in
    lost-more any lost (family_text (summary values.seed) generated_guest there) (λ outcome text. summary_of values.seed outcome ≡ text) result (λ l. l.1)
    (family-made (summary values.seed) (summary_of values.seed) (outcome-summary values.seed) any generated_guest there result with_guest)

generated-image : (seed : ℕ) → guest_image generated_guest (generated_files seed) ≡ Ok (image_of_code RAM_BASE (bytes_of_words (words seed)) RAM.default)
unfolding guest_image generated_files
generated-image seed =
    let image : Image = image_of_code RAM_BASE (bytes_of_words (words seed)) RAM.default in
    let beside : ℕ → Result Image Refusal = λ size. if size % SECTOR_SIZE == 0 then Ok image else Err disk_not_sectors in
    ap (image_from (generated_files seed)) (loads seed RAM.default (lit≤ tt) (lit≤ tt)) ∙ ap beside (length-zeros (SECTOR_SIZE * SECTORS))

-- no guest of a seed is refused
pub generated-there : (values : GeneratedValues) → (bytes : List ℕ) × (generated_text values ≡ Ok bytes)
unfolding generated_text
generated-there values =
    let tell : Image → Result (List ℕ) Refusal = λ image. Ok (summary values.seed (finish (family_of generated_guest (generated_files values.seed) image))) in
    let image = image_of_code RAM_BASE (bytes_of_words (words values.seed)) RAM.default in
    (summary values.seed (finish (family_of generated_guest (generated_files values.seed) image)), ap (and_then tell) (generated-image values.seed))

-- a run of a generated guest that stopped, with a text that is there
pub fileless-stops : {A : Type 0} (lost write_fault : Type 0) (text : Result (List ℕ) Refusal) (bytes : List ℕ) (old new : Option (List ℕ))
    (shows : A → List ℕ → Type 0) (stop : Stop) → text ≡ Ok bytes → MakesOver lost text shows (Err stop) → WritesFileless text write_fault lost old new (Err stop)
fileless-stops lost write_fault text bytes old new shows (ReadFault load) is h = absurd h.0
fileless-stops lost write_fault text bytes old new shows (ImageRefused number) is h = subst (λ r. IsErrAnd r (IsImageRefusal number)) is h
fileless-stops lost write_fault text bytes old new shows (DataRefused number) is h = subst (λ r. IsErrAnd r (IsDataRefusal number)) is h
fileless-stops lost write_fault text bytes old new shows (ScriptRefused line kind) is h = subst (λ r. IsErrAnd r (IsScriptRefusal line kind)) is h
fileless-stops lost write_fault text bytes old new shows WriteFault is h = absurd h
fileless-stops lost write_fault text bytes old new shows Wire is h = (h.0, h.1)
fileless-stops lost write_fault text bytes old new shows Memory is h = tt

pub stop-silent : (stop : Stop) (same : Type 0) → same → IsSilent (Err stop) same
stop-silent (ReadFault load) same is = is
stop-silent (ImageRefused number) same is = is
stop-silent (DataRefused number) same is = is
stop-silent (ScriptRefused line kind) same is = is
stop-silent WriteFault same is = tt
stop-silent Wire same is = is
stop-silent Memory same is = is
