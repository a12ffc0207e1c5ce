-- The status that each end of a command calls for.
use Rattle.std.proofs.Common.{◌≡◌, inl, inr, ℕ, ◌≤◌, List, Option, Some, None, Result, Ok, Err, refl, sym, subst, ap, ◌∙◌}
use Rattle.std.specs.Option.{IfSome, option_map}
use Rattle.std.specs.Result.{IsOkAnd, IsErrAnd}
use Rattle.command_line.specs.declared.words.Command.{Command as Asked}
use Rattle.command_line.specs.Commands.{meaning}
use Rattle.command_line.specs.Words.{Command, run, drive, generated}
use Rattle.guest_files.specs.declared.stop.Stop.{Stop}
use Rattle.guest_files.specs.declared.stop.Stop.TheVariants.{ReadFault, ImageRefused, DataRefused, ScriptRefused, WriteFault, Wire, Memory}
use Rattle.guest_files.specs.Reads.{Files, Refusal, no_meaning, no_file, image_too_long, image_refused, disk_too_long, disk_not_sectors, input_too_long, script_too_long, script_refused}
use Rattle.guest_files.specs.Parts.{IsImageRefusal, IsDataRefusal, IsScriptRefusal, Stops, IsLoadOf, final_load, last_load}
use Rattle.command_texts.specs.declared.status.Status.{Status}
use Rattle.command_texts.specs.Status.{CallsFor, IsFileless, IsLoadReached, IsRefusalCode}
use Rattle.command_texts.specs.Text.{command_text}
use Rattle.command_texts.specs.Writes.{IsGenerated, IsUnrefused, Writes}

abbrev pub status_of : Result Unit Stop → Status
status_of (Ok done) = record { code = 0; first = 0; second = 0 }
status_of (Err (ReadFault load)) = record { code = 1; first = load; second = 0 }
status_of (Err (ImageRefused number)) = record { code = 3; first = number; second = 0 }
status_of (Err (DataRefused number)) = record { code = 4; first = number; second = 0 }
status_of (Err (ScriptRefused line kind)) = record { code = 8; first = line; second = kind }
status_of (Err WriteFault) = record { code = 5; first = 0; second = 0 }
status_of (Err Wire) = record { code = 7; first = 0; second = 0 }
status_of (Err Memory) = record { code = 6; first = 0; second = 0 }

-- what the words mean, where this command was found in them
pub means : {found : Option Asked} {command : Asked} {meant : Option Command} → found ≡ Some command → option_map meaning found ≡ meant → Some (meaning command) ≡ meant
means is h = sym (ap (option_map meaning) is) ∙ h

image-code : (number : ℕ) (refusal : Refusal) → IsImageRefusal number refusal → IsRefusalCode refusal (status_of (Err (ImageRefused number)))
image-code number no_meaning h = absurd h
image-code number (no_file load) h = absurd h
image-code number image_too_long h = (refl, h)
image-code number (image_refused rule) h = (refl, h)
image-code number disk_too_long h = absurd h
image-code number disk_not_sectors h = absurd h
image-code number input_too_long h = absurd h
image-code number script_too_long h = absurd h
image-code number (script_refused line kind) h = absurd h

data-code : (number : ℕ) (refusal : Refusal) → IsDataRefusal number refusal → IsRefusalCode refusal (status_of (Err (DataRefused number)))
data-code number no_meaning h = absurd h
data-code number (no_file load) h = absurd h
data-code number image_too_long h = absurd h
data-code number (image_refused rule) h = absurd h
data-code number disk_too_long h = (refl, h)
data-code number disk_not_sectors h = (refl, h)
data-code number input_too_long h = (refl, h)
data-code number script_too_long h = absurd h
data-code number (script_refused line kind) h = absurd h

script-code : (line kind : ℕ) (refusal : Refusal) → IsScriptRefusal line kind refusal → IsRefusalCode refusal (status_of (Err (ScriptRefused line kind)))
script-code line kind no_meaning h = absurd h
script-code line kind (no_file load) h = absurd h
script-code line kind image_too_long h = absurd h
script-code line kind (image_refused rule) h = absurd h
script-code line kind disk_too_long h = absurd h
script-code line kind disk_not_sectors h = absurd h
script-code line kind input_too_long h = absurd h
script-code line kind script_too_long h = (refl, h)
script-code line kind (script_refused at what) h = (refl, h)

module _ (command : Command) (read_fault write_fault : Type 0) (lost : Option Command → Type 0) where
  -- the text, or the lack of one, calls for the status of this end
  abbrev Calls : Result (List ℕ) Refusal → Result Unit Stop → Type 0
  Calls text done = CallsFor (Some command) text (status_of done) read_fault write_fault (lost (Some command))

  calls-done : (P : List ℕ → Type 0) (text : Result (List ℕ) Refusal) → IsOkAnd text P → Calls text (Ok tt)
  calls-done P (Ok bytes) h = inl refl
  calls-done P (Err refusal) h = absurd h

  calls-fault : (load : ℕ) (text : Result (List ℕ) Refusal) → load ≤ last_load (final_load command) text → read_fault → Calls text (Err (ReadFault load))
  calls-fault load (Ok bytes) reached fault = inr (inr (inl (refl, reached, fault)))
  calls-fault load (Err refusal) reached fault = inr (inr (refl, reached, fault))

  calls-image : (number : ℕ) (text : Result (List ℕ) Refusal) → IsErrAnd text (IsImageRefusal number) → Calls text (Err (ImageRefused number))
  calls-image number (Ok bytes) h = absurd h
  calls-image number (Err refusal) h = inl (image-code number refusal h)

  calls-data : (number : ℕ) (text : Result (List ℕ) Refusal) → IsErrAnd text (IsDataRefusal number) → Calls text (Err (DataRefused number))
  calls-data number (Ok bytes) h = absurd h
  calls-data number (Err refusal) h = inl (data-code number refusal h)

  calls-script : (line kind : ℕ) (text : Result (List ℕ) Refusal) → IsErrAnd text (IsScriptRefusal line kind) → Calls text (Err (ScriptRefused line kind))
  calls-script line kind (Ok bytes) h = absurd h
  calls-script line kind (Err refusal) h = inl (script-code line kind refusal h)

  calls-write : (P : List ℕ → Type 0) (text : Result (List ℕ) Refusal) → write_fault × IsOkAnd text P → Calls text (Err WriteFault)
  calls-write P (Ok bytes) h = inr (inr (inr (inl (refl, h.0))))
  calls-write P (Err refusal) h = absurd h.1

  calls-wire : (P : List ℕ → Type 0) (text : Result (List ℕ) Refusal) → lost (Some command) × IsOkAnd text P → Calls text (Err Wire)
  calls-wire P (Ok bytes) h = inr (inr (inr (inr (refl, h.0))))
  calls-wire P (Err refusal) h = absurd h.1

  calls-memory : (text : Result (List ℕ) Refusal) → Calls text (Err Memory)
  calls-memory (Ok bytes) = inr (inl refl)
  calls-memory (Err refusal) = inr (inl refl)

  -- so do the files, for what the words mean
  abbrev pub Completed : Option Files → Status → Option Command → Type 0
  Completed files s meant = IfSome files (λ told. CallsFor meant (command_text meant told) s read_fault write_fault (lost meant))

  module _ (asked : ℕ → Type 0) (old new : Option (List ℕ)) where
    completes : (files : Option Files) (done : Result Unit Stop)
        → Writes command files (λ load. read_fault × asked load) write_fault (lost (Some command)) old new done → Completed files (status_of done) (Some command)
    completes None done h = tt
    completes (Some told) (Ok done) h = calls-done _ (command_text (Some command) told) h
    completes (Some told) (Err (ReadFault load)) h = calls-fault load (command_text (Some command) told) h.1 h.0.1.0
    completes (Some told) (Err (ImageRefused number)) h = calls-image number (command_text (Some command) told) h
    completes (Some told) (Err (DataRefused number)) h = calls-data number (command_text (Some command) told) h
    completes (Some told) (Err (ScriptRefused line kind)) h = calls-script line kind (command_text (Some command) told) h
    completes (Some told) (Err WriteFault) h = calls-write _ (command_text (Some command) told) h
    completes (Some told) (Err Wire) h = calls-wire _ (command_text (Some command) told) h
    completes (Some told) (Err Memory) h = calls-memory (command_text (Some command) told)

pub completed : {done end : Result Unit Stop} {meant : Option Command}
    (command : Command) (lost : Option Command → Type 0) (asked : ℕ → Type 0) (read_fault write_fault : Type 0) (old new : Option (List ℕ)) (files : Option Files) → done ≡ end → Some command ≡ meant
    → Writes command files (λ load. read_fault × asked load) write_fault (lost (Some command)) old new done → Completed command read_fault write_fault lost files (status_of end) meant
completed {end = end} command lost asked read_fault write_fault old new files is same h =
    let Ends : Result Unit Stop → Type 0 = λ r. Writes command files (λ load. read_fault × asked load) write_fault (lost (Some command)) old new r in
    subst (Completed command read_fault write_fault lost files (status_of end)) same (completes command read_fault write_fault lost asked old new files end (subst Ends is h))

-- ---- a load had a fault

pub ends-at-load : {done : Result Unit Stop} (command : Command) (files : Option Files) (had_fault : ℕ → Type 0) (write_fault lost : Type 0) (old new : Option (List ℕ)) (load : ℕ)
    → done ≡ Err (ReadFault load) → Writes command files had_fault write_fault lost old new done
    → Stops (final_load command) (λ n. IsLoadOf command n × had_fault n) (option_map (command_text (Some command)) files) (ReadFault load)
ends-at-load command files had_fault write_fault lost old new load is h = subst (λ (r : Result Unit Stop). Writes command files had_fault write_fault lost old new r) is h

reaches : (command : Command) (files : Option Files) (load : ℕ) → IfSome (option_map (command_text (Some command)) files) (λ text. load ≤ last_load (final_load command) text)
    → IfSome files (λ told. IsLoadReached (Some command) (command_text (Some command) told) load)
reaches command None load h = tt
reaches command (Some told) load h = h

pub reached : {meant : Option Command} (command : Command) (files : Option Files) (load : ℕ) → Some command ≡ meant
    → IfSome (option_map (command_text (Some command)) files) (λ text. load ≤ last_load (final_load command) text)
    → IfSome files (λ told. IsLoadReached meant (command_text meant told) load)
reached command files load same h =
    subst (λ (m : Option Command). IfSome files (λ told. IsLoadReached m (command_text m told) load)) same (reaches command files load h)

-- ---- a command without files

fileless : (command : Command) (done : Result Unit Stop) (same : Type 0) → (IsGenerated command → same × IsUnrefused done) → IsFileless (Some command) (status_of done) same
fileless (run values how) done same h = tt
fileless (drive values script) done same h = tt
fileless (generated values) (Ok done) same h = ((h tt).0, inl refl)
fileless (generated values) (Err (ReadFault load)) same h = absurd (h tt).1
fileless (generated values) (Err (ImageRefused number)) same h = absurd (h tt).1
fileless (generated values) (Err (DataRefused number)) same h = absurd (h tt).1
fileless (generated values) (Err (ScriptRefused line kind)) same h = absurd (h tt).1
fileless (generated values) (Err WriteFault) same h = ((h tt).0, inr (inl refl))
fileless (generated values) (Err Wire) same h = ((h tt).0, inr (inr (inr refl)))
fileless (generated values) (Err Memory) same h = ((h tt).0, inr (inr (inl refl)))

pub ends-fileless : {done end : Result Unit Stop} {same : Type 0} {meant : Option Command} (command : Command) → done ≡ end → Some command ≡ meant
    → (IsGenerated command → same × IsUnrefused done) → IsFileless meant (status_of end) same
ends-fileless {end = end} {same} command is found h =
    subst (λ (m : Option Command). IsFileless m (status_of end) same) found
    (fileless command end same (subst (λ (r : Result Unit Stop). IsGenerated command → same × IsUnrefused r) is h))
