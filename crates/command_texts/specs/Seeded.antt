-- The seeds that the wires of a family are given.
use Rattle.std.specs.Prelude.{◌≡◌, ℕ, ◌==◌, ◌||◌, Bool, List, ◌++◌, drop, map, take, Option, Some, None, Result, Ok, Err}
use Rattle.command_line.specs.Words.{Command, RunValues, run, drive, generated, generated_how}
use Rattle.guest_files.specs.declared.stop.Stop.{Stop}
use Rattle.guest_files.specs.declared.stop.Stop.TheVariants.{ReadFault, ImageRefused, DataRefused, ScriptRefused, WriteFault, Wire}
use Rattle.wire_fates.specs.Fates.{seeded_with}

-- each of them is given this seed, once
abbrev pub all_seeded : ℕ → List (Option (List ℕ)) → List (Option (List ℕ))
all_seeded seed given = map (λ seeds. seeded_with seeds seed) given

-- a wire for each worker that is asked for, or all where there are fewer, is given the seed, and the others none
abbrev pub seeded_for : RunValues → List (Option (List ℕ)) → List (Option (List ℕ))
seeded_for how given = all_seeded how.seed (take how.workers given) ++ drop how.workers given

-- a command has given the wires their seeds, by what each tells of those that it was given
abbrev pub AreSeededIn : {W : Type 0} → Command → (W → Option (List ℕ)) → List W → List W → Type 0
AreSeededIn (run values how) seeds old new = map seeds new ≡ seeded_for how (map seeds old)
AreSeededIn (drive values script) seeds old new = new ≡ old
AreSeededIn (generated values) seeds old new = map seeds new ≡ seeded_for (generated_how values.workers) (map seeds old)

-- the same, of what the words mean
abbrev pub AreSeeded : {W : Type 0} → Option Command → (W → Option (List ℕ)) → List W → List W → Type 0
AreSeeded None seeds old new = ⊥
AreSeeded (Some command) seeds old new = AreSeededIn command seeds old new

-- the family was run, whatever came of its text
abbrev pub IfRun : {A : Type 0} → Result A Stop → Type 0 → Type 0
IfRun (Ok value) then = then
IfRun (Err WriteFault) then = then
IfRun (Err Wire) then = then
IfRun (Err stop) then = Unit {0}

-- the same, by its code
abbrev pub is_run : ℕ → Bool
is_run code = code == 0 || (code == 5 || code == 7)

-- a command stopped before it ran a family, and then this holds
abbrev pub IfBefore : Stop → Type 0 → Type 0
IfBefore (ReadFault load) then = then
IfBefore (ImageRefused number) then = then
IfBefore (DataRefused number) then = then
IfBefore (ScriptRefused line kind) then = then
IfBefore stop then = Unit {0}

-- the same, by its code
abbrev pub is_before : ℕ → Bool
is_before code = code == 1 || (code == 2 || (code == 3 || (code == 4 || code == 8)))
