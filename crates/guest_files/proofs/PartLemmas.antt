-- What the parts of a reading tell of the whole.
use Rattle.std.proofs.Common.{ap, refl, ◌≡◌, ℕ, zero, suc, ◌<◌, ◌≤◌, inl, inr, Bool, true, false, cond, List, [], ◌∷◌, ◌++◌, length}
use Rattle.std.proofs.Common.{append_assoc, Option, Some, None, Result, Ok, Err, IfSome, sym, ◌∙◌, subst, arith, ltb}
use Rattle.std.specs.Option.{option_map}
use Rattle.std.specs.Result.{IsOkAnd, IsErrAnd}
use Rattle.std.proofs.lemmas.List.{append-nil}
use Rattle.std.proofs.lemmas.List.Elements.{filter-append}
use Rattle.console_port.specs.declared.port.TheConstants.{MAX_INPUT}
use Rattle.io_edge.specs.Outside.{HasRisen, next_count}
use Rattle.io_edge.specs.declared.outside.ShelfError.{ShelfError}
use Rattle.io_edge.specs.declared.outside.ShelfError.TheVariants.{Fault}
use Rattle.io_edge.specs.Asked.{Asked, asked_after, names_after}
use Rattle.command_line.specs.Words.{Command, GuestValues, run, drive, generated}
use Rattle.guest_files.specs.declared.stop.TheConstants.{MAX_IMAGE, MAX_DISK, IMAGE_LOAD, DISK_LOAD, INPUT_LOAD, SCRIPT_LOAD}
use Rattle.guest_files.specs.declared.stop.Stop.{Stop}
use Rattle.guest_files.specs.declared.stop.Stop.TheVariants.{ReadFault, ImageRefused, DataRefused, ScriptRefused, WriteFault, Wire, Memory}
use Rattle.guest_files.specs.Reads.{Files, Refusal, no_meaning, no_file, image_too_long, image_refused, disk_too_long, disk_not_sectors}
use Rattle.guest_files.specs.Reads.{input_too_long, script_too_long, script_refused, and_then, file_read, option_read}
use Rattle.guest_files.specs.Reads.{image_read, disk_read, input_read, guest_read, Guest, with_disk, with_image}
use Rattle.guest_files.specs.Parts.{IsImageRefusal, IsDataRefusal, IsScriptRefusal, last_load_before, last_load, Load, load_if, load_of, guest_loads, loads_of, AreAsked, ArePartlyAsked, counted, named}
use Rattle.std.specs.Prelude.{nat_le}
use Rattle.guest_files.specs.Parts.{IsFaultOf, IsAskedUntil, Stops, StopsAt, StopsEarly, last_made, up_to, Gives, Makes}

-- ---- a part before others

-- more loads may come before a refusal where others follow
later-load : (part whole load : ℕ) (refusal : Refusal) → part ≤ whole → load ≤ last_load_before part refusal → load ≤ last_load_before whole refusal
later-load part whole load no_meaning later h = h
later-load part whole load (no_file at) later h = h
later-load part whole load image_too_long later h = h
later-load part whole load (image_refused rule) later h = omega arith
later-load part whole load disk_too_long later h = h
later-load part whole load disk_not_sectors later h = omega arith
later-load part whole load input_too_long later h = h
later-load part whole load script_too_long later h = h
later-load part whole load (script_refused line kind) later h = omega arith

reached : {A B : Type 0} (part whole load : ℕ) (r : Result A Refusal) (rest : A → Result B Refusal) → part ≤ whole
    → ((x : A) → part ≤ last_load whole (rest x)) → load ≤ last_load part r → load ≤ last_load whole (and_then rest r)
reached part whole load (Ok x) rest later beyond h = let after = beyond x in omega (arith, after)
reached part whole load (Err refusal) rest later beyond h = later-load part whole load refusal later h

refused : {A B : Type 0} (P : Refusal → Type 0) (r : Result A Refusal) (rest : A → Result B Refusal) → IsErrAnd r P → IsErrAnd (and_then rest r) P
refused P (Ok x) rest h = absurd h
refused P (Err refusal) rest h = h

told-refused : {F A B : Type 0} (P : Refusal → Type 0) (files : Option F) (read : F → Result A Refusal) (rest : F → A → Result B Refusal)
    → IfSome (option_map read files) (λ r. IsErrAnd r P) → IfSome (option_map (λ told. and_then (rest told) (read told)) files) (λ r. IsErrAnd r P)
told-refused P None read rest h = tt
told-refused P (Some told) read rest h = refused P (read told) (rest told) h

told-reached : {F A B : Type 0} (part whole load : ℕ) (files : Option F) (read : F → Result A Refusal) (rest : F → A → Result B Refusal) → part ≤ whole
    → ((told : F) (x : A) → part ≤ last_load whole (rest told x)) → IfSome (option_map read files) (λ r. load ≤ last_load part r)
    → IfSome (option_map (λ told. and_then (rest told) (read told)) files) (λ r. load ≤ last_load whole r)
told-reached part whole load None read rest later beyond h = tt
told-reached part whole load (Some told) read rest later beyond h = reached part whole load (read told) (rest told) later (beyond told) h

-- where a part stops, the whole does
pub stops : {F A B : Type 0} (part whole : ℕ) (P Q : ℕ → Type 0) (files : Option F) (read : F → Result A Refusal) (rest : F → A → Result B Refusal) (stop : Stop)
    → part ≤ whole → ((told : F) (x : A) → part ≤ last_load whole (rest told x)) → ((load : ℕ) → P load → Q load)
    → Stops part P (option_map read files) stop → Stops whole Q (option_map (λ told. and_then (rest told) (read told)) files) stop
stops part whole P Q files read rest (ReadFault load) later beyond to h = (to load h.0, told-reached part whole load files read rest later beyond h.1)
stops part whole P Q files read rest (ImageRefused number) later beyond to h = told-refused (IsImageRefusal number) files read rest h
stops part whole P Q files read rest (DataRefused number) later beyond to h = told-refused (IsDataRefusal number) files read rest h
stops part whole P Q files read rest (ScriptRefused line kind) later beyond to h = told-refused (IsScriptRefusal line kind) files read rest h
stops part whole P Q files read rest WriteFault later beyond to h = h
stops part whole P Q files read rest Wire later beyond to h = h
stops part whole P Q files read rest Memory later beyond to h = h

-- where a part gives a value, the whole is what comes of it
pub given : {A B : Type 0} (P : A → Type 0) (G : Result B Refusal → Type 0) (r : Result A Refusal) (rest : A → Result B Refusal)
    → IsOkAnd r P → ((x : A) → P x → G (rest x)) → G (and_then rest r)
given P G (Ok x) rest h to = to x h
given P G (Err refusal) rest h to = absurd h

-- more loads may have had a fault
more-faults : {A B : Type 0} (final : ℕ) (P Q : ℕ → Type 0) (told : Option (Result B Refusal)) (shows : A → B → Type 0) (result : Result A Stop)
    → ((load : ℕ) → P load → Q load) → Gives final P told shows result → Gives final Q told shows result
more-faults final P Q told shows (Ok value) to h = h
more-faults final P Q told shows (Err (ReadFault load)) to h = (to load h.0, h.1)
more-faults final P Q told shows (Err (ImageRefused number)) to h = h
more-faults final P Q told shows (Err (DataRefused number)) to h = h
more-faults final P Q told shows (Err (ScriptRefused line kind)) to h = h
more-faults final P Q told shows (Err WriteFault) to h = h
more-faults final P Q told shows (Err Wire) to h = h
more-faults final P Q told shows (Err Memory) to h = h

-- the whole, over the files, where a part gave a value
pub continues : {F A B V : Type 0} (final : ℕ) (P Q : ℕ → Type 0) (files : Option F) (read : F → Result A Refusal) (rest : F → A → Result B Refusal)
    (x : A) (shows : V → B → Type 0) (result : Result V Stop) → IfSome (option_map read files) (λ r. IsOkAnd r (λ told. x ≡ told))
    → ((load : ℕ) → P load → Q load) → Gives final P (option_map (λ told. rest told x) files) shows result
    → Gives final Q (option_map (λ told. and_then (rest told) (read told)) files) shows result
continues final P Q None read rest x shows result gave to h = more-faults final P Q None shows result to h
continues final P Q (Some told) read rest x shows result gave to h =
    given (λ y. x ≡ y) (λ r. Gives final Q (Some r) shows result) (read told) (rest told) gave
    (λ y same. subst (λ z. Gives final Q (Some (rest told z)) shows result) same (more-faults final P Q (Some (rest told x)) shows result to h))

-- a part that makes no load, whatever the files are
pub makes : {F A B : Type 0} (final : ℕ) (Q : ℕ → Type 0) (files : Option F) (r : Result B Refusal) (shows : A → B → Type 0) (result : Result A Stop)
    → Makes r shows result → Gives final Q (option_map (λ told. r) files) shows result
makes final Q None r shows (Ok value) h = tt
makes final Q (Some told) r shows (Ok value) h = h
makes final Q files r shows (Err (ReadFault load)) h = absurd h.0
makes final Q None r shows (Err (ImageRefused number)) h = tt
makes final Q (Some told) r shows (Err (ImageRefused number)) h = h
makes final Q None r shows (Err (DataRefused number)) h = tt
makes final Q (Some told) r shows (Err (DataRefused number)) h = h
makes final Q None r shows (Err (ScriptRefused line kind)) h = tt
makes final Q (Some told) r shows (Err (ScriptRefused line kind)) h = h
makes final Q files r shows (Err WriteFault) h = absurd h
makes final Q files r shows (Err Wire) h = absurd h
makes final Q files r shows (Err Memory) h = tt

-- ---- files

-- no refusal of a file forestalls a load that is not after it
by_length : (is_long : Bool) (least final : ℕ) (refusal : Refusal) (bytes : List ℕ) → least ≤ final → least ≤ last_load_before final refusal
    → least ≤ last_load final (cond is_long (Err refusal) (Ok bytes))
by_length true least final refusal bytes read long = long
by_length false least final refusal bytes read long = read

pub file-load : (least load most final : ℕ) (refusal : Refusal) (file : Option (List ℕ)) → least ≤ load → least ≤ final
    → least ≤ last_load_before final refusal → least ≤ last_load final (file_read load most refusal file)
file-load least load most final refusal None here read long = here
file-load least load most final refusal (Some bytes) here read long = by_length (ltb most (length bytes)) least final refusal bytes read long

-- the load of a file, by what a shelf tells
pub file-reached : (load most : ℕ) (refusal : Refusal) (name : List ℕ) (files : Option Files) → load ≤ last_load_before load refusal
    → IfSome (option_map (λ told. file_read load most refusal (told name)) files) (λ r. load ≤ last_load load r)
file-reached load most refusal name None long = tt
file-reached load most refusal name (Some told) long = file-load load load most load refusal (told name) (omega arith) (omega arith) long

option-load : (least load most final : ℕ) (refusal : Refusal) (name : Option (List ℕ)) (files : Files) → least ≤ load → least ≤ final
    → least ≤ last_load_before final refusal → least ≤ last_load final (option_read load most refusal name files)
option-load least load most final refusal None files here read long = read
option-load least load most final refusal (Some name) files here read long = file-load least load most final refusal (files name) here read long

-- ---- the last load before what comes after a part

pub after : {A B : Type 0} (least final : ℕ) (r : Result A Refusal) (rest : A → Result B Refusal) → least ≤ last_load final r
    → ((x : A) → least ≤ last_load final (rest x)) → least ≤ last_load final (and_then rest r)
after least final (Ok x) rest h to = to x
after least final (Err refusal) rest h to = h

disk-after : (values : GuestValues) (files : Files) (image disk : List ℕ) → DISK_LOAD ≤ last_load INPUT_LOAD (with_disk values files image disk)
unfolding input_read
disk-after values files image disk =
    after DISK_LOAD INPUT_LOAD (input_read values files) (λ input. Ok (record { image = image; disk = disk; input = input }))
    (option-load DISK_LOAD INPUT_LOAD MAX_INPUT INPUT_LOAD input_too_long values.input files (omega arith) (omega arith) (omega arith)) (λ input. omega arith)

image-after : (values : GuestValues) (files : Files) (image : List ℕ) → IMAGE_LOAD ≤ last_load INPUT_LOAD (with_image values files image)
unfolding disk_read
image-after values files image =
    after IMAGE_LOAD INPUT_LOAD (disk_read values files) (with_disk values files image)
    (option-load IMAGE_LOAD DISK_LOAD MAX_DISK INPUT_LOAD disk_too_long values.disk files (omega arith) (omega arith) (omega arith))
    (λ disk. let later = disk-after values files image disk in omega (arith, later))

-- ---- the loads that were asked for

counted-append : (first later : List Load) (count : ℕ) → counted (first ++ later) count ≡ counted later (counted first count)
counted-append [] later count = refl
counted-append (load ∷ first) later count = counted-append first later (next_count count)

named-append : (first later : List Load) (names : Option (List (List ℕ))) → named (first ++ later) names ≡ named later (named first names)
named-append [] later names = refl
named-append (load ∷ first) later names = named-append first later (names_after load.name names)

pub asked-both : (first later : List Load) (old mid new : Asked) → AreAsked first old mid → AreAsked later mid new → AreAsked (first ++ later) old new
asked-both first later old mid new before after = (
  after.0 ∙ ap (counted later) before.0 ∙ sym (counted-append first later old.loads),
  after.1 ∙ ap (named later) before.1 ∙ sym (named-append first later old.names),
)

-- a load alone that had a fault
pub fault-of-one : {A : Type 0} (number : ℕ) (name : List ℕ) (result : Result A ShelfError) (old new : Asked) → result ≡ Err Fault
    → new ≡ asked_after name result old → IsFaultOf (load_of number name ∷ []) number old new
fault-of-one number name result old new is_fault tells =
    let after = tells ∙ ap (λ r. asked_after name r old) is_fault in
    record {
      name = name;
      before = [];
      rest = [];
      place = refl;
      asked = (ap (λ (asked : Asked). asked.loads) after, ap (λ (asked : Asked). asked.names) after);
      fault = rw after refl;
    }

-- no more than some of these loads were asked for
pub fault-before : (loads more : List Load) (number : ℕ) (old new : Asked) → IsFaultOf loads number old new → IsFaultOf (loads ++ more) number old new
fault-before loads more number old new h = record {
  name = h.name;
  before = h.before;
  rest = h.rest ++ more;
  place = ap (λ all. all ++ more) h.place ∙ append_assoc h.before (load_of number h.name ∷ h.rest) more;
  asked = h.asked;
  fault = h.fault;
}

-- others were asked for before these
pub fault-after : (first loads : List Load) (number : ℕ) (old mid new : Asked) → AreAsked first old mid → IsFaultOf loads number mid new
    → IsFaultOf (first ++ loads) number old new
fault-after first loads number old mid new before h =
    let load = load_of number h.name in
    record {
      name = h.name;
      before = first ++ h.before;
      rest = h.rest;
      place = ap (λ all. first ++ all) h.place ∙ sym (append_assoc first h.before (load ∷ h.rest));
      asked =
          subst (λ all. AreAsked all old new) (sym (append_assoc first h.before (load ∷ [])))
          (asked-both first (h.before ++ (load ∷ [])) old mid new before h.asked);
      fault = h.fault;
    }

-- ---- the loads that a part made

-- where a load stops a part, which is the last that was made
pub made-to : (loads made rest : List Load) (load : ℕ) (long stop : Stop) (old new : Asked) → loads ≡ made ++ rest → up_to load loads ≡ made
    → last_made long ≡ load → StopsAt load long stop → AreAsked made old new → IsAskedUntil loads stop old new
made-to loads made rest load long stop old new place is_made last stops asked =
    let some : ArePartlyAsked loads old new = record { made = made; rest = rest; place = place; asked = asked } in
    let just : last_made stop ≡ load → AreAsked (up_to (last_made stop) loads) old new
    = λ is. subst (λ part. AreAsked part old new) (sym (ap (λ n. up_to n loads) is ∙ is_made)) asked in
    elim stops as (λ _. IsAskedUntil loads stop old new) [
      | inl is ↦ record { some = some; just = λ other. just (ap last_made is ∙ last) }
      | inr later ↦ elim later as (λ _. IsAskedUntil loads stop old new) [
        | inl is ↦ record { some = some; just = λ other. just (ap last_made is) }
        | inr is ↦ record { some = some; just = λ other. absurd (other is) }
      ]
    ]

-- where all were made before
pub made-all : (loads : List Load) (stop : Stop) (old new : Asked) → last_made stop ≡ SCRIPT_LOAD → up_to SCRIPT_LOAD loads ≡ loads
    → AreAsked loads old new → IsAskedUntil loads stop old new
made-all loads stop old new late all asked =
    made-to loads loads [] SCRIPT_LOAD stop stop old new (sym (append-nil loads)) all late (inl refl) asked

pub stops-early : (load : ℕ) (long stop : Stop) → last_made long ≡ load → load < SCRIPT_LOAD → StopsAt load long stop → StopsEarly stop
stops-early load long stop last low (inl is) = let same : last_made stop ≡ load = ap last_made is ∙ last in inr (omega arith)
stops-early load long stop last low (inr (inl is)) = let same : last_made stop ≡ load = ap last_made is in inr (omega arith)
stops-early load long stop last low (inr (inr is)) = inl is

-- the loads of a guest up to each of them
pub to-image : (image : List ℕ) (disk input : Option (List ℕ))
    → up_to IMAGE_LOAD (load_of IMAGE_LOAD image ∷ (load_if DISK_LOAD disk ++ load_if INPUT_LOAD input)) ≡ load_of IMAGE_LOAD image ∷ []
to-image image None None = refl
to-image image None (Some input) = refl
to-image image (Some disk) None = refl
to-image image (Some disk) (Some input) = refl

pub to-disk : (image : List ℕ) (disk input : Option (List ℕ))
    → up_to DISK_LOAD (load_of IMAGE_LOAD image ∷ (load_if DISK_LOAD disk ++ load_if INPUT_LOAD input)) ≡ load_of IMAGE_LOAD image ∷ load_if DISK_LOAD disk
to-disk image None None = refl
to-disk image None (Some input) = refl
to-disk image (Some disk) None = refl
to-disk image (Some disk) (Some input) = refl

all-to-input : (image : List ℕ) (disk input : Option (List ℕ))
    → up_to INPUT_LOAD (load_of IMAGE_LOAD image ∷ (load_if DISK_LOAD disk ++ load_if INPUT_LOAD input))
    ≡ load_of IMAGE_LOAD image ∷ (load_if DISK_LOAD disk ++ load_if INPUT_LOAD input)
all-to-input image None None = refl
all-to-input image None (Some input) = refl
all-to-input image (Some disk) None = refl
all-to-input image (Some disk) (Some input) = refl

pub to-input : (values : GuestValues) → up_to INPUT_LOAD (guest_loads values) ≡ guest_loads values
to-input values = all-to-input values.image values.disk values.input

all-to-script : (image : List ℕ) (disk input : Option (List ℕ))
    → up_to SCRIPT_LOAD (load_of IMAGE_LOAD image ∷ (load_if DISK_LOAD disk ++ load_if INPUT_LOAD input))
    ≡ load_of IMAGE_LOAD image ∷ (load_if DISK_LOAD disk ++ load_if INPUT_LOAD input)
all-to-script image None None = refl
all-to-script image None (Some input) = refl
all-to-script image (Some disk) None = refl
all-to-script image (Some disk) (Some input) = refl

pub to-all : (values : GuestValues) → up_to SCRIPT_LOAD (guest_loads values) ≡ guest_loads values
to-all values = all-to-script values.image values.disk values.input

up-both : (n : ℕ) (loads more : List Load) → up_to n (loads ++ more) ≡ up_to n loads ++ up_to n more
up-both n loads more = filter-append (λ load. nat_le load.number n) loads more

-- one that is higher is not among those up to a number
up-below : (n : ℕ) (name : List ℕ) → n < SCRIPT_LOAD → up_to n (load_of SCRIPT_LOAD name ∷ []) ≡ []
up-below zero name low = refl
up-below (suc zero) name low = refl
up-below (suc (suc zero)) name low = refl
up-below (suc (suc (suc zero))) name low = refl
up-below (suc (suc (suc (suc n)))) name low = absurd (omega arith)

-- all that a command asks for are up to the one of the script
pub all-loads : (command : Command) → up_to SCRIPT_LOAD (loads_of command) ≡ loads_of command
all-loads (run values how) = to-all values
all-loads (drive values script) =
    up-both SCRIPT_LOAD (guest_loads values) (load_of SCRIPT_LOAD script ∷ []) ∙ ap (λ loads. loads ++ (load_of SCRIPT_LOAD script ∷ [])) (to-all values)
all-loads (generated values) = refl

-- a part that stops early is followed by the load of the script
pub until-script : (loads : List Load) (name : List ℕ) (stop : Stop) (old new : Asked) → IsAskedUntil loads stop old new → StopsEarly stop
    → IsAskedUntil (loads ++ (load_of SCRIPT_LOAD name ∷ [])) stop old new
until-script loads name stop old new h early =
    let script = load_of SCRIPT_LOAD name ∷ [] in
    let some : ArePartlyAsked (loads ++ script) old new = record {
      made = h.some.made;
      rest = h.some.rest ++ script;
      place = ap (λ all. all ++ script) h.some.place ∙ append_assoc h.some.made h.some.rest script;
      asked = h.some.asked;
    } in
    elim early as (λ _. IsAskedUntil (loads ++ script) stop old new) [
      | inl is ↦ record { some = some; just = λ other. absurd (other is) }
      | inr low ↦ record {
        some = some;
        just = λ other. subst (λ part. AreAsked part old new)
            (sym (up-both (last_made stop) loads script ∙ ap (λ l. up_to (last_made stop) loads ++ l) (up-below (last_made stop) name low)
            ∙ append-nil (up_to (last_made stop) loads))) (h.just other);
      }
    ]

-- ---- the files of a guest, over those that the shelf tells before each load

-- what a part gave
abbrev pub Gave : {F A : Type 0} → (F → Result A Refusal) → Option F → A → Type 0
Gave read files x = IfSome (option_map read files) (λ r. IsOkAnd r (λ told. x ≡ told))

-- the load of the name that the values tell is what they read
pub image-read : (values : GuestValues) (name : List ℕ) → name ≡ values.image
    → (λ (told : Files). file_read IMAGE_LOAD MAX_IMAGE image_too_long (told name)) ≡ image_read values
unfolding image_read
image-read values name is_image = ap (λ it (told : Files). file_read IMAGE_LOAD MAX_IMAGE image_too_long (told it)) is_image

pub disk-read : (values : GuestValues) (name : Option (List ℕ)) → name ≡ values.disk → option_read DISK_LOAD MAX_DISK disk_too_long name ≡ disk_read values
unfolding disk_read
disk-read values name is_disk = ap (option_read DISK_LOAD MAX_DISK disk_too_long) is_disk

pub input-read : (values : GuestValues) (name : Option (List ℕ)) → name ≡ values.input → option_read INPUT_LOAD MAX_INPUT input_too_long name ≡ input_read values
unfolding input_read
input-read values name is_input = ap (option_read INPUT_LOAD MAX_INPUT input_too_long) is_input

pub rises : (old mid new : ℕ) → old ≤ mid → HasRisen mid new → HasRisen old new
rises old mid new counts (inl more) = inl (omega arith)
rises old mid new counts (inr last) = inr last

pub image-stops : (values : GuestValues) (files : Option Files) (P Q : ℕ → Type 0) (stop : Stop)
    → Stops IMAGE_LOAD P (option_map (image_read values) files) stop → ((load : ℕ) → P load → Q load)
    → Stops INPUT_LOAD Q (option_map (guest_read values) files) stop
unfolding guest_read
image-stops values files P Q stop h to =
    stops IMAGE_LOAD INPUT_LOAD P Q files (image_read values) (with_image values) stop (omega arith) (image-after values) to h

pub disk-stops : (values : GuestValues) (files mid : Option Files) (image : List ℕ) (P Q : ℕ → Type 0) (stop : Stop) → mid ≡ files
    → Gave (image_read values) files image → Stops DISK_LOAD P (option_map (disk_read values) mid) stop → ((load : ℕ) → P load → Q load)
    → Stops INPUT_LOAD Q (option_map (guest_read values) files) stop
unfolding guest_read
disk-stops values files mid image P Q stop same gave h to =
    let here = subst (λ told. Stops DISK_LOAD P (option_map (disk_read values) told) stop) same h in
    continues {A = List ℕ} {V = Guest} INPUT_LOAD Q Q files (image_read values) (with_image values) image (λ v told. v ≡ told) (Err stop) gave (λ load was. was)
    (stops DISK_LOAD INPUT_LOAD P Q files (disk_read values) (λ told. with_disk values told image) stop (omega arith)
    (λ told disk. disk-after values told image disk) to here)

pub input-stops : (values : GuestValues) (files mid last : Option Files) (image disk : List ℕ) (P Q : ℕ → Type 0) (stop : Stop) → mid ≡ files → last ≡ mid
    → Gave (image_read values) files image → Gave (disk_read values) mid disk → Stops INPUT_LOAD P (option_map (input_read values) last) stop
    → ((load : ℕ) → P load → Q load) → Stops INPUT_LOAD Q (option_map (guest_read values) files) stop
unfolding guest_read
input-stops values files mid last image disk P Q stop same again gave_image gave_disk h to =
    let here = subst (λ told. Stops INPUT_LOAD P (option_map (input_read values) told) stop) (again ∙ same) h in
    let gave_here = subst (λ told. Gave (disk_read values) told disk) same gave_disk in
    continues {A = List ℕ} {V = Guest} INPUT_LOAD Q Q files (image_read values) (with_image values) image (λ v told. v ≡ told) (Err stop) gave_image (λ load was. was)
    (continues {A = List ℕ} {V = Guest} INPUT_LOAD Q Q files (disk_read values) (λ told. with_disk values told image) disk (λ v told. v ≡ told) (Err stop) gave_here
    (λ load was. was)
    (stops INPUT_LOAD INPUT_LOAD P Q files (input_read values) (λ told input. Ok (record { image = image; disk = disk; input = input })) stop (omega arith)
    (λ told input. omega arith) to here))

guest_from : (values : GuestValues) (told : Files) (image disk input : List ℕ) → IsOkAnd (image_read values told) (λ x. image ≡ x)
    → IsOkAnd (disk_read values told) (λ x. disk ≡ x) → IsOkAnd (input_read values told) (λ x. input ≡ x)
    → IsOkAnd (guest_read values told) (λ guest. record { image = image; disk = disk; input = input } ≡ guest)
unfolding guest_read
guest_from values told image disk input gave_image gave_disk gave_input =
    let G : Result Guest Refusal → Type 0 = λ r. IsOkAnd r (λ guest. record { image = image; disk = disk; input = input } ≡ guest) in
    given (λ x. image ≡ x) G (image_read values told) (with_image values told) gave_image
    (λ a is_a. given (λ x. disk ≡ x) G (disk_read values told) (with_disk values told a) gave_disk
    (λ b is_b. given (λ x. input ≡ x) G (input_read values told) (λ c. Ok (record { image = a; disk = b; input = c })) gave_input (λ c is_c. cc)))

pub guest-given : (values : GuestValues) (files mid last : Option Files) (image disk input : List ℕ) → mid ≡ files → last ≡ mid
    → Gave (image_read values) files image → Gave (disk_read values) mid disk → Gave (input_read values) last input
    → Gave (guest_read values) files (record { image = image; disk = disk; input = input })
guest-given values None mid last image disk input same again gave_image gave_disk gave_input = tt
guest-given values (Some told) mid last image disk input same again gave_image gave_disk gave_input =
    guest_from values told image disk input gave_image (subst (λ files. Gave (disk_read values) files disk) same gave_disk)
    (subst (λ files. Gave (input_read values) files input) (again ∙ same) gave_input)
