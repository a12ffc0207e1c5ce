-- What the files hold is looked at once all are read: a stop for it tells that all loads were made.
use Rattle.std.proofs.Common.{◌≡◌, ℕ, ◌≤◌, Bool, true, false, cond, eqb, eqb-true, List, [], ◌∷◌, Option, None, Some, Result, Ok, Err, IfErr, refl, ap, arith}
use Rattle.std.specs.Result.{IsErrAnd}
use Rattle.elf_load.specs.Image.{Image}
use Rattle.elf_load.specs.Elf.{first_broken, header_rules, image_of, loaded, place_rules, rules_of, unless_refused}
use Rattle.io_edge.specs.Asked.{Asked}
use Rattle.drive_script.specs.Script.{ScriptLine, script}
use Rattle.drive_script.specs.Steps.{Family}
use Rattle.drive_script.specs.Told.{told_text}
use Rattle.command_line.specs.Words.{GuestValues}
use Rattle.guest_files.specs.declared.stop.TheConstants.{DISK_NOT_SECTORS, SCRIPT_LOAD}
use Rattle.guest_files.specs.declared.stop.Stop.{Stop}
use Rattle.guest_files.specs.declared.stop.Stop.TheVariants.{ReadFault, ImageRefused, DataRefused, ScriptRefused, WriteFault, Wire, Memory}
use Rattle.guest_files.specs.Reads.{Guest, Refusal, and_then, disk_not_sectors, script_refused}
use Rattle.guest_files.specs.Parts.{AreAsked, HasMade, IsDataRefusal, IsImageRefusal, Load, Makes, last_made, up_to}
use Rattle.guest_files.proofs.PartLemmas.{made-all}
use Rattle.command_texts.specs.Text.{drive_with, guest_image, image_from, known_family, lines_of, told_by}
use Rattle.command_texts.specs.Writes.{MakesOver}

-- ---- the loader's rules have numbers up to 12

abbrev AreLow : List (ℕ × Bool) → Type 0
AreLow [] = Unit {0}
AreLow (rule ∷ others) = (rule.0 ≤ 12) × AreLow others

first-low : (broken : Bool) (number n : ℕ) (others : Option ℕ) → number ≤ 12 → (others ≡ Some n → n ≤ 12) → cond broken (Some number) others ≡ Some n → n ≤ 12
first-low true number n others low later is = let same : number ≡ n = cc in omega arith
first-low false number n others low later is = later is

all-low : (rules : List (ℕ × Bool)) (n : ℕ) → AreLow rules → first_broken rules ≡ Some n → n ≤ 12
all-low [] n low is = absurd (cc)
all-low (rule ∷ others) n low is = first-low rule.1 rule.0 n (first_broken others) low.0 (all-low others n low.1) is

unless-low : (broken : Option ℕ) (image : Image) (n : ℕ) → (broken ≡ Some n → n ≤ 12) → unless_refused broken image ≡ Err n → n ≤ 12
unless-low None image n low is = absurd (cc)
unless-low (Some number) image n low is = let same : number ≡ n = cc in low (ap (λ x. Some x) same)

rules-low : (file : List ℕ) (pages n : ℕ) → loaded file pages ≡ Err n → n ≤ 12
unfolding loaded rules_of header_rules place_rules
rules-low file pages n is =
    unless-low (first_broken (rules_of file pages)) (image_of file pages) n
    (all-low (rules_of file pages) n
    (omega arith, (omega arith, (omega arith, (omega arith, (omega arith, (omega arith, (omega arith, (omega arith, (omega arith, (omega arith, (omega arith, (omega arith, tt)))))))))))))
    is

-- ---- the last load before such a stop

not-long : (n : ℕ) (is_long : Bool) → eqb n 13 ≡ is_long → n ≤ 12 → cond is_long 1 SCRIPT_LOAD ≡ SCRIPT_LOAD
not-long n true is low = let same : n ≡ 13 = eqb-true n 13 is in absurd (omega arith)
not-long n false is low = refl

rule-late : (n : ℕ) → n ≤ 12 → last_made (ImageRefused n) ≡ SCRIPT_LOAD
rule-late n low = not-long n (eqb n 13) refl low

sectors-late : (n : ℕ) → n ≡ DISK_NOT_SECTORS → last_made (DataRefused n) ≡ SCRIPT_LOAD
sectors-late n is = ap (λ number. last_made (DataRefused number)) is

no-image : (whole : Bool) (image : Image) (number : ℕ) → IsErrAnd (cond whole (Ok image) (Err disk_not_sectors)) (IsImageRefusal number) → number ≤ 12
no-image true image number h = absurd h
no-image false image number h = absurd h

no-sectors : (whole : Bool) (image : Image) (number : ℕ) → IsErrAnd (cond whole (Ok image) (Err disk_not_sectors)) (IsDataRefusal number) → number ≡ DISK_NOT_SECTORS
no-sectors true image number h = absurd h
no-sectors false image number h = h

image-number : (guest : Guest) (r : Result Image ℕ) (number : ℕ) → ((n : ℕ) → r ≡ Err n → n ≤ 12) → IsErrAnd (image_from guest r) (IsImageRefusal number) → number ≤ 12
image-number guest (Ok image) number low h = no-image _ image number h
image-number guest (Err n) number low h = let below : n ≤ 12 = low n refl in omega (arith, h)

data-number : (guest : Guest) (r : Result Image ℕ) (number : ℕ) → IsErrAnd (image_from guest r) (IsDataRefusal number) → number ≡ DISK_NOT_SECTORS
data-number guest (Ok image) number h = no-sectors _ image number h
data-number guest (Err n) number h = absurd h

image-late : (values : GuestValues) (guest : Guest) (number : ℕ) → IsErrAnd (guest_image values guest) (IsImageRefusal number) → last_made (ImageRefused number) ≡ SCRIPT_LOAD
unfolding guest_image
image-late values guest number h =
    rule-late number (image-number guest (loaded guest.image values.pages) number (rules-low guest.image values.pages) h)

data-late : (values : GuestValues) (guest : Guest) (number : ℕ) → IsErrAnd (guest_image values guest) (IsDataRefusal number) → last_made (DataRefused number) ≡ SCRIPT_LOAD
unfolding guest_image
data-late values guest number h = sectors-late number (data-number guest (loaded guest.image values.pages) number h)

-- a family that is run stops so
pub run-late : {A : Type 0} (lost : Type 0) (values : GuestValues) (guest : Guest) (shows : A → Image → Type 0) (stop : Stop)
    → MakesOver lost (guest_image values guest) shows (Err stop) → last_made stop ≡ SCRIPT_LOAD
run-late lost values guest shows (ReadFault load) h = absurd h.0
run-late lost values guest shows (ImageRefused number) h = image-late values guest number h
run-late lost values guest shows (DataRefused number) h = data-late values guest number h
run-late lost values guest shows (ScriptRefused line kind) h = refl
run-late lost values guest shows WriteFault h = refl
run-late lost values guest shows Wire h = refl
run-late lost values guest shows Memory h = refl

-- and one that is driven
script-refused : (P : Refusal → Type 0) (t : Family) (r : Result (List ScriptLine) (ℕ × ℕ)) → IsErrAnd (and_then (λ lines. Ok (told_text lines t)) (lines_of r)) P
    → (at : ℕ × ℕ) × P (script_refused at.0 at.1)
script-refused P t (Ok lines) h = absurd h
script-refused P t (Err refusal) h = (refusal, h)

driven-refused : (P : Refusal → Type 0) (values : GuestValues) (guest : Guest) (text : List ℕ) (r : Result Image Refusal)
    → IsErrAnd (and_then (λ image. told_by text (known_family values guest image)) r) P → ((at : ℕ × ℕ) → P (script_refused at.0 at.1) → ⊥) → IsErrAnd r P
driven-refused P values guest text (Ok image) h never =
    let found = script-refused P (known_family values guest image) (script text) h in absurd (never found.0 found.1)
driven-refused P values guest text (Err refusal) h never = h

pub drive-late : {A : Type 0} (values : GuestValues) (guest : Guest) (text : List ℕ) (shows : A → List ℕ → Type 0) (result : Result A Stop)
    → Makes (drive_with values guest text) shows result → IfErr result (λ stop. last_made stop ≡ SCRIPT_LOAD)
drive-late values guest text shows (Ok value) h = tt
drive-late values guest text shows (Err (ReadFault load)) h = absurd h.0
drive-late values guest text shows (Err (ImageRefused number)) h =
    image-late values guest number (driven-refused (IsImageRefusal number) values guest text (guest_image values guest) h (λ at no. no))
drive-late values guest text shows (Err (DataRefused number)) h =
    data-late values guest number (driven-refused (IsDataRefusal number) values guest text (guest_image values guest) h (λ at no. no))
drive-late values guest text shows (Err (ScriptRefused line kind)) h = refl
drive-late values guest text shows (Err WriteFault) h = refl
drive-late values guest text shows (Err Wire) h = refl
drive-late values guest text shows (Err Memory) h = refl

-- ---- the loads that were made then

pub made-late : {A : Type 0} (loads : List Load) (result : Result A Stop) (old new : Asked) → up_to SCRIPT_LOAD loads ≡ loads
    → IfErr result (λ stop. last_made stop ≡ SCRIPT_LOAD) → AreAsked loads old new → HasMade loads result old new
made-late loads (Ok value) old new all late asked = asked
made-late loads (Err stop) old new all late asked = made-all loads stop old new late all asked

-- a command that asks for none
pub made-none : {A : Type 0} (result : Result A Stop) (asked : Asked) → HasMade [] result asked asked
made-none (Ok value) asked = (refl, refl)
made-none (Err stop) asked = record { some = record { made = []; rest = []; place = refl; asked = (refl, refl) }; just = λ other. (refl, refl) }
