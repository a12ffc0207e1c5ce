-- The RAM of a booted guest, and of a clone.
use Rattle.std.proofs.Common.{◌≡◌, ℕ, ◌+◌, ◌*◌, ◌/◌, ◌%◌, ◌<◌, Bool, true, false, List, [], ◌∷◌, length, map, get_or, Some, None, refl, sym, ap, ◌∙◌, arith}
use Rattle.std.specs.Prelude.{not, if◌then◌else◌}
use Rattle.std.proofs.lemmas.List.{length-map, get_or-map}
use Rattle.std.proofs.lemmas.List.Elements.{All-head, All-tail}
use Rattle.std.proofs.lemmas.Option.{slice_get-get_or}
use Rattle.elf_load.specs.Image.{Image, IsWhole, held_pages, is_held}
use Rattle.page_frames.specs.declared.page.TheConstants.{PAGE_SIZE}
use Rattle.page_frames.specs.declared.entry.Entry.{Entry}
use Rattle.page_frames.specs.declared.entry.Entry.TheVariants.{Held, Blank, Absent}
use Rattle.page_frames.specs.Tables.{paged, byte_over, laid_over, is_own, is_blank}
use Rattle.page_frames.proofs.Memory.{length-paged, get_or-paged, paged_is, laid_over_is}
use Rattle.image_depot.specs.Key.{Key, image_of}
use Rattle.guest_mem.specs.Ram.{Ram, IsRam, AreZero, ram_of, at_boot, cleared, cloned}
use Rattle.shared_leaves.specs.Choices.{choice}
use Rattle.vm_descriptor.specs.CloneTables.{clone_table}
use Rattle.vm_descriptor.proofs.CloneTables.{clone_blank}
use Rattle.guest_mem.proofs.Pages.{same_ram}

same_flags : {a b : Bool} {xs ys : List Bool} → a ≡ b → xs ≡ ys → a ∷ xs ≡ b ∷ ys
same_flags p q = cc

-- ---- at boot

-- a table in which no page is absent has all pages, and those are blank that are not held
boot_own : (table : List Entry) → IsWhole table → map is_own table ≡ map (λ (falls : Bool). true) (map is_held table)
boot_own [] whole = refl
boot_own (entry ∷ table) whole = same_flags (All-head (λ e. is_own e ≡ true) entry table whole) (boot_own table (All-tail (λ e. is_own e ≡ true) entry table whole))

blank_or_held : (entry : Entry) → is_own entry ≡ true → is_blank entry ≡ not (is_held entry)
blank_or_held (Held page) own = refl
blank_or_held Blank own = refl
blank_or_held Absent own = cc

boot_blank : (table : List Entry) → IsWhole table → map is_blank table ≡ map not (map is_held table)
boot_blank [] whole = refl
boot_blank (entry ∷ table) whole =
    same_flags (blank_or_held entry (All-head (λ e. is_own e ≡ true) entry table whole)) (boot_blank table (All-tail (λ e. is_own e ≡ true) entry table whole))

pub ram_of_boot : (table : List Entry) (image : Image) → IsWhole table → laid_over table [] ≡ image.ram → held_pages table ≡ image.segments
    → ram_of table None ≡ at_boot image
ram_of_boot table image whole ram segments =
    same_ram _ _ _ _ _ _ None ram
    (boot_own table whole ∙ ap (map (λ (falls : Bool). true)) segments)
    (boot_blank table whole ∙ ap (map not) segments)

-- ---- clones

clone_byte : (is_blank : Bool) (at below : ℕ) → byte_over (choice Blank Absent is_blank) at below ≡ (if is_blank then 0 else below)
clone_byte true at below = refl
clone_byte false at below = refl

clone_own : (blank : List Bool) → map is_own (clone_table blank) ≡ blank
clone_own [] = refl
clone_own (true ∷ blank) = ap (λ flags. true ∷ flags) (clone_own blank)
clone_own (false ∷ blank) = ap (λ flags. false ∷ flags) (clone_own blank)

clone_bytes : (blank : List Bool) (below : List ℕ) → laid_over (clone_table blank) below ≡ cleared blank below
unfolding cleared
clone_bytes blank below =
    let byte = λ (page at : ℕ). if get_or blank page false then 0 else get_or below (PAGE_SIZE * page + at) 0 in
    let size : length (clone_table blank) ≡ length blank = length-map blank (choice Blank Absent) in
    laid_over_is (clone_table blank) below (paged (length blank) byte) (length-paged (length blank) byte ∙ ap (λ n. PAGE_SIZE * n) (sym size))
    (λ i within.
    let there : i / PAGE_SIZE < length blank = omega arith in
    ap (λ e. byte_over e (i % PAGE_SIZE) (get_or below i 0)) (get_or-map (choice Blank Absent) blank (i / PAGE_SIZE) false Absent there)
    ∙ clone_byte (get_or blank (i / PAGE_SIZE) false) (i % PAGE_SIZE) (get_or below i 0)
    ∙ ap (λ j. if get_or blank (i / PAGE_SIZE) false then 0 else get_or below j 0) (omega arith)
    ∙ sym (get_or-paged (length blank) byte i (omega arith)))

pub ram_of_clone : (blank : List Bool) (key : Key) → ram_of (clone_table blank) (Some key) ≡ cloned key blank
ram_of_clone blank key = same_ram _ _ _ _ _ _ (Some key) (clone_bytes blank (image_of key).contents) (clone_own blank) (clone_blank blank)

kept_byte : (is_blank : Bool) (byte : ℕ) → (is_blank ≡ true → byte ≡ 0) → (if is_blank then 0 else byte) ≡ byte
kept_byte true byte none = sym (none refl)
kept_byte false byte none = refl

pub cleared_same : (blank : List Bool) (memory : List ℕ) → length memory ≡ PAGE_SIZE * length blank → AreZero blank memory → cleared blank memory ≡ memory
unfolding cleared
cleared_same blank memory size are_zero =
    paged_is (length blank) (λ page at. if get_or blank page false then 0 else get_or memory (PAGE_SIZE * page + at) 0) memory size
    (λ i below.
    let there : i / PAGE_SIZE < length blank = omega arith in
    let same : get_or memory (PAGE_SIZE * (i / PAGE_SIZE) + i % PAGE_SIZE) 0 ≡ get_or memory i 0 = ap (λ j. get_or memory j 0) (omega arith) in
    kept_byte (get_or blank (i / PAGE_SIZE) false) _ (λ set. same ∙ are_zero i (slice_get-get_or blank (i / PAGE_SIZE) false there ∙ ap Some set)) ∙ same)

pub cleared_frozen : (ram : Ram) → IsRam ram → cleared ram.blank ram.reads ≡ ram.reads
cleared_frozen ram valid = cleared_same ram.blank ram.reads (valid.whole_pages ∙ ap (λ n. PAGE_SIZE * n) (sym valid.flagged)) valid.zero

pub cloned_frozen : (ram : Ram) (key : Key) → IsRam ram → (image_of key).contents ≡ ram.reads → (cloned key ram.blank).reads ≡ ram.reads
cloned_frozen ram key valid frozen = ap (cleared ram.blank) frozen ∙ cleared_frozen ram valid
