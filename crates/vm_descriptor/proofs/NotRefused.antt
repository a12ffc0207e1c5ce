-- The bytes of a descriptor in range are not refused.
use Rattle.std.proofs.Common.{◌≡◌, ◌≤◌, ◌<◌, ◌+◌, ◌*◌, ◌%◌, ◌^◌, ℕ, List, length, drop, sym, ap, ap₂, ◌∙◌, refl, true, false, Some, None, arith}
use Rattle.std.specs.Prelude.{Bool, IfSome, ◌&&◌, not, nat_le, if◌then◌else◌, Option}
use Rattle.std.specs.Cmp.Derive.{both_true}
use Rattle.std.proofs.lemmas.Bool.{le-leb, lt-ltb, eq-eqb}
use Rattle.std.proofs.lemmas.List.{length-drop}
use Rattle.block_port.specs.Block.{status_word}
use Rattle.block_port.specs.declared.status.Status.{Status}
use Rattle.block_port.specs.declared.status.Status.TheVariants.{Done, BadSector, UnknownCommand}
use Rattle.elf_load.specs.declared.image.TheConstants.{RAM_BASE}
use Rattle.page_frames.specs.declared.page.TheConstants.{PAGE_SIZE}
use Rattle.rv_traps.specs.declared.registers.CsrRegisters.{CsrRegisters}
use Rattle.guest_pmp.specs.Registers.{is_configuration}
use Rattle.rv_traps.specs.Registers.{IsInRange as AreCsrs, is_mstatus}
use Rattle.std.proofs.lemmas.List.Sums.{list_all-from_AllPass}
use Rattle.vm_descriptor.specs.declared.descriptor.Descriptor.{Descriptor}
use Rattle.vm_descriptor.specs.Descriptor.{IsInRange, IsRamWord}
use Rattle.vm_descriptor.specs.Fields.{Field, aligned, between, has_only, number, number_in, reserved_of, address_of}
use Rattle.vm_descriptor.specs.Fields.{Pages}
use Rattle.vm_descriptor.specs.Maps.{flags_as, form_of, is_due, is_whole, map_as, map_of, misread}
use Rattle.vm_descriptor.specs.Described.{AreTold, are_csrs, are_entries, are_in_range, described_as, entries_in, Fits, is_reservation, undue, unread}
use Rattle.vm_descriptor.proofs.Accepted.{are_in}
use Rattle.vm_descriptor.proofs.DescribedBack.{fields_size, spelled_behind, spelled_fields, version}
use Rattle.vm_descriptor.proofs.Modes.{mstatus_read}
use Rattle.vm_descriptor.proofs.Forms.{map_due, map_read, map_well, map_whole}
use Rattle.vm_descriptor.proofs.MapLast.{length_map}

-- bytes have what is behind so many of them where something is
pub long_enough : (count : ℕ) (xs rest : List ℕ) → drop count xs ≡ rest → 1 ≤ length rest → count ≤ length xs
long_enough count xs rest is some =
    let shorter = length-drop count xs in
    let size : length (drop count xs) ≡ length rest = ap (λ (ys : List ℕ). length ys) is in
    omega (arith, shorter, size, some)

pub fields_at_least : (has_entries : Bool) → 776 ≤ fields_size has_entries
fields_at_least true = omega arith
fields_at_least false = omega arith

pub some_map : (has_forms : Bool) (flags : List Bool) → 1 ≤ length flags → 1 ≤ length (map_as has_forms flags)
some_map true flags some = omega arith
some_map false flags some = let size = length_map flags in omega (arith, size, some)

pass : (b : Bool) (reason : ℕ) (rest : Option ℕ) → b ≡ false → (if b then Some reason else rest) ≡ rest
pass true reason rest is = absurd (cc)
pass false reason rest is = refl

status_most : (s : Status) → status_word s ≤ 2
status_most Done = omega (arith)
status_most BadSector = omega (arith)
status_most UnknownCommand = omega (arith)

reserved_most : (r : Option ℕ) → reserved_of r ≤ 1
reserved_most None = omega (arith)
reserved_most (Some address) = omega (arith)

reservation_in : (pages : ℕ) (r : Option ℕ) → IfSome r (IsRamWord pages) → is_reservation pages (reserved_of r) (address_of r) ≡ true
reservation_in pages None ram = refl
reservation_in pages (Some address) ram =
    both_true (eq-eqb (address % 4) 0 ram.aligned) (both_true (le-leb RAM_BASE address ram.from_base) (lt-ltb address (RAM_BASE + PAGE_SIZE * pages) ram.below_end))

pub csrs_in : (c : CsrRegisters) → AreCsrs c → are_csrs c ≡ true
csrs_in c is =
    both_true (eq-eqb c.mstatus _ is.mstatus) (both_true (eq-eqb c.mie _ is.mie) (both_true (eq-eqb c.mtvec _ is.mtvec) (eq-eqb (c.mepc % 4) 0 is.mepc)))

-- each field is in its range
numbers_in_range : (d : Descriptor) → Fits d → IsInRange d → are_in_range (number d) ≡ true
numbers_in_range d fits range =
    let byte = fits.line_control in
    are_in (number d) (record {
      first = range.clone.first;
      last = range.clone.last;
      share = range.clone.share;
      pc = range.pc;
      csrs =
          ap (λ (w : ℕ). is_mstatus w && (has_only 0x80 d.csrs.mie && (has_only 0xffff_fffd d.csrs.mtvec && aligned d.csrs.mepc))) (mstatus_read d.csrs.mode d.csrs.mstatus fits.mstatus)
          ∙ csrs_in d.csrs range.csrs;
      least = range.limit.least;
      most = range.limit.most;
      reserved = reserved_most d.reservation;
      place = range.place;
      line_control = omega (arith, byte);
      status = status_most d.block.status;
      steps = range.limit.steps;
      reservation = reservation_in d.pages d.reservation range.reservation;
    })

-- each byte of an entry is one that a register can hold
entries_in_range : (d : Descriptor) → IsInRange d → are_entries d.csrs.pmp ≡ true
entries_in_range d range = list_all-from_AllPass is_configuration d.csrs.pmp.configurations range.csrs.pmp

module _ (a b c e least most : ℕ) (has_entries has_forms : Bool) (d : Descriptor) (fits : Fits d) (told : AreTold has_entries d.csrs.pmp) (range : IsInRange d)
    (from : least ≤ d.pages) (to : d.pages ≤ most) where
  -- what stands behind the fields is the map of as many pages as the descriptor has
  behind_fields : (drop (fields_size has_entries) (described_as (version a b c e least most has_entries has_forms) d) ≡ map_as has_forms d.blank)
      × (number_in (described_as (version a b c e least most has_entries has_forms) d) Pages ≡ length d.blank)
  behind_fields =
      let is = spelled_fields a b c e least most has_entries has_forms d fits told in
      ((spelled_behind a b c e least most has_entries has_forms d fits told).map_there, ap (λ (numbers : Field → ℕ). numbers Pages) is.numbers ∙ sym fits.map)

  some_page : 1 ≤ length d.blank
  some_page = let least = range.ram.least in omega (arith, fits.map, least)

  pub all_there : fields_size has_entries ≤ length (described_as (version a b c e least most has_entries has_forms) d)
  all_there = long_enough (fields_size has_entries) _ _ behind_fields.0 (some_map has_forms d.blank some_page)

  -- the bytes of a descriptor in range are not refused
  pub not_unread : unread (version a b c e least most has_entries has_forms) (described_as (version a b c e least most has_entries has_forms) d) ≡ None
  unfolding unread
  not_unread =
      let xs = described_as (version a b c e least most has_entries has_forms) d in
      let size = fields_size has_entries in
      let is = spelled_fields a b c e least most has_entries has_forms d fits told in
      let at = behind_fields in
      let few : length d.blank < 2 ^ 16 = omega (arith, fits.map, fits.runs) in
      let same : number_in xs Pages ≡ d.pages = ap (λ (numbers : Field → ℕ). numbers Pages) is.numbers in
      let fit : between least most (number_in xs Pages) ≡ true =
      ap (λ (p : ℕ). between least most p) same ∙ both_true (le-leb least d.pages from) (le-leb d.pages most to) in
      let whole : is_whole has_forms (number_in xs Pages) (drop size xs) ≡ true =
      ap₂ (λ (n : ℕ) (ys : List ℕ). is_whole has_forms n ys) at.1 at.0 ∙ map_whole d.blank few has_forms in
      let sized : (nat_le size (length xs) && is_whole has_forms (number_in xs Pages) (drop size xs)) ≡ true =
      both_true (le-leb size (length xs) all_there) whole in
      let fields : are_in_range (number_in xs) ≡ true = ap are_in_range is.numbers ∙ numbers_in_range d fits range in
      let entries : are_entries (entries_in has_entries xs) ≡ true =
      ap are_entries (spelled_behind a b c e least most has_entries has_forms d fits told).entries ∙ entries_in_range d range in
      pass (not (between least most (number_in xs Pages))) 3 _ (ap (λ (b : Bool). not b) fit)
      ∙ (pass (not (nat_le size (length xs) && is_whole has_forms (number_in xs Pages) (drop size xs))) 4 _ (ap (λ (b : Bool). not b) sized)
      ∙ (pass (not (are_in_range (number_in xs) && are_entries (entries_in has_entries xs))) 5 _ (ap (λ (b : Bool). not b) (both_true fields entries))
      ∙ (ap₂ (λ (n : ℕ) (ys : List ℕ). misread (form_of has_forms ys) n (map_of has_forms ys)) at.1 at.0 ∙ map_well d.blank few has_forms)))

  pub not_undue : undue (version a b c e least most has_entries has_forms) (described_as (version a b c e least most has_entries has_forms) d) ≡ None
  not_undue =
      let xs = described_as (version a b c e least most has_entries has_forms) d in
      let at = behind_fields in
      let few : length d.blank < 2 ^ 16 = omega (arith, fits.map, fits.runs) in
      let flags : flags_as has_forms (number_in xs Pages) (drop (fields_size has_entries) xs) ≡ d.blank =
      ap₂ (λ (n : ℕ) (ys : List ℕ). flags_as has_forms n ys) at.1 at.0 ∙ map_read d.blank few has_forms in
      ap (λ (b : Bool). let found : Option ℕ = if b then None else Some 7 in found)
      (ap₂ (λ (ys : List ℕ) (fs : List Bool). is_due has_forms (form_of has_forms ys) fs) at.0 flags ∙ map_due d.blank few has_forms)
