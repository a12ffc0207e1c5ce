-- What holds of bytes that are not refused.
use Rattle.std.proofs.Common.{◌≡◌, ◌≤◌, ◌%◌, ℕ, List, drop, length, refl, true, false, Some, None}
use Rattle.std.specs.Prelude.{Bool, not, ◌&&◌, nat_le, if◌then◌else◌, Option}
use Rattle.std.specs.Cmp.Derive.{both_true}
use Rattle.std.proofs.lemmas.Bool.{and_parts, eq-eqb, eqb-true, le-leb, leb-true, not-false}
use Rattle.console_port.specs.declared.port.TheConstants.{MAX_INPUT}
use Rattle.vm_descriptor.specs.declared.descriptor.TheConstants.{MAX_CLONES, MAX_SHARE, MAX_LIMIT}
use Rattle.vm_descriptor.specs.Fields.{Field, aligned, before_registers, behind_registers, between, in_ranges, is_mode_and_mstatus, has_only, number_in, up_to}
use Rattle.vm_descriptor.specs.Fields as field
use Rattle.vm_descriptor.specs.declared.version.Version.{Version}
use Rattle.vm_descriptor.specs.Maps.{form_of, is_whole, map_of, misread}
use Rattle.guest_pmp.specs.Registers.{at_reset as no_entries}
use Rattle.vm_descriptor.specs.Described.{are_csrs, are_entries, are_in_range, csrs_of, entries_in, is_reservation, unread}

-- bytes of a version pass each test
pub record IsAccepted (version : Version) (bytes : List ℕ) : Type 0 where
  pub least : version.least_pages ≤ number_in bytes field.Pages
  pub most : number_in bytes field.Pages ≤ version.most_pages
  pub long : version.fields ≤ length bytes
  pub whole : is_whole version.has_forms (number_in bytes field.Pages) (drop version.fields bytes) ≡ true
  pub fields : are_in_range (number_in bytes) ≡ true
  pub entries : are_entries (entries_in version.has_entries bytes) ≡ true
  pub well : misread (form_of version.has_forms (drop version.fields bytes)) (number_in bytes field.Pages) (map_of version.has_forms (drop version.fields bytes)) ≡ None

unless : (b : Bool) (reason : ℕ) (rest : Option ℕ) → (if b then Some reason else rest) ≡ None → (b ≡ false) × (rest ≡ None)
unless true reason rest none = absurd (cc)
unless false reason rest none = (refl, none)

pub accepted : (version : Version) (bytes : List ℕ) → unread version bytes ≡ None → IsAccepted version bytes
unfolding unread
accepted version bytes none =
    let pages = number_in bytes field.Pages in
    let fits = between version.least_pages version.most_pages pages in
    let whole = is_whole version.has_forms pages (drop version.fields bytes) in
    let three = unless (not fits) 3 _ none in
    let four = unless (not (nat_le version.fields (length bytes) && whole)) 4 _ three.1 in
    let ranges = are_in_range (number_in bytes) && are_entries (entries_in version.has_entries bytes) in
    let five = unless (not ranges) 5 _ four.1 in
    let both = and_parts (are_in_range (number_in bytes)) (are_entries (entries_in version.has_entries bytes)) (not-false ranges five.0) in
    let range = and_parts (nat_le version.least_pages pages) (nat_le pages version.most_pages) (not-false fits three.0) in
    let sized = and_parts (nat_le version.fields (length bytes)) whole (not-false (nat_le version.fields (length bytes) && whole) four.0) in
    record {
      least = leb-true version.least_pages pages range.0;
      most = leb-true pages version.most_pages range.1;
      long = leb-true version.fields (length bytes) sized.0;
      whole = sized.1;
      fields = both.0;
      entries = both.1;
      well = five.1;
    }

-- each number is in its range
pub record AreInRange (numbers : Field → ℕ) : Type 0 where
  pub first : 1 ≤ numbers field.CloneId
  pub last : numbers field.CloneId ≤ MAX_CLONES
  pub share : numbers field.Share ≤ MAX_SHARE
  pub pc : numbers field.Pc % 4 ≡ 0
  pub csrs : are_csrs (csrs_of numbers no_entries) ≡ true
  pub least : 1 ≤ numbers field.Limit
  pub most : numbers field.Limit ≤ MAX_LIMIT
  pub reserved : numbers field.Reserved ≤ 1
  pub place : numbers field.Place ≤ MAX_INPUT
  pub line_control : numbers field.LineControl ≤ 255
  pub status : numbers field.BlockStatus ≤ 2
  pub steps : numbers field.Steps ≤ numbers field.Limit
  pub reservation : is_reservation (numbers field.Pages) (numbers field.Reserved) (numbers field.Reservation) ≡ true

module _ (numbers : Field → ℕ) where
  pub in_range : are_in_range numbers ≡ true → AreInRange numbers
  unfolding are_in_range
  in_range is =
      let clone = and_parts (between 1 MAX_CLONES (numbers field.CloneId)) _ is in
      let share = and_parts (up_to MAX_SHARE (numbers field.Share)) _ clone.1 in
      let pc = and_parts (aligned (numbers field.Pc)) _ share.1 in
      let mstatus = and_parts (is_mode_and_mstatus (numbers field.Mstatus)) _ pc.1 in
      let mie = and_parts (has_only 0x80 (numbers field.Mie)) _ mstatus.1 in
      let mtvec = and_parts (has_only 0xffff_fffd (numbers field.Mtvec)) _ mie.1 in
      let mepc = and_parts (aligned (numbers field.Mepc)) _ mtvec.1 in
      let limit = and_parts (between 1 MAX_LIMIT (numbers field.Limit)) _ mepc.1 in
      let reserved = and_parts (up_to 1 (numbers field.Reserved)) _ limit.1 in
      let place = and_parts (up_to MAX_INPUT (numbers field.Place)) _ reserved.1 in
      let line_control = and_parts (up_to 255 (numbers field.LineControl)) _ place.1 in
      let status = and_parts (up_to 2 (numbers field.BlockStatus)) _ line_control.1 in
      let both = and_parts (nat_le (numbers field.Steps) (numbers field.Limit)) _ status.1 in
      let clones = and_parts (nat_le 1 (numbers field.CloneId)) (nat_le (numbers field.CloneId) MAX_CLONES) clone.0 in
      let limits = and_parts (nat_le 1 (numbers field.Limit)) (nat_le (numbers field.Limit) MAX_LIMIT) limit.0 in
      record {
        first = leb-true 1 (numbers field.CloneId) clones.0;
        last = leb-true (numbers field.CloneId) MAX_CLONES clones.1;
        share = leb-true (numbers field.Share) MAX_SHARE share.0;
        pc = eqb-true (numbers field.Pc % 4) 0 pc.0;
        csrs = both_true mstatus.0 (both_true mie.0 (both_true mtvec.0 mepc.0));
        least = leb-true 1 (numbers field.Limit) limits.0;
        most = leb-true (numbers field.Limit) MAX_LIMIT limits.1;
        reserved = leb-true (numbers field.Reserved) 1 reserved.0;
        place = leb-true (numbers field.Place) MAX_INPUT place.0;
        line_control = leb-true (numbers field.LineControl) 255 line_control.0;
        status = leb-true (numbers field.BlockStatus) 2 status.0;
        steps = leb-true (numbers field.Steps) (numbers field.Limit) both.0;
        reservation = both.1;
      }

  -- the tests of the control and status registers are four of those of all fields
  with_csrs : (rest : Bool) → rest ≡ true → are_csrs (csrs_of numbers no_entries) ≡ true
      → (is_mode_and_mstatus (numbers field.Mstatus) && (has_only 0x80 (numbers field.Mie) && (has_only 0xffff_fffd (numbers field.Mtvec) && (aligned (numbers field.Mepc) && rest)))) ≡ true
  with_csrs rest others are =
      let one = and_parts (is_mode_and_mstatus (numbers field.Mstatus)) _ are in
      let two = and_parts (has_only 0x80 (numbers field.Mie)) _ one.1 in
      let three = and_parts (has_only 0xffff_fffd (numbers field.Mtvec)) (aligned (numbers field.Mepc)) two.1 in
      both_true one.0 (both_true two.0 (both_true three.0 (both_true three.1 others)))

  pub are_in : AreInRange numbers → are_in_range numbers ≡ true
  unfolding are_in_range
  are_in is =
      both_true (both_true (le-leb 1 (numbers field.CloneId) is.first) (le-leb (numbers field.CloneId) MAX_CLONES is.last))
      (both_true (le-leb (numbers field.Share) MAX_SHARE is.share)
      (both_true (eq-eqb (numbers field.Pc % 4) 0 is.pc)
      (with_csrs _
      (both_true (both_true (le-leb 1 (numbers field.Limit) is.least) (le-leb (numbers field.Limit) MAX_LIMIT is.most))
      (both_true (le-leb (numbers field.Reserved) 1 is.reserved)
      (both_true (le-leb (numbers field.Place) MAX_INPUT is.place)
      (both_true (le-leb (numbers field.LineControl) 255 is.line_control)
      (both_true (le-leb (numbers field.BlockStatus) 2 is.status)
      (both_true (le-leb (numbers field.Steps) (numbers field.Limit) is.steps) is.reservation))))))
      is.csrs)))
