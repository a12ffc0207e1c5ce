-- What bytes that are not refused are read as is in range.
use Rattle.std.proofs.Common.{◌≡◌, ◌<◌, ◌+◌, ◌*◌, ◌%◌, ℕ, List, drop, refl, true, false, None, Some, arith}
use Rattle.std.specs.Prelude.{Bool, IfSome, ◌&&◌, ◌==◌, nat_le, nat_lt, if◌then◌else◌}
use Rattle.std.proofs.lemmas.Bool.{and_parts, eqb-true, leb-true, ltb-true}
use Rattle.elf_load.specs.declared.image.TheConstants.{RAM_BASE}
use Rattle.page_frames.specs.declared.page.TheConstants.{PAGE_SIZE}
use Rattle.rv_traps.specs.declared.registers.CsrRegisters.{CsrRegisters}
use Rattle.guest_pmp.specs.Registers.{is_configuration}
use Rattle.rv_traps.specs.Registers.{IsInRange as AreCsrs, is_mstatus}
use Rattle.std.proofs.lemmas.List.Sums.{AllPass-from_list_all}
use Rattle.flat_memory.proofs.ByteLists.{AreBytes}
use Rattle.vm_descriptor.specs.declared.version.Version.{Version}
use Rattle.vm_descriptor.specs.Descriptor.{IsInRange, IsRamWord}
use Rattle.vm_descriptor.specs.Fields.{aligned, has_only, number_in}
use Rattle.vm_descriptor.specs.Fields.{Pages, Reserved, Reservation}
use Rattle.vm_descriptor.specs.Described.{IsReadable, are_csrs, are_entries, csrs_of, entries_in, read_as}
use Rattle.vm_descriptor.proofs.Accepted.{accepted, in_range}
use Rattle.vm_descriptor.proofs.Forms.{length_as}
use Rattle.vm_descriptor.proofs.Spelled.{bytes_behind}

reserved_word : (pages reserved address : ℕ) (none : Bool) → (reserved == 0) ≡ none
    → (if none then address == 0 else (address % 4 == 0 && (nat_le RAM_BASE address && nat_lt address (RAM_BASE + PAGE_SIZE * pages)))) ≡ true
    → IfSome (if none then None else Some address) (IsRamWord pages)
reserved_word pages reserved address true test is = tt
reserved_word pages reserved address false test is =
    let one = and_parts (address % 4 == 0) _ is in
    let two = and_parts (nat_le RAM_BASE address) (nat_lt address (RAM_BASE + PAGE_SIZE * pages)) one.1 in
    record {
      aligned = eqb-true (address % 4) 0 one.0;
      from_base = leb-true RAM_BASE address two.0;
      below_end = ltb-true address (RAM_BASE + PAGE_SIZE * pages) two.1;
    }

pub csrs_in_range : (c : CsrRegisters) → are_csrs c ≡ true → are_entries c.pmp ≡ true → AreCsrs c
csrs_in_range c are entries =
    let one = and_parts (is_mstatus c.mstatus) _ are in
    let two = and_parts (has_only 0x80 c.mie) _ one.1 in
    let three = and_parts (has_only 0xffff_fffd c.mtvec) (aligned c.mepc) two.1 in
    record {
      mstatus = eqb-true c.mstatus _ one.0;
      mie = eqb-true c.mie _ two.0;
      mtvec = eqb-true c.mtvec _ three.0;
      mepc = eqb-true (c.mepc % 4) 0 three.1;
      pmp = AllPass-from_list_all is_configuration c.pmp.configurations entries;
    }

-- what bytes that are not refused are read as is in range: the pages of a version are no more than those of a machine
pub decoded_in_range : (version : Version) (bytes : List ℕ) → AreBytes bytes → IsReadable version bytes → IsInRange (read_as version bytes)
unfolding read_as
decoded_in_range version bytes are readable =
    let a = accepted version bytes readable.unread in
    let is = in_range (number_in bytes) a.fields in
    let pages = number_in bytes Pages in
    let known = readable.known in
    let positive : 0 < pages = omega (arith, a.least, known.least) in
    record {
      ram =
          record {
            least = omega (arith, a.least, known.least);
            most = omega (arith, a.most, known.most);
            one_bit_a_page = length_as pages positive version.has_forms (drop version.fields bytes) (bytes_behind version.fields bytes are) a.whole a.well;
          };
      clone = record { first = is.first; last = is.last; share = is.share };
      pc = is.pc;
      csrs = csrs_in_range (csrs_of (number_in bytes) (entries_in version.has_entries bytes)) is.csrs a.entries;
      limit = record { least = is.least; most = is.most; steps = is.steps };
      reservation = reserved_word pages (number_in bytes Reserved) (number_in bytes Reservation) (number_in bytes Reserved == 0) refl is.reservation;
      place = is.place;
    }
