-- What the runs of numbers in bytes say of the fields.
use Rattle.std.proofs.Common.{◌≡◌, ℕ, List, get_or, drop, take, ap, ap₂, ◌∙◌, Option}
use Rattle.std.specs.Prelude.{Bool, ◌&&◌}
use Rattle.std.proofs.Math.Bool.{and_assoc}
use Rattle.block_port.specs.declared.status.Status.{Status}
use Rattle.console_port.specs.declared.port.TheConstants.{MAX_INPUT}
use Rattle.rv_traps.specs.declared.registers.CsrRegisters.{CsrRegisters}
use Rattle.vm_descriptor.specs.declared.descriptor.Descriptor.{Descriptor}
use Rattle.vm_descriptor.specs.declared.descriptor.TheConstants.{MAX_CLONES, MAX_SHARE, MAX_LIMIT}
use Rattle.vm_descriptor.specs.Fields.{aligned, between, has_only, is_mode_and_mstatus, mode_of, mstatus_in, number_in, up_to}
use Rattle.guest_pmp.specs.declared.access.Mode.{Mode}
use Rattle.guest_pmp.specs.declared.registers.PmpRegisters.{PmpRegisters}
use Rattle.guest_pmp.specs.Registers.{at_reset as no_entries}
use Rattle.vm_descriptor.specs.Fields as field
use Rattle.vm_descriptor.specs.declared.version.Version.{Version}
use Rattle.vm_descriptor.specs.Described.{agree, are_csrs, are_in_range, csrs_of, entries_in, is_reservation, numbers_from, read_as, reservation_of, status_of}
use Rattle.std.specs.Prelude.{nat_le}

-- the control and status registers, by their words and the two counters
abbrev pub csrs_made : (words counters : List ℕ) → Mode → ℕ → PmpRegisters → CsrRegisters
csrs_made words counters mode mstatus pmp = record {
  mode = mode;
  mstatus = mstatus;
  mie = get_or words 1 0;
  mtvec = get_or words 2 0;
  mscratch = get_or words 3 0;
  mepc = get_or words 4 0;
  mcause = get_or words 5 0;
  mtval = get_or words 6 0;
  mcycle = get_or counters 0 0;
  minstret = get_or counters 1 0;
  pmp = pmp;
}

pub csrs_read : (words counters bytes : List ℕ) (mode : Mode) (mstatus : ℕ) (pmp : PmpRegisters) → words ≡ numbers_from 4 7 148 bytes → counters ≡ numbers_from 8 2 176 bytes
    → mode ≡ mode_of (get_or words 0 0) → mstatus ≡ mstatus_in (get_or words 0 0) → csrs_made words counters mode mstatus pmp ≡ csrs_of (number_in bytes) pmp
unfolding numbers_from
csrs_read words counters bytes mode mstatus pmp are count is_mode is_mstatus =
    ap₂ (λ (m : Mode) (s : ℕ). csrs_made words counters m s pmp) is_mode is_mstatus
    ∙ ap₂ (λ (ws cs : List ℕ). csrs_made ws cs (mode_of (get_or ws 0 0)) (mstatus_in (get_or ws 0 0)) pmp) are count

-- the descriptor of which these are the first words, the times and what the ports hold, and then what is made of other bytes
abbrev pub made : (identity times ports registers : List ℕ) → CsrRegisters → Option ℕ → Status → List ℕ → List Bool → Descriptor
made identity times ports registers csrs reservation status buffer blank = record {
  image = get_or identity 0 0;
  pages = get_or identity 1 0;
  clone_id = get_or identity 2 0;
  share = get_or identity 3 0;
  pc = get_or identity 4 0;
  registers = registers;
  csrs = csrs;
  timer = record { mtime = get_or times 0 0; mtimecmp = get_or times 1 0 };
  steps = get_or times 2 0;
  limit = get_or times 3 0;
  reservation = reservation;
  console = record { place = get_or ports 2 0; line_control = get_or ports 3 0 };
  block = record { sector = get_or ports 4 0; status = status; buffer = buffer };
  argument_0 = get_or ports 6 0;
  argument_1 = get_or ports 7 0;
  join_select = get_or ports 8 0;
  granted = get_or ports 9 0;
  blank = blank;
}

module _ (version : Version) (bytes identity times ports registers : List ℕ) (csrs : CsrRegisters) (reservation : Option ℕ) (status : Status) (buffer : List ℕ) (blank : List Bool)
    (are_identity : identity ≡ numbers_from 4 5 4 bytes) (are_times : times ≡ numbers_from 8 4 192 bytes) (are_ports : ports ≡ numbers_from 4 10 224 bytes) where
  pub all_read : (pmp : PmpRegisters) → registers ≡ numbers_from 4 31 24 bytes → csrs ≡ csrs_of (number_in bytes) pmp → pmp ≡ entries_in version.has_entries bytes
      → reservation ≡ reservation_of (get_or ports 0 0) (get_or ports 1 0) → status ≡ status_of (get_or ports 5 0)
      → buffer ≡ take 512 (drop 264 bytes) → blank ≡ (read_as version bytes).blank
      → made identity times ports registers csrs reservation status buffer blank ≡ read_as version bytes
  unfolding numbers_from read_as
  all_read pmp are_registers are_csrs are_entries is_reservation is_status is_buffer are_blank =
      let are_all = are_csrs ∙ ap (λ (p : PmpRegisters). csrs_of (number_in bytes) p) are_entries in
      let reserved = is_reservation ∙ ap (λ (ps : List ℕ). reservation_of (get_or ps 0 0) (get_or ps 1 0)) are_ports in
      let stands = is_status ∙ ap (λ (ps : List ℕ). status_of (get_or ps 5 0)) are_ports in
      ap₂ (λ (ids ts : List ℕ). made ids ts ports registers csrs reservation status buffer blank) are_identity are_times
      ∙ ap₂ (λ (ps rs : List ℕ). made (numbers_from 4 5 4 bytes) (numbers_from 8 4 192 bytes) ps rs csrs reservation status buffer blank) are_ports are_registers
      ∙ ap₂ (λ (cs : CsrRegisters) (r : Option ℕ). made (numbers_from 4 5 4 bytes) (numbers_from 8 4 192 bytes) (numbers_from 4 10 224 bytes) (numbers_from 4 31 24 bytes) cs r status buffer blank)
      are_all reserved
      ∙ ap₂ (λ (s : Status) (b : List ℕ). made (numbers_from 4 5 4 bytes) (numbers_from 8 4 192 bytes) (numbers_from 4 10 224 bytes) (numbers_from 4 31 24 bytes)
      (csrs_of (number_in bytes) (entries_in version.has_entries bytes))
      (reservation_of (number_in bytes field.Reserved) (number_in bytes field.Reservation)) s b blank) stands is_buffer
      ∙ ap (λ (bs : List Bool). made (numbers_from 4 5 4 bytes) (numbers_from 8 4 192 bytes) (numbers_from 4 10 224 bytes) (numbers_from 4 31 24 bytes)
      (csrs_of (number_in bytes) (entries_in version.has_entries bytes))
      (reservation_of (number_in bytes field.Reserved) (number_in bytes field.Reservation)) (status_of (number_in bytes field.BlockStatus)) (take 512 (drop 264 bytes)) bs) are_blank

-- the line control register is the fourth of the ports' words
pub line_control_read : (ports bytes : List ℕ) → ports ≡ numbers_from 4 10 224 bytes → get_or ports 3 0 ≡ number_in bytes field.LineControl
unfolding numbers_from
line_control_read ports bytes are = ap (λ (ps : List ℕ). get_or ps 3 0) are

-- ---- ranges

group : (k s p m i t e l r c v u rest : Bool)
    → (k && (s && p)) && ((m && (i && (t && e))) && (l && ((r && (c && (v && u))) && rest)))
    ≡ k && (s && (p && (m && (i && (t && (e && (l && (r && (c && (v && (u && rest)))))))))))
group k s p m i t e l r c v u rest = simp and_assoc

module _ (bytes identity times ports : List ℕ) (csrs : CsrRegisters)
    (are_identity : identity ≡ numbers_from 4 5 4 bytes) (are_times : times ≡ numbers_from 8 4 192 bytes) (are_ports : ports ≡ numbers_from 4 6 224 bytes)
    (is_csrs : csrs ≡ csrs_of (number_in bytes) no_entries) where
  abbrev pub tests : List ℕ → List ℕ → List ℕ → CsrRegisters → Bool
  tests ids ts ps cs =
      (between 1 MAX_CLONES (get_or ids 2 0) && (up_to MAX_SHARE (get_or ids 3 0) && aligned (get_or ids 4 0)))
      && (are_csrs cs
      && (between 1 MAX_LIMIT (get_or ts 3 0)
      && ((up_to 1 (get_or ps 0 0) && (up_to MAX_INPUT (get_or ps 2 0) && (up_to 255 (get_or ps 3 0) && up_to 2 (get_or ps 5 0))))
      && (nat_le (get_or ts 2 0) (get_or ts 3 0) && is_reservation (get_or ids 1 0) (get_or ps 0 0) (get_or ps 1 0)))))

  pub ranges_read : tests identity times ports csrs ≡ are_in_range (number_in bytes)
  unfolding numbers_from are_in_range
  ranges_read =
      ap₂ (λ (ids ts : List ℕ). tests ids ts ports csrs) are_identity are_times
      ∙ ap₂ (λ (ps : List ℕ) (cs : CsrRegisters). tests (numbers_from 4 5 4 bytes) (numbers_from 8 4 192 bytes) ps cs) are_ports is_csrs
      ∙ group (between 1 MAX_CLONES (number_in bytes field.CloneId)) (up_to MAX_SHARE (number_in bytes field.Share)) (aligned (number_in bytes field.Pc))
      (is_mode_and_mstatus (number_in bytes field.Mstatus)) (has_only 0x80 (number_in bytes field.Mie)) (has_only 0xffff_fffd (number_in bytes field.Mtvec)) (aligned (number_in bytes field.Mepc))
      (between 1 MAX_LIMIT (number_in bytes field.Limit)) (up_to 1 (number_in bytes field.Reserved)) (up_to MAX_INPUT (number_in bytes field.Place))
      (up_to 255 (number_in bytes field.LineControl)) (up_to 2 (number_in bytes field.BlockStatus)) (agree (number_in bytes))
