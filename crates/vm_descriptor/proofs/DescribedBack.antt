-- A descriptor that is spelled is read as it was.
use Rattle.std.proofs.Common.{◌≡◌, ◌<◌, ◌+◌, ◌-◌, ◌*◌, ◌^◌, ℕ, List, [], ◌∷◌, ◌++◌, take, drop, sym, ap, ap₂, ◌∙◌, refl, true, false, Some, None, arith}
use Rattle.std.specs.Prelude.{Bool, Option}
use Rattle.std.specs.List.{flat_map}
use Rattle.std.proofs.Math.Seq.{drop-drop, take-append_seam, drop-append_seam}
use Rattle.std.proofs.lemmas.List.{append_assoc}
use Rattle.byteorder.specs.Endian.{little_from}
use Rattle.block_port.specs.Block.{status_word}
use Rattle.block_port.specs.declared.status.Status.{Status}
use Rattle.block_port.specs.declared.status.Status.TheVariants.{Done, BadSector, UnknownCommand}
use Rattle.vm_descriptor.specs.declared.descriptor.Descriptor.{Descriptor}
use Rattle.vm_descriptor.specs.Fields.{Field, number, number_in, row, spelled, behind_registers, reserved_of, address_of}
use Rattle.vm_descriptor.specs.Fields.{Image, Pages, CloneId, Share, Pc}
use Rattle.vm_descriptor.specs.Maps.{flags_as, map_as}
use Rattle.vm_descriptor.specs.Described.{AreTold, before_buffer, descriptor_of, described_as, entries_as, entries_in, Fits, numbers_from, read_as, reservation_of, status_of, word}
use Rattle.guest_pmp.specs.declared.access.Mode.{Mode}
use Rattle.guest_pmp.specs.declared.registers.PmpRegisters.{PmpRegisters}
use Rattle.vm_descriptor.proofs.Modes.{mode_read, mstatus_read}
use Rattle.vm_descriptor.specs.declared.version.Version.{Version}
use Rattle.vm_descriptor.proofs.Forms.{map_read}
use Rattle.vm_descriptor.proofs.ReadBack.{little_from-drop, read_number, read_words}

status_read : (s : Status) → status_of (status_word s) ≡ s
status_read Done = refl
status_read BadSector = refl
status_read UnknownCommand = refl

reservation_read : (r : Option ℕ) → reservation_of (reserved_of r) (address_of r) ≡ r
reservation_read None = refl
reservation_read (Some address) = refl

-- a descriptor has the numbers of its fields
pub of_numbers : (d : Descriptor) → d.csrs.mstatus < 2 ^ 31 → descriptor_of (number d) d.csrs.pmp d.registers d.block.buffer d.blank ≡ d
of_numbers d below =
    ap₂ (λ (m : Mode) (w : ℕ). let same : Descriptor = record d {
      reservation = reservation_of (reserved_of d.reservation) (address_of d.reservation);
      block = record d.block { status = status_of (status_word d.block.status) };
      csrs = record d.csrs { mode = m; mstatus = w };
    } in same)
    (mode_read d.csrs.mode d.csrs.mstatus below) (mstatus_read d.csrs.mode d.csrs.mstatus below)
    ∙ ap₂ (λ (r : Option ℕ) (s : Status). let same : Descriptor = record d { reservation = r; block = record d.block { status = s } } in same)
    (reservation_read d.reservation) (status_read d.block.status)

-- ---- the fields, before whatever stands behind them

abbrev pub fields_of : List ℕ → Descriptor → List ℕ → List ℕ
fields_of mark d rest = before_buffer mark d ++ (d.block.buffer ++ rest)

-- what is read of the fields of a descriptor
pub record AreFields (d : Descriptor) (behind bytes : List ℕ) : Type 0 where
  pub numbers : number_in bytes ≡ number d
  pub registers : numbers_from 4 31 24 bytes ≡ d.registers
  pub buffer : take 512 (drop 264 bytes) ≡ d.block.buffer
  pub rest : drop 776 bytes ≡ behind

module _ (a b c e : ℕ) (d : Descriptor) (fits : Fits d) (rest : List ℕ) where
  bytes : List ℕ
  bytes = fields_of (a ∷ b ∷ c ∷ e ∷ []) d rest

  -- what stands behind x1 to x31
  behind : List ℕ
  behind = spelled (number d) behind_registers ++ (d.block.buffer ++ rest)

  words_read : (numbers_from 4 31 24 bytes ≡ d.registers) × (drop 148 bytes ≡ behind)
  unfolding bytes behind
  words_read =
      let start = append_assoc (flat_map word d.registers) (spelled (number d) behind_registers) (d.block.buffer ++ rest) in
      let found = read_words d.registers bytes behind 24 fits.registers start in
      (ap (λ (n : ℕ). numbers_from 4 n 24 bytes) (sym fits.each) ∙ found.0, ap (λ (n : ℕ). drop (24 + 4 * n) bytes) (sym fits.each) ∙ found.1)

  -- a field behind them
  later : (width from n : ℕ) → little_from from width behind ≡ n → little_from (148 + from) width bytes ≡ n
  later width from n is = sym (little_from-drop width from 148 bytes) ∙ ap (λ (ys : List ℕ). little_from from width ys) words_read.1 ∙ is

  number_read : (f : Field) → number_in bytes f ≡ number d f
  unfolding bytes behind
  number_read Image = read_number 4 bytes _ 4 d.image (fits.numbers Image) refl
  number_read Pages = read_number 4 bytes _ 8 d.pages (fits.numbers Pages) refl
  number_read CloneId = read_number 4 bytes _ 12 d.clone_id (fits.numbers CloneId) refl
  number_read Share = read_number 4 bytes _ 16 d.share (fits.numbers Share) refl
  number_read Pc = read_number 4 bytes _ 20 d.pc (fits.numbers Pc) refl
  number_read f =
      later (row f).width ((row f).at - 148) (number d f) (read_number (row f).width behind _ ((row f).at - 148) (number d f) (fits.numbers f) refl)

  numbers_read : number_in bytes ≡ number d
  numbers_read = λ i f. number_read f i

  buffer_read : (take 512 (drop 264 bytes) ≡ d.block.buffer) × (drop 776 bytes ≡ rest)
  unfolding behind
  buffer_read =
      let buffer = d.block.buffer in
      let left : drop 264 bytes ≡ buffer ++ rest = sym (drop-drop 116 148 bytes) ∙ ap (λ (ys : List ℕ). drop 116 ys) words_read.1 in (
        ap (λ (ys : List ℕ). take 512 ys) left ∙ (ap (λ (n : ℕ). take n (buffer ++ rest)) (sym fits.buffer) ∙ take-append_seam buffer rest),
        sym (drop-drop 512 264 bytes)
            ∙ (ap (λ (ys : List ℕ). drop 512 ys) left ∙ (ap (λ (n : ℕ). drop n (buffer ++ rest)) (sym fits.buffer) ∙ drop-append_seam buffer rest)),
      )

  pub fields_read : AreFields d rest (fields_of (a ∷ b ∷ c ∷ e ∷ []) d rest)
  unfolding bytes
  fields_read = record { numbers = numbers_read; registers = words_read.0; buffer = buffer_read.0; rest = buffer_read.1 }

-- ---- the entries, and the map behind them

-- the bytes of the fields, which end with the entries or not
abbrev pub fields_size : Bool → ℕ
fields_size true = 816
fields_size false = 776

abbrev pub version : (a b c e least most : ℕ) (has_entries has_forms : Bool) → Version
version a b c e least most has_entries has_forms = record {
  mark = a ∷ b ∷ c ∷ e ∷ [];
  fields = fields_size has_entries;
  has_entries = has_entries;
  has_forms = has_forms;
  least_pages = least;
  most_pages = most;
}

-- what is read behind the fields that all versions have
pub record IsBehind (d : Descriptor) (has_entries : Bool) (map bytes : List ℕ) : Type 0 where
  pub entries : entries_in has_entries bytes ≡ d.csrs.pmp
  pub map_there : drop (fields_size has_entries) bytes ≡ map

same_entries : {cs cs' ads ads' : List ℕ} → cs ≡ cs' → ads ≡ ads' → (let p : PmpRegisters = record { configurations = cs; addresses = ads } in p) ≡ record { configurations = cs'; addresses = ads' }
same_entries p q = cc

entries_read : (has_entries : Bool) (d : Descriptor) (fits : Fits d) (map xs : List ℕ) → AreTold has_entries d.csrs.pmp → drop 776 xs ≡ entries_as has_entries d.csrs.pmp ++ map
    → IsBehind d has_entries map xs
entries_read true d fits map xs told is =
    let first = d.csrs.pmp.configurations in
    let words = flat_map word d.csrs.pmp.addresses in
    let parts : drop 776 xs ≡ first ++ (words ++ map) = is ∙ append_assoc first words map in
    let behind : drop 784 xs ≡ words ++ map =
    sym (drop-drop 8 776 xs) ∙ (ap (λ (ys : List ℕ). drop 8 ys) parts ∙ (ap (λ (n : ℕ). drop n (first ++ (words ++ map))) (sym fits.configurations) ∙ drop-append_seam first (words ++ map))) in
    let found = read_words d.csrs.pmp.addresses xs map 784 fits.words behind in
    record {
      entries =
          same_entries
          (ap (λ (ys : List ℕ). take 8 ys) parts ∙ (ap (λ (n : ℕ). take n (first ++ (words ++ map))) (sym fits.configurations) ∙ take-append_seam first (words ++ map)))
          (ap (λ (n : ℕ). numbers_from 4 n 784 xs) (sym fits.addresses) ∙ found.0);
      map_there = ap (λ (n : ℕ). drop (784 + 4 * n) xs) (sym fits.addresses) ∙ found.1;
    }
entries_read false d fits map xs told is = record { entries = sym told; map_there = is }

module _ (a b c e least most : ℕ) (has_entries has_forms : Bool) (d : Descriptor) (fits : Fits d) (told : AreTold has_entries d.csrs.pmp) where
  pub spelled_fields : AreFields d (entries_as has_entries d.csrs.pmp ++ map_as has_forms d.blank) (described_as (version a b c e least most has_entries has_forms) d)
  unfolding described_as
  spelled_fields = fields_read a b c e d fits (entries_as has_entries d.csrs.pmp ++ map_as has_forms d.blank)

  pub spelled_behind : IsBehind d has_entries (map_as has_forms d.blank) (described_as (version a b c e least most has_entries has_forms) d)
  spelled_behind =
      entries_read has_entries d fits (map_as has_forms d.blank) (described_as (version a b c e least most has_entries has_forms) d) told spelled_fields.rest

  pub read_back : read_as (version a b c e least most has_entries has_forms) (described_as (version a b c e least most has_entries has_forms) d) ≡ d
  unfolding read_as
  read_back =
      let bytes = described_as (version a b c e least most has_entries has_forms) d in
      let is = spelled_fields in
      let behind = spelled_behind in
      let flags : flags_as has_forms (number_in bytes Pages) (drop (fields_size has_entries) bytes) ≡ d.blank =
      ap₂ (λ (n : ℕ) (rest : List ℕ). flags_as has_forms n rest) (ap (λ (numbers : Field → ℕ). numbers Pages) is.numbers ∙ sym fits.map) behind.map_there
      ∙ map_read d.blank (omega (arith, fits.map, fits.runs)) has_forms in
      ap₂ (λ (numbers : Field → ℕ) (registers : List ℕ). descriptor_of numbers (entries_in has_entries bytes) registers (take 512 (drop 264 bytes))
      (flags_as has_forms (number_in bytes Pages) (drop (fields_size has_entries) bytes)))
      is.numbers is.registers
      ∙ ap (λ (entries : PmpRegisters). descriptor_of (number d) entries d.registers (take 512 (drop 264 bytes))
      (flags_as has_forms (number_in bytes Pages) (drop (fields_size has_entries) bytes))) behind.entries
      ∙ ap₂ (λ (buffer : List ℕ) (blank : List Bool). descriptor_of (number d) d.csrs.pmp d.registers buffer blank) is.buffer flags
      ∙ of_numbers d fits.mstatus
