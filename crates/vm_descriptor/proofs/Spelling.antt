-- Bytes that are accepted are spelled as they are read.
use Rattle.std.proofs.Common.{◌≡◌, ◌≤◌, ◌<◌, ◌^◌, ℕ, zero, suc, List, [], ◌∷◌, ◌++◌, length, take, drop, sym, ap, ap₂, ◌∙◌, refl, true, false, Some, None, arith}
use Rattle.std.specs.Prelude.{Bool, ◌==◌, if◌then◌else◌, Option}
use Rattle.std.specs.List.{flat_map}
use Rattle.std.specs.Str.{bytes_eq}
use Rattle.std.proofs.Math.Seq.{drop-drop}
use Rattle.std.proofs.lemmas.Bool.{eqb-true, eqb-false}
use Rattle.std.proofs.lemmas.List.{append_assoc, take-append-drop}
use Rattle.std.proofs.lemmas.Slice.Eq.{bytes_eq-Decides}
use Rattle.block_port.specs.Block.{status_word}
use Rattle.flat_memory.proofs.ByteLists.{AreBytes}
use Rattle.vm_descriptor.specs.Fields.{Field, number, number_in, spelled, before_registers, behind_registers, reserved_of, address_of}
use Rattle.vm_descriptor.specs.Fields.{Mstatus, Pages, Reserved, Reservation, BlockStatus}
use Rattle.vm_descriptor.specs.Maps.{flags_as, map_as}
use Rattle.guest_pmp.specs.declared.registers.PmpRegisters.{PmpRegisters}
use Rattle.vm_descriptor.specs.Described.{AreTold, word, described_as, descriptor_of, entries_as, entries_in, numbers_from, read_as, status_of, undue, unread}
use Rattle.vm_descriptor.proofs.Accepted.{AreInRange, accepted, in_range}
use Rattle.vm_descriptor.proofs.DescribedBack.{fields_size, version}
use Rattle.vm_descriptor.proofs.Forms.{map_kept}
use Rattle.vm_descriptor.proofs.Modes.{mode_spelled}
use Rattle.vm_descriptor.proofs.NotRefused.{fields_at_least}
use Rattle.vm_descriptor.proofs.Spelled.{bytes_behind, fields_back, words_back}

status_spelled : (w : ℕ) → w ≤ 2 → status_word (status_of w) ≡ w
status_spelled zero most = refl
status_spelled (suc zero) most = refl
status_spelled (suc (suc zero)) most = refl
status_spelled (suc (suc (suc w))) most = absurd (omega (arith, most))

reserved_by : (none : Bool) (reserved address : ℕ) → (reserved == 0) ≡ none → reserved ≤ 1 → reserved_of (if none then None else Some address) ≡ reserved
reserved_by true reserved address test most = sym (eqb-true reserved 0 test)
reserved_by false reserved address test most = let some = eqb-false reserved 0 test in omega (arith, some, most)

address_by : (none : Bool) (address : ℕ) (rest : Bool) → (if none then address == 0 else rest) ≡ true → address_of (if none then None else Some address) ≡ address
address_by true address rest is = sym (eqb-true address 0 is)
address_by false address rest is = refl

-- the numbers of the descriptor that has these
module _ (numbers : Field → ℕ) (entries : PmpRegisters) (registers buffer : List ℕ) (blank : List Bool) (is : AreInRange numbers) (below : numbers Mstatus < 2 ^ 32) where
  number_kept : (f : Field) → number (descriptor_of numbers entries registers buffer blank) f ≡ numbers f
  number_kept Mstatus = mode_spelled (numbers Mstatus) below
  number_kept Reserved = reserved_by (numbers Reserved == 0) (numbers Reserved) (numbers Reservation) refl is.reserved
  number_kept Reservation = address_by (numbers Reserved == 0) (numbers Reservation) _ is.reservation
  number_kept BlockStatus = status_spelled (numbers BlockStatus) is.status
  number_kept f = refl

  pub numbers_kept : number (descriptor_of numbers entries registers buffer blank) ≡ numbers
  numbers_kept = λ i f. number_kept f i

-- the entries, and what stands behind them
entries_back : (has_entries : Bool) (xs : List ℕ) → AreBytes xs → fields_size has_entries ≤ length xs
    → entries_as has_entries (entries_in has_entries xs) ++ drop (fields_size has_entries) xs ≡ drop 776 xs
entries_back true xs are long =
    let first = take 8 (drop 776 xs) in
    append_assoc first (flat_map word (numbers_from 4 8 784 xs)) (drop 816 xs)
    ∙ (ap (λ (ys : List ℕ). first ++ ys) (words_back 8 784 xs (drop 816 xs) are (omega (arith, long)) refl ∙ sym (drop-drop 8 776 xs))
    ∙ take-append-drop 8 (drop 776 xs))
entries_back false xs are long = refl

regroup : (mark before registers behind rest : List ℕ)
    → (mark ++ (before ++ (registers ++ behind))) ++ rest ≡ mark ++ (before ++ (registers ++ (behind ++ rest)))
regroup mark before registers behind rest = simp append_assoc

module _ (a b c e least most : ℕ) (has_entries has_forms : Bool) (xs : List ℕ) (are : AreBytes xs) (long : fields_size has_entries ≤ length xs) (is : AreInRange (number_in xs))
    (marked : take 4 xs ≡ a ∷ b ∷ c ∷ e ∷ [])
    (map : map_as has_forms (flags_as has_forms (number_in xs Pages) (drop (fields_size has_entries) xs)) ≡ drop (fields_size has_entries) xs) where
  enough : 776 ≤ length xs
  enough = let least = fields_at_least has_entries in omega (arith, least, long)

  spelled_kept : (fields : List Field) → spelled (number (read_as (version a b c e least most has_entries has_forms) xs)) fields ≡ spelled (number_in xs) fields
  unfolding read_as
  spelled_kept fields =
      let one = are 148 in
      let two = are 149 in
      let three = are 150 in
      let four = are 151 in
      ap (λ (numbers : Field → ℕ). spelled numbers fields)
      (numbers_kept (number_in xs) (entries_in has_entries xs) (numbers_from 4 31 24 xs) (take 512 (drop 264 xs)) (flags_as has_forms (number_in xs Pages) (drop (fields_size has_entries) xs)) is
      (omega (arith, one, two, three, four)))

  from_entries : entries_as has_entries (entries_in has_entries xs) ++ map_as has_forms (flags_as has_forms (number_in xs Pages) (drop (fields_size has_entries) xs)) ≡ drop 776 xs
  from_entries = ap (λ (ys : List ℕ). entries_as has_entries (entries_in has_entries xs) ++ ys) map ∙ entries_back has_entries xs are long

  from_buffer : take 512 (drop 264 xs) ++ (entries_as has_entries (entries_in has_entries xs) ++ map_as has_forms (flags_as has_forms (number_in xs Pages) (drop (fields_size has_entries) xs)))
      ≡ drop 264 xs
  from_buffer =
      ap (λ (ys : List ℕ). take 512 (drop 264 xs) ++ ys) (from_entries ∙ sym (drop-drop 512 264 xs)) ∙ take-append-drop 512 (drop 264 xs)

  from_csrs : spelled (number_in xs) behind_registers ++ drop 264 xs ≡ drop 148 xs
  from_csrs = fields_back behind_registers 148 xs (drop 264 xs) refl are (omega (arith, enough)) refl

  from_registers : flat_map word (numbers_from 4 31 24 xs) ++ drop 148 xs ≡ drop 24 xs
  from_registers = words_back 31 24 xs (drop 148 xs) are (omega (arith, enough)) refl

  from_image : spelled (number_in xs) before_registers ++ drop 24 xs ≡ drop 4 xs
  from_image = fields_back before_registers 4 xs (drop 24 xs) refl are (omega (arith, enough)) refl

  spelled_as_read : described_as (version a b c e least most has_entries has_forms) (read_as (version a b c e least most has_entries has_forms) xs) ≡ xs
  unfolding described_as read_as
  spelled_as_read =
      let mark = a ∷ b ∷ c ∷ e ∷ [] in
      let registers = flat_map word (numbers_from 4 31 24 xs) in
      let behind = spelled (number_in xs) behind_registers in
      let before = spelled (number_in xs) before_registers in
      let rest = entries_as has_entries (entries_in has_entries xs) ++ map_as has_forms (flags_as has_forms (number_in xs Pages) (drop (fields_size has_entries) xs)) in
      ap₂ (λ (first last : List ℕ). (mark ++ (first ++ (registers ++ last))) ++ (take 512 (drop 264 xs) ++ rest))
      (spelled_kept before_registers) (spelled_kept behind_registers)
      ∙ (regroup mark before registers behind _
      ∙ (ap (λ (ys : List ℕ). mark ++ (before ++ (registers ++ (behind ++ ys)))) from_buffer
      ∙ (ap (λ (ys : List ℕ). mark ++ (before ++ (registers ++ ys))) from_csrs
      ∙ (ap (λ (ys : List ℕ). mark ++ (before ++ ys)) from_registers
      ∙ (ap (λ (ys : List ℕ). mark ++ ys) from_image
      ∙ (ap (λ (ys : List ℕ). ys ++ drop 4 xs) (sym marked) ∙ take-append-drop 4 xs))))))

when_due : (b : Bool) → (let found : Option ℕ = if b then None else Some 7 in found) ≡ None → b ≡ true
when_due true none = refl
when_due false none = absurd (cc)

-- a version without entries is read as one of which all entries are 0
told : (has_entries : Bool) (xs : List ℕ) → AreTold has_entries (entries_in has_entries xs)
told true xs = tt
told false xs = refl

-- bytes of a version that are not refused
module _ (a b c e least most : ℕ) (has_entries has_forms : Bool) (some : 16 ≤ least) (xs : List ℕ) (are : AreBytes xs) where
  pub version_spelled : bytes_eq (take 4 xs) (a ∷ b ∷ c ∷ e ∷ []) ≡ true → unread (version a b c e least most has_entries has_forms) xs ≡ None
      → undue (version a b c e least most has_entries has_forms) xs ≡ None
      → ((read_as (version a b c e least most has_entries has_forms) xs).pages ≤ most) × AreTold has_entries (read_as (version a b c e least most has_entries has_forms) xs).csrs.pmp
      × (xs ≡ described_as (version a b c e least most has_entries has_forms) (read_as (version a b c e least most has_entries has_forms) xs))
  unfolding read_as
  version_spelled marked readable due =
      let is = accepted (version a b c e least most has_entries has_forms) xs readable in
      let size = fields_size has_entries in
      let positive : 0 < number_in xs Pages = omega (arith, is.least, some) in
      let kept = map_kept (number_in xs Pages) positive has_forms (drop size xs) (bytes_behind size xs are) is.whole is.well (when_due _ due) in (
        is.most,
        told has_entries xs,
        sym (spelled_as_read a b c e least most has_entries has_forms xs are is.long (in_range (number_in xs) is.fields) ((bytes_eq-Decides (take 4 xs) (a ∷ b ∷ c ∷ e ∷ [])).0 marked) kept.1),
      )
