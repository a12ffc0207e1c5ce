-- What mode a machine is in, and what user mode may not do.
use Rattle.std.proofs.Common.{◌≡◌, ◌↔◌, ℕ, Bool, true, false, not, ◌&&◌, ◌||◌, List, [], ◌∷◌, find, Option, Some, None, refl, sym, ap, ◌∙◌, cond, bit_and, arith}
use Rattle.std.specs.List.{list_all}
use Rattle.std.proofs.lemmas.Bool.Decides.{nat_tests}
use Rattle.std.specs.Option.{option_map}
use Rattle.guest_pmp.specs.declared.access.Mode.{Mode}
use Rattle.guest_pmp.specs.declared.access.Mode.TheVariants.{User, Machine}
use Rattle.guest_pmp.specs.Allowed.{is_machine}
use Rattle.guest_pmp.specs.Registers.{IsNumber}
use Rattle.rv_traps.specs.declared.number.Csr.{Csr}
use Rattle.rv_traps.specs.declared.number.Csr.TheVariants.{Information, Mstatus, Misa, Mie, Mtvec, Mcounteren, Menvcfg, Mstatush, Menvcfgh, Mcountinhibit, Mhpmevent, Mscratch}
use Rattle.rv_traps.specs.declared.number.Csr.TheVariants.{Mepc, Mcause, Mtval, Mip, Pmp, Mcycle, Minstret, Mhpmcounter, Mcycleh, Minstreth, Mhpmcounterh}
use Rattle.rv_traps.specs.declared.registers.CsrRegisters.{CsrRegisters}
use Rattle.rv_traps.specs.Access.{csr_read, csr_write, is_read_only, put}
use Rattle.rv_traps.specs.Table.{Row, csr_of, is_of, keeps, rows}
use Rattle.rv_traps.specs.Trap.{mret, returned}

pub csr_read-user : (c : CsrRegisters) (number : ℕ) (timer : Bool) → c.mode ≡ User → csr_read c number timer ≡ None
unfolding csr_read
csr_read-user c number timer user = rw user

pub csr_write-user : (c : CsrRegisters) (number value : ℕ) → c.mode ≡ User → csr_write c number value ≡ None
unfolding csr_write
csr_write-user c number value user = rw user

none-user : (mode : Mode) (c : CsrRegisters) → cond (is_machine mode) (Some (returned c)) None ≡ None → mode ≡ User
none-user User c none = refl
none-user Machine c none = absurd (cc)

pub mret-user : (c : CsrRegisters) → mret c ≡ None ↔ (c.mode ≡ User)
unfolding mret
mret-user c = (none-user c.mode c, λ user. rw user)

-- ---- writes

put-leaves-mode : (csr : Csr) (number kept : ℕ) (c : CsrRegisters) → (put csr number kept c).mode ≡ c.mode
put-leaves-mode Information number kept c = refl
put-leaves-mode Mstatus number kept c = refl
put-leaves-mode Misa number kept c = refl
put-leaves-mode Mie number kept c = refl
put-leaves-mode Mtvec number kept c = refl
put-leaves-mode Mcounteren number kept c = refl
put-leaves-mode Menvcfg number kept c = refl
put-leaves-mode Mstatush number kept c = refl
put-leaves-mode Menvcfgh number kept c = refl
put-leaves-mode Mcountinhibit number kept c = refl
put-leaves-mode Mhpmevent number kept c = refl
put-leaves-mode Mscratch number kept c = refl
put-leaves-mode Mepc number kept c = refl
put-leaves-mode Mcause number kept c = refl
put-leaves-mode Mtval number kept c = refl
put-leaves-mode Mip number kept c = refl
put-leaves-mode Pmp number kept c = refl
put-leaves-mode Mcycle number kept c = refl
put-leaves-mode Minstret number kept c = refl
put-leaves-mode Mhpmcounter number kept c = refl
put-leaves-mode Mcycleh number kept c = refl
put-leaves-mode Minstreth number kept c = refl
put-leaves-mode Mhpmcounterh number kept c = refl

abbrev is_pmp : Csr → Bool
is_pmp Pmp = true
is_pmp _ = false

put-leaves-entries : (csr : Csr) (number kept : ℕ) (c : CsrRegisters) → is_pmp csr ≡ false → (put csr number kept c).pmp ≡ c.pmp
put-leaves-entries Information number kept c other = refl
put-leaves-entries Mstatus number kept c other = refl
put-leaves-entries Misa number kept c other = refl
put-leaves-entries Mie number kept c other = refl
put-leaves-entries Mtvec number kept c other = refl
put-leaves-entries Mcounteren number kept c other = refl
put-leaves-entries Menvcfg number kept c other = refl
put-leaves-entries Mstatush number kept c other = refl
put-leaves-entries Menvcfgh number kept c other = refl
put-leaves-entries Mcountinhibit number kept c other = refl
put-leaves-entries Mhpmevent number kept c other = refl
put-leaves-entries Mscratch number kept c other = refl
put-leaves-entries Mepc number kept c other = refl
put-leaves-entries Mcause number kept c other = refl
put-leaves-entries Mtval number kept c other = refl
put-leaves-entries Mip number kept c other = refl
put-leaves-entries Pmp number kept c other = absurd (cc)
put-leaves-entries Mcycle number kept c other = refl
put-leaves-entries Minstret number kept c other = refl
put-leaves-entries Mhpmcounter number kept c other = refl
put-leaves-entries Mcycleh number kept c other = refl
put-leaves-entries Minstreth number kept c other = refl
put-leaves-entries Mhpmcounterh number kept c other = refl

-- the registers after a write of a register, if there is one and it is lawful
abbrev put_if : Bool → Option Csr → ℕ → ℕ → CsrRegisters → Option CsrRegisters
put_if refused csr number value c = cond refused None (option_map (λ r. put r number (bit_and value (keeps r)) c) csr)

mode-left : (refused : Bool) (csr : Option Csr) (number value : ℕ) (c new : CsrRegisters) → put_if refused csr number value c ≡ Some new → new.mode ≡ c.mode
mode-left true csr number value c new is = absurd (cc)
mode-left false None number value c new is = absurd (cc)
mode-left false (Some csr) number value c new is =
    let same : put csr number (bit_and value (keeps csr)) c ≡ new = cc in
    ap (λ (d : CsrRegisters). d.mode) (sym same) ∙ put-leaves-mode csr number (bit_and value (keeps csr)) c

pub csr_write-mode : (c new : CsrRegisters) (number value : ℕ) → csr_write c number value ≡ Some new → new.mode ≡ c.mode
unfolding csr_write
csr_write-mode c new number value is = mode-left (not (is_machine c.mode) || is_read_only number) (csr_of number) number value c new is

-- a number that is none of memory protection is not found in its rows

abbrev is_found : Option Row → Bool
is_found None = false
is_found (Some r) = is_pmp r.csr

found-at : (here : Bool) (r : Row) (rest : Option Row) → not (is_pmp r.csr && here) ≡ true → is_found rest ≡ false → is_found (cond here (Some r) rest) ≡ false
found-at true r rest other behind = grind arith
found-at false r rest other behind = behind

none-found : (number : ℕ) (rs : List Row) → list_all (λ (r : Row). not (is_pmp r.csr && is_of number r)) rs ≡ true → is_found (find (is_of number) rs) ≡ false
none-found number [] others = refl
none-found number (r ∷ rs) others =
    let here : not (is_pmp r.csr && is_of number r) ≡ true = grind arith in
    let behind : list_all (λ (r : Row). not (is_pmp r.csr && is_of number r)) rs ≡ true = grind arith in
    found-at (is_of number r) r (find (is_of number) rs) here (none-found number rs behind)

abbrev is_of_pmp : Option Csr → Bool
is_of_pmp None = false
is_of_pmp (Some csr) = is_pmp csr

found-csr : (found : Option Row) → is_of_pmp (option_map (λ r. r.csr) found) ≡ is_found found
found-csr None = refl
found-csr (Some r) = refl

csr_of-other : (number : ℕ) → (IsNumber number → ⊥) → is_of_pmp (csr_of number) ≡ false
unfolding csr_of rows
csr_of-other number other = found-csr (find (is_of number) rows) ∙ none-found number rows (grind (arith, nat_tests, other))

entries-left : (refused : Bool) (csr : Option Csr) (number value : ℕ) (c new : CsrRegisters) → is_of_pmp csr ≡ false
    → put_if refused csr number value c ≡ Some new → new.pmp ≡ c.pmp
entries-left true csr number value c new other is = absurd (cc)
entries-left false None number value c new other is = absurd (cc)
entries-left false (Some csr) number value c new other is =
    let same : put csr number (bit_and value (keeps csr)) c ≡ new = cc in
    ap (λ (d : CsrRegisters). d.pmp) (sym same) ∙ put-leaves-entries csr number (bit_and value (keeps csr)) c other

pub csr_write-entries : (c new : CsrRegisters) (number value : ℕ) → (IsNumber number → ⊥) → csr_write c number value ≡ Some new → new.pmp ≡ c.pmp
unfolding csr_write
csr_write-entries c new number value other is =
    entries-left (not (is_machine c.mode) || is_read_only number) (csr_of number) number value c new (csr_of-other number other) is
