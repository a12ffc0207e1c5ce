-- What slots keep, from one fast step to the next.
use Rattle.std.proofs.Common.{◌≡◌, ◌≢◌, ℕ, ◌+◌, ◌-◌, ◌/◌, ◌%◌, ◌^◌, ◌<◌, ◌≤◌, ◌⊎◌, inl, inr, Bool, true}
use Rattle.std.proofs.Common.{false, eqb, List, length, get_or, replicate, Option, None, Some, refl, sym, ap, ◌∙◌, subst, arith}
use Rattle.std.proofs.Math.ListN.{set}
use Rattle.std.proofs.lemmas.Bool.{cases_eq, eqb-true}
use Rattle.std.proofs.lemmas.Bool.Decides.{nat_tests}
use Rattle.std.proofs.lemmas.List.{get_or_default, get_or-replicate, get_or-set_other, get_or-set_same, length-replicate, length-set}
use Rattle.std.specs.Int.Bits.{bit_and}
use Rattle.std.specs.Prelude.{◌&&◌, MatchBool, not, nat_le, nat_lt, slice_get}
use Rattle.elf_load.specs.declared.image.TheConstants.{RAM_BASE}
use Rattle.page_frames.specs.declared.page.TheConstants.{PAGE_SIZE}
use Rattle.flat_memory.specs.Flat.{put_bytes, word_at}
use Rattle.flat_memory.proofs.Bytes.{get_or-put_bytes_outside, length-put_bytes}
use Rattle.page_frames.proofs.Memory.{little_from_same}
use Rattle.rv_decode.specs.Instruction.{Instruction}
use Rattle.rv_decode.specs.Kinds.{group_of}
use Rattle.rv_decode.specs.Table.{decoded}
use Rattle.rv_decode.specs.declared.kinds.Group.{Group}
use Rattle.rv_decode.specs.declared.kinds.Group.TheVariants.{LoadUpper, AddUpper, Jump, JumpRegister, Branch, Load, Store, ComputeImmediate}
use Rattle.rv_decode.specs.declared.kinds.Group.TheVariants.{Compute, EnvironmentCall, Breakpoint, TrapReturn, Csr, LoadReserved, StoreConditional, Amo}
use Rattle.rv_decode.specs.declared.kinds.Group.TheVariants as group
use Rattle.guest_pmp.specs.declared.access.Access.TheVariants as right
use Rattle.guest_pmp.specs.declared.access.Mode.{Mode}
use Rattle.guest_pmp.specs.declared.access.Mode.TheVariants.{User, Machine}
use Rattle.guest_pmp.specs.Allowed.{allowed, is_machine}
use Rattle.rv_traps.specs.declared.registers.CsrRegisters.{CsrRegisters}
use Rattle.guest_pmp.specs.Registers.{has_lock}
use Rattle.rv_traps.specs.Protection.{allows, data_mode, is_unrestricted}
use Rattle.rv_exec.specs.Branch.{branch_taken}
use Rattle.rv_exec.specs.Memory.{IsWidth, store_width}
use Rattle.forest_model.specs.State.{State, is_in_ram}
use Rattle.forest_model.specs.Action.{Action, trap, interrupt, retire, exit, ask, speak, rs1, rs2, immediate}
use Rattle.forest_model.specs.Access.{Reached, faulted, of_ram, of_port, reached, fetch_access}
use Rattle.forest_model.specs.Compute.{load_upper, add_upper, compute_immediate, compute}
use Rattle.forest_model.specs.Control.{aligned_jump, branch, branch_by, jump, jump_register, even, linked, relative}
use Rattle.forest_model.specs.Memory.{data_address, load, load_access, load_by, store, store_access, store_action, store_by, stored_bytes}
use Rattle.forest_model.specs.Execute.{execute, execute_group, fetched}
use Rattle.forest_model.specs.Touch.{access_by, data_footprint, footprint_reached}
use Rattle.forest_model.proofs.Touch.{store_widths}
use Rattle.forest_model.specs.Footprint.{Change}
use Rattle.forest_model.specs.Paged.{Pages, pages_after}
use Rattle.forest_model.proofs.Accesses.{of_ram-is, reached-ram}
use Rattle.vm_hart.specs.Acts.{ReachesRam}
use Rattle.instruction_slots.specs.Slots.{Forgets, ForgetsAt, KeptInstruction, kept_by, place_of, slot_of}
use Rattle.vm_hart.specs.Kept.{Comes, IsSlotAtPc, IsKept, IsWord, Keeps, mode_tag, stored_at, tagged}
use Rattle.vm_hart.specs.Keyed.{KeyedState}
use Rattle.vm_hart.specs.Fast.{ActsFast, IsFastIn, IsFastStep}
use Rattle.instruction_slots.specs.Slots.{KeptInstruction}
use Rattle.instruction_slots.specs.declared.slot.TheConstants.{NOWHERE}
use Rattle.vm_hart.proofs.Fast.{IsNoPort, no-port, fast-step, registers-stay}

-- ---- the tags of modes

-- a tag leaves an address even, and is small
pub tag-even : (mode : Mode) → mode_tag mode % 2 ≡ 0
tag-even User = refl
tag-even Machine = refl

pub tag-small : (mode : Mode) → mode_tag mode ≤ 2
tag-small User = omega arith
tag-small Machine = omega arith

tag-same : (mode other : Mode) → mode_tag mode ≡ mode_tag other → mode ≡ other
tag-same User User e = refl
tag-same User Machine e = absurd (cc)
tag-same Machine User e = absurd (cc)
tag-same Machine Machine e = refl

-- where nothing is restricted the mode is machine mode
tag-machine : (mode : Mode) (rest : Bool) → (is_machine mode && rest) ≡ true → mode_tag mode ≡ 0
tag-machine User rest is = absurd (cc)
tag-machine Machine rest is = refl

pub tag-free : (c : CsrRegisters) → is_unrestricted c ≡ true → mode_tag c.mode ≡ 0
tag-free c free = tag-machine c.mode (is_machine (data_mode c) && not (has_lock c.pmp)) free

-- no instruction is nowhere
not-nowhere : (mode : Mode) (address epoch place : ℕ) → place ≡ NOWHERE → place ≡ place_of (tagged mode address) epoch → address % 4 ≡ 0 → ⊥
not-nowhere mode address epoch place nowhere now aligned = let even = tag-even mode in omega (arith, even, nowhere, now, aligned)

-- ---- slots

-- a slot that keeps nothing
pub keeps-nothing : (h : KeyedState) (epoch count number : ℕ) (slot : KeptInstruction) → slot.place ≡ NOWHERE → IsKept h epoch count number slot
keeps-nothing h epoch count number slot nowhere = record {
  past = omega (arith, nowhere);
  filled = λ mode address now aligned. absurd (not-nowhere mode address epoch slot.place nowhere now aligned);
}

pub keeps-replicate : (h : KeyedState) (epoch n : ℕ) (slot : KeptInstruction) → slot.place ≡ NOWHERE → Keeps h epoch (replicate n slot)
keeps-replicate h epoch n slot nowhere k d below =
    let inside : k < n = subst (λ m. k < m) (length-replicate n slot) below in
    subst (IsKept h epoch (length (replicate n slot)) k) (sym (get_or-replicate n k slot d inside)) (keeps-nothing h epoch (length (replicate n slot)) k slot nowhere)

-- nothing is kept for a later epoch
pub keeps-later : (h later : KeyedState) (epoch next : ℕ) (slots : List KeptInstruction) → epoch < next → Keeps h epoch slots → Keeps later next slots
keeps-later h later epoch next slots after keeps k d below =
    let past = (keeps k d below).past in
    record { past = omega (arith, past, after); filled = λ mode address now aligned. absurd (omega (arith, past, after, now)) }

-- another slot in the place of one
pub keeps-set : (h : KeyedState) (epoch n : ℕ) (slots : List KeptInstruction) (slot : KeptInstruction) → Keeps h epoch slots → n < length slots → IsKept h epoch (length slots) n slot
    → Keeps h epoch (set slots n slot)
keeps-set h epoch n slots slot keeps inside kept k d below =
    let same : length (set slots n slot) ≡ length slots = length-set slots n slot in
    subst (λ m. IsKept h epoch m k (get_or (set slots n slot) k d)) (sym same)
    (elim (cases_eq k n) [
      | inl is ↦ subst (λ j. IsKept h epoch (length slots) j (get_or (set slots n slot) j d)) (sym is)
          (subst (IsKept h epoch (length slots) n) (sym (get_or-set_same slots n slot d inside)) kept)
      | inr other ↦ subst (IsKept h epoch (length slots) k) (sym (get_or-set_other slots n k slot d other)) (keeps k d (subst (λ m. k < m) same below))
    ])

-- forgetting loses nothing else
forgets-keeps : (h : KeyedState) (epoch number : ℕ) (old new : List KeptInstruction) → Keeps h epoch old → Forgets number old new → Keeps h epoch new
forgets-keeps h epoch number old new keeps forgets k d below =
    let inside : k < length old = subst (λ m. k < m) forgets.same_length below in
    elim (cases_eq k number) [
      | inl is ↦
          let same : get_or new k d ≡ record (get_or old k d) { place = NOWHERE } =
          subst (λ j. get_or new j d ≡ record (get_or old j d) { place = NOWHERE }) (sym is) (forgets.there d) in
          subst (IsKept h epoch (length new) k) (sym same) (keeps-nothing h epoch (length new) k (record (get_or old k d) { place = NOWHERE }) refl)
      | inr other ↦ subst (λ m. IsKept h epoch m k (get_or new k d)) (sym forgets.same_length)
          (subst (IsKept h epoch (length old) k) (sym (forgets.others k d other)) (keeps k d inside))
    ]

forgot-keeps : (h : KeyedState) (epoch : ℕ) (stored : Option ℕ) (old new : List KeptInstruction) → Keeps h epoch old → ForgetsAt stored old new → Keeps h epoch new
forgot-keeps h epoch None old new keeps is = subst (Keeps h epoch) (sym is) keeps
forgot-keeps h epoch (Some address) old new keeps is = forgets-keeps h epoch (slot_of address (length old)) old new keeps is

-- ---- RAM after a fast instruction

-- a store puts bytes at an aligned address; else RAM stays
abbrev RamAfter : Group → Instruction → State → State → Type 0
RamAfter Store i s new = (new.ram ≡ put_bytes s.ram (data_address i s - RAM_BASE) (stored_bytes i s)) × (data_address i s % store_width i.kind ≡ 0)
RamAfter _ i s new = new.ram ≡ s.ram

abbrev IsRamAction : Group → Instruction → State → Action → Type 0
IsRamAction g i s (trap cause value) = Unit {0}
IsRamAction g i s interrupt = Unit {0}
IsRamAction g i s (retire written new) = RamAfter g i s new
IsRamAction g i s (exit value bytes new) = Unit {0}
IsRamAction g i s (ask call new) = Unit {0}
IsRamAction g i s (speak talk new) = Unit {0}

module _ (i : Instruction) (s : State) where
  jump-ram : (aligned : Bool) (target : ℕ) (new : State) → new.ram ≡ s.ram → IsRamAction Jump i s (aligned_jump aligned target new)
  jump-ram false target new same = tt
  jump-ram true target new same = same

  register-ram : (aligned : Bool) (target : ℕ) (new : State) → new.ram ≡ s.ram → IsRamAction JumpRegister i s (aligned_jump aligned target new)
  register-ram false target new same = tt
  register-ram true target new same = same

  taken-ram : (aligned : Bool) (target : ℕ) → IsRamAction Branch i s (aligned_jump aligned target s)
  taken-ram false target = tt
  taken-ram true target = refl

  branch-ram : (taken : Bool) → IsRamAction Branch i s (branch_by taken i s)
  branch-ram false = refl
  branch-ram true = taken-ram (eqb (relative i s % 4) 0) (relative i s)

  load-ram : (r : Reached) (address : ℕ) → IsNoPort r → IsRamAction Load i s (load_by r i address s)
  load-ram (faulted cause) address none = tt
  load-ram (of_ram page) address none = refl
  load-ram of_port address none = absurd none

  store-ram : (r : Reached) → reached (store_access i s) s ≡ r → IsNoPort r
      → IsRamAction Store i s (store_by r (data_address i s) (store_width i.kind) (stored_bytes i s) (rs2 i s) s)
  store-ram (faulted cause) is none = tt
  store-ram (of_ram page) is none = (refl, eqb-true (data_address i s % store_width i.kind) 0 (of_ram-is (store_access i s) s page is).aligned)
  store-ram of_port is none = absurd none

  ram-action : (g : Group) (word : ℕ) → IsFastIn g i s → IsRamAction g i s (execute_group g i word s)
  unfolding load_upper add_upper jump jump_register branch load store store_action compute_immediate compute
  ram-action LoadUpper word h = refl
  ram-action AddUpper word h = refl
  ram-action Jump word h = jump-ram (eqb (relative i s % 4) 0) (relative i s) (linked i s) refl
  ram-action JumpRegister word h = let target : ℕ = even ((rs1 i s + immediate i) % 2 ^ 32) in register-ram (eqb (target % 4) 0) target (linked i s) refl
  ram-action Branch word h = branch-ram (branch_taken i.kind (rs1 i s) (rs2 i s))
  ram-action Load word h = load-ram (reached (load_access i s) s) (data_address i s) (no-port (load_access i s) s h)
  ram-action Store word h = store-ram (reached (store_access i s) s) refl (no-port (store_access i s) s h)
  ram-action ComputeImmediate word h = refl
  ram-action Compute word h = refl
  ram-action group.Nothing word h = refl
  ram-action EnvironmentCall word h = absurd h
  ram-action Breakpoint word h = absurd h
  ram-action TrapReturn word h = absurd h
  ram-action Csr word h = absurd h
  ram-action LoadReserved word h = absurd h
  ram-action StoreConditional word h = absurd h
  ram-action Amo word h = absurd h

  -- no page comes or goes
  abbrev LeavesPages : Change → Type 0
  LeavesPages ch = (p : Pages) → (pages_after ch p).here ≡ p.here

  load-here : (r : Reached) → LeavesPages (footprint_reached r (load_access i s) (rs2 i s) s).changes
  load-here (faulted cause) p = refl
  load-here (of_ram None) p = refl
  load-here (of_ram (Some page)) p = refl
  load-here of_port p = refl

  store-here : (r : Reached) → IsNoPort r → LeavesPages (footprint_reached r (store_access i s) (rs2 i s) s).changes
  store-here (faulted cause) none p = refl
  store-here (of_ram None) none p = refl
  store-here (of_ram (Some page)) none p = refl
  store-here of_port none p = absurd none

  here-kept : (g : Group) → IsFastIn g i s → LeavesPages (data_footprint (access_by g i s) (rs2 i s) s).changes
  here-kept LoadUpper h p = refl
  here-kept AddUpper h p = refl
  here-kept Jump h p = refl
  here-kept JumpRegister h p = refl
  here-kept Branch h p = refl
  here-kept Load h p = load-here (reached (load_access i s) s) p
  here-kept Store h p = store-here (reached (store_access i s) s) (no-port (store_access i s) s h) p
  here-kept ComputeImmediate h p = refl
  here-kept Compute h p = refl
  here-kept group.Nothing h p = refl
  here-kept EnvironmentCall h p = absurd h
  here-kept Breakpoint h p = absurd h
  here-kept TrapReturn h p = absurd h
  here-kept Csr h p = absurd h
  here-kept LoadReserved h p = absurd h
  here-kept StoreConditional h p = absurd h
  here-kept Amo h p = absurd h

-- ---- words after it

-- another word than that of an aligned store has none of its bytes
apart : (place address width j : ℕ) → IsWidth width → address % width ≡ 0 → place % 4 ≡ 0 → place / 4 ≢ address / 4 → RAM_BASE ≤ address → RAM_BASE ≤ place → j < 4
    → (place - RAM_BASE + j < address - RAM_BASE) ⊎ (address - RAM_BASE + width ≤ place - RAM_BASE + j)
apart place address width j (inl one) aligned whole other from_base from below = grind arith
apart place address width j (inr (inl two)) aligned whole other from_base from below =
    let by_two : address % 2 ≡ 0 = subst (λ w. address % w ≡ 0) two aligned in grind arith
apart place address width j (inr (inr four)) aligned whole other from_base from below =
    let by_four : address % 4 ≡ 0 = subst (λ w. address % w ≡ 0) four aligned in grind arith

in-ram-bounds : (ram : List ℕ) (address : ℕ) → is_in_ram ram address ≡ true → (RAM_BASE ≤ address) × (address < RAM_BASE + length ram)
in-ram-bounds ram address inside = (grind (arith, nat_tests), grind (arith, nat_tests))

fits-in : (width address size : ℕ) → IsWidth width → address % width ≡ 0 → RAM_BASE ≤ address → address < RAM_BASE + size → size % 4 ≡ 0 → address - RAM_BASE + width ≤ size
fits-in width address size (inl one) aligned from below whole = omega arith
fits-in width address size (inr (inl two)) aligned from below whole =
    let by_two : address % 2 ≡ 0 = subst (λ w. address % w ≡ 0) two aligned in omega arith
fits-in width address size (inr (inr four)) aligned from below whole =
    let by_four : address % 4 ≡ 0 = subst (λ w. address % w ≡ 0) four aligned in omega arith

-- RAM with bytes put at an address, aligned
module _ (ram bytes : List ℕ) (address width : ℕ) (size : length bytes ≡ width) (is_width : IsWidth width) (aligned : address % width ≡ 0)
    (inside : is_in_ram ram address ≡ true) (whole : length ram % 4 ≡ 0) where
  abbrev written : List ℕ
  written = put_bytes ram (address - RAM_BASE) bytes

  fits : address - RAM_BASE + width ≤ length ram
  fits = let bounds = in-ram-bounds ram address inside in fits-in width address (length ram) is_width aligned bounds.0 bounds.1 whole

  same-length : length written ≡ length ram
  same-length = length-put_bytes ram bytes (address - RAM_BASE) (omega (arith, fits, size))

  same-word : (place : ℕ) → place % 4 ≡ 0 → place / 4 ≢ address / 4 → is_in_ram ram place ≡ true → word_at written (place - RAM_BASE) ≡ word_at ram (place - RAM_BASE)
  same-word place quartered other there =
      let bounds = in-ram-bounds ram address inside in
      let from = (in-ram-bounds ram place there).0 in
      little_from_same 4 (place - RAM_BASE) (place - RAM_BASE) written ram
      (λ j below. get_or-put_bytes_outside ram bytes (address - RAM_BASE) (place - RAM_BASE + j) (omega (arith, fits))
      (subst (λ n. (place - RAM_BASE + j < address - RAM_BASE) ⊎ (address - RAM_BASE + n ≤ place - RAM_BASE + j)) (sym size)
      (apart place address width j is_width aligned quartered other bounds.0 from below)))

-- ---- what is kept after it

-- where RAM, the pages that are here and the entries of memory protection stay
pub record StaysSame (old new : KeyedState) : Type 0 where
  pub ram : new.state.ram ≡ old.state.ram
  pub here : new.pages.here ≡ old.pages.here
  pub entries : new.state.csrs.pmp ≡ old.state.csrs.pmp

pub kept-same : (old new : KeyedState) (epoch : ℕ) (slots : List KeptInstruction) → StaysSame old new → Keeps old epoch slots → Keeps new epoch slots
kept-same old new epoch slots same keeps k d below =
    let kept = keeps k d below in
    record {
      past = kept.past;
      filled = λ mode at now aligned.
          let filled = kept.filled mode at now aligned in
          record {
            place = filled.place;
            word = record {
              in_ram = subst (λ r. is_in_ram r at ≡ true) (sym same.ram) filled.word.in_ram;
              here = subst (λ p. slice_get p ((at - RAM_BASE) / PAGE_SIZE) ≡ Some true) (sym same.here) filled.word.here;
              allowed = subst (λ e. allowed e right.Fetch mode at ≡ true) (sym same.entries) filled.word.allowed;
              is = subst (λ r. word_at r (at - RAM_BASE) ≡ (get_or slots k d).word) (sym same.ram) filled.word.is;
            };
          };
    }

in-as-long : (ram other : List ℕ) (at : ℕ) → length other ≡ length ram → is_in_ram ram at ≡ true → is_in_ram other at ≡ true
in-as-long ram other at same inside = subst (λ n. (nat_le RAM_BASE at && nat_lt at (RAM_BASE + n)) ≡ true) (sym same) inside

-- after a store of bytes of a word that no slot keeps
kept-store : (old new : KeyedState) (epoch address width : ℕ) (slots : List KeptInstruction) (bytes : List ℕ) → new.state.ram ≡ put_bytes old.state.ram (address - RAM_BASE) bytes
    → new.pages.here ≡ old.pages.here → new.state.csrs.pmp ≡ old.state.csrs.pmp → length bytes ≡ width → IsWidth width → address % width ≡ 0
    → is_in_ram old.state.ram address ≡ true → length old.state.ram % 4 ≡ 0
    → ((d : KeptInstruction) → (get_or slots (slot_of address (length slots)) d).place ≡ NOWHERE) → Keeps old epoch slots → Keeps new epoch slots
kept-store old new epoch address width slots bytes ram here entries size is_width aligned inside whole forgotten keeps k d below =
    let kept = keeps k d below in
    record {
      past = kept.past;
      filled = λ mode at now quartered.
          let filled = kept.filled mode at now quartered in
          let other : at / 4 ≢ address / 4 =
          λ same.
          let number : slot_of address (length slots) ≡ k = ap (λ q. bit_and q (length slots - 1)) (sym same) ∙ filled.place in
          let nowhere : (get_or slots k d).place ≡ NOWHERE = subst (λ j. (get_or slots j d).place ≡ NOWHERE) number (forgotten d) in
          not-nowhere mode at epoch (get_or slots k d).place nowhere now quartered in
          let lengths : length new.state.ram ≡ length old.state.ram =
          ap length ram ∙ same-length old.state.ram bytes address width size is_width aligned inside whole in
          record {
            place = filled.place;
            word = record {
              in_ram = in-as-long old.state.ram new.state.ram at lengths filled.word.in_ram;
              here = subst (λ p. slice_get p ((at - RAM_BASE) / PAGE_SIZE) ≡ Some true) (sym here) filled.word.here;
              allowed = subst (λ e. allowed e right.Fetch mode at ≡ true) (sym entries) filled.word.allowed;
              is =
                  ap (λ r. word_at r (at - RAM_BASE)) ram
                  ∙ same-word old.state.ram bytes address width size is_width aligned inside whole at quartered other filled.word.in_ram
                  ∙ filled.word.is;
            };
          };
    }

module _ (old new : KeyedState) (i : Instruction) (epoch : ℕ) (before slots : List KeptInstruction) where
  -- by its group
  kept-by : (g : Group) → group_of i.kind ≡ g → length old.state.ram % 4 ≡ 0 → IsFastIn g i old.state → RamAfter g i old.state new.state → new.pages.here ≡ old.pages.here
      → new.state.csrs.pmp ≡ old.state.csrs.pmp → ForgetsAt (stored_at g i old.state) before slots → Keeps old epoch before → Keeps new epoch slots
  kept-by LoadUpper g whole h ram here entries is keeps = kept-same old new epoch slots (record { ram = ram; here = here; entries = entries }) (subst (Keeps old epoch) (sym is) keeps)
  kept-by AddUpper g whole h ram here entries is keeps = kept-same old new epoch slots (record { ram = ram; here = here; entries = entries }) (subst (Keeps old epoch) (sym is) keeps)
  kept-by Jump g whole h ram here entries is keeps = kept-same old new epoch slots (record { ram = ram; here = here; entries = entries }) (subst (Keeps old epoch) (sym is) keeps)
  kept-by JumpRegister g whole h ram here entries is keeps = kept-same old new epoch slots (record { ram = ram; here = here; entries = entries }) (subst (Keeps old epoch) (sym is) keeps)
  kept-by Branch g whole h ram here entries is keeps = kept-same old new epoch slots (record { ram = ram; here = here; entries = entries }) (subst (Keeps old epoch) (sym is) keeps)
  kept-by Load g whole h ram here entries is keeps = kept-same old new epoch slots (record { ram = ram; here = here; entries = entries }) (subst (Keeps old epoch) (sym is) keeps)
  kept-by Store g whole h ram here entries is keeps =
      let stored = store_widths i.kind (rs2 i old.state) g in
      let address : ℕ = data_address i old.state in
      kept-store old new epoch address (store_width i.kind) slots (stored_bytes i old.state) ram.0 here entries stored.0 stored.1 ram.1 h whole
      (subst (λ n. (d : KeptInstruction) → (get_or slots (slot_of address n) d).place ≡ NOWHERE) (sym is.same_length) (λ d. ap (λ (s : KeptInstruction). s.place) (is.there d)))
      (forgets-keeps old epoch (slot_of address (length before)) before slots keeps is)
  kept-by ComputeImmediate g whole h ram here entries is keeps = kept-same old new epoch slots (record { ram = ram; here = here; entries = entries }) (subst (Keeps old epoch) (sym is) keeps)
  kept-by Compute g whole h ram here entries is keeps = kept-same old new epoch slots (record { ram = ram; here = here; entries = entries }) (subst (Keeps old epoch) (sym is) keeps)
  kept-by group.Nothing g whole h ram here entries is keeps = kept-same old new epoch slots (record { ram = ram; here = here; entries = entries }) (subst (Keeps old epoch) (sym is) keeps)
  kept-by EnvironmentCall g whole h ram here entries is keeps = absurd h
  kept-by Breakpoint g whole h ram here entries is keeps = absurd h
  kept-by TrapReturn g whole h ram here entries is keeps = absurd h
  kept-by Csr g whole h ram here entries is keeps = absurd h
  kept-by LoadReserved g whole h ram here entries is keeps = absurd h
  kept-by StoreConditional g whole h ram here entries is keeps = absurd h
  kept-by Amo g whole h ram here entries is keeps = absurd h

  pub acted-keeps : length old.state.ram % 4 ≡ 0 → ActsFast old new i → ForgetsAt (stored_at (group_of i.kind) i old.state) before slots
      → Keeps old epoch before → Keeps new epoch slots
  unfolding execute
  acted-keeps whole acts stored keeps =
      let acted = acts.1 0 in
      let ram : RamAfter (group_of i.kind) i old.state new.state = subst (IsRamAction (group_of i.kind) i old.state) acted.tells (ram-action i old.state (group_of i.kind) 0 acts.0) in
      let here : new.pages.here ≡ old.pages.here = ap (λ (p : Pages). p.here) acted.changed.0 ∙ here-kept i old.state (group_of i.kind) acts.0 old.pages in
      let entries : new.state.csrs.pmp ≡ old.state.csrs.pmp = ap (λ (c : CsrRegisters). c.pmp) (registers-stay old new i 0 acts.0 acted).0 in
      kept-by (group_of i.kind) refl whole acts.0 ram here entries stored keeps

-- RAM has as many bytes after it
module _ (old new : KeyedState) (i : Instruction) where
  size-by : (g : Group) → group_of i.kind ≡ g → length old.state.ram % 4 ≡ 0 → IsFastIn g i old.state → RamAfter g i old.state new.state
      → length new.state.ram ≡ length old.state.ram
  size-by LoadUpper g whole h ram = ap length ram
  size-by AddUpper g whole h ram = ap length ram
  size-by Jump g whole h ram = ap length ram
  size-by JumpRegister g whole h ram = ap length ram
  size-by Branch g whole h ram = ap length ram
  size-by Load g whole h ram = ap length ram
  size-by Store g whole h ram =
      let stored = store_widths i.kind (rs2 i old.state) g in
      ap length ram.0 ∙ same-length old.state.ram (stored_bytes i old.state) (data_address i old.state) (store_width i.kind) stored.0 stored.1 ram.1 h whole
  size-by ComputeImmediate g whole h ram = ap length ram
  size-by Compute g whole h ram = ap length ram
  size-by group.Nothing g whole h ram = ap length ram
  size-by EnvironmentCall g whole h ram = absurd h
  size-by Breakpoint g whole h ram = absurd h
  size-by TrapReturn g whole h ram = absurd h
  size-by Csr g whole h ram = absurd h
  size-by LoadReserved g whole h ram = absurd h
  size-by StoreConditional g whole h ram = absurd h
  size-by Amo g whole h ram = absurd h

  pub acted-size : length old.state.ram % 4 ≡ 0 → ActsFast old new i → length new.state.ram ≡ length old.state.ram
  unfolding execute
  acted-size whole acts =
      let acted = acts.1 0 in
      let ram : RamAfter (group_of i.kind) i old.state new.state = subst (IsRamAction (group_of i.kind) i old.state) acted.tells (ram-action i old.state (group_of i.kind) 0 acts.0) in
      size-by (group_of i.kind) refl whole acts.0 ram

-- ---- a step

-- the word at pc is fetched
word-reaches : (h : KeyedState) (word : ℕ) → IsWord h h.state.csrs.mode h.state.pc word → ReachesRam h (fetch_access h.state) (h.state.pc - RAM_BASE)
unfolding allows
word-reaches h word is =
    let bounds = in-ram-bounds h.state.ram h.state.pc is.in_ram in
    record {
      is = reached-ram (fetch_access h.state) h.state refl is.allowed is.in_ram;
      here = is.here;
      from_base = bounds.0;
      place = refl;
      inside = omega (arith, bounds.0, bounds.1);
      aligned = tt;
    }

pub reaches-word : (h : KeyedState) (word offset : ℕ) → ReachesRam h (fetch_access h.state) offset → word ≡ fetched h.state
    → IsWord h h.state.csrs.mode h.state.pc word
unfolding allows
reaches-word h word offset reaches is =
    let place = reaches.place in
    let reached = of_ram-is (fetch_access h.state) h.state (Some (offset / PAGE_SIZE)) reaches.is in
    record {
      in_ram = reached.in_ram;
      here = subst (λ o. slice_get h.pages.here (o / PAGE_SIZE) ≡ Some true) place reaches.here;
      allowed = reached.allowed;
      is = sym is;
    }

-- what a slot keeps of the coming instruction
pub comes-found : (h : KeyedState) (epoch count number : ℕ) (slot : KeptInstruction) → IsKept h epoch count number slot
    → slot.place ≡ place_of (tagged h.state.csrs.mode h.state.pc) epoch → decoded slot.word ≡ Some slot.instr → h.state.pc % 4 ≡ 0 → Comes h slot.instr
comes-found h epoch count number slot kept at says aligned =
    record { word = slot.word; is = (kept.filled h.state.csrs.mode h.state.pc at aligned).word; says = says }

-- so does the list that has it
pub comes-at : (h : KeyedState) (epoch number : ℕ) (slots : List KeptInstruction) (d : KeptInstruction) → Keeps h epoch slots → number < length slots
    → (get_or slots number d).place ≡ place_of (tagged h.state.csrs.mode h.state.pc) epoch
    → decoded (get_or slots number d).word ≡ Some (get_or slots number d).instr → h.state.pc % 4 ≡ 0 → IsSlotAtPc h slots number
comes-at h epoch number slots d keeps inside at says aligned =
    let comes = comes-found h epoch (length slots) number (get_or slots number d) (keeps number d inside) at says aligned in
    record {
      inside = inside;
      there = λ e. subst (λ (slot : KeptInstruction). Comes h slot.instr) (get_or_default slots number d e inside) comes;
    }

-- the slot of the coming instruction, after its word was put there
pub kept-put : (h : KeyedState) (epoch count number word : ℕ) (says : Option Instruction) (slot : KeptInstruction) → IsKept h epoch count number slot
    → h.state.pc < 4294967296 → h.state.pc % 4 ≡ 0 → number ≡ slot_of h.state.pc count → IsWord h h.state.csrs.mode h.state.pc word
    → IsKept h epoch count number (kept_by says (place_of (tagged h.state.csrs.mode h.state.pc) epoch) word slot)
kept-put h epoch count number word None slot kept small aligned place is = kept
kept-put h epoch count number word (Some instr) slot kept small aligned place is =
    let tag = tag-small h.state.csrs.mode in
    record {
      past = omega (arith, small, aligned, tag);
      filled = λ mode address now quartered.
          let other = tag-small mode in
          let here : h.state.pc ≡ address = omega (arith, now, aligned, quartered, tag, other) in
          let same : h.state.csrs.mode ≡ mode = tag-same h.state.csrs.mode mode (omega (arith, now, here)) in
          record {
            place = ap (λ a. slot_of a count) (sym here) ∙ sym place;
            word = subst (λ m. IsWord h m address word) same (subst (λ a. IsWord h h.state.csrs.mode a word) here is);
          };
    }

pub step-made : (old new : KeyedState) (i : Instruction) (is_made : Bool) → Comes old i → MatchBool is_made (ActsFast old new i) (new ≡ old)
    → MatchBool is_made (IsFastStep old new) (new ≡ old)
step-made old new i true comes told =
    fast-step old new i comes.word told.0 (told.1 comes.word) (old.state.pc - RAM_BASE) (word-reaches old comes.word comes.is) (sym comes.is.is) comes.says
step-made old new i false comes told = told

pub step-size : (old new : KeyedState) (i : Instruction) (is_made : Bool) → length old.state.ram % 4 ≡ 0 → MatchBool is_made (ActsFast old new i) (new ≡ old)
    → length new.state.ram ≡ length old.state.ram
step-size old new i true whole told = acted-size old new i whole told
step-size old new i false whole told = ap (λ (h : KeyedState). length h.state.ram) told

pub step-keeps : (old new : KeyedState) (i : Instruction) (epoch : ℕ) (before slots : List KeptInstruction) (is_made : Bool) → length old.state.ram % 4 ≡ 0
    → MatchBool is_made (ActsFast old new i) (new ≡ old) → ForgetsAt (stored_at (group_of i.kind) i old.state) before slots → Keeps old epoch before → Keeps new epoch slots
step-keeps old new i epoch before slots true whole told stored keeps = acted-keeps old new i epoch before slots whole told stored keeps
step-keeps old new i epoch before slots false whole told stored keeps =
    subst (λ h. Keeps h epoch slots) (sym told) (forgot-keeps old epoch (stored_at (group_of i.kind) i old.state) before slots keeps stored)

pub forgot-length : (stored : Option ℕ) (old new : List KeptInstruction) → ForgetsAt stored old new → length new ≡ length old
forgot-length None old new is = ap length is
forgot-length (Some address) old new is = is.same_length
