-- Steps that leave RAM, the pages that are here, and the entries of memory protection.
use Rattle.std.proofs.Common.{◌≡◌, ℕ, ◌-◌, Bool, true, false, cond, List, Option, Some, None, IfSome, refl, sym, ap, ◌∙◌, subst, arith}
use Rattle.std.proofs.lemmas.Bool.Decides.{nat_tests}
use Rattle.rv_decode.specs.Instruction.{Instruction}
use Rattle.rv_decode.specs.Table.{decoded}
use Rattle.rv_decode.specs.Kinds.{group_of}
use Rattle.rv_decode.specs.declared.kinds.Group.{Group}
use Rattle.rv_decode.specs.declared.kinds.Group.TheVariants.{LoadUpper, AddUpper, Jump, JumpRegister, Branch, Load, Store, ComputeImmediate}
use Rattle.rv_decode.specs.declared.kinds.Group.TheVariants.{Compute, EnvironmentCall, Breakpoint, TrapReturn, Csr, LoadReserved, StoreConditional, Amo}
use Rattle.rv_decode.specs.declared.kinds.Group.TheVariants as group
use Rattle.rv_exec.specs.Memory.{store_width}
use Rattle.rv_traps.specs.declared.registers.CsrRegisters.{CsrRegisters}
use Rattle.rv_traps.specs.Access.{csr_write}
use Rattle.rv_traps.specs.Protection.{allows}
use Rattle.rv_traps.specs.Trap.{mret, returned, takes_interrupt}
use Rattle.rv_traps.proofs.Modes.{csr_write-entries}
use Rattle.guest_pmp.specs.Allowed.{is_machine}
use Rattle.guest_pmp.specs.Registers.{IsNumber}
use Rattle.fork_port.specs.declared.ending.Ending.{Ending}
use Rattle.console_port.specs.declared.registers.TheConstants.{CONSOLE_SIZE}
use Rattle.port_map.specs.declared.TheConstants.{CONSOLE_BASE}
use Rattle.forest_model.specs.State.{State, at_next_instruction, is_in_ram, is_timer_due}
use Rattle.forest_model.specs.Action.{Action, trap, interrupt, retire, exit, ask, speak, immediate, rs2}
use Rattle.forest_model.specs.Access.{Reached, faulted, of_ram, of_port, page_of, reached, fetch_access}
use Rattle.forest_model.specs.Memory.{data_address, outcome, stored_outcome, store, store_access, store_action, store_by, stored_bytes}
use Rattle.port_map.specs.Bus.{PortRegisters, Stored, place_of, port_store, store_at}
use Rattle.port_map.proofs.Quiet.{StoresQuietly, by-quiet, stores-quietly}
use Rattle.port_map.specs.declared.Place.{Place}
use Rattle.port_map.specs.declared.Place.TheVariants.{Console as at_console}
use Rattle.port_map.specs.Ranges.{is_within, place_in}
use Rattle.forest_model.specs.System.{csr_access, csr_value, old_action, old_value, operand, operation_of, reads, returned_action, trap_return, write_action, writes, written_action}
use Rattle.forest_model.specs.Execute.{action, action_by, decoded_action, execute, execute_group, fetch_action, fetched}
use Rattle.forest_model.specs.Machine.{Machine, advance, advance_from, applied}
use Rattle.forest_model.specs.Footprint.{Change}
use Rattle.forest_model.specs.Touch.{access_by, change, data_footprint, footprint, footprint_at, footprint_from, footprint_of, footprint_reached, footprint_step}
use Rattle.forest_model.specs.Paged.{Pages, pages_after}
use Rattle.forest_model.proofs.Accesses.{of_ram-is, reached-ram}
use Rattle.vm_hart.specs.Kept.{ComesAside, IsAside, Keeps}
use Rattle.vm_hart.specs.declared.hart.kept.TheConstants.{PROTECTION_COUNT, PROTECTION_FIRST}
use Rattle.vm_hart.specs.Keyed.{KeyedMachine, KeyedState, hart_in}
use Rattle.vm_hart.specs.Runs.{moved}
use Rattle.instruction_slots.specs.Slots.{KeptInstruction}
use Rattle.vm_hart.proofs.Kept.{StaysSame, kept-same}

-- the action leaves RAM and the entries, as all do that trap
record AreLeft (s new : State) : Type 0 where
  ram : new.ram ≡ s.ram
  entries : new.csrs.pmp ≡ s.csrs.pmp

abbrev Leaves : State → Action → Type 0
Leaves s (trap cause value) = Unit {0}
Leaves s interrupt = Unit {0}
Leaves s (retire written new) = AreLeft s new
Leaves s (exit value bytes new) = AreLeft s new
Leaves s (ask call new) = Unit {0}
Leaves s (speak talk new) = Unit {0}

-- the change leaves the pages that are here
abbrev LeavesPages : Change → Type 0
LeavesPages ch = (p : Pages) → (pages_after ch p).here ≡ p.here

not-of-protection : (number : ℕ) → is_within PROTECTION_FIRST PROTECTION_COUNT number ≡ false → IsNumber number → ⊥
not-of-protection number other is = grind (arith, nat_tests)

module _ (i : Instruction) (word : ℕ) (s : State) where
  -- an access to another register
  module _ (other : is_within PROTECTION_FIRST PROTECTION_COUNT (immediate i) ≡ false) where
    written-leaves : (value old : ℕ) (csrs : Option CsrRegisters) → csr_write s.csrs (immediate i) value ≡ csrs → Leaves s (written_action csrs old i word s)
    written-leaves value old None is = tt
    written-leaves value old (Some csrs) is = record {
      ram = refl;
      entries = csr_write-entries s.csrs csrs (immediate i) value (not-of-protection (immediate i) other) is;
    }

    write-leaves : (does : Bool) (old : ℕ) → Leaves s (write_action does old i word s)
    write-leaves false old = record { ram = refl; entries = refl }
    write-leaves true old =
        let value : ℕ = csr_value (operation_of i.kind) old (operand i.kind i s) in
        written-leaves value old (csr_write s.csrs (immediate i) value) refl

    csr-leaves : (old : Option ℕ) → Leaves s (old_action old i word s)
    csr-leaves None = tt
    csr-leaves (Some old) = write-leaves (writes (operation_of i.kind) i) old

  -- a return, which changes the mode
  mret-entries : (c new : CsrRegisters) (is_allowed : Bool) → cond is_allowed (Some (returned c)) None ≡ Some new → new.pmp ≡ c.pmp
  mret-entries c new true is = let same : returned c ≡ new = cc in ap (λ (d : CsrRegisters). d.pmp) (sym same)
  mret-entries c new false is = absurd (cc)

  returned-leaves : (csrs : Option CsrRegisters) → mret s.csrs ≡ csrs → Leaves s (returned_action csrs word s)
  unfolding mret
  returned-leaves None is = tt
  returned-leaves (Some csrs) is = record { ram = refl; entries = mret-entries s.csrs csrs (is_machine s.csrs.mode) is }

-- ---- a store to the console

first : (b : Bool) (p q : Place) → b ≡ true → cond b p q ≡ p
first true p q e = refl
first false p q e = absurd (cc)

console-place : (address : ℕ) → is_within CONSOLE_BASE CONSOLE_SIZE address ≡ true → place_of address ≡ at_console (address - CONSOLE_BASE)
unfolding place_in
console-place address inside = first (is_within CONSOLE_BASE CONSOLE_SIZE address) (at_console (address - CONSOLE_BASE)) _ inside

not-of-ram : (ram : List ℕ) (address : ℕ) → is_within CONSOLE_BASE CONSOLE_SIZE address ≡ true → is_in_ram ram address ≡ true → ⊥
not-of-ram ram address console inside = grind (arith, nat_tests)

console-store : (ports : PortRegisters) (address width word : ℕ) → is_within CONSOLE_BASE CONSOLE_SIZE address ≡ true
    → port_store ports address width word ≡ store_at (at_console (address - CONSOLE_BASE)) ports width word
unfolding port_store
console-store ports address width word inside = ap (λ place. store_at place ports width word) (console-place address inside)

module _ (s : State) (address : ℕ) where
  console-leaves : (o : Option Stored) → IfSome o (StoresQuietly s.ports) → Leaves s (stored_outcome o address s).action
  console-leaves None quiet = tt
  console-leaves (Some stored) quiet =
      by-quiet (λ e. Leaves s (outcome e (at_next_instruction (record s { ports = stored.ports }))).action)
      (record { ram = refl; entries = refl }) (record { ram = refl; entries = refl }) stored.effect quiet.quiet

  console-stays : (o : Option Stored) → IfSome o (StoresQuietly s.ports) → LeavesPages (stored_outcome o address s).footprint.changes
  console-stays None quiet p = refl
  console-stays (Some stored) quiet p =
      by-quiet (λ e. (pages_after (outcome e (at_next_instruction (record s { ports = stored.ports }))).footprint.changes p).here ≡ p.here) refl refl stored.effect quiet.quiet

module _ (i : Instruction) (s : State) (console : is_within CONSOLE_BASE CONSOLE_SIZE (data_address i s) ≡ true) where
  store-leaves : (r : Reached) → reached (store_access i s) s ≡ r → Leaves s (store_by r (data_address i s) (store_width i.kind) (stored_bytes i s) (rs2 i s) s)
  store-leaves (faulted cause) is = tt
  store-leaves (of_ram page) is = absurd (not-of-ram s.ram (data_address i s) console (of_ram-is (store_access i s) s page is).in_ram)
  store-leaves of_port is =
      subst (λ o. Leaves s (stored_outcome o (data_address i s) s).action) (sym (console-store s.ports (data_address i s) (store_width i.kind) (rs2 i s) console))
      (console-leaves s (data_address i s) _ (stores-quietly (at_console (data_address i s - CONSOLE_BASE)) tt s.ports (store_width i.kind) (rs2 i s)))

  store-stays : (r : Reached) → LeavesPages (footprint_reached r (store_access i s) (rs2 i s) s).changes
  store-stays (faulted cause) p = refl
  store-stays (of_ram None) p = refl
  store-stays (of_ram (Some page)) p = refl
  store-stays of_port p =
      subst (λ o. (pages_after (stored_outcome o (data_address i s) s).footprint.changes p).here ≡ p.here) (sym (console-store s.ports (data_address i s) (store_width i.kind) (rs2 i s) console))
      (console-stays s (data_address i s) _ (stores-quietly (at_console (data_address i s - CONSOLE_BASE)) tt s.ports (store_width i.kind) (rs2 i s)) p)

-- ---- by its group

module _ (i : Instruction) (s : State) where
  group-leaves : (g : Group) (word : ℕ) → IsAside g i s → Leaves s (execute_group g i word s)
  unfolding csr_access store store_action trap_return
  group-leaves LoadUpper word h = absurd h
  group-leaves AddUpper word h = absurd h
  group-leaves Jump word h = absurd h
  group-leaves JumpRegister word h = absurd h
  group-leaves Branch word h = absurd h
  group-leaves Load word h = absurd h
  group-leaves Store word h = store-leaves i s h (reached (store_access i s) s) refl
  group-leaves ComputeImmediate word h = absurd h
  group-leaves Compute word h = absurd h
  group-leaves group.Nothing word h = absurd h
  group-leaves EnvironmentCall word h = tt
  group-leaves Breakpoint word h = tt
  group-leaves TrapReturn word h = returned-leaves i word s (mret s.csrs) refl
  group-leaves Csr word h = csr-leaves i word s h (old_value (reads (operation_of i.kind) i) i s)
  group-leaves LoadReserved word h = absurd h
  group-leaves StoreConditional word h = absurd h
  group-leaves Amo word h = absurd h

  group-stays : (g : Group) → IsAside g i s → LeavesPages (data_footprint (access_by g i s) (rs2 i s) s).changes
  group-stays LoadUpper h = absurd h
  group-stays AddUpper h = absurd h
  group-stays Jump h = absurd h
  group-stays JumpRegister h = absurd h
  group-stays Branch h = absurd h
  group-stays Load h = absurd h
  group-stays Store h = store-stays i s h (reached (store_access i s) s)
  group-stays ComputeImmediate h = absurd h
  group-stays Compute h = absurd h
  group-stays group.Nothing h = absurd h
  group-stays EnvironmentCall h = λ p. refl
  group-stays Breakpoint h = λ p. refl
  group-stays TrapReturn h = λ p. refl
  group-stays Csr h = λ p. refl
  group-stays LoadReserved h = absurd h
  group-stays StoreConditional h = absurd h
  group-stays Amo h = absurd h

-- ---- the coming step

module _ (h : KeyedState) (comes : ComesAside h) where
  abbrev s : State
  s = h.state

  says : decoded (fetched s) ≡ Some comes.instr
  says = ap decoded comes.comes.is.is ∙ comes.comes.says

  reaches : reached (fetch_access s) s ≡ of_ram (Some (page_of s.pc))
  unfolding allows
  reaches = reached-ram (fetch_access s) s refl comes.comes.is.allowed comes.comes.is.in_ram

  action-leaves-by : (taken : Bool) → Leaves s (action_by taken s)
  unfolding execute
  action-leaves-by true = tt
  action-leaves-by false =
      subst (λ r. Leaves s (fetch_action r s)) (sym reaches)
      (subst (λ o. Leaves s (decoded_action o (fetched s) s)) (sym says) (group-leaves comes.instr s (group_of comes.instr.kind) (fetched s) comes.aside))

  action-leaves : Leaves s (action s)
  unfolding action
  action-leaves = action-leaves-by (takes_interrupt s.csrs (is_timer_due s))

  change-stays-by : (taken : Bool) → LeavesPages (footprint_step taken s).changes
  change-stays-by true p = refl
  change-stays-by false p =
      subst (λ r. (pages_after (footprint_at r s).changes p).here ≡ p.here) (sym reaches)
      (subst (λ o. (pages_after (footprint_of o s).changes p).here ≡ p.here) (sym says) (group-stays comes.instr s (group_of comes.instr.kind) comes.aside p))

  change-stays : LeavesPages (footprint_from None s).changes
  change-stays = change-stays-by (takes_interrupt s.csrs (is_timer_due s))

applied-leaves : (a : Action) (m : Machine) → Leaves m.state a → AreLeft m.state (applied a m).state
applied-leaves (trap cause value) m leaves = record { ram = refl; entries = refl }
applied-leaves interrupt m leaves = record { ram = refl; entries = refl }
applied-leaves (retire written new) m leaves = record { ram = leaves.ram; entries = leaves.entries }
applied-leaves (exit value bytes new) m leaves = record { ram = leaves.ram; entries = leaves.entries }
applied-leaves (ask call new) m leaves = record { ram = refl; entries = refl }
applied-leaves (speak talk new) m leaves = record { ram = refl; entries = refl }

advance-leaves : (m : Machine) → m.ending ≡ None → Leaves m.state (action m.state) → AreLeft m.state (advance m).state
unfolding advance
advance-leaves m live leaves =
    subst (λ (e : Option Ending). AreLeft m.state (advance_from e m).state) (sym live) (applied-leaves (action m.state) m leaves)

change-here : (m : Machine) (p : Pages) → m.ending ≡ None → LeavesPages (footprint_from None m.state).changes → (pages_after (change m) p).here ≡ p.here
unfolding footprint
change-here m p live stays = ap (λ (e : Option Ending). (pages_after (footprint_from e m.state).changes p).here) live ∙ stays p

pub aside-keeps : (before after : KeyedMachine) (epoch : ℕ) (slots : List KeptInstruction) → before.machine.ending ≡ None → ComesAside (hart_in before) → after ≡ moved before
    → Keeps (hart_in before) epoch slots → Keeps (hart_in after) epoch slots
aside-keeps before after epoch slots live comes is keeps =
    let left = advance-leaves before.machine live (action-leaves (hart_in before) comes) in
    let here = ap (λ (v : KeyedMachine). v.pages.here) is ∙ change-here before.machine before.pages live (change-stays (hart_in before) comes) in
    let same : StaysSame (hart_in before) (hart_in after) = record {
      ram = ap (λ (v : KeyedMachine). v.machine.state.ram) is ∙ left.ram;
      here = here;
      entries = ap (λ (v : KeyedMachine). v.machine.state.csrs.pmp) is ∙ left.entries;
    } in
    kept-same (hart_in before) (hart_in after) epoch slots same keeps
