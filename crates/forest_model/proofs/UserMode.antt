-- What a step in user mode leaves: the registers of control and status, but for their counters.
use Rattle.std.proofs.Common.{◌≡◌, ℕ, ◌%◌, Bool, true, false, eqb, List, Option, Some, None, refl, sym, ap, subst}
use Rattle.guest_pmp.specs.declared.access.Mode.TheVariants.{User}
use Rattle.rv_decode.specs.Instruction.{Instruction}
use Rattle.rv_decode.specs.Table.{decoded}
use Rattle.rv_decode.specs.Kinds.{group_of}
use Rattle.rv_decode.specs.declared.kinds.Group.{Group}
use Rattle.rv_decode.specs.declared.kinds.Group.TheVariants.{LoadUpper, AddUpper, Jump, JumpRegister, Branch, Load, Store, ComputeImmediate}
use Rattle.rv_decode.specs.declared.kinds.Group.TheVariants.{Compute, Nothing, EnvironmentCall, Breakpoint, TrapReturn, Csr, LoadReserved, StoreConditional, Amo}
use Rattle.rv_exec.specs.Memory.{load_width, store_width}
use Rattle.rv_traps.specs.Counters.{with_counters_of}
use Rattle.rv_traps.specs.Trap.{mret, takes_interrupt}
use Rattle.rv_traps.specs.declared.registers.CsrRegisters.{CsrRegisters}
use Rattle.rv_traps.proofs.Modes.{csr_read-user, csr_write-user, mret-user}
use Rattle.fork_port.specs.declared.commands.Call.TheVariants.{Clone, Join, Kill}
use Rattle.fork_port.specs.declared.commands.Effect.{Effect}
use Rattle.fork_port.specs.declared.commands.Effect.TheVariants as effect
use Rattle.fork_port.specs.declared.ending.Ending.{Ending}
use Rattle.forest_model.specs.declared.CsrOperation.{CsrOperation}
use Rattle.forest_model.specs.declared.CsrOperation.TheVariants.{Write, SetBits, ClearBits}
use Rattle.port_map.specs.Bus.{Read, Stored, port_load, port_store}
use Rattle.forest_model.specs.State.{State, is_timer_due, at_next_instruction}
use Rattle.forest_model.specs.Action.{Action, trap, interrupt, retire, exit, ask, speak, immediate, rs1, rs2}
use Rattle.forest_model.specs.Access.{Reached, faulted, of_ram, of_port, reached, fetch_access}
use Rattle.forest_model.specs.Compute.{load_upper, add_upper, compute_immediate, compute}
use Rattle.forest_model.specs.Control.{aligned_jump, jump, jump_register, branch_by, branch, relative, linked}
use Rattle.forest_model.specs.Memory.{data_address, read_action, load_by, load_access, load, is_page_range, zeroed, is_byte_range, handing_over}
use Rattle.forest_model.specs.Memory.{outcome, stored_outcome, store_by, store_access, store_action, stored_bytes, store}
use Rattle.forest_model.specs.Atomic.{is_reserved, reserve_by, reserve_access, load_reserved, conditional_action, conditional_by, conditional_access, store_conditional, amo_by, amo_access, amo}
use Rattle.forest_model.specs.System.{csr_value, operand, operation_of, reads, writes, written_action, write_action, old_action, old_value, csr_access, returned_action, trap_return}
use Rattle.forest_model.specs.Execute.{action, action_by, execute_group, execute, decoded_action, fetched, fetch_action}
use Rattle.forest_model.specs.Machine.{Machine, plain, next, next_of, advance, advance_from, applied}
use Rattle.forest_model.specs.Talks.{talked_by, talked}
use Rattle.forest_model.specs.Calls.{forked, forked_by, after_join, joined_by, after_kill, killed_by}

-- bits are set or cleared by what was read, so what does not read writes
writes-unread : (operation : CsrOperation) (i : Instruction) → reads operation i ≡ false → writes operation i ≡ true
writes-unread Write i unread = refl
writes-unread SetBits i unread = absurd (cc)
writes-unread ClearBits i unread = absurd (cc)

module _ (s : State) where
  -- an action that is no trap leaves the registers, and a call or a talk RAM too
  abbrev Stays : Action → Type 0
  Stays (trap cause value) = Unit {0}
  Stays interrupt = Unit {0}
  Stays (retire written new) = new.csrs ≡ s.csrs
  Stays (exit value bytes new) = new.csrs ≡ s.csrs
  Stays (ask c new) = (new.csrs ≡ s.csrs) × (new.ram ≡ s.ram)
  Stays (speak t new) = (new.csrs ≡ s.csrs) × (new.ram ≡ s.ram)

  Stays-zeroed : (in_range : Bool) (first count : ℕ) (new : State) → new.csrs ≡ s.csrs → (zeroed in_range first count new).csrs ≡ s.csrs
  Stays-zeroed false first count new e = e
  Stays-zeroed true first count new e = e

  Stays-handing_over : (in_range : Bool) (value address count : ℕ) (new : State) → new.csrs ≡ s.csrs → Stays (handing_over in_range value address count new).action
  Stays-handing_over false value address count new e = e
  Stays-handing_over true value address count new e = e

  Stays-outcome : (e : Effect) (new : State) → new.csrs ≡ s.csrs → new.ram ≡ s.ram → Stays (outcome e new).action
  Stays-outcome effect.Done new csrs ram = csrs
  Stays-outcome effect.TimeWritten new csrs ram = csrs
  Stays-outcome (effect.Exit value) new csrs ram = csrs
  Stays-outcome (effect.ExitWith value address count) new csrs ram = Stays-handing_over (is_byte_range address count new.ram) value address count new csrs
  Stays-outcome (effect.Call c) new csrs ram = (csrs, ram)
  Stays-outcome (effect.Talk t) new csrs ram = (csrs, ram)
  Stays-outcome (effect.Zero first count) new csrs ram = Stays-zeroed (is_page_range first count new.ram) first count new csrs

  Stays-stored : (answer : Option Stored) (address : ℕ) → Stays (stored_outcome answer address s).action
  Stays-stored None address = tt
  Stays-stored (Some stored) address = Stays-outcome stored.effect (at_next_instruction (record s { ports = stored.ports })) refl refl

  Stays-store_by : (r : Reached) (address width : ℕ) (bytes : List ℕ) (word : ℕ) → Stays (store_by r address width bytes word s)
  Stays-store_by (faulted cause) address width bytes word = tt
  Stays-store_by (of_ram page) address width bytes word = refl
  Stays-store_by of_port address width bytes word = Stays-stored (port_store s.ports address width word) address

  Stays-read_action : (answer : Option Read) (i : Instruction) (address : ℕ) → Stays (read_action answer i address s)
  Stays-read_action None i address = tt
  Stays-read_action (Some read) i address = refl

  Stays-load_by : (r : Reached) (i : Instruction) (address : ℕ) → Stays (load_by r i address s)
  Stays-load_by (faulted cause) i address = tt
  Stays-load_by (of_ram page) i address = refl
  Stays-load_by of_port i address = Stays-read_action (port_load s.ports address (load_width i.kind)) i address

  Stays-aligned_jump : (aligned : Bool) (target : ℕ) (new : State) → new.csrs ≡ s.csrs → Stays (aligned_jump aligned target new)
  Stays-aligned_jump false target new e = tt
  Stays-aligned_jump true target new e = e

  Stays-branch_by : (taken : Bool) (i : Instruction) → Stays (branch_by taken i s)
  Stays-branch_by false i = refl
  Stays-branch_by true i = Stays-aligned_jump (eqb (relative i s % 4) 0) (relative i s) s refl

  Stays-reserve_by : (r : Reached) (i : Instruction) (address : ℕ) → Stays (reserve_by r i address s)
  Stays-reserve_by (faulted cause) i address = tt
  Stays-reserve_by (of_ram page) i address = refl
  Stays-reserve_by of_port i address = tt

  Stays-conditional_action : (reserved : Bool) (i : Instruction) (address : ℕ) → Stays (conditional_action reserved i address s)
  Stays-conditional_action false i address = refl
  Stays-conditional_action true i address = refl

  Stays-conditional_by : (r : Reached) (i : Instruction) (address : ℕ) → Stays (conditional_by r i address s)
  Stays-conditional_by (faulted cause) i address = tt
  Stays-conditional_by (of_ram page) i address = Stays-conditional_action (is_reserved s.reservation address) i address
  Stays-conditional_by of_port i address = tt

  Stays-amo_by : (r : Reached) (i : Instruction) (address : ℕ) → Stays (amo_by r i address s)
  Stays-amo_by (faulted cause) i address = tt
  Stays-amo_by (of_ram page) i address = refl
  Stays-amo_by of_port i address = tt

  module _ (user : s.csrs.mode ≡ User) where
    -- every access to a register is a trap
    Stays-written : (i : Instruction) (word old : ℕ) (does_write : Bool) → does_write ≡ true → Stays (write_action does_write old i word s)
    Stays-written i word old false does = absurd (cc)
    Stays-written i word old true does =
        subst (λ csrs. Stays (written_action csrs old i word s))
        (sym (csr_write-user s.csrs (immediate i) (csr_value (operation_of i.kind) old (operand i.kind i s)) user)) tt

    Stays-access : (i : Instruction) (word : ℕ) (does_read : Bool) → reads (operation_of i.kind) i ≡ does_read
        → Stays (old_action (old_value does_read i s) i word s)
    Stays-access i word true is = subst (λ old. Stays (old_action old i word s)) (sym (csr_read-user s.csrs (immediate i) (is_timer_due s) user)) tt
    Stays-access i word false is =
        Stays-written i word 0 (writes (operation_of i.kind) i) (writes-unread (operation_of i.kind) i is)

    Stays-returned : (word : ℕ) → Stays (returned_action (mret s.csrs) word s)
    Stays-returned word = subst (λ csrs. Stays (returned_action csrs word s)) (sym ((mret-user s.csrs).1 user)) tt

    Stays-execute_group : (group : Group) (i : Instruction) (word : ℕ) → Stays (execute_group group i word s)
    unfolding load_upper add_upper compute_immediate compute jump jump_register branch load store store_action load_reserved store_conditional amo csr_access trap_return
    Stays-execute_group LoadUpper i word = refl
    Stays-execute_group AddUpper i word = refl
    Stays-execute_group Jump i word = Stays-aligned_jump (eqb (relative i s % 4) 0) (relative i s) (linked i s) refl
    Stays-execute_group JumpRegister i word = Stays-aligned_jump _ _ (linked i s) refl
    Stays-execute_group Branch i word = Stays-branch_by _ i
    Stays-execute_group Load i word = Stays-load_by (reached (load_access i s) s) i (data_address i s)
    Stays-execute_group Store i word =
        Stays-store_by (reached (store_access i s) s) (data_address i s) (store_width i.kind) (stored_bytes i s) (rs2 i s)
    Stays-execute_group ComputeImmediate i word = refl
    Stays-execute_group Compute i word = refl
    Stays-execute_group Nothing i word = refl
    Stays-execute_group EnvironmentCall i word = tt
    Stays-execute_group Breakpoint i word = tt
    Stays-execute_group TrapReturn i word = Stays-returned word
    Stays-execute_group Csr i word = Stays-access i word (reads (operation_of i.kind) i) refl
    Stays-execute_group LoadReserved i word = Stays-reserve_by (reached (reserve_access i s) s) i (rs1 i s)
    Stays-execute_group StoreConditional i word = Stays-conditional_by (reached (conditional_access i s) s) i (rs1 i s)
    Stays-execute_group Amo i word = Stays-amo_by (reached (amo_access i s) s) i (rs1 i s)

    Stays-decoded : (decoded : Option Instruction) (word : ℕ) → Stays (decoded_action decoded word s)
    unfolding execute
    Stays-decoded None word = tt
    Stays-decoded (Some i) word = Stays-execute_group (group_of i.kind) i word

    Stays-fetch : (r : Reached) → Stays (fetch_action r s)
    Stays-fetch (faulted cause) = tt
    Stays-fetch (of_ram page) = Stays-decoded (decoded (fetched s)) (fetched s)
    Stays-fetch of_port = tt

    Stays-by : (taken : Bool) → Stays (action_by taken s)
    Stays-by true = tt
    Stays-by false = Stays-fetch (reached (fetch_access s) s)

    Stays-action : Stays (action s)
    unfolding action
    Stays-action = Stays-by (takes_interrupt s.csrs (is_timer_due s))

abbrev AreKept : Machine → Machine → Type 0
AreKept m new = with_counters_of m.state.csrs new.state.csrs ≡ m.state.csrs

kept-same : (m : Machine) (c : CsrRegisters) → c ≡ m.state.csrs → with_counters_of m.state.csrs c ≡ m.state.csrs
kept-same m c same = ap (λ d. with_counters_of m.state.csrs d) same

applied-keeps : (a : Action) (m : Machine) → Stays m.state a → next_of a ≡ plain → AreKept m (applied a m)
applied-keeps (trap cause value) m stays is = absurd (cc)
applied-keeps interrupt m stays is = absurd (cc)
applied-keeps (retire written new) m stays is = kept-same m new.csrs stays
applied-keeps (exit value bytes new) m stays is = kept-same m new.csrs stays
applied-keeps (ask c new) m stays is = refl
applied-keeps (speak t new) m stays is = refl

advance-keeps : (ending : Option Ending) (m : Machine) → m.state.csrs.mode ≡ User → next m ≡ plain → AreKept m (advance_from ending m)
advance-keeps None m user is = applied-keeps (action m.state) m (Stays-action m.state user) is
advance-keeps (Some ending) m user is = refl

pub step-keeps : (m : Machine) → m.state.csrs.mode ≡ User → next m ≡ plain → AreKept m (advance m)
unfolding advance
step-keeps m user is = advance-keeps m.ending m user is

-- a call leaves the registers but for their counters, and RAM
pub record LeavesBoth (m : Machine) (new : Machine) : Type 0 where
  pub registers : AreKept m new
  pub ram : new.state.ram ≡ m.state.ram

forked-keeps : (a : Action) (m : Machine) → Stays m.state a → LeavesBoth m (forked_by a m)
forked-keeps (ask (Clone t) new) m stays = record { registers = kept-same m new.csrs stays.0; ram = stays.1 }
forked-keeps _ m stays = record { registers = refl; ram = refl }

joined-keeps : (a : Action) (m : Machine) (endings : List Ending) → Stays m.state a → LeavesBoth m (joined_by a m endings)
joined-keeps (ask (Join t) new) m endings stays = record { registers = kept-same m new.csrs stays.0; ram = stays.1 }
joined-keeps _ m endings stays = record { registers = refl; ram = refl }

killed-keeps : (a : Action) (m : Machine) → Stays m.state a → LeavesBoth m (killed_by a m)
killed-keeps (ask (Kill t) new) m stays = record { registers = kept-same m new.csrs stays.0; ram = stays.1 }
killed-keeps _ m stays = record { registers = refl; ram = refl }

talked-keeps : (a : Action) (m : Machine) (word : Option ℕ) (answer : ℕ) → Stays m.state a → LeavesBoth m (talked_by a m word answer)
talked-keeps (speak t new) m word answer stays = record { registers = kept-same m new.csrs stays.0; ram = stays.1 }
talked-keeps _ m word answer stays = record { registers = refl; ram = refl }

module _ (m : Machine) (user : m.state.csrs.mode ≡ User) where
  pub clone-keeps : LeavesBoth m (forked m)
  unfolding forked
  clone-keeps = forked-keeps (action m.state) m (Stays-action m.state user)

  pub join-keeps : (endings : List Ending) → LeavesBoth m (after_join m endings)
  unfolding after_join
  join-keeps endings = joined-keeps (action m.state) m endings (Stays-action m.state user)

  pub kill-keeps : LeavesBoth m (after_kill m)
  unfolding after_kill
  kill-keeps = killed-keeps (action m.state) m (Stays-action m.state user)

  pub talk-keeps : (word : Option ℕ) (answer : ℕ) → LeavesBoth m (talked m word answer)
  unfolding talked
  talk-keeps word answer = talked-keeps (action m.state) m word answer (Stays-action m.state user)
