-- Which call or talk the coming step is: none but a store of a word to the command of the fork port or of the sibling port is one.
use Rattle.std.proofs.Common.{◌≡◌, ℕ, ◌+◌, ◌-◌, ◌%◌, ◌⊎◌, inl, inr, List, [], Bool, true, false, cond, eqb, Option, Some, None, refl, sym, ap, ◌∙◌, subst, arith}
use Rattle.std.specs.Option.{IfSome, option_map}
use Rattle.std.proofs.lemmas.Bool.Decides.{nat_tests}
use Rattle.rv_decode.specs.Instruction.{Instruction}
use Rattle.rv_decode.specs.declared.kinds.Kind.{Kind}
use Rattle.rv_decode.specs.declared.kinds.Kind.TheVariants.{Sb, Sh, Sw}
use Rattle.rv_decode.specs.declared.kinds.Group.{Group}
use Rattle.rv_decode.specs.declared.kinds.Group.TheVariants.{LoadUpper, AddUpper, Jump, JumpRegister, Branch, Load, Store, ComputeImmediate}
use Rattle.rv_decode.specs.declared.kinds.Group.TheVariants.{Compute, Nothing, EnvironmentCall, Breakpoint, TrapReturn, Csr, LoadReserved, StoreConditional, Amo}
use Rattle.rv_decode.specs.Kinds.{group_of}
use Rattle.rv_exec.specs.Memory.{load_width, store_width}
use Rattle.rv_decode.specs.Table.{decoded}
use Rattle.rv_traps.specs.Trap.{mret, takes_interrupt}
use Rattle.rv_traps.specs.declared.registers.CsrRegisters.{CsrRegisters}
use Rattle.fork_port.specs.declared.commands.Asked.{Asked}
use Rattle.fork_port.specs.declared.commands.Asked.TheVariants as asked
use Rattle.fork_port.specs.declared.commands.Effect.{Effect}
use Rattle.fork_port.specs.declared.commands.Effect.TheVariants as effect
use Rattle.fork_port.specs.declared.registers.TheConstants.{FORK_FIRST_ARGUMENT, FORK_SECOND_ARGUMENT, FORK_COMMAND, FORK_JOIN_SELECT}
use Rattle.fork_port.specs.Registers.{ForkRegisters, RegisterStored, register_store}
use Rattle.fork_port.specs.Commands.{answered, effect_of, fork_command}
use Rattle.fork_port.specs.Fork.{ForkStored, carried_out, fork_store}
use Rattle.fork_port.proofs.TicketLemmas.{either}
use Rattle.sibling_port.specs.declared.talk.Asked as sibling
use Rattle.sibling_port.specs.declared.talk.Asked.TheVariants as talk_asked
use Rattle.sibling_port.specs.declared.talk.Talk.{Talk}
use Rattle.sibling_port.specs.declared.registers.TheConstants.{SIBLING_PEER, SIBLING_DATA, SIBLING_COMMAND}
use Rattle.sibling_port.specs.Registers.{SiblingRegisters}
use Rattle.sibling_port.specs.Commands.{SiblingStored, sibling_command}
use Rattle.sibling_port.specs.Commands as sibling_port
use Rattle.sibling_port.specs.Sibling.{sibling_store}
use Rattle.port_map.specs.declared.TheConstants.{FORK_BASE, SIBLING_BASE}
use Rattle.port_map.specs.declared.Place.{Place}
use Rattle.port_map.specs.declared.Place.TheVariants.{Fork as at_fork, Sibling as at_sibling}
use Rattle.port_map.specs.Ranges.{place_in}
use Rattle.port_map.specs.Bus.{IsAt, PortRegisters, Read, Stored, fork_stored, place_of, port_load, port_store, sibling_stored, store_at, talk_effect}
use Rattle.port_map.proofs.Ranges.{at-place}
use Rattle.port_map.proofs.Quiet.{StoresQuietly, by-quiet, stores-quietly}
use Rattle.forest_model.specs.State.{State, is_timer_due, at_next_instruction}
use Rattle.forest_model.specs.Action.{Action, rs1, rs2}
use Rattle.forest_model.specs.Compute.{load_upper, add_upper, compute_immediate, compute}
use Rattle.forest_model.specs.Control.{aligned_jump, jump, jump_register, branch_by, branch, relative, linked}
use Rattle.forest_model.specs.declared.access.Access.{Access}
use Rattle.forest_model.specs.Access.{Reached, faulted, of_ram, of_port, reached, fetch_access}
use Rattle.forest_model.specs.Memory.{data_address, read_action, load_by, load_access, load, Outcome, is_byte_range}
use Rattle.forest_model.specs.Memory.{handing_over, outcome, stored_outcome, effect_outcome, needing, needs_at, port_outcome}
use Rattle.forest_model.specs.Memory.{store_by, store_access, store_action, stored_bytes, store, to_store}
use Rattle.forest_model.specs.Atomic.{is_reserved, reserve_by, reserve_access, load_reserved, conditional_action, conditional_by, conditional_access, store_conditional, amo_by, amo_access, amo}
use Rattle.forest_model.specs.System.{operation_of, reads, writes, written_action, write_action, old_action, old_value, csr_access, returned_action, trap_return}
use Rattle.forest_model.specs.Execute.{action, action_by, decoded_action, execute_group, execute, fetch_action, fetched}
use Rattle.forest_model.specs.Machine.{next_of}
use Rattle.forest_model.specs.Footprint.{Footprint, no_change, no_footprint}
use Rattle.forest_model.specs.Touch.{access_by, data_footprint, footprint_at, footprint_from, footprint_of, footprint_reached, footprint_step}
use Rattle.vm_hart.specs.Acts.{bytes_needs}
use Rattle.vm_hart.specs.Calls.{call_asked, talk_asked_for, AsksFor}
use Rattle.vm_hart.specs.Requests.{requested}
use Rattle.vm_hart.specs.declared.hart.Request.{Request}

abbrev AsksNothing : Action → Type 0
AsksNothing a = requested (next_of a) ≡ None

-- ---- stores

-- an effect that needs no page
abbrev IsNeedless : Effect → Type 0
IsNeedless (effect.ExitWith value address count) = ⊥
IsNeedless effect.Done = Unit {0}
IsNeedless effect.TimeWritten = Unit {0}
IsNeedless (effect.Call c) = Unit {0}
IsNeedless (effect.Talk t) = Unit {0}
IsNeedless (effect.Exit value) = Unit {0}
IsNeedless (effect.Zero first count) = Unit {0}

needs-none : (e : Effect) (s : State) → IsNeedless e → (outcome e s).footprint.needs ≡ []
needs-none effect.Done s h = refl
needs-none effect.TimeWritten s h = refl
needs-none (effect.Exit value) s h = refl
needs-none (effect.Call c) s h = refl
needs-none (effect.Talk t) s h = refl
needs-none (effect.ExitWith value address count) s h = absurd h
needs-none (effect.Zero first count) s h = refl

needs-stored : (o : Option Stored) (address : ℕ) (s : State) → IfSome o (λ stored. IsNeedless stored.effect) → (stored_outcome o address s).footprint.needs ≡ []
needs-stored None address s h = refl
needs-stored (Some stored) address s h = needs-none stored.effect (at_next_instruction (record s { ports = stored.ports })) h

-- an effect that is no call and no talk
abbrev IsOwn : Effect → Type 0
IsOwn (effect.Call c) = ⊥
IsOwn (effect.Talk t) = ⊥
IsOwn (effect.ExitWith value address count) = Unit {0}
IsOwn effect.Done = Unit {0}
IsOwn effect.TimeWritten = Unit {0}
IsOwn (effect.Exit value) = Unit {0}
IsOwn (effect.Zero first count) = Unit {0}

handed-own : (in_range : Bool) (value address count : ℕ) (s : State) → AsksNothing (handing_over in_range value address count s).action
handed-own true value address count s = refl
handed-own false value address count s = refl

own-outcome : (e : Effect) (s : State) → IsOwn e → AsksNothing (outcome e s).action
own-outcome effect.Done s h = refl
own-outcome effect.TimeWritten s h = refl
own-outcome (effect.Exit value) s h = refl
own-outcome (effect.Call c) s h = absurd h
own-outcome (effect.Talk t) s h = absurd h
own-outcome (effect.ExitWith value address count) s h = handed-own (is_byte_range address count s.ram) value address count s
own-outcome (effect.Zero first count) s h = refl

own-stored : (o : Option Stored) (address : ℕ) (s : State) → IfSome o (λ stored. IsOwn stored.effect) → AsksNothing (stored_outcome o address s).action
own-stored None address s h = refl
own-stored (Some stored) address s h = own-outcome stored.effect (at_next_instruction (record s { ports = stored.ports })) h

-- the store is no word for the command of the fork port
abbrev IsElsewhere : ℕ → Place → Type 0
IsElsewhere width (at_fork offset) = (eqb width 4 ≡ false) ⊎ (eqb offset FORK_COMMAND ≡ false)
IsElsewhere width _ = Unit {0}

-- nor is it one for that of the sibling port
abbrev IsSilent : ℕ → Place → Type 0
IsSilent width (at_sibling offset) = (eqb width 4 ≡ false) ⊎ (eqb offset SIBLING_COMMAND ≡ false)
IsSilent width _ = Unit {0}

-- what holds of the effects of all stores but commands
module _ (P : Effect → Type 0) (done : P effect.Done) (timed : P effect.TimeWritten) where
  abbrev Stores : Option Stored → Type 0
  Stores o = IfSome o (λ stored. P stored.effect)

  stores-quiet : (o : Option Stored) (ports : PortRegisters) → IfSome o (StoresQuietly ports) → Stores o
  stores-quiet None ports h = tt
  stores-quiet (Some stored) ports h = by-quiet P done timed stored.effect h.quiet

  stores-fork : (o : Option ForkStored) (ports : PortRegisters) → IfSome o (λ s. P s.effect) → Stores (option_map (fork_stored ports) o)
  stores-fork None ports h = tt
  stores-fork (Some s) ports h = h

  stores-sibling : (o : Option SiblingStored) (ports : PortRegisters) → IfSome o (λ s. P (talk_effect s.talk)) → Stores (option_map (sibling_stored ports) o)
  stores-sibling None ports h = tt
  stores-sibling (Some s) ports h = h

  fork-register : (f : ForkRegisters) (offset word : ℕ) → eqb offset FORK_COMMAND ≡ false
      → IfSome (option_map carried_out (register_store f offset word)) (λ s. P s.effect)
  fork-register f offset word e =
      let Q : Option RegisterStored → Type 0 = λ o. IfSome (option_map carried_out o) (λ s. P s.effect) in
      either Q (eqb offset FORK_FIRST_ARGUMENT) _ _ done
      (either Q (eqb offset FORK_SECOND_ARGUMENT) _ _ done
      (rw e (either Q (eqb offset FORK_JOIN_SELECT) _ None done tt)))

  fork-elsewhere : (f : ForkRegisters) (offset width word : ℕ) → (eqb width 4 ≡ false) ⊎ (eqb offset FORK_COMMAND ≡ false)
      → IfSome (fork_store f offset width word) (λ s. P s.effect)
  unfolding fork_store
  fork-elsewhere f offset width word (inl narrow) = rw narrow tt
  fork-elsewhere f offset width word (inr e) =
      either (λ (o : Option ForkStored). IfSome o (λ s. P s.effect)) (eqb width 4) _ None (fork-register f offset word e) tt

  sibling-silent : (number : ℕ) (r : SiblingRegisters) (offset width word : ℕ) → (eqb width 4 ≡ false) ⊎ (eqb offset SIBLING_COMMAND ≡ false)
      → IfSome (sibling_store number r offset width word) (λ s. P (talk_effect s.talk))
  unfolding sibling_store
  sibling-silent number r offset width word (inl narrow) = rw narrow tt
  sibling-silent number r offset width word (inr e) =
      let Q : Option SiblingStored → Type 0 = λ o. IfSome o (λ s. P (talk_effect s.talk)) in
      either Q (eqb width 4) _ None
      (either Q (eqb offset SIBLING_PEER) _ _ done (either Q (eqb offset SIBLING_DATA) _ _ done (rw e tt))) tt

  stores-at : (place : Place) (ports : PortRegisters) (width word : ℕ) → IsElsewhere width place
      → ((offset : ℕ) → place ≡ at_sibling offset → IfSome (sibling_store ports.fork.clone_id ports.sibling offset width word) (λ s. P (talk_effect s.talk)))
      → Stores (store_at place ports width word)
  stores-at (at_fork offset) ports width word h talks = stores-fork (fork_store ports.fork offset width word) ports (fork-elsewhere ports.fork offset width word h)
  stores-at (at_sibling offset) ports width word h talks =
      stores-sibling (sibling_store ports.fork.clone_id ports.sibling offset width word) ports (talks offset refl)
  stores-at place ports width word h talks = stores-quiet (store_at place ports width word) ports (stores-quietly place tt ports width word)

-- a talk needs no page, so no store elsewhere does
needless-talk : (said : Option Talk) → IsNeedless (talk_effect said)
needless-talk None = tt
needless-talk (Some t) = tt

needless-sibling : (o : Option SiblingStored) → IfSome o (λ s. IsNeedless (talk_effect s.talk))
needless-sibling None = tt
needless-sibling (Some s) = needless-talk s.talk

needless-at : (place : Place) (ports : PortRegisters) (width word : ℕ) → IsElsewhere width place → IfSome (store_at place ports width word) (λ stored. IsNeedless stored.effect)
needless-at place ports width word h =
    stores-at IsNeedless tt tt place ports width word h (λ offset at. needless-sibling (sibling_store ports.fork.clone_id ports.sibling offset width word))

own-at : (place : Place) (ports : PortRegisters) (width word : ℕ) → IsElsewhere width place → IsSilent width place → IfSome (store_at place ports width word) (λ stored. IsOwn stored.effect)
own-at place ports width word h silent =
    stores-at IsOwn tt tt place ports width word h
    (λ offset at. sibling-silent IsOwn tt tt ports.fork.clone_id ports.sibling offset width word (subst (IsSilent width) at silent))

elsewhere-narrow : (width : ℕ) (place : Place) → eqb width 4 ≡ false → IsElsewhere width place
elsewhere-narrow width (at_fork offset) e = inl e
elsewhere-narrow width _ e = tt

silent-narrow : (width : ℕ) (place : Place) → eqb width 4 ≡ false → IsSilent width place
silent-narrow width (at_sibling offset) e = inl e
silent-narrow width _ e = tt

offset-other : (base command address offset : ℕ) → eqb address (base + command) ≡ false → address ≡ base + offset → eqb offset command ≡ false
offset-other base command address offset e at = grind (arith, nat_tests)

elsewhere-place : (width address : ℕ) (place : Place) → IsAt address place → eqb address (FORK_BASE + FORK_COMMAND) ≡ false → IsElsewhere width place
elsewhere-place width address (at_fork offset) at e = inr (offset-other FORK_BASE FORK_COMMAND address offset e at)
elsewhere-place width address _ at e = tt

silent-place : (width address : ℕ) (place : Place) → IsAt address place → eqb address (SIBLING_BASE + SIBLING_COMMAND) ≡ false → IsSilent width place
silent-place width address (at_sibling offset) at e = inr (offset-other SIBLING_BASE SIBLING_COMMAND address offset e at)
silent-place width address _ at e = tt

elsewhere-address : (width address : ℕ) → eqb address (FORK_BASE + FORK_COMMAND) ≡ false → IsElsewhere width (place_of address)
elsewhere-address width address e = elsewhere-place width address (place_of address) (at-place address) e

silent-address : (width address : ℕ) → eqb address (SIBLING_BASE + SIBLING_COMMAND) ≡ false → IsSilent width (place_of address)
silent-address width address e = silent-place width address (place_of address) (at-place address) e

own-store_by : (r : Reached) (address width : ℕ) (bytes : List ℕ) (word : ℕ) (s : State) → IsElsewhere width (place_of address) → IsSilent width (place_of address)
    → AsksNothing (store_by r address width bytes word s)
unfolding port_store
own-store_by (faulted cause) address width bytes word s h silent = refl
own-store_by (of_ram page) address width bytes word s h silent = refl
own-store_by of_port address width bytes word s h silent =
    own-stored (port_store s.ports address width word) address s (own-at (place_of address) s.ports width word h silent)

own-store : (i : Instruction) (s : State) → IsElsewhere (store_width i.kind) (place_of (data_address i s)) → IsSilent (store_width i.kind) (place_of (data_address i s))
    → AsksNothing (store i s)
unfolding store store_action
own-store i s h silent =
    own-store_by (reached (store_access i s) s) (data_address i s) (store_width i.kind) (stored_bytes i s) (rs2 i s) s h silent

narrow : (kind : Kind) → group_of kind ≡ Store → (kind ≡ Sw → ⊥) → eqb (store_width kind) 4 ≡ false
unfolding group_of
narrow Sb h other = refl
narrow Sh h other = refl
narrow Sw h other = absurd (other refl)
narrow _ h other = absurd (cc)

-- ---- all other instructions

none-read_action : (answer : Option Read) (i : Instruction) (address : ℕ) (s : State) → AsksNothing (read_action answer i address s)
none-read_action None i address s = refl
none-read_action (Some read) i address s = refl

none-load_by : (r : Reached) (i : Instruction) (address : ℕ) (s : State) → AsksNothing (load_by r i address s)
none-load_by (faulted cause) i address s = refl
none-load_by (of_ram page) i address s = refl
none-load_by of_port i address s = none-read_action (port_load s.ports address (load_width i.kind)) i address s

none-aligned_jump : (aligned : Bool) (target : ℕ) (new : State) → AsksNothing (aligned_jump aligned target new)
none-aligned_jump false target new = refl
none-aligned_jump true target new = refl

none-branch_by : (taken : Bool) (i : Instruction) (s : State) → AsksNothing (branch_by taken i s)
none-branch_by false i s = refl
none-branch_by true i s = none-aligned_jump (eqb (relative i s % 4) 0) (relative i s) s

none-reserve_by : (r : Reached) (i : Instruction) (address : ℕ) (s : State) → AsksNothing (reserve_by r i address s)
none-reserve_by (faulted cause) i address s = refl
none-reserve_by (of_ram page) i address s = refl
none-reserve_by of_port i address s = refl

none-conditional_action : (reserved : Bool) (i : Instruction) (address : ℕ) (s : State) → AsksNothing (conditional_action reserved i address s)
none-conditional_action false i address s = refl
none-conditional_action true i address s = refl

none-conditional_by : (r : Reached) (i : Instruction) (address : ℕ) (s : State) → AsksNothing (conditional_by r i address s)
none-conditional_by (faulted cause) i address s = refl
none-conditional_by (of_ram page) i address s = none-conditional_action (is_reserved s.reservation address) i address s
none-conditional_by of_port i address s = refl

none-amo_by : (r : Reached) (i : Instruction) (address : ℕ) (s : State) → AsksNothing (amo_by r i address s)
none-amo_by (faulted cause) i address s = refl
none-amo_by (of_ram page) i address s = refl
none-amo_by of_port i address s = refl

none-written_action : (csrs : Option CsrRegisters) (old : ℕ) (i : Instruction) (word : ℕ) (s : State) → AsksNothing (written_action csrs old i word s)
none-written_action None old i word s = refl
none-written_action (Some csrs) old i word s = refl

none-write_action : (does_write : Bool) (old : ℕ) (i : Instruction) (word : ℕ) (s : State) → AsksNothing (write_action does_write old i word s)
none-write_action false old i word s = refl
none-write_action true old i word s = none-written_action _ old i word s

none-old_action : (old : Option ℕ) (i : Instruction) (word : ℕ) (s : State) → AsksNothing (old_action old i word s)
none-old_action None i word s = refl
none-old_action (Some old) i word s = none-write_action (writes (operation_of i.kind) i) old i word s

none-returned : (csrs : Option CsrRegisters) (word : ℕ) (s : State) → AsksNothing (returned_action csrs word s)
none-returned None word s = refl
none-returned (Some csrs) word s = refl

none-execute_group : (group : Group) (i : Instruction) (word : ℕ) (s : State) → group_of i.kind ≡ group → (i.kind ≡ Sw → ⊥)
    → AsksNothing (execute_group group i word s)
unfolding load_upper add_upper compute_immediate compute jump jump_register branch load load_reserved store_conditional amo csr_access trap_return
none-execute_group LoadUpper i word s e other = refl
none-execute_group AddUpper i word s e other = refl
none-execute_group Jump i word s e other = none-aligned_jump (eqb (relative i s % 4) 0) (relative i s) (linked i s)
none-execute_group JumpRegister i word s e other = none-aligned_jump _ _ (linked i s)
none-execute_group Branch i word s e other = none-branch_by _ i s
none-execute_group Load i word s e other = none-load_by (reached (load_access i s) s) i (data_address i s) s
none-execute_group Store i word s e other =
    let thin = narrow i.kind e other in
    own-store i s (elsewhere-narrow (store_width i.kind) (place_of (data_address i s)) thin) (silent-narrow (store_width i.kind) (place_of (data_address i s)) thin)
none-execute_group ComputeImmediate i word s e other = refl
none-execute_group Compute i word s e other = refl
none-execute_group Nothing i word s e other = refl
none-execute_group EnvironmentCall i word s e other = refl
none-execute_group Breakpoint i word s e other = refl
none-execute_group TrapReturn i word s e other = none-returned (mret s.csrs) word s
none-execute_group Csr i word s e other = none-old_action (old_value (reads (operation_of i.kind) i) i s) i word s
none-execute_group LoadReserved i word s e other = none-reserve_by (reached (reserve_access i s) s) i (rs1 i s) s
none-execute_group StoreConditional i word s e other = none-conditional_by (reached (conditional_access i s) s) i (rs1 i s) s
none-execute_group Amo i word s e other = none-amo_by (reached (amo_access i s) s) i (rs1 i s) s

-- ---- what the coming instruction is

-- an instruction that is no store of a word
pub no-word : (i : Instruction) (word : ℕ) (s : State) → (i.kind ≡ Sw → ⊥) → requested (next_of (execute i word s)) ≡ None
unfolding execute
no-word i word s other = none-execute_group (group_of i.kind) i word s refl other

word-stored : (i : Instruction) (word : ℕ) (s : State) → i.kind ≡ Sw → execute i word s ≡ store i s
unfolding execute group_of
word-stored i word s is = ap (λ kind. execute_group (group_of kind) i word s) is

pub differ : (a b : ℕ) → (a ≡ b → ⊥) → eqb a b ≡ false
differ a b other = grind (arith, nat_tests)

-- a store of a word to another address
pub no-command : (i : Instruction) (word : ℕ) (s : State) → i.kind ≡ Sw → (data_address i s ≡ FORK_BASE + FORK_COMMAND → ⊥)
    → (data_address i s ≡ SIBLING_BASE + SIBLING_COMMAND → ⊥) → requested (next_of (execute i word s)) ≡ None
no-command i word s is other silent =
    ap (λ a. requested (next_of a)) (word-stored i word s is)
    ∙ own-store i s (elsewhere-address (store_width i.kind) (data_address i s) (differ (data_address i s) (FORK_BASE + FORK_COMMAND) other))
    (silent-address (store_width i.kind) (data_address i s) (differ (data_address i s) (SIBLING_BASE + SIBLING_COMMAND) silent))

-- what a command asks for, of which a call waits
commanded : (a : Asked) (s : State)
    → AsksFor (outcome (effect_of a) (at_next_instruction (record s { ports = record s.ports { fork = answered a s.ports.fork } }))).action s (call_asked a)
commanded (asked.Refused word) s = refl
commanded asked.NewTicket s = refl
commanded (asked.Discard number) s = refl
commanded (asked.Call c) s = refl
commanded (asked.Exit value) s = refl
commanded (asked.ExitWith value address count) s =
    let next : State = at_next_instruction s in
    handed-own (is_byte_range address count next.ram) value address count next
commanded (asked.Zero first count) s = refl

store-commands : (bytes : List ℕ) (word : ℕ) (s : State) → store_by of_port (FORK_BASE + FORK_COMMAND) 4 bytes word s
    ≡ (outcome (effect_of (fork_command s.ports.fork word)) (at_next_instruction (record s { ports = record s.ports { fork = answered (fork_command s.ports.fork word) s.ports.fork } }))).action
unfolding port_store place_in fork_store
store-commands bytes word s = refl

-- what a command of the sibling port asks for, of which a talk waits
said : (a : sibling.Asked) (s : State)
    → AsksFor (outcome (talk_effect (sibling_port.commanded a s.ports.sibling).talk)
    (at_next_instruction (record s { ports = record s.ports { sibling = (sibling_port.commanded a s.ports.sibling).port } }))).action s (talk_asked_for a)
said (talk_asked.Refused word) s = refl
said (talk_asked.Talk t) s = refl

store-says : (bytes : List ℕ) (word : ℕ) (s : State) → store_by of_port (SIBLING_BASE + SIBLING_COMMAND) 4 bytes word s
    ≡ (outcome (talk_effect (sibling_port.commanded (sibling_command s.ports.fork.clone_id s.ports.sibling word) s.ports.sibling).talk)
    (at_next_instruction (record s { ports = record s.ports { sibling = (sibling_port.commanded (sibling_command s.ports.fork.clone_id s.ports.sibling word) s.ports.sibling).port } }))).action
unfolding port_store place_in sibling_store
store-says bytes word s = refl

-- a store of a word, by what its access comes to
stored-by : (i : Instruction) (word : ℕ) (s : State) (a : Access) (r : Reached) → i.kind ≡ Sw → a ≡ to_store (data_address i s) 4 → reached a s ≡ r
    → execute i word s ≡ store_by r (data_address i s) 4 (stored_bytes i s) (rs2 i s) s
unfolding store store_action
stored-by i word s a r is at reaches =
    word-stored i word s is
    ∙ ap (λ width. store_action (data_address i s) width (stored_bytes i s) (rs2 i s) s) (ap store_width is)
    ∙ ap (λ x. store_by x (data_address i s) 4 (stored_bytes i s) (rs2 i s) s) (ap (λ x. reached x s) (sym at) ∙ reaches)

none-store_by : (r : Reached) (address width : ℕ) (bytes : List ℕ) (word : ℕ) (s : State) → (r ≡ of_port → ⊥) → AsksNothing (store_by r address width bytes word s)
none-store_by (faulted cause) address width bytes word s other = refl
none-store_by (of_ram page) address width bytes word s other = refl
none-store_by of_port address width bytes word s other = absurd (other refl)

-- a store of a word that reaches no port
pub no-port-stored : (i : Instruction) (word : ℕ) (s : State) (a : Access) → i.kind ≡ Sw → a ≡ to_store (data_address i s) 4 → (reached a s ≡ of_port → ⊥)
    → requested (next_of (execute i word s)) ≡ None
no-port-stored i word s a is at other =
    ap (λ x. requested (next_of x)) (stored-by i word s a (reached a s) is at refl)
    ∙ none-store_by (reached a s) (data_address i s) 4 (stored_bytes i s) (rs2 i s) s other

-- a store of a word that reaches the command
pub command : (i : Instruction) (word : ℕ) (s : State) (a : Access) → i.kind ≡ Sw → a ≡ to_store (data_address i s) 4 → reached a s ≡ of_port
    → data_address i s ≡ FORK_BASE + FORK_COMMAND → AsksFor (execute i word s) s (call_asked (fork_command s.ports.fork (rs2 i s)))
command i word s a is at reaches here =
    let same = stored-by i word s a of_port is at reaches
    ∙ ap (λ address. store_by of_port address 4 (stored_bytes i s) (rs2 i s) s) here
    ∙ store-commands (stored_bytes i s) (rs2 i s) s in
    subst (λ a. AsksFor a s (call_asked (fork_command s.ports.fork (rs2 i s)))) (sym same) (commanded (fork_command s.ports.fork (rs2 i s)) s)

-- the same of the command of the sibling port
pub talk-command : (i : Instruction) (word : ℕ) (s : State) (a : Access) → i.kind ≡ Sw → a ≡ to_store (data_address i s) 4 → reached a s ≡ of_port
    → data_address i s ≡ SIBLING_BASE + SIBLING_COMMAND → AsksFor (execute i word s) s (talk_asked_for (sibling_command s.ports.fork.clone_id s.ports.sibling (rs2 i s)))
talk-command i word s a is at reaches here =
    let same = stored-by i word s a of_port is at reaches
    ∙ ap (λ address. store_by of_port address 4 (stored_bytes i s) (rs2 i s) s) here
    ∙ store-says (stored_bytes i s) (rs2 i s) s in
    subst (λ b. AsksFor b s (talk_asked_for (sibling_command s.ports.fork.clone_id s.ports.sibling (rs2 i s)))) (sym same)
    (said (sibling_command s.ports.fork.clone_id s.ports.sibling (rs2 i s)) s)

-- ---- the pages that a store to a port needs

-- a store of a word for the command
pub command-needs : (word : ℕ) (s : State) → effect_outcome (FORK_BASE + FORK_COMMAND) 4 word s
    ≡ outcome (effect_of (fork_command s.ports.fork word)) (at_next_instruction (record s { ports = record s.ports { fork = answered (fork_command s.ports.fork word) s.ports.fork } }))
unfolding port_store place_in fork_store
command-needs word s = refl

-- no other store to a port needs a page for what it does to the machine
pub elsewhere-needs : (address width word : ℕ) (s : State) → (eqb width 4 ≡ false) ⊎ (eqb address (FORK_BASE + FORK_COMMAND) ≡ false)
    → (effect_outcome address width word s).footprint.needs ≡ []
unfolding port_store
elsewhere-needs address width word s (inl e) =
    needs-stored (port_store s.ports address width word) address s
    (needless-at (place_of address) s.ports width word (elsewhere-narrow width (place_of address) e))
elsewhere-needs address width word s (inr e) =
    needs-stored (port_store s.ports address width word) address s
    (needless-at (place_of address) s.ports width word (elsewhere-address width address e))

-- and a command needs none but as EXIT with bytes
asks-none : (a : Asked) (s : State) → ((value address count : ℕ) → a ≡ asked.ExitWith value address count → ⊥) → (outcome (effect_of a) s).footprint.needs ≡ []
asks-none (asked.Refused word) s other = refl
asks-none asked.NewTicket s other = refl
asks-none (asked.Discard number) s other = refl
asks-none (asked.Call c) s other = refl
asks-none (asked.Exit value) s other = refl
asks-none (asked.ExitWith value address count) s other = absurd (other value address count refl)
asks-none (asked.Zero first count) s other = refl

pub command-needs-none : (word : ℕ) (s : State) → ((value address count : ℕ) → fork_command s.ports.fork word ≡ asked.ExitWith value address count → ⊥)
    → (effect_outcome (FORK_BASE + FORK_COMMAND) 4 word s).footprint.needs ≡ []
command-needs-none word s other =
    ap (λ (o : Outcome). o.footprint.needs) (command-needs word s)
    ∙ asks-none (fork_command s.ports.fork word) (at_next_instruction (record s { ports = record s.ports { fork = answered (fork_command s.ports.fork word) s.ports.fork } })) other

pub handed-needs : (in_range : Bool) (value address count : ℕ) (s : State)
    → (handing_over in_range value address count (at_next_instruction s)).footprint.needs ≡ (handing_over in_range 0 address count s).footprint.needs
handed-needs false value address count s = refl
handed-needs true value address count s = refl

pub command-needs-bytes : (word : ℕ) (s : State) (value address count : ℕ) → fork_command s.ports.fork word ≡ asked.ExitWith value address count
    → (effect_outcome (FORK_BASE + FORK_COMMAND) 4 word s).footprint.needs ≡ bytes_needs s address count
command-needs-bytes word s value address count is =
    ap (λ (o : Outcome). o.footprint.needs) (command-needs word s)
    ∙ ap (λ a. (outcome (effect_of a) (at_next_instruction (record s { ports = record s.ports { fork = answered a s.ports.fork } }))).footprint.needs) is
    ∙ handed-needs (is_byte_range address count s.ram) value address count s

-- ---- a call and a talk ask nothing of the pages

request-outcome : (e : Effect) (s : State) (q : Request) → requested (next_of (outcome e s).action) ≡ Some q → (outcome e s).footprint ≡ no_footprint
request-outcome effect.Done s q is = refl
request-outcome effect.TimeWritten s q is = refl
request-outcome (effect.Exit value) s q is = refl
request-outcome (effect.ExitWith value address count) s q is =
    let none = handed-own (is_byte_range address count s.ram) value address count s in absurd (cc)
request-outcome (effect.Call c) s q is = refl
request-outcome (effect.Talk t) s q is = refl
request-outcome (effect.Zero first count) s q is = absurd (cc)

request-port : (o : Option Stored) (address : ℕ) (s : State) (q : Request) → requested (next_of (stored_outcome o address s).action) ≡ Some q
    → (stored_outcome o address s).footprint ≡ no_footprint
request-port None address s q is = refl
request-port (Some stored) address s q is = request-outcome stored.effect (at_next_instruction (record s { ports = stored.ports })) q is

-- no store that asks for nothing is one
request-quiet : (o : Option Stored) (ports : PortRegisters) (address : ℕ) (s : State) (q : Request) → IfSome o (StoresQuietly ports)
    → requested (next_of (stored_outcome o address s).action) ≡ Some q → ⊥
request-quiet None ports address s q h is = cc
request-quiet (Some stored) ports address s q h is =
    let new : State = at_next_instruction (record s { ports = stored.ports }) in
    by-quiet (λ e. requested (next_of (outcome e new).action) ≡ Some q → ⊥) (λ done. cc) (λ timed. cc) stored.effect h.quiet is

request-place : (place : Place) (address width word : ℕ) (s : State) (q : Request) → requested (next_of (stored_outcome (store_at place s.ports width word) address s).action) ≡ Some q
    → (needing (needs_at place width word s) (stored_outcome (store_at place s.ports width word) address s)).footprint ≡ no_footprint
request-place (at_fork offset) address width word s q is = request-port (store_at (at_fork offset) s.ports width word) address s q is
request-place (at_sibling offset) address width word s q is = request-port (store_at (at_sibling offset) s.ports width word) address s q is
request-place place address width word s q is =
    absurd (request-quiet (store_at place s.ports width word) s.ports address s q (stores-quietly place tt s.ports width word) is)

request-at-port : (address width word : ℕ) (s : State) (q : Request) → requested (next_of (effect_outcome address width word s).action) ≡ Some q
    → (port_outcome address width word s).footprint ≡ no_footprint
unfolding port_store
request-at-port address width word s q is = request-place (place_of address) address width word s q is

request-stored : (r : Reached) (i : Instruction) (s : State) (q : Request)
    → requested (next_of (store_by r (data_address i s) (store_width i.kind) (stored_bytes i s) (rs2 i s) s)) ≡ Some q
    → footprint_reached r (store_access i s) (rs2 i s) s ≡ no_footprint
request-stored (faulted cause) i s q is = refl
request-stored (of_ram page) i s q is = absurd (cc)
request-stored of_port i s q is = request-at-port (data_address i s) (store_width i.kind) (rs2 i s) s q is

request-by : (group : Group) (i : Instruction) (word : ℕ) (s : State) (q : Request) → requested (next_of (execute_group group i word s)) ≡ Some q
    → data_footprint (access_by group i s) (rs2 i s) s ≡ no_footprint
unfolding load store store_action load_reserved store_conditional amo
request-by Load i word s q is = let none = none-load_by (reached (load_access i s) s) i (data_address i s) s in absurd (cc)
request-by Store i word s q is = request-stored (reached (store_access i s) s) i s q is
request-by LoadReserved i word s q is = let none = none-reserve_by (reached (reserve_access i s) s) i (rs1 i s) s in absurd (cc)
request-by StoreConditional i word s q is = let none = none-conditional_by (reached (conditional_access i s) s) i (rs1 i s) s in absurd (cc)
request-by Amo i word s q is = let none = none-amo_by (reached (amo_access i s) s) i (rs1 i s) s in absurd (cc)
request-by LoadUpper i word s q is = refl
request-by AddUpper i word s q is = refl
request-by Jump i word s q is = refl
request-by JumpRegister i word s q is = refl
request-by Branch i word s q is = refl
request-by ComputeImmediate i word s q is = refl
request-by Compute i word s q is = refl
request-by Nothing i word s q is = refl
request-by EnvironmentCall i word s q is = refl
request-by Breakpoint i word s q is = refl
request-by TrapReturn i word s q is = refl
request-by Csr i word s q is = refl

pub request-asks-nothing : (i : Instruction) (word : ℕ) (s : State) (q : Request) → requested (next_of (execute i word s)) ≡ Some q
    → footprint_of (Some i) s ≡ no_footprint
unfolding execute
request-asks-nothing i word s q is = request-by (group_of i.kind) i word s q is

-- nor does the step, but for the page of its code

module _ (s : State) (q : Request) where
  decoded-changes : (i : Option Instruction) (word : ℕ) → requested (next_of (decoded_action i word s)) ≡ Some q
      → (footprint_of i s).changes ≡ no_change
  decoded-changes None word is = refl
  decoded-changes (Some i) word is = ap (λ (f : Footprint). f.changes) (request-asks-nothing i word s q is)

  fetch-changes : (r : Reached) → requested (next_of (fetch_action r s)) ≡ Some q → (footprint_at r s).changes ≡ no_change
  fetch-changes (faulted cause) is = refl
  fetch-changes (of_ram page) is = decoded-changes (decoded (fetched s)) (fetched s) is
  fetch-changes of_port is = refl

  step-changes : (taken : Bool) → requested (next_of (action_by taken s)) ≡ Some q → (footprint_step taken s).changes ≡ no_change
  step-changes true is = refl
  step-changes false is = fetch-changes (reached (fetch_access s) s) is

  pub request-changes : requested (next_of (action s)) ≡ Some q → (footprint_from None s).changes ≡ no_change
  unfolding action
  request-changes is = step-changes (takes_interrupt s.csrs (is_timer_due s)) is
