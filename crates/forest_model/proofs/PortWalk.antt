-- What an instruction does to the fork port and the sibling port: nothing, or what one store to them does.
use Rattle.std.proofs.Common.{◌≡◌, ◌≢◌, ℕ, ◌%◌, List, [], ◌∷◌, Bool, true, false, eqb, Option, Some, None, refl, sym, ap, ◌∙◌, subst}
use Rattle.std.specs.Option.{IfSome, option_map}
use Rattle.rv_decode.specs.Instruction.{Instruction}
use Rattle.rv_decode.specs.Table.{decoded}
use Rattle.rv_decode.specs.declared.kinds.Group.{Group}
use Rattle.rv_decode.specs.declared.kinds.Group.TheVariants.{LoadUpper, AddUpper, Jump, JumpRegister, Branch, Load, Store}
use Rattle.rv_decode.specs.declared.kinds.Group.TheVariants.{ComputeImmediate, Compute, Nothing, EnvironmentCall, Breakpoint}
use Rattle.rv_decode.specs.declared.kinds.Group.TheVariants.{TrapReturn, Csr, LoadReserved, StoreConditional, Amo}
use Rattle.rv_decode.specs.Kinds.{group_of}
use Rattle.rv_exec.specs.Memory.{load_width, store_width}
use Rattle.rv_traps.specs.Trap.{mret, takes_interrupt}
use Rattle.rv_traps.specs.declared.registers.CsrRegisters.{CsrRegisters}
use Rattle.fork_port.specs.declared.commands.Call.{Call}
use Rattle.fork_port.specs.declared.ending.Ending.{Ending}
use Rattle.fork_port.specs.declared.commands.Effect.{Effect}
use Rattle.fork_port.specs.declared.commands.Effect.TheVariants as effect
use Rattle.fork_port.specs.declared.refusals.TheConstants.{BAD_ARGUMENT}
use Rattle.fork_port.specs.Registers.{ForkRegisters, refused}
use Rattle.fork_port.specs.Commands.{IsMakeable}
use Rattle.fork_port.specs.Fork.{ForkStored, fork_store}
use Rattle.fork_port.proofs.StoreLemmas.{call_stored, talk_stored}
use Rattle.sibling_port.specs.declared.talk.Talk.{Talk}
use Rattle.sibling_port.specs.Registers.{SiblingRegisters}
use Rattle.sibling_port.specs.Commands.{HasSibling, SiblingStored, named}
use Rattle.sibling_port.specs.Sibling.{sibling_store}
use Rattle.sibling_port.proofs.Stores.{waits}
use Rattle.port_map.specs.declared.Place.{Place}
use Rattle.port_map.specs.declared.Place.TheVariants.{Fork as at_fork, Sibling as at_sibling}
use Rattle.port_map.specs.Bus.{PortRegisters, Read, Stored, fork_stored, place_of, port_load, port_store, sibling_stored, store_at, talk_effect}
use Rattle.port_map.proofs.Quiet.{Leaves, StoresQuietly, load-leaves, no-call, no-talk, stores-quietly}
use Rattle.forest_model.specs.State.{State, is_timer_due, at_next_instruction}
use Rattle.forest_model.specs.Action.{Action, trap, interrupt, retire, exit, ask, speak, rs1, rs2}
use Rattle.forest_model.specs.Compute.{load_upper, add_upper, compute_immediate, compute}
use Rattle.forest_model.specs.Control.{aligned_jump, jump, jump_register, branch_by, branch, relative, linked}
use Rattle.forest_model.specs.Access.{Reached, faulted, of_ram, of_port, reached, page_of, fetch_access}
use Rattle.forest_model.specs.Footprint.{Page, Footprint, no_footprint, no_change, each_once}
use Rattle.forest_model.specs.Memory.{data_address, read_action, load_by, load_access, load, is_page_range, zeroed, is_byte_range, handing_over}
use Rattle.forest_model.specs.Memory.{outcome, stored_outcome, needs_at, needing, to_store, store_by, store_access, store_action, stored_bytes, store}
use Rattle.forest_model.specs.Atomic.{is_reserved, reserve_by, reserve_access, load_reserved, conditional_action, conditional_by}
use Rattle.forest_model.specs.Atomic.{conditional_access, store_conditional, amo_by, amo_access, amo}
use Rattle.forest_model.specs.System.{operation_of, reads, writes, written_action, write_action, old_action, old_value, csr_access, returned_action, trap_return}
use Rattle.forest_model.specs.Execute.{action, action_by, execute_group, execute, decoded_action, fetched, fetch_action}
use Rattle.forest_model.specs.Touch.{access_by, data_footprint, footprint_reached, footprint_of, with_code, footprint_at, footprint_step}
use Rattle.forest_model.specs.Machine.{Machine, advance, advance_from, applied}
use Rattle.forest_model.specs.Calls.{fork_of}
use Rattle.forest_model.specs.Forest.{port_of}

abbrev pub sibling_of : State → SiblingRegisters
sibling_of s = s.ports.sibling

port_load-leaves : (ports : PortRegisters) (address width : ℕ) → IfSome (port_load ports address width) (λ read. Leaves ports read.ports)
unfolding port_load
port_load-leaves ports address width = load-leaves (place_of address) ports width

-- what is asked for waits at the next instruction, with all else as it is, and can be done
pub record Waits (s new : State) (Possible : Type 0) : Type 0 where
  pub same : new ≡ at_next_instruction s
  pub possible : Possible

-- so it waits with the registers as they are
module _ {s new : State} {Possible : Type 0} (w : Waits s new Possible) where
  pub same-fork : fork_of new ≡ fork_of s
  same-fork = ap fork_of w.same

  pub same-sibling : sibling_of new ≡ sibling_of s
  same-sibling = ap sibling_of w.same

-- a talk names a sibling
abbrev pub IsSpoken : ForkRegisters → SiblingRegisters → Talk → Type 0
IsSpoken f r t = HasSibling f.clone_id r × (named t ≡ r.peer)

-- a step that asks the pages for its code alone
abbrev pub of_code : State → Footprint
of_code s = record { needs = page_of s.pc ∷ []; changes = no_change }

code-alone : (code : Page) → with_code code no_footprint ≡ record { needs = code ∷ []; changes = no_change }
unfolding each_once
code-alone code = refl

-- P is to hold of the registers after each step of a machine
module _ (P : ForkRegisters → SiblingRegisters → Type 0) where
  -- registers f and r keep P in each store
  pub record IsKept (f : ForkRegisters) (r : SiblingRegisters) : Type 0 where
    pub before : P f r
    pub after_store : (offset width word : ℕ) → IfSome (fork_store f offset width word) (λ s. P s.fork r)
    pub after_word : (offset width word : ℕ) → IfSome (sibling_store f.clone_id r offset width word) (λ s. P f s.port)
    -- RESULT may be anything
    pub after_answer : (g : ForkRegisters) (q : SiblingRegisters) (word : ℕ) → P g q → P (refused g word) q

  abbrev pub Holds : State → Type 0
  Holds s = P (fork_of s) (sibling_of s)

  -- after an action, where Q is what else is known where it is a talk
  abbrev pub Follows : Type 0 → State → Action → Type 0
  Follows Q s (trap cause value) = Unit {0}
  Follows Q s interrupt = Unit {0}
  Follows Q s (retire written new) = Holds new
  Follows Q s (exit value bytes new) = Holds new
  Follows Q s (ask c new) = Waits s new (IsMakeable (fork_of s) c)
  Follows Q s (speak t new) = Waits s new (IsSpoken (fork_of s) (sibling_of s) t × Q)

  -- after the coming action, where a talk asks the pages for its code alone
  abbrev pub Ported : State → Action → Type 0
  Ported s a = Follows (footprint_step (takes_interrupt s.csrs (is_timer_due s)) s ≡ of_code s) s a

  Follows-weaker : (Q R : Type 0) → (Q → R) → (s : State) (a : Action) → Follows Q s a → Follows R s a
  Follows-weaker Q R f s (trap cause value) h = tt
  Follows-weaker Q R f s interrupt h = tt
  Follows-weaker Q R f s (retire written new) h = h
  Follows-weaker Q R f s (exit value bytes new) h = h
  Follows-weaker Q R f s (ask c new) h = h
  Follows-weaker Q R f s (speak t new) h = record { same = h.same; possible = (h.possible.0, f h.possible.1) }

  -- after a store to any port
  record IsStored (Q : Type 0) (ports : PortRegisters) (stored : Stored) : Type 0 where
    holds : P stored.ports.fork stored.ports.sibling
    calls : (c : Call) → stored.effect ≡ effect.Call c → (stored.ports ≡ ports) × IsMakeable ports.fork c
    talks : (t : Talk) → stored.effect ≡ effect.Talk t → (stored.ports ≡ ports) × (IsSpoken ports.fork ports.sibling t × Q)

  module _ (ports : PortRegisters) where
    abbrev Stores : Type 0 → Option Stored → Type 0
    Stores Q stored = IfSome stored (IsStored Q ports)

    Stores-quiet : (Q : Type 0) (stored : Option Stored) → P ports.fork ports.sibling → IfSome stored (StoresQuietly ports) → Stores Q stored
    Stores-quiet Q None p h = tt
    Stores-quiet Q (Some s) p h = record {
      holds = subst (λ (f : ForkRegisters). P f s.ports.sibling) (sym h.leaves.fork) (subst (P ports.fork) (sym h.leaves.sibling) p);
      calls = λ c is. no-call s.effect c h.quiet is;
      talks = λ t is. no-talk s.effect t h.quiet is;
    }

    Stores-fork : (Q : Type 0) (stored : Option ForkStored) → IfSome stored (λ s. P s.fork ports.sibling)
        → ((c : Call) → IfSome stored (λ s. s.effect ≡ effect.Call c → (s.fork ≡ ports.fork) × IsMakeable ports.fork c))
        → ((t : Talk) → IfSome stored (λ s. s.effect ≢ effect.Talk t)) → Stores Q (option_map (fork_stored ports) stored)
    Stores-fork Q None p asks quiet = tt
    Stores-fork Q (Some s) p asks quiet = record {
      holds = p;
      calls = λ c is. let h = asks c is in (ap (λ (f : ForkRegisters). record ports { fork = f }) h.0, h.1);
      talks = λ t is. absurd (quiet t is);
    }

    talk-of : (said : Option Talk) (t : Talk) → talk_effect said ≡ effect.Talk t → said ≡ Some t
    talk-of None t is = absurd (cc)
    talk-of (Some u) t is = let same : u ≡ t = cc in ap Some same

    no-call-of : (said : Option Talk) (c : Call) {R : Type 0} → talk_effect said ≡ effect.Call c → R
    no-call-of None c is = absurd (cc)
    no-call-of (Some t) c is = absurd (cc)

    Stores-sibling : (Q : Type 0) → Q → (stored : Option SiblingStored) → IfSome stored (λ s. P ports.fork s.port)
        → ((t : Talk) → IfSome stored (λ s. s.talk ≡ Some t
        → (s.port ≡ ports.sibling) × (HasSibling ports.fork.clone_id ports.sibling × (named t ≡ ports.sibling.peer)))) → Stores Q (option_map (sibling_stored ports) stored)
    Stores-sibling Q q None p names = tt
    Stores-sibling Q q (Some s) p names = record {
      holds = p;
      calls = λ c is. no-call-of s.talk c is;
      talks = λ t is. let h = names t (talk-of s.talk t is) in (ap (λ (r : SiblingRegisters). record ports { sibling = r }) h.0, (h.1, q));
    }

  module _ (s : State) (kept : IsKept (fork_of s) (sibling_of s)) where
    -- a talk needs no page of data
    abbrev NeedsNone : Place → ℕ → ℕ → Type 0
    NeedsNone place width word = needs_at place width word s ≡ []

    Stores-at : (place : Place) (width word : ℕ) → Stores s.ports (NeedsNone place width word) (store_at place s.ports width word)
    Stores-at (at_fork offset) width word =
        Stores-fork s.ports (NeedsNone (at_fork offset) width word) (fork_store s.ports.fork offset width word) (kept.after_store offset width word)
        (call_stored s.ports.fork offset width word) (talk_stored s.ports.fork offset width word)
    Stores-at (at_sibling offset) width word =
        Stores-sibling s.ports (NeedsNone (at_sibling offset) width word) refl (sibling_store s.ports.fork.clone_id s.ports.sibling offset width word)
        (kept.after_word offset width word) (waits s.ports.fork.clone_id s.ports.sibling offset width word)
    Stores-at place width word =
        Stores-quiet s.ports (NeedsNone place width word) (store_at place s.ports width word) kept.before (stores-quietly place tt s.ports width word)

    Follows-zeroed : (in_range : Bool) (first count : ℕ) (new : State) → Holds new → Holds (zeroed in_range first count new)
    Follows-zeroed false first count new p = kept.after_answer (fork_of new) (sibling_of new) BAD_ARGUMENT p
    Follows-zeroed true first count new p = kept.after_answer (fork_of new) (sibling_of new) 0 p

    Follows-handing_over : (Q : Type 0) (in_range : Bool) (value address count : ℕ) (new : State) → Holds new
        → Follows Q s (handing_over in_range value address count new).action
    Follows-handing_over Q false value address count new p = kept.after_answer (fork_of new) (sibling_of new) BAD_ARGUMENT p
    Follows-handing_over Q true value address count new p = p

    Follows-outcome : (Q : Type 0) (e : Effect) (new : State) → Holds new
        → ((c : Call) → e ≡ effect.Call c → Waits s new (IsMakeable (fork_of s) c))
        → ((t : Talk) → e ≡ effect.Talk t → Waits s new (IsSpoken (fork_of s) (sibling_of s) t × Q)) → Follows Q s (outcome e new).action
    Follows-outcome Q effect.Done new p asks talks = p
    Follows-outcome Q effect.TimeWritten new p asks talks = p
    Follows-outcome Q (effect.Exit value) new p asks talks = p
    Follows-outcome Q (effect.ExitWith value address count) new p asks talks =
        Follows-handing_over Q (is_byte_range address count new.ram) value address count new p
    Follows-outcome Q (effect.Call c) new p asks talks = asks c refl
    Follows-outcome Q (effect.Talk t) new p asks talks = talks t refl
    Follows-outcome Q (effect.Zero first count) new p asks talks = Follows-zeroed (is_page_range first count new.ram) first count new p

    -- an outcome that is a talk, and needs none of these pages, asks nothing of the pages
    asks-none : (needs : List Page) (e : Effect) (t : Talk) (new : State) → e ≡ effect.Talk t → needs ≡ []
        → (needing needs (outcome e new)).footprint ≡ no_footprint
    asks-none needs e t new is none =
        ap (λ (d : Effect). (needing needs (outcome d new)).footprint) is ∙ ap (λ (n : List Page). (needing n (outcome (effect.Talk t) new)).footprint) none

    Follows-stored : (needs : List Page) (answer : Option Stored) (address : ℕ) → IfSome answer (IsStored (needs ≡ []) s.ports)
        → Follows ((needing needs (stored_outcome answer address s)).footprint ≡ no_footprint) s (stored_outcome answer address s).action
    Follows-stored needs None address h = tt
    Follows-stored needs (Some stored) address h =
        let after : PortRegisters → State = λ ports. at_next_instruction (record s { ports = ports }) in
        Follows-outcome ((needing needs (outcome stored.effect (after stored.ports))).footprint ≡ no_footprint) stored.effect (after stored.ports) h.holds
        (λ c is. record { same = ap after (h.calls c is).0; possible = (h.calls c is).1 })
        (λ t is. let g = h.talks t is in
        record { same = ap after g.0; possible = (g.1.0, asks-none needs stored.effect t (after stored.ports) is g.1.1) })

    Follows-store_by : (r : Reached) (address width : ℕ) (bytes : List ℕ) (word : ℕ)
        → Follows (footprint_reached r (to_store address width) word s ≡ no_footprint) s (store_by r address width bytes word s)
    unfolding port_store
    Follows-store_by (faulted cause) address width bytes word = tt
    Follows-store_by (of_ram page) address width bytes word = kept.before
    Follows-store_by of_port address width bytes word =
        Follows-stored (needs_at (place_of address) width word s) (store_at (place_of address) s.ports width word) address (Stores-at (place_of address) width word)

    -- no other instruction is a talk
    module _ (Q : Type 0) where
      Follows-read_action : (answer : Option Read) (i : Instruction) (address : ℕ) → IfSome answer (λ read. Leaves s.ports read.ports)
          → Follows Q s (read_action answer i address s)
      Follows-read_action None i address e = tt
      Follows-read_action (Some read) i address e =
          subst (λ (f : ForkRegisters). P f read.ports.sibling) (sym e.fork) (subst (P (fork_of s)) (sym e.sibling) kept.before)

      Follows-load_by : (r : Reached) (i : Instruction) (address : ℕ) → Follows Q s (load_by r i address s)
      Follows-load_by (faulted cause) i address = tt
      Follows-load_by (of_ram page) i address = kept.before
      Follows-load_by of_port i address =
          Follows-read_action (port_load s.ports address (load_width i.kind)) i address (port_load-leaves s.ports address (load_width i.kind))

      Follows-aligned_jump : (aligned : Bool) (target : ℕ) (new : State) → Holds new → Follows Q s (aligned_jump aligned target new)
      Follows-aligned_jump false target new p = tt
      Follows-aligned_jump true target new p = p

      Follows-branch_by : (taken : Bool) (i : Instruction) → Follows Q s (branch_by taken i s)
      Follows-branch_by false i = kept.before
      Follows-branch_by true i = Follows-aligned_jump (eqb (relative i s % 4) 0) (relative i s) s kept.before

      Follows-reserve_by : (r : Reached) (i : Instruction) (address : ℕ) → Follows Q s (reserve_by r i address s)
      Follows-reserve_by (faulted cause) i address = tt
      Follows-reserve_by (of_ram page) i address = kept.before
      Follows-reserve_by of_port i address = tt

      Follows-conditional_action : (reserved : Bool) (i : Instruction) (address : ℕ) → Follows Q s (conditional_action reserved i address s)
      Follows-conditional_action false i address = kept.before
      Follows-conditional_action true i address = kept.before

      Follows-conditional_by : (r : Reached) (i : Instruction) (address : ℕ) → Follows Q s (conditional_by r i address s)
      Follows-conditional_by (faulted cause) i address = tt
      Follows-conditional_by (of_ram page) i address = Follows-conditional_action (is_reserved s.reservation address) i address
      Follows-conditional_by of_port i address = tt

      Follows-amo_by : (r : Reached) (i : Instruction) (address : ℕ) → Follows Q s (amo_by r i address s)
      Follows-amo_by (faulted cause) i address = tt
      Follows-amo_by (of_ram page) i address = kept.before
      Follows-amo_by of_port i address = tt

      Follows-written_action : (csrs : Option CsrRegisters) (old : ℕ) (i : Instruction) (word : ℕ) → Follows Q s (written_action csrs old i word s)
      Follows-written_action None old i word = tt
      Follows-written_action (Some csrs) old i word = kept.before

      Follows-write_action : (writes : Bool) (old : ℕ) (i : Instruction) (word : ℕ) → Follows Q s (write_action writes old i word s)
      Follows-write_action false old i word = kept.before
      Follows-write_action true old i word = Follows-written_action _ old i word

      Follows-old_action : (old : Option ℕ) (i : Instruction) (word : ℕ) → Follows Q s (old_action old i word s)
      Follows-old_action None i word = tt
      Follows-old_action (Some old) i word = Follows-write_action (writes (operation_of i.kind) i) old i word

      Follows-returned : (csrs : Option CsrRegisters) (word : ℕ) → Follows Q s (returned_action csrs word s)
      Follows-returned None word = tt
      Follows-returned (Some csrs) word = kept.before

    -- the instruction asks the pages for nothing beside its code
    abbrev IsBare : Group → Instruction → Type 0
    IsBare group i = data_footprint (access_by group i s) (rs2 i s) s ≡ no_footprint

    Follows-execute_group : (group : Group) (i : Instruction) (word : ℕ) → Follows (IsBare group i) s (execute_group group i word s)
    unfolding load_upper add_upper compute_immediate compute jump jump_register branch load store store_action load_reserved store_conditional amo csr_access trap_return
    Follows-execute_group LoadUpper i word = kept.before
    Follows-execute_group AddUpper i word = kept.before
    Follows-execute_group Jump i word = Follows-aligned_jump (IsBare Jump i) (eqb (relative i s % 4) 0) (relative i s) (linked i s) kept.before
    Follows-execute_group JumpRegister i word = Follows-aligned_jump (IsBare JumpRegister i) _ _ (linked i s) kept.before
    Follows-execute_group Branch i word = Follows-branch_by (IsBare Branch i) _ i
    Follows-execute_group Load i word = Follows-load_by (IsBare Load i) (reached (load_access i s) s) i (data_address i s)
    Follows-execute_group Store i word =
        Follows-store_by (reached (store_access i s) s) (data_address i s) (store_width i.kind) (stored_bytes i s) (rs2 i s)
    Follows-execute_group ComputeImmediate i word = kept.before
    Follows-execute_group Compute i word = kept.before
    Follows-execute_group Nothing i word = kept.before
    Follows-execute_group EnvironmentCall i word = tt
    Follows-execute_group Breakpoint i word = tt
    Follows-execute_group TrapReturn i word = Follows-returned (IsBare TrapReturn i) (mret s.csrs) word
    Follows-execute_group Csr i word = Follows-old_action (IsBare Csr i) (old_value (reads (operation_of i.kind) i) i s) i word
    Follows-execute_group LoadReserved i word = Follows-reserve_by (IsBare LoadReserved i) (reached (reserve_access i s) s) i (rs1 i s)
    Follows-execute_group StoreConditional i word = Follows-conditional_by (IsBare StoreConditional i) (reached (conditional_access i s) s) i (rs1 i s)
    Follows-execute_group Amo i word = Follows-amo_by (IsBare Amo i) (reached (amo_access i s) s) i (rs1 i s)

    Follows-decoded : (decoded : Option Instruction) (word : ℕ) → Follows (footprint_of decoded s ≡ no_footprint) s (decoded_action decoded word s)
    unfolding execute
    Follows-decoded None word = tt
    Follows-decoded (Some i) word = Follows-execute_group (group_of i.kind) i word

    Follows-fetch : (r : Reached) → Follows (footprint_at r s ≡ of_code s) s (fetch_action r s)
    Follows-fetch (faulted cause) = tt
    Follows-fetch (of_ram page) =
        Follows-weaker (footprint_of (decoded (fetched s)) s ≡ no_footprint) (footprint_at (of_ram page) s ≡ of_code s)
        (λ e. ap (with_code (page_of s.pc)) e ∙ code-alone (page_of s.pc)) s
        (decoded_action (decoded (fetched s)) (fetched s) s) (Follows-decoded (decoded (fetched s)) (fetched s))
    Follows-fetch of_port = tt

    Follows-by : (taken : Bool) → Follows (footprint_step taken s ≡ of_code s) s (action_by taken s)
    Follows-by true = tt
    Follows-by false = Follows-fetch (reached (fetch_access s) s)

    pub action-ported : Ported s (action s)
    unfolding action
    action-ported = Follows-by (takes_interrupt s.csrs (is_timer_due s))

  -- the machine after a step of its own
  pub port-applied : (a : Action) (m : Machine) → Ported m.state a → Holds m.state → Holds (applied a m).state
  port-applied (trap cause value) m h p = p
  port-applied interrupt m h p = p
  port-applied (retire written new) m h p = h
  port-applied (exit value bytes new) m h p = h
  port-applied (ask c new) m h p = p
  port-applied (speak t new) m h p = p

  port-advance_from : (ending : Option Ending) (m : Machine) → IsKept (port_of m) (sibling_of m.state) → Holds (advance_from ending m).state
  port-advance_from None m kept = port-applied (action m.state) m (action-ported m.state kept) kept.before
  port-advance_from (Some ending) m kept = kept.before

  pub port-advance : (m : Machine) → IsKept (port_of m) (sibling_of m.state) → Holds (advance m).state
  unfolding advance
  port-advance m kept = port-advance_from m.ending m kept

-- the same of what is said of the fork port alone
always : {A : Type 0} (o : Option A) (Q : Type 0) → Q → IfSome o (λ a. Q)
always None Q q = tt
always (Some a) Q q = q

pub fork-kept : (Q : ForkRegisters → Type 0) (f : ForkRegisters) (r : SiblingRegisters) → Q f
    → ((offset width word : ℕ) → IfSome (fork_store f offset width word) (λ s. Q s.fork))
    → ((g : ForkRegisters) (word : ℕ) → Q g → Q (refused g word)) → IsKept (λ g q. Q g) f r
fork-kept Q f r before store answer = record {
  before = before;
  after_store = store;
  after_word = λ offset width word. always (sibling_store f.clone_id r offset width word) (Q f) before;
  after_answer = λ g q word h. answer g word h;
}
