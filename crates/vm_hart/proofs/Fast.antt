-- Fast steps: what they neither read nor write, and how they are counted.
use Rattle.std.proofs.Common.{◌≡◌, ◌≢◌, ℕ, zero, suc, ◌+◌, ◌-◌, ◌%◌, ◌^◌, ◌<◌, ◌≤◌, Bool, true, false, nat_le, cond, eqb, List, Some, None, Ok, refl, sym, ap, ◌∙◌, subst, arith, add-one, add-zero}
use Rattle.std.specs.Prelude.{MatchBool}
use Rattle.rv_decode.specs.Instruction.{Instruction}
use Rattle.rv_decode.specs.Table.{decoded}
use Rattle.rv_decode.specs.Kinds.{group_of}
use Rattle.rv_decode.specs.declared.kinds.Group.{Group}
use Rattle.rv_decode.specs.declared.kinds.Group.TheVariants.{LoadUpper, AddUpper, Jump, JumpRegister, Branch, Load, Store, ComputeImmediate}
use Rattle.rv_decode.specs.declared.kinds.Group.TheVariants.{Compute, EnvironmentCall, Breakpoint, TrapReturn, Csr, LoadReserved, StoreConditional, Amo}
use Rattle.rv_decode.specs.declared.kinds.Group.TheVariants as group
use Rattle.rv_exec.specs.Branch.{branch_taken}
use Rattle.rv_exec.specs.Memory.{load_value, load_width, store_width}
use Rattle.rv_traps.specs.declared.registers.CsrRegisters.{CsrRegisters}
use Rattle.rv_traps.specs.Counters.{counted}
use Rattle.rv_traps.specs.declared.counter.Wrote.TheVariants as counter
use Rattle.guest_pmp.specs.declared.access.Access.TheVariants as right
use Rattle.rv_traps.specs.Protection.{allows}
use Rattle.rv_traps.specs.Trap.{takes_interrupt}
use Rattle.rv_traps.proofs.Protection.{allows-recounted}
use Rattle.timer_port.specs.declared.registers.TimerRegisters.{TimerRegisters}
use Rattle.timer_port.specs.Timer.{is_due, timer_counted}
use Rattle.forest_model.specs.declared.Written.{Written}
use Rattle.forest_model.specs.declared.Written.TheVariants.{Nothing, Counter, Time}
use Rattle.forest_model.specs.declared.access.Access.{Access}
use Rattle.port_map.specs.Bus.{PortRegisters}
use Rattle.forest_model.specs.State.{State, at_next_instruction, is_in_ram}
use Rattle.forest_model.proofs.Accesses.{reached-ram}
use Rattle.forest_model.specs.Action.{Action, trap, interrupt, retire, exit, ask, speak, retire_next, rs1, rs2, immediate, with_rd}
use Rattle.forest_model.specs.Access.{Reached, faulted, of_ram, of_port, is_aligned_for, is_allowed, page_of, reached, reached_by, reached_if, right_for, uses, fetch_access}
use Rattle.forest_model.specs.Compute.{load_upper, add_upper, compute_immediate, compute}
use Rattle.forest_model.specs.Control.{aligned_jump, branch, branch_by, jump, jump_register, even, linked, relative}
use Rattle.forest_model.specs.Memory.{data_address, load, load_access, load_by, ram_number, store, store_access, store_action, store_by, stored_bytes, with_bytes}
use Rattle.forest_model.specs.Execute.{execute, execute_group, fetched}
use Rattle.forest_model.specs.Machine.{count}
use Rattle.fork_port.specs.declared.ending.Ending.TheVariants.{Limit}
use Rattle.std.proofs.lemmas.Bool.Decides.{nat_tests}
use Rattle.forest_model.specs.Footprint.{Change, Footprint, no_change, puts}
use Rattle.forest_model.specs.Touch.{access_by, data_footprint, footprint_of, footprint_of_access, footprint_reached}
use Rattle.forest_model.specs.Paged.{pages_after}
use Rattle.vm_hart.specs.declared.hart.Acted.{Acted}
use Rattle.vm_hart.specs.declared.hart.Acted.TheVariants.{Stalled, Trapped, Interrupted, Retired, Exited, Asked}
use Rattle.vm_hart.specs.declared.hart.Request.TheVariants as request
use Rattle.vm_hart.specs.Acts.{Acts, ActsBy, IsMet, ReachesRam}
use Rattle.vm_hart.specs.Kept.{stored_at}
use Rattle.vm_hart.specs.Keyed.{IsHere, KeyedMachine, KeyedState, machine_of}
use Rattle.vm_hart.specs.Fast.{ActsFast, AreMade, IsFast, IsFastIn, IsFastStep, IsQuiet, IsStretch, counted_since, recounted, retired_by, timed_by, with_counters}
use Rattle.vm_hart.specs.Runs.{IsRun}
use Rattle.vm_hart.proofs.Acting.{next-acts}
use Rattle.vm_hart.proofs.Runs.{IsRun-advance, IsRun-join, IsRun-none}
use Rattle.vm_hart.proofs.Stepping.{goes_retired}

-- ---- counters and time have no part in what a fast instruction does

-- an access that is not one of a port
abbrev pub IsNoPort : Reached → Type 0
IsNoPort (faulted cause) = Unit {0}
IsNoPort (of_ram page) = Unit {0}
IsNoPort of_port = ⊥

in-ram : (a : Access) (s : State) → is_in_ram s.ram a.address ≡ true → (allowed : Bool) → IsNoPort (reached_if allowed (is_in_ram s.ram a.address) a)
in-ram a s inside false = tt
in-ram a s inside true = subst (λ b. IsNoPort (reached_if true b a)) (sym inside) tt

by-alignment : (a : Access) (s : State) → is_in_ram s.ram a.address ≡ true → (aligned : Bool) → IsNoPort (reached_by aligned a s)
by-alignment a s inside false = tt
by-alignment a s inside true = in-ram a s inside (is_allowed a s)

pub no-port : (a : Access) (s : State) → is_in_ram s.ram a.address ≡ true → IsNoPort (reached a s)
unfolding reached
no-port a s inside = by-alignment a s inside (is_aligned_for a.direction a.address a.width)

-- the action with these counters and this time
abbrev recounted_action : CsrRegisters → TimerRegisters → Action → Action
recounted_action c t (trap cause value) = trap cause value
recounted_action c t interrupt = interrupt
recounted_action c t (retire written s) = retire written (with_counters c t s)
recounted_action c t (exit value bytes s) = exit value bytes (with_counters c t s)
recounted_action c t (ask call s) = ask call (with_counters c t s)
recounted_action c t (speak talk s) = speak talk (with_counters c t s)

-- what a fast instruction does, and what it does to the pages: it traps and changes none, or retires and leaves counters and ports
abbrev IsFastAction : State → Action → Change → Type 0
IsFastAction s (trap cause value) ch = ch ≡ no_change
IsFastAction s interrupt ch = ⊥
IsFastAction s (retire Nothing new) ch = (new.csrs ≡ s.csrs) × (new.ports ≡ s.ports)
IsFastAction s (retire (Counter half) new) ch = ⊥
IsFastAction s (retire Time new) ch = ⊥
IsFastAction s (exit value bytes new) ch = ⊥
IsFastAction s (ask call new) ch = ⊥
IsFastAction s (speak talk new) ch = ⊥

module _ (i : Instruction) (s : State) where
  jump-fast : (aligned : Bool) (target : ℕ) (new : State) → new.csrs ≡ s.csrs → new.ports ≡ s.ports → IsFastAction s (aligned_jump aligned target new) no_change
  jump-fast false target new csrs ports = refl
  jump-fast true target new csrs ports = (csrs, ports)

  branch-fast : (taken : Bool) → IsFastAction s (branch_by taken i s) no_change
  branch-fast false = (refl, refl)
  branch-fast true = jump-fast (eqb (relative i s % 4) 0) (relative i s) s refl refl

  load-fast : (r : Reached) (address : ℕ) → IsNoPort r → IsFastAction s (load_by r i address s) (footprint_reached r (load_access i s) (rs2 i s) s).changes
  load-fast (faulted cause) address h = refl
  load-fast (of_ram page) address h = (refl, refl)
  load-fast of_port address h = absurd h

  store-fast : (r : Reached) (address width : ℕ) → IsNoPort r
      → IsFastAction s (store_by r address width (stored_bytes i s) (rs2 i s) s) (footprint_reached r (store_access i s) (rs2 i s) s).changes
  store-fast (faulted cause) address width h = refl
  store-fast (of_ram page) address width h = (refl, refl)
  store-fast of_port address width h = absurd h

  -- by its group
  fast-action : (g : Group) (word : ℕ) → IsFastIn g i s → IsFastAction s (execute_group g i word s) (data_footprint (access_by g i s) (rs2 i s) s).changes
  unfolding load_upper add_upper jump jump_register branch load store store_action compute_immediate compute
  fast-action LoadUpper word h = (refl, refl)
  fast-action AddUpper word h = (refl, refl)
  fast-action Jump word h = jump-fast (eqb (relative i s % 4) 0) (relative i s) (linked i s) refl refl
  fast-action JumpRegister word h =
      let target : ℕ = even ((rs1 i s + immediate i) % 2 ^ 32) in jump-fast (eqb (target % 4) 0) target (linked i s) refl refl
  fast-action Branch word h = branch-fast (branch_taken i.kind (rs1 i s) (rs2 i s))
  fast-action Load word h = load-fast (reached (load_access i s) s) (data_address i s) (no-port (load_access i s) s h)
  fast-action Store word h = store-fast (reached (store_access i s) s) (data_address i s) (store_width i.kind) (no-port (store_access i s) s h)
  fast-action ComputeImmediate word h = (refl, refl)
  fast-action Compute word h = (refl, refl)
  fast-action group.Nothing word h = (refl, refl)
  fast-action EnvironmentCall word h = absurd h
  fast-action Breakpoint word h = absurd h
  fast-action TrapReturn word h = absurd h
  fast-action Csr word h = absurd h
  fast-action LoadReserved word h = absurd h
  fast-action StoreConditional word h = absurd h
  fast-action Amo word h = absurd h

  module _ (c : CsrRegisters) (t : TimerRegisters) where
    abbrev other : State
    other = with_counters c t s

    same-allowed : (a : Access) → is_allowed a other ≡ is_allowed a s
    same-allowed a = allows-recounted s.csrs c.mcycle c.minstret (right_for (uses a.direction)) a.address

    same-by : (a : Access) (aligned : Bool) → reached_by aligned a other ≡ reached_by aligned a s
    same-by a false = refl
    same-by a true = ap (λ b. reached_if b (is_in_ram s.ram a.address) a) (same-allowed a)

    same-reached : (a : Access) → reached a other ≡ reached a s
    unfolding reached
    same-reached a = same-by a (is_aligned_for a.direction a.address a.width)

    jump-recounts : (aligned : Bool) (target : ℕ) (new : State) → aligned_jump aligned target (with_counters c t new) ≡ recounted_action c t (aligned_jump aligned target new)
    jump-recounts false target new = refl
    jump-recounts true target new = refl

    branch-recounts : (taken : Bool) → branch_by taken i other ≡ recounted_action c t (branch_by taken i s)
    branch-recounts false = refl
    branch-recounts true = jump-recounts (eqb (relative i s % 4) 0) (relative i s) s

    load-recounts : (r : Reached) (address : ℕ) → IsNoPort r → load_by r i address other ≡ recounted_action c t (load_by r i address s)
    load-recounts (faulted cause) address h = refl
    load-recounts (of_ram page) address h = refl
    load-recounts of_port address h = absurd h

    store-recounts : (r : Reached) (address width : ℕ) → IsNoPort r
        → store_by r address width (stored_bytes i s) (rs2 i s) other ≡ recounted_action c t (store_by r address width (stored_bytes i s) (rs2 i s) s)
    store-recounts (faulted cause) address width h = refl
    store-recounts (of_ram page) address width h = refl
    store-recounts of_port address width h = absurd h

    recounts : (g : Group) (word : ℕ) → IsFastIn g i s → execute_group g i word other ≡ recounted_action c t (execute_group g i word s)
    unfolding load_upper add_upper jump jump_register branch load store store_action compute_immediate compute
    recounts LoadUpper word h = refl
    recounts AddUpper word h = refl
    recounts Jump word h = jump-recounts (eqb (relative i s % 4) 0) (relative i s) (linked i s)
    recounts JumpRegister word h =
        let target : ℕ = even ((rs1 i s + immediate i) % 2 ^ 32) in jump-recounts (eqb (target % 4) 0) target (linked i s)
    recounts Branch word h = branch-recounts (branch_taken i.kind (rs1 i s) (rs2 i s))
    recounts Load word h =
        ap (λ r. load_by r i (data_address i s) other) (same-reached (load_access i s))
        ∙ load-recounts (reached (load_access i s) s) (data_address i s) (no-port (load_access i s) s h)
    recounts Store word h =
        ap (λ r. store_by r (data_address i s) (store_width i.kind) (stored_bytes i s) (rs2 i s) other) (same-reached (store_access i s))
        ∙ store-recounts (reached (store_access i s) s) (data_address i s) (store_width i.kind) (no-port (store_access i s) s h)
    recounts ComputeImmediate word h = refl
    recounts Compute word h = refl
    recounts group.Nothing word h = refl
    recounts EnvironmentCall word h = absurd h
    recounts Breakpoint word h = absurd h
    recounts TrapReturn word h = absurd h
    recounts Csr word h = absurd h
    recounts LoadReserved word h = absurd h
    recounts StoreConditional word h = absurd h
    recounts Amo word h = absurd h

    reached-recounts : (r : Reached) (a : Access) (word : ℕ) → IsNoPort r → footprint_reached r a word other ≡ footprint_reached r a word s
    reached-recounts (faulted cause) a word h = refl
    reached-recounts (of_ram page) a word h = refl
    reached-recounts of_port a word h = absurd h

    access-recounts : (a : Access) (word : ℕ) → IsNoPort (reached a s) → footprint_of_access a word other ≡ footprint_of_access a word s
    access-recounts a word none = ap (λ r. footprint_reached r a word other) (same-reached a) ∙ reached-recounts (reached a s) a word none

    footprint-recounts : (g : Group) → IsFastIn g i s
        → data_footprint (access_by g i other) (rs2 i other) other ≡ data_footprint (access_by g i s) (rs2 i s) s
    footprint-recounts LoadUpper h = refl
    footprint-recounts AddUpper h = refl
    footprint-recounts Jump h = refl
    footprint-recounts JumpRegister h = refl
    footprint-recounts Branch h = refl
    footprint-recounts Load h = access-recounts (load_access i s) (rs2 i s) (no-port (load_access i s) s h)
    footprint-recounts Store h = access-recounts (store_access i s) (rs2 i s) (no-port (store_access i s) s h)
    footprint-recounts ComputeImmediate h = refl
    footprint-recounts Compute h = refl
    footprint-recounts group.Nothing h = refl
    footprint-recounts EnvironmentCall h = absurd h
    footprint-recounts Breakpoint h = absurd h
    footprint-recounts TrapReturn h = absurd h
    footprint-recounts Csr h = absurd h
    footprint-recounts LoadReserved h = absurd h
    footprint-recounts StoreConditional h = absurd h
    footprint-recounts Amo h = absurd h

-- ---- fast steps

told-retired : (s new : State) (a : Action) (ch : Change) (written : Written) → IsFastAction s a ch → a ≡ retire written new → written ≡ Nothing
told-retired s new (retire Nothing n) ch written h e = cc
told-retired s new (retire (Counter half) n) ch written h e = absurd h
told-retired s new (retire Time n) ch written h e = absurd h
told-retired s new (trap cause value) ch written h e = absurd (cc)
told-retired s new interrupt ch written h e = absurd (cc)
told-retired s new (exit value bytes n) ch written h e = absurd (cc)
told-retired s new (ask call n) ch written h e = absurd (cc)
told-retired s new (speak talk n) ch written h e = absurd (cc)

module _ (old new : KeyedState) (i : Instruction) (word : ℕ) (fast : IsFast i old.state) where
  is-fast : IsFastAction old.state (execute i word old.state) (footprint_of (Some i) old.state).changes
  unfolding execute
  is-fast = fast-action i old.state (group_of i.kind) word fast

  -- it retires, and counters and time have no part in it
  module _ (acts : ActsBy old new (Some i) word (Ok (Retired Nothing))) where
    pub registers-stay : (new.state.csrs ≡ old.state.csrs) × (new.state.ports ≡ old.state.ports)
    registers-stay = subst (λ a. IsFastAction old.state a (footprint_of (Some i) old.state).changes) acts.tells is-fast

    acts-recounted : (c : CsrRegisters) (t : TimerRegisters) → ActsBy (recounted c t old) (recounted c t new) (Some i) word (Ok (Retired Nothing))
    unfolding execute
    acts-recounted c t =
        let asks = footprint-recounts i old.state c t (group_of i.kind) fast in
        record {
          met = subst (λ (f : Footprint). IsMet f.needs old.pages) (sym asks) acts.met;
          tells = recounts i old.state c t (group_of i.kind) word fast ∙ ap (recounted_action c t) acts.tells;
          changed = (acts.changed.0 ∙ ap (λ (f : Footprint). pages_after f.changes old.pages) (sym asks), acts.changed.1);
        }

    pub fast-step : (offset : ℕ) → ReachesRam old (fetch_access old.state) offset → word ≡ fetched old.state → decoded word ≡ Some i → IsFastStep old new
    fast-step offset reaches is says = record {
      csrs = registers-stay.0;
      ports = registers-stay.1;
      acts = λ c t quiet. next-acts (recounted c t old) quiet _ (same-reached i old.state c t (fetch_access old.state) ∙ reaches.is) reaches.here (recounted c t new) word (Ok (Retired Nothing)) is
          (subst (λ d. ActsBy (recounted c t old) (recounted c t new) d word (Ok (Retired Nothing))) (sym says) (acts-recounted c t));
    }

  -- or it does nothing
  same : (ch : Change) → ch ≡ no_change → new.state ≡ old.state → new.pages ≡ pages_after ch old.pages → new.key ≡ old.key → new ≡ old
  same ch none state pages key =
      ap (λ s. record new { state = s }) state
      ∙ ap (λ p. record new { state = old.state; pages = p }) (pages ∙ ap (λ d. pages_after d old.pages) none)
      ∙ ap (λ k. record old { key = k }) key

  pub fast-none : (acted : Acted) → ActsBy old new (Some i) word (Ok acted) → acted ≢ Retired Nothing → new ≡ old
  fast-none (Stalled page) acts differs = acts.1
  fast-none (Trapped cause value) acts differs =
      let none = subst (λ a. IsFastAction old.state a (footprint_of (Some i) old.state).changes) acts.tells.0 is-fast in
      same (footprint_of (Some i) old.state).changes none acts.tells.1 acts.changed.0 acts.changed.1
  fast-none Interrupted acts differs = absurd (subst (λ a. IsFastAction old.state a (footprint_of (Some i) old.state).changes) acts.tells.0 is-fast)
  fast-none (Retired written) acts differs =
      absurd (differs (ap Retired (told-retired old.state new.state (execute i word old.state) (footprint_of (Some i) old.state).changes written is-fast acts.tells)))
  fast-none (Exited value address count) acts differs = absurd (subst (λ a. IsFastAction old.state a (footprint_of (Some i) old.state).changes) acts.tells.0 is-fast)
  fast-none (Asked (request.Call call)) acts differs = absurd (subst (λ a. IsFastAction old.state a (footprint_of (Some i) old.state).changes) acts.tells.0 is-fast)
  fast-none (Asked (request.Talk talk)) acts differs = absurd (subst (λ a. IsFastAction old.state a (footprint_of (Some i) old.state).changes) acts.tells.0 is-fast)

by-retired : (old new : KeyedState) (i : Instruction) (acted : Acted) (is_retired : Bool) → IsFast i old.state
    → ((word : ℕ) → ActsBy old new (Some i) word (Ok acted)) → MatchBool is_retired (acted ≡ Retired Nothing) (acted ≢ Retired Nothing)
    → MatchBool is_retired (ActsFast old new i) (new ≡ old)
by-retired old new i acted true fast acts told = (fast, λ word. subst (λ a. ActsBy old new (Some i) word (Ok a)) told (acts word))
by-retired old new i acted false fast acts told = fast-none old new i 0 fast acted (acts 0) told

-- an instruction of a group that is no store stores nothing
pub not-stored : (g : Group) (i : Instruction) (s : State) → group_of i.kind ≡ g → stored_at g i s ≡ None → stored_at (group_of i.kind) i s ≡ None
not-stored g i s is beside = subst (λ h. stored_at h i s ≡ None) (sym is) beside

-- what an instruction of a group answers, of one that may be fast
pub group-acts : (g : Group) (old new : KeyedState) (i : Instruction) (acted : Acted) (is_retired : Bool) → group_of i.kind ≡ g → IsFastIn g i old.state
    → ((word : ℕ) → Acts old new (data_footprint (access_by g i old.state) (rs2 i old.state) old.state)
    (execute_group g i word old.state) (Ok acted))
    → MatchBool is_retired (acted ≡ Retired Nothing) (acted ≢ Retired Nothing) → MatchBool is_retired (ActsFast old new i) (new ≡ old)
unfolding execute
group-acts g old new i acted is_retired is fast acts told =
    by-retired old new i acted is_retired (subst (λ h. IsFastIn h i old.state) (sym is) fast)
    (λ word. subst (λ h. Acts old new (data_footprint (access_by h i old.state) (rs2 i old.state) old.state)
    (execute_group h i word old.state) (Ok acted)) (sym is) (acts word)) told

-- a load from a page that is here, and a store to one
module _ (old new : KeyedState) (i : Instruction) (inside : is_in_ram old.state.ram (data_address i old.state) ≡ true)
    (here : IsHere old.pages (page_of (data_address i old.state))) where
  pub loads-here : (number : ℕ) → group_of i.kind ≡ Load → data_address i old.state % load_width i.kind ≡ 0
      → allows old.state.csrs right.Load (data_address i old.state) ≡ true
      → number ≡ ram_number (data_address i old.state) (load_width i.kind) old.state
      → new ≡ record old { state = at_next_instruction (with_rd i (load_value i.kind number) old.state) } → ActsFast old new i
  unfolding load
  loads-here number is aligned allowed reads becomes =
      let s : State = old.state in
      let r : reached (load_access i s) s ≡ of_ram (Some (page_of (data_address i s))) = reached-ram (load_access i s) s (ap (λ n. eqb n 0) aligned) allowed inside in
      group-acts Load old new i (Retired Nothing) true is inside
      (λ word. record {
        met = subst (λ x. IsMet (footprint_reached x (load_access i s) (rs2 i s) s).needs old.pages) (sym r) (here, tt);
        tells =
            ap (λ x. load_by x i (data_address i s) s) r
            ∙ ap (λ n. retire_next (with_rd i (load_value i.kind n) s)) (sym reads)
            ∙ ap (λ (h : KeyedState). retire Nothing h.state) (sym becomes);
        changed = (
          ap (λ (h : KeyedState). h.pages) becomes ∙ ap (λ x. pages_after (footprint_reached x (load_access i s) (rs2 i s) s).changes old.pages) (sym r),
          ap (λ (h : KeyedState). h.key) becomes,
        );
      }) refl

  pub stores-here : (bytes : List ℕ) → group_of i.kind ≡ Store → data_address i old.state % store_width i.kind ≡ 0
      → allows old.state.csrs right.Store (data_address i old.state) ≡ true → bytes ≡ stored_bytes i old.state
      → new ≡ record {
        state = at_next_instruction (with_bytes (data_address i old.state) bytes old.state);
        pages = pages_after (puts (page_of (data_address i old.state))) old.pages;
        key = old.key;
      } → ActsFast old new i
  unfolding store store_action
  stores-here bytes is aligned allowed same becomes =
      let s : State = old.state in
      let r : reached (store_access i s) s ≡ of_ram (Some (page_of (data_address i s))) = reached-ram (store_access i s) s (ap (λ n. eqb n 0) aligned) allowed inside in
      group-acts Store old new i (Retired Nothing) true is inside
      (λ word. record {
        met = subst (λ x. IsMet (footprint_reached x (store_access i s) (rs2 i s) s).needs old.pages) (sym r) (here, tt);
        tells =
            ap (λ x. store_by x (data_address i s) (store_width i.kind) (stored_bytes i s) (rs2 i s) s) r
            ∙ ap (λ b. retire_next (with_bytes (data_address i s) b s)) (sym same)
            ∙ ap (λ (h : KeyedState). retire Nothing h.state) (sym becomes);
        changed = (
          ap (λ (h : KeyedState). h.pages) becomes ∙ ap (λ x. pages_after (footprint_reached x (store_access i s) (rs2 i s) s).changes old.pages) (sym r),
          ap (λ (h : KeyedState). h.key) becomes,
        );
      }) refl

-- ---- stretches of fast steps

retired_by-takes : (n : ℕ) (c : CsrRegisters) (timer : Bool) → takes_interrupt (retired_by n c) timer ≡ takes_interrupt c timer
unfolding retired_by
retired_by-takes zero c timer = refl
retired_by-takes (suc n) c timer = retired_by-takes n c timer

-- steps that retire move the counters alone
pub retired_by-counters : (n : ℕ) (c : CsrRegisters) → record c { mcycle = (retired_by n c).mcycle; minstret = (retired_by n c).minstret } ≡ retired_by n c
unfolding retired_by
retired_by-counters zero c = refl
retired_by-counters (suc n) c =
    ap (λ (d : CsrRegisters). record d { mcycle = (retired_by (suc n) c).mcycle; minstret = (retired_by (suc n) c).minstret }) (retired_by-counters n c)

pub stretch-none : (h : KeyedState) → IsStretch 0 h h
unfolding retired_by timed_by
stretch-none h = record {
  csrs = refl;
  ports = refl;
  made = λ quiet steps limit below.
      subst (λ n. IsRun (machine_of h steps limit None) (machine_of h n limit None) 0) (sym (add-zero steps)) (IsRun-none (machine_of h steps limit None));
}

-- a machine that is not at its limit after a step lives on
not-limited : (steps limit : ℕ) → steps + 1 < limit → cond (eqb (steps + 1) limit) (Some Limit) None ≡ None
not-limited steps limit below = grind (arith, nat_tests)

counted-suc : (n : ℕ) (old h : KeyedState) → counted_since (suc n) old h
    ≡ record (counted_since n old h) { state = count true Nothing (counted_since n old h).state }
unfolding retired_by timed_by
counted-suc n old h = refl

-- no interrupt comes after steps that are not counted yet, where none comes once they are
quiet-after : (n : ℕ) (old mid : KeyedState) (t : TimerRegisters) → mid.state.csrs ≡ old.state.csrs → takes_interrupt (retired_by n old.state.csrs) (is_due t) ≡ false
    → takes_interrupt mid.state.csrs (is_due t) ≡ false
quiet-after n old mid t same quiet = ap (λ c. takes_interrupt c (is_due t)) same ∙ sym (retired_by-takes n old.state.csrs (is_due t)) ∙ quiet

pub stretch-more : (n : ℕ) (old mid new : KeyedState) → IsStretch n old mid → IsFastStep mid new → IsStretch (n + 1) old new
stretch-more n old mid new stretch step = record {
  csrs = step.csrs ∙ stretch.csrs;
  ports = step.ports ∙ stretch.ports;
  made = λ quiet steps limit below.
      let m : KeyedMachine = machine_of (counted_since n old mid) (steps + n) limit None in
      let taken = quiet-after n old mid (timed_by n old.state.ports.timer) stretch.csrs (quiet n (omega arith)) in
      let acts = step.acts (retired_by n old.state.csrs) (timed_by n old.state.ports.timer) taken in
      let ends : None ≡ cond (eqb (steps + n + 1) limit) (Some Limit) None = sym (not-limited (steps + n) limit (omega (arith, below))) in
      let goes = goes_retired m (counted_since n old new) refl (counted_since (suc n) old new) (steps + n + 1) None refl ends Nothing acts (counted-suc n old new) in
      let run = stretch.made (λ k before. quiet k (omega (arith, before))) steps limit (omega (arith, below)) in
      let more = IsRun-advance (machine_of old steps limit None) m (machine_of (counted_since (suc n) old new) (steps + n + 1) limit None) n run goes.0 goes.1 goes.2 in
      let all : IsRun (machine_of old steps limit None) (machine_of (counted_since (suc n) old new) (steps + (n + 1)) limit None) (n + 1) =
      subst (λ k. IsRun (machine_of old steps limit None) (machine_of (counted_since (suc n) old new) k limit None) (n + 1)) (omega arith) more in
      subst (λ k. IsRun (machine_of old steps limit None) (machine_of (counted_since k old new) (steps + (n + 1)) limit None) (n + 1)) (sym (add-one n)) all;
}

-- once it is counted
pub stretch-counted : (n most : ℕ) (old mid new : KeyedState) → IsStretch n old mid → IsQuiet most old.state → n ≤ most → new ≡ counted_since n mid mid → AreMade n old new
stretch-counted n most old mid new stretch quiet within is =
    let counts : counted_since n mid mid ≡ counted_since n old mid =
    ap (λ c. recounted (retired_by n c) (timed_by n mid.state.ports.timer) mid) stretch.csrs
    ∙ ap (λ (p : PortRegisters). recounted (retired_by n old.state.csrs) (timed_by n p.timer) mid) stretch.ports in
    subst (AreMade n old) (sym (is ∙ counts)) (stretch.made (λ k below. quiet k (omega (arith, below, within))))

-- ---- until the interrupt

not-taken : (c : CsrRegisters) (timer : Bool) → takes_interrupt c true ≡ false → takes_interrupt c timer ≡ false
not-taken c true off = off
not-taken c false off = refl

pub quiet-off : (n : ℕ) (s : State) → takes_interrupt s.csrs true ≡ false → IsQuiet n s
quiet-off n s off = λ k below.
    retired_by-takes k s.csrs (is_due (timed_by k s.ports.timer)) ∙ not-taken s.csrs (is_due (timed_by k s.ports.timer)) off

one-more : (a n : ℕ) → ((a + n) % 2 ^ 64 + 1) % 2 ^ 64 ≡ (a + suc n) % 2 ^ 64
one-more a n = omega arith

timed_by-suc : (n : ℕ) (t : TimerRegisters) → timed_by (suc n) t ≡ record t { mtime = (t.mtime + suc n) % 2 ^ 64 }
unfolding timed_by
timed_by-suc zero t = refl
timed_by-suc (suc n) t =
    ap (λ u. timer_counted u false) (timed_by-suc n t) ∙ ap (λ m. record t { mtime = m }) (one-more t.mtime (suc n))

pub timed_by-is : (n : ℕ) (t : TimerRegisters) → 0 < n → timed_by n t ≡ record t { mtime = (t.mtime + n) % 2 ^ 64 }
timed_by-is zero t some = absurd (omega (arith, some))
timed_by-is (suc n) t some = timed_by-suc n t

retired_by-suc : (n : ℕ) (c : CsrRegisters) → retired_by (suc n) c ≡ record c { mcycle = (c.mcycle + suc n) % 2 ^ 64; minstret = (c.minstret + suc n) % 2 ^ 64 }
unfolding retired_by
retired_by-suc zero c = refl
retired_by-suc (suc n) c =
    ap (λ d. counted d true counter.Nothing) (retired_by-suc n c)
    ∙ ap (λ m. record c { mcycle = m; minstret = ((c.minstret + suc n) % 2 ^ 64 + 1) % 2 ^ 64 }) (one-more c.mcycle (suc n))
    ∙ ap (λ m. record c { mcycle = (c.mcycle + suc (suc n)) % 2 ^ 64; minstret = m }) (one-more c.minstret (suc n))

pub retired_by-is : (n : ℕ) (c : CsrRegisters) → 0 < n
    → retired_by n c ≡ record c { mcycle = (c.mcycle + n) % 2 ^ 64; minstret = (c.minstret + n) % 2 ^ 64 }
retired_by-is zero c some = absurd (omega (arith, some))
retired_by-is (suc n) c some = retired_by-suc n c

pub count-none : (h : KeyedState) (n : ℕ) → n ≡ 0 → h ≡ counted_since n h h
unfolding retired_by timed_by
count-none h n none = subst (λ k. h ≡ counted_since k h h) (sym none) refl

not-due : (n : ℕ) (t : TimerRegisters) → t.mtimecmp < 2 ^ 64 → t.mtime + n < t.mtimecmp → is_due (timed_by n t) ≡ false
unfolding timed_by
not-due zero t fits early = grind (arith, nat_tests)
not-due (suc n) t fits early =
    let same : (t.mtime + suc n) % 2 ^ 64 ≡ t.mtime + suc n = omega arith in
    ap is_due (timed_by-suc n t) ∙ ap (nat_le t.mtimecmp) same ∙ grind (arith, nat_tests)

-- time comes to the compare register only after as many steps as it lies behind it
pub quiet-until : (n : ℕ) (s : State) → s.ports.timer.mtimecmp < 2 ^ 64 → n ≤ s.ports.timer.mtimecmp - s.ports.timer.mtime → IsQuiet n s
quiet-until n s fits most = λ k below.
    let early : s.ports.timer.mtime + k < s.ports.timer.mtimecmp = omega (arith, most, below) in
    retired_by-takes k s.csrs (is_due (timed_by k s.ports.timer)) ∙ ap (takes_interrupt s.csrs) (not-due k s.ports.timer fits early)

-- stretches that are counted, one after another
pub made-join : (a b : ℕ) (old mid new : KeyedState) → AreMade a old mid → AreMade b mid new → AreMade (a + b) old new
made-join a b old mid new first second = λ steps limit below.
    let whole : steps + a + b ≡ steps + (a + b) = omega arith in
    subst (λ k. IsRun (machine_of old steps limit None) (machine_of new k limit None) (a + b)) whole
    (IsRun-join (machine_of old steps limit None) (machine_of mid (steps + a) limit None) (machine_of new (steps + a + b) limit None) a b
    (first steps limit (omega (arith, below))) (second (steps + a) limit (omega (arith, below))))
