-- What a hart answers of a load of a port and of a store to one.
use Rattle.std.proofs.Common.{◌≡◌, inr, ℕ, Bool, true, false, cond, None, Result, Ok, Err, OnErr, refl, sym, ap, ◌∙◌, subst, arith}
use Rattle.std.specs.declared.alloc.AllocError.{AllocError}
use Rattle.rv_decode.specs.Instruction.{Instruction}
use Rattle.rv_exec.specs.Memory.{load_value}
use Rattle.fork_port.specs.declared.commands.Call.{Call}
use Rattle.sibling_port.specs.declared.talk.Talk.{Talk}
use Rattle.fork_port.specs.declared.commands.Effect.{Effect}
use Rattle.fork_port.specs.declared.commands.Effect.TheVariants as effect
use Rattle.port_map.specs.Bus.{place_of, port_load, port_store}
use Rattle.forest_model.specs.declared.Written.TheVariants.{Nothing, Time}
use Rattle.forest_model.specs.declared.cause.TheConstants.{LOAD_ACCESS_FAULT, STORE_ACCESS_FAULT}
use Rattle.forest_model.specs.Action.{ask, speak, exit, retire, retire_next, with_rd}
use Rattle.forest_model.specs.Footprint.{no_change, no_footprint, zeroes}
use Rattle.forest_model.specs.Memory.{Outcome, bytes_at, effect_outcome, is_byte_range, is_page_range, needs_at, outcome, port_outcome, read_action, stored_outcome, zeroed}
use Rattle.forest_model.specs.Paged.{Pages, pages_after}
use Rattle.forest_model.specs.State.{State, at_next_instruction}
use Rattle.vm_hart.specs.Acts.{Acts, HandsOver, HasActed, HasChanged, HasRead, HasStored, IsMet, StoreGrows, TakesMemory, Tells, WaitsAt, bytes_needs}
use Rattle.vm_hart.specs.Keyed.{KeyedState}
use Rattle.vm_hart.specs.declared.hart.Acted.{Acted}
use Rattle.vm_hart.specs.declared.hart.Acted.TheVariants.{Stalled, Trapped, Interrupted, Retired, Exited, Asked}
use Rattle.vm_hart.specs.declared.hart.Request.TheVariants as request
use Rattle.vm_hart.proofs.Asks.{handed-needs}
use Rattle.vm_hart.proofs.Waiting.{met-first, met-second, waits-after}

-- ---- a load

module _ (old new : KeyedState) (i : Instruction) (address width : ℕ) where
  abbrev LoadActs : Acted → Type 0
  LoadActs acted = Acts old new no_footprint (read_action (port_load old.state.ports address width) i address old.state) (Ok acted)

  pub read-acts : (between : KeyedState) (value : ℕ) (acted : Acted) → HasRead old between address width value → acted ≡ Retired Nothing
      → new ≡ record between { state = at_next_instruction (with_rd i (load_value i.kind value) between.state) } → LoadActs acted
  read-acts between value acted read told is = subst (λ a. LoadActs a) (sym told) (record {
    met = tt;
    tells =
        ap (λ r. read_action r i address old.state) read.is
        ∙ ap (λ (h : KeyedState). retire_next (with_rd i (load_value i.kind value) h.state)) (sym read.rest)
        ∙ ap (λ (h : KeyedState). retire Nothing h.state) (sym is);
    changed = (
      ap (λ (h : KeyedState). h.pages) is ∙ ap (λ (h : KeyedState). h.pages) read.rest,
      ap (λ (h : KeyedState). h.key) is ∙ ap (λ (h : KeyedState). h.key) read.rest,
    );
  })

  pub unread-acts : (acted : Acted) → port_load old.state.ports address width ≡ None → acted ≡ Trapped LOAD_ACCESS_FAULT address → new ≡ old → LoadActs acted
  unread-acts acted none told same = subst (λ a. LoadActs a) (sym told) (record {
    met = tt;
    tells = (ap (λ r. read_action r i address old.state) none, ap (λ (h : KeyedState). h.state) same);
    changed = (ap (λ (h : KeyedState). h.pages) same, ap (λ (h : KeyedState). h.key) same);
  })

-- ---- a store

zeroed-next : (in_range : Bool) (first count : ℕ) (s : State) → zeroed in_range first count (at_next_instruction s) ≡ at_next_instruction (zeroed in_range first count s)
zeroed-next false first count s = refl
zeroed-next true first count s = refl

module _ (old between : KeyedState) (address width word : ℕ) (e : Effect) (stored : HasStored old between address width word e) where
  outcome-is : effect_outcome address width word old.state ≡ outcome e (at_next_instruction between.state)
  outcome-is =
      ap (λ r. stored_outcome r address old.state) stored.is ∙ ap (λ (h : KeyedState). outcome e (at_next_instruction h.state)) (sym stored.rest)

  -- the ports change alone
  same-pages : between.pages ≡ old.pages
  same-pages = ap (λ (h : KeyedState). h.pages) stored.rest

  same-key : between.key ≡ old.key
  same-key = ap (λ (h : KeyedState). h.key) stored.rest

  next-changed : (new : KeyedState) (s : State) → new ≡ record between { state = s } → HasChanged no_change old new
  next-changed new s is = (ap (λ (h : KeyedState). h.pages) is ∙ same-pages, ap (λ (h : KeyedState). h.key) is ∙ same-key)

module _ (old between : KeyedState) (address width word : ℕ) (met : IsMet (port_outcome address width word old.state).footprint.needs old.pages) where
  abbrev StoreActs : KeyedState → Result Acted AllocError → Type 0
  StoreActs new result = Acts old new (port_outcome address width word old.state).footprint (port_outcome address width word old.state).action result

  -- the page of the disk that it needs is here
  pub disk-met : IsMet (needs_at (place_of address) width word old.state) old.pages
  disk-met = met-first old.pages (needs_at (place_of address) width word old.state) (effect_outcome address width word old.state).footprint.needs met

  effect-met : IsMet (effect_outcome address width word old.state).footprint.needs old.pages
  effect-met = met-second old.pages (needs_at (place_of address) width word old.state) (effect_outcome address width word old.state).footprint.needs met

  module _ (e : Effect) (stored : HasStored old between address width word e) where
    -- by what it does to the machine
    by-outcome : (new : KeyedState) (acted : Acted) → Tells old new (outcome e (at_next_instruction between.state)).action acted
        → HasChanged (outcome e (at_next_instruction between.state)).footprint.changes old new
        → HasActed old new (port_outcome address width word old.state).footprint (port_outcome address width word old.state).action acted
    by-outcome new acted tells changed =
        let same = sym (outcome-is old between address width word e stored) in
        record {
          met = met;
          tells = subst (λ (o : Outcome). Tells old new o.action acted) same tells;
          changed = subst (λ (o : Outcome). HasChanged o.footprint.changes old new) same changed;
        }

    by-acts : (new : KeyedState) (acted : Acted)
        → Acts old new (outcome e (at_next_instruction between.state)).footprint (outcome e (at_next_instruction between.state)).action (Ok acted) → StoreActs new (Ok acted)
    by-acts new (Stalled page) h = (
      waits-after old.pages (needs_at (place_of address) width word old.state) (effect_outcome address width word old.state).footprint.needs page disk-met
          (subst (λ (o : Outcome). WaitsAt o.footprint.needs old.pages page) (sym (outcome-is old between address width word e stored)) h.0),
      h.1,
    )
    by-acts new (Trapped cause value) h = by-outcome new (Trapped cause value) h.tells h.changed
    by-acts new Interrupted h = by-outcome new Interrupted h.tells h.changed
    by-acts new (Retired written) h = by-outcome new (Retired written) h.tells h.changed
    by-acts new (Exited value from count) h = by-outcome new (Exited value from count) h.tells h.changed
    by-acts new (Asked r) h = by-outcome new (Asked r) h.tells h.changed

  pub done-acts : (new : KeyedState) (acted : Acted) → HasStored old between address width word effect.Done → acted ≡ Retired Nothing
      → new ≡ record between { state = at_next_instruction between.state } → StoreActs new (Ok acted)
  done-acts new acted stored told is = subst (λ a. StoreActs new (Ok a)) (sym told)
      (by-outcome effect.Done stored new (Retired Nothing) (ap (λ (h : KeyedState). retire Nothing h.state) (sym is))
      (next-changed old between address width word effect.Done stored new (at_next_instruction between.state) is))

  pub time-acts : (new : KeyedState) → HasStored old between address width word effect.TimeWritten
      → new ≡ record between { state = at_next_instruction between.state } → StoreActs new (Ok (Retired Time))
  time-acts new stored is =
      by-outcome effect.TimeWritten stored new (Retired Time) (ap (λ (h : KeyedState). retire Time h.state) (sym is))
      (next-changed old between address width word effect.TimeWritten stored new (at_next_instruction between.state) is)

  pub call-acts : (call : Call) → HasStored old between address width word (effect.Call call) → StoreActs between (Ok (Asked (request.Call call)))
  call-acts call stored =
      by-outcome (effect.Call call) stored between (Asked (request.Call call))
      (ap (λ (h : KeyedState). ask call (at_next_instruction h.state)) stored.leaves.0, ap (λ (h : KeyedState). h.state) stored.leaves.0, stored.leaves.1)
      (ap (λ (h : KeyedState). h.pages) stored.leaves.0, ap (λ (h : KeyedState). h.key) stored.leaves.0)

  pub talk-acts : (talk : Talk) → HasStored old between address width word (effect.Talk talk) → StoreActs between (Ok (Asked (request.Talk talk)))
  talk-acts talk stored =
      by-outcome (effect.Talk talk) stored between (Asked (request.Talk talk))
      (ap (λ (h : KeyedState). speak talk (at_next_instruction h.state)) stored.leaves.0, ap (λ (h : KeyedState). h.state) stored.leaves.0, stored.leaves.1)
      (ap (λ (h : KeyedState). h.pages) stored.leaves.0, ap (λ (h : KeyedState). h.key) stored.leaves.0)

  -- EXIT hands over no bytes
  pub exit-acts : (new : KeyedState) (value : ℕ) (acted : Acted) → HasStored old between address width word (effect.Exit value) → acted ≡ Exited value 0 0
      → new ≡ record between { state = at_next_instruction between.state } → StoreActs new (Ok acted)
  exit-acts new value acted stored told is = subst (λ a. StoreActs new (Ok a)) (sym told)
      (by-outcome (effect.Exit value) stored new (Exited value 0 0)
      (ap (λ (h : KeyedState). exit value (bytes_at 0 0 h.state) h.state) (sym is), record { few = omega arith; in_range = refl; met = tt })
      (next-changed old between address width word (effect.Exit value) stored new (at_next_instruction between.state) is))

  -- the pages of the bytes that EXIT hands over are here
  pub bytes-met : (value from count : ℕ) → HasStored old between address width word (effect.ExitWith value from count)
      → IsMet (bytes_needs between.state from count) between.pages
  bytes-met value from count stored =
      let e = effect.ExitWith value from count in
      let needs = ap (λ (o : Outcome). o.footprint.needs) (outcome-is old between address width word e stored)
      ∙ handed-needs (is_byte_range from count between.state.ram) value from count between.state in
      subst (λ (p : Pages). IsMet (bytes_needs between.state from count) p) (sym (same-pages old between address width word e stored))
      (subst (λ n. IsMet n old.pages) needs effect-met)

  pub bytes-acts : (new : KeyedState) (value from count : ℕ) (acted : Acted) → HasStored old between address width word (effect.ExitWith value from count)
      → HandsOver between new value from count acted → StoreActs new (Ok acted)
  bytes-acts new value from count acted stored hands =
      let e = effect.ExitWith value from count in
      let over : Outcome = outcome e (at_next_instruction between.state) in
      by-acts e stored new acted (subst (λ (h : KeyedState). Acts h new over.footprint over.action (Ok acted)) stored.leaves.0 hands)

  pub zero-acts : (after new : KeyedState) (first count : ℕ) (acted : Acted) → HasStored old between address width word (effect.Zero first count)
      → after.state ≡ zeroed (is_page_range first count between.state.ram) first count between.state
      → after.pages ≡ pages_after (cond (is_page_range first count between.state.ram) (zeroes first count) no_change) between.pages → after.key ≡ between.key
      → acted ≡ Retired Nothing → new ≡ record after { state = at_next_instruction after.state } → StoreActs new (Ok acted)
  zero-acts after new first count acted stored state pages key told is =
      let e = effect.Zero first count in
      let in_range = is_page_range first count between.state.ram in
      subst (λ a. StoreActs new (Ok a)) (sym told)
      (by-outcome e stored new (Retired Nothing)
      (ap (λ (s : State). retire Nothing s) (zeroed-next in_range first count between.state)
      ∙ ap (λ (s : State). retire_next s) (sym state) ∙ ap (λ (h : KeyedState). retire Nothing h.state) (sym is)) (
        ap (λ (h : KeyedState). h.pages) is ∙ pages
            ∙ ap (pages_after (cond in_range (zeroes first count) no_change)) (same-pages old between address width word e stored),
        ap (λ (h : KeyedState). h.key) is ∙ key ∙ same-key old between address width word e stored,
      ))

  pub unzeroed : (new : KeyedState) (first count : ℕ) (r : Result Acted AllocError) (e : AllocError) → r ≡ Err e → HasStored old between address width word (effect.Zero first count)
      → new ≡ between → StoreActs new r
  unzeroed new first count r e is stored same = subst (λ r. StoreActs new r) (sym is) (met, same ∙ stored.leaves)

  pub fault-acts : (acted : Acted) → port_store old.state.ports address width word ≡ None → acted ≡ Trapped STORE_ACCESS_FAULT address → between ≡ old
      → StoreActs between (Ok acted)
  fault-acts acted none told same =
      let is : effect_outcome address width word old.state ≡ stored_outcome None address old.state = ap (λ r. stored_outcome r address old.state) none in
      subst (λ a. StoreActs between (Ok a)) (sym told) (record {
        met = met;
        tells = (ap (λ (o : Outcome). o.action) is, ap (λ (h : KeyedState). h.state) same);
        changed = subst (λ (o : Outcome). HasChanged o.footprint.changes old between) (sym is)
            (ap (λ (h : KeyedState). h.pages) same, ap (λ (h : KeyedState). h.key) same);
      })

-- pages that are made zeros may want memory
pub zero-grows : (old between : KeyedState) (address width word first count : ℕ) (r : Result Acted AllocError) (e : AllocError) → r ≡ Err e
    → HasStored old between address width word (effect.Zero first count) → is_page_range first count between.state.ram ≡ true
    → OnErr r (StoreGrows address width word old.state)
zero-grows old between address width word first count r e is stored in_range =
    let changes = ap (λ (o : Outcome). o.footprint.changes) (outcome-is old between address width word (effect.Zero first count) stored)
    ∙ ap (λ b. cond b (zeroes first count) no_change) in_range in
    subst (λ (r : Result Acted AllocError). OnErr r (StoreGrows address width word old.state)) (sym is) (inr (subst TakesMemory (sym changes) tt))
