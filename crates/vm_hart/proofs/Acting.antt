-- The coming step of a hart: the page that it waits for, what it does, and the call or the talk that it is.
use Rattle.std.proofs.Common.{◌≡◌, ℕ, ◌⊎◌, inl, inr, true, false, List, [], ◌∷◌, Option, Some, None, Result, Ok, Err, IsSome, refl, sym, ap, ◌∙◌, subst}
use Rattle.std.specs.Option.{IfSome}
use Rattle.std.specs.Prelude.{IsNone, IsSomeAnd, OnErr}
use Rattle.std.specs.declared.alloc.AllocError.{AllocError}
use Rattle.rv_decode.specs.Instruction.{Instruction}
use Rattle.rv_decode.specs.Table.{decoded}
use Rattle.rv_traps.specs.Trap.{takes_interrupt}
use Rattle.forest_model.specs.declared.cause.TheConstants.{INSTRUCTION_ACCESS_FAULT}
use Rattle.forest_model.specs.State.{State, is_timer_due, at_next_instruction}
use Rattle.forest_model.specs.Action.{Action, trap, interrupt}
use Rattle.forest_model.specs.Access.{Reached, faulted, of_ram, of_port, page_of, reached, fetch_access}
use Rattle.forest_model.specs.Footprint.{Footprint, no_footprint}
use Rattle.forest_model.specs.Execute.{action, action_by, coming_instruction, decoded_action, execute, fetch_action, fetched, instruction_at, instruction_by}
use Rattle.forest_model.specs.Machine.{next_of}
use Rattle.forest_model.specs.Touch.{footprint_at, footprint_from, footprint_of, footprint_step}
use Rattle.forest_model.specs.Paged.{first_absent, pages_after}
use Rattle.forest_model.proofs.Accesses.{of_ram-is}
use Rattle.forest_model.proofs.Once.{absent-each_once}
use Rattle.vm_hart.specs.Acts.{Acts, ActsBy, ActsNext, Grows, HasActed, HasChanged, InstructionGrows, IsMet, Reaches, Tells, WaitsAt, changing, waits_for}
use Rattle.vm_hart.specs.Keyed.{KeyedState, IsAbsent, IsHere}
use Rattle.vm_hart.specs.Calls.{AsksFor, AsksNext}
use Rattle.vm_hart.specs.Requests.{asks_for, requested}
use Rattle.vm_hart.specs.declared.hart.Request.{Request}
use Rattle.vm_hart.specs.declared.hart.Request.TheVariants as request
use Rattle.vm_hart.specs.declared.hart.Acted.{Acted}
use Rattle.vm_hart.specs.declared.hart.Acted.TheVariants.{Stalled, Trapped, Interrupted, Retired, Exited, Asked}
use Rattle.vm_hart.specs.declared.hart.access.Reach.{Reach}
use Rattle.vm_hart.specs.declared.hart.access.Reach.TheVariants as reach
use Rattle.vm_hart.proofs.Asks.{request-asks-nothing}
use Rattle.vm_hart.proofs.Waiting.{met-none, one-absent, one-here, waits-first}

-- what an action asks for
pub asked-for : (r : Request) (s : State) → requested (next_of (asks_for r s)) ≡ Some r
asked-for (request.Call c) s = refl
asked-for (request.Talk t) s = refl

-- ---- an interrupt

module _ (h : KeyedState) (taken : takes_interrupt h.state.csrs (is_timer_due h.state) ≡ true) where
  interrupt-asks : footprint_from None h.state ≡ no_footprint
  interrupt-asks = ap (λ b. footprint_step b h.state) taken

  pub interrupt-waits : waits_for h ≡ None
  unfolding first_absent
  interrupt-waits = ap (λ (f : Footprint). first_absent h.pages.here f.needs) interrupt-asks

  interrupt-is : action h.state ≡ interrupt
  unfolding action
  interrupt-is = ap (λ b. action_by b h.state) taken

  pub interrupt-acts : ActsNext h h (Ok Interrupted)
  interrupt-acts = (
    interrupt-waits,
    record {
      met = tt;
      tells = (interrupt-is, refl);
      changed = (ap (λ (f : Footprint). pages_after f.changes h.pages) (sym interrupt-asks), refl);
    },
  )

-- ---- a step that fetches

module _ (h : KeyedState) (taken : takes_interrupt h.state.csrs (is_timer_due h.state) ≡ false) where
  abbrev code : ℕ
  code = page_of h.state.pc

  -- by what the fetch comes to
  module _ (r : Reached) (e : reached (fetch_access h.state) h.state ≡ r) where
    asks-by : footprint_from None h.state ≡ footprint_at r h.state
    asks-by = ap (λ b. footprint_step b h.state) taken ∙ ap (λ q. footprint_at q h.state) e

    coming-by : coming_instruction h.state ≡ instruction_at r h.state
    unfolding coming_instruction
    coming-by = ap (λ b. instruction_by b h.state) taken ∙ ap (λ q. instruction_at q h.state) e

    action-by : action h.state ≡ fetch_action r h.state
    unfolding action
    action-by = ap (λ b. action_by b h.state) taken ∙ ap (λ q. fetch_action q h.state) e

    -- it comes to no instruction
    module _ (cause : ℕ) (nothing : footprint_at r h.state ≡ no_footprint) (is : fetch_action r h.state ≡ trap cause h.state.pc) where
      pub fault-waits : waits_for h ≡ None
      unfolding first_absent
      fault-waits = ap (λ (f : Footprint). first_absent h.pages.here f.needs) (asks-by ∙ nothing)

      pub fault-acts : (acted : Acted) → acted ≡ Trapped cause h.state.pc → ActsNext h h (Ok acted)
      fault-acts acted told = subst (λ a. ActsNext h h (Ok a)) (sym told) (
        fault-waits,
        record {
          met = tt;
          tells = (action-by ∙ is, refl);
          changed = (ap (λ (f : Footprint). pages_after f.changes h.pages) (sym (asks-by ∙ nothing)), refl);
        },
      )

      pub fault-asks : AsksNext h None
      fault-asks = inr (ap (λ a. requested (next_of a)) (action-by ∙ is))

  -- it reaches no RAM
  pub outside-waits : (r : Reach) → Reaches h (fetch_access h.state) r → ((cause : ℕ) × (r ≡ reach.Faulted cause)) ⊎ (r ≡ reach.Port)
      → waits_for h ≡ None
  outside-waits r reaches (inl faults) =
      fault-waits (faulted faults.0) (subst (Reaches h (fetch_access h.state)) faults.1 reaches) faults.0 refl refl
  outside-waits r reaches (inr port) =
      fault-waits of_port (subst (Reaches h (fetch_access h.state)) port reaches) INSTRUCTION_ACCESS_FAULT refl refl

  -- it comes to RAM
  module _ (page : ℕ) (e : reached (fetch_access h.state) h.state ≡ of_ram (Some page)) where
    code-page : page ≡ code
    code-page = let needs = (of_ram-is (fetch_access h.state) h.state (Some page) e).needs in cc

    -- what the instruction asks of the pages, if it is one
    abbrev asked : Footprint
    asked = footprint_of (decoded (fetched h.state)) h.state

    fetch-waits : waits_for h ≡ first_absent h.pages.here (code ∷ asked.needs)
    fetch-waits =
        ap (λ (f : Footprint). first_absent h.pages.here f.needs) (asks-by (of_ram (Some page)) e)
        ∙ absent-each_once h.pages.here (code ∷ asked.needs)

    pub absent-waits : IsAbsent h.pages page → waits_for h ≡ Some page
    absent-waits absent =
        fetch-waits ∙ one-absent h.pages code (subst (IsAbsent h.pages) code-page absent) asked.needs ∙ ap (λ p. Some p) (sym code-page)

    pub absent-acts : IsAbsent h.pages page → ActsNext h h (Ok (Stalled page))
    absent-acts absent = (absent-waits absent, refl)

    pub absent-asks : IsAbsent h.pages page → AsksNext h None
    absent-asks absent = inl (subst IsSome (sym (absent-waits absent)) refl)

    module _ (here : IsHere h.pages page) where
      code-here : waits_for h ≡ first_absent h.pages.here asked.needs
      code-here = fetch-waits ∙ one-here h.pages code (subst (IsHere h.pages) code-page here) asked.needs

      -- by the pages of the data
      pub data-waits : IsMet asked.needs h.pages → waits_for h ≡ None
      data-waits met = code-here ∙ met-none h.pages asked.needs met

      pub data-waits_for : (p : ℕ) → WaitsAt asked.needs h.pages p → waits_for h ≡ Some p
      data-waits_for p waits = code-here ∙ waits-first h.pages asked.needs p waits

      abbrev action_now : Action
      action_now = decoded_action (decoded (fetched h.state)) (fetched h.state) h.state

      done : (new : KeyedState) (acted : Acted) → HasActed h new asked action_now acted
          → (waits_for h ≡ None) × HasActed h new (changing (footprint_from None h.state)) (action h.state) acted
      done new acted by = (
        data-waits by.met,
        record {
          met = tt;
          tells = subst (λ a. Tells h new a acted) (sym (action-by (of_ram (Some page)) e)) by.tells;
          changed = subst (λ (f : Footprint). HasChanged f.changes h new) (sym (asks-by (of_ram (Some page)) e)) by.changed;
        },
      )

      next-by : (new : KeyedState) (result : Result Acted AllocError) → Acts h new asked action_now result → ActsNext h new result
      next-by new (Ok (Stalled p)) acts = (data-waits_for p acts.0, acts.1)
      next-by new (Ok (Trapped cause value)) acts = done new (Trapped cause value) acts
      next-by new (Ok Interrupted) acts = done new Interrupted acts
      next-by new (Ok (Retired written)) acts = done new (Retired written) acts
      next-by new (Ok (Exited value address count)) acts = done new (Exited value address count) acts
      next-by new (Ok (Asked r)) acts = done new (Asked r) acts
      next-by new (Err e) acts = (data-waits acts.0, (tt, acts.1))

      pub next-acts : (new : KeyedState) (word : ℕ) (result : Result Acted AllocError) → word ≡ fetched h.state
          → ActsBy h new (decoded word) word result → ActsNext h new result
      next-acts new word result is acts = next-by new result (subst (λ w. ActsBy h new (decoded w) w result) is acts)

      pub next-grows : (word : ℕ) (result : Result Acted AllocError) → word ≡ fetched h.state
          → OnErr result (IsSomeAnd (decoded word) (λ i. InstructionGrows i h.state)) → OnErr result (Grows h.state)
      unfolding Grows
      next-grows word result is grows =
          subst (λ d. OnErr result (IsSomeAnd d (λ i. InstructionGrows i h.state))) (ap decoded is ∙ sym (coming-by (of_ram (Some page)) e)) grows

      -- by the instruction
      module _ (i : Instruction) (is : decoded (fetched h.state) ≡ Some i) where
        abbrev needs : List ℕ
        needs = (footprint_of (Some i) h.state).needs

        asked-is : asked.needs ≡ needs
        asked-is = ap (λ d. (footprint_of d h.state).needs) is

        executes : action h.state ≡ execute i (fetched h.state) h.state
        executes = action-by (of_ram (Some page)) e ∙ ap (λ d. decoded_action d (fetched h.state) h.state) is

        pub wanted-is : (wanted : Option ℕ) → IfSome wanted (WaitsAt needs h.pages) → (IsNone wanted → IsMet needs h.pages) → wanted ≡ waits_for h
        wanted-is None some none = sym (data-waits (subst (λ n. IsMet n h.pages) (sym asked-is) (none refl)))
        wanted-is (Some p) some none = sym (data-waits_for p (subst (λ n. WaitsAt n h.pages p) (sym asked-is) some))

        pub instruction-asks : (r : Option Request) → ((word : ℕ) → AsksFor (execute i word h.state) h.state r) → AsksNext h r
        instruction-asks None asks = inr (ap (λ a. requested (next_of a)) executes ∙ asks (fetched h.state))
        instruction-asks (Some r) asks =
            let is_asked : execute i (fetched h.state) h.state ≡ asks_for r (at_next_instruction h.state) = asks (fetched h.state) in
            let none : needs ≡ [] =
            ap (λ (f : Footprint). f.needs) (request-asks-nothing i (fetched h.state) h.state r (ap (λ a. requested (next_of a)) is_asked ∙ asked-for r (at_next_instruction h.state))) in
            (data-waits (subst (λ n. IsMet n h.pages) (sym (asked-is ∙ none)) tt), executes ∙ is_asked)

      -- or by a word that says none
      module _ (is : decoded (fetched h.state) ≡ None) where
        pub illegal-waits : waits_for h ≡ None
        illegal-waits = data-waits (subst (λ d. IsMet (footprint_of d h.state).needs h.pages) (sym is) tt)

  -- it comes to no word
  pub unfetched-asks : (r : Reach) → Reaches h (fetch_access h.state) r
      → ((cause : ℕ) × (r ≡ reach.Faulted cause)) ⊎ (((page : ℕ) × (r ≡ reach.Absent page)) ⊎ (r ≡ reach.Port)) → AsksNext h None
  unfetched-asks r reaches (inl faults) =
      fault-asks (faulted faults.0) (subst (Reaches h (fetch_access h.state)) faults.1 reaches) faults.0 refl refl
  unfetched-asks r reaches (inr (inl waits)) =
      let absent = subst (Reaches h (fetch_access h.state)) waits.1 reaches in absent-asks waits.0 absent.0 absent.1
  unfetched-asks r reaches (inr (inr port)) =
      fault-asks of_port (subst (Reaches h (fetch_access h.state)) port reaches) INSTRUCTION_ACCESS_FAULT refl refl
