use Rattle.std.proofs.Common.{◌≡◌, ℕ, ◌+◌, ◌-◌, ◌/◌, ◌%◌, ◌^◌, List, Some, true, sym, ap, ◌∙◌, subst}
use Rattle.std.proofs.lemmas.Bool.{eqb-true}
use Rattle.rv_decode.specs.Kinds.{group_of}
use Rattle.std.specs.Prelude.{slice_get}
use Rattle.byteorder.specs.Endian.{little_bytes}
use Rattle.elf_load.specs.declared.image.TheConstants.{RAM_BASE}
use Rattle.page_frames.specs.declared.page.TheConstants.{PAGE_SIZE}
use Rattle.flat_memory.specs.Flat.{put_bytes}
use Rattle.guest_pmp.specs.declared.access.Access.TheVariants as right
use Rattle.rv_exec.specs.Memory.{store_width}
use Rattle.rv_traps.specs.Protection.{allows}
use Rattle.forest_model.specs.State.{at_next_instruction, is_in_ram, register}
use Rattle.forest_model.specs.Memory.{data_address}
use Rattle.forest_model.specs.Footprint.{puts}
use Rattle.forest_model.specs.Paged.{pages_after}
use Rattle.vm_hart.specs.Keyed.{KeyedState}
use Rattle.vm_hart.proofs.Fast.{stores-here}
use Rattle.vm_hart.proofs.hart.Hart.store_here.Goals as goal

pub retire_at-requires : goal.retire_at-requires
retire_at-requires g c = c.next_pc-next.ensures ∙ sym (ap (λ (h : KeyedState). (h.state.pc + 4) % 2 ^ 32) c.if-not-put_here.ensures.1)

pub returns-clause-acts : goal.returns-clause-acts
returns-clause-acts g c =
    let old : KeyedState = c.args.self.now in
    let i = c.args.instr.now in
    let is = c.in-Some.ensures.placed in
    let offset = c.in-Some.offset in
    let named : ℕ = data_address c.args.instr.now c.args.self.now.state in
    let same : c.args.address ≡ named = c.requires.address in
    let place : offset ≡ named - RAM_BASE = is.place ∙ ap (λ a. a - RAM_BASE) same in
    let aligned = eqb-true (c.args.address % c.args.width) 0 is.aligned in
    let word = c.register-word.ensures ∙ ap (λ n. register old.state.registers n) c.rs2.ensures.value in
    let bytes : List ℕ = little_bytes c.args.width c.register-word.result in
    stores-here old c.retire_at.new.self i (subst (λ a. is_in_ram old.state.ram a ≡ true) same is.in_ram)
    (subst (λ o. slice_get old.pages.here (o / PAGE_SIZE) ≡ Some true) place c.if-not-put_here.ensures.0) bytes (ap group_of (sym c.requires.kind) ∙ c.requires.group)
    (subst (λ w. named % w ≡ 0) (c.requires.width ∙ ap store_width c.requires.kind) (subst (λ a. a % c.args.width ≡ 0) same aligned))
    (subst (λ a. allows old.state.csrs right.Store a ≡ true) same is.allowed)
    (ap (λ w. little_bytes w c.register-word.result) (c.requires.width ∙ ap store_width c.requires.kind) ∙ ap (little_bytes (store_width c.args.instr.now.kind)) word)
    (c.retire_at.ensures ∙ ap (λ (h : KeyedState). record h { state = at_next_instruction h.state }) c.if-not-put_here.ensures.1
    ∙ ap (λ o. record {
      state = at_next_instruction (record old.state { ram = put_bytes old.state.ram o bytes });
      pages = pages_after (puts (o / PAGE_SIZE)) old.pages;
      key = old.key;
    }) place)
