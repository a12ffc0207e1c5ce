use Rattle.std.proofs.Common.{◌≡◌, ℕ, ◌-◌, ◌/◌, ◌%◌, Some, true, sym, ap, ◌∙◌, subst}
use Rattle.std.proofs.lemmas.Bool.{eqb-true}
use Rattle.rv_decode.specs.Kinds.{group_of}
use Rattle.std.specs.Prelude.{slice_get}
use Rattle.byteorder.specs.Endian.{little_from}
use Rattle.elf_load.specs.declared.image.TheConstants.{RAM_BASE}
use Rattle.page_frames.specs.declared.page.TheConstants.{PAGE_SIZE}
use Rattle.guest_pmp.specs.declared.access.Access.TheVariants as right
use Rattle.rv_exec.specs.Memory.{load_value, load_width}
use Rattle.rv_traps.specs.Protection.{allows}
use Rattle.forest_model.specs.State.{at_next_instruction, is_in_ram, with_register}
use Rattle.forest_model.specs.Action.{with_rd}
use Rattle.forest_model.specs.Memory.{data_address}
use Rattle.vm_hart.specs.Keyed.{KeyedState}
use Rattle.vm_hart.proofs.Fast.{loads-here}
use Rattle.vm_hart.proofs.hart.Hart.load_fast.Goals as goal

pub returns-clause-acts : goal.returns-clause-acts
returns-clause-acts g c =
    let old : KeyedState = c.args.self.now in
    let i = c.args.instr.now in
    let is = c.in-Some.ensures.placed in
    let offset = c.in-Some.offset in
    let named : ℕ = data_address c.args.instr.now c.args.self.now.state in
    let same : c.data_address.result ≡ named = c.data_address.ensures in
    let place : offset ≡ named - RAM_BASE = is.place ∙ ap (λ a. a - RAM_BASE) same in
    let aligned = eqb-true (c.data_address.result % c.args.width) 0 is.aligned in
    let page = c.in-Ok.ensures.1 in
    loads-here old c.retire_into.new.self i (subst (λ a. is_in_ram old.state.ram a ≡ true) same is.in_ram)
    (subst (λ o. slice_get old.pages.here (o / PAGE_SIZE) ≡ Some true) place page) c.in-Ok.number (ap group_of (sym c.requires.kind) ∙ c.requires.group)
    (subst (λ w. named % w ≡ 0) (c.requires.width ∙ ap load_width c.requires.kind) (subst (λ a. a % c.args.width ≡ 0) same aligned))
    (subst (λ a. allows old.state.csrs right.Load a ≡ true) same is.allowed)
    (c.in-Ok.ensures.0
    ∙ ap (λ o. little_from o c.args.width old.state.ram) place ∙ ap (λ w. little_from (named - RAM_BASE) w old.state.ram) (c.requires.width ∙ ap load_width c.requires.kind))
    (c.retire_into.ensures
    ∙ ap (λ n. record old { state = at_next_instruction (record old.state { registers = with_register old.state.registers n c.load_value.result }) }) c.rd-rd.ensures.value
    ∙ ap (λ v. record old { state = at_next_instruction (with_rd i v old.state) })
    (c.load_value.ensures ∙ ap (λ k. load_value k c.in-Ok.number) c.requires.kind))
