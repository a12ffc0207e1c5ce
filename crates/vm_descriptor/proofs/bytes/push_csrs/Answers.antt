use Rattle.std.proofs.Common.{ℕ, ◌++◌, ◌∷◌, [], ap, ◌∙◌}
use Rattle.std.specs.List.{flat_map}
use Rattle.std.proofs.lemmas.Result.{on_ok_weaker}
use Rattle.rv_traps.specs.Registers.{interrupt_enable, modifies_privilege, previous_interrupt_enable, previous_mode}
use Rattle.vm_descriptor.specs.Described.{word}
use Rattle.vm_descriptor.proofs.Modes.{mstatus_small}
use Rattle.vm_descriptor.proofs.bytes.push_csrs.Goals as goal

pub mode_and_mstatus-requires : goal.mode_and_mstatus-requires
mode_and_mstatus-requires c =
    let csrs = c.args.csrs.now in
    mstatus_small csrs.mstatus (interrupt_enable csrs) (previous_interrupt_enable csrs) (previous_mode csrs) (modifies_privilege csrs) c.requires.mstatus

pub returns : goal.returns
returns c =
    let csrs = c.args.csrs.now in
    on_ok_weaker c.push_words.result
    (λ grew.
    grew
    ∙ ap (λ (w : ℕ). c.args.bytes.now.items ++ flat_map word (w ∷ csrs.mie ∷ csrs.mtvec ∷ csrs.mscratch ∷ csrs.mepc ∷ csrs.mcause ∷ csrs.mtval ∷ []))
    c.mode_and_mstatus.ensures)
    c.push_words.ensures
