use Rattle.std.proofs.Common.{ℕ, ◌+◌, ◌++◌, ◌∷◌, [], ap, ◌∙◌}
use Rattle.std.specs.List.{flat_map}
use Rattle.block_port.specs.Block.{status_word}
use Rattle.vm_descriptor.specs.Fields.{address_of, mode_bit, reserved_of}
use Rattle.vm_descriptor.specs.Described.{word, double}
use Rattle.vm_descriptor.proofs.Appended.{onto}
use Rattle.vm_descriptor.proofs.descriptor.Descriptor.push_fields.Goals as goal

pub returns : goal.returns
returns c =
    let d = c.args.self.now in
    let with_ports = λ (line status : ℕ). flat_map word (d.console.place ∷ line ∷ d.block.sector ∷ status ∷ d.argument_0 ∷ d.argument_1 ∷ d.join_select ∷ d.granted ∷ []) in
    let ports = with_ports d.console.line_control (status_word d.block.status) in
    let as_read = ap (λ line. with_ports line c.word.result) c.from.ensures ∙ ap (with_ports d.console.line_control) c.word.ensures in
    let reserved = flat_map word (reserved_of d.reservation ∷ address_of d.reservation ∷ []) in
    let counters = flat_map double (d.csrs.mcycle ∷ d.csrs.minstret ∷ d.timer.mtime ∷ d.timer.mtimecmp ∷ d.steps ∷ d.limit ∷ []) in
    let csrs = flat_map word ((mode_bit d.csrs.mode + d.csrs.mstatus) ∷ d.csrs.mie ∷ d.csrs.mtvec ∷ d.csrs.mscratch ∷ d.csrs.mepc ∷ d.csrs.mcause ∷ d.csrs.mtval ∷ []) in
    let registers = flat_map word d.registers in
    let first = flat_map word (d.image ∷ d.pages ∷ d.clone_id ∷ d.share ∷ d.pc ∷ []) in
    onto c.args.bytes.now.items c.args.version.now.mark (first ++ (registers ++ (csrs ++ (counters ++ (reserved ++ ports))))) c.in_ok-extend_from_slice.ensures.items
    (onto _ first (registers ++ (csrs ++ (counters ++ (reserved ++ ports)))) c.in_ok-push_words.ensures
    (onto _ registers (csrs ++ (counters ++ (reserved ++ ports))) c.in_ok-push_words-2.ensures
    (onto _ csrs (counters ++ (reserved ++ ports)) c.in_ok-push_csrs.ensures
    (onto _ counters (reserved ++ ports) c.in_ok-push_doubles.ensures
    (onto _ reserved ports (c.in_ok-push_words-3.ensures ∙ ap (λ xs. c.push_doubles.new.bytes.items ++ flat_map word xs) c.reservation_words.ensures)
    (c.in_ok-push_words-4.ensures ∙ ap (λ xs. c.push_words-3.new.bytes.items ++ xs) as_read))))))
