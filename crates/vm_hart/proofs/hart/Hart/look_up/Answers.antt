use Rattle.std.proofs.Common.{◌≡◌, ◌+◌, ◌%◌, ◌<◌, get_or, length, sym, ap, ◌∙◌, subst, arith}
use Rattle.rv_decode.specs.Table.{decoded}
use Rattle.instruction_slots.specs.Slots.{KeptInstruction, kept_by, place_of, slot_of}
use Rattle.vm_hart.specs.Kept.{IsKept, mode_tag}
use Rattle.vm_hart.specs.Keyed.{KeyedState}
use Rattle.vm_hart.proofs.Kept.{keeps-set, kept-put, reaches-word, tag-small}
use Rattle.vm_hart.proofs.hart.Hart.look_up.Goals as goal

pub overflow_add-tagged : goal.overflow_add-tagged
overflow_add-tagged c =
    let small = tag-small c.args.self.now.state.csrs.mode in
    let aligned = c.self.invariant.aligned in
    omega (arith, small, aligned, c.requires.tag)

pub returns-clause-keeps : goal.returns-clause-keeps
returns-clause-keeps c =
    let h : KeyedState = c.args.self.now in
    let epoch = c.args.epoch in
    let word = c.fetched-word.result in
    let number = c.slot_of-number.result in
    let slots = c.args.slots.now in
    let slot : KeptInstruction = get_or slots number c.index-slots-number.result in
    let pc : c.self.inside.pc ≡ h.state.pc = ap (λ (k : KeyedState). k.state.pc) c.self.view_is in
    let aligned = subst (λ p. p % 4 ≡ 0) pc c.self.invariant.aligned in
    let fits : c.self.inside.pc < 4294967296 = omega arith in
    let place : number ≡ slot_of h.state.pc (length slots) = c.slot_of-number.ensures.value ∙ ap (λ p. slot_of p (length slots)) pc in
    let put = kept-put h epoch (length slots) number word (decoded word) slot (c.requires.keeps number c.index-slots-number.result c.slot_of-number.ensures.inside)
    (subst (λ p. p < 4294967296) pc fits) aligned place (reaches-word h word c.in-Ram.offset c.in-Ram.ensures c.fetched-word.ensures) in
    let tagged : c.self.inside.pc + c.args.tag ≡ h.state.pc + mode_tag h.state.csrs.mode = ap (λ p. p + c.args.tag) pc ∙ ap (λ t. h.state.pc + t) c.requires.tag in
    keeps-set h epoch number slots c.keep.new.self c.requires.keeps c.slot_of-number.ensures.inside
    (subst (IsKept h epoch (length slots) number) (sym (c.keep.ensures ∙ ap (λ p. kept_by (decoded word) (place_of p epoch) word slot) tagged)) put)
