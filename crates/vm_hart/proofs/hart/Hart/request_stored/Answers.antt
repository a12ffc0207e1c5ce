use Rattle.std.proofs.Common.{◌≡◌, ap, ◌∙◌, subst, sym}
use Rattle.fork_port.specs.Commands.{fork_command}
use Rattle.sibling_port.specs.Commands.{sibling_command}
use Rattle.rv_decode.specs.Instruction.{Instruction}
use Rattle.forest_model.specs.State.{register}
use Rattle.forest_model.specs.Action.{rs2}
use Rattle.forest_model.specs.Execute.{execute}
use Rattle.forest_model.specs.Memory.{data_address, to_store}
use Rattle.vm_hart.specs.Keyed.{KeyedState}
use Rattle.vm_hart.specs.Calls.{AsksFor, call_asked, talk_asked_for}
use Rattle.vm_hart.proofs.Asks.{command, no-command, no-port-stored, talk-command}
use Rattle.vm_hart.proofs.Reaching.{reaches-no-port}
use Rattle.vm_hart.proofs.hart.Hart.request_stored.Goals as goal

pub returns-in_default : goal.returns-in_default
returns-in_default c = λ word.
    let at = c.data_address-address.ensures ∙ ap (λ (i : Instruction). data_address i c.args.self.now.state) c.of.ensures in
    no-port-stored c.args.instr word c.args.self.now.state _ c.requires (ap (λ a. to_store a 4) at)
    (reaches-no-port c.args.self.now _ c.reach.result c.reach.ensures c.in_default.not-Port)

pub returns-then-address : goal.returns-then-address
returns-then-address c = λ word.
    let at = c.data_address-address.ensures ∙ ap (λ (i : Instruction). data_address i c.args.self.now.state) c.of.ensures in
    let asks = command c.args.instr word c.args.self.now.state _ c.requires (ap (λ a. to_store a 4) at) c.in-Port.ensures (sym at ∙ c.if-address.true) in
    let word_is : c.register-word.result ≡ rs2 c.args.instr c.args.self.now.state =
    c.register-word.ensures ∙ ap (register c.args.self.now.state.registers) c.rs2.ensures.value in
    let same : c.call_in.result ≡ call_asked (fork_command c.args.self.now.state.ports.fork (rs2 c.args.instr c.args.self.now.state)) =
    c.call_in.ensures ∙ ap call_asked (c.asked.ensures ∙ ap (fork_command c.self.inside.ports.fork) word_is
    ∙ ap (λ (h : KeyedState). fork_command h.state.ports.fork (rs2 c.args.instr c.args.self.now.state)) c.self.view_is) in
    subst (AsksFor (execute c.args.instr word c.args.self.now.state) c.args.self.now.state) (sym same) asks

pub returns-then-address-2 : goal.returns-then-address-2
returns-then-address-2 c = λ word.
    let s = c.args.self.now.state in
    let at = c.data_address-address.ensures ∙ ap (λ (i : Instruction). data_address i c.args.self.now.state) c.of.ensures in
    let asks = talk-command c.args.instr word s _ c.requires (ap (λ a. to_store a 4) at) c.in-Port.ensures (sym at ∙ c.if-address-2.true) in
    let word_is : c.register-word.result ≡ rs2 c.args.instr s = c.register-word.ensures ∙ ap (register s.registers) c.rs2.ensures.value in
    let same : c.talk_in.result ≡ talk_asked_for (sibling_command s.ports.fork.clone_id s.ports.sibling (rs2 c.args.instr s)) =
    c.talk_in.ensures ∙ ap talk_asked_for (c.asked_of_sibling.ensures ∙ ap (sibling_command c.self.inside.ports.fork.clone_id c.self.inside.ports.sibling) word_is
    ∙ ap (λ (h : KeyedState). sibling_command h.state.ports.fork.clone_id h.state.ports.sibling (rs2 c.args.instr s)) c.self.view_is) in
    subst (AsksFor (execute c.args.instr word s) s) (sym same) asks

pub returns : goal.returns
returns c = λ word.
    let at = c.data_address-address.ensures ∙ ap (λ (i : Instruction). data_address i c.args.self.now.state) c.of.ensures in
    no-command c.args.instr word c.args.self.now.state c.requires (λ here. c.if-address.false (at ∙ here)) (λ here. c.if-address-2.false (at ∙ here))
