use Rattle.std.proofs.Common.{◌+◌, inl, inr, sym, ap, ◌∙◌}
use Rattle.port_map.specs.declared.TheConstants.{FORK_BASE}
use Rattle.fork_port.specs.declared.registers.TheConstants.{FORK_COMMAND}
use Rattle.fork_port.specs.Commands.{fork_command}
use Rattle.forest_model.specs.Memory.{effect_outcome}
use Rattle.vm_hart.specs.Keyed.{KeyedState}
use Rattle.vm_hart.proofs.Asks.{command-needs-bytes, command-needs-none, differ, elsewhere-needs}
use Rattle.vm_hart.proofs.hart.Hart.bytes_asked.Goals as goal

pub returns-then-width-ne4-clause-none : goal.returns-then-width-ne4-clause-none
returns-then-width-ne4-clause-none c is =
    elsewhere-needs c.args.address c.args.width c.args.word c.args.self.now.state (inl (differ c.args.width 4 c.if-width-ne4.true))

pub returns-then-address-clause-none : goal.returns-then-address-clause-none
returns-then-address-clause-none c is =
    elsewhere-needs c.args.address c.args.width c.args.word c.args.self.now.state (inr (differ c.args.address (FORK_BASE + FORK_COMMAND) c.if-address.true))

pub returns-in-ExitWith-clause-some : goal.returns-in-ExitWith-clause-some
returns-in-ExitWith-clause-some c =
    let s = c.args.self.now.state in
    let asks = ap (λ (h : KeyedState). fork_command h.state.ports.fork c.args.word) (sym c.self.view_is) ∙ sym c.asked.ensures ∙ c.in-ExitWith.is in
    ap (λ width. (effect_outcome c.args.address width c.args.word s).footprint.needs) c.if-width-ne4.false
    ∙ ap (λ address. (effect_outcome address 4 c.args.word s).footprint.needs) c.if-address.false
    ∙ command-needs-bytes c.args.word s _ _ _ asks

pub returns-in_default-clause-none : goal.returns-in_default-clause-none
returns-in_default-clause-none c none =
    let s = c.args.self.now.state in
    let asks = ap (λ (h : KeyedState). fork_command h.state.ports.fork c.args.word) (sym c.self.view_is) ∙ sym c.asked.ensures in
    ap (λ width. (effect_outcome c.args.address width c.args.word s).footprint.needs) c.if-width-ne4.false
    ∙ ap (λ address. (effect_outcome address 4 c.args.word s).footprint.needs) c.if-address.false
    ∙ command-needs-none c.args.word s (λ value from count is. c.in_default.not-ExitWith value from count (sym asks ∙ is))
