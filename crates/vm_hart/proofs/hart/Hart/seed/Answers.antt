use Rattle.std.proofs.Common.{subst, arith, rules}
use Rattle.std.proofs.lemmas.Grind.{common_steps}
use Rattle.guest_mem.specs.Ram.{disk_below}
use Rattle.vm_hart.specs.Keyed.{KeyedState}
use Rattle.vm_hart.specs.Seeds.{IsBlankMap}
use Rattle.vm_hart.proofs.Seeds.{blank_map}
use Rattle.vm_hart.proofs.hart.Hart.seed.Goals as goal

pub returns-clause-blank : goal.returns-clause-blank
returns-clause-blank c =
    subst (λ (h : KeyedState). IsBlankMap h.state.ram h.pages.blank) c.self.view_is (blank_map c.self.inside.memory c.pages.ensures.is_ram)

pub returns-in_err-blank-clause-blank : goal.returns-in_err-blank-clause-blank
returns-in_err-blank-clause-blank c =
    subst (λ (h : KeyedState). IsBlankMap h.state.ram h.pages.blank) c.self.view_is (blank_map c.self.inside.memory c.pages.ensures.is_ram)

pub returns-clause-value : goal.returns-clause-value
returns-clause-value c =
    let fields = c.fields.ensures.value (disk_below c.self.inside.memory.key) in
    first_of (search rules, cc, grind (arith, common_steps))
