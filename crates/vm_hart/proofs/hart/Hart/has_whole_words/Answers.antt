use Rattle.std.proofs.Common.{◌≡◌, ◌%◌, length, subst, arith}
use Rattle.vm_hart.specs.Keyed.{KeyedState}
use Rattle.vm_hart.proofs.hart.Hart.has_whole_words.Goals as goal

pub returns : goal.returns
returns c =
    subst (λ (h : KeyedState). length h.state.ram % 4 ≡ 0) c.self.view_is (omega (arith, c.size.ensures.value, c.size.ensures.whole_pages))
