use Rattle.std.proofs.Common.{◌≡◌, ℕ, ◌<◌, false, eqb, sym, subst, arith}
use Rattle.std.proofs.lemmas.Bool.Decides.{nat_tests}
use Rattle.std.proofs.lemmas.List.{length-take}
use Rattle.cow_disk.specs.Paged.{here_pages}
use Rattle.vm_hart.specs.Acts.{IsReadable}
use Rattle.vm_hart.specs.Keyed.{KeyedState}
use Rattle.vm_hart.proofs.HandingOver.{byte-here}
use Rattle.vm_hart.proofs.hart.Hart.handed.Goals as goal

pub read-requires-clause-here : goal.read-requires-clause-here
read-requires-clause-here c k within =
    let h = c.self.inside in
    let readable = subst (λ (v : KeyedState). IsReadable v c.args.address c.args.count) (sym c.self.view_is) c.requires in
    let some : eqb c.args.count 0 ≡ false = grind (arith, nat_tests) in
    let below : k < c.args.count = omega (arith, within, length-take {A = ℕ}) in
    byte-here h.memory.here (here_pages h.ports.block.disk) h.memory.blank h.memory.reads c.args.address c.args.count k c.pages.ensures.is_ram.whole_pages
    readable.few readable.in_range some readable.met below
