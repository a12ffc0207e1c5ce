use Rattle.std.proofs.Common.{◌+◌, ◌<◌, length, sym, ap, ◌∙◌, subst, arith}
use Rattle.port_map.specs.Bus.{disk_page_at, place_of}
use Rattle.cow_disk.specs.Paged.{PagedDisk}
use Rattle.forest_model.specs.Memory.{needs_at, pages_on_disk}
use Rattle.guest_mem.specs.Ram.{disk_below}
use Rattle.vm_hart.specs.Acts.{IsMet, WaitsAt}
use Rattle.vm_hart.specs.Keyed.{KeyedState}
use Rattle.vm_hart.proofs.Ports.{one-met, one-waits}
use Rattle.vm_hart.proofs.hart.Hart.wanted_on_disk.Goals as goal

pub returns-in_default-clause-none : goal.returns-in_default-clause-none
returns-in_default-clause-none c none =
    let s = c.args.self.now.state in
    let below = disk_below c.self.inside.memory.key in
    let needs = ap (λ (k : KeyedState). pages_on_disk s (disk_page_at (place_of c.args.address) k.state.ports c.args.width c.args.word)) (sym c.self.view_is) in
    let touched = sym (c.touched.ensures.value below) ∙ c.in_default.is in
    subst (λ pages. IsMet pages c.args.self.now.pages) (sym (needs ∙ ap (pages_on_disk s) touched)) tt

pub overflow_add-result : goal.overflow_add-result
overflow_add-result c =
    let sectors = ap (λ (d : PagedDisk). d.sectors) c.disk.ensures in
    let ram = c.pages-pages.ensures in
    omega (arith, ram.value, ram.is_ram.most, c.in-Some.ensures.there, c.sectors.ensures.value, c.sectors.ensures.most, sectors)

pub returns-then-is_here-clause-none : goal.returns-then-is_here-clause-none
returns-then-is_here-clause-none c none =
    let h = c.self.inside in
    let below = disk_below h.memory.key in
    let there : c.in-Some.page < length h.ports.block.disk.pages = omega (arith, c.in-Some.ensures.there, c.self.invariant.entries) in
    one-met h.memory.here h.ports below c.self.invariant.entries c.args.self.now.state (ap (λ (k : KeyedState). k.state.ports) (sym c.self.view_is))
    (ap (λ (k : KeyedState). length k.state.ram) (sym c.self.view_is) ∙ c.pages-pages.ensures.is_ram.whole_pages) c.args.self.now.pages
    (ap (λ (k : KeyedState). k.pages.here) (sym c.self.view_is)) (place_of c.args.address) c.args.width c.args.word c.in-Some.page
    (sym (c.touched.ensures.value below) ∙ c.in-Some.is) there (sym c.is_here.ensures ∙ c.if-is_here.true)

pub returns-clause-some : goal.returns-clause-some
returns-clause-some c =
    let h = c.self.inside in
    let below = disk_below h.memory.key in
    let there : c.in-Some.page < length h.ports.block.disk.pages = omega (arith, c.in-Some.ensures.there, c.self.invariant.entries) in
    subst (λ n. WaitsAt (needs_at (place_of c.args.address) c.args.width c.args.word c.args.self.now.state) c.args.self.now.pages (n + c.in-Some.page)) (sym c.pages-pages.ensures.value)
    (one-waits h.memory.here h.ports below c.self.invariant.entries c.args.self.now.state (ap (λ (k : KeyedState). k.state.ports) (sym c.self.view_is))
    (ap (λ (k : KeyedState). length k.state.ram) (sym c.self.view_is) ∙ c.pages-pages.ensures.is_ram.whole_pages) c.args.self.now.pages
    (ap (λ (k : KeyedState). k.pages.here) (sym c.self.view_is)) (place_of c.args.address) c.args.width c.args.word c.in-Some.page
    (sym (c.touched.ensures.value below) ∙ c.in-Some.is) there (sym c.is_here.ensures ∙ c.if-is_here.false))
