use Rattle.std.proofs.Common.{ap}
use Rattle.std.specs.Option.{is_some}
use Rattle.forest_model.specs.Memory.{effect_outcome, needs_at}
use Rattle.port_map.specs.Bus.{place_of}
use Rattle.vm_hart.proofs.HandingOver.{met-alike, waits-alike}
use Rattle.vm_hart.proofs.Waiting.{met-both, some-after, waits-before}
use Rattle.vm_hart.proofs.hart.Hart.wanted_at_port.Goals as goal

pub returns-in-Some-clause-some : goal.returns-in-Some-clause-some
returns-in-Some-clause-some c =
    let s = c.args.self.now.state in
    waits-before c.args.self.now.pages (needs_at (place_of c.args.address) c.args.width c.args.word s)
    (effect_outcome c.args.address c.args.width c.args.word s).footprint.needs c.in-Some.page c.in-Some.ensures.some

pub returns-in-Some-bytes_asked-clause-some : goal.returns-in-Some-bytes_asked-clause-some
returns-in-Some-bytes_asked-clause-some c =
    let s = c.args.self.now.state in
    some-after c.args.self.now.pages (needs_at (place_of c.args.address) c.args.width c.args.word s) (effect_outcome c.args.address c.args.width c.args.word s).footprint.needs
    (c.wanted_on_disk.ensures.none (ap is_some c.in_default.is)) c.wanted_bytes.result
    (waits-alike c.args.self.now.pages _ _ c.in-Some-bytes_asked.ensures.some c.wanted_bytes.result c.wanted_bytes.ensures.some)

pub returns-in-Some-bytes_asked-clause-none : goal.returns-in-Some-bytes_asked-clause-none
returns-in-Some-bytes_asked-clause-none c none =
    let s = c.args.self.now.state in
    met-both c.args.self.now.pages (needs_at (place_of c.args.address) c.args.width c.args.word s) (effect_outcome c.args.address c.args.width c.args.word s).footprint.needs
    (c.wanted_on_disk.ensures.none (ap is_some c.in_default.is)) (met-alike c.args.self.now.pages _ _ c.in-Some-bytes_asked.ensures.some (c.wanted_bytes.ensures.none none))

pub returns-in-None-clause-none : goal.returns-in-None-clause-none
returns-in-None-clause-none c none =
    let s = c.args.self.now.state in
    met-both c.args.self.now.pages (needs_at (place_of c.args.address) c.args.width c.args.word s) (effect_outcome c.args.address c.args.width c.args.word s).footprint.needs
    (c.wanted_on_disk.ensures.none (ap is_some c.in_default.is)) (met-alike c.args.self.now.pages _ _ (c.in-None.ensures.none none) tt)
