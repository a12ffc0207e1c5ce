use Rattle.std.proofs.Common.{◌≡◌, ◌/◌, ◌<◌, length, sym, subst}
use Rattle.std.specs.Prelude.{MatchBool}
use Rattle.byteorder.specs.Endian.{little_bytes}
use Rattle.flat_memory.specs.Flat.{put_bytes}
use Rattle.page_frames.specs.declared.page.TheConstants.{PAGE_SIZE}
use Rattle.vm_hart.specs.Acts.{IsPut}
use Rattle.vm_hart.specs.Keyed.{KeyedState, IsHere}
use Rattle.vm_hart.proofs.hart.Hart.put_here.Goals as goal

pub put_anew-requires-clause-inside : goal.put_anew-requires-clause-inside
put_anew-requires-clause-inside c = subst (λ (h : KeyedState). c.args.offset < length h.state.ram) (sym c.if-put_own.ensures) c.requires.inside

pub returns : goal.returns
returns c =
    let page = c.args.offset / PAGE_SIZE in
    subst (λ (h : KeyedState). MatchBool c.put_anew.result
    (IsHere h.pages page × IsPut h c.put_anew.new.self page (record h.state { ram = put_bytes h.state.ram c.args.offset (little_bytes c.args.width c.args.word) }))
    (c.put_anew.new.self ≡ h)) c.if-put_own.ensures c.put_anew.ensures
