use Rattle.std.proofs.Common.{◌<◌, length, get_or, false, sym, ap, ◌∙◌, subst, arith}
use Rattle.std.proofs.lemmas.List.{length-map, get_or-map, get_or_read}
use Rattle.page_frames.specs.declared.entry.Entry.TheVariants.{Absent}
use Rattle.page_frames.specs.Tables.{is_own}
use Rattle.guest_mem.proofs.memory.GuestMem.is_here.Goals as goal

pub get-requires : goal.get-requires
get-requires c =
    let inside = subst (λ ram. c.args.page < length ram.here) (sym c.self.view_is) c.requires in
    omega (arith, length-map c.self.inside.entries is_own)

pub returns : goal.returns
returns c =
    let inside = subst (λ ram. c.args.page < length ram.here) (sym c.self.view_is) c.requires in
    let there : c.args.page < length c.self.inside.entries = omega (arith, length-map c.self.inside.entries is_own) in
    c.is_own.ensures
    ∙ ap is_own (get_or_read c.self.inside.entries c.args.page c.get.result.now there c.get.ensures Absent)
    ∙ sym (get_or-map is_own c.self.inside.entries c.args.page Absent false there)
    ∙ ap (λ ram. get_or ram.here c.args.page false) c.self.view_is
