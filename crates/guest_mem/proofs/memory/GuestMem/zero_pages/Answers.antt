use Rattle.std.proofs.Common.{◌≡◌, ◌+◌, ◌-◌, ◌≤◌, length, replicate, sym, ap, ◌∙◌, subst, arith}
use Rattle.std.specs.List.{splice}
use Rattle.std.proofs.lemmas.List.{length-map}
use Rattle.page_frames.specs.declared.entry.Entry.TheVariants.{Blank}
use Rattle.page_frames.specs.Tables.{is_own}
use Rattle.guest_mem.specs.Ram.{ram_of, zeroed, IsTable}
use Rattle.guest_mem.proofs.Pages.{IsTable-run, ram_of_run}
use Rattle.guest_mem.proofs.memory.GuestMem.zero_pages.Goals as goal

pub fill-requires : goal.fill-requires
fill-requires c =
    let inside = subst (λ ram. c.args.first + c.args.count ≤ length ram.here) (sym c.self.view_is) c.requires in
    record { order = omega arith; inside = omega (arith, length-map c.self.inside.entries is_own) }

pub invariant_of-self-2 : goal.invariant_of-self-2
invariant_of-self-2 c =
    let entries = c.self.inside.entries in
    let first = c.args.first in
    let count = c.args.count in
    let inside = subst (λ ram. first + count ≤ length ram.here) (sym c.self.view_is) c.requires in
    let counted : first + count - first ≡ count = omega arith in
    let written = c.in_ok-fill.ensures.ok ∙ ap (λ n. splice entries first (first + count) (replicate n Blank)) counted in
    subst (λ table. IsTable table c.self.inside.key) (sym written) (IsTable-run entries c.self.inside.key first count (omega (arith, length-map entries is_own)) c.self.invariant)

pub returns-clause-ok : goal.returns-clause-ok
returns-clause-ok c =
    let entries = c.self.inside.entries in
    let first = c.args.first in
    let count = c.args.count in
    let inside = subst (λ ram. first + count ≤ length ram.here) (sym c.self.view_is) c.requires in
    let counted : first + count - first ≡ count = omega arith in
    let written = c.in_ok-fill.ensures.ok ∙ ap (λ n. splice entries first (first + count) (replicate n Blank)) counted in
    ap (λ table. ram_of table c.self.inside.key) written
    ∙ ram_of_run entries c.self.inside.key first count (omega (arith, length-map entries is_own))
    ∙ ap (λ ram. zeroed ram first count) c.self.view_is
