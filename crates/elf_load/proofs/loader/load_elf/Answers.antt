use Rattle.std.proofs.Common.{Ok, sym, ap, ◌∙◌}
use Rattle.std.proofs.lemmas.Result.{err_from_is_err_and}
use Rattle.elf_load.specs.Elf.{loads_of}
use Rattle.elf_load.proofs.Placing.{place_broken, may_place}
use Rattle.elf_load.proofs.Rules.{refused_by_header, refused_by_size, all_not_empty}
use Rattle.elf_load.proofs.loader.load_elf.Goals as goal

pub returns-in_err-header-clause-refuses : goal.returns-in_err-header-clause-refuses
returns-in_err-header-clause-refuses c =
    let p = err_from_is_err_and c.from_residual.result c.from_residual.ensures.1 in
    rw (p.1, p.2) (refused_by_header c.args.bytes.now c.args.ram_pages _ c.in_err-header.ensures.refused)

pub returns-in_err-segments-clause-refuses : goal.returns-in_err-segments-clause-refuses
returns-in_err-segments-clause-refuses c =
    let p = err_from_is_err_and c.from_residual-in_err-segments.result c.from_residual-in_err-segments.ensures.1 in
    rw (p.1, p.2) (refused_by_size c.args.bytes.now c.args.ram_pages _ c.in_ok-header.ensures.unbroken c.in_err-segments.ensures.overfull)

pub broken_rule-requires-clause-not_empty : goal.broken_rule-requires-clause-not_empty
broken_rule-requires-clause-not_empty c = rw c.deref.ensures.value (all_not_empty (loads_of c.args.bytes.now) _ c.in_ok-segments.ensures.placed)

pub returns-in-Some-clause-refuses : goal.returns-in-Some-clause-refuses
returns-in-Some-clause-refuses c =
    place_broken c.args.bytes.now c.args.ram_pages c.in_ok-segments.segments.items c.in_ok-header.header.entry c.in-Some.rule
    (record {
      unbroken = c.in_ok-header.ensures.unbroken;
      entered = c.in_ok-header.ensures.header.entry;
      placed = c.in_ok-segments.ensures.placed;
      rising = c.in_ok-segments.ensures.rising;
      fit = c.in_ok-segments.ensures.fit;
    })
    (rw c.deref.ensures.value at (sym c.in-Some.ensures))

pub place-requires : goal.place-requires
place-requires c =
    let may =
    may_place c.args.bytes.now c.args.ram_pages c.in_ok-segments.segments.items c.in_ok-header.header.entry
    (record {
      unbroken = c.in_ok-header.ensures.unbroken;
      entered = c.in_ok-header.ensures.header.entry;
      placed = c.in_ok-segments.ensures.placed;
      rising = c.in_ok-segments.ensures.rising;
      fit = c.in_ok-segments.ensures.fit;
    })
    (rw c.deref.ensures.value at (sym c.in_default.ensures)) in
    rw c.deref-2.ensures.value (record {
      least = c.requires.least;
      most = c.requires.most;
      in_file = may.in_file;
      in_ram = may.in_ram;
      in_order = may.in_order;
      entered = may.entered;
    })

pub returns-clause-loads : goal.returns-clause-loads
returns-clause-loads c =
    let may =
    may_place c.args.bytes.now c.args.ram_pages c.in_ok-segments.segments.items c.in_ok-header.header.entry
    (record {
      unbroken = c.in_ok-header.ensures.unbroken;
      entered = c.in_ok-header.ensures.header.entry;
      placed = c.in_ok-segments.ensures.placed;
      rising = c.in_ok-segments.ensures.rising;
      fit = c.in_ok-segments.ensures.fit;
    })
    (rw c.deref.ensures.value at (sym c.in_default.ensures)) in
    may.loads ∙ ap Ok (sym (rw c.deref-2.ensures.value at c.in_ok-place.ensures))
