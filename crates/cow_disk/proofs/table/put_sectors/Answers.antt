use Rattle.std.proofs.Common.{List, ℕ, ◌+◌, get_or, sym, ap, ◌∙◌, subst, arith}
use Rattle.std.specs.List.{concat}
use Rattle.cow_disk.proofs.Rows.{IsWritten, none_written, next_written, others_stay}
use Rattle.cow_disk.proofs.SectorLemmas.{AreWhole-told}
use Rattle.cow_disk.proofs.table.put_sectors.Goals as goal

pub write_one-requires : goal.write_one-requires
write_one-requires c = omega (arith, c.row.invariant.size, c.requires.inside)

pub row-init : goal.row-init
row-init c = none_written c.args.sectors.now c.args.first c.args.row.now c.requires.inside c.requires.whole (AreWhole-told c.args.row.now c.told-row)

pub row-preserved : goal.row-preserved
row-preserved c =
    subst (IsWritten c.args.sectors.now c.args.first c.args.row.now (c.row.n + 1)) (sym c.in_ok-write_one.ensures.ok)
    (next_written c.args.sectors.now c.args.first c.args.row.now c.requires.inside c.requires.whole (AreWhole-told c.args.row.now c.told-row) c.row.n c.row.sectors c.row.invariant (omega arith))

pub returns-in_err-write_one-clause-others : goal.returns-in_err-write_one-clause-others
returns-in_err-write_one-clause-others c =
    λ at beside.
    ap (λ (s : List (List ℕ)). get_or (concat s) at 0) c.in_err-write_one.ensures.err
    ∙ others_stay c.args.sectors.now c.args.first c.args.row.now c.requires.inside c.requires.whole (AreWhole-told c.args.row.now c.told-row) c.row.n
    c.row.sectors c.row.invariant (omega arith) at beside

pub returns-clause-others : goal.returns-clause-others
returns-clause-others c =
    λ at beside.
    others_stay c.args.sectors.now c.args.first c.args.row.now c.requires.inside c.requires.whole (AreWhole-told c.args.row.now c.told-row) c.row.n
    c.row.sectors c.row.invariant (omega arith) at beside
