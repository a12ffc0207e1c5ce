use Rattle.std.proofs.Common.{ℕ, true, replicate, ap, ◌∙◌, arith}
use Rattle.std.proofs.lemmas.List.{take_all}
use Rattle.cow_disk.proofs.Tables.{are_new, reads_new, whole_new, count_new}
use Rattle.cow_disk.proofs.table.Table.new.Goals as goal

pub invariant_of-result : goal.invariant_of-result
invariant_of-result c =
    let sectors = c.args.sectors.now in
    let made = c.in_ok-from_vec.ensures ∙ c.loop-sector.invariant ∙ take_all c.loop-sector.sector-index sectors (omega arith) in
    let flags = c.in_ok-here.ensures ∙ ap (λ (n : ℕ). replicate n true) c.pages_for.ensures in
    are_new sectors _ _ made flags c.told-sectors c.requires

pub returns : goal.returns
returns c =
    let sectors = c.args.sectors.now in
    let made = c.in_ok-from_vec.ensures ∙ c.loop-sector.invariant ∙ take_all c.loop-sector.sector-index sectors (omega arith) in
    let flags = c.in_ok-here.ensures ∙ ap (λ (n : ℕ). replicate n true) c.pages_for.ensures in
    record {
      ok = reads_new sectors _ _ made flags c.told-sectors c.requires;
      whole = whole_new sectors _ _ made flags c.told-sectors c.requires;
      count = count_new sectors _ _ made flags c.told-sectors c.requires;
    }
