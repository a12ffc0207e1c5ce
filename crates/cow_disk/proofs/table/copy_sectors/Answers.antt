use Rattle.std.proofs.Common.{◌≡◌, ◌<◌, ◌+◌, ◌*◌, [], length, drop, get_or, List, ℕ, sym, ap, ◌∙◌, arith}
use Rattle.std.specs.List.{concat}
use Rattle.std.proofs.lemmas.List.{get_or_read, get_or-drop}
use Rattle.flat_memory.specs.Flat.{put_bytes}
use Rattle.cow_disk.specs.declared.disk.TheConstants.{SECTOR_SIZE}
use Rattle.cow_disk.proofs.PageReads.{next_copied}
use Rattle.cow_disk.proofs.SectorLemmas.{byte_of_concat, length-of_whole}
use Rattle.cow_disk.proofs.table.copy_sectors.Goals as goal

pub write_bytes-requires : goal.write_bytes-requires
write_bytes-requires c =
    let sectors = c.args.sectors.now in
    let there : c.args.first + c.row.n < length sectors = omega (arith, c.requires.inside) in
    let read = c.bytes.ensures ∙ get_or_read sectors (c.args.first + c.row.n) c.get-sector.result.now there c.get-sector.ensures [] in
    omega (arith, c.requires.few, ap length read, length-of_whole sectors c.requires.whole (c.args.first + c.row.n) there)

pub row-preserved : goal.row-preserved
row-preserved c =
    let sectors = c.args.sectors.now in
    let n = c.row.n in
    let place = c.args.first + n in
    let there : place < length sectors = omega (arith, c.requires.inside) in
    let flat = drop (SECTOR_SIZE * c.args.first) (concat sectors) in
    let read = c.bytes.ensures ∙ get_or_read sectors place c.get-sector.result.now there c.get-sector.ensures [] in
    let full = ap length read ∙ length-of_whole sectors c.requires.whole place there in
    c.write_bytes.ensures
    ∙ ap (λ (before : List ℕ). put_bytes before (SECTOR_SIZE * n) c.bytes.result.now) c.row.invariant
    ∙ next_copied flat c.bytes.result.now n (omega (arith, c.requires.few)) full
    (λ k inside.
    ap (λ (sector : List ℕ). get_or sector k 0) read
    ∙ byte_of_concat sectors c.requires.whole place k there inside
    ∙ ap (λ i. get_or (concat sectors) i 0) (let same : SECTOR_SIZE * place + k ≡ SECTOR_SIZE * c.args.first + (SECTOR_SIZE * n + k) = omega arith in same)
    ∙ sym (get_or-drop (SECTOR_SIZE * c.args.first) (concat sectors) (SECTOR_SIZE * n + k) 0))
