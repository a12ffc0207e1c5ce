use Rattle.std.proofs.Common.{◌≡◌, ℕ, zero, suc, ◌*◌, ◌/◌, List, ◌++◌, length, take, drop, ap, ◌∙◌, arith}
use Rattle.std.specs.List.{concat}
use Rattle.std.specs.Simd.{first_chunks}
use Rattle.std.proofs.lemmas.List.{length-drop, nil_from_length, take-append-drop}
use Rattle.cow_disk.specs.declared.disk.TheConstants.{SECTOR_SIZE}
use Rattle.cow_disk.specs.Paged.{PagedDisk, disk_over}
use Rattle.cow_disk.proofs.disk.Disk.from_bytes.Goals as goal

concat-first_chunks : (size count : ℕ) (bytes : List ℕ) → length bytes ≡ size * count → concat (first_chunks size count bytes) ≡ bytes
concat-first_chunks size zero bytes whole = let none : length bytes ≡ 0 = omega arith in cc (nil_from_length bytes none)
concat-first_chunks size (suc count) bytes whole =
    ap (λ rest. take size bytes ++ rest) (concat-first_chunks size count (drop size bytes) (omega (arith, length-drop size bytes)))
    ∙ take-append-drop size bytes

pub returns-clause-ok : goal.returns-clause-ok
returns-clause-ok c =
    let bytes = c.args.bytes.now in
    let whole : length bytes ≡ SECTOR_SIZE * (length bytes / SECTOR_SIZE) = grind arith in
    λ below.
    c.in_ok-new.ensures.ok below
    ∙ ap concat c.as_chunks.ensures.front
    ∙ concat-first_chunks SECTOR_SIZE (length bytes / SECTOR_SIZE) bytes whole
