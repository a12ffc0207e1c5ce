-- The sectors of a disk after a write.
use Rattle.std.proofs.Common.{◌≡◌, ◌≢◌, ℕ, ◌+◌, ◌-◌, ◌*◌, ◌<◌, ◌≤◌, ◌⊎◌, inl, inr, min, List, length, take, drop, get_or, sym, ap, ◌∙◌, subst, arith}
use Rattle.std.proofs.lemmas.Bool.{cases_lt}
use Rattle.std.proofs.lemmas.List.{drop_at, ext_get_or, get_or-drop, get_or-take, length-drop, length-take, length-take-le, take_at}
use Rattle.flat_memory.proofs.Bytes.{get_or-put_bytes_outside, length-put_bytes}
use Rattle.cow_disk.specs.declared.disk.TheConstants.{SECTOR_SIZE}
use Rattle.cow_disk.specs.Disk.{sector_count, sector_at, with_sector}

pub length-with_sector : (disk bytes : List ℕ) (n : ℕ) → n < sector_count disk → length bytes ≡ SECTOR_SIZE → length (with_sector disk n bytes) ≡ length disk
length-with_sector disk bytes n there full = length-put_bytes disk bytes (SECTOR_SIZE * n) (omega arith)

pub sector_at-with_sector : (disk bytes : List ℕ) (n : ℕ) → n < sector_count disk → length bytes ≡ SECTOR_SIZE → sector_at (with_sector disk n bytes) n ≡ bytes
sector_at-with_sector disk bytes n there full =
    let start : length (take (SECTOR_SIZE * n) disk) ≡ SECTOR_SIZE * n = length-take-le (SECTOR_SIZE * n) disk (omega arith) in
    ap (λ rest. take SECTOR_SIZE rest) (drop_at (take (SECTOR_SIZE * n) disk) _ (SECTOR_SIZE * n) start) ∙ take_at bytes _ SECTOR_SIZE full

-- a byte of a sector
pub get_or-sector_at : (disk : List ℕ) (n k : ℕ) → k < SECTOR_SIZE → get_or (sector_at disk n) k 0 ≡ get_or disk (SECTOR_SIZE * n + k) 0
get_or-sector_at disk n k below = get_or-take SECTOR_SIZE (drop (SECTOR_SIZE * n) disk) k 0 below ∙ get_or-drop (SECTOR_SIZE * n) disk k 0

pub length-sector_at : (disk : List ℕ) (n : ℕ) → length (sector_at disk n) ≡ min SECTOR_SIZE (length disk - SECTOR_SIZE * n)
length-sector_at disk n = length-take SECTOR_SIZE (drop (SECTOR_SIZE * n) disk) ∙ ap (λ left. min SECTOR_SIZE left) (length-drop (SECTOR_SIZE * n) disk)

-- sectors do not overlap
apart : (n other k : ℕ) → other ≢ n → k < SECTOR_SIZE → (SECTOR_SIZE * other + k < SECTOR_SIZE * n) ⊎ (SECTOR_SIZE * n + SECTOR_SIZE ≤ SECTOR_SIZE * other + k)
apart n other k differs below = elim (cases_lt other n) [ inl before ↦ inl (omega arith) | inr from ↦ inr (omega arith) ]

pub sector_at-with_sector_other : (disk bytes : List ℕ) (n other : ℕ) → n < sector_count disk → length bytes ≡ SECTOR_SIZE → other ≢ n
    → sector_at (with_sector disk n bytes) other ≡ sector_at disk other
sector_at-with_sector_other disk bytes n other there full differs =
    let lengths : length (sector_at (with_sector disk n bytes) other) ≡ length (sector_at disk other) =
    length-sector_at (with_sector disk n bytes) other ∙ ap (λ all. min SECTOR_SIZE (all - SECTOR_SIZE * other)) (length-with_sector disk bytes n there full) ∙ sym (length-sector_at disk other) in
    ext_get_or 0 _ _ lengths
    (λ k within.
    let below : k < SECTOR_SIZE = omega (arith, length-sector_at (with_sector disk n bytes) other) in
    get_or-sector_at (with_sector disk n bytes) other k below
    ∙ get_or-put_bytes_outside disk bytes (SECTOR_SIZE * n) (SECTOR_SIZE * other + k) (omega arith)
    (subst (λ size. (SECTOR_SIZE * other + k < SECTOR_SIZE * n) ⊎ (SECTOR_SIZE * n + size ≤ SECTOR_SIZE * other + k)) (sym full) (apart n other k differs below))
    ∙ sym (get_or-sector_at disk other k below))
