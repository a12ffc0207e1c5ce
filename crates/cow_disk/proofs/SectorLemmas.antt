-- Reads and writes of one sector of many.
use Rattle.std.proofs.Common.{◌≡◌, ℕ, zero, suc, ◌+◌, ◌*◌, ◌<◌, List, [], ◌∷◌, ◌++◌, length, take, drop, get_or, sym, ap, ◌∙◌, append_assoc, length-append, arith}
use Rattle.std.specs.List.{concat}
use Rattle.std.proofs.Math.ListN.{set}
use Rattle.std.proofs.Math.Seq.{take-append-add, drop-append-add}
use Rattle.std.proofs.lemmas.List.{drop_at, get_or-drop, get_or-take, take_at, set-get_or}
use Rattle.std.proofs.lemmas.List.Elements.{All-get_or, All-head, All-tail, All-set, All-from_get_or}
use Rattle.cow_disk.specs.declared.disk.TheConstants.{SECTOR_SIZE}
use Rattle.cow_disk.specs.Disk.{sector_count, sector_at, with_sector}
use Rattle.cow_disk.specs.Sectors.{AreWhole}

head : (s : List ℕ) (sectors : List (List ℕ)) → AreWhole (s ∷ sectors) → length s ≡ SECTOR_SIZE
head s sectors whole = All-head (λ sector. length sector ≡ SECTOR_SIZE) s sectors whole

tail : (s : List ℕ) (sectors : List (List ℕ)) → AreWhole (s ∷ sectors) → AreWhole sectors
tail s sectors whole = All-tail (λ sector. length sector ≡ SECTOR_SIZE) s sectors whole

pub length-concat : (sectors : List (List ℕ)) → AreWhole sectors → length (concat sectors) ≡ SECTOR_SIZE * length sectors
length-concat [] whole = omega arith
length-concat (s ∷ sectors) whole = omega (arith, length-append s (concat sectors), head s sectors whole, length-concat sectors (tail s sectors whole))

pub sector_count-concat : (sectors : List (List ℕ)) → AreWhole sectors → sector_count (concat sectors) ≡ length sectors
sector_count-concat sectors whole = omega (arith, length-concat sectors whole)

pub sector_at-concat : (sectors : List (List ℕ)) (n : ℕ) → AreWhole sectors → n < length sectors → sector_at (concat sectors) n ≡ get_or sectors n []
sector_at-concat [] n whole below = absurd (omega arith)
sector_at-concat (s ∷ sectors) zero whole below = take_at s (concat sectors) SECTOR_SIZE (head s sectors whole)
sector_at-concat (s ∷ sectors) (suc n) whole below =
    let start : SECTOR_SIZE * suc n ≡ length s + SECTOR_SIZE * n = omega (arith, head s sectors whole) in
    ap (λ from. take SECTOR_SIZE (drop from (s ++ concat sectors))) start
    ∙ ap (λ rest. take SECTOR_SIZE rest) (drop-append-add s (concat sectors) (SECTOR_SIZE * n))
    ∙ sector_at-concat sectors n (tail s sectors whole) (omega arith)

pub with_sector-concat : (sectors : List (List ℕ)) (n : ℕ) (bytes : List ℕ) → AreWhole sectors → n < length sectors → length bytes ≡ SECTOR_SIZE
    → concat (set sectors n bytes) ≡ with_sector (concat sectors) n bytes
with_sector-concat [] n bytes whole below full = absurd (omega arith)
with_sector-concat (s ∷ sectors) zero bytes whole below full =
    let start : 0 + length bytes ≡ length bytes = omega arith in
    sym (ap (λ from. bytes ++ drop from (s ++ concat sectors)) start ∙ ap (λ rest. bytes ++ rest) (drop_at s (concat sectors) (length bytes) (head s sectors whole ∙ sym full)))
with_sector-concat (s ∷ sectors) (suc n) bytes whole below full =
    let start : SECTOR_SIZE * suc n ≡ length s + SECTOR_SIZE * n = omega (arith, head s sectors whole) in
    let end : SECTOR_SIZE * suc n + length bytes ≡ length s + (SECTOR_SIZE * n + length bytes) = omega (arith, head s sectors whole) in
    ap (λ rest. s ++ rest) (with_sector-concat sectors n bytes (tail s sectors whole) (omega arith) full)
    ∙ sym (append_assoc s (take (SECTOR_SIZE * n) (concat sectors)) (bytes ++ drop (SECTOR_SIZE * n + length bytes) (concat sectors)))
    ∙ sym (ap (λ front. front ++ (bytes ++ drop (SECTOR_SIZE * n + length bytes) (concat sectors)))
    (ap (λ from. take from (s ++ concat sectors)) start ∙ take-append-add s (concat sectors) (SECTOR_SIZE * n)))
    ∙ sym (ap (λ rest. take (SECTOR_SIZE * suc n) (s ++ concat sectors) ++ (bytes ++ rest))
    (ap (λ from. drop from (s ++ concat sectors)) end ∙ drop-append-add s (concat sectors) (SECTOR_SIZE * n + length bytes)))

pub AreWhole-set : (sectors : List (List ℕ)) (n : ℕ) (bytes : List ℕ) → AreWhole sectors → length bytes ≡ SECTOR_SIZE → AreWhole (set sectors n bytes)
AreWhole-set sectors n bytes whole full = All-set (λ sector. length sector ≡ SECTOR_SIZE) sectors n bytes full whole

pub length-of_whole : (sectors : List (List ℕ)) → AreWhole sectors → (n : ℕ) → n < length sectors → length (get_or sectors n []) ≡ SECTOR_SIZE
length-of_whole sectors whole n there = All-get_or (λ sector. length sector ≡ SECTOR_SIZE) sectors n [] there whole

-- a byte of a sector
pub byte_of_concat : (sectors : List (List ℕ)) → AreWhole sectors → (n k : ℕ) → n < length sectors → k < SECTOR_SIZE
    → get_or (get_or sectors n []) k 0 ≡ get_or (concat sectors) (SECTOR_SIZE * n + k) 0
byte_of_concat sectors whole n k there inside =
    ap (λ sector. get_or sector k 0) (sym (sector_at-concat sectors n whole there))
    ∙ get_or-take SECTOR_SIZE (drop (SECTOR_SIZE * n) (concat sectors)) k 0 inside
    ∙ get_or-drop (SECTOR_SIZE * n) (concat sectors) k 0

-- sectors as they are told
pub AreWhole-told : (sectors : List (List ℕ)) → ((i : ℕ) → i < length sectors → length (get_or sectors i []) ≡ SECTOR_SIZE) → AreWhole sectors
AreWhole-told sectors told = All-from_get_or (λ sector. length sector ≡ SECTOR_SIZE) sectors [] told

-- a sector that stays as it is
pub sector_kept : (sectors : List (List ℕ)) (n : ℕ) (before after : List ℕ) → before ≡ get_or sectors n before → after ≡ before → set sectors n after ≡ sectors
sector_kept sectors n before after read same = ap (λ sector. set sectors n sector) (same ∙ read) ∙ set-get_or sectors n before
