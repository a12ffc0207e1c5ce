-- A page of a disk that is copied sector by sector, over zeros.
use Rattle.std.proofs.Common.{◌≡◌, ℕ, ◌+◌, ◌-◌, ◌*◌, ◌<◌, ◌≤◌, ◌⊎◌, inl, inr, min, List, [], length, take, drop, replicate, get_or, refl, sym, ap, ◌∙◌, subst, arith}
use Rattle.std.proofs.lemmas.Bool.{cases_lt}
use Rattle.std.proofs.lemmas.List.{ext_get_or, get_or-drop, get_or-take, get_or_past, length-drop, length-take, take_all}
use Rattle.flat_memory.specs.Flat.{put_bytes, zeros}
use Rattle.flat_memory.proofs.Bytes.{get_or-put_bytes, get_or-put_bytes_outside, length-put_bytes}
use Rattle.flat_memory.proofs.Zeros.{length-zeros}
use Rattle.page_frames.specs.declared.page.TheConstants.{PAGE_SIZE}
use Rattle.cow_disk.specs.declared.disk.TheConstants.{SECTOR_SIZE, PAGE_SECTORS}
use Rattle.cow_disk.specs.Paged.{disk_page, padded}
use Rattle.cow_disk.proofs.Pages.{get_or-padded, length-padded, padded_same}

are_zeros : replicate PAGE_SIZE 0 ≡ zeros PAGE_SIZE
unfolding zeros
are_zeros = refl

-- no sector is copied yet
pub none_copied : replicate PAGE_SIZE 0 ≡ padded []
none_copied = are_zeros ∙ sym (take_all PAGE_SIZE (zeros PAGE_SIZE) (omega (arith, length-zeros PAGE_SIZE)))

-- the first bytes of a list, with zeros behind them
module _ (flat : List ℕ) (count at : ℕ) (inside : at < PAGE_SIZE) where
  byte_of_part : at < count → get_or (padded (take count flat)) at 0 ≡ get_or flat at 0
  byte_of_part before = get_or-padded (take count flat) at inside ∙ get_or-take count flat at 0 before

  byte_behind : count ≤ at → get_or (padded (take count flat)) at 0 ≡ 0
  byte_behind behind = get_or-padded (take count flat) at inside ∙ get_or_past (take count flat) at 0 (omega (arith, length-take count flat))

-- the next sector is copied
module _ (flat sector : List ℕ) (n : ℕ) (room : n < PAGE_SECTORS) (full : length sector ≡ SECTOR_SIZE)
    (same : (k : ℕ) → k < SECTOR_SIZE → get_or sector k 0 ≡ get_or flat (SECTOR_SIZE * n + k) 0) where
  before : List ℕ
  before = padded (take (SECTOR_SIZE * n) flat)

  length-before : length before ≡ PAGE_SIZE
  unfolding before
  length-before = length-padded (take (SECTOR_SIZE * n) flat)

  -- a byte of the sector
  byte_of_sector : (i : ℕ) → SECTOR_SIZE * n ≤ i → i < SECTOR_SIZE * (n + 1) → get_or (put_bytes before (SECTOR_SIZE * n) sector) i 0 ≡ get_or flat i 0
  byte_of_sector i from before_end =
      let k = i - SECTOR_SIZE * n in
      let place : SECTOR_SIZE * n + k ≡ i = omega arith in
      ap (λ j. get_or (put_bytes before (SECTOR_SIZE * n) sector) j 0) (sym place)
      ∙ get_or-put_bytes before sector (SECTOR_SIZE * n) k (omega (arith, length-before)) (omega arith)
      ∙ same k (omega arith)
      ∙ ap (λ j. get_or flat j 0) place

  -- a byte beside it
  byte_beside : (i : ℕ) → (i < SECTOR_SIZE * n) ⊎ (SECTOR_SIZE * (n + 1) ≤ i) → get_or (put_bytes before (SECTOR_SIZE * n) sector) i 0 ≡ get_or before i 0
  byte_beside i beside =
      let outside : (i < SECTOR_SIZE * n) ⊎ (SECTOR_SIZE * n + length sector ≤ i) = elim beside [ inl ahead ↦ inl ahead | inr behind ↦ inr (omega arith) ] in
      get_or-put_bytes_outside before sector (SECTOR_SIZE * n) i (omega (arith, length-before)) outside

  next_byte : (i : ℕ) → i < PAGE_SIZE → get_or (put_bytes before (SECTOR_SIZE * n) sector) i 0 ≡ get_or (padded (take (SECTOR_SIZE * (n + 1)) flat)) i 0
  unfolding before
  next_byte i inside = elim (cases_lt i (SECTOR_SIZE * n)) [
    | inl ahead ↦ byte_beside i (inl ahead) ∙ byte_of_part flat (SECTOR_SIZE * n) i inside ahead ∙ sym (byte_of_part flat (SECTOR_SIZE * (n + 1)) i inside (omega arith))
    | inr from ↦ elim (cases_lt i (SECTOR_SIZE * (n + 1))) [
      | inl before_end ↦ byte_of_sector i from before_end ∙ sym (byte_of_part flat (SECTOR_SIZE * (n + 1)) i inside before_end)
      | inr behind ↦ byte_beside i (inr behind) ∙ byte_behind flat (SECTOR_SIZE * n) i inside from ∙ sym (byte_behind flat (SECTOR_SIZE * (n + 1)) i inside behind)
    ]
  ]

  pub next_copied : put_bytes (padded (take (SECTOR_SIZE * n) flat)) (SECTOR_SIZE * n) sector ≡ padded (take (SECTOR_SIZE * (n + 1)) flat)
  unfolding before
  next_copied =
      let put = put_bytes before (SECTOR_SIZE * n) sector in
      let size : length put ≡ PAGE_SIZE = length-put_bytes before sector (SECTOR_SIZE * n) (omega (arith, length-before)) ∙ length-before in
      ext_get_or 0 put (padded (take (SECTOR_SIZE * (n + 1)) flat)) (size ∙ sym (length-padded (take (SECTOR_SIZE * (n + 1)) flat)))
      (λ i within. next_byte i (subst (λ n. i < n) size within))

-- the sectors of a page are copied, as many as the disk has
pub page_copied : (flat : List ℕ) (sectors page first count : ℕ) → length flat ≡ SECTOR_SIZE * sectors → PAGE_SECTORS * page ≤ sectors → first ≡ PAGE_SECTORS * page
    → count ≡ min (sectors - first) PAGE_SECTORS → padded (take (SECTOR_SIZE * count) (drop (SECTOR_SIZE * first) flat)) ≡ disk_page flat page
page_copied flat sectors page first count size starts begins fit =
    let rest = drop (SECTOR_SIZE * first) flat in
    let place : SECTOR_SIZE * first ≡ PAGE_SIZE * page = omega arith in
    padded_same (take (SECTOR_SIZE * count) rest) rest
    (λ at inside. elim (cases_lt at (SECTOR_SIZE * count)) [
      | inl ahead ↦ get_or-take (SECTOR_SIZE * count) rest at 0 ahead
      | inr behind ↦
          get_or_past (take (SECTOR_SIZE * count) rest) at 0 (omega (arith, length-take (SECTOR_SIZE * count) rest))
          ∙ sym (get_or_past rest at 0 (omega (arith, length-drop (SECTOR_SIZE * first) flat)))
    ])
    ∙ ap (λ from. padded (drop from flat)) place

-- zeros stand past the last sector
pub zeros_behind : (flat : List ℕ) (page at : ℕ) → length flat ≤ PAGE_SIZE * page + at → get_or (disk_page flat page) at 0 ≡ 0
zeros_behind flat page at past = elim (cases_lt at PAGE_SIZE) [
  | inl inside ↦
      get_or-padded (drop (PAGE_SIZE * page) flat) at inside ∙ get_or-drop (PAGE_SIZE * page) flat at 0 ∙ get_or_past flat (PAGE_SIZE * page + at) 0 past
  | inr behind ↦ get_or_past (disk_page flat page) at 0 (omega (arith, length-padded (drop (PAGE_SIZE * page) flat)))
]
