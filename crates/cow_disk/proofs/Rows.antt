-- Sectors that are written in a row.
use Rattle.std.proofs.Common.{◌≡◌, ℕ, zero, suc, ◌+◌, ◌-◌, ◌*◌, ◌<◌, ◌≤◌, ◌⊎◌, inl, inr, min, List, [], ◌∷◌, ◌++◌, length}
use Rattle.std.proofs.Common.{take, drop, get_or, refl, sym, ap, ◌∙◌, subst, length-append, arith}
use Rattle.std.specs.List.{concat}
use Rattle.std.specs.Simd.{first_chunks}
use Rattle.std.proofs.Math.ListN.{set, length-set}
use Rattle.std.proofs.Math.Seq.{take-add}
use Rattle.std.proofs.lemmas.Bool.{cases_lt}
use Rattle.std.proofs.lemmas.List.{append-nil, ext_get_or, get_or-append_right, get_or_append_left, length-drop, length-take-le, take_all, take_min, take_more}
use Rattle.std.proofs.lemmas.List.Elements.{All-get_or, All-take}
use Rattle.std.proofs.lemmas.List.Folds.{concat-append}
use Rattle.flat_memory.specs.Flat.{put_bytes}
use Rattle.flat_memory.proofs.Bytes.{get_or-put_bytes, get_or-put_bytes_outside, length-put_bytes, put_none}
use Rattle.page_frames.specs.declared.page.TheConstants.{PAGE_SIZE}
use Rattle.cow_disk.specs.declared.disk.TheConstants.{SECTOR_SIZE, PAGE_SECTORS}
use Rattle.cow_disk.specs.Sectors.{AreWhole}
use Rattle.cow_disk.proofs.SectorLemmas.{length-concat, with_sector-concat, AreWhole-set}

-- bytes, and others behind them
module _ (memory : List ℕ) (at : ℕ) (first more : List ℕ) (room : at + length first + length more ≤ length memory) where
  length-once : length (put_bytes memory at first) ≡ length memory
  length-once = length-put_bytes memory first at (omega arith)

  outside : (k : ℕ) → (k < at) ⊎ (at + length first + length more ≤ k) → get_or (put_bytes (put_bytes memory at first) (at + length first) more) k 0 ≡ get_or (put_bytes memory at (first ++ more)) k 0
  outside k beside =
      let size = length-append first more in
      let long = length-once in
      let second : (k < at + length first) ⊎ (at + length first + length more ≤ k) = elim beside [ inl before ↦ inl (omega arith) | inr behind ↦ inr behind ] in
      let one : (k < at) ⊎ (at + length first ≤ k) = elim beside [ inl before ↦ inl before | inr behind ↦ inr (omega arith) ] in
      let both : (k < at) ⊎ (at + length (first ++ more) ≤ k) = elim beside [ inl before ↦ inl before | inr behind ↦ inr (omega arith) ] in
      get_or-put_bytes_outside (put_bytes memory at first) more (at + length first) k (omega (arith, long)) second
      ∙ get_or-put_bytes_outside memory first at k (omega arith) one
      ∙ sym (get_or-put_bytes_outside memory (first ++ more) at k (omega arith) both)

  in_first : (k : ℕ) → k < length first → get_or (put_bytes (put_bytes memory at first) (at + length first) more) (at + k) 0 ≡ get_or (put_bytes memory at (first ++ more)) (at + k) 0
  in_first k inside =
      let size = length-append first more in
      let long = length-once in
      get_or-put_bytes_outside (put_bytes memory at first) more (at + length first) (at + k) (omega (arith, long)) (inl (omega arith))
      ∙ get_or-put_bytes memory first at k (omega arith) inside
      ∙ sym (get_or_append_left first more 0 k inside)
      ∙ sym (get_or-put_bytes memory (first ++ more) at k (omega arith) (omega arith))

  in_more : (k : ℕ) → k < length more
      → get_or (put_bytes (put_bytes memory at first) (at + length first) more) (at + length first + k) 0 ≡ get_or (put_bytes memory at (first ++ more)) (at + length first + k) 0
  in_more k inside =
      let size = length-append first more in
      let long = length-once in
      get_or-put_bytes (put_bytes memory at first) more (at + length first) k (omega (arith, long)) inside
      ∙ ap (λ i. get_or more i 0) (let same : k ≡ length first + k - length first = omega arith in same)
      ∙ sym (get_or-append_right first more (length first) (length first + k) 0 refl (omega arith))
      ∙ sym (get_or-put_bytes memory (first ++ more) at (length first + k) (omega arith) (omega arith))
      ∙ ap (λ i. get_or (put_bytes memory at (first ++ more)) i 0) (let same : at + (length first + k) ≡ at + length first + k = omega arith in same)

  at_byte : (k : ℕ) → get_or (put_bytes (put_bytes memory at first) (at + length first) more) k 0 ≡ get_or (put_bytes memory at (first ++ more)) k 0
  at_byte k = elim (cases_lt k at) [
    | inl before ↦ outside k (inl before)
    | inr from ↦ elim (cases_lt k (at + length first)) [
      | inl early ↦
          let place : at + (k - at) ≡ k = omega arith in
          subst (λ i. get_or (put_bytes (put_bytes memory at first) (at + length first) more) i 0 ≡ get_or (put_bytes memory at (first ++ more)) i 0) place (in_first (k - at) (omega arith))
      | inr late ↦ elim (cases_lt k (at + length first + length more)) [
        | inl within ↦
            let place : at + length first + (k - (at + length first)) ≡ k = omega arith in
            subst (λ i. get_or (put_bytes (put_bytes memory at first) (at + length first) more) i 0 ≡ get_or (put_bytes memory at (first ++ more)) i 0) place
            (in_more (k - (at + length first)) (omega arith))
        | inr behind ↦ outside k (inr behind)
      ]
    ]
  ]

  pub put_behind : put_bytes (put_bytes memory at first) (at + length first) more ≡ put_bytes memory at (first ++ more)
  put_behind =
      let size = length-append first more in
      let long = length-once in
      let left : length (put_bytes (put_bytes memory at first) (at + length first) more) ≡ length memory = length-put_bytes (put_bytes memory at first) more (at + length first) (omega (arith, long))
      ∙ long in
      ext_get_or 0 (put_bytes (put_bytes memory at first) (at + length first) more) (put_bytes memory at (first ++ more))
      (left ∙ sym (length-put_bytes memory (first ++ more) at (omega arith)))
      (λ k within. at_byte k)

-- ---- the first n sectors of a row are written

part_whole : (row : List (List ℕ)) (n : ℕ) → AreWhole row → AreWhole (take n row)
part_whole row n full = All-take (λ sector. length sector ≡ SECTOR_SIZE) n row full

pub record IsWritten (before : List (List ℕ)) (first : ℕ) (row : List (List ℕ)) (n : ℕ) (sectors : List (List ℕ)) : Type 0 where
  pub whole : AreWhole sectors
  pub size : length sectors ≡ length before
  pub bytes : concat sectors ≡ put_bytes (concat before) (SECTOR_SIZE * first) (concat (take n row))

module _ (before : List (List ℕ)) (first : ℕ) (row : List (List ℕ)) (inside : first + length row ≤ length before) (whole : AreWhole before) (full : AreWhole row) where
  pub none_written : IsWritten before first row 0 before
  none_written = record { whole = whole; size = refl; bytes = sym (put_none (concat before) (SECTOR_SIZE * first)) }

  length-part : (n : ℕ) → n ≤ length row → length (concat (take n row)) ≡ SECTOR_SIZE * n
  length-part n most =
      let count : length (take n row) ≡ n = length-take-le n row most in
      length-concat (take n row) (part_whole row n full) ∙ ap (λ k. SECTOR_SIZE * k) count

  one_more : (n : ℕ) → n < length row → concat (take n row) ++ get_or row n [] ≡ concat (take (n + 1) row)
  one_more n there =
      ap (λ sector. concat (take n row) ++ sector) (sym (append-nil (get_or row n [])))
      ∙ sym (concat-append (take n row) (get_or row n [] ∷ []))
      ∙ ap concat (sym (take_more row n [] there))

  pub next_written : (n : ℕ) (sectors : List (List ℕ)) → IsWritten before first row n sectors → n < length row → IsWritten before first row (n + 1) (set sectors (first + n) (get_or row n []))
  next_written n sectors written there =
      let sector = get_or row n [] in
      let of_row : length sector ≡ SECTOR_SIZE = All-get_or (λ s. length s ≡ SECTOR_SIZE) row n [] there full in
      let size = written.size in
      let place : first + n < length sectors = omega arith in
      let part = length-part n (omega arith) in
      let memory = length-concat before whole in
      let end : SECTOR_SIZE * (first + n) ≡ SECTOR_SIZE * first + length (concat (take n row)) = omega arith in
      record {
        whole = AreWhole-set sectors (first + n) sector written.whole of_row;
        size = length-set sectors (first + n) sector ∙ size;
        bytes =
            with_sector-concat sectors (first + n) sector written.whole place of_row
            ∙ ap (λ flat. put_bytes flat (SECTOR_SIZE * (first + n)) sector) written.bytes
            ∙ ap (λ at. put_bytes (put_bytes (concat before) (SECTOR_SIZE * first) (concat (take n row))) at sector) end
            ∙ put_behind (concat before) (SECTOR_SIZE * first) (concat (take n row)) sector (omega arith)
            ∙ ap (put_bytes (concat before) (SECTOR_SIZE * first)) (one_more n there);
      }

  pub others_stay : (n : ℕ) (sectors : List (List ℕ)) → IsWritten before first row n sectors → n ≤ length row
      → (at : ℕ) → (at < SECTOR_SIZE * first) ⊎ (SECTOR_SIZE * (first + length row) ≤ at) → get_or (concat sectors) at 0 ≡ get_or (concat before) at 0
  others_stay n sectors written most at beside =
      let part = length-part n most in
      let memory = length-concat before whole in
      let outside : (at < SECTOR_SIZE * first) ⊎ (SECTOR_SIZE * first + length (concat (take n row)) ≤ at) =
      elim beside [ inl ahead ↦ inl ahead | inr behind ↦ inr (omega arith) ] in
      ap (λ flat. get_or flat at 0) written.bytes
      ∙ get_or-put_bytes_outside (concat before) (concat (take n row)) (SECTOR_SIZE * first) at (omega arith) outside

  pub all_written : (n : ℕ) (sectors : List (List ℕ)) → IsWritten before first row n sectors → length row ≤ n → concat sectors ≡ put_bytes (concat before) (SECTOR_SIZE * first) (concat row)
  all_written n sectors written end = written.bytes ∙ ap (λ r. put_bytes (concat before) (SECTOR_SIZE * first) (concat r)) (take_all n row end)

-- ---- the sectors of a page

-- the first bytes, as a row of sectors
pub concat-take-chunks : (count n : ℕ) (bytes : List ℕ) → length bytes ≡ SECTOR_SIZE * count → n ≤ count
    → concat (take n (first_chunks SECTOR_SIZE count bytes)) ≡ take (SECTOR_SIZE * n) bytes
concat-take-chunks count zero bytes size most = refl
concat-take-chunks zero (suc n) bytes size most = absurd (omega arith)
concat-take-chunks (suc count) (suc n) bytes size most =
    let rest : length (drop SECTOR_SIZE bytes) ≡ SECTOR_SIZE * count = omega (arith, length-drop SECTOR_SIZE bytes) in
    ap (λ more. take SECTOR_SIZE bytes ++ more) (concat-take-chunks count n (drop SECTOR_SIZE bytes) rest (omega arith))
    ∙ sym (take-add SECTOR_SIZE (SECTOR_SIZE * n) bytes)
    ∙ ap (λ k. take k bytes) (omega arith)

-- as many sectors of a page as a disk has left are its bytes up to the end of the disk
pub fitting_part : (page size : ℕ) (sent : List ℕ) → length sent ≡ PAGE_SIZE → PAGE_SECTORS * page ≤ size
    → concat (take (min (size - PAGE_SECTORS * page) PAGE_SECTORS) (first_chunks SECTOR_SIZE PAGE_SECTORS sent)) ≡ take (SECTOR_SIZE * size - PAGE_SIZE * page) sent
fitting_part page size sent full starts =
    let left = size - PAGE_SECTORS * page in
    let both : SECTOR_SIZE * min left PAGE_SECTORS ≡ min (SECTOR_SIZE * size - PAGE_SIZE * page) (length sent) = omega arith in
    concat-take-chunks PAGE_SECTORS (min left PAGE_SECTORS) sent (omega arith) (omega arith)
    ∙ ap (λ n. take n sent) both
    ∙ take_min (SECTOR_SIZE * size - PAGE_SIZE * page) sent
