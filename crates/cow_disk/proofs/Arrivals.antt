-- The sectors of a page that comes, as the bytes that they put in.
use Rattle.std.proofs.Common.{◌≡◌, ℕ, ◌+◌, ◌-◌, ◌*◌, ◌/◌, ◌<◌, ◌≤◌, ◌⊎◌, inl, inr, min, List, length, take, get_or, sym, ap, ◌∙◌, arith}
use Rattle.std.specs.List.{concat}
use Rattle.std.specs.Simd.{first_chunks}
use Rattle.flat_memory.specs.Flat.{put_bytes}
use Rattle.page_frames.specs.declared.page.TheConstants.{PAGE_SIZE}
use Rattle.cow_disk.specs.declared.disk.TheConstants.{SECTOR_SIZE, PAGE_SECTORS}
use Rattle.cow_disk.specs.Sectors.{AreWhole}
use Rattle.cow_disk.proofs.SectorLemmas.{length-concat}
use Rattle.cow_disk.proofs.Rows.{fitting_part}

-- a row of sectors of a page: as many as a list has left from the page on
module _ (sectors : List (List ℕ)) (whole : AreWhole sectors) (page first count : ℕ) (starts : PAGE_SECTORS * page ≤ length sectors) (begins : first ≡ PAGE_SECTORS * page)
    (fit : count ≡ min (length sectors - first) PAGE_SECTORS) (sent : List ℕ) (full : length sent ≡ PAGE_SIZE) (row : List (List ℕ))
    (is_row : row ≡ take count (first_chunks SECTOR_SIZE (length sent / SECTOR_SIZE) sent)) where
  bytes_of_row : concat row ≡ take (SECTOR_SIZE * length sectors - PAGE_SIZE * page) sent
  bytes_of_row =
      let chunks : length sent / SECTOR_SIZE ≡ PAGE_SECTORS = omega arith in
      let enough : count ≡ min (length sectors - PAGE_SECTORS * page) PAGE_SECTORS = fit ∙ ap (λ (n : ℕ). min (length sectors - n) PAGE_SECTORS) begins in
      ap concat is_row
      ∙ ap (λ (n : ℕ). concat (take n (first_chunks SECTOR_SIZE (length sent / SECTOR_SIZE) sent))) enough
      ∙ ap (λ (n : ℕ). concat (take (min (length sectors - PAGE_SECTORS * page) PAGE_SECTORS) (first_chunks SECTOR_SIZE n sent))) chunks
      ∙ fitting_part page (length sectors) sent full starts

  pub page_of_row : (after : List (List ℕ)) → concat after ≡ put_bytes (concat sectors) (SECTOR_SIZE * first) (concat row)
      → concat after ≡ put_bytes (concat sectors) (PAGE_SIZE * page) (take (length (concat sectors) - PAGE_SIZE * page) sent)
  page_of_row after made =
      let place : SECTOR_SIZE * first ≡ PAGE_SIZE * page = omega arith in
      made
      ∙ ap (λ (at : ℕ). put_bytes (concat sectors) at (concat row)) place
      ∙ ap (λ (bytes : List ℕ). put_bytes (concat sectors) (PAGE_SIZE * page) bytes)
      (bytes_of_row ∙ ap (λ (n : ℕ). take (n - PAGE_SIZE * page) sent) (sym (length-concat sectors whole)))

-- what stays outside the row stays outside the page
pub beside_page : (page first size : ℕ) (before after : List ℕ) → first ≡ PAGE_SECTORS * page → size ≤ PAGE_SECTORS
    → ((at : ℕ) → (at < SECTOR_SIZE * first) ⊎ (SECTOR_SIZE * (first + size) ≤ at) → get_or after at 0 ≡ get_or before at 0)
    → (at : ℕ) → (at < PAGE_SIZE * page) ⊎ (PAGE_SIZE * page + PAGE_SIZE ≤ at) → get_or after at 0 ≡ get_or before at 0
beside_page page first size before after begins most others at beside =
    let outside : (at < SECTOR_SIZE * first) ⊎ (SECTOR_SIZE * (first + size) ≤ at) =
    elim beside [ inl ahead ↦ inl (omega arith) | inr behind ↦ inr (omega arith) ] in
    others at outside
