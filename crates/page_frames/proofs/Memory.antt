-- The memory of a page table, byte by byte.
use Rattle.std.proofs.Common.{◌≡◌, ◌≢◌, ℕ, zero, suc, ◌+◌, ◌-◌, ◌*◌, ◌/◌, ◌%◌, ◌<◌, ◌≤◌, ◌⊎◌, inl, inr, true, false, List, length, get_or, refl, sym, ap, ◌∙◌, subst, arith}
use Rattle.std.proofs.Math.ListN.{set, length-set}
use Rattle.std.proofs.lemmas.Bool.{cases_lt}
use Rattle.std.proofs.lemmas.List.{ext_get_or, get_or-set_same, get_or-set_other}
use Rattle.std.proofs.lemmas.List.FromFn.{length-map-range_with_len, get_or-map-range_with_len}
use Rattle.byteorder.specs.Endian.{little_from}
use Rattle.flat_memory.specs.Flat.{put_bytes, zeros}
use Rattle.flat_memory.proofs.Zeros.{get_or-zeros}
use Rattle.flat_memory.proofs.Bytes.{get_or-put_bytes, get_or-put_bytes_outside, length-put_bytes}
use Rattle.page_frames.specs.declared.page.TheConstants.{PAGE_SIZE}
use Rattle.page_frames.specs.declared.entry.Entry.{Entry}
use Rattle.page_frames.specs.declared.entry.Entry.TheVariants.{Held, Blank, Absent}
use Rattle.page_frames.specs.Tables.{paged, entry_bytes, entry_at, is_own, byte_over, laid_over}

-- ---- zeros

pub little_from-zeros : (at n size : ℕ) → little_from at n (zeros size) ≡ 0
little_from-zeros at zero size = refl
little_from-zeros at (suc n) size = omega (arith, get_or-zeros size at, little_from-zeros (suc at) n size)

-- ---- bytes by page and place

pub length-paged : (pages : ℕ) (byte : ℕ → ℕ → ℕ) → length (paged pages byte) ≡ PAGE_SIZE * pages
unfolding paged
length-paged pages byte = length-map-range_with_len (λ at. byte (at / PAGE_SIZE) (at % PAGE_SIZE)) 0 (PAGE_SIZE * pages)

pub get_or-paged : (pages : ℕ) (byte : ℕ → ℕ → ℕ) (at : ℕ) → at < PAGE_SIZE * pages → get_or (paged pages byte) at 0 ≡ byte (at / PAGE_SIZE) (at % PAGE_SIZE)
unfolding paged
get_or-paged pages byte at below = get_or-map-range_with_len (λ at. byte (at / PAGE_SIZE) (at % PAGE_SIZE)) 0 (PAGE_SIZE * pages) at at 0 below (omega arith)

pub paged_is : (pages : ℕ) (byte : ℕ → ℕ → ℕ) (memory : List ℕ) → length memory ≡ PAGE_SIZE * pages
    → ((at : ℕ) → at < PAGE_SIZE * pages → byte (at / PAGE_SIZE) (at % PAGE_SIZE) ≡ get_or memory at 0) → paged pages byte ≡ memory
paged_is pages byte memory size same =
    let sizes : length (paged pages byte) ≡ length memory = length-paged pages byte ∙ sym size in
    ext_get_or 0 (paged pages byte) memory sizes
    (λ at below. let within : at < PAGE_SIZE * pages = subst (λ n. at < n) (length-paged pages byte) below in get_or-paged pages byte at within ∙ same at within)

-- ---- numbers

pub little_from_same : (n i j : ℕ) (xs ys : List ℕ) → ((k : ℕ) → k < n → get_or xs (i + k) 0 ≡ get_or ys (j + k) 0) → little_from i n xs ≡ little_from j n ys
little_from_same zero i j xs ys same = refl
little_from_same (suc n) i j xs ys same =
    let first : get_or xs i 0 ≡ get_or ys j 0 = ap (λ p. get_or xs p 0) (omega arith) ∙ same 0 (omega arith) ∙ ap (λ p. get_or ys p 0) (omega arith) in
    let rest : little_from (suc i) n xs ≡ little_from (suc j) n ys =
    little_from_same n (suc i) (suc j) xs ys
    (λ k below. ap (λ p. get_or xs p 0) (omega arith) ∙ same (suc k) (omega arith) ∙ ap (λ p. get_or ys p 0) (omega arith)) in
    omega arith

-- ---- the memory of a table

pub length-laid_over : (entries : List Entry) (below : List ℕ) → length (laid_over entries below) ≡ PAGE_SIZE * length entries
unfolding laid_over
length-laid_over entries below = length-paged (length entries) (λ page at. byte_over (entry_at entries page) at (get_or below (PAGE_SIZE * page + at) 0))

-- a table's own page has its own bytes
byte_over_own : (entry : Entry) (at below : ℕ) → is_own entry ≡ true → byte_over entry at below ≡ get_or (entry_bytes entry) at 0
byte_over_own (Held page) at below own = refl
byte_over_own Blank at below own = sym (get_or-zeros PAGE_SIZE at)
byte_over_own Absent at below own = cc

byte_over_other : (entry : Entry) (at below : ℕ) → is_own entry ≡ false → byte_over entry at below ≡ below
byte_over_other (Held page) at below other = cc
byte_over_other Blank at below other = cc
byte_over_other Absent at below other = refl

module _ (entries : List Entry) (below : List ℕ) where
  pub get_or-laid_over : (at : ℕ) → at < PAGE_SIZE * length entries
      → get_or (laid_over entries below) at 0 ≡ byte_over (entry_at entries (at / PAGE_SIZE)) (at % PAGE_SIZE) (get_or below at 0)
  unfolding laid_over
  get_or-laid_over at inside =
      let is_place : PAGE_SIZE * (at / PAGE_SIZE) + at % PAGE_SIZE ≡ at = omega arith in
      get_or-paged (length entries) (λ page at. byte_over (entry_at entries page) at (get_or below (PAGE_SIZE * page + at) 0)) at inside
      ∙ ap (λ i. byte_over (entry_at entries (at / PAGE_SIZE)) (at % PAGE_SIZE) (get_or below i 0)) is_place

  pub laid_over_is : (memory : List ℕ) → length memory ≡ PAGE_SIZE * length entries
      → ((at : ℕ) → at < PAGE_SIZE * length entries → byte_over (entry_at entries (at / PAGE_SIZE)) (at % PAGE_SIZE) (get_or below at 0) ≡ get_or memory at 0)
      → laid_over entries below ≡ memory
  laid_over_is memory size same =
      let sizes : length (laid_over entries below) ≡ length memory = length-laid_over entries below ∙ sym size in
      ext_get_or 0 (laid_over entries below) memory sizes
      (λ at inside. let within : at < PAGE_SIZE * length entries = subst (λ n. at < n) (length-laid_over entries below) inside in get_or-laid_over at within ∙ same at within)

  byte_of_page : (page at : ℕ) → page < length entries → at < PAGE_SIZE
      → get_or (laid_over entries below) (PAGE_SIZE * page + at) 0 ≡ byte_over (entry_at entries page) at (get_or below (PAGE_SIZE * page + at) 0)
  byte_of_page page at there inside =
      let is_page : (PAGE_SIZE * page + at) / PAGE_SIZE ≡ page = omega arith in
      let is_place : (PAGE_SIZE * page + at) % PAGE_SIZE ≡ at = omega arith in
      get_or-laid_over (PAGE_SIZE * page + at) (omega arith)
      ∙ ap (λ p. byte_over (entry_at entries p) ((PAGE_SIZE * page + at) % PAGE_SIZE) (get_or below (PAGE_SIZE * page + at) 0)) is_page
      ∙ ap (λ k. byte_over (entry_at entries page) k (get_or below (PAGE_SIZE * page + at) 0)) is_place

  pub byte_of_own : (page at : ℕ) → page < length entries → at < PAGE_SIZE → is_own (entry_at entries page) ≡ true
      → get_or (laid_over entries below) (PAGE_SIZE * page + at) 0 ≡ get_or (entry_bytes (entry_at entries page)) at 0
  byte_of_own page at there inside own = byte_of_page page at there inside ∙ byte_over_own (entry_at entries page) at (get_or below (PAGE_SIZE * page + at) 0) own

  pub byte_of_other : (page at : ℕ) → page < length entries → at < PAGE_SIZE → is_own (entry_at entries page) ≡ false
      → get_or (laid_over entries below) (PAGE_SIZE * page + at) 0 ≡ get_or below (PAGE_SIZE * page + at) 0
  byte_of_other page at there inside other = byte_of_page page at there inside ∙ byte_over_other (entry_at entries page) at (get_or below (PAGE_SIZE * page + at) 0) other

  -- a number that lies in one page
  pub number_of_own : (page at n : ℕ) → page < length entries → at + n ≤ PAGE_SIZE → is_own (entry_at entries page) ≡ true
      → little_from (PAGE_SIZE * page + at) n (laid_over entries below) ≡ little_from at n (entry_bytes (entry_at entries page))
  number_of_own page at n there within own =
      little_from_same n (PAGE_SIZE * page + at) at (laid_over entries below) (entry_bytes (entry_at entries page))
      (λ k inside. ap (λ p. get_or (laid_over entries below) p 0) (omega arith) ∙ byte_of_own page (at + k) there (omega arith) own)

  pub number_of_other : (page at n : ℕ) → page < length entries → at + n ≤ PAGE_SIZE → is_own (entry_at entries page) ≡ false
      → little_from (PAGE_SIZE * page + at) n (laid_over entries below) ≡ little_from (PAGE_SIZE * page + at) n below
  number_of_other page at n there within other =
      little_from_same n (PAGE_SIZE * page + at) (PAGE_SIZE * page + at) (laid_over entries below) below
      (λ k inside.
      ap (λ p. get_or (laid_over entries below) p 0) (omega arith) ∙ byte_of_other page (at + k) there (omega arith) other ∙ ap (λ p. get_or below p 0) (omega arith))

-- ---- one entry put for another

module _ (entries : List Entry) (below : List ℕ) (page : ℕ) (there : page < length entries) (entry : Entry) where
  same_page : entry_at (set entries page entry) page ≡ entry
  same_page = get_or-set_same entries page entry Absent there

  -- a memory that has the bytes of the new entry in the page, and those of the table elsewhere
  module _ (memory : List ℕ) (size : length memory ≡ PAGE_SIZE * length entries)
      (in_page : (at : ℕ) → at < PAGE_SIZE → byte_over entry at (get_or below (PAGE_SIZE * page + at) 0) ≡ get_or memory (PAGE_SIZE * page + at) 0)
      (outside : (i : ℕ) → i < PAGE_SIZE * length entries → (i < PAGE_SIZE * page) ⊎ (PAGE_SIZE * page + PAGE_SIZE ≤ i) → get_or (laid_over entries below) i 0 ≡ get_or memory i 0) where
    in_other : (i : ℕ) → i < PAGE_SIZE * length entries → (i < PAGE_SIZE * page) ⊎ (PAGE_SIZE * page + PAGE_SIZE ≤ i)
        → byte_over (entry_at (set entries page entry) (i / PAGE_SIZE)) (i % PAGE_SIZE) (get_or below i 0) ≡ get_or memory i 0
    in_other i within beside =
        let other : i / PAGE_SIZE ≢ page = elim beside [ inl before ↦ λ same. omega arith | inr after ↦ λ same. omega arith ] in
        ap (λ e. byte_over e (i % PAGE_SIZE) (get_or below i 0)) (get_or-set_other entries page (i / PAGE_SIZE) entry Absent other)
        ∙ sym (get_or-laid_over entries below i within) ∙ outside i within beside

    at_place : (i : ℕ) → i < PAGE_SIZE * length entries
        → byte_over (entry_at (set entries page entry) (i / PAGE_SIZE)) (i % PAGE_SIZE) (get_or below i 0) ≡ get_or memory i 0
    at_place i within = elim (cases_lt i (PAGE_SIZE * page)) [
      | inl before ↦ in_other i within (inl before)
      | inr from ↦ elim (cases_lt i (PAGE_SIZE * page + PAGE_SIZE)) [
        | inl before_end ↦
            let is_page : i / PAGE_SIZE ≡ page = omega arith in
            let is_place : PAGE_SIZE * page + i % PAGE_SIZE ≡ i = omega arith in
            let below_page : i % PAGE_SIZE < PAGE_SIZE = omega arith in
            ap (λ p. byte_over (entry_at (set entries page entry) p) (i % PAGE_SIZE) (get_or below i 0)) is_page
            ∙ ap (λ e. byte_over e (i % PAGE_SIZE) (get_or below i 0)) same_page
            ∙ ap (λ j. byte_over entry (i % PAGE_SIZE) (get_or below j 0)) (sym is_place)
            ∙ in_page (i % PAGE_SIZE) below_page
            ∙ ap (λ j. get_or memory j 0) is_place
        | inr after ↦ in_other i within (inr after)
      ]
    ]

    pub laid_over-set : laid_over (set entries page entry) below ≡ memory
    laid_over-set =
        let sizes : length (set entries page entry) ≡ length entries = length-set entries page entry in
        laid_over_is (set entries page entry) below memory (size ∙ ap (λ n. PAGE_SIZE * n) (sym sizes))
        (λ i inside. at_place i (subst (λ n. i < PAGE_SIZE * n) sizes inside))

  -- the memory stays as it is where the new entry has the bytes that the page had
  pub laid_over-set_same : ((at : ℕ) → at < PAGE_SIZE → byte_over entry at (get_or below (PAGE_SIZE * page + at) 0) ≡ get_or (laid_over entries below) (PAGE_SIZE * page + at) 0)
      → laid_over (set entries page entry) below ≡ laid_over entries below
  laid_over-set_same same = laid_over-set (laid_over entries below) (length-laid_over entries below) same (λ i within beside. refl)

-- ---- writes

-- bytes that are written in a page of the table's own
module _ (entries : List Entry) (below : List ℕ) (page : ℕ) (there : page < length entries) (own : is_own (entry_at entries page) ≡ true)
    (at : ℕ) (bytes : List ℕ) (whole : length (entry_bytes (entry_at entries page)) ≡ PAGE_SIZE) (within : at + length bytes ≤ PAGE_SIZE) where
  start : ℕ
  start = PAGE_SIZE * page + at

  unwritten : (k : ℕ) → k < PAGE_SIZE → (k < at) ⊎ (at + length bytes ≤ k)
      → get_or (put_bytes (entry_bytes (entry_at entries page)) at bytes) k 0 ≡ get_or (put_bytes (laid_over entries below) start bytes) (PAGE_SIZE * page + k) 0
  unfolding start
  unwritten k inside outside =
      let size = length-laid_over entries below in
      let beside : (PAGE_SIZE * page + k < start) ⊎ (start + length bytes ≤ PAGE_SIZE * page + k) =
      elim outside [ inl before ↦ inl (omega arith) | inr after ↦ inr (omega arith) ] in
      get_or-put_bytes_outside (entry_bytes (entry_at entries page)) bytes at k (omega arith) outside
      ∙ sym (byte_of_own entries below page k there inside own)
      ∙ sym (get_or-put_bytes_outside (laid_over entries below) bytes start (PAGE_SIZE * page + k) (omega arith) beside)

  is_written : (k : ℕ) → at ≤ k → k < at + length bytes
      → get_or (put_bytes (entry_bytes (entry_at entries page)) at bytes) k 0 ≡ get_or (put_bytes (laid_over entries below) start bytes) (PAGE_SIZE * page + k) 0
  unfolding start
  is_written k from inside =
      let size = length-laid_over entries below in
      ap (λ i. get_or (put_bytes (entry_bytes (entry_at entries page)) at bytes) i 0) (omega arith)
      ∙ get_or-put_bytes (entry_bytes (entry_at entries page)) bytes at (k - at) (omega arith) (omega arith)
      ∙ sym (get_or-put_bytes (laid_over entries below) bytes start (k - at) (omega arith) (omega arith))
      ∙ ap (λ i. get_or (put_bytes (laid_over entries below) start bytes) i 0) (omega arith)

  in_page : (k : ℕ) → k < PAGE_SIZE → get_or (put_bytes (entry_bytes (entry_at entries page)) at bytes) k 0 ≡ get_or (put_bytes (laid_over entries below) start bytes) (PAGE_SIZE * page + k) 0
  in_page k inside = elim (cases_lt k at) [
    | inl before ↦ unwritten k inside (inl before)
    | inr from ↦ elim (cases_lt k (at + length bytes)) [
      | inl before_end ↦ is_written k from before_end
      | inr after ↦ unwritten k inside (inr after)
    ]
  ]

  pub write_in_page : laid_over (set entries page (Held (put_bytes (entry_bytes (entry_at entries page)) at bytes))) below ≡ put_bytes (laid_over entries below) (PAGE_SIZE * page + at) bytes
  unfolding start
  write_in_page =
      let size = length-laid_over entries below in
      let fits : start + length bytes ≤ length (laid_over entries below) = omega arith in
      laid_over-set entries below page there (Held (put_bytes (entry_bytes (entry_at entries page)) at bytes)) (put_bytes (laid_over entries below) start bytes)
      (length-put_bytes (laid_over entries below) bytes start fits ∙ size)
      in_page
      (λ i inside beside.
      let outside : (i < start) ⊎ (start + length bytes ≤ i) = elim beside [ inl before ↦ inl (omega arith) | inr after ↦ inr (omega arith) ] in
      sym (get_or-put_bytes_outside (laid_over entries below) bytes start i (omega arith) outside))
