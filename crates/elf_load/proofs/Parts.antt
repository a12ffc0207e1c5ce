-- Bytes that are put into RAM page by page.
use Rattle.std.proofs.Common.{◌≡◌, ℕ, ◌+◌, ◌-◌, ◌*◌, ◌<◌, ◌≤◌, true, List, [], length, take, drop, get_or, min, sym, ap, ◌∙◌, inl, inr, arith}
use Rattle.std.specs.List.{slice_range}
use Rattle.std.proofs.Math.ListN.{set}
use Rattle.std.proofs.lemmas.Bool.{cases_lt}
use Rattle.std.proofs.lemmas.List.{ext_get_or, get_or-drop, get_or-take, length-take, length-drop, take_all}
use Rattle.flat_memory.specs.Flat.{put_bytes}
use Rattle.flat_memory.proofs.Bytes.{get_or-put_bytes, get_or-put_bytes_outside, length-put_bytes, put_none}
use Rattle.page_frames.specs.declared.entry.Entry.{Entry}
use Rattle.page_frames.specs.declared.entry.Entry.TheVariants.{Held}
use Rattle.page_frames.specs.Tables.{entry_at, entry_bytes, is_own, laid_over}
use Rattle.page_frames.proofs.Memory.{write_in_page}
use Rattle.elf_load.specs.Elf.{part_in}
use Rattle.page_frames.specs.declared.page.TheConstants.{PAGE_SIZE}

-- the first bytes, and then more of them behind those
module _ (memory : List ℕ) (start : ℕ) (content : List ℕ) (room : start + length content ≤ length memory) (a b : ℕ) (order : a ≤ b) (within : b ≤ length content) where
  first : List ℕ
  first = take a content

  more : List ℕ
  more = slice_range content a b

  both : List ℕ
  both = take b content

  sizes : (length first ≡ a) × (length more ≡ b - a) × (length both ≡ b)
  unfolding first more both
  sizes = (omega (arith, length-take a content), omega (arith, length-take (b - a) (drop a content), length-drop a content), omega (arith, length-take b content))

  after : List ℕ
  after = put_bytes (put_bytes memory start first) (start + a) more

  once : length (put_bytes memory start first) ≡ length memory
  once = length-put_bytes memory first start (omega (arith, sizes.0))

  at_place : (k : ℕ) → k < length memory → get_or after k 0 ≡ get_or (put_bytes memory start both) k 0
  unfolding first more both after
  at_place k inside =
      let one = sizes.0 in
      let two = sizes.1 in
      let all = sizes.2 in
      elim (cases_lt k start) [
        | inl ahead ↦
            get_or-put_bytes_outside (put_bytes memory start first) more (start + a) k (omega (arith, once)) (inl (omega arith))
            ∙ get_or-put_bytes_outside memory first start k (omega arith) (inl ahead)
            ∙ sym (get_or-put_bytes_outside memory both start k (omega arith) (inl ahead))
        | inr from ↦ elim (cases_lt k (start + b)) [
          | inl below ↦ elim (cases_lt k (start + a)) [
            | inl early ↦
                get_or-put_bytes_outside (put_bytes memory start first) more (start + a) k (omega (arith, once)) (inl early)
                ∙ ap (λ i. get_or (put_bytes memory start first) i 0) (omega arith)
                ∙ get_or-put_bytes memory first start (k - start) (omega arith) (omega arith)
                ∙ get_or-take a content (k - start) 0 (omega arith)
                ∙ sym (get_or-take b content (k - start) 0 (omega arith))
                ∙ sym (get_or-put_bytes memory both start (k - start) (omega arith) (omega arith))
                ∙ ap (λ i. get_or (put_bytes memory start both) i 0) (omega arith)
            | inr late ↦
                ap (λ i. get_or after i 0) (omega arith)
                ∙ get_or-put_bytes (put_bytes memory start first) more (start + a) (k - (start + a)) (omega (arith, once)) (omega arith)
                ∙ get_or-take (b - a) (drop a content) (k - (start + a)) 0 (omega arith)
                ∙ get_or-drop a content (k - (start + a)) 0
                ∙ ap (λ i. get_or content i 0) (omega arith)
                ∙ sym (get_or-take b content (k - start) 0 (omega arith))
                ∙ sym (get_or-put_bytes memory both start (k - start) (omega arith) (omega arith))
                ∙ ap (λ i. get_or (put_bytes memory start both) i 0) (omega arith)
          ]
          | inr past ↦
              get_or-put_bytes_outside (put_bytes memory start first) more (start + a) k (omega (arith, once)) (inr (omega arith))
              ∙ get_or-put_bytes_outside memory first start k (omega arith) (inr (omega arith))
              ∙ sym (get_or-put_bytes_outside memory both start k (omega arith) (inr (omega arith)))
        ]
      ]

  pub put_more : put_bytes (put_bytes memory start (take a content)) (start + a) (slice_range content a b) ≡ put_bytes memory start (take b content)
  unfolding first more both after
  put_more =
      let long : length after ≡ length memory = length-put_bytes (put_bytes memory start first) more (start + a) (omega (arith, once, sizes.1)) ∙ once in
      let size : length (put_bytes memory start both) ≡ length memory = length-put_bytes memory both start (omega (arith, sizes.2)) in
      ext_get_or 0 after (put_bytes memory start both) (long ∙ sym size) (λ k inside. at_place k (omega (arith, long)))

-- as many of some bytes as lie before a page, where they begin at a place of RAM
abbrev pub before_page : ℕ → ℕ → List ℕ → ℕ
before_page page start content = min (PAGE_SIZE * page - start) (length content)

-- the bytes before a page are in RAM
abbrev pub IsPutTo : ℕ → List ℕ → ℕ → List ℕ → List Entry → Type 0
IsPutTo page memory start content table = laid_over table [] ≡ put_bytes memory start (take (before_page page start content) content)

pub put_first : (table : List Entry) (start page : ℕ) (content : List ℕ) → PAGE_SIZE * page ≤ start → IsPutTo page (laid_over table []) start content table
put_first table start page content from =
    let none : before_page page start content ≡ 0 = omega arith in
    sym (put_none (laid_over table []) start) ∙ ap (λ n. put_bytes (laid_over table []) start (take n content)) (sym none)

-- one page more
pub put_next : (memory : List ℕ) (start page : ℕ) (content : List ℕ) (table : List Entry) → start + length content ≤ length memory → length memory ≡ PAGE_SIZE * length table
    → page < length table → is_own (entry_at table page) ≡ true → length (entry_bytes (entry_at table page)) ≡ PAGE_SIZE → start < PAGE_SIZE * page + PAGE_SIZE
    → IsPutTo page memory start content table
    → IsPutTo (page + 1) memory start content (set table page (Held (put_bytes (entry_bytes (entry_at table page)) (start - PAGE_SIZE * page) (part_in page start content))))
put_next memory start page content table room size there own whole begun is =
    let a = before_page page start content in
    let b = before_page (page + 1) start content in
    let last : min (PAGE_SIZE * page + PAGE_SIZE - start) (length content) ≡ b = omega arith in
    let part = part_in page start content in
    let same : part ≡ slice_range content a b = ap (λ e. slice_range content a e) last in
    let few : length part ≤ b - a = omega (arith, ap length same, length-take (b - a) (drop a content)) in
    write_in_page table [] page there own (start - PAGE_SIZE * page) part whole (omega (arith, few))
    ∙ ap (λ old. put_bytes old (PAGE_SIZE * page + (start - PAGE_SIZE * page)) part) is
    ∙ elim (cases_lt (length content) (PAGE_SIZE * page - start)) [
      | inl done ↦
          let zero : b - a ≡ 0 = omega arith in
          let whole_taken : a ≡ b = omega arith in
          let none : slice_range content a b ≡ [] = ap (λ n. take n (drop a content)) zero in
          ap (λ bytes. put_bytes (put_bytes memory start (take a content)) (PAGE_SIZE * page + (start - PAGE_SIZE * page)) bytes) (same ∙ none)
          ∙ put_none (put_bytes memory start (take a content)) (PAGE_SIZE * page + (start - PAGE_SIZE * page))
          ∙ ap (λ n. put_bytes memory start (take n content)) whole_taken
      | inr left ↦
          let place : PAGE_SIZE * page + (start - PAGE_SIZE * page) ≡ start + a = omega arith in
          ap (λ i. put_bytes (put_bytes memory start (take a content)) i part) place
          ∙ ap (λ bytes. put_bytes (put_bytes memory start (take a content)) (start + a) bytes) same
          ∙ put_more memory start content room a b (omega arith) (omega arith)
    ]

-- all of them
pub put_last : (memory : List ℕ) (start page : ℕ) (content : List ℕ) (table : List Entry) → start + length content ≤ PAGE_SIZE * page → IsPutTo page memory start content table
    → laid_over table [] ≡ put_bytes memory start content
put_last memory start page content table past is =
    is ∙ ap (λ bytes. put_bytes memory start bytes) (take_all (before_page page start content) content (omega arith))
