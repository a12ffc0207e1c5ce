-- Files that `elf_of` writes, and the image that they load.
use Rattle.std.proofs.Common.{◌≡◌, ℕ, ◌+◌, ◌-◌, ◌*◌, ◌/◌, ◌%◌, ◌<◌, ◌≤◌, ◌^◌, Bool, true, false, not, cond, eqb, ltb, leb, max, min}
use Rattle.std.proofs.Common.{List, [], ◌∷◌, ◌++◌, length, get_or, drop, Some, None, Ok, refl, sym, ap, ◌∙◌, inl, inr, arith}
use Rattle.std.specs.Prelude.{◌||◌, ◌&&◌, ◌⊎◌, map, filter}
use Rattle.std.specs.List.{list_any, range_with_len, starts_with}
use Rattle.std.proofs.lemmas.Bool.{cases_Bool, cases_lt, cond-true, cond-false, le-ltb, lt-ltb, ltb-false, le-leb, lt-leb, eq-eqb, and_from, and_left, and_right, or_from, not_from_true}
use Rattle.std.proofs.lemmas.List.{length-append, get_or-append_right, get_or_append_left}
use Rattle.std.proofs.lemmas.List.FromFn.{fill_by_all, length-map-range_with_len}
use Rattle.std.proofs.lemmas.List.Sorted.{IsPermutation-refl}
use Rattle.flat_memory.specs.Flat.{half_at, word_at, zeros}
use Rattle.flat_memory.proofs.Zeros.{length-zeros, get_or-zeros}
use Rattle.elf_load.specs.Elf.{e_type, e_machine, e_version, e_entry, e_phoff, e_phentsize, e_phnum, p_type, segment_at}
use Rattle.elf_load.specs.Elf.{header_rules, place_rules, rules_of, first_broken, loads_among, loads_of, segments_of, non_empty}
use Rattle.elf_load.specs.Elf.{loaded, unless_refused, image_of, covers, touches, segment_byte, byte_at, ram_of}
use Rattle.elf_load.specs.Elf.{pages_of, ram_end, page_start, end_of, is_entry, is_cut, is_outside, is_overfull, overlap}
use Rattle.elf_load.specs.OneSegment.{headers, elf_of, image_of_code}
use Rattle.elf_load.specs.declared.image.TheConstants.{RAM_BASE, MAX_PAGES}
use Rattle.page_frames.specs.declared.page.TheConstants.{PAGE_SIZE}
use Rattle.elf_load.specs.declared.header.TheConstants.{MAGIC}
use Rattle.elf_load.specs.declared.segment.Segment.{Segment}
use Rattle.elf_load.proofs.Order.{same_map}
use Rattle.elf_load.proofs.Rules.{loaded_unbroken}

pub length-elf_of : (base : ℕ) (code : List ℕ) → length (elf_of base code) ≡ 84 + length code
unfolding elf_of headers
length-elf_of base code = length-append (headers base (length code)) code

-- a number below 2 ^ 32 in four bytes
pub whole_word : (n : ℕ) → n < 4294967296 → n % 256 + 256 * (n / 256 % 256 + 256 * (n / 65536 % 256 + 256 * (n / 16777216 % 256 + 256 * 0))) ≡ n
whole_word n small = omega arith

pub entry-elf_of : (base : ℕ) (code : List ℕ) → base < 4294967296 → e_entry (elf_of base code) ≡ base
unfolding elf_of headers
entry-elf_of base code small = whole_word base small

-- no rule on the header is broken
pub header-elf_of : (base : ℕ) (code : List ℕ) → first_broken (header_rules (elf_of base code)) ≡ None
unfolding elf_of headers header_rules
header-elf_of base code =
    let long = length-elf_of base code in
    cond-false _ _ _ (le-ltb (length (elf_of base code)) 52 (omega arith))
    ∙ cond-false _ _ _ (le-ltb (length (elf_of base code)) 84 (omega arith))

-- the one segment
segment_of : ℕ → List ℕ → Segment
segment_of base code = record { offset = 84; address = base; file_size = length code; memory_size = length code }

loads-elf_of : (base : ℕ) (code : List ℕ) → base < 4294967296 → length code < 4294967296 → loads_of (elf_of base code) ≡ segment_of base code ∷ []
unfolding elf_of headers loads_among segment_at segment_of
loads-elf_of base code small short =
    let address = whole_word base small in
    let size = whole_word (length code) short in
    cc

or_false : (b : Bool) → (b || false) ≡ b
or_false true = refl
or_false false = refl

not_covered : (s : Segment) (address : ℕ) → (address < s.address) ⊎ (end_of s ≤ address) → covers s address ≡ false
not_covered s address (inl before) = and_left _ _ (lt-leb s.address address before)
not_covered s address (inr behind) = and_right _ _ (le-ltb address (end_of s) behind)

empty_outside : (s : Segment) (address : ℕ) → s.memory_size ≤ 0 → (address < s.address) ⊎ (end_of s ≤ address)
empty_outside s address empty =
    elim (cases_lt address s.address) [ inl before ↦ inl before | inr behind ↦ inr (omega arith) ]

-- a segment alone, which may be empty
none_alone : (p : Segment → Bool) (s : Segment) → p s ≡ false → list_any p (non_empty (s ∷ [])) ≡ false
none_alone p s fails =
    elim (cases_Bool (ltb 0 s.memory_size)) [
      | inl some ↦ ap (λ b. list_any p (cond b (s ∷ []) [])) some ∙ or_from _ _ fails refl
      | inr none ↦ ap (λ b. list_any p (cond b (s ∷ []) [])) none
    ]

no_overlap_alone : (s : Segment) → overlap (non_empty (s ∷ [])) ≡ false
no_overlap_alone s =
    elim (cases_Bool (ltb 0 s.memory_size)) [
      | inl some ↦ ap (λ b. overlap (cond b (s ∷ []) [])) some
      | inr none ↦ ap (λ b. overlap (cond b (s ∷ []) [])) none
    ]

touches_alone : (page : ℕ) (s : Segment) → list_any (touches page) (non_empty (s ∷ [])) ≡ touches page s
touches_alone page s =
    elim (cases_Bool (ltb 0 s.memory_size)) [
      | inl some ↦ ap (λ b. list_any (touches page) (cond b (s ∷ []) [])) some ∙ or_false (touches page s)
      | inr none ↦
          ap (λ b. list_any (touches page) (cond b (s ∷ []) [])) none
          ∙ sym (let empty = ltb-false 0 s.memory_size none in le-ltb _ _ (omega arith))
    ]

byte_at_alone : (file : List ℕ) (s : Segment) (address : ℕ) → byte_at file (non_empty (s ∷ [])) address ≡ cond (covers s address) (segment_byte file s address) 0
byte_at_alone file s address =
    elim (cases_Bool (ltb 0 s.memory_size)) [
      | inl some ↦ ap (λ b. byte_at file (cond b (s ∷ []) []) address) some
      | inr none ↦
          ap (λ b. byte_at file (cond b (s ∷ []) []) address) none
          ∙ sym (cond-false _ _ _ (let empty = ltb-false 0 s.memory_size none in not_covered s address (empty_outside s address empty)))
    ]

fits_alone : (base : ℕ) (code : List ℕ) → list_any is_overfull (segment_of base code ∷ []) ≡ false
unfolding segment_of
fits_alone base code = or_from _ _ (le-ltb (length code) (length code) (omega arith)) refl

-- what the code asks for
record Fits (base : ℕ) (code : List ℕ) (pages : ℕ) : Type 0 where
  most : pages ≤ MAX_PAGES
  aligned : base % 4 ≡ 0
  from_base : RAM_BASE ≤ base
  entered : base < ram_end pages
  room : base + length code ≤ ram_end pages

places-elf_of : (base : ℕ) (code : List ℕ) (pages : ℕ) → Fits base code pages
    → first_broken (place_rules (elf_of base code) pages (non_empty (segment_of base code ∷ [])) base) ≡ None
unfolding place_rules segment_of
places-elf_of base code pages h =
    let long = length-elf_of base code in
    cond-false _ _ _ (none_alone (is_cut (elf_of base code)) (segment_of base code) (le-ltb _ _ (omega arith)))
    ∙ cond-false _ _ _ (none_alone (is_outside pages) (segment_of base code) (or_from _ _ (le-ltb _ _ h.from_base) (le-ltb _ _ h.room)))
    ∙ cond-false _ _ _ (no_overlap_alone (segment_of base code))
    ∙ cond-false _ _ _ (not_from_true _ (and_from _ _ (eq-eqb _ _ h.aligned) (and_from _ _ (le-leb _ _ h.from_base) (lt-ltb _ _ h.entered))))

whole : (base : ℕ) (code : List ℕ) (pages : ℕ) → Fits base code pages → (base < 4294967296) × (length code < 4294967296)
whole base code pages h = (omega (arith, h.entered, h.most), omega (arith, h.room, h.most))

-- RAM with the code in it
code_byte : (base : ℕ) (code : List ℕ) (k : ℕ) → get_or (elf_of base code) (84 + k) 0 ≡ get_or code k 0
unfolding elf_of headers
code_byte base code k = get_or-append_right (headers base (length code)) code 84 (84 + k) 0 refl (omega arith) ∙ ap (λ i. get_or code i 0) (omega arith)

-- the byte of the segment, at an offset in RAM
byte_in_code : (base : ℕ) (code : List ℕ) (at before behind : ℕ) → base ≡ RAM_BASE + before
    → get_or (zeros before ++ (code ++ zeros behind)) at 0
    ≡ cond (covers (segment_of base code) (RAM_BASE + at)) (segment_byte (elf_of base code) (segment_of base code) (RAM_BASE + at)) 0
unfolding segment_of
byte_in_code base code at before behind start =
    let s = segment_of base code in
    elim (cases_lt at before) [
      | inl ahead ↦
          get_or_append_left (zeros before) (code ++ zeros behind) 0 at (omega (arith, length-zeros before)) ∙ get_or-zeros before at
          ∙ sym (cond-false _ _ _ (not_covered s (RAM_BASE + at) (inl (omega arith))))
      | inr from ↦ elim (cases_lt (at - before) (length code)) [
        | inl within ↦
            get_or-append_right (zeros before) (code ++ zeros behind) before at 0 (length-zeros before) from
            ∙ get_or_append_left code (zeros behind) 0 (at - before) within
            ∙ sym (code_byte base code (at - before)) ∙ ap (λ i. get_or (elf_of base code) i 0) (omega arith)
            ∙ sym (cond-true _ _ _ (lt-ltb (RAM_BASE + at) (base + length code) (omega arith)))
            ∙ sym (cond-true _ _ _ (and_from _ _ (le-leb base (RAM_BASE + at) (omega arith)) (lt-ltb (RAM_BASE + at) (base + length code) (omega arith))))
        | inr past ↦
            get_or-append_right (zeros before) (code ++ zeros behind) before at 0 (length-zeros before) from
            ∙ get_or-append_right code (zeros behind) (length code) (at - before) 0 refl past ∙ get_or-zeros behind (at - before - length code)
            ∙ sym (cond-false _ _ _ (not_covered s (RAM_BASE + at) (inr (omega arith))))
      ]
    ]

ram-elf_of : (base : ℕ) (code : List ℕ) (pages : ℕ) → Fits base code pages
    → zeros (base - RAM_BASE) ++ (code ++ zeros (ram_end pages - (base + length code))) ≡ ram_of (elf_of base code) (non_empty (segment_of base code ∷ [])) pages
unfolding ram_of
ram-elf_of base code pages h =
    let before = base - RAM_BASE in
    let behind = ram_end pages - (base + length code) in
    let size = length-append (zeros before) (code ++ zeros behind) in
    let rest = length-append code (zeros behind) in
    let zeros_before = length-zeros before in
    let zeros_behind = length-zeros behind in
    fill_by_all (λ at. byte_at (elf_of base code) (non_empty (segment_of base code ∷ [])) (RAM_BASE + at)) _ (PAGE_SIZE * pages) 0 (omega (arith, h.from_base, h.room))
    (λ at within. byte_in_code base code at before behind (omega (arith, h.from_base)) ∙ sym (byte_at_alone (elf_of base code) (segment_of base code) (RAM_BASE + at)))

image-elf_of : (base : ℕ) (code : List ℕ) (pages : ℕ) → Fits base code pages → image_of (elf_of base code) pages ≡ image_of_code base code pages
unfolding image_of image_of_code pages_of segment_of
image-elf_of base code pages h =
    let small = whole base code pages h in
    let placed = ap non_empty (loads-elf_of base code small.0 small.1) in
    let entry = entry-elf_of base code small.0 in
    let ram = ap (λ segments. ram_of (elf_of base code) segments pages) placed ∙ sym (ram-elf_of base code pages h) in
    let flags =
    ap (λ segments. map (λ page. list_any (touches page) segments) (range_with_len 0 pages)) placed
    ∙ same_map _ _ (λ page. touches_alone page (segment_of base code)) (range_with_len 0 pages) in
    cc

pub loaded-elf_of : (base : ℕ) (code : List ℕ) (pages : ℕ) → pages ≤ MAX_PAGES → base % 4 ≡ 0 → RAM_BASE ≤ base → base < ram_end pages → base + length code ≤ ram_end pages
    → loaded (elf_of base code) pages ≡ Ok (image_of_code base code pages)
loaded-elf_of base code pages most aligned from_base entered room =
    let h : Fits base code pages = record { most = most; aligned = aligned; from_base = from_base; entered = entered; room = room } in
    let small = whole base code pages h in
    let loads = loads-elf_of base code small.0 small.1 in
    loaded_unbroken (elf_of base code) pages (segments_of (elf_of base code)) (header-elf_of base code)
    (ap (list_any is_overfull) loads ∙ fits_alone base code) (IsPermutation-refl _)
    (ap (λ segments. first_broken (place_rules (elf_of base code) pages segments (e_entry (elf_of base code)))) (ap non_empty loads)
    ∙ ap (λ entry. first_broken (place_rules (elf_of base code) pages (non_empty (segment_of base code ∷ [])) entry)) (entry-elf_of base code small.0)
    ∙ places-elf_of base code pages h)
    ∙ ap Ok (image-elf_of base code pages h)
