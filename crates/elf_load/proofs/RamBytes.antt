-- The bytes of RAM, segment by segment.
use Rattle.std.proofs.Common.{◌≡◌, ℕ, ◌+◌, ◌-◌, ◌*◌, ◌<◌, ◌≤◌, Bool, true, false, cond, List, [], ◌∷◌, ◌++◌, length, take, drop, get_or, refl, sym, ap, ◌∙◌, inl, inr, arith}
use Rattle.std.specs.Prelude.{All}
use Rattle.std.specs.List.{AllPairs}
use Rattle.std.proofs.lemmas.Bool.{cases_lt, cond-true, cond-false, lt-ltb, le-ltb, le-leb, lt-leb, and_left, and_right, and_from}
use Rattle.std.proofs.lemmas.List.{get_or_past, get_or-drop, get_or-take, get_or_default, length-take, length-drop}
use Rattle.std.proofs.lemmas.List.Elements.{All-head, All-tail, All-weaker}
use Rattle.flat_memory.specs.Flat.{put_bytes}
use Rattle.flat_memory.proofs.Bytes.{get_or-put_bytes, get_or-put_bytes_outside}
use Rattle.elf_load.specs.Elf.{covers, end_of, segment_byte, byte_at, IsBelow}
use Rattle.elf_load.specs.declared.image.TheConstants.{RAM_BASE}
use Rattle.elf_load.specs.declared.segment.Segment.{Segment}
use Rattle.elf_load.proofs.Order.{byte_at_none}

-- a segment that does not cover an address changes nothing there
byte_at_skip : (file : List ℕ) (before : List Segment) (s : Segment) (address : ℕ) → covers s address ≡ false
    → byte_at file (before ++ s ∷ []) address ≡ byte_at file before address
byte_at_skip file [] s address outside = cond-false _ _ _ outside
byte_at_skip file (t ∷ before) s address outside =
    ap (λ others. cond (covers t address) (segment_byte file t address) others) (byte_at_skip file before s address outside)

-- the first segment that covers an address gives its byte
byte_at_first : (file : List ℕ) (before : List Segment) (s : Segment) (address : ℕ) → All (λ t. end_of t ≤ address) before
    → byte_at file (before ++ s ∷ []) address ≡ cond (covers s address) (segment_byte file s address) 0
byte_at_first file [] s address below = refl
byte_at_first file (t ∷ before) s address below =
    cond-false _ _ _ (and_right _ _ (le-ltb address (end_of t) (All-head (λ u. end_of u ≤ address) t before below)))
    ∙ byte_at_first file before s address (All-tail (λ u. end_of u ≤ address) t before below)

-- the bytes that a segment takes from the file
get_or_piece : (file : List ℕ) (from size k : ℕ) → k < size → get_or (take size (drop from file)) k 0 ≡ get_or file (from + k) 0
get_or_piece file from size k within = get_or-take size (drop from file) k 0 within ∙ get_or-drop from file k 0

get_or_behind_piece : (file : List ℕ) (from size k : ℕ) → size ≤ k → get_or (take size (drop from file)) k 0 ≡ 0
get_or_behind_piece file from size k past = get_or_past _ k 0 (omega (arith, length-take size (drop from file)))

-- a segment's byte where its file bytes are, and behind them
segment_byte_in_file : (file : List ℕ) (s : Segment) (address k : ℕ) → address ≡ s.address + k → k < s.file_size → segment_byte file s address ≡ get_or file (s.offset + k) 0
segment_byte_in_file file s address k place within =
    cond-true _ _ _ (lt-ltb address (s.address + s.file_size) (omega arith)) ∙ ap (λ i. get_or file i 0) (omega arith)

segment_byte_behind : (file : List ℕ) (s : Segment) (address k : ℕ) → address ≡ s.address + k → s.file_size ≤ k → segment_byte file s address ≡ 0
segment_byte_behind file s address k place past = cond-false _ _ _ (le-ltb address (s.address + s.file_size) (omega arith))

covers_true : (s : Segment) (address : ℕ) → s.address ≤ address → address < end_of s → covers s address ≡ true
covers_true s address from below = and_from _ _ (le-leb s.address address from) (lt-ltb address (end_of s) below)

covers_before : (s : Segment) (address : ℕ) → address < s.address → covers s address ≡ false
covers_before s address before = and_left _ _ (lt-leb s.address address before)

covers_behind : (s : Segment) (address : ℕ) → end_of s ≤ address → covers s address ≡ false
covers_behind s address past = and_right _ _ (le-ltb address (end_of s) past)

cond-same : (b : Bool) (x y : ℕ) → x ≡ y → cond b x y ≡ y
cond-same true x y same = same
cond-same false x y same = refl

-- the bytes from a segment's start on
bytes_from_start : (file : List ℕ) (before : List Segment) (s : Segment) (address k : ℕ) → address ≡ s.address + k → s.file_size ≤ s.memory_size
    → All (λ t. end_of t ≤ s.address) before → get_or (take s.file_size (drop s.offset file)) k 0 ≡ byte_at file (before ++ s ∷ []) address
bytes_from_start file before s address k place fits below =
    let below_address = All-weaker (λ t. end_of t ≤ s.address) (λ t. end_of t ≤ address) (λ t h. omega arith) before below in
    elim (cases_lt k s.file_size) [
      | inl within ↦
          get_or_piece file s.offset s.file_size k within ∙ sym (segment_byte_in_file file s address k place within)
          ∙ sym (cond-true _ _ _ (covers_true s address (omega arith) (omega arith)))
          ∙ sym (byte_at_first file before s address below_address)
      | inr past ↦
          get_or_behind_piece file s.offset s.file_size k past
          ∙ sym (cond-same (covers s address) (segment_byte file s address) 0 (segment_byte_behind file s address k place past))
          ∙ sym (byte_at_first file before s address below_address)
    ]

-- memory with one segment more
module _ (file : List ℕ) (before : List Segment) (s : Segment) (memory : List ℕ) (fits : s.file_size ≤ s.memory_size) (source : s.offset + s.file_size ≤ length file)
    (below : All (λ t. end_of t ≤ s.address) before) (from_base : RAM_BASE ≤ s.address) (room : s.address - RAM_BASE + s.file_size ≤ length memory)
    (so_far : (at : ℕ) → at < length memory → get_or memory at 0 ≡ byte_at file before (RAM_BASE + at)) where
  piece : List ℕ
  piece = take s.file_size (drop s.offset file)

  size : length piece ≡ s.file_size
  unfolding piece
  size = omega (arith, length-take s.file_size (drop s.offset file), length-drop s.offset file)

  pub bytes_put : (at : ℕ) → at < length memory → get_or (put_bytes memory (s.address - RAM_BASE) (take s.file_size (drop s.offset file))) at 0 ≡ byte_at file (before ++ s ∷ []) (RAM_BASE + at)
  unfolding piece
  bytes_put at inside =
      let start = s.address - RAM_BASE in
      elim (cases_lt at start) [
        | inl ahead ↦
            get_or-put_bytes_outside memory piece start at (omega arith) (inl ahead) ∙ so_far at inside
            ∙ sym (byte_at_skip file before s (RAM_BASE + at) (covers_before s (RAM_BASE + at) (omega arith)))
        | inr from ↦ elim (cases_lt at (start + length piece)) [
          | inl within ↦
              ap (λ i. get_or (put_bytes memory start piece) i 0) (omega arith)
              ∙ get_or-put_bytes memory piece start (at - start) (omega arith) (omega arith)
              ∙ bytes_from_start file before s (RAM_BASE + at) (at - start) (omega arith) fits below
          | inr past ↦
              get_or-put_bytes_outside memory piece start at (omega arith) (inr past) ∙ so_far at inside
              ∙ byte_at_none file before (RAM_BASE + at) (λ k d there. covers_behind (get_or before k d) (RAM_BASE + at) (let ends = below k d there in omega arith))
              ∙ sym (get_or_past piece (at - start) 0 (omega arith))
              ∙ bytes_from_start file before s (RAM_BASE + at) (at - start) (omega arith) fits below
        ]
      ]

-- the segments before a place end before the one there begins
pub in_order_before : (segments : List Segment) (i k : ℕ) (d e : Segment) → i < length segments → k < i → AllPairs IsBelow segments
    → end_of (get_or (take i segments) k e) ≤ (get_or segments i d).address
in_order_before segments i k d e within before in_order =
    let below = in_order k i e before within in
    omega (arith, below, ap end_of (get_or-take i segments k e before), ap (λ (s : Segment). s.address) (get_or_default segments i d e within))
