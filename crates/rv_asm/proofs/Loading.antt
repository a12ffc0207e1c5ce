-- How the loader takes an image of words.
use Rattle.std.proofs.Common.{◌≡◌, ℕ, zero, suc, ◌+◌, ◌-◌, ◌*◌, ◌/◌, ◌%◌, ◌<◌, ◌≤◌, ◌^◌, ◌⊎◌, true, false, not, cond, ltb, List}
use Rattle.std.proofs.Common.{[], ◌∷◌, ◌++◌, length, get_or, Some, None, Ok, Err, refl, sym, ap, ◌∙◌, inl, inr, subst, arith}
use Rattle.std.specs.Prelude.{◌||◌, All}
use Rattle.std.specs.List.{list_any}
use Rattle.std.proofs.lemmas.Bool.{cases_Bool, cond-true, cond-false, le-ltb, lt-ltb, ltb-true, ltb-false, leb-true, and_parts, or_from, or_left, or_parts}
use Rattle.std.proofs.lemmas.List.{get_or-append_right, get_or_append_left}
use Rattle.std.proofs.lemmas.List.Elements.{All-drop}
use Rattle.std.proofs.lemmas.List.Sorted.{IsPermutation-refl}
use Rattle.byteorder.specs.Endian.{little_from}
use Rattle.flat_memory.specs.Flat.{zeros, word_at}
use Rattle.flat_memory.proofs.Zeros.{length-zeros, get_or-zeros}
use Rattle.elf_load.specs.Elf.{e_entry, segment_at, place_rules, first_broken, loads_among, loads_of, segments_of, non_empty, loaded, ram_end, is_entry, is_cut, is_outside, is_overfull}
use Rattle.elf_load.specs.OneSegment.{word, headers, elf_of, bytes_of_words, image_of_code}
use Rattle.elf_load.specs.declared.image.TheConstants.{RAM_BASE}
use Rattle.elf_load.proofs.OneSegment.{entry-elf_of, header-elf_of, length-elf_of, loaded-elf_of, whole_word}
use Rattle.elf_load.proofs.Rules.{loaded_place_broken}
use Rattle.elf_load.proofs.Words.{length-bytes_of_words}
use Rattle.rv_asm.specs.Fit.{IsBuilt, FitsInRam, misfit}
use Rattle.rv_asm.specs.declared.image.TheConstants.{MAX_WORDS}

pub loads : (base : ℕ) (words : List ℕ) (pages : ℕ) → IsBuilt base words pages → FitsInRam base words pages
    → loaded (elf_of base (bytes_of_words words)) pages ≡ Ok (image_of_code base (bytes_of_words words) pages)
loads base words pages built fits =
    let size = length-bytes_of_words words in
    loaded-elf_of base (bytes_of_words words) pages built.most_pages built.aligned fits.from_base fits.entered (omega (arith, size, fits.room))

-- ---- what is read of the image

-- its one segment, of the program header at 52
loads_of-elf_of : (base : ℕ) (code : List ℕ) → loads_of (elf_of base code) ≡ segment_at (elf_of base code) 52 ∷ []
unfolding elf_of headers loads_among
loads_of-elf_of base code = refl

offset_of : (base : ℕ) (code : List ℕ) → (segment_at (elf_of base code) 52).offset ≡ 84
unfolding elf_of headers segment_at
offset_of base code = refl

address_of : (base : ℕ) (code : List ℕ) → base < 4294967296 → (segment_at (elf_of base code) 52).address ≡ base
unfolding elf_of headers segment_at
address_of base code small = whole_word base small

file_size_of : (base : ℕ) (code : List ℕ) → length code < 4294967296 → (segment_at (elf_of base code) 52).file_size ≡ length code
unfolding elf_of headers segment_at
file_size_of base code short = whole_word (length code) short

memory_size_of : (base : ℕ) (code : List ℕ) → length code < 4294967296 → (segment_at (elf_of base code) 52).memory_size ≡ length code
unfolding elf_of headers segment_at
memory_size_of base code short = whole_word (length code) short

refused : (base : ℕ) (code : List ℕ) (pages number : ℕ) → base < 4294967296 → length code < 4294967296
    → first_broken (place_rules (elf_of base code) pages (non_empty (segment_at (elf_of base code) 52 ∷ [])) base) ≡ Some number → loaded (elf_of base code) pages ≡ Err number
refused base code pages number small short broken =
    let file = elf_of base code in
    let read = loads_of-elf_of base code in
    let fits : is_overfull (segment_at file 52) ≡ false = le-ltb _ _ (omega (arith, file_size_of base code short, memory_size_of base code short)) in
    loaded_place_broken file pages (segments_of file) number (header-elf_of base code) (ap (list_any is_overfull) read ∙ or_from _ _ fits refl) (IsPermutation-refl _)
    (ap (λ segments. first_broken (place_rules file pages segments (e_entry file))) (ap non_empty read)
    ∙ ap (λ entry. first_broken (place_rules file pages (non_empty (segment_at file 52 ∷ [])) entry)) (entry-elf_of base code small) ∙ broken)

-- with no word the entry is outside
not_entered : (base pages : ℕ) → base % 4 ≡ 0 → ¬ (FitsInRam base [] pages) → is_entry pages base ≡ false
not_entered base pages aligned misses =
    elim (cases_Bool (is_entry pages base)) [
      | inl inside ↦ (
          let range = and_parts _ _ (and_parts _ _ inside).1 in
          let from_base : RAM_BASE ≤ base = leb-true _ _ range.0 in
          let before_end : base < ram_end pages = ltb-true _ _ range.1 in
          absurd (misses (record { from_base = from_base; entered = before_end; room = omega arith })))
      | inr outside ↦ outside
    ]

broken_entry : (base pages : ℕ) → is_entry pages base ≡ false → first_broken (place_rules (elf_of base []) pages (non_empty (segment_at (elf_of base []) 52 ∷ [])) base) ≡ Some 12
unfolding place_rules
broken_entry base pages outside =
    ap (λ b. first_broken (place_rules (elf_of base []) pages (cond b (segment_at (elf_of base []) 52 ∷ []) []) base))
    (le-ltb 0 (segment_at (elf_of base []) 52).memory_size (omega (arith, memory_size_of base [] (omega arith))))
    ∙ ap (λ b. first_broken ((12, not b) ∷ [])) outside

-- with words the segment is
outside : (base : ℕ) (words : List ℕ) (pages : ℕ) → 0 < length words → ¬ (FitsInRam base words pages)
    → (ltb base RAM_BASE || ltb (ram_end pages) (base + 4 * length words)) ≡ true
outside base words pages some misses =
    elim (cases_Bool (ltb base RAM_BASE || ltb (ram_end pages) (base + 4 * length words))) [
      | inl out ↦ out
      | inr inside ↦ (
          let range = or_parts _ _ inside in
          let from_base : RAM_BASE ≤ base = ltb-false _ _ range.0 in
          let room : base + 4 * length words ≤ ram_end pages = ltb-false _ _ range.1 in
          absurd (misses (record { from_base = from_base; entered = omega arith; room = room })))
    ]

broken_segment : (base : ℕ) (code : List ℕ) (pages : ℕ) → base < 4294967296 → length code < 4294967296 → 0 < length code
    → (ltb base RAM_BASE || ltb (ram_end pages) (base + length code)) ≡ true
    → first_broken (place_rules (elf_of base code) pages (non_empty (segment_at (elf_of base code) 52 ∷ [])) base) ≡ Some 10
unfolding place_rules
broken_segment base code pages small short some out =
    let file = elf_of base code in
    let in_file : is_cut file (segment_at file 52) ≡ false =
    le-ltb _ _ (omega (arith, length-elf_of base code, offset_of base code, file_size_of base code short)) in
    let not_in_ram : is_outside pages (segment_at file 52) ≡ true =
    ap (λ at. ltb at RAM_BASE || ltb (ram_end pages) (at + (segment_at file 52).memory_size)) (address_of base code small)
    ∙ ap (λ size. ltb base RAM_BASE || ltb (ram_end pages) (base + size)) (memory_size_of base code short) ∙ out in
    ap (λ b. first_broken (place_rules file pages (cond b (segment_at file 52 ∷ []) []) base)) (lt-ltb 0 (segment_at file 52).memory_size (omega (arith, memory_size_of base code short)))
    ∙ cond-false _ _ _ (or_from _ _ in_file refl)
    ∙ cond-true _ _ _ (or_left _ _ not_in_ram)

pub refuses : (base : ℕ) (words : List ℕ) (pages : ℕ) → IsBuilt base words pages → ¬ (FitsInRam base words pages)
    → loaded (elf_of base (bytes_of_words words)) pages ≡ Err (misfit words)
refuses base [] pages built misses =
    refused base [] pages 12 built.base_fits (omega arith) (broken_entry base pages (not_entered base pages built.aligned misses))
refuses base (x ∷ words) pages built misses =
    let code = bytes_of_words (x ∷ words) in
    let size : length code ≡ 4 * length (x ∷ words) = length-bytes_of_words (x ∷ words) in
    let most : length (x ∷ words) ≤ MAX_WORDS = built.most in
    let out = outside base (x ∷ words) pages (omega arith) misses in
    refused base code pages 10 built.base_fits (omega arith)
    (broken_segment base code pages built.base_fits (omega arith) (omega arith)
    (subst (λ n. (ltb base RAM_BASE || ltb (ram_end pages) (base + n)) ≡ true) (sym size) out))

-- ---- the words of RAM

same_number : {a a' b b' : ℕ} → a ≡ a' → b ≡ b' → a + 256 * b ≡ a' + 256 * b'
same_number p q = cc

little_from-behind : (front rest : List ℕ) (n i : ℕ) → little_from (length front + i) n (front ++ rest) ≡ little_from i n rest
little_from-behind front rest zero i = refl
little_from-behind front rest (suc n) i =
    same_number
    (get_or-append_right front rest (length front) (length front + i) 0 refl (omega arith) ∙ ap (λ j. get_or rest j 0) (omega arith))
    (ap (λ j. little_from j n (front ++ rest)) (omega arith) ∙ little_from-behind front rest n (suc i))

little_from-front : (front rest : List ℕ) (n i : ℕ) → i + n ≤ length front → little_from i n (front ++ rest) ≡ little_from i n front
little_from-front front rest zero i within = refl
little_from-front front rest (suc n) i within = same_number (get_or_append_left front rest 0 i (omega arith)) (little_from-front front rest n (suc i) (omega arith))

word_at-bytes_of_words : (words : List ℕ) (k : ℕ) → All (λ word. word < 2 ^ 32) words → k < length words → word_at (bytes_of_words words) (4 * k) ≡ get_or words k 0
word_at-bytes_of_words [] k fit within = absurd (omega arith)
word_at-bytes_of_words (x ∷ words) zero fit within = whole_word x (fit 0 0 (omega arith))
word_at-bytes_of_words (x ∷ words) (suc k) fit within =
    let next : 4 * suc k ≡ 4 + 4 * k = omega arith in
    ap (λ i. little_from i 4 (bytes_of_words (x ∷ words))) next
    ∙ little_from-behind (word x) (bytes_of_words words) 4 (4 * k)
    ∙ word_at-bytes_of_words words k (All-drop (λ word. word < 2 ^ 32) 1 (x ∷ words) fit) (omega arith)

pub words_loaded : (base : ℕ) (words : List ℕ) (pages k : ℕ) → FitsInRam base words pages → All (λ word. word < 2 ^ 32) words → k < length words
    → word_at (image_of_code base (bytes_of_words words) pages).ram (base - RAM_BASE + 4 * k) ≡ get_or words k 0
unfolding image_of_code
words_loaded base words pages k fits fit within =
    let before = base - RAM_BASE in
    let code = bytes_of_words words in
    let behind = ram_end pages - (base + length code) in
    ap (λ n. little_from (n + 4 * k) 4 (zeros before ++ (code ++ zeros behind))) (sym (length-zeros before))
    ∙ little_from-behind (zeros before) (code ++ zeros behind) 4 (4 * k)
    ∙ little_from-front code (zeros behind) 4 (4 * k) (omega (arith, length-bytes_of_words words))
    ∙ word_at-bytes_of_words words k fit within

pub nothing_else : (base : ℕ) (words : List ℕ) (pages at : ℕ) → FitsInRam base words pages → (RAM_BASE + at < base) ⊎ (base + 4 * length words ≤ RAM_BASE + at)
    → get_or (image_of_code base (bytes_of_words words) pages).ram at 0 ≡ 0
unfolding image_of_code
nothing_else base words pages at fits (inl ahead) =
    let before = base - RAM_BASE in
    let code = bytes_of_words words in
    let behind = ram_end pages - (base + length code) in
    get_or_append_left (zeros before) (code ++ zeros behind) 0 at (omega (arith, length-zeros before)) ∙ get_or-zeros before at
nothing_else base words pages at fits (inr past) =
    let before = base - RAM_BASE in
    let code = bytes_of_words words in
    let behind = ram_end pages - (base + length code) in
    let size : length code ≡ 4 * length words = length-bytes_of_words words in
    get_or-append_right (zeros before) (code ++ zeros behind) before at 0 (length-zeros before) (omega (arith, fits.from_base))
    ∙ get_or-append_right code (zeros behind) (length code) (at - before) 0 refl (omega (arith, fits.from_base))
    ∙ get_or-zeros behind (at - before - length code)

pub entered : (base : ℕ) (words : List ℕ) (pages : ℕ) → (image_of_code base (bytes_of_words words) pages).entry ≡ base
unfolding image_of_code
entered base words pages = refl
