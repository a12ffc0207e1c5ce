-- What a table of program headers loads, header by header.
use Rattle.std.proofs.Common.{◌≡◌, ℕ, ◌+◌, ◌*◌, ◌<◌, ◌≤◌, Bool, true, false, cond, eqb, ltb, List, [], ◌∷◌, ◌++◌, take, drop, refl, sym, ap, ◌∙◌, arith}
use Rattle.std.specs.Prelude.{map, filter}
use Rattle.std.specs.List.{list_any, range_with_len}
use Rattle.std.proofs.lemmas.Bool.{eq-eqb, ne_eqb, or_left, or_right, or_from, lt-ltb, le-ltb}
use Rattle.std.proofs.lemmas.List.{append-nil, map-append, take-append-drop}
use Rattle.std.proofs.lemmas.List.Elements.{filter-append}
use Rattle.std.proofs.lemmas.List.Folds.{list_any-append}
use Rattle.std.proofs.lemmas.List.FromFn.{map-range_with_len_more, take-map-range_with_len}
use Rattle.elf_load.specs.Elf.{places, p_type, e_phnum, segment_at, loads_among, loads_of, non_empty, is_overfull, IsHeaderOf}
use Rattle.elf_load.specs.declared.header.Header.{Header}
use Rattle.elf_load.specs.declared.segment.Segment.{Segment}
use Rattle.elf_load.specs.declared.segment.TheConstants.{PROGRAM_HEADER_SIZE, PT_LOAD}

loads_among-append : (file xs ys : List ℕ) → loads_among file (xs ++ ys) ≡ loads_among file xs ++ loads_among file ys
unfolding loads_among
loads_among-append file xs ys =
    ap (map (segment_at file)) (filter-append (λ at. eqb (p_type file at) PT_LOAD) xs ys)
    ∙ map-append (segment_at file) (filter (λ at. eqb (p_type file at) PT_LOAD) xs) (filter (λ at. eqb (p_type file at) PT_LOAD) ys)

-- one header more
loads_more : (file : List ℕ) (table n : ℕ) → loads_among file (places table (n + 1)) ≡ loads_among file (places table n) ++ loads_among file ((table + PROGRAM_HEADER_SIZE * n) ∷ [])
loads_more file table n =
    ap (loads_among file) (map-range_with_len_more (λ k. table + PROGRAM_HEADER_SIZE * k) 0 n n (omega arith))
    ∙ loads_among-append file (places table n) ((table + PROGRAM_HEADER_SIZE * n) ∷ [])

loads_one : (file : List ℕ) (at : ℕ) → p_type file at ≡ PT_LOAD → loads_among file (at ∷ []) ≡ segment_at file at ∷ []
unfolding loads_among
loads_one file at is_load = ap (λ b. map (segment_at file) (cond b (at ∷ []) [])) (eq-eqb (p_type file at) PT_LOAD is_load)

loads_none : (file : List ℕ) (at : ℕ) → (p_type file at ≡ PT_LOAD → ⊥) → loads_among file (at ∷ []) ≡ []
unfolding loads_among
loads_none file at is_other = ap (λ b. map (segment_at file) (cond b (at ∷ []) [])) (ne_eqb (p_type file at) PT_LOAD is_other)

pub loads_more_load : (file : List ℕ) (table n at : ℕ) → at ≡ table + PROGRAM_HEADER_SIZE * n → p_type file at ≡ PT_LOAD
    → loads_among file (places table (n + 1)) ≡ loads_among file (places table n) ++ segment_at file at ∷ []
loads_more_load file table n at is_at is_load =
    loads_more file table n ∙ ap (λ place. loads_among file (places table n) ++ loads_among file (place ∷ [])) (sym is_at)
    ∙ ap (λ one. loads_among file (places table n) ++ one) (loads_one file at is_load)

pub loads_more_other : (file : List ℕ) (table n at : ℕ) → at ≡ table + PROGRAM_HEADER_SIZE * n → (p_type file at ≡ PT_LOAD → ⊥)
    → loads_among file (places table (n + 1)) ≡ loads_among file (places table n)
loads_more_other file table n at is_at is_other =
    loads_more file table n ∙ ap (λ place. loads_among file (places table n) ++ loads_among file (place ∷ [])) (sym is_at)
    ∙ ap (λ none. loads_among file (places table n) ++ none) (loads_none file at is_other) ∙ append-nil (loads_among file (places table n))

-- the table that the ELF header tells of
pub loads_of_header : (file : List ℕ) (header : Header) → IsHeaderOf file header → loads_of file ≡ loads_among file (places header.table header.count)
loads_of_header file header h =
    ap (λ table. loads_among file (places table (e_phnum file))) (sym h.table) ∙ ap (λ count. loads_among file (places header.table count)) (sym h.count)

-- an overfull segment among the first headers is one among all
pub overfull_stays : (file : List ℕ) (table n count : ℕ) → n ≤ count → list_any is_overfull (loads_among file (places table n)) ≡ true
    → list_any is_overfull (loads_among file (places table count)) ≡ true
overfull_stays file table n count within found =
    let front = take-map-range_with_len (λ k. table + PROGRAM_HEADER_SIZE * k) 0 count n within in
    ap (λ headers. list_any is_overfull (loads_among file headers)) (sym (take-append-drop n (places table count)))
    ∙ ap (list_any is_overfull) (loads_among-append file (take n (places table count)) (drop n (places table count)))
    ∙ list_any-append is_overfull (loads_among file (take n (places table count))) (loads_among file (drop n (places table count)))
    ∙ or_left _ _ (ap (λ headers. list_any is_overfull (loads_among file headers)) front ∙ found)

-- one segment more
pub overfull_push : (segments : List Segment) (s : Segment) → s.memory_size < s.file_size → list_any is_overfull (segments ++ s ∷ []) ≡ true
overfull_push segments s over = list_any-append is_overfull segments (s ∷ []) ∙ or_right _ _ (or_left _ _ (lt-ltb s.memory_size s.file_size over))

pub exact_push : (segments : List Segment) (s : Segment) → list_any is_overfull segments ≡ false → s.file_size ≤ s.memory_size → list_any is_overfull (segments ++ s ∷ []) ≡ false
exact_push segments s none fits = list_any-append is_overfull segments (s ∷ []) ∙ or_from _ _ none (or_from _ _ (le-ltb s.memory_size s.file_size fits) refl)

pub non_empty_push : (segments : List Segment) (s : Segment) → 0 < s.memory_size → non_empty (segments ++ s ∷ []) ≡ non_empty segments ++ s ∷ []
non_empty_push segments s some =
    filter-append (λ (s : Segment). ltb 0 s.memory_size) segments (s ∷ [])
    ∙ ap (λ b. non_empty segments ++ cond b (s ∷ []) []) (lt-ltb 0 s.memory_size some)

pub non_empty_skip : (segments : List Segment) (s : Segment) → s.memory_size ≡ 0 → non_empty (segments ++ s ∷ []) ≡ non_empty segments
non_empty_skip segments s none =
    filter-append (λ (s : Segment). ltb 0 s.memory_size) segments (s ∷ [])
    ∙ ap (λ b. non_empty segments ++ cond b (s ∷ []) []) (le-ltb 0 s.memory_size (omega arith)) ∙ append-nil (non_empty segments)
