-- The bytes of a memory after a write.
use Rattle.std.proofs.Common.{◌≡◌, ℕ, ◌+◌, ◌-◌, ◌<◌, ◌≤◌, ◌⊎◌, inl, inr, List, [], ◌++◌, length, take, drop, get_or, refl, ap, length-append, length-drop, take-append-drop, ◌∙◌, arith}
use Rattle.std.proofs.lemmas.List.{get_or-append_right, get_or_append_left, get_or-drop, get_or-take, length-take-le}
use Rattle.flat_memory.specs.Flat.{put_bytes}

get_or-put_bytes_before : (memory bytes : List ℕ) (at k : ℕ) → at ≤ length memory → k < at → get_or (put_bytes memory at bytes) k 0 ≡ get_or memory k 0
get_or-put_bytes_before memory bytes at k within before =
    let start : length (take at memory) ≡ at = length-take-le at memory within in
    get_or_append_left (take at memory) (bytes ++ drop (at + length bytes) memory) 0 k (omega arith)
    ∙ get_or-take at memory k 0 before

-- what stands behind the bytes before the write
behind : (memory bytes : List ℕ) (at k : ℕ) → at ≤ length memory → at ≤ k
    → get_or (put_bytes memory at bytes) k 0 ≡ get_or (bytes ++ drop (at + length bytes) memory) (k - at) 0
behind memory bytes at k within from =
    get_or-append_right (take at memory) (bytes ++ drop (at + length bytes) memory) at k 0 (length-take-le at memory within) from

get_or-put_bytes_after : (memory bytes : List ℕ) (at k : ℕ) → at ≤ length memory → at + length bytes ≤ k → get_or (put_bytes memory at bytes) k 0 ≡ get_or memory k 0
get_or-put_bytes_after memory bytes at k within after =
    behind memory bytes at k within (omega arith)
    ∙ get_or-append_right bytes (drop (at + length bytes) memory) (length bytes) (k - at) 0 refl (omega arith)
    ∙ get_or-drop (at + length bytes) memory (k - at - length bytes) 0
    ∙ ap (λ i. get_or memory i 0) (omega arith)

pub get_or-put_bytes : (memory bytes : List ℕ) (at k : ℕ) → at ≤ length memory → k < length bytes → get_or (put_bytes memory at bytes) (at + k) 0 ≡ get_or bytes k 0
get_or-put_bytes memory bytes at k within below =
    behind memory bytes at (at + k) within (omega arith)
    ∙ ap (λ i. get_or (bytes ++ drop (at + length bytes) memory) i 0) (omega arith)
    ∙ get_or_append_left bytes (drop (at + length bytes) memory) 0 k below

pub get_or-put_bytes_outside : (memory bytes : List ℕ) (at k : ℕ) → at ≤ length memory → (k < at) ⊎ (at + length bytes ≤ k)
    → get_or (put_bytes memory at bytes) k 0 ≡ get_or memory k 0
get_or-put_bytes_outside memory bytes at k within (inl before) = get_or-put_bytes_before memory bytes at k within before
get_or-put_bytes_outside memory bytes at k within (inr after) = get_or-put_bytes_after memory bytes at k within after

pub length-put_bytes : (memory bytes : List ℕ) (at : ℕ) → at + length bytes ≤ length memory → length (put_bytes memory at bytes) ≡ length memory
length-put_bytes memory bytes at within =
    simp (length-append, length-drop) (let start : length (take at memory) ≡ at = length-take-le at memory (omega arith) in omega arith)

-- no bytes change nothing
pub put_none : (memory : List ℕ) (at : ℕ) → put_bytes memory at [] ≡ memory
put_none memory at = ap (λ i. take at memory ++ drop i memory) (omega arith) ∙ take-append-drop at memory
