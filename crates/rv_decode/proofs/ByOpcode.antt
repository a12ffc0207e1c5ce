-- The row that a word matches is among the rows of its opcode, since each mask has the bits of the opcode.
use Rattle.std.proofs.Common.{◌≡◌, ℕ, Bool, true, false, eqb, List, [], ◌∷◌, Some, None, refl, sym, ap, ◌∙◌, cond, arith, eq-eqb}
use Rattle.std.specs.List.{filter, find, list_all, list_any}
use Rattle.std.specs.Prelude.{bit_and}
use Rattle.std.specs.Option.{option_map}
use Rattle.std.proofs.lemmas.Bool.{eqb-true, false_from_ne_true}
use Rattle.std.proofs.lemmas.Nat.{and_assoc}
use Rattle.rv_decode.specs.Table.{Row, rows, opcode, matches, kind_of_word, kind_with_opcode}

abbrev opcode_of : Row → ℕ
opcode_of r = bit_and r.bits opcode

-- the mask has the bits of the opcode
abbrev takes_opcode : Row → Bool
takes_opcode r = eqb (bit_and r.mask opcode) opcode

rows_take_opcode : list_all takes_opcode rows ≡ true
unfolding rows
rows_take_opcode = refl

-- a word has the opcode of the row that it matches
opcode_of-matches : (word : ℕ) (r : Row) → takes_opcode r ≡ true → matches word r ≡ true → opcode_of r ≡ bit_and word opcode
opcode_of-matches word r takes of_row =
    ap (λ bits. bit_and bits opcode) (sym (eqb-true _ _ of_row))
    ∙ and_assoc opcode word r.mask
    ∙ ap (bit_and word) (eqb-true _ _ takes)

find-filter_opcode : (code word : ℕ) → bit_and word opcode ≡ code → (rs : List Row) → list_all takes_opcode rs ≡ true
    → find (matches word) (filter (λ r. eqb (opcode_of r) code) rs) ≡ find (matches word) rs
find-filter_opcode code word of_code [] take = refl
find-filter_opcode code word of_code (r ∷ rs) take =
    let first : takes_opcode r ≡ true = grind arith in
    let rest : find (matches word) (filter (λ r. eqb (opcode_of r) code) rs) ≡ find (matches word) rs =
    find-filter_opcode code word of_code rs (grind arith) in
    let kept : matches word r ≡ true → eqb (opcode_of r) code ≡ true =
    λ of_row. eq-eqb _ _ (opcode_of-matches word r first of_row ∙ of_code) in
    grind (arith, rest, kept)

pub kind_with_opcode-of_word : (code word : ℕ) → bit_and word 127 ≡ code → kind_with_opcode code word ≡ kind_of_word word
unfolding kind_of_word kind_with_opcode
kind_with_opcode-of_word code word of_code =
    ap (option_map (λ (r : Row). r.kind)) (find-filter_opcode code word of_code rows rows_take_opcode)

abbrev pub opcodes : List ℕ
opcodes = 0x37 ∷ 0x17 ∷ 0x6f ∷ 0x67 ∷ 0x63 ∷ 0x03 ∷ 0x23 ∷ 0x13 ∷ 0x33 ∷ 0x0f ∷ 0x73 ∷ 0x2f ∷ []

abbrev pub is_opcode : ℕ → Bool
is_opcode code = list_any (eqb code) opcodes

rows_have_opcodes : list_all (λ r. is_opcode (opcode_of r)) rows ≡ true
unfolding rows
rows_have_opcodes = refl

-- a word of no opcode matches no row
find-other_opcode : (word : ℕ) → is_opcode (bit_and word opcode) ≡ false → (rs : List Row) → list_all takes_opcode rs ≡ true
    → list_all (λ r. is_opcode (opcode_of r)) rs ≡ true → find (matches word) rs ≡ None
find-other_opcode word other [] take have = refl
find-other_opcode word other (r ∷ rs) take have =
    let first : takes_opcode r ≡ true = grind arith in
    let has : is_opcode (opcode_of r) ≡ true = grind arith in
    let rest : find (matches word) rs ≡ None = find-other_opcode word other rs (grind arith) (grind arith) in
    let not_of_row : matches word r ≡ true → ⊥ =
    λ of_row. let same : is_opcode (opcode_of r) ≡ is_opcode (bit_and word opcode) = ap is_opcode (opcode_of-matches word r first of_row) in cc in
    ap (λ b. cond b (Some r) (find (matches word) rs)) (false_from_ne_true (matches word r) not_of_row) ∙ rest

pub kind_of_word-other_opcode : (word : ℕ) → is_opcode (bit_and word 127) ≡ false → kind_of_word word ≡ None
unfolding kind_of_word
kind_of_word-other_opcode word other =
    ap (option_map (λ (r : Row). r.kind)) (find-other_opcode word other rows rows_take_opcode rows_have_opcodes)

-- for the function that goes by the opcode, which names no lemma with a dash
pub ruleset kinds_by_opcode = (kind_with_opcode-of_word)
