-- The word of an instruction decodes to the instruction, and has no bit that means nothing.
use Rattle.std.proofs.Common.{◌≡◌, ℕ, suc, ◌+◌, ◌<◌, Bool, true, eqb, ltb, ◌&&◌, List, [], ◌∷◌, length, get_or, Some, Option, refl, sym, ap, ◌∙◌, subst, inl, inr, arith}
use Rattle.std.specs.Prelude.{bit_and, find, unwrap_or, is_some, IsTrue}
use Rattle.std.specs.List.{list_all}
use Rattle.std.specs.Option.{option_map}
use Rattle.std.specs.Int.{cast_unsigned, w32}
use Rattle.std.proofs.lemmas.Bool.{cases_Bool, cond-true, cond-false, eqb-true, eq-eqb, ltb-true, and_parts}
use Rattle.std.proofs.lemmas.List.Sums.{AllPass-from_list_all}
use Rattle.std.proofs.lemmas.Nat.{and_le_r}
use denote.Enum.Bare.{same_true}
use Rattle.rv_decode.specs.contracts.kinds.Kind.{the_type}
use Rattle.rv_decode.specs.declared.kinds.Kind.{Kind}
use Rattle.rv_decode.specs.declared.kinds.Kind.TheVariants.{Lui}
use Rattle.rv_decode.specs.Kinds.{format_of}
use Rattle.rv_decode.specs.Instruction.{Instruction, IsInstruction}
use Rattle.rv_decode.specs.Table.{Row, row, rows, every_bit, matches, in_format, kind_of_word, decoded}
use Rattle.rv_decode.proofs.Rows.{kind_of_word-matches}
use Rattle.rv_asm.specs.Encode.{is_of, row_of, placed, field_bits, encoded, read_bits}
use Rattle.rv_asm.proofs.Bits.{IsWithin, IsWithin-+, and_first}
use Rattle.rv_asm.proofs.Fields.{placed_within}
use Rattle.rv_asm.proofs.Reading.{leaves, read_back}

-- the bits of a row lie within its mask, and the mask leaves those of the format's fields free
abbrev is_sound : Row → Bool
is_sound r =
    eqb (bit_and r.bits r.mask) r.bits
    && (eqb (bit_and r.mask (field_bits (format_of r.kind))) 0
    && (leaves (format_of r.kind) r.bits
    && ltb (r.mask + field_bits (format_of r.kind)) 0x1_0000_0000))

rows_are_sound : list_all is_sound rows ≡ true
unfolding rows format_of
rows_are_sound = refl

-- each kind has a row
rows_have : (kind : Kind) → is_some (find (is_of kind) rows) ≡ true
unfolding rows
rows_have Lui = refl
rows_have _ = refl

-- what is found stands somewhere, and passes
record IsFound (p : Row → Bool) (rs : List Row) (r : Row) : Type 0 where
  at : ℕ
  below : at < length rs
  is : get_or rs at r ≡ r
  passes : p r ≡ true

is_found : (p : Row → Bool) (rs : List Row) (d : Row) → is_some (find p rs) ≡ true → IsFound p rs (unwrap_or (find p rs) d)
is_found p [] d some = cc
is_found p (r ∷ rs) d some =
    elim (cases_Bool (p r)) [
      | inl passes ↦
          subst (λ (found : Option Row). IsFound p (r ∷ rs) (unwrap_or found d)) (sym (cond-true _ _ _ passes))
          (record { at = 0; below = omega arith; is = refl; passes = passes })
      | inr fails ↦ (
          let later = is_found p rs d (sym (ap is_some (cond-false _ _ _ fails)) ∙ some) in
          subst (λ (found : Option Row). IsFound p (r ∷ rs) (unwrap_or found d)) (sym (cond-false _ _ _ fails))
          (record { at = suc later.at; below = omega (arith, later.below); is = later.is; passes = later.passes }))
    ]

-- what is used of the row of a kind
record IsRowOf (kind : Kind) (r : Row) : Type 0 where
  within : IsWithin r.bits r.mask
  apart : bit_and r.mask (field_bits (format_of kind)) ≡ 0
  free : leaves (format_of kind) r.bits ≡ true
  small : r.mask + field_bits (format_of kind) < 0x1_0000_0000
  matched : (word : ℕ) → matches word r ≡ true → kind_of_word word ≡ Some kind

row_of_kind : (kind : Kind) → IsRowOf kind (row_of kind)
unfolding row_of
row_of_kind kind =
    let r = unwrap_or (find (is_of kind) rows) (row every_bit 0 kind) in
    let f : IsFound (is_of kind) rows r = is_found (is_of kind) rows (row every_bit 0 kind) (rows_have kind) in
    let same : r.kind ≡ kind = same_true the_type tt r.kind kind f.passes in
    let sound : is_sound r ≡ true = subst (λ r. is_sound r ≡ true) f.is (AllPass-from_list_all is_sound rows rows_are_sound f.at r f.below) in
    let within = and_parts _ _ sound in
    let apart = and_parts _ _ within.1 in
    let free = and_parts _ _ apart.1 in
    record {
      within = record { same = eqb-true _ _ within.0 };
      apart = subst (λ k. bit_and r.mask (field_bits (format_of k)) ≡ 0) same (eqb-true _ _ apart.0);
      free = subst (λ k. leaves (format_of k) r.bits ≡ true) same free.0;
      small = subst (λ k. r.mask + field_bits (format_of k) < 0x1_0000_0000) same (ltb-true _ _ free.1);
      matched = λ word of_row. subst (λ (r : Row). IsTrue (matches word r) → kind_of_word word ≡ Some r.kind) f.is (kind_of_word-matches word f.at r f.below) of_row ∙ ap Some same;
    }

placed_in_bits : (i : Instruction) → IsInstruction i → IsWithin (placed (format_of i.kind) i (cast_unsigned w32 i.imm)) (field_bits (format_of i.kind))
placed_in_bits i h = placed_within (format_of i.kind) i (cast_unsigned w32 i.imm) h

pub encoded_within : (i : Instruction) → IsInstruction i → IsWithin (encoded i) (read_bits i.kind)
unfolding encoded read_bits
encoded_within i h =
    let r = row_of_kind i.kind in
    IsWithin-+ _ _ _ _ r.within (placed_in_bits i h) r.apart

pub encoded_below : (i : Instruction) → IsInstruction i → encoded i < 0x1_0000_0000
unfolding read_bits
encoded_below i h =
    let bits = and_le_r (encoded i) (read_bits i.kind) in
    omega (arith, (row_of_kind i.kind).small, (encoded_within i h).same, bits)

pub decoded-encoded : (i : Instruction) → IsInstruction i → decoded (encoded i) ≡ Some i
unfolding decoded encoded
decoded-encoded i h =
    let r = row_of_kind i.kind in
    let word = (row_of i.kind).bits + placed (format_of i.kind) i (cast_unsigned w32 i.imm) in
    let same = and_first _ _ _ _ r.within (placed_in_bits i h) r.apart in
    ap (option_map (λ kind. in_format (format_of kind) kind word)) (r.matched word (eq-eqb _ _ same))
    ∙ ap Some (read_back (format_of i.kind) i (row_of i.kind).bits h r.free)
