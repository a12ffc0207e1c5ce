-- What the lines of a program give.
use Rattle.std.proofs.Common.{◌≡◌, ℕ, append_assoc, add-one, drop-cons, suc, ◌+◌, ◌<◌, ◌≤◌, List, [], ◌∷◌, ◌++◌, length}
use Rattle.std.proofs.Common.{get_or, drop, Some, None, Option, Ok, Err, Result, inl, inr, refl, sym, ap, ◌∙◌, subst}
use Rattle.std.specs.Prelude.{ℤ, SomeIff}
use Rattle.std.specs.Option.{ok_or}
use Rattle.std.proofs.lemmas.List.{append-nil}
use Rattle.std.proofs.Math.ListN.{drop_of_length-le}
use Rattle.std.proofs.lemmas.Bool.{cases_Bool, cond-true, cond-false}
use Rattle.rv_decode.specs.Instruction.{Instruction, IsSigned, IsMultiple}
use Rattle.rv_asm.specs.Encode.{encoded}
use Rattle.rv_asm.specs.Offset.{reach, offset, reaches}
use Rattle.rv_asm.specs.Listing.{Listing, place_of, with_offset, instruction_of, then_words, assembled_from, assembled, IsRefused}
use Rattle.rv_asm.specs.declared.error.AsmError.{AsmError}
use Rattle.rv_asm.specs.declared.error.AsmError.TheVariants.{UnplacedLabel, OffsetOutOfRange, LabelPlacedTwice, Memory}
use Rattle.rv_asm.specs.declared.line.ProgramLine.{ProgramLine}
use Rattle.rv_asm.specs.declared.line.ProgramLine.TheVariants.{Plain, ToLabel}
use Rattle.rv_asm.proofs.Assembled.{first_error}
use Rattle.rv_asm.proofs.Offsets.{IsMultiple-offset, IsSigned-reaches, reaches-IsSigned}

-- an instruction that takes the offset exactly where it is in reach
ok_or-SomeIff : (i : Instruction) (at place : ℕ) (o : Option Instruction)
    → SomeIff o (IsSigned (reach i.kind) (offset at place) × IsMultiple 2 (offset at place)) (record i { imm = offset at place })
    → ok_or o OffsetOutOfRange ≡ with_offset i at (Some place)
ok_or-SomeIff i at place None far =
    elim (cases_Bool (reaches i.kind at place)) [
      | inl near ↦ absurd (far (IsSigned-reaches i.kind at place near, IsMultiple-offset at place))
      | inr far_away ↦ sym (cond-false _ _ _ far_away)
    ]
ok_or-SomeIff i at place (Some j) near = ap Ok near.1 ∙ sym (cond-true _ _ _ (reaches-IsSigned i.kind at place near.0.0))

pub with_offset_answer : (i : Instruction) (at place : ℕ) (imm : ℤ) (o : Option Instruction) → imm ≡ offset at place
    → SomeIff o (IsSigned (reach i.kind) imm × IsMultiple 2 imm) (record i { imm = imm }) → ok_or o OffsetOutOfRange ≡ with_offset i at (Some place)
with_offset_answer i at place imm o same answer =
    ok_or-SomeIff i at place o (subst (λ imm. SomeIff o (IsSigned (reach i.kind) imm × IsMultiple 2 imm) (record i { imm = imm })) same answer)

-- words before those of a result
abbrev pub after_words : List ℕ → Result (List ℕ) AsmError → Result (List ℕ) AsmError
after_words words (Ok rest) = Ok (words ++ rest)
after_words words (Err error) = Err error

-- the words of the lines before a place
abbrev pub AreWordsBefore : Listing → ℕ → List ℕ → Type 0
AreWordsBefore p at words = assembled p ≡ after_words words (assembled_from p at (drop at p.lines))

after_words_more : (words : List ℕ) (i : Instruction) (rest : Result (List ℕ) AsmError) → after_words words (then_words (Ok i) rest) ≡ after_words (words ++ encoded i ∷ []) rest
after_words_more words i (Ok rest) = ap Ok (sym (append_assoc words (encoded i ∷ []) rest))
after_words_more words i (Err error) = refl

assembled_from-line : (p : Listing) (at : ℕ) (line : ProgramLine) → at < length p.lines → get_or p.lines at line ≡ line
    → assembled_from p at (drop at p.lines) ≡ then_words (instruction_of p at line) (assembled_from p (at + 1) (drop (at + 1) p.lines))
unfolding assembled_from
assembled_from-line p at line within is =
    ap (assembled_from p at)
    (drop-cons p.lines at line within ∙ ap (λ (l : ProgramLine). l ∷ drop (suc at) p.lines) is ∙ ap (λ n. line ∷ drop n p.lines) (sym (add-one at)))

pub AreWordsBefore-more : (p : Listing) (at : ℕ) (line : ProgramLine) (i : Instruction) (words : List ℕ) → at < length p.lines → get_or p.lines at line ≡ line
    → instruction_of p at line ≡ Ok i → AreWordsBefore p at words → AreWordsBefore p (at + 1) (words ++ encoded i ∷ [])
AreWordsBefore-more p at line i words within is gives before =
    let rest = assembled_from p (at + 1) (drop (at + 1) p.lines) in
    before ∙ ap (after_words words) (assembled_from-line p at line within is ∙ ap (λ r. then_words r rest) gives) ∙ after_words_more words i rest

pub AreWordsBefore-error : (p : Listing) (at : ℕ) (line : ProgramLine) (error : AsmError) (words : List ℕ) → at < length p.lines → get_or p.lines at line ≡ line
    → instruction_of p at line ≡ Err error → AreWordsBefore p at words → assembled p ≡ Err error
AreWordsBefore-error p at line error words within is gives before =
    before
    ∙ ap (after_words words)
    (assembled_from-line p at line within is ∙ ap (λ r. then_words r (assembled_from p (at + 1) (drop (at + 1) p.lines))) gives)

pub AreWordsBefore-all : (p : Listing) (at : ℕ) (words : List ℕ) → length p.lines ≤ at → AreWordsBefore p at words → assembled p ≡ Ok words
unfolding assembled_from
AreWordsBefore-all p at words past before =
    before ∙ ap (λ lines. after_words words (assembled_from p at lines)) (drop_of_length-le p.lines past) ∙ ap Ok (append-nil words)

-- no line gives the error of a label that is placed twice
with_offset-placed_twice : (i : Instruction) (at : ℕ) (place : Option ℕ) → with_offset i at place ≡ Err LabelPlacedTwice → ⊥
with_offset-placed_twice i at None gives = cc
with_offset-placed_twice i at (Some place) gives =
    elim (cases_Bool (reaches i.kind at place)) [
      | inl near ↦ (let other = sym (cond-true _ _ _ near) ∙ gives in let no_error : ⊥ = cc in no_error)
      | inr far_away ↦ (let other = sym (cond-false _ _ _ far_away) ∙ gives in let no_error : ⊥ = cc in no_error)
    ]

instruction_of-placed_twice : (p : Listing) (at : ℕ) (line : ProgramLine) → instruction_of p at line ≡ Err LabelPlacedTwice → ⊥
instruction_of-placed_twice p at (Plain i) gives = cc
instruction_of-placed_twice p at (ToLabel b) gives = with_offset-placed_twice b.instruction at (place_of p b.label) gives

pub IsRefused-assembled : (p : Listing) (error : AsmError) → assembled p ≡ Err error → IsRefused p error
IsRefused-assembled p UnplacedLabel fails = fails
IsRefused-assembled p OffsetOutOfRange fails = fails
IsRefused-assembled p LabelPlacedTwice fails =
    let f = first_error p LabelPlacedTwice fails in
    instruction_of-placed_twice p f.place f.line f.gives
IsRefused-assembled p Memory fails = tt
