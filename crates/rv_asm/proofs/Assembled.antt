-- What the words of a program tell of its lines.
use Rattle.std.proofs.Common.{◌≡◌, ℕ, zero, suc, ◌+◌, ◌<◌, ◌⊎◌, inl, inr, List, [], ◌∷◌, length, Some, Ok, Err, Result, refl, sym, ap, ◌∙◌, subst, arith}
use Rattle.std.specs.Prelude.{slice_get, IsOk, IsOkAnd}
use Rattle.rv_decode.specs.Instruction.{Instruction}
use Rattle.rv_asm.specs.Encode.{encoded}
use Rattle.rv_asm.specs.Listing.{Listing, instruction_of, then_words, assembled_from, assembled, FailsFirst}
use Rattle.rv_asm.specs.declared.error.AsmError.{AsmError}
use Rattle.rv_asm.specs.declared.line.ProgramLine.{ProgramLine}

-- the words of a line and of those that follow
record AreWords (r : Result Instruction AsmError) (rest : Result (List ℕ) AsmError) (words : List ℕ) : Type 0 where
  instruction : Instruction
  others : List ℕ
  gives : r ≡ Ok instruction
  rest_is : rest ≡ Ok others
  are : words ≡ encoded instruction ∷ others

then_words-ok : (r : Result Instruction AsmError) (rest : Result (List ℕ) AsmError) (words : List ℕ) → then_words r rest ≡ Ok words → AreWords r rest words
then_words-ok (Ok i) (Ok others) words e = record { instruction = i; others = others; gives = refl; rest_is = refl; are = (let same : words ≡ encoded i ∷ others = cc in same) }
then_words-ok (Ok i) (Err error) words e = absurd (let no_words : ⊥ = cc in no_words)
then_words-ok (Err error) rest words e = absurd (let no_words : ⊥ = cc in no_words)

then_words-err : (r : Result Instruction AsmError) (rest : Result (List ℕ) AsmError) (error : AsmError) → then_words r rest ≡ Err error
    → (r ≡ Err error) ⊎ (IsOk r × (rest ≡ Err error))
then_words-err (Ok i) (Ok others) error e = absurd (let no_error : ⊥ = cc in no_error)
then_words-err (Ok i) (Err other) error e = inr (refl, e)
then_words-err (Err other) rest error e = inl (let same : other ≡ error = cc in ap Err same)

count_from : (p : Listing) (at : ℕ) (lines : List ProgramLine) (words : List ℕ) → assembled_from p at lines ≡ Ok words → length words ≡ length lines
unfolding assembled_from
count_from p at [] words e = let none : words ≡ [] = cc in ap length none
count_from p at (line ∷ lines) words e =
    let w = then_words-ok (instruction_of p at line) (assembled_from p (at + 1) lines) words e in
    omega (arith, ap length w.are, count_from p (at + 1) lines w.others w.rest_is)

-- at a place that is so many lines behind the first
each_from : (p : Listing) (at : ℕ) (lines : List ProgramLine) (words : List ℕ) (k place : ℕ) (line : ProgramLine) → place ≡ at + k → assembled_from p at lines ≡ Ok words
    → slice_get lines k ≡ Some line → IsOkAnd (instruction_of p place line) (λ i. slice_get words k ≡ Some (encoded i))
unfolding assembled_from
each_from p at [] words k place line behind e is = absurd (let no_line : ⊥ = cc in no_line)
each_from p at (first ∷ lines) words zero place line behind e is =
    let w = then_words-ok (instruction_of p at first) (assembled_from p (at + 1) lines) words e in
    let same : first ≡ line = cc in
    let gives : instruction_of p place line ≡ Ok w.instruction = ap (instruction_of p place) (sym same) ∙ ap (λ n. instruction_of p n first) (omega arith) ∙ w.gives in
    subst (λ r. IsOkAnd r (λ i. slice_get words 0 ≡ Some (encoded i))) (sym gives) (ap (λ words. slice_get words 0) w.are)
each_from p at (first ∷ lines) words (suc k) place line behind e is =
    let w = then_words-ok (instruction_of p at first) (assembled_from p (at + 1) lines) words e in
    subst (λ words. IsOkAnd (instruction_of p place line) (λ i. slice_get words (suc k) ≡ Some (encoded i))) (sym w.are)
    (each_from p (at + 1) lines w.others k place line (omega arith) w.rest_is is)

pub each : (p : Listing) (words : List ℕ) (k : ℕ) (line : ProgramLine) → assembled p ≡ Ok words → slice_get p.lines k ≡ Some line
    → IsOkAnd (instruction_of p k line) (λ i. slice_get words k ≡ Some (encoded i))
each p words k line e is = each_from p 0 p.lines words k k line (omega arith) e is

pub count : (p : Listing) (words : List ℕ) → assembled p ≡ Ok words → length words ≡ length p.lines
count p words e = count_from p 0 p.lines words e

record FailsFrom (p : Listing) (at : ℕ) (lines : List ProgramLine) (error : AsmError) : Type 0 where
  place : ℕ
  line : ProgramLine
  is : slice_get lines place ≡ Some line
  gives : instruction_of p (at + place) line ≡ Err error
  before : (k : ℕ) (other : ProgramLine) → k < place → slice_get lines k ≡ Some other → IsOk (instruction_of p (at + k) other)

before_more : (p : Listing) (at : ℕ) (line : ProgramLine) (lines : List ProgramLine) (place : ℕ) → IsOk (instruction_of p at line)
    → ((k : ℕ) (other : ProgramLine) → k < place → slice_get lines k ≡ Some other → IsOk (instruction_of p (at + 1 + k) other))
    → (k : ℕ) (other : ProgramLine) → k < suc place → slice_get (line ∷ lines) k ≡ Some other → IsOk (instruction_of p (at + k) other)
before_more p at line lines place first rest zero other within is =
    let same : line ≡ other = cc in
    subst (λ line. IsOk (instruction_of p (at + 0) line)) same (subst (λ n. IsOk (instruction_of p n line)) (omega arith) first)
before_more p at line lines place first rest (suc k) other within is =
    subst (λ n. IsOk (instruction_of p n other)) (omega arith) (rest k other (omega arith) is)

fails_from : (p : Listing) (at : ℕ) (lines : List ProgramLine) (error : AsmError) → assembled_from p at lines ≡ Err error → FailsFrom p at lines error
unfolding assembled_from
fails_from p at [] error e = absurd (let no_error : ⊥ = cc in no_error)
fails_from p at (line ∷ lines) error e =
    elim (then_words-err (instruction_of p at line) (assembled_from p (at + 1) lines) error e) [
      | inl first ↦ record {
        place = 0;
        line = line;
        is = refl;
        gives = subst (λ n. instruction_of p n line ≡ Err error) (omega arith) first;
        before = λ k other within is. absurd (omega arith);
      }
      | inr later ↦ (
          let rest = fails_from p (at + 1) lines error later.1 in
          record {
            place = suc rest.place;
            line = rest.line;
            is = rest.is;
            gives = subst (λ n. instruction_of p n rest.line ≡ Err error) (omega arith) rest.gives;
            before = before_more p at line lines rest.place later.0 rest.before;
          })
    ]

pub first_error : (p : Listing) (error : AsmError) → assembled p ≡ Err error → FailsFirst p error
first_error p error e =
    let f = fails_from p 0 p.lines error e in
    record {
      place = f.place;
      line = f.line;
      is = f.is;
      gives = subst (λ n. instruction_of p n f.line ≡ Err error) (omega arith) f.gives;
      before = λ k other within is. subst (λ n. IsOk (instruction_of p n other)) (omega arith) (f.before k other within is);
    }
