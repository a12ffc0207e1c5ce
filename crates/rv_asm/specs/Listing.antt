-- A program is a list of lines, each of one word, and the places of its labels. A place is the index of
-- a line.
use Rattle.std.specs.Prelude.{◌≡◌, ◌≢◌, ℕ, ◌+◌, ◌<◌, if◌then◌else◌, List, [], ◌∷◌, ◌++◌, length, slice_get, Option, Some, None, Result, Ok, Err, IsOk, ⊤}
use Rattle.std.specs.Ordering.{nat_cmp}
use Rattle.std.specs.Map.{lookup}
use Rattle.std.specs.BTreeMap.{is_at}
use Rattle.rv_decode.specs.Instruction.{Instruction}
use Rattle.rv_asm.specs.Encode.{encoded}
use Rattle.rv_asm.specs.Offset.{offset, reaches}
use Rattle.rv_asm.specs.declared.error.AsmError.{AsmError}
use Rattle.rv_asm.specs.declared.error.AsmError.TheVariants.{UnplacedLabel, OffsetOutOfRange, LabelPlacedTwice, Memory}
use Rattle.rv_asm.specs.declared.line.ProgramLine.{ProgramLine}
use Rattle.rv_asm.specs.declared.line.ProgramLine.TheVariants.{Plain, ToLabel}

-- a line with an instruction as it is, and one with a jump or a branch to a label
abbrev pub plain : Instruction → ProgramLine
plain i = Plain i

abbrev pub to_label : Instruction → ℕ → ProgramLine
to_label i label = ToLabel (record { instruction = i; label = label })

abbrev pub Lines : Type 0
Lines = List ProgramLine

-- the address of the first word, the lines, and each label with its place, in the order of the labels
pub record Listing : Type 0 where
  pub base : ℕ
  pub lines : Lines
  pub labels : List (ℕ × ℕ)

abbrev pub empty : ℕ → Listing
empty base = record { base = base; lines = []; labels = [] }

abbrev pub with_line : Listing → ProgramLine → Listing
with_line p line = record p { lines = p.lines ++ line ∷ [] }

-- where a label is placed, if it is
abbrev pub place_of : Listing → ℕ → Option ℕ
place_of p label = lookup (is_at (nat_cmp label)) p.labels

-- the new program has the label before its next line, and is the old one in all else
pub record PlacesLabel (old new : Listing) (label : ℕ) : Type 0 where
  pub placed : place_of new label ≡ Some (length old.lines)
  pub others : (other : ℕ) → other ≢ label → place_of new other ≡ place_of old other
  pub same_lines : new.lines ≡ old.lines
  pub same_base : new.base ≡ old.base

-- the instruction at a place whose immediate is the offset to another, or why there is none
abbrev pub with_offset : Instruction → ℕ → Option ℕ → Result Instruction AsmError
with_offset i at None = Err UnplacedLabel
with_offset i at (Some place) = if reaches i.kind at place then Ok (record i { imm = offset at place }) else Err OffsetOutOfRange

abbrev pub instruction_of : Listing → ℕ → ProgramLine → Result Instruction AsmError
instruction_of p at (Plain i) = Ok i
instruction_of p at (ToLabel b) = with_offset b.instruction at (place_of p b.label)

-- the word of a first line before the words of those that follow, or the first error
abbrev pub then_words : Result Instruction AsmError → Result (List ℕ) AsmError → Result (List ℕ) AsmError
then_words (Ok i) (Ok words) = Ok (encoded i ∷ words)
then_words (Ok i) (Err error) = Err error
then_words (Err error) words = Err error

-- the words of the lines from a place on
unfoldable pub assembled_from : Listing → ℕ → Lines → Result (List ℕ) AsmError
assembled_from p at [] = Ok []
assembled_from p at (line ∷ lines) = then_words (instruction_of p at line) (assembled_from p (at + 1) lines)

abbrev pub assembled : Listing → Result (List ℕ) AsmError
assembled p = assembled_from p 0 p.lines

-- the first line that gives an error gives this one
pub record FailsFirst (p : Listing) (error : AsmError) : Type 0 where
  pub place : ℕ
  pub line : ProgramLine
  pub is : slice_get p.lines place ≡ Some line
  pub gives : instruction_of p place line ≡ Err error
  pub before : (k : ℕ) (other : ProgramLine) → k < place → slice_get p.lines k ≡ Some other → IsOk (instruction_of p k other)

-- when each error comes. Out of memory may come at any time
abbrev pub IsRefused : Listing → AsmError → Type 0
IsRefused p UnplacedLabel = assembled p ≡ Err UnplacedLabel
IsRefused p OffsetOutOfRange = assembled p ≡ Err OffsetOutOfRange
IsRefused p LabelPlacedTwice = ⊥
IsRefused p Memory = ⊤
