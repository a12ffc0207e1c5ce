-- Scripts, line by line.
use Rattle.std.proofs.Common.{◌≡◌, ◌==◌, false, ℕ, ◌+◌, ◌<◌, ◌≤◌, List, [], ◌∷◌, ◌++◌, length, drop, get_or, Result, Ok, Err, refl, sym, ap, ◌∙◌, append_assoc, append-nil, arith}
use Rattle.std.proofs.lemmas.Bool.Decides.{nat_tests}
use Rattle.std.proofs.lemmas.List.{drop_more, drop_all}
use Rattle.drive_script.specs.Script.{ScriptLine, line_before, line_of, lines_from}

pub some-text : (text : List ℕ) → (length text == 0) ≡ false → 0 < length text
some-text text some = grind (arith, nat_tests)

-- lines before others
abbrev pub after_lines : List ScriptLine → Result (List ScriptLine) (ℕ × ℕ) → Result (List ScriptLine) (ℕ × ℕ)
after_lines lines (Err refusal) = Err refusal
after_lines lines (Ok rest) = Ok (lines ++ rest)

pub after-nothing : (read : Result (List ScriptLine) (ℕ × ℕ)) → after_lines [] read ≡ read
after-nothing (Err refusal) = refl
after-nothing (Ok lines) = refl

-- an empty line
pub lines_from-empty : (number : ℕ) (text : List ℕ) (rest : List (List ℕ)) → length text ≡ 0 → lines_from number (text ∷ rest) ≡ lines_from (number + 1) rest
unfolding lines_from
lines_from-empty number [] rest h = refl
lines_from-empty number (byte ∷ bytes) rest h = absurd (omega arith)

-- a line in form, and one that is not
before-others : (lines : List ScriptLine) (number : ℕ) (line : ScriptLine) (rest : Result (List ScriptLine) (ℕ × ℕ))
    → after_lines lines (line_before number (Ok line) rest) ≡ after_lines (lines ++ line ∷ []) rest
before-others lines number line (Err refusal) = refl
before-others lines number line (Ok others) = ap Ok (sym (append_assoc lines (line ∷ []) others))

before-more : (lines : List ScriptLine) (number : ℕ) (line : ScriptLine) (read : Result ScriptLine ℕ) (rest : Result (List ScriptLine) (ℕ × ℕ)) → read ≡ Ok line
    → after_lines lines (line_before number read rest) ≡ after_lines (lines ++ line ∷ []) rest
before-more lines number line read rest h = ap (λ r. after_lines lines (line_before number r rest)) h ∙ before-others lines number line rest

pub lines_from-more : (lines : List ScriptLine) (number : ℕ) (text : List ℕ) (line : ScriptLine) (rest : List (List ℕ)) → 0 < length text → line_of text ≡ Ok line
    → after_lines lines (lines_from number (text ∷ rest)) ≡ after_lines (lines ++ line ∷ []) (lines_from (number + 1) rest)
unfolding lines_from
lines_from-more lines number [] line rest long h = absurd (omega arith)
lines_from-more lines number (byte ∷ bytes) line rest long h = before-more lines number line (line_of (byte ∷ bytes)) (lines_from (number + 1) rest) h

pub lines_from-refused : (lines : List ScriptLine) (number kind : ℕ) (text : List ℕ) (rest : List (List ℕ)) → 0 < length text → line_of text ≡ Err kind
    → after_lines lines (lines_from number (text ∷ rest)) ≡ Err (number, kind)
unfolding lines_from
lines_from-refused lines number kind [] rest long h = absurd (omega arith)
lines_from-refused lines number kind (byte ∷ bytes) rest long h =
    ap (λ r. after_lines lines (line_before number r (lines_from (number + 1) rest))) h

drop_next : (number : ℕ) (texts : List (List ℕ)) (text : List ℕ) → number < length texts → text ≡ get_or texts number text
    → drop number texts ≡ text ∷ drop (number + 1) texts
drop_next number texts text within is = drop_more texts number text within ∙ ap (λ first. first ∷ drop (number + 1) texts) (sym is)

-- the same of the texts from a place on, of which the next is this
pub from-empty : (number : ℕ) (texts : List (List ℕ)) (text : List ℕ) → number < length texts → text ≡ get_or texts number text → length text ≡ 0
    → lines_from (number + 1) (drop number texts) ≡ lines_from (number + 1 + 1) (drop (number + 1) texts)
from-empty number texts text within is empty = ap (lines_from (number + 1)) (drop_next number texts text within is) ∙ lines_from-empty (number + 1) text (drop (number + 1) texts) empty

pub from-more : (lines : List ScriptLine) (number : ℕ) (texts : List (List ℕ)) (text : List ℕ) (line : ScriptLine) → number < length texts → text ≡ get_or texts number text
    → 0 < length text → line_of text ≡ Ok line
    → after_lines lines (lines_from (number + 1) (drop number texts)) ≡ after_lines (lines ++ line ∷ []) (lines_from (number + 1 + 1) (drop (number + 1) texts))
from-more lines number texts text line within is long h =
    ap (λ rest. after_lines lines (lines_from (number + 1) rest)) (drop_next number texts text within is)
    ∙ lines_from-more lines (number + 1) text line (drop (number + 1) texts) long h

pub from-refused : (lines : List ScriptLine) (number kind : ℕ) (texts : List (List ℕ)) (text : List ℕ) → number < length texts → text ≡ get_or texts number text
    → 0 < length text → line_of text ≡ Err kind → after_lines lines (lines_from (number + 1) (drop number texts)) ≡ Err (number + 1, kind)
from-refused lines number kind texts text within is long h =
    ap (λ rest. after_lines lines (lines_from (number + 1) rest)) (drop_next number texts text within is)
    ∙ lines_from-refused lines (number + 1) kind text (drop (number + 1) texts) long h

-- behind all texts there are no more lines
pub from-end : (lines : List ScriptLine) (number : ℕ) (texts : List (List ℕ)) → length texts ≤ number → after_lines lines (lines_from (number + 1) (drop number texts)) ≡ Ok lines
unfolding lines_from
from-end lines number texts past = ap (λ rest. after_lines lines (lines_from (number + 1) rest)) (drop_all number texts past) ∙ ap Ok (append-nil lines)
