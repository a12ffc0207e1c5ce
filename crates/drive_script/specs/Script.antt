-- Which texts are scripts, and the lines that they are.
use Rattle.std.specs.Prelude.{◌≡◌, ⊤, ℕ, ◌+◌, ◌-◌, ◌^◌, ◌==◌, Bool, not, ◌&&◌, nat_lt, nat_le, if◌then◌else◌, List, [], ◌∷◌, length, slice_index}
use Rattle.std.specs.Prelude.{codes, Option, Some, None, Result, Ok, Err}
use Rattle.std.specs.Char.{is_ascii_digit, is_ascii_hexdigit}
use Rattle.std.specs.List.{list_all, slice_split}
use Rattle.std.specs.Str.{bytes_eq}
use Rattle.std.specs.Str.Parse.{digits_value}
use Rattle.forest_tree.specs.Tree.{Path}
use Rattle.drive_script.specs.declared.error.LineError.{LineError}
use Rattle.drive_script.specs.declared.error.LineError.TheVariants as line
use Rattle.drive_script.specs.declared.error.ScriptError.{ScriptError}
use Rattle.drive_script.specs.declared.error.ScriptError.TheVariants.{Refused, Memory}
use Rattle.drive_script.specs.declared.error.TheConstants.{UNKNOWN_WORD, WRONG_FIELDS, BAD_NAME, BAD_NUMBER, BAD_ADDRESS}
use Rattle.drive_script.specs.declared.fields.TheConstants.{DOT, NEWLINE, SPACE, ZERO}
use Rattle.drive_script.specs.declared.line.TheConstants.{MAX_PAGE, MAX_PLACE, MAX_STEPS}
use Rattle.drive_script.specs.declared.line.Word.{Word}
use Rattle.drive_script.specs.declared.line.Word.TheVariants.{Step, Ask, Push, Give, Peek, Regs}

-- a line, by the path to the machine that it names
pub data ScriptLine : Type 0 where
  -- at most so many steps
  step : Path → ℕ → ScriptLine
  -- a reply with the page that the next step waits for is sent to the children of the same ticket
  ask : Path → ScriptLine
  -- a reply with any page is
  push : Path → ℕ → ScriptLine
  -- the reply at a place among those that were sent arrives
  give : Path → ℕ → ScriptLine
  -- the word at an address
  peek : Path → ℕ → ScriptLine
  -- the registers
  regs : Path → ScriptLine

-- the parts of a text between separators
abbrev pub parts : ℕ → List ℕ → List (List ℕ)
parts separator text = slice_split (λ byte. byte == separator) text

-- the same of what stands behind a separator, if one stood there
abbrev pub parts_beyond : ℕ → Option (List ℕ) → List (List ℕ)
parts_beyond separator None = []
parts_beyond separator (Some text) = parts separator text

-- ---- fields

-- a zero stands before other digits
abbrev pub has_leading_zero : List ℕ → Bool
has_leading_zero text = nat_lt 1 (length text) && slice_index text 0 == ZERO

-- one decimal digit or more, with no zero before others
abbrev pub is_decimal : List ℕ → Bool
is_decimal text = nat_lt 0 (length text) && (not (has_leading_zero text) && list_all is_ascii_digit text)

-- the number of 32 bits that a text is
abbrev pub number_of : List ℕ → Option ℕ
number_of text = if is_decimal text && nat_lt (digits_value 10 text) (2 ^ 32) then Some (digits_value 10 text) else None

abbrev pub number_from : ℕ → ℕ → Option ℕ → Option ℕ
number_from least most None = None
number_from least most (Some n) = if nat_le least n && nat_le n most then Some n else None

-- the number that a text is, from the least to the most
abbrev pub number_within : ℕ → ℕ → List ℕ → Option ℕ
number_within least most text = number_from least most (number_of text)

-- the address that eight hexadecimal digits are, of either case
abbrev pub address_of : List ℕ → Option ℕ
address_of text = if length text == 8 && list_all is_ascii_hexdigit text then Some (digits_value 16 text) else None

abbrev pub fork_before : Option ℕ → Option ℕ → Option Path → Option Path
fork_before (Some ticket) (Some child) (Some path) = Some (record { ticket = ticket; child = child } ∷ path)
fork_before _ _ _ = None

-- the forks of a name: a ticket and a child's number each, of 1 or more
unfoldable pub forks_of : List (List ℕ) → Option Path
forks_of [] = Some []
forks_of (ticket ∷ []) = None
forks_of (ticket ∷ (child ∷ rest)) = fork_before (number_within 1 (2 ^ 32 - 1) ticket) (number_within 1 (2 ^ 32 - 1) child) (forks_of rest)

-- a name is `0`, and then any number of `.t.k`
abbrev pub name_by : List (List ℕ) → Option Path
name_by [] = None
name_by (root ∷ forks) = if bytes_eq root (codes "0") then forks_of forks else None

abbrev pub name_of : List ℕ → Option Path
name_of text = name_by (parts DOT text)

-- ---- lines

-- the fields of a text, and of what stands behind a space, if one stood there
abbrev pub fields : List ℕ → List (List ℕ)
fields text = parts SPACE text

abbrev pub fields_beyond : Option (List ℕ) → List (List ℕ)
fields_beyond text = parts_beyond SPACE text

-- the word that a line begins with, if it is known
abbrev pub word_of : List ℕ → Option Word
word_of text =
    if bytes_eq text (codes "step") then Some Step
    else if bytes_eq text (codes "ask") then Some Ask
    else if bytes_eq text (codes "push") then Some Push
    else if bytes_eq text (codes "give") then Some Give
    else if bytes_eq text (codes "peek") then Some Peek
    else if bytes_eq text (codes "regs") then Some Regs
    else None

-- what its fields are, or the kind of the first that is not in form
abbrev pub named_by : Option Path → Result Path ℕ
named_by None = Err BAD_NAME
named_by (Some path) = Ok path

-- the second field is a number or an address, and else this is its kind
abbrev pub valued_by : ℕ → Option Path → Option ℕ → Result (Path × ℕ) ℕ
valued_by kind None value = Err BAD_NAME
valued_by kind (Some path) None = Err kind
valued_by kind (Some path) (Some value) = Ok (path, value)

-- the only text of some, and the only two
abbrev pub one_of : List (List ℕ) → Option (List ℕ)
one_of (one ∷ []) = Some one
one_of _ = None

abbrev pub two_of : List (List ℕ) → Option (List ℕ × List ℕ)
two_of (one ∷ (other ∷ [])) = Some (one, other)
two_of _ = None

-- a name
abbrev pub named : Option (List ℕ) → Result Path ℕ
named None = Err WRONG_FIELDS
named (Some one) = named_by (name_of one)

-- a name and a number up to the most
abbrev pub numbered : ℕ → Option (List ℕ × List ℕ) → Result (Path × ℕ) ℕ
numbered most None = Err WRONG_FIELDS
numbered most (Some two) = valued_by BAD_NUMBER (name_of two.0) (number_within 0 most two.1)

-- a name and an address
abbrev pub addressed : Option (List ℕ × List ℕ) → Result (Path × ℕ) ℕ
addressed None = Err WRONG_FIELDS
addressed (Some two) = valued_by BAD_ADDRESS (name_of two.0) (address_of two.1)

-- the line of what was read
abbrev pub line_named : (Path → ScriptLine) → Result Path ℕ → Result ScriptLine ℕ
line_named make (Err kind) = Err kind
line_named make (Ok path) = Ok (make path)

abbrev pub line_valued : (Path → ℕ → ScriptLine) → Result (Path × ℕ) ℕ → Result ScriptLine ℕ
line_valued make (Err kind) = Err kind
line_valued make (Ok two) = Ok (make two.0 two.1)

-- `step N K`, `ask N`, `push N P`, `give N I`, `peek N ADDR`, `regs N`
abbrev pub with_fields : Word → List (List ℕ) → Result ScriptLine ℕ
with_fields Step fields = line_valued step (numbered MAX_STEPS (two_of fields))
with_fields Ask fields = line_named ask (named (one_of fields))
with_fields Push fields = line_valued push (numbered MAX_PAGE (two_of fields))
with_fields Give fields = line_valued give (numbered MAX_PLACE (two_of fields))
with_fields Peek fields = line_valued peek (addressed (two_of fields))
with_fields Regs fields = line_named regs (named (one_of fields))

abbrev pub with_word : Option Word → List (List ℕ) → Result ScriptLine ℕ
with_word None fields = Err UNKNOWN_WORD
with_word (Some word) fields = with_fields word fields

abbrev pub line_by : List (List ℕ) → Result ScriptLine ℕ
line_by [] = Err UNKNOWN_WORD
line_by (word ∷ fields) = with_word (word_of word) fields

-- the line that a text is, or the kind of what is not in form. One space stands between two fields
unfoldable pub line_of : List ℕ → Result ScriptLine ℕ
line_of text = line_by (fields text)

-- ---- scripts

-- a line before others. The first that is not in form refuses them
abbrev pub line_before : ℕ → Result ScriptLine ℕ → Result (List ScriptLine) (ℕ × ℕ) → Result (List ScriptLine) (ℕ × ℕ)
line_before number (Err kind) rest = Err (number, kind)
line_before number (Ok line) (Err refusal) = Err refusal
line_before number (Ok line) (Ok lines) = Ok (line ∷ lines)

-- the lines that these texts are, of which the first has this number. One that is empty is skipped
unfoldable pub lines_from : ℕ → List (List ℕ) → Result (List ScriptLine) (ℕ × ℕ)
lines_from number [] = Ok []
lines_from number ([] ∷ rest) = lines_from (number + 1) rest
lines_from number ((byte ∷ bytes) ∷ rest) = line_before number (line_of (byte ∷ bytes)) (lines_from (number + 1) rest)

-- the lines that a text is as a script, or else the number of the first line that is not in form, and its
-- kind. A line ends with a newline, which the last may lack: nothing stands then behind the last newline,
-- which is skipped like an empty line
unfoldable pub script : List ℕ → Result (List ScriptLine) (ℕ × ℕ)
script text = lines_from 1 (parts NEWLINE text)

-- when each error comes. Out of memory may come at any time
abbrev pub IsRefused : List ℕ → ScriptError → Type 0
IsRefused text (Refused number kind) = script text ≡ Err (number, kind)
IsRefused text Memory = ⊤

-- the same of a line, and of its fields
abbrev pub IsLineRefused : {X : Type 0} → Result X ℕ → LineError → Type 0
IsLineRefused read (line.Refused kind) = read ≡ Err kind
IsLineRefused read line.Memory = ⊤

-- and of a name
abbrev pub IsNameRefused : Option Path → LineError → Type 0
IsNameRefused name (line.Refused kind) = (name ≡ None) × (kind ≡ BAD_NAME)
IsNameRefused name line.Memory = ⊤
