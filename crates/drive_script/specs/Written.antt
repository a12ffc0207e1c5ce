-- Scripts as they are written: the text of each line, and the limits of its numbers.
use Rattle.std.specs.Prelude.{◌≡◌, ℕ, ◌^◌, ◌<◌, ◌≤◌, List, [], ◌∷◌, ◌++◌, codes, map}
use Rattle.std.specs.Char.{to_ascii_lowercase}
use Rattle.std.specs.Fmt.{decimal}
use Rattle.forest_tree.specs.Tree.{Branch, Path}
use Rattle.machine_names.specs.Name.{name_text}
use Rattle.drive_script.specs.declared.line.TheConstants.{MAX_PAGE, MAX_PLACE, MAX_STEPS}
use Rattle.drive_script.specs.Script.{ScriptLine, step, ask, push, give, peek, regs}
use Rattle.drive_script.specs.Told.{word_text}

abbrev pub line_text : ScriptLine → List ℕ
line_text (step path most) = codes "step " ++ (name_text path ++ (codes " " ++ decimal most))
line_text (ask path) = codes "ask " ++ name_text path
line_text (push path page) = codes "push " ++ (name_text path ++ (codes " " ++ decimal page))
line_text (give path place) = codes "give " ++ (name_text path ++ (codes " " ++ decimal place))
line_text (peek path address) = codes "peek " ++ (name_text path ++ (codes " " ++ word_text address))
line_text (regs path) = codes "regs " ++ name_text path

unfoldable pub script_text : List ScriptLine → List ℕ
script_text [] = []
script_text (line ∷ rest) = line_text line ++ (codes "\n" ++ script_text rest)

-- the numbers of a name
pub record IsFork (b : Branch) : Type 0 where
  pub ticket_from : 1 ≤ b.ticket
  pub ticket_to : b.ticket < 2 ^ 32
  pub child_from : 1 ≤ b.child
  pub child_to : b.child < 2 ^ 32

abbrev pub AreForks : Path → Type 0
AreForks [] = Unit {0}
AreForks (b ∷ rest) = IsFork b × AreForks rest

abbrev pub IsInForm : ScriptLine → Type 0
IsInForm (step path most) = AreForks path × (most ≤ MAX_STEPS)
IsInForm (ask path) = AreForks path
IsInForm (push path page) = AreForks path × (page ≤ MAX_PAGE)
IsInForm (give path place) = AreForks path × (place ≤ MAX_PLACE)
IsInForm (peek path address) = AreForks path × (address < 2 ^ 32)
IsInForm (regs path) = AreForks path

abbrev pub AreInForm : List ScriptLine → Type 0
AreInForm [] = Unit {0}
AreInForm (line ∷ rest) = IsInForm line × AreInForm rest

-- the text is that of the line, but that the digits of an address may be of either case
abbrev pub IsTextOf : List ℕ → ScriptLine → Type 0
IsTextOf text (step path most) = text ≡ line_text (step path most)
IsTextOf text (ask path) = text ≡ line_text (ask path)
IsTextOf text (push path page) = text ≡ line_text (push path page)
IsTextOf text (give path place) = text ≡ line_text (give path place)
IsTextOf text (peek path address) =
    (digits : List ℕ) × (text ≡ codes "peek " ++ (name_text path ++ (codes " " ++ digits))) × (map to_ascii_lowercase digits ≡ word_text address)
IsTextOf text (regs path) = text ≡ line_text (regs path)
