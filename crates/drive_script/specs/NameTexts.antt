-- Names in text, and the paths that they are.
use Rattle.std.specs.Prelude.{◌≡◌, ℕ, List, [], length, Option, Some, None}
use Rattle.forest_tree.specs.Tree.{Path}
use Rattle.drive_script.specs.Script.{name_of}

abbrev pub path_or_root : Option Path → Path
path_or_root None = []
path_or_root (Some path) = path

-- the path that a text is, which is a name
abbrev pub path_of : List ℕ → Path
path_of text = path_or_root (name_of text)

-- the text is a name of so many forks
pub record IsNameText (text : List ℕ) (depth : ℕ) : Type 0 where
  pub is_name : name_of text ≡ Some (path_of text)
  pub deep : depth ≡ length (path_of text)
