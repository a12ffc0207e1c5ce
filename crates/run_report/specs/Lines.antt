-- What a report says of a family of machines that has come to its end, line by line. It may be stuck: its root lives then,
-- and the line of each machine that lives says so.
use Rattle.std.specs.Prelude.{◌≡◌, ℕ, suc, ◌==◌, if◌then◌else◌, List, [], ◌∷◌, ◌++◌, length, codes, Option, Some, None}
use Rattle.std.specs.List.{flat_map}
use Rattle.std.specs.Fmt.{decimal}
use Rattle.hex.specs.Hex.{encode_lower}
use Rattle.fork_port.specs.declared.ending.Ending.{Ending}
use Rattle.fork_port.specs.declared.ending.Ending.TheVariants.{Exit, Limit}
use Rattle.fork_port.specs.Handed.{handed_bytes}
use Rattle.forest_tree.specs.Tree.{Tree, node, Trees, no_tree, tree, Broods, no_brood, brood, Log, no_entry, joined, killed, Path}
use Rattle.machine_names.specs.Name.{name_text, child_path}

-- a line of a report. A name is the path to the machine
pub data Line : Type 0 where
  -- a machine: its name, how it ended, or none where it is stuck, its steps and its output
  machine_line : Path → Option Ending → ℕ → List ℕ → Line
  -- a killed ticket: the name of its machine, its number, and how many children it had
  ticket_line : Path → ℕ → ℕ → Line

-- how a machine ended, in words
abbrev pub ending_text : Ending → List ℕ
ending_text (Exit value handed) = codes "exit " ++ decimal value
ending_text Limit = codes "limit"

-- the same of one that may be stuck
abbrev pub end_text : Option Ending → List ℕ
end_text None = codes "stuck"
end_text (Some ending) = ending_text ending

-- bytes that were handed over, each in two hexadecimal digits. Where there are none, nothing is said of them
abbrev pub bytes_text : List ℕ → List ℕ
bytes_text bytes = if length bytes == 0 then [] else codes " handed " ++ encode_lower bytes

abbrev pub handed_text : Option Ending → List ℕ
handed_text None = []
handed_text (Some (Exit value handed)) = bytes_text (handed_bytes handed)
handed_text (Some Limit) = []

-- what is put out of a line: the line, and after that of a machine its output and a newline
unfoldable pub line_text : Line → List ℕ
line_text (machine_line name ending steps output) =
    codes "machine "
    ++ (name_text name
    ++ (codes " "
    ++ (end_text ending
    ++ (codes " steps "
    ++ (decimal steps
    ++ (codes " out "
    ++ (decimal (length output)
    ++ (handed_text ending
    ++ (codes "\n"
    ++ (output
    ++ codes "\n"))))))))))
line_text (ticket_line name ticket count) =
    codes "ticket "
    ++ (name_text name
    ++ (codes "."
    ++ (decimal ticket
    ++ (codes " killed "
    ++ (decimal count
    ++ codes "\n")))))

-- the lines, one after another
unfoldable pub text_of : List Line → List ℕ
text_of lines = flat_map line_text lines

-- what is told of the machines M of a tree
pub record Told (M : Type 0) : Type 0 where
  -- none while the machine lives
  pub ending : M → Option Ending
  -- the tickets that it has cloned, in order
  pub cloned : M → List ℕ
  pub steps : M → ℕ
  pub output : M → List ℕ

-- the lines of the children of a ticket
pub record Block : Type 0 where
  pub ticket : ℕ
  pub lines : List Line

unfoldable pub block_of : ℕ → List Block → List Line
block_of t [] = []
block_of t (b ∷ rest) = if b.ticket == t then b.lines else block_of t rest

-- those of the tickets, in the order of these
unfoldable pub in_order : List ℕ → List Block → List Line
in_order [] blocks = []
in_order (t ∷ tickets) blocks = block_of t blocks ++ in_order tickets blocks

module _ {M : Type 0} (told : Told M) where
  -- the line of a machine at a path
  abbrev pub own_line : Path → M → Line
  own_line path m = machine_line path (told.ending m) (told.steps m) (told.output m)

  unfoldable mutual
    -- the lines of a tree at a path: of the machine itself, of its log in order, then of its children, by ticket and child in
    -- order. A machine that has ended has no children any more
    pub lines : Path → Tree M → List Line
    lines path (node m broods log) = own_line path m ∷ (log_lines path log ++ in_order (told.cloned m) (blocks path broods))

    -- the lines of children of ticket t, from child k on
    pub trees_lines : Path → ℕ → ℕ → Trees M → List Line
    trees_lines path t k no_tree = []
    trees_lines path t k (tree child rest) = lines (child_path path t k) child ++ trees_lines path t (suc k) rest

    -- the lines of the log of the machine at a path
    pub log_lines : Path → Log M → List Line
    log_lines path no_entry = []
    log_lines path (joined log t trees) = log_lines path log ++ trees_lines path t 1 trees
    log_lines path (killed log t count) = log_lines path log ++ ticket_line path t count ∷ []

    pub blocks : Path → Broods M → List Block
    blocks path no_brood = []
    blocks path (brood t trees rest) = record { ticket = t; lines = trees_lines path t 1 trees } ∷ blocks path rest

-- f leaves of a machine all that is told of it
pub record TellsSame {M N : Type 0} (told : Told M) (less : Told N) (f : M → N) : Type 0 where
  pub ending : (m : M) → less.ending (f m) ≡ told.ending m
  pub cloned : (m : M) → less.cloned (f m) ≡ told.cloned m
  pub steps : (m : M) → less.steps (f m) ≡ told.steps m
  pub output : (m : M) → less.output (f m) ≡ told.output m
