-- What a report says of a family that has come to its end, line by line. It may be stuck: its root lives then, and each
-- machine that lives has a line that says so.
use Rattle.std.specs.Prelude.{ℕ, suc, ◌==◌, if◌then◌else◌, List, [], ◌∷◌, ◌++◌, length, codes, Option, Some, None}
use Rattle.std.specs.List.{flat_map}
use Rattle.std.specs.Fmt.{decimal}
use Rattle.forest_tree.specs.Operations.{Operations}
use Rattle.forest_tree.specs.Tree.{Tree, node, Trees, no_tree, tree, Broods, no_brood, brood, Log, no_entry, joined, killed, Branch, Path}
use Rattle.sibling_forest.specs.Talk.{Box}

-- a line, in which a name is the path to the machine
pub data FamilyLine (E : Type 0) : Type 0 where
  -- a machine: its name, how it ended, or none where it is stuck, its steps and its output
  machine_line : Path → Option E → ℕ → List ℕ → FamilyLine E
  -- a killed ticket: the name of its machine, its number, and how many children it had
  ticket_line : Path → ℕ → ℕ → FamilyLine E

abbrev pub branch_text : Branch → List ℕ
branch_text b = codes "." ++ (decimal b.ticket ++ (codes "." ++ decimal b.child))

abbrev pub name_text : Path → List ℕ
name_text path = codes "0" ++ flat_map branch_text path

-- how it came to its end, where `said` is how it ended in words
abbrev pub ending_text : {E : Type 0} → (E → List ℕ) → Option E → List ℕ
ending_text said None = codes "stuck"
ending_text said (Some ending) = said ending

-- what is put out of a line: the line, and after that of a machine its output and a newline
unfoldable pub line_text : {E : Type 0} → (E → List ℕ) → FamilyLine E → List ℕ
line_text said (machine_line name ending steps output) =
    codes "machine "
    ++ (name_text name
    ++ (codes " "
    ++ (ending_text said ending
    ++ (codes " steps "
    ++ (decimal steps
    ++ (codes " out "
    ++ (decimal (length output)
    ++ (codes "\n"
    ++ (output
    ++ codes "\n")))))))))
line_text said (ticket_line name ticket count) =
    codes "ticket "
    ++ (name_text name
    ++ (codes "."
    ++ (decimal ticket
    ++ (codes " killed "
    ++ (decimal count
    ++ codes "\n")))))

-- what is told of the machines M of a tree
pub record Told (M : Type 0) : Type 0 where
  pub steps : M → ℕ
  pub output : M → List ℕ

-- the lines of the children of a ticket
pub record Block (E : Type 0) : Type 0 where
  pub ticket : ℕ
  pub lines : List (FamilyLine E)

unfoldable pub block_of : {E : Type 0} → ℕ → List (Block E) → List (FamilyLine E)
block_of t [] = []
block_of t (b ∷ rest) = if b.ticket == t then b.lines else block_of t rest

-- those of the tickets, in the order of these
unfoldable pub in_order : {E : Type 0} → List ℕ → List (Block E) → List (FamilyLine E)
in_order [] blocks = []
in_order (t ∷ tickets) blocks = block_of t blocks ++ in_order tickets blocks

module _ {M E : Type 0} (o : Operations M E) (told : Told M) where
  unfoldable mutual
    -- the lines of a tree at a path: of the machine itself, then of its log, then of its children, by ticket and child in
    -- order. A machine that has ended has no children any more
    pub lines : Path → Tree (Box M) → List (FamilyLine E)
    lines path (node b broods log) =
        machine_line path (o.ending b.machine) (told.steps b.machine) (told.output b.machine)
        ∷ (log_lines path log ++ in_order (o.cloned b.machine) (blocks path broods))

    -- the lines of children of ticket t, from child k on
    pub trees_lines : Path → ℕ → ℕ → Trees (Box M) → List (FamilyLine E)
    trees_lines path t k no_tree = []
    trees_lines path t k (tree child rest) =
        lines (path ++ record { ticket = t; child = k } ∷ []) child ++ trees_lines path t (suc k) rest

    -- the lines of the log of the machine at a path
    pub log_lines : Path → Log (Box M) → List (FamilyLine E)
    log_lines path no_entry = []
    log_lines path (joined log t trees) = log_lines path log ++ trees_lines path t 1 trees
    log_lines path (killed log t count) = log_lines path log ++ ticket_line path t count ∷ []

    pub blocks : Path → Broods (Box M) → List (Block E)
    blocks path no_brood = []
    blocks path (brood t trees rest) = record { ticket = t; lines = trees_lines path t 1 trees } ∷ blocks path rest

  -- what is told of a tree that has come to its end
  abbrev pub report : (E → List ℕ) → Tree (Box M) → List ℕ
  report said t = flat_map (line_text said) (lines [] t)
