-- The page table of a clone.
use Rattle.std.specs.Prelude.{Bool, List}
use Rattle.page_frames.specs.declared.entry.Entry.{Entry}
use Rattle.page_frames.specs.declared.entry.Entry.TheVariants.{Blank, Absent}
use Rattle.shared_leaves.specs.Choices.{chosen}

-- a clone's pages are absent but for the flagged ones, which are blank
abbrev pub clone_table : List Bool → List Entry
clone_table blank = chosen Blank Absent blank
