-- A machine of which some pages may be absent. A page that is not here would read as RAM has it, so the machine
-- is the one with every page; beside it stands what is known of its pages. These flags decide where a step stops,
-- and nothing that it does.
use Rattle.std.specs.Prelude.{◌≡◌, ◌⊎◌, ◌<◌, ℕ, zero, suc, ◌+◌, ◌*◌, Bool, true, false, not, if◌then◌else◌, List, [], ◌∷◌}
use Rattle.std.specs.Prelude.{◌++◌, length, map, take, drop, replicate, slice_index_or, slice_set, Option, Some, None}
use Rattle.page_frames.specs.declared.page.TheConstants.{PAGE_SIZE}
use Rattle.elf_load.specs.Image.{Image}
use Rattle.cow_disk.specs.Paged.{disk_pages}
use Rattle.fork_port.specs.declared.ending.Ending.{Ending}
use Rattle.forest_tree.specs.Operations.{Operations}
use Rattle.forest_model.specs.Footprint.{Page, Change, no_change, puts, zeroes}
use Rattle.forest_model.specs.State.{State}
use Rattle.forest_model.specs.Machine.{Machine, advance}
use Rattle.forest_model.specs.Memory.{page_on_disk}
use Rattle.forest_model.specs.Touch.{touch, change}
use Rattle.sibling_forest.specs.Talk.{Talks}
use Rattle.forest_model.specs.Forest.{machines, talks}

-- what is known of the pages: a flag for each, at its place
pub record Pages : Type 0 where
  -- the page is here: first those of RAM, and then those of the disk
  pub here : List Bool
  -- the page, which is of RAM, is blank: it is here and reads as zeros, and a clone starts with it
  pub blank : List Bool

pub record Paged : Type 0 where
  pub machine : Machine
  pub pages : Pages

-- ---- where a step stops

-- the first of these pages that is not here
unfoldable pub first_absent : List Bool → List Page → Option Page
first_absent here [] = None
first_absent here (page ∷ rest) = if slice_index_or here page false then first_absent here rest else Some page

-- the page that the next step waits for: the first of those that it touches, the code page before those of the data
abbrev pub stalled_at : Paged → Option Page
stalled_at p = first_absent p.pages.here (touch p.machine)

-- ---- what changes of the flags

-- flags of which `count` are set, from `first` on
abbrev pub with_set : List Bool → Page → ℕ → List Bool
with_set flags first count = take first flags ++ (replicate count true ++ drop (first + count) flags)

-- a page that is put into is blank no more, and pages that are zeroed are here and blank
abbrev pub pages_after : Change → Pages → Pages
pages_after no_change pages = pages
pages_after (puts page) pages = record pages { blank = slice_set pages.blank page false }
pages_after (zeroes first count) pages =
    record { here = with_set pages.here first count; blank = with_set pages.blank first count }

-- how many pages are absent
unfoldable pub absent_count : List Bool → ℕ
absent_count [] = 0
absent_count (is_here ∷ rest) = (if is_here then 0 else 1) + absent_count rest

-- ---- the machine with its flags

-- a flag for each page of a disk, all of them the same
abbrev pub flags_of_disk : Bool → List ℕ → List Bool
flags_of_disk is_here disk = replicate (disk_pages disk) is_here

-- at boot, with this disk, all pages are here, and those in which no byte of a segment falls are blank
abbrev pub pages_at_boot : Image → List ℕ → Pages
pages_at_boot image disk = record { here = map (λ falls. true) image.segments ++ flags_of_disk true disk; blank = map not image.segments }

-- a clone with this disk starts with the blank pages of its parent, and with no other
abbrev pub pages_at_birth : List ℕ → Pages → Pages
pages_at_birth disk pages = record { here = pages.blank ++ flags_of_disk false disk; blank = pages.blank }

-- a page of RAM, which begins in it, or one of the disk
abbrev pub IsPageOf : State → Page → Type 0
IsPageOf s page = (PAGE_SIZE * page < length s.ram) ⊎ ((q : ℕ) × (q < disk_pages s.ports.block.disk) × (page ≡ page_on_disk s q))

-- there is a flag for each page of RAM and of the disk
pub record AreFlagged (s : State) (pages : Pages) : Type 0 where
  pub whole : length s.ram ≡ PAGE_SIZE * length pages.blank
  pub here : length pages.here ≡ length pages.blank + disk_pages s.ports.block.disk

-- a page that has come is here
abbrev pub pages_arrived : Page → Pages → Pages
pages_arrived page pages = record pages { here = slice_set pages.here page true }

-- after a step that does not stop: one step of the machine with every page
abbrev pub advanced : Paged → Paged
advanced p = record { machine = advance p.machine; pages = pages_after (change p.machine) p.pages }

-- after so many
unfoldable pub advanced_by : ℕ → Paged → Paged
advanced_by zero p = p
advanced_by (suc n) p = advanced_by n (advanced p)

-- what a forest uses of such machines: that of the machines, and a child's pages
unfoldable pub paged_machines : Operations Paged Ending
paged_machines = record {
  ending = λ p. machines.ending p.machine;
  call = λ p. machines.call p.machine;
  left = λ p. machines.left p.machine;
  holding = λ p. machines.holding p.machine;
  cloned = λ p. machines.cloned p.machine;
  grant = λ p t. machines.grant p.machine t;
  may_clone = λ p t. machines.may_clone p.machine t;
  is_good = λ p. machines.is_good p.machine;
  advance = λ p. record { machine = machines.advance p.machine; pages = pages_after (change p.machine) p.pages };
  forked = λ p. record p { machine = machines.forked p.machine };
  child = λ p k. record { machine = machines.child p.machine k; pages = pages_at_birth p.machine.state.ports.block.disk p.pages };
  after_join = λ p endings. record p { machine = machines.after_join p.machine endings };
  after_kill = λ p. record p { machine = machines.after_kill p.machine };
}

-- how they talk
unfoldable pub paged_talks : Talks Paged
paged_talks = record {
  talk = λ p. talks.talk p.machine;
  word = λ p. talks.word p.machine;
  received = λ p word. record p { machine = talks.received p.machine word };
  number = λ p. talks.number p.machine;
  siblings = λ p. talks.siblings p.machine;
}
