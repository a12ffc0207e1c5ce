-- What a hart leaves for its clones, and the hart that a clone starts with.
use Rattle.std.specs.Prelude.{◌≡◌, ℕ, ◌*◌, ◌/◌, Bool, false, List, ◌∷◌, ◌++◌, length, drop, Some}
use Rattle.page_frames.specs.declared.page.TheConstants.{PAGE_SIZE}
use Rattle.block_port.specs.Block.{BlockRegisters}
use Rattle.port_map.specs.declared.PortFields.{PortFields}
use Rattle.port_map.specs.Bus.{ports_of_fields}
use Rattle.vm_descriptor.specs.declared.descriptor.Descriptor.{Descriptor}
use Rattle.vm_descriptor.specs.Descriptor.{IsInRange}
use Rattle.image_depot.specs.Image.{FrozenImage, page_count}
use Rattle.image_depot.specs.Key.{Key, number_of, image_of}
use Rattle.guest_mem.specs.Ram.{cleared}
use Rattle.forest_model.specs.State.{State}
use Rattle.forest_model.specs.Paged.{Pages, flags_of_disk}
use Rattle.vm_hart.specs.Keyed.{KeyedState}

-- the registers of the ports that a descriptor tells: a clone has no ticket yet, and the first of its own
-- is 1. Its sibling port is new, and tells how many children its ticket made
abbrev pub port_fields : Descriptor → PortFields
port_fields d = record {
  timer = d.timer;
  console = d.console;
  block = d.block;
  fork = record {
    first_argument = d.argument_0;
    second_argument = d.argument_1;
    result = d.clone_id;
    clone_id = d.clone_id;
    allot = d.share;
    join_select = d.join_select;
    granted = d.granted;
    next_ticket = 1;
  };
}

-- its block port, with this disk
abbrev pub block_on : Descriptor → List ℕ → BlockRegisters
block_on d disk = record { sector = d.block.sector; status = d.block.status; buffer = d.block.buffer; disk = disk }

abbrev pub woken_state : Descriptor → ℕ → FrozenImage → State
woken_state d siblings image = record {
  registers = 0 ∷ d.registers;
  pc = d.pc;
  csrs = d.csrs;
  reservation = d.reservation;
  ram = cleared d.blank image.contents;
  ports = ports_of_fields (port_fields d) (block_on d image.disk) image.input siblings;
}

-- a clone starts with its blank pages alone, and with no page of the disk
abbrev pub woken_pages : Descriptor → FrozenImage → Pages
woken_pages d image = record { here = d.blank ++ flags_of_disk false image.disk; blank = d.blank }

abbrev pub woken_hart : Descriptor → ℕ → Key → KeyedState
woken_hart d siblings key = record { state = woken_state d siblings (image_of key); pages = woken_pages d (image_of key); key = Some key }

-- the image that a machine leaves for its children
abbrev pub image_left : State → FrozenImage
image_left s = record { contents = s.ram; disk = s.ports.block.disk; input = s.ports.console.input }

-- the descriptor of child k, with this share, of a machine that is in this state after its CLONE, and has then
-- made so many steps, of so many
abbrev pub seed_of : State → ℕ → ℕ → ℕ → ℕ → ℕ → List Bool → Descriptor
seed_of s image k share steps limit blank = record {
  image = image;
  pages = length s.ram / PAGE_SIZE;
  clone_id = k;
  share = share;
  pc = s.pc;
  registers = drop 1 s.registers;
  csrs = s.csrs;
  timer = s.ports.timer;
  steps = steps;
  limit = limit;
  reservation = s.reservation;
  console = record { place = s.ports.console.place; line_control = s.ports.console.line_control };
  block = record { sector = s.ports.block.sector; status = s.ports.block.status; buffer = s.ports.block.buffer };
  argument_0 = s.ports.fork.first_argument;
  argument_1 = s.ports.fork.second_argument;
  join_select = s.ports.fork.join_select;
  granted = s.ports.fork.granted;
  blank = blank;
}

-- one flag for each page, and the pages that are flagged are zeros
pub record IsBlankMap (ram : List ℕ) (blank : List Bool) : Type 0 where
  pub one_a_page : length ram ≡ PAGE_SIZE * length blank
  pub zero : cleared blank ram ≡ ram

-- a descriptor is of the image of this key
pub record IsOfImage (key : Key) (d : Descriptor) : Type 0 where
  pub in_range : IsInRange d
  pub number : d.image ≡ number_of key
  pub pages : d.pages ≡ page_count (image_of key)
