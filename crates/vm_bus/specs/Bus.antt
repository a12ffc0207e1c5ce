-- The ports of a machine of whose disk pages may be absent, and what a store leaves to the machine.
use Rattle.std.specs.Prelude.{◌≡◌, ℕ, ◌≤◌, List}
use Rattle.cow_disk.specs.Paged.{PagedDisk}
use Rattle.block_port.specs.Block.{BlockParts, IsTouchedHere, block_over, parts_at_start}
use Rattle.fork_port.specs.declared.commands.Effect.{Effect}
use Rattle.fork_port.specs.declared.commands.Effect.TheVariants.{Done, TimeWritten, Call, Talk, Exit, ExitWith, Zero}
use Rattle.fork_port.specs.declared.handed.TheConstants.{MAX_HANDED}
use Rattle.fork_port.specs.Commands.{IsMakeable}
use Rattle.sibling_port.specs.Commands.{HasSibling, named}
use Rattle.port_map.specs.declared.PortFields.{PortFields}
use Rattle.port_map.specs.declared.Place.{Place}
use Rattle.port_map.specs.declared.Place.TheVariants as place
use Rattle.port_map.specs.Bus.{PortRegisters, PortsWith, place_of, ports_at_start, ports_of_fields, with_block}

-- the ports, with a disk of which pages may be absent
abbrev pub BusParts : Type 0
BusParts = PortsWith BlockParts

-- their registers, where the disk lies over one that has the absent pages
abbrev pub bus_over : BusParts → List ℕ → PortRegisters
bus_over b below = with_block b (block_over b.block below)

-- the ports of a machine that starts with this disk and this input, and may have so many clones
abbrev pub parts_at_boot : PagedDisk → List ℕ → ℕ → BusParts
parts_at_boot disk input allot = ports_at_start (parts_at_start disk) input allot

-- those that are made of plain numbers, with this disk and this input, of a child of a ticket for so many
abbrev pub parts_of_fields : PortFields → PagedDisk → List ℕ → ℕ → BusParts
parts_of_fields fields disk input children =
    ports_of_fields fields (record { sector = fields.block.sector; status = fields.block.status; buffer = fields.block.buffer; disk = disk }) input children

-- A store that is a call, a talk, EXIT with bytes or ZERO changes nothing yet, since the machine makes it. The call can be
-- made, the talk names a sibling, and the bytes are not too many.
abbrev pub Waits : BusParts → BusParts → Effect → Type 0
Waits old new Done = Unit {0}
Waits old new TimeWritten = Unit {0}
Waits old new (Call call) = (new ≡ old) × IsMakeable old.fork call
Waits old new (Talk talk) = (new ≡ old) × (HasSibling old.fork.clone_id old.sibling × (named talk ≡ old.sibling.peer))
Waits old new (Exit value) = Unit {0}
Waits old new (ExitWith value address count) = (new ≡ old) × (count ≤ MAX_HANDED)
Waits old new (Zero first count) = new ≡ old

-- the page of the disk that a store needs is here, if it needs one
abbrev pub IsDiskPageHereAt : Place → BusParts → ℕ → ℕ → Type 0
IsDiskPageHereAt (place.Block offset) b width word = IsTouchedHere b.block offset width word
IsDiskPageHereAt _ b width word = Unit {0}

abbrev pub IsDiskPageHere : BusParts → ℕ → ℕ → ℕ → Type 0
IsDiskPageHere b address width word = IsDiskPageHereAt (place_of address) b width word
