-- What contracts see of a hart and of a machine: the one with every page, what is known of its pages, and the key to
-- the image that has those that are absent.
use Rattle.std.specs.Prelude.{◌≡◌, ℕ, ◌++◌, true, false, slice_get, Option, Some}
use Rattle.std.specs.Option.{ForSome}
use Rattle.fork_port.specs.declared.ending.Ending.{Ending}
use Rattle.image_depot.specs.Key.{Shelves, Key, IsKeyOf}
use Rattle.image_depot.specs.Reply.{Reply}
use Rattle.cow_disk.specs.declared.arrived.Arrived.{Arrived}
use Rattle.cow_disk.specs.declared.arrived.Arrived.TheVariants.{Got, Had}
use Rattle.cow_disk.specs.Paged.{PagedDisk, here_pages}
use Rattle.image_depot.specs.Receiver.{HasAbsent, IsOfImage}
use Rattle.guest_mem.specs.Ram.{Ram}
use Rattle.forest_model.specs.State.{State}
use Rattle.forest_model.specs.Machine.{Machine}
use Rattle.forest_model.specs.Paged.{Pages, Paged, pages_arrived}

pub record KeyedState : Type 0 where
  -- RAM reads as it would with every page here
  pub state : State
  pub pages : Pages
  -- a machine that was booted has none
  pub key : Option Key

pub record KeyedMachine : Type 0 where
  pub machine : Machine
  pub pages : Pages
  pub key : Option Key

-- the machine of a hart that has made so many steps, of so many
abbrev pub machine_of : KeyedState → ℕ → ℕ → Option Ending → KeyedMachine
machine_of h steps limit ending = record {
  machine = record { state = h.state; steps = steps; limit = limit; ending = ending };
  pages = h.pages;
  key = h.key;
}

-- the hart of a machine
abbrev pub hart_in : KeyedMachine → KeyedState
hart_in v = record { state = v.machine.state; pages = v.pages; key = v.key }

-- the pages of RAM, and behind them those of the disk
abbrev pub pages_of : Ram → PagedDisk → Pages
pages_of ram disk = record { here = ram.here ++ here_pages disk; blank = ram.blank }

-- the machine and its pages, without the key
abbrev pub paged : KeyedMachine → Paged
paged v = record { machine = v.machine; pages = v.pages }

abbrev pub keyed : Option Key → Paged → KeyedMachine
keyed key p = record { machine = p.machine; pages = p.pages; key = key }

-- the key is one to an image of this depot
abbrev pub IsOfDepot : Shelves → Option Key → Type 0
IsOfDepot depot key = ForSome key (IsKeyOf depot)

-- the image of the key has the absent pages; where there is no key, none is absent
abbrev pub HasImage : Option Key → Pages → Type 0
HasImage key pages = HasAbsent key pages.here

abbrev pub IsHere : Pages → ℕ → Type 0
IsHere pages page = slice_get pages.here page ≡ Some true

abbrev pub IsAbsent : Pages → ℕ → Type 0
IsAbsent pages page = slice_get pages.here page ≡ Some false

-- a page is got just where it is absent and the reply carries it; else it is had, and nothing changes
abbrev pub Arrives : Option Key → Pages → Reply → Pages → Arrived → Type 0
Arrives key old reply new (Got page) = (page ≡ reply.page) × IsOfImage key reply × IsAbsent old page × (new ≡ pages_arrived page old)
Arrives key old reply new (Had page) = (page ≡ reply.page) × (new ≡ old) × (IsOfImage key reply → IsHere old page)
