-- A machine on lease.
use Rattle.std.specs.Prelude.{◌≡◌, ℕ, ◌+◌, Option, None}
use Rattle.forest_tree.specs.Tree.{Path}
use Rattle.forest_model.specs.Machine.{Machine, after_steps}
use Rattle.image_depot.specs.Key.{Key}
use Rattle.forest_model.specs.Paged.{Pages, Paged, advanced_by}
use Rattle.ready_queue.specs.Ready.{Ready}
use Rattle.vm_cell.specs.Keyed.{KeyedMachine, paged}
use Rattle.world_core.specs.Kin.{IsKin}

pub record Lent : Type 0 where
  pub name : Path
  -- the machine when it was taken
  pub start : Machine
  -- the steps that it has made since
  pub ran : ℕ
  pub now : Machine
  -- what is known of its pages now. What was known when it was taken is not kept: a page may come at any time
  pub pages : Pages
  -- the key to the image that has those that are absent
  pub key : Option Key

-- the machine as the code has it
abbrev pub vm_of : Lent → KeyedMachine
vm_of lease = record { machine = lease.now; pages = lease.pages; key = lease.key }

-- the machine as it stands, with what is known of its pages
abbrev pub now_of : Lent → Paged
now_of lease = paged (vm_of lease)

-- a lease of this machine
abbrev pub lent_as : Path → Machine → ℕ → KeyedMachine → Lent
lent_as name start ran vm = record { name = name; start = start; ran = ran; now = vm.machine; pages = vm.pages; key = vm.key }

-- what holds of every lease: the machine has made these steps, all of them its own
pub record IsLent (start : Machine) (ran : ℕ) (now : Machine) : Type 0 where
  pub after : now ≡ after_steps ran start
  pub each_made : now.steps ≡ start.steps + ran

-- from something that was known of the machine's pages when it was taken, its steps led to what is known of them now
abbrev pub HasLed : Lent → Type 0
HasLed lease = (pages : Pages) × ((advanced_by lease.ran (record { machine = lease.start; pages = pages })).pages ≡ lease.pages)

-- a lease has its machine's own turn, the name of its parent, and the steps since it was taken
pub record IsLease (turn : Ready) (parent : Option Path) (start : Machine) (ran : ℕ) (vm : KeyedMachine) : Type 0 where
  pub own : turn.children ≡ None
  pub kin : IsKin parent turn.name
  pub made : IsLent start ran vm.machine
  pub led : HasLed (lent_as turn.name start ran vm)

-- the machine of the lease is the one that was taken, and has the same image
pub record IsSameLease (old new : Lent) : Type 0 where
  pub name : new.name ≡ old.name
  pub start : new.start ≡ old.start
  pub key : new.key ≡ old.key
