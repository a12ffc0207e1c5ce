-- Where in RAM an access is.
use Rattle.std.specs.Prelude.{◌≡◌, ℕ, ◌-◌, ◌/◌, ◌<◌, ◌≤◌, true, length, Result, Ok, Err}
use Rattle.elf_load.specs.declared.image.TheConstants.{RAM_BASE}
use Rattle.page_frames.specs.declared.page.TheConstants.{PAGE_SIZE}
use Rattle.forest_model.specs.declared.access.Access.{Access}
use Rattle.forest_model.specs.Access.{is_aligned_for, is_allowed}
use Rattle.forest_model.specs.State.{is_in_ram}
use Rattle.vm_hart.specs.Acts.{IsAlignedAt, Reaches}
use Rattle.vm_hart.specs.Keyed.{KeyedState}
use Rattle.vm_hart.specs.declared.hart.access.Reach.{Reach}

-- an access that is aligned and allowed, and of RAM from this offset on, whether its page is here or not
pub record IsPlaced (h : KeyedState) (a : Access) (offset : ℕ) : Type 0 where
  pub aligned : is_aligned_for a.direction a.address a.width ≡ true
  pub allowed : is_allowed a h.state ≡ true
  pub in_ram : is_in_ram h.state.ram a.address ≡ true
  pub from_base : RAM_BASE ≤ a.address
  pub place : offset ≡ a.address - RAM_BASE
  pub inside : offset < length h.state.ram
  pub page : offset / PAGE_SIZE < length h.pages.blank
  pub aligned_offset : IsAlignedAt a.direction offset a.width

-- the answer tells the offset in RAM of an access that is aligned and allowed, or what another comes to
abbrev pub Places : KeyedState → Access → Result ℕ Reach → Type 0
Places h a (Ok offset) = IsPlaced h a offset
Places h a (Err refused) = Reaches h a refused
