-- What a machine leaves for its children wakes as they are.
use Rattle.std.proofs.Common.{◌≡◌, ℕ, ◌+◌, ◌/◌, ◌≤◌, ◌<◌, Bool, true, false, cond, eqb, List, ◌∷◌, length, drop, Option, Some, None, refl, sym, ap, ◌∙◌, subst, arith}
use Rattle.std.proofs.lemmas.Bool.Decides.{nat_tests}
use Rattle.page_frames.specs.declared.page.TheConstants.{PAGE_SIZE}
use Rattle.fork_port.specs.declared.commands.Call.TheVariants.{Clone}
use Rattle.fork_port.specs.declared.tickets.Ticket.{Ticket}
use Rattle.fork_port.specs.declared.ending.Ending.{Ending}
use Rattle.fork_port.specs.declared.ending.Ending.TheVariants.{Limit}
use Rattle.fork_port.specs.Registers.{ForkRegisters, registers_of, ticket_found}
use Rattle.fork_port.specs.Children.{after_clone}
use Rattle.port_rules.specs.Rules.{grant_of}
use Rattle.vm_descriptor.specs.declared.descriptor.Descriptor.{Descriptor}
use Rattle.vm_descriptor.specs.declared.descriptor.TheConstants.{MAX_CLONES, MAX_SHARE}
use Rattle.vm_descriptor.specs.Descriptor.{IsInRange, numbered}
use Rattle.image_depot.specs.Image.{FrozenImage}
use Rattle.image_depot.specs.Key.{Key, number_of, image_of}
use Rattle.guest_mem.specs.Ram.{cleared}
use Rattle.forest_model.specs.State.{State}
use Rattle.forest_model.specs.Machine.{Machine, limited}
use Rattle.forest_model.specs.Calls.{born, child, child_by, children_of, share_of}
use Rattle.forest_model.specs.Forest.{machines}
use Rattle.forest_model.specs.Paged.{pages_at_birth}
use Rattle.vm_hart.specs.Calls.{made}
use Rattle.vm_cell.specs.Standing.{IsAsked}
use Rattle.vm_hart.specs.Keyed.{KeyedMachine}
use Rattle.vm_cell.specs.Steps.{IsCounted, IsFunded}
use Rattle.vm_hart.specs.Seeds.{IsBlankMap, image_left, port_fields, seed_of}
use Rattle.vm_cell.specs.Woken.{IsSeed, woken, woken_machine, woken_pages}

-- ---- the hart of a clone

-- a descriptor that is not at its limit lets a step be made
unlimited : (at_limit : Bool) (steps limit : ℕ) (ending : Option Ending) → eqb steps limit ≡ at_limit → steps ≤ limit
    → ending ≡ cond at_limit (Some Limit) None → ending ≡ None → steps < limit
unlimited true steps limit ending e within ends none = absurd (cc)
unlimited false steps limit ending e within ends none = grind (arith, nat_tests)

-- the counts of a clone, which has no ticket yet
pub counted_woken : (d : Descriptor) (ending : Option Ending) (fork : ForkRegisters) → IsInRange d → ending ≡ cond (eqb d.steps d.limit) (Some Limit) None
    → fork ≡ registers_of (port_fields d).fork → IsCounted d.steps d.limit ending fork
counted_woken d ending fork in_range ends is =
    let share : d.share ≤ MAX_SHARE = in_range.clone.share in
    let next : fork.next_ticket ≡ 1 = ap (λ (f : ForkRegisters). f.next_ticket) is in
    record {
      within = in_range.limit.steps;
      live = unlimited (eqb d.steps d.limit) d.steps d.limit ending refl in_range.limit.steps ends;
      most = in_range.limit.most;
      tickets = omega (arith, next);
      funded = subst IsFunded (sym is) (record {
        accounted = record { balanced = record { kept = omega arith; fits = omega (arith, share); below = tt; for_children = tt }; rising = tt };
        most = omega (arith, share);
      });
    }

-- ---- a seed

shared : (found : Option Ticket) → (grant_of found).share ≡ share_of found
shared None = refl
shared (Some ticket) = refl

granted_share : (m : Machine) (t : ℕ) → (machines.grant m t).share ≡ share_of (ticket_found m.state.ports.fork t)
unfolding machines
granted_share m t = shared (ticket_found m.state.ports.fork t)

counted_children : (found : Option Ticket) → (grant_of found).children ≡ children_of found
counted_children None = refl
counted_children (Some ticket) = refl

granted_children : (m : Machine) (t : ℕ) → (machines.grant m t).children ≡ children_of (ticket_found m.state.ports.fork t)
unfolding machines
granted_children m t = counted_children (ticket_found m.state.ports.fork t)

module _ (v : KeyedMachine) (t k : ℕ) (asked : IsAsked v.machine (Clone t)) where
  abbrev m : Machine
  m = v.machine

  abbrev parent : State
  parent = made (after_clone m.state.ports.fork t) m.state

  -- the child with other registers, RAM, share and number of siblings
  abbrev as_child : List ℕ → List ℕ → ℕ → ℕ → Machine
  as_child registers ram share children =
      record (limited parent m) { state = record (born k children share parent) { registers = registers; ram = ram } }

  child_made : child m k ≡ as_child m.state.registers m.state.ram (share_of (ticket_found m.state.ports.fork t)) (children_of (ticket_found m.state.ports.fork t))
  unfolding child
  child_made = ap (λ a. child_by a m k) asked.is

  wakes : (image share : ℕ) (blank : List Bool) → 0 ∷ drop 1 m.state.registers ≡ m.state.registers → cleared blank m.state.ram ≡ m.state.ram
      → share ≡ (machines.grant m t).share
      → woken_machine (seed_of (made m.state.ports.fork m.state) image k share (m.steps + 1) m.limit blank) (machines.grant m t).children (image_left m.state) ≡ child m k
  wakes image share blank zero clear same =
      ap (λ registers. as_child registers (cleared blank m.state.ram) share (machines.grant m t).children) zero
      ∙ ap (λ ram. as_child m.state.registers ram share (machines.grant m t).children) clear
      ∙ ap (λ part. as_child m.state.registers m.state.ram part (machines.grant m t).children) (same ∙ granted_share m t)
      ∙ ap (as_child m.state.registers m.state.ram (share_of (ticket_found m.state.ports.fork t))) (granted_children m t)
      ∙ sym child_made

  abbrev seeded : ℕ → ℕ → Descriptor
  seeded image share = seed_of (made m.state.ports.fork m.state) image k share (m.steps + 1) m.limit v.pages.blank

  pub is_seed : (key : Key) (image share : ℕ) (seed : Descriptor) → image_of key ≡ image_left m.state → image ≡ number_of key
      → share ≡ (machines.grant m t).share → 0 ∷ drop 1 m.state.registers ≡ m.state.registers
      → seed ≡ seeded image share → IsBlankMap m.state.ram v.pages.blank → IsInRange seed → IsSeed v k (machines.grant m t).children key seed
  unfolding woken
  is_seed key image share seed left number same zero is blank in_range = record {
    of_image = record {
      in_range = in_range;
      number = ap (λ (d : Descriptor). d.image) is ∙ number;
      pages = ap (λ (d : Descriptor). d.pages) is ∙ ap (λ (i : FrozenImage). length i.contents / PAGE_SIZE) (sym left);
    };
    wakes = ap (λ d. woken d (machines.grant m t).children key) is
        ∙ ap (λ (i : FrozenImage). record { machine = woken_machine (seeded image share) (machines.grant m t).children i; pages = woken_pages (seeded image share) i; key = Some key }) left
        ∙ ap (λ machine. record { machine = machine; pages = pages_at_birth m.state.ports.block.disk v.pages; key = Some key })
        (wakes image share v.pages.blank zero blank.zero same);
  }

-- ---- the same by its number

pub in_range_numbered : (k : ℕ) (d : Descriptor) → 1 ≤ k → k ≤ MAX_CLONES → IsInRange d → IsInRange (numbered k d)
in_range_numbered k d first last h = record {
  ram = record { least = h.ram.least; most = h.ram.most; one_bit_a_page = h.ram.one_bit_a_page };
  clone = record { first = first; last = last; share = h.clone.share };
  pc = h.pc;
  csrs = h.csrs;
  limit = record { least = h.limit.least; most = h.limit.most; steps = h.limit.steps };
  reservation = h.reservation;
  place = h.place;
}
