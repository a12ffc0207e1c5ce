-- The pages that a step touches: they are few, of RAM or of the disk, and RAM changes nowhere else.
use Rattle.std.proofs.Common.{◌≡◌, ◌≢◌, ℕ, ◌+◌, ◌-◌, ◌*◌, ◌/◌, ◌%◌, ◌<◌, ◌≤◌, ◌⊎◌, inl, inr, Bool, true, false, eqb, ltb, leb, ◌&&◌}
use Rattle.std.proofs.Common.{List, [], ◌∷◌, ◌++◌, length, get_or, Option, Some, None, IsSome, refl, sym, ap, ◌∙◌, subst, cond, arith}
use Rattle.std.specs.Option.{IfSome}
use Rattle.std.specs.Int.{to_le_bytes, w32}
use Rattle.std.specs.List.{All, AllPairs, Contains}
use Rattle.std.proofs.lemmas.Bool.{and_parts, eqb-true}
use Rattle.std.proofs.lemmas.Bool.Decides.{nat_tests}
use Rattle.std.proofs.lemmas.List.Elements.{All-nil, All-cons, All-weaker, Contains-append_right}
use Rattle.elf_load.specs.declared.image.TheConstants.{RAM_BASE}
use Rattle.page_frames.specs.declared.page.TheConstants.{PAGE_SIZE}
use Rattle.flat_memory.specs.Flat.{put_bytes}
use Rattle.flat_memory.proofs.Bytes.{get_or-put_bytes_outside}
use Rattle.rv_decode.specs.Instruction.{Instruction}
use Rattle.rv_decode.specs.Table.{decoded}
use Rattle.rv_decode.specs.declared.kinds.Kind.{Kind}
use Rattle.rv_decode.specs.declared.kinds.Kind.TheVariants.{Sb, Sh, Sw}
use Rattle.rv_decode.specs.declared.kinds.Group.{Group}
use Rattle.rv_decode.specs.declared.kinds.Group.TheVariants.{LoadUpper, AddUpper, Jump, JumpRegister, Branch, Load, Store}
use Rattle.rv_decode.specs.declared.kinds.Group.TheVariants.{ComputeImmediate, Compute, Nothing, EnvironmentCall, Breakpoint}
use Rattle.rv_decode.specs.declared.kinds.Group.TheVariants.{TrapReturn, Csr, LoadReserved, StoreConditional, Amo}
use Rattle.rv_decode.specs.Kinds.{group_of}
use Rattle.rv_exec.specs.Memory.{IsWidth, load_width, store_bytes, store_width}
use Rattle.fork_port.specs.declared.ending.Ending.{Ending}
use Rattle.fork_port.specs.declared.commands.Effect.{Effect}
use Rattle.fork_port.specs.declared.commands.Effect.TheVariants.{Done, TimeWritten, Exit, ExitWith, Call, Talk, Zero}
use Rattle.cow_disk.specs.Disk.{sector_count}
use Rattle.cow_disk.specs.Paged.{disk_pages, page_of_sector}
use Rattle.block_port.specs.Block.{BlockRegisters, is_sector_command}
use Rattle.port_map.specs.declared.Place.{Place}
use Rattle.port_map.specs.declared.Place.TheVariants.{Block as at_block, Fork as at_fork, Sibling as at_sibling}
use Rattle.port_map.specs.Bus.{Read, Stored, disk_page_at, place_of, port_load, port_store, store_at}
use Rattle.port_map.proofs.Quiet.{IsQuiet, StoresQuietly, by-quiet, stores-quietly}
use Rattle.forest_model.specs.declared.access.Access.{Access}
use Rattle.forest_model.specs.declared.access.Direction.{Direction}
use Rattle.forest_model.specs.declared.access.Direction.TheVariants as access
use Rattle.forest_model.specs.Footprint.{Footprint, code_and_data, each_once}
use Rattle.forest_model.specs.State.{State, is_timer_due, at_next_instruction}
use Rattle.forest_model.specs.Action.{Action, trap, interrupt, retire, exit, ask, speak, rs1, rs2}
use Rattle.forest_model.specs.Compute.{load_upper, add_upper, compute_immediate, compute}
use Rattle.forest_model.specs.Control.{aligned_jump, jump, jump_register, branch_by, branch, relative, linked}
use Rattle.forest_model.specs.Access.{Reached, faulted, of_ram, of_port, uses, is_made, is_aligned, right_for, reached, page_of, fetch_access}
use Rattle.forest_model.specs.Memory.{data_address, read_action, load_by, load_access, load, is_page_range, zeroed, zeroing}
use Rattle.forest_model.specs.Memory.{is_byte_range, handing_over, needs_at, outcome, page_on_disk, pages_on_disk, stored_outcome}
use Rattle.forest_model.specs.Memory.{store_by, to_store, store_access, store_action, stored_bytes, store}
use Rattle.forest_model.specs.Atomic.{is_reserved, reserve_by, reserve_access, load_reserved, conditional_action, conditional_by, conditional_access, store_conditional, amo_by, amo_access, amo}
use Rattle.guest_pmp.specs.declared.access.Access.TheVariants as right
use Rattle.rv_traps.specs.Protection.{allows}
use Rattle.rv_traps.specs.Trap.{mret, takes_interrupt}
use Rattle.rv_traps.proofs.Protection.{allows-alike, allows-store}
use Rattle.rv_traps.specs.declared.registers.CsrRegisters.{CsrRegisters}
use Rattle.forest_model.specs.System.{operation_of, reads, writes, written_action, write_action, old_action, old_value, csr_access, returned_action, trap_return}
use Rattle.forest_model.specs.Execute.{action, action_by, execute_group, execute, decoded_action, fetched, fetch_action}
use Rattle.forest_model.specs.Machine.{Machine, advance, advance_from, applied}
use Rattle.forest_model.specs.Touch.{footprint_in, footprint_at_port, footprint_reached, data_footprint, access_by, access_of, footprint_of}
use Rattle.forest_model.specs.Touch.{footprint_at, footprint_step, footprint_from, footprint, touch, IsZeroedBy, IsZeroed}
use Rattle.forest_model.specs.Paged.{Pages, AreFlagged, IsPageOf}
use Rattle.forest_model.proofs.Accesses.{of_ram-is, page_of-begins, begins-for}
use Rattle.forest_model.proofs.Finish.{IsSome-ended}
use Rattle.forest_model.proofs.HandedOver.{from-base}
use Rattle.forest_model.proofs.Once.{All-each_once, once-each_once, length-each_once, Contains-later, Contains-each_once}
use Rattle.forest_model.proofs.Zero.{zeroed-leaves}

-- ---- the pages that a step touches

-- the pages of data begin in RAM, and there are two at most
record AreData (ram : List ℕ) (pages : List ℕ) : Type 0 where
  begin : All (λ page. PAGE_SIZE * page < length ram) pages
  few : length pages ≤ 2

AreData-none : (ram : List ℕ) → AreData ram []
AreData-none ram = record { begin = All-nil (λ page. PAGE_SIZE * page < length ram); few = omega arith }

AreData-in : (direction : Direction) (ram : List ℕ) (page : Option ℕ) → IfSome page (λ p. PAGE_SIZE * p < length ram)
    → AreData ram (footprint_in direction page).needs
AreData-in direction ram None begins = AreData-none ram
AreData-in direction ram (Some page) begins = record {
  begin = All-cons (λ p. PAGE_SIZE * p < length ram) page [] begins (All-nil (λ p. PAGE_SIZE * p < length ram));
  few = omega arith;
}

-- bytes that are handed over need the pages of the first and of the last of them
begins-at : (address size : ℕ) → RAM_BASE ≤ address → address < RAM_BASE + size → PAGE_SIZE * page_of address < size
begins-at address size from below = omega arith

AreData-bytes : (none : Bool) (address count : ℕ) (ram : List ℕ) → eqb count 0 ≡ none → is_byte_range address count ram ≡ true
    → AreData ram (cond none [] (page_of address ∷ page_of (address + (count - 1)) ∷ []))
AreData-bytes true address count ram e in_range = AreData-none ram
AreData-bytes false address count ram e in_range =
    let both = from-base address count (length ram) e in_range in
    let from : RAM_BASE ≤ address = both.0 in
    let within : address + count ≤ RAM_BASE + length ram = both.1 in
    let some : 0 < count = grind (arith, nat_tests) in
    let begins : ℕ → Type 0 = λ p. PAGE_SIZE * p < length ram in
    record {
      begin = All-cons begins (page_of address) (page_of (address + (count - 1)) ∷ []) (begins-at address (length ram) from (omega arith))
          (All-cons begins (page_of (address + (count - 1))) [] (begins-at (address + (count - 1)) (length ram) (omega arith) (omega arith)) (All-nil begins));
      few = omega arith;
    }

AreData-handing_over : (in_range : Bool) (value address count : ℕ) (s : State) → is_byte_range address count s.ram ≡ in_range
    → AreData s.ram (handing_over in_range value address count s).footprint.needs
AreData-handing_over false value address count s e = AreData-none s.ram
AreData-handing_over true value address count s e = AreData-bytes (eqb count 0) address count s.ram refl e

-- no other effect of a store to a port needs a page
AreData-outcome : (effect : Effect) (s : State) → AreData s.ram (outcome effect s).footprint.needs
AreData-outcome Done s = AreData-none s.ram
AreData-outcome TimeWritten s = AreData-none s.ram
AreData-outcome (Exit value) s = AreData-none s.ram
AreData-outcome (ExitWith value address count) s = AreData-handing_over (is_byte_range address count s.ram) value address count s refl
AreData-outcome (Call call) s = AreData-none s.ram
AreData-outcome (Talk t) s = AreData-none s.ram
AreData-outcome (Zero first count) s = AreData-none s.ram

AreData-stored : (answer : Option Stored) (address : ℕ) (s : State) → AreData s.ram (stored_outcome answer address s).footprint.needs
AreData-stored None address s = AreData-none s.ram
AreData-stored (Some stored) address s = AreData-outcome stored.effect (at_next_instruction (record s { ports = stored.ports }))

-- ---- those of the disk, too

-- the pages of data are of RAM or of the disk, and there are two at most
record AreNeeded (s : State) (pages : List ℕ) : Type 0 where
  each : All (IsPageOf s) pages
  few : length pages ≤ 2

AreNeeded-none : (s : State) → AreNeeded s []
AreNeeded-none s = record { each = All-nil (IsPageOf s); few = omega arith }

AreNeeded-data : (s : State) (pages : List ℕ) → AreData s.ram pages → AreNeeded s pages
AreNeeded-data s pages are = record {
  each = All-weaker (λ page. PAGE_SIZE * page < length s.ram) (IsPageOf s) (λ page begins. inl begins) pages are.begin;
  few = are.few;
}

-- a command of the block port needs the page of a sector that is there
sector-page : (b : BlockRegisters) (offset width word : ℕ) (asks : Bool) → is_sector_command offset width word && ltb b.sector (sector_count b.disk) ≡ asks
    → IfSome (cond asks (Some (page_of_sector b.sector)) None) (λ q. q < disk_pages b.disk)
sector-page b offset width word true e =
    let there : ltb b.sector (sector_count b.disk) ≡ true = (and_parts (is_sector_command offset width word) (ltb b.sector (sector_count b.disk)) e).1 in
    let below : b.sector < sector_count b.disk = grind (arith, nat_tests) in
    omega (arith, below)
sector-page b offset width word false e = tt

AreNeeded-page : (s : State) (page : Option ℕ) → IfSome page (λ q. q < disk_pages s.ports.block.disk) → AreNeeded s (pages_on_disk s page ++ [])
AreNeeded-page s None there = AreNeeded-none s
AreNeeded-page s (Some q) there = record {
  each = All-cons (IsPageOf s) (page_on_disk s q) [] (inr (q, there, refl)) (All-nil (IsPageOf s));
  few = omega arith;
}

-- so a port other than the fork port and the sibling port needs no other
needs-quiet : (e : Effect) (s : State) → IsQuiet e → (outcome e s).footprint.needs ≡ []
needs-quiet e s quiet = by-quiet (λ e. (outcome e s).footprint.needs ≡ []) refl refl e quiet

AreNeeded-quiet : (stored : Option Stored) (page : Option ℕ) (address : ℕ) (s : State) → IfSome page (λ q. q < disk_pages s.ports.block.disk)
    → IfSome stored (StoresQuietly s.ports) → AreNeeded s (pages_on_disk s page ++ (stored_outcome stored address s).footprint.needs)
AreNeeded-quiet None page address s there quiet = AreNeeded-page s page there
AreNeeded-quiet (Some stored) page address s there quiet =
    subst (λ needs. AreNeeded s (pages_on_disk s page ++ needs))
    (sym (needs-quiet stored.effect (at_next_instruction (record s { ports = stored.ports })) quiet.quiet)) (AreNeeded-page s page there)

page-there : (place : Place) (width word : ℕ) (s : State) → IfSome (disk_page_at place s.ports width word) (λ q. q < disk_pages s.ports.block.disk)
page-there (at_block offset) width word s =
    sector-page s.ports.block offset width word (is_sector_command offset width word && ltb s.ports.block.sector (sector_count s.ports.block.disk)) refl
page-there _ width word s = tt

AreNeeded-place : (place : Place) (address width word : ℕ) (s : State)
    → AreNeeded s (needs_at place width word s ++ (stored_outcome (store_at place s.ports width word) address s).footprint.needs)
AreNeeded-place (at_fork offset) address width word s =
    AreNeeded-data s (stored_outcome (store_at (at_fork offset) s.ports width word) address s).footprint.needs (AreData-stored (store_at (at_fork offset) s.ports width word) address s)
AreNeeded-place (at_sibling offset) address width word s =
    AreNeeded-data s (stored_outcome (store_at (at_sibling offset) s.ports width word) address s).footprint.needs (AreData-stored (store_at (at_sibling offset) s.ports width word) address s)
AreNeeded-place place address width word s =
    AreNeeded-quiet (store_at place s.ports width word) (disk_page_at place s.ports width word) address s (page-there place width word s)
    (stores-quietly place tt s.ports width word)

AreNeeded-port : (writes : Bool) (a : Access) (word : ℕ) (s : State) → AreNeeded s (footprint_at_port writes a word s).needs
unfolding port_store
AreNeeded-port false a word s = AreNeeded-none s
AreNeeded-port true a word s = AreNeeded-place (place_of a.address) a.address a.width word s

AreNeeded-reached : (r : Reached) (a : Access) (word : ℕ) (s : State) → reached a s ≡ r → AreNeeded s (footprint_reached r a word s).needs
AreNeeded-reached (faulted cause) a word s e = AreNeeded-none s
AreNeeded-reached (of_ram page) a word s e = AreNeeded-data s (footprint_in a.direction page).needs (AreData-in a.direction s.ram page (begins-for a s page e))
AreNeeded-reached of_port a word s e = AreNeeded-port (uses a.direction).writes a word s

AreNeeded-asked : (asked : Option Access) (word : ℕ) (s : State) → AreNeeded s (data_footprint asked word s).needs
AreNeeded-asked None word s = AreNeeded-none s
AreNeeded-asked (Some a) word s = AreNeeded-reached (reached a s) a word s refl

AreNeeded-of : (i : Option Instruction) (s : State) → AreNeeded s (footprint_of i s).needs
AreNeeded-of None s = AreNeeded-none s
AreNeeded-of (Some i) s = AreNeeded-asked (access_of i s) (rs2 i s) s

-- the pages listed are of RAM or of the disk, are at most three, and differ
pub record IsPages (s : State) (listed : List ℕ) : Type 0 where
  pub each : All (IsPageOf s) listed
  pub at_most_three : length listed ≤ 3
  pub none_twice : AllPairs (λ one other. one ≢ other) listed

IsPages-nil : (s : State) → IsPages s []
IsPages-nil s = record {
  each = All-nil (IsPageOf s);
  at_most_three = omega arith;
  none_twice = λ i j d before within. absurd (omega arith);
}

IsPages-both : (s : State) (code : ℕ) (pages : List ℕ) → PAGE_SIZE * code < length s.ram → AreNeeded s pages → IsPages s (code_and_data code pages)
IsPages-both s code pages begins needed = record {
  each = All-each_once (IsPageOf s) (code ∷ pages) (All-cons (IsPageOf s) code pages (inl begins) needed.each);
  at_most_three = let fewer = length-each_once (code ∷ pages) in let few : length pages ≤ 2 = needed.few in omega (arith, fewer, few);
  none_twice = once-each_once (code ∷ pages);
}

IsPages-at : (r : Reached) (s : State) → reached (fetch_access s) s ≡ r → IsPages s (footprint_at r s).needs
IsPages-at (faulted cause) s e = IsPages-nil s
IsPages-at (of_ram page) s e =
    IsPages-both s (page_of s.pc) (footprint_of (decoded (fetched s)) s).needs
    (page_of-begins s.ram s.pc (of_ram-is (fetch_access s) s page e).in_ram) (AreNeeded-of (decoded (fetched s)) s)
IsPages-at of_port s e = IsPages-nil s

IsPages-step : (taken : Bool) (s : State) → IsPages s (footprint_step taken s).needs
IsPages-step true s = IsPages-nil s
IsPages-step false s = IsPages-at (reached (fetch_access s) s) s refl

IsPages-from : (ending : Option Ending) (s : State) → IsPages s (footprint_from ending s).needs
IsPages-from None s = IsPages-step (takes_interrupt s.csrs (is_timer_due s)) s
IsPages-from (Some ending) s = IsPages-nil s

pub IsPages-touch : (m : Machine) → IsPages m.state (touch m)
unfolding footprint
IsPages-touch m = IsPages-from m.ending m.state

-- of a machine with a flag for each page there is one for each of these
pub flagged-page : (s : State) (pages : Pages) → AreFlagged s pages → (page : ℕ) → IsPageOf s page → page < length pages.here
flagged-page s pages flags page (inl begins) = omega (arith, begins, flags.whole, flags.here)
flagged-page s pages flags page (inr on_disk) = omega (arith, on_disk.1, on_disk.2, flags.whole, flags.here)

pub touch-IsSome : (m : Machine) → IsSome m.ending → touch m ≡ []
unfolding footprint
touch-IsSome m h = let e = IsSome-ended m.ending h in ap (λ ending. (footprint_from ending m.state).needs) e.1

-- an interrupt touches none
interrupt-from : (ending : Option Ending) (s : State) → takes_interrupt s.csrs (is_timer_due s) ≡ true → (footprint_from ending s).needs ≡ []
interrupt-from None s h = ap (λ taken. (footprint_step taken s).needs) h
interrupt-from (Some ending) s h = refl

pub touch-interrupt : (m : Machine) → takes_interrupt m.state.csrs (is_timer_due m.state) ≡ true → touch m ≡ []
unfolding footprint
touch-interrupt m h = interrupt-from m.ending m.state h

-- ---- the bytes that a step leaves

-- RAM after an action. A call and a talk wait
abbrev ram_after : Action → State → List ℕ
ram_after (trap cause value) s = s.ram
ram_after interrupt s = s.ram
ram_after (retire written new) s = new.ram
ram_after (exit value bytes new) s = new.ram
ram_after (ask c new) s = s.ram
ram_after (speak t new) s = s.ram

-- the action leaves the byte at `at`
abbrev Leaves : ℕ → State → Action → Type 0
Leaves at s action = get_or (ram_after action s) at 0 ≡ get_or s.ram at 0

-- a page other than that of an aligned store has none of its bytes
outside : (width at address : ℕ) → IsWidth width → address % width ≡ 0 → RAM_BASE ≤ address → at / PAGE_SIZE ≢ page_of address
    → (at < address - RAM_BASE) ⊎ (address - RAM_BASE + width ≤ at)
outside width at address (inl one) aligned from_base other = grind arith
outside width at address (inr (inl two)) aligned from_base other =
    let by_two : address % 2 ≡ 0 = subst (λ w. address % w ≡ 0) two aligned in
    grind arith
outside width at address (inr (inr four)) aligned from_base other =
    let by_four : address % 4 ≡ 0 = subst (λ w. address % w ≡ 0) four aligned in
    grind arith

-- the bytes of an aligned access are of one word
same-word : (width at address : ℕ) → IsWidth width → address % width ≡ 0 → RAM_BASE ≤ address → address - RAM_BASE ≤ at
    → at < address - RAM_BASE + width → (RAM_BASE + at) / 4 ≡ address / 4
same-word width at address (inl one) aligned from_base behind before = grind arith
same-word width at address (inr (inl two)) aligned from_base behind before =
    let by_two : address % 2 ≡ 0 = subst (λ w. address % w ≡ 0) two aligned in
    grind arith
same-word width at address (inr (inr four)) aligned from_base behind before =
    let by_four : address % 4 ≡ 0 = subst (λ w. address % w ≡ 0) four aligned in
    grind arith

-- a byte that is denied to a store is none of those of a store that is allowed
module _ (c : CsrRegisters) (width at address : ℕ) (widths : IsWidth width) (aligned : address % width ≡ 0) (from_base : RAM_BASE ≤ address)
    (may : allows c right.Store address ≡ true) (denied : allows c right.Store (RAM_BASE + at) ≡ false) where
  apart-by : (before behind : Bool) → ltb at (address - RAM_BASE) ≡ before → leb (address - RAM_BASE + width) at ≡ behind
      → (at < address - RAM_BASE) ⊎ (address - RAM_BASE + width ≤ at)
  apart-by true behind e f = inl (grind (arith, nat_tests))
  apart-by false true e f = inr (grind (arith, nat_tests))
  apart-by false false e f =
      let one = same-word width at address widths aligned from_base (grind (arith, nat_tests)) (grind (arith, nat_tests)) in
      let both : false ≡ true = sym denied ∙ allows-alike c right.Store (RAM_BASE + at) address one ∙ may in
      absurd (cc)

  apart-denied : (at < address - RAM_BASE) ⊎ (address - RAM_BASE + width ≤ at)
  apart-denied = apart-by (ltb at (address - RAM_BASE)) (leb (address - RAM_BASE + width) at) refl refl

-- what writes asks for the right to store
store-allowed : (direction : Direction) (c : CsrRegisters) (address : ℕ) → (uses direction).writes ≡ true
    → allows c (right_for (uses direction)) address ≡ true → allows c right.Store address ≡ true
store-allowed access.Fetch c address writes allowed = absurd (cc)
store-allowed access.Load c address writes allowed = absurd (cc)
store-allowed access.Store c address writes allowed = allowed
store-allowed access.Reserve c address writes allowed = absurd (cc)
store-allowed (access.Conditional is_reserved) c address writes allowed = allowed
store-allowed access.Update c address writes allowed = allows-store c address allowed

-- The byte at `at` stays: it is of no page that is needed, or is denied to a store, and is not zeroed.
record IsSpared (s : State) (at : ℕ) (f : Footprint) : Type 0 where
  spared : (Contains f.needs (at / PAGE_SIZE) → ⊥) ⊎ (allows s.csrs right.Store (RAM_BASE + at) ≡ false)
  unzeroed : IsZeroedBy f.changes (at / PAGE_SIZE) → ⊥

Leaves-zeroed : (at : ℕ) (in_range : Bool) (first count : ℕ) (s : State) → is_page_range first count s.ram ≡ in_range
    → (IsZeroedBy (zeroing in_range first count s).footprint.changes (at / PAGE_SIZE) → ⊥)
    → get_or (zeroed in_range first count s).ram at 0 ≡ get_or s.ram at 0
Leaves-zeroed at false first count s e unzeroed = refl
Leaves-zeroed at true first count s e unzeroed = zeroed-leaves s first count at e unzeroed

Leaves-handing_over : (at : ℕ) (in_range : Bool) (value address count : ℕ) (new s : State) → new.ram ≡ s.ram
    → Leaves at s (handing_over in_range value address count new).action
Leaves-handing_over at false value address count new s e = ap (λ ram. get_or ram at 0) e
Leaves-handing_over at true value address count new s e = ap (λ ram. get_or ram at 0) e

Leaves-outcome : (at : ℕ) (effect : Effect) (new s : State) → new.ram ≡ s.ram → IsSpared s at (outcome effect new).footprint
    → Leaves at s (outcome effect new).action
Leaves-outcome at Done new s e aside = ap (λ ram. get_or ram at 0) e
Leaves-outcome at TimeWritten new s e aside = ap (λ ram. get_or ram at 0) e
Leaves-outcome at (Exit value) new s e aside = ap (λ ram. get_or ram at 0) e
Leaves-outcome at (ExitWith value address count) new s e aside =
    Leaves-handing_over at (is_byte_range address count new.ram) value address count new s e
Leaves-outcome at (Call call) new s e aside = refl
Leaves-outcome at (Talk t) new s e aside = refl
Leaves-outcome at (Zero first count) new s e aside =
    Leaves-zeroed at (is_page_range first count new.ram) first count new refl aside.unzeroed ∙ ap (λ ram. get_or ram at 0) e

Leaves-stored : (at : ℕ) (answer : Option Stored) (address : ℕ) (s : State) → IsSpared s at (stored_outcome answer address s).footprint
    → Leaves at s (stored_outcome answer address s).action
Leaves-stored at None address s aside = refl
Leaves-stored at (Some stored) address s aside =
    Leaves-outcome at stored.effect (at_next_instruction (record s { ports = stored.ports })) s refl aside

-- bytes that an aligned store puts into the page that it needs
Leaves-put : (at : ℕ) (a : Access) (page : ℕ) (bytes : List ℕ) (s : State) → reached a s ≡ of_ram (Some page) → is_made a.direction ≡ true
    → (uses a.direction).writes ≡ true → is_aligned a.address a.width ≡ true → length bytes ≡ a.width → IsWidth a.width
    → IsSpared s at (footprint_in a.direction (Some page))
    → get_or (put_bytes s.ram (a.address - RAM_BASE) bytes) at 0 ≡ get_or s.ram at 0
Leaves-put at a page bytes s e made writes aligned same widths aside =
    let is = of_ram-is a s (Some page) e in
    let page_is : Some page ≡ Some (page_of a.address) = is.needs ∙ ap (λ b. cond b (Some (page_of a.address)) None) made in
    let in_ram = is.in_ram in
    let from_base : RAM_BASE ≤ a.address = grind (arith, nat_tests) in
    let multiple : a.address % a.width ≡ 0 = eqb-true (a.address % a.width) 0 aligned in
    let apart : (at < a.address - RAM_BASE) ⊎ (a.address - RAM_BASE + a.width ≤ at) =
    elim aside.spared [
      | inl untouched ↦ outside a.width at a.address widths multiple from_base
          (subst (λ p. at / PAGE_SIZE ≢ p) (cc) (λ (same_page : at / PAGE_SIZE ≡ page). untouched (0, omega arith, sym same_page)))
      | inr denied ↦ apart-denied s.csrs a.width at a.address widths multiple from_base
          (store-allowed a.direction s.csrs a.address writes is.allowed) denied
    ] in
    get_or-put_bytes_outside s.ram bytes (a.address - RAM_BASE) at (grind (arith, nat_tests))
    (subst (λ n. (at < a.address - RAM_BASE) ⊎ (a.address - RAM_BASE + n ≤ at)) (sym same) apart)

none-needed : (a : Access) (s : State) {R : Type 0} → reached a s ≡ of_ram None → is_made a.direction ≡ true → R
none-needed a s e made =
    let is : None ≡ Some (page_of a.address) = (of_ram-is a s None e).needs ∙ ap (λ b. cond b (Some (page_of a.address)) None) made in
    absurd (cc)

Leaves-store_by : (at : ℕ) (r : Reached) (address width : ℕ) (bytes : List ℕ) (word : ℕ) (s : State) → reached (to_store address width) s ≡ r
    → length bytes ≡ width → IsWidth width → IsSpared s at (footprint_reached r (to_store address width) word s)
    → Leaves at s (store_by r address width bytes word s)
Leaves-store_by at (faulted cause) address width bytes word s e same widths aside = refl
Leaves-store_by at (of_ram None) address width bytes word s e same widths aside = none-needed (to_store address width) s e refl
Leaves-store_by at (of_ram (Some page)) address width bytes word s e same widths aside =
    Leaves-put at (to_store address width) page bytes s e refl refl (of_ram-is (to_store address width) s (Some page) e).aligned same widths aside
Leaves-store_by at of_port address width bytes word s e same widths aside =
    let stored = (stored_outcome (port_store s.ports address width word) address s).footprint in
    Leaves-stored at (port_store s.ports address width word) address s (record {
      spared = elim aside.spared [
        | inl untouched ↦ inl (λ listed. untouched (Contains-append_right (needs_at (place_of address) width word s) stored.needs (at / PAGE_SIZE) listed))
        | inr denied ↦ inr denied
      ];
      unzeroed = aside.unzeroed;
    })

-- no load changes RAM
Leaves-read_action : (at : ℕ) (answer : Option Read) (i : Instruction) (address : ℕ) (s : State) → Leaves at s (read_action answer i address s)
Leaves-read_action at None i address s = refl
Leaves-read_action at (Some read) i address s = refl

Leaves-load_by : (at : ℕ) (r : Reached) (i : Instruction) (address : ℕ) (s : State) → Leaves at s (load_by r i address s)
Leaves-load_by at (faulted cause) i address s = refl
Leaves-load_by at (of_ram page) i address s = refl
Leaves-load_by at of_port i address s = Leaves-read_action at (port_load s.ports address (load_width i.kind)) i address s

Leaves-aligned_jump : (at : ℕ) (aligned : Bool) (target : ℕ) (new s : State) → get_or new.ram at 0 ≡ get_or s.ram at 0 → Leaves at s (aligned_jump aligned target new)
Leaves-aligned_jump at false target new s e = refl
Leaves-aligned_jump at true target new s e = e

Leaves-branch_by : (at : ℕ) (taken : Bool) (i : Instruction) (s : State) → Leaves at s (branch_by taken i s)
Leaves-branch_by at false i s = refl
Leaves-branch_by at true i s = Leaves-aligned_jump at (eqb (relative i s % 4) 0) (relative i s) s s refl

Leaves-reserve_by : (at : ℕ) (r : Reached) (i : Instruction) (address : ℕ) (s : State) → Leaves at s (reserve_by r i address s)
Leaves-reserve_by at (faulted cause) i address s = refl
Leaves-reserve_by at (of_ram page) i address s = refl
Leaves-reserve_by at of_port i address s = refl

-- SC stores where its address is reserved
Leaves-conditional_action : (at : ℕ) (reserved : Bool) (page : Option ℕ) (i : Instruction) (s : State) → is_reserved s.reservation (rs1 i s) ≡ reserved
    → reached (conditional_access i s) s ≡ of_ram page → IsSpared s at (footprint_in (access.Conditional reserved) page)
    → Leaves at s (conditional_action reserved i (rs1 i s) s)
Leaves-conditional_action at false page i s is e aside = refl
Leaves-conditional_action at true None i s is e aside = none-needed (conditional_access i s) s e is
Leaves-conditional_action at true (Some page) i s is e aside =
    Leaves-put at (conditional_access i s) page (to_le_bytes w32 (rs2 i s)) s e is refl (of_ram-is (conditional_access i s) s (Some page) e).aligned refl
    (inr (inr refl)) (subst (λ b. IsSpared s at (footprint_in (access.Conditional b) (Some page))) (sym is) aside)

Leaves-conditional_by : (at : ℕ) (r : Reached) (i : Instruction) (s : State) → reached (conditional_access i s) s ≡ r
    → IsSpared s at (footprint_reached r (conditional_access i s) (rs2 i s) s) → Leaves at s (conditional_by r i (rs1 i s) s)
Leaves-conditional_by at (faulted cause) i s e aside = refl
Leaves-conditional_by at (of_ram page) i s e aside =
    Leaves-conditional_action at (is_reserved s.reservation (rs1 i s)) page i s refl e aside
Leaves-conditional_by at of_port i s e aside = refl

Leaves-amo_by : (at : ℕ) (r : Reached) (i : Instruction) (s : State) → reached (amo_access i s) s ≡ r
    → IsSpared s at (footprint_reached r (amo_access i s) (rs2 i s) s) → Leaves at s (amo_by r i (rs1 i s) s)
Leaves-amo_by at (faulted cause) i s e aside = refl
Leaves-amo_by at (of_ram None) i s e aside = none-needed (amo_access i s) s e refl
Leaves-amo_by at (of_ram (Some page)) i s e aside =
    Leaves-put at (amo_access i s) page (to_le_bytes w32 _) s e refl refl (of_ram-is (amo_access i s) s (Some page) e).aligned refl (inr (inr refl)) aside
Leaves-amo_by at of_port i s e aside = refl

pub store_widths : (kind : Kind) (value : ℕ) → group_of kind ≡ Store → (length (store_bytes kind value) ≡ store_width kind) × IsWidth (store_width kind)
unfolding group_of
store_widths Sb value h = (refl, inl refl)
store_widths Sh value h = (refl, inr (inl refl))
store_widths Sw value h = (refl, inr (inr refl))
store_widths _ value h = absurd (cc)

-- no access to a control and status register changes RAM
Leaves-written_action : (at : ℕ) (csrs : Option CsrRegisters) (old : ℕ) (i : Instruction) (word : ℕ) (s : State) → Leaves at s (written_action csrs old i word s)
Leaves-written_action at None old i word s = refl
Leaves-written_action at (Some csrs) old i word s = refl

Leaves-write_action : (at : ℕ) (writes : Bool) (old : ℕ) (i : Instruction) (word : ℕ) (s : State) → Leaves at s (write_action writes old i word s)
Leaves-write_action at false old i word s = refl
Leaves-write_action at true old i word s = Leaves-written_action at _ old i word s

Leaves-old_action : (at : ℕ) (old : Option ℕ) (i : Instruction) (word : ℕ) (s : State) → Leaves at s (old_action old i word s)
Leaves-old_action at None i word s = refl
Leaves-old_action at (Some old) i word s = Leaves-write_action at (writes (operation_of i.kind) i) old i word s

Leaves-returned : (at : ℕ) (csrs : Option CsrRegisters) (word : ℕ) (s : State) → Leaves at s (returned_action csrs word s)
Leaves-returned at None word s = refl
Leaves-returned at (Some csrs) word s = refl

Leaves-execute_group : (at : ℕ) (group : Group) (i : Instruction) (word : ℕ) (s : State) → group_of i.kind ≡ group
    → IsSpared s at (data_footprint (access_by group i s) (rs2 i s) s) → Leaves at s (execute_group group i word s)
unfolding load_upper add_upper compute_immediate compute jump jump_register branch load store store_action load_reserved store_conditional amo csr_access trap_return
Leaves-execute_group at LoadUpper i word s e aside = refl
Leaves-execute_group at AddUpper i word s e aside = refl
Leaves-execute_group at Jump i word s e aside = Leaves-aligned_jump at (eqb (relative i s % 4) 0) (relative i s) (linked i s) s refl
Leaves-execute_group at JumpRegister i word s e aside = Leaves-aligned_jump at _ _ (linked i s) s refl
Leaves-execute_group at Branch i word s e aside = Leaves-branch_by at _ i s
Leaves-execute_group at Load i word s e aside = Leaves-load_by at (reached (load_access i s) s) i (data_address i s) s
Leaves-execute_group at Store i word s e aside =
    let widths = store_widths i.kind (rs2 i s) e in
    Leaves-store_by at (reached (store_access i s) s) (data_address i s) (store_width i.kind) (stored_bytes i s) (rs2 i s) s refl
    widths.0 widths.1 aside
Leaves-execute_group at ComputeImmediate i word s e aside = refl
Leaves-execute_group at Compute i word s e aside = refl
Leaves-execute_group at Nothing i word s e aside = refl
Leaves-execute_group at EnvironmentCall i word s e aside = refl
Leaves-execute_group at Breakpoint i word s e aside = refl
Leaves-execute_group at TrapReturn i word s e aside = Leaves-returned at (mret s.csrs) word s
Leaves-execute_group at Csr i word s e aside = Leaves-old_action at (old_value (reads (operation_of i.kind) i) i s) i word s
Leaves-execute_group at LoadReserved i word s e aside = Leaves-reserve_by at (reached (reserve_access i s) s) i (rs1 i s) s
Leaves-execute_group at StoreConditional i word s e aside = Leaves-conditional_by at (reached (conditional_access i s) s) i s refl aside
Leaves-execute_group at Amo i word s e aside = Leaves-amo_by at (reached (amo_access i s) s) i s refl aside

Leaves-decoded : (at : ℕ) (decoded : Option Instruction) (word : ℕ) (s : State) → IsSpared s at (footprint_of decoded s)
    → Leaves at s (decoded_action decoded word s)
unfolding execute
Leaves-decoded at None word s aside = refl
Leaves-decoded at (Some i) word s aside = Leaves-execute_group at (group_of i.kind) i word s refl aside

Leaves-fetch : (at : ℕ) (r : Reached) (s : State) → IsSpared s at (footprint_at r s) → Leaves at s (fetch_action r s)
unfolding each_once
Leaves-fetch at (faulted cause) s aside = refl
Leaves-fetch at (of_ram page) s aside = Leaves-decoded at (decoded (fetched s)) (fetched s) s (record {
  spared = elim aside.spared [
    | inl untouched ↦ inl (λ listed. untouched (Contains-each_once (page_of s.pc ∷ (footprint_of (decoded (fetched s)) s).needs) (at / PAGE_SIZE)
        (Contains-later (page_of s.pc) (footprint_of (decoded (fetched s)) s).needs (at / PAGE_SIZE) listed)))
    | inr denied ↦ inr denied
  ];
  unzeroed = aside.unzeroed;
})
Leaves-fetch at of_port s aside = refl

Leaves-by : (at : ℕ) (taken : Bool) (s : State) → IsSpared s at (footprint_step taken s) → Leaves at s (action_by taken s)
Leaves-by at true s aside = refl
Leaves-by at false s aside = Leaves-fetch at (reached (fetch_access s) s) s aside

Leaves-action : (at : ℕ) (s : State) → IsSpared s at (footprint_from None s) → Leaves at s (action s)
unfolding action
Leaves-action at s aside = Leaves-by at (takes_interrupt s.csrs (is_timer_due s)) s aside

ram-applied : (a : Action) (m : Machine) → (applied a m).state.ram ≡ ram_after a m.state
ram-applied (trap cause value) m = refl
ram-applied interrupt m = refl
ram-applied (retire written s) m = refl
ram-applied (exit value bytes s) m = refl
ram-applied (ask c s) m = refl
ram-applied (speak t s) m = refl

leaves-from : (at : ℕ) (ending : Option Ending) (m : Machine) → IsSpared m.state at (footprint_from ending m.state)
    → get_or (advance_from ending m).state.ram at 0 ≡ get_or m.state.ram at 0
leaves-from at None m aside = ap (λ ram. get_or ram at 0) (ram-applied (action m.state) m) ∙ Leaves-action at m.state aside
leaves-from at (Some ending) m aside = refl

module _ (m : Machine) (at : ℕ) (unzeroed : IsZeroed m (at / PAGE_SIZE) → ⊥) where
  pub advance-leaves : (Contains (touch m) (at / PAGE_SIZE) → ⊥) → get_or (advance m).state.ram at 0 ≡ get_or m.state.ram at 0
  unfolding advance footprint
  advance-leaves untouched = leaves-from at m.ending m (record { spared = inl untouched; unzeroed = unzeroed })

  pub advance-denied : allows m.state.csrs right.Store (RAM_BASE + at) ≡ false → get_or (advance m).state.ram at 0 ≡ get_or m.state.ram at 0
  unfolding advance footprint
  advance-denied denied = leaves-from at m.ending m (record { spared = inr denied; unzeroed = unzeroed })
