-- What memory protection allows.
use Rattle.std.proofs.Common.{◌≡◌, ℕ, ◌/◌, true, false, refl, ap, arith}
use Rattle.guest_pmp.specs.declared.access.Access.{Access}
use Rattle.guest_pmp.specs.declared.access.Access.TheVariants.{Fetch, Load, Store, Amo}
use Rattle.guest_pmp.specs.declared.access.Mode.{Mode}
use Rattle.guest_pmp.specs.declared.access.Mode.TheVariants.{User, Machine}
use Rattle.guest_pmp.specs.declared.registers.PmpRegisters.{PmpRegisters}
use Rattle.guest_pmp.specs.Allowed.{allowed, decided, is_machine}
use Rattle.guest_pmp.specs.Registers.{has_lock}
use Rattle.guest_pmp.proofs.Deciding.{allowed-unlocked, deciding-alike}
use Rattle.rv_traps.specs.declared.registers.CsrRegisters.{CsrRegisters}
use Rattle.rv_traps.specs.Protection.{acting_mode, allows, data_mode, is_unrestricted}

-- all bytes of a word are allowed alike
pub allows-alike : (c : CsrRegisters) (access : Access) (a b : ℕ) → a / 4 ≡ b / 4 → allows c access a ≡ allows c access b
unfolding allows
allows-alike c access a b e = ap (λ found. decided found access (acting_mode c access)) (deciding-alike c.pmp a b e)

-- what may be loaded and stored in one may be stored
pub allows-store : (c : CsrRegisters) (address : ℕ) → allows c Amo address ≡ true → allows c Store address ≡ true
unfolding allows
allows-store c address both = grind arith

-- machine mode, where no entry is locked
by-mode : (mode : Mode) (r : PmpRegisters) (access : Access) (address : ℕ) → is_machine mode ≡ true → has_lock r ≡ false → allowed r access mode address ≡ true
by-mode User r access address machine free = absurd (cc)
by-mode Machine r access address machine free = allowed-unlocked r access address free

-- by its mode and MPRV, and not by counters
acting_mode-recounted : (c : CsrRegisters) (mcycle minstret : ℕ) (access : Access) → acting_mode (record c { mcycle = mcycle; minstret = minstret }) access ≡ acting_mode c access
acting_mode-recounted c mcycle minstret Fetch = refl
acting_mode-recounted c mcycle minstret Load = refl
acting_mode-recounted c mcycle minstret Store = refl
acting_mode-recounted c mcycle minstret Amo = refl

pub allows-recounted : (c : CsrRegisters) (mcycle minstret : ℕ) (access : Access) (address : ℕ)
    → allows (record c { mcycle = mcycle; minstret = minstret }) access address ≡ allows c access address
unfolding allows
allows-recounted c mcycle minstret access address = ap (λ mode. allowed c.pmp access mode address) (acting_mode-recounted c mcycle minstret access)

-- where everything is
pub allows-unrestricted : (c : CsrRegisters) → is_unrestricted c ≡ true → (access : Access) (address : ℕ) → allows c access address ≡ true
unfolding allows
allows-unrestricted c free Fetch address = by-mode c.mode c.pmp Fetch address (grind arith) (grind arith)
allows-unrestricted c free Load address = by-mode (data_mode c) c.pmp Load address (grind arith) (grind arith)
allows-unrestricted c free Store address = by-mode (data_mode c) c.pmp Store address (grind arith) (grind arith)
allows-unrestricted c free Amo address = by-mode (data_mode c) c.pmp Amo address (grind arith) (grind arith)
