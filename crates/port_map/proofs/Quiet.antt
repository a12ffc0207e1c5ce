-- The ports that ask the machine for nothing: all but the fork port and the sibling port.
use Rattle.std.proofs.Common.{◌≡◌, ℕ, ◌⊎◌, inl, inr, Bool, true, false, cond, Option, Some, None, refl, option_map, subst, sym}
use Rattle.std.specs.Option.{IfSome}
use Rattle.timer_port.specs.Timer.{timer_store, writes_mtime}
use Rattle.fork_port.specs.declared.commands.Call.{Call}
use Rattle.fork_port.specs.declared.commands.Effect.{Effect}
use Rattle.fork_port.specs.declared.commands.Effect.TheVariants as effect
use Rattle.sibling_port.specs.declared.talk.Talk.{Talk}
use Rattle.port_map.specs.declared.Place.{Place}
use Rattle.port_map.specs.declared.Place.TheVariants as place
use Rattle.port_map.specs.Bus.{PortRegisters, Read, Stored, load_at, store_at}

-- what holds of each value that is made holds of the answer
IfSome-map : {A B : Type 0} (P : B → Type 0) (f : A → B) (o : Option A) → ((a : A) → P (f a)) → IfSome (option_map f o) P
IfSome-map P f None each = tt
IfSome-map P f (Some a) each = each a

-- ---- loads: none changes the fork port or the sibling port

pub record Leaves (ports new : PortRegisters) : Type 0 where
  pub fork : new.fork ≡ ports.fork
  pub sibling : new.sibling ≡ ports.sibling

pub load-leaves : (at : Place) (ports : PortRegisters) (width : ℕ) → IfSome (load_at at ports width) (λ read. Leaves ports read.ports)
load-leaves place.NoPort ports width = tt
load-leaves _ ports width = IfSome-map (λ (read : Read). Leaves ports read.ports) _ _ (λ loaded. record { fork = refl; sibling = refl })

-- ---- stores

-- an effect that asks the machine for nothing
abbrev pub IsQuiet : Effect → Type 0
IsQuiet e = (e ≡ effect.Done) ⊎ (e ≡ effect.TimeWritten)

pub by-quiet : (P : Effect → Type 0) → P effect.Done → P effect.TimeWritten → (e : Effect) → IsQuiet e → P e
by-quiet P done timed e (inl is) = subst P (sym is) done
by-quiet P done timed e (inr is) = subst P (sym is) timed

pub no-call : (e : Effect) (c : Call) {R : Type 0} → IsQuiet e → e ≡ effect.Call c → R
no-call e c (inl done) is = absurd (cc)
no-call e c (inr timed) is = absurd (cc)

pub no-talk : (e : Effect) (t : Talk) {R : Type 0} → IsQuiet e → e ≡ effect.Talk t → R
no-talk e t (inl done) is = absurd (cc)
no-talk e t (inr timed) is = absurd (cc)

-- a store of another port than those two leaves them as they are, and asks for nothing
pub record StoresQuietly (ports : PortRegisters) (stored : Stored) : Type 0 where
  pub leaves : Leaves ports stored.ports
  pub quiet : IsQuiet stored.effect

abbrev pub IsQuietPort : Place → Type 0
IsQuietPort (place.Fork offset) = ⊥
IsQuietPort (place.Sibling offset) = ⊥
IsQuietPort _ = Unit {0}

of-time : (writes : Bool) → IsQuiet (cond writes effect.TimeWritten effect.Done)
of-time true = inr refl
of-time false = inl refl

pub stores-quietly : (at : Place) → IsQuietPort at → (ports : PortRegisters) (width word : ℕ) → IfSome (store_at at ports width word) (StoresQuietly ports)
stores-quietly (place.Fork offset) quiet ports width word = absurd quiet
stores-quietly (place.Sibling offset) quiet ports width word = absurd quiet
stores-quietly (place.Timer offset) quiet ports width word =
    IfSome-map (StoresQuietly ports) _ (timer_store ports.timer offset width word)
    (λ timer. record { leaves = record { fork = refl; sibling = refl }; quiet = of-time (writes_mtime offset) })
stores-quietly place.NoPort quiet ports width word = tt
stores-quietly _ quiet ports width word =
    IfSome-map (StoresQuietly ports) _ _ (λ stored. record { leaves = record { fork = refl; sibling = refl }; quiet = of-time false })
