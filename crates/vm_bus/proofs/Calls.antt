-- A store to the fork port that is a call, EXIT with bytes or ZERO changes nothing yet, and neither does one to the
-- sibling port that is a talk.
use Rattle.std.proofs.Common.{◌≡◌, ◌≢◌, ℕ, ◌≤◌, Option, Some, None, IfSome, refl, ap, subst}
use Rattle.fork_port.specs.declared.commands.Effect.{Effect}
use Rattle.fork_port.specs.declared.commands.Effect.TheVariants as effect
use Rattle.fork_port.specs.declared.handed.TheConstants.{MAX_HANDED}
use Rattle.fork_port.specs.Registers.{ForkRegisters}
use Rattle.fork_port.specs.Commands.{IsMakeable}
use Rattle.fork_port.specs.Fork.{ForkStored, fork_store}
use Rattle.fork_port.proofs.StoreLemmas.{call_stored, handing_stored, talk_stored, zero_stored}
use Rattle.sibling_port.specs.declared.talk.Talk.{Talk}
use Rattle.sibling_port.specs.Registers.{SiblingRegisters}
use Rattle.sibling_port.specs.Commands.{HasSibling, SiblingStored, named}
use Rattle.sibling_port.specs.Sibling.{sibling_store}
use Rattle.sibling_port.proofs.Stores.{waits}
use Rattle.port_map.specs.Bus.{talk_effect}
use Rattle.vm_bus.specs.Bus.{BusParts, Waits}

pub fork-waits : (b : BusParts) (f : ForkRegisters) (offset width word : ℕ) (e : Effect)
    → fork_store b.fork offset width word ≡ Some (record { fork = f; effect = e }) → Waits b (record b { fork = f }) e
fork-waits b f offset width word effect.Done h = tt
fork-waits b f offset width word effect.TimeWritten h = tt
fork-waits b f offset width word (effect.Call c) h =
    let all : IfSome (fork_store b.fork offset width word) (λ (s : ForkStored). s.effect ≡ effect.Call c → (s.fork ≡ b.fork) × IsMakeable b.fork c) =
    call_stored b.fork offset width word c in
    let one : (effect.Call c ≡ effect.Call c) → (f ≡ b.fork) × IsMakeable b.fork c =
    subst (λ (o : Option ForkStored). IfSome o (λ (s : ForkStored). s.effect ≡ effect.Call c → (s.fork ≡ b.fork) × IsMakeable b.fork c)) h all in
    let both = one refl in
    (ap (λ (g : ForkRegisters). record b { fork = g }) both.0, both.1)
fork-waits b f offset width word (effect.Talk t) h =
    let all : IfSome (fork_store b.fork offset width word) (λ (s : ForkStored). s.effect ≢ effect.Talk t) = talk_stored b.fork offset width word t in
    let none : effect.Talk t ≢ effect.Talk t = subst (λ (o : Option ForkStored). IfSome o (λ (s : ForkStored). s.effect ≢ effect.Talk t)) h all in
    absurd (none refl)
fork-waits b f offset width word (effect.Exit value) h = tt
fork-waits b f offset width word (effect.ExitWith value address count) h =
    let IsLeft : ForkStored → Type 0 = λ s. s.effect ≡ effect.ExitWith value address count → (s.fork ≡ b.fork) × (count ≤ MAX_HANDED) in
    let all : IfSome (fork_store b.fork offset width word) IsLeft = handing_stored b.fork offset width word value address count in
    let one : IsLeft (record { fork = f; effect = effect.ExitWith value address count }) = subst (λ (o : Option ForkStored). IfSome o IsLeft) h all in
    let both = one refl in
    (ap (λ (g : ForkRegisters). record b { fork = g }) both.0, both.1)
fork-waits b f offset width word (effect.Zero first count) h =
    let all : IfSome (fork_store b.fork offset width word) (λ (s : ForkStored). s.effect ≡ effect.Zero first count → s.fork ≡ b.fork) =
    zero_stored b.fork offset width word first count in
    let one : (effect.Zero first count ≡ effect.Zero first count) → f ≡ b.fork =
    subst (λ (o : Option ForkStored). IfSome o (λ (s : ForkStored). s.effect ≡ effect.Zero first count → s.fork ≡ b.fork)) h all in
    ap (λ (g : ForkRegisters). record b { fork = g }) (one refl)

pub sibling-waits : (b : BusParts) (r : SiblingRegisters) (said : Option Talk) (offset width word : ℕ)
    → sibling_store b.fork.clone_id b.sibling offset width word ≡ Some (record { port = r; talk = said })
    → Waits b (record b { sibling = r }) (talk_effect said)
sibling-waits b r None offset width word h = tt
sibling-waits b r (Some t) offset width word h =
    let Names : SiblingStored → Type 0 =
    λ s. s.talk ≡ Some t → (s.port ≡ b.sibling) × (HasSibling b.fork.clone_id b.sibling × (named t ≡ b.sibling.peer)) in
    let all : IfSome (sibling_store b.fork.clone_id b.sibling offset width word) Names = waits b.fork.clone_id b.sibling offset width word t in
    let one : Names (record { port = r; talk = Some t }) = subst (λ (o : Option SiblingStored). IfSome o Names) h all in
    let both = one refl in
    (ap (λ (q : SiblingRegisters). record b { sibling = q }) both.0, both.1)
