-- What holds of each store.
use Rattle.std.proofs.Common.{◌≡◌, ◌≢◌, ℕ, ◌≤◌, eqb, Option, None, IfSome, option_map, refl, subst}
use Rattle.fork_port.specs.declared.commands.Stored.TheVariants.{Command}
use Rattle.fork_port.specs.declared.commands.Call.{Call}
use Rattle.fork_port.specs.declared.commands.Asked.{Asked}
use Rattle.fork_port.specs.declared.commands.Asked.TheVariants as asked
use Rattle.fork_port.specs.declared.commands.Effect.TheVariants as effect
use Rattle.sibling_port.specs.declared.talk.Talk.{Talk}
use Rattle.fork_port.specs.declared.handed.TheConstants.{MAX_HANDED}
use Rattle.fork_port.specs.declared.registers.TheConstants.{FORK_FIRST_ARGUMENT, FORK_SECOND_ARGUMENT, FORK_COMMAND, FORK_JOIN_SELECT}
use Rattle.fork_port.specs.Tickets.{IsRising}
use Rattle.fork_port.specs.Registers.{ForkRegisters, RegisterStored, holding}
use Rattle.fork_port.specs.Children.{IsAccounted}
use Rattle.fork_port.specs.Commands.{IsAnswerable, IsMakeable, answered, effect_of, fork_command}
use Rattle.fork_port.specs.Fork.{ForkStored, carried_out, stored_from, fork_store}
use Rattle.fork_port.proofs.TicketLemmas.{either}
use Rattle.fork_port.proofs.Balance.{holding_after_ticket, holding_after_kill, accounted_after_ticket, accounted_after_kill}
use Rattle.fork_port.proofs.CommandLemmas.{answerable}

-- what holds after a store to each register, and after the command, holds after every store that is made
pub each_store : (P : ForkStored → Type 0) (f : ForkRegisters) (offset width word : ℕ)
    → P (record { fork = record f { first_argument = word }; effect = effect.Done })
    → P (record { fork = record f { second_argument = word }; effect = effect.Done })
    → P (record { fork = record f { join_select = word }; effect = effect.Done })
    → P (stored_from (Command word) f)
    → IfSome (fork_store f offset width word) P
unfolding fork_store
each_store P f offset width word first second select command =
    let Q : Option RegisterStored → Type 0 = λ o. IfSome (option_map carried_out o) P in
    either (λ (o : Option ForkStored). IfSome o P) (eqb width 4) _ None
    (either Q (eqb offset FORK_FIRST_ARGUMENT) _ _ first
    (either Q (eqb offset FORK_SECOND_ARGUMENT) _ _ second
    (either Q (eqb offset FORK_COMMAND) _ _ command
    (either Q (eqb offset FORK_JOIN_SELECT) _ None select tt))))
    tt

no_zero : (first count : ℕ) {P : Type 0} → effect.Done ≡ effect.Zero first count → P
no_zero first count is = cc

no_handing : (value address count : ℕ) {P : Type 0} → effect.Done ≡ effect.ExitWith value address count → P
no_handing value address count is = cc

no_call : (c : Call) {P : Type 0} → effect.Done ≡ effect.Call c → P
no_call c is = cc

module _ (f : ForkRegisters) where
  holding_answered : IsRising f.tickets → (a : Asked) → holding (answered a f) ≡ holding f
  holding_answered rising (asked.Refused word) = refl
  holding_answered rising asked.NewTicket = holding_after_ticket f
  holding_answered rising (asked.Discard number) = holding_after_kill f number rising
  holding_answered rising (asked.Call c) = refl
  holding_answered rising (asked.Exit value) = refl
  holding_answered rising (asked.ExitWith value address count) = refl
  holding_answered rising (asked.Zero first count) = refl

  accounted_answered : IsAccounted f → (a : Asked) → IsAccounted (answered a f)
  accounted_answered accounted (asked.Refused word) = record { balanced = accounted.balanced; rising = accounted.rising }
  accounted_answered accounted asked.NewTicket = accounted_after_ticket f accounted
  accounted_answered accounted (asked.Discard number) = accounted_after_kill f number accounted
  accounted_answered accounted (asked.Call c) = accounted
  accounted_answered accounted (asked.Exit value) = accounted
  accounted_answered accounted (asked.ExitWith value address count) = accounted
  accounted_answered accounted (asked.Zero first count) = accounted

  call_answered : (command : ℕ) (c : Call) (a : Asked) → IsAnswerable f command a → effect_of a ≡ effect.Call c → (answered a f ≡ f) × IsMakeable f c
  call_answered command c (asked.Refused word) met is = no_call c is
  call_answered command c asked.NewTicket met is = no_call c is
  call_answered command c (asked.Discard number) met is = no_call c is
  call_answered command c (asked.Call d) met is = (refl, let same : d ≡ c = cc in subst (IsMakeable f) same met)
  call_answered command c (asked.Exit value) met is = absurd cc
  call_answered command c (asked.ExitWith value address count) met is = absurd cc
  call_answered command c (asked.Zero first count) met is = absurd cc

  zero_answered : (first count : ℕ) (a : Asked) → effect_of a ≡ effect.Zero first count → answered a f ≡ f
  zero_answered first count (asked.Refused word) is = no_zero first count is
  zero_answered first count asked.NewTicket is = no_zero first count is
  zero_answered first count (asked.Discard number) is = no_zero first count is
  zero_answered first count (asked.Call c) is = refl
  zero_answered first count (asked.Exit value) is = refl
  zero_answered first count (asked.ExitWith value address size) is = refl
  zero_answered first count (asked.Zero from size) is = refl

  handing_answered : (command value address count : ℕ) (a : Asked) → IsAnswerable f command a → effect_of a ≡ effect.ExitWith value address count
      → (answered a f ≡ f) × (count ≤ MAX_HANDED)
  handing_answered command value address count (asked.Refused word) met is = no_handing value address count is
  handing_answered command value address count asked.NewTicket met is = no_handing value address count is
  handing_answered command value address count (asked.Discard number) met is = no_handing value address count is
  handing_answered command value address count (asked.Call c) met is = absurd cc
  handing_answered command value address count (asked.Exit other) met is = absurd cc
  handing_answered command value address count (asked.ExitWith other from size) met is =
      (refl, let same : size ≡ count = cc in subst (λ (n : ℕ). n ≤ MAX_HANDED) same met)
  handing_answered command value address count (asked.Zero first size) met is = absurd cc

  pub holding_stored : (offset width word : ℕ) → IsRising f.tickets → IfSome (fork_store f offset width word) (λ s. holding s.fork ≡ holding f)
  holding_stored offset width word rising =
      each_store (λ s. holding s.fork ≡ holding f) f offset width word refl refl refl (holding_answered rising (fork_command f word))

  pub accounted_stored : (offset width word : ℕ) → IsAccounted f → IfSome (fork_store f offset width word) (λ s. IsAccounted s.fork)
  accounted_stored offset width word accounted =
      each_store (λ s. IsAccounted s.fork) f offset width word
      (record { balanced = accounted.balanced; rising = accounted.rising }) (record { balanced = accounted.balanced; rising = accounted.rising })
      (record { balanced = accounted.balanced; rising = accounted.rising }) (accounted_answered accounted (fork_command f word))

  pub call_stored : (offset width word : ℕ) (c : Call) → IfSome (fork_store f offset width word) (λ s. s.effect ≡ effect.Call c → (s.fork ≡ f) × IsMakeable f c)
  call_stored offset width word c =
      each_store (λ s. s.effect ≡ effect.Call c → (s.fork ≡ f) × IsMakeable f c) f offset width word
      (λ is. no_call c is) (λ is. no_call c is) (λ is. no_call c is) (call_answered word c (fork_command f word) (answerable f word))

  pub zero_stored : (offset width word first count : ℕ) → IfSome (fork_store f offset width word) (λ s. s.effect ≡ effect.Zero first count → s.fork ≡ f)
  zero_stored offset width word first count =
      each_store (λ s. s.effect ≡ effect.Zero first count → s.fork ≡ f) f offset width word
      (λ is. no_zero first count is) (λ is. no_zero first count is) (λ is. no_zero first count is) (zero_answered first count (fork_command f word))

  pub handing_stored : (offset width word value address count : ℕ)
      → IfSome (fork_store f offset width word) (λ s. s.effect ≡ effect.ExitWith value address count → (s.fork ≡ f) × (count ≤ MAX_HANDED))
  handing_stored offset width word value address count =
      each_store (λ s. s.effect ≡ effect.ExitWith value address count → (s.fork ≡ f) × (count ≤ MAX_HANDED)) f offset width word
      (λ is. no_handing value address count is) (λ is. no_handing value address count is) (λ is. no_handing value address count is)
      (handing_answered word value address count (fork_command f word) (answerable f word))

  -- no store to the fork port is a talk
  talk_answered : (t : Talk) (a : Asked) → effect_of a ≢ effect.Talk t
  talk_answered t (asked.Refused word) is = absurd cc
  talk_answered t asked.NewTicket is = absurd cc
  talk_answered t (asked.Discard number) is = absurd cc
  talk_answered t (asked.Call c) is = absurd cc
  talk_answered t (asked.Exit value) is = absurd cc
  talk_answered t (asked.ExitWith value address count) is = absurd cc
  talk_answered t (asked.Zero first count) is = absurd cc

  pub talk_stored : (offset width word : ℕ) (t : Talk) → IfSome (fork_store f offset width word) (λ s. s.effect ≢ effect.Talk t)
  talk_stored offset width word t =
      each_store (λ s. s.effect ≢ effect.Talk t) f offset width word
      (λ is. absurd cc) (λ is. absurd cc) (λ is. absurd cc) (talk_answered t (fork_command f word))
