-- What holds of each store.
use Rattle.std.proofs.Common.{◌≡◌, ℕ, Bool, true, false, eqb, Option, Some, None, IfSome, refl, sym, ap, ◌∙◌}
use Rattle.std.proofs.lemmas.Bool.{cond_both}
use Rattle.sibling_port.specs.declared.talk.Talk.{Talk}
use Rattle.sibling_port.specs.declared.talk.Talk.TheVariants.{Send, Receive}
use Rattle.sibling_port.specs.declared.talk.Asked.{Asked}
use Rattle.sibling_port.specs.declared.talk.Asked.TheVariants as asked
use Rattle.sibling_port.specs.declared.registers.TheConstants.{SEND_COMMAND, RECEIVE_COMMAND, SIBLING_PEER, SIBLING_DATA, SIBLING_COMMAND}
use Rattle.sibling_port.specs.Registers.{SiblingRegisters, talked}
use Rattle.sibling_port.specs.Commands.{HasSibling, SiblingStored, commanded, is_sibling, named, sibling_command, talk_asks}
use Rattle.sibling_port.specs.Sibling.{kept, sibling_store}
use Rattle.sibling_port.proofs.Peers.{has_sibling}

-- what holds after a store to each register, and after the command, holds after every store that is made
pub each_store : (P : SiblingStored → Type 0) (number : ℕ) (s : SiblingRegisters) (offset width word : ℕ)
    → P (kept (record s { peer = word })) → P (kept (record s { word = word })) → P (commanded (sibling_command number s word) s)
    → IfSome (sibling_store number s offset width word) P
unfolding sibling_store
each_store P number s offset width word for_peer for_word for_command =
    let Q : Option SiblingStored → Type 0 = λ stored. IfSome stored P in
    cond_both (eqb width 4) _ None Q
    (λ _. cond_both (eqb offset SIBLING_PEER) _ _ Q (λ _. for_peer)
    (λ _. cond_both (eqb offset SIBLING_DATA) _ _ Q (λ _. for_word)
    (λ _. cond_both (eqb offset SIBLING_COMMAND) _ None Q (λ _. for_command) (λ _. tt))))
    (λ _. tt)

-- a talk that is asked for is with a sibling, and the registers are as before
module _ (number : ℕ) (s : SiblingRegisters) (talk : Talk) where
  abbrev Waits : SiblingStored → Type 0
  Waits t = t.talk ≡ Some talk → (t.port ≡ s) × (HasSibling number s × (named talk ≡ s.peer))

  no_talk : {P : Type 0} → None ≡ Some talk → P
  no_talk is = cc

  waits_for : (what : Talk) (b : Bool) → named what ≡ s.peer → is_sibling number s ≡ b → Waits (commanded (talk_asks b what) s)
  waits_for what true names is asks = (refl, (has_sibling number s is, (let same : talk ≡ what = cc in ap named same ∙ names)))
  waits_for what false names is asks = no_talk asks

  waits_command : (command : ℕ) → Waits (commanded (sibling_command number s command) s)
  unfolding sibling_command
  waits_command command =
      let P : Asked → Type 0 = λ a. Waits (commanded a s) in
      cond_both (eqb command SEND_COMMAND) _ _ P (λ _. waits_for (Send s.peer) (is_sibling number s) refl refl)
      (λ _. cond_both (eqb command RECEIVE_COMMAND) _ _ P (λ _. waits_for (Receive s.peer) (is_sibling number s) refl refl) (λ _ asks. no_talk asks))

pub waits : (number : ℕ) (s : SiblingRegisters) (offset width word : ℕ) (talk : Talk)
    → IfSome (sibling_store number s offset width word)
    (λ t. t.talk ≡ Some talk → (t.port ≡ s) × (HasSibling number s × (named talk ≡ s.peer)))
waits number s offset width word talk =
    each_store (Waits number s talk) number s offset width word
    (λ asks. no_talk number s talk asks) (λ asks. no_talk number s talk asks) (waits_command number s talk word)

-- how many siblings there are stays
pub siblings_commanded : (a : Asked) (s : SiblingRegisters) → (commanded a s).port.siblings ≡ s.siblings
siblings_commanded (asked.Refused word) s = refl
siblings_commanded (asked.Talk talk) s = refl

pub siblings_stored : (number : ℕ) (s : SiblingRegisters) (offset width word : ℕ)
    → IfSome (sibling_store number s offset width word) (λ t. t.port.siblings ≡ s.siblings)
siblings_stored number s offset width word =
    each_store (λ t. t.port.siblings ≡ s.siblings) number s offset width word refl refl (siblings_commanded (sibling_command number s word) s)

pub siblings_talked : (s : SiblingRegisters) (word : Option ℕ) (answer : ℕ)
    → ((talked word answer s).siblings ≡ s.siblings) × ((talked word answer s).peer ≡ s.peer)
siblings_talked s None answer = (refl, refl)
siblings_talked s (Some word) answer = (refl, refl)
