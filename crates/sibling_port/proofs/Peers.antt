-- Whom a machine may talk to, and what its commands ask for.
use Rattle.std.proofs.Common.{◌≡◌, ◌≢◌, ℕ, ◌≤◌, Bool, true, false, not, ◌&&◌, cond, eqb, leb, refl, ap, ◌∙◌, arith}
use Rattle.std.proofs.lemmas.Bool.{and_from, and_parts, cond-false, eqb-false, false_from_ne_true, le-leb, leb-true, ne_eqb, not-true, not_from_false}
use Rattle.sibling_port.specs.declared.talk.Talk.TheVariants.{Send, Receive}
use Rattle.sibling_port.specs.declared.talk.Asked.TheVariants as asked
use Rattle.sibling_port.specs.declared.answers.TheConstants.{NO_SUCH_SIBLING, UNKNOWN_COMMAND}
use Rattle.sibling_port.specs.declared.registers.TheConstants.{SEND_COMMAND, RECEIVE_COMMAND}
use Rattle.sibling_port.specs.Registers.{SiblingRegisters}
use Rattle.sibling_port.specs.Commands.{HasSibling, is_sibling, sibling_command, talk_asks}

module _ (number : ℕ) (s : SiblingRegisters) where
  tested : HasSibling number s → is_sibling number s ≡ true
  tested h =
      and_from (not (eqb s.peer 0)) (not (eqb s.peer number) && leb s.peer s.siblings)
      (not_from_false (eqb s.peer 0) (ne_eqb s.peer 0 (λ none. let first : 1 ≤ s.peer = h.first in absurd (omega arith))))
      (and_from (not (eqb s.peer number)) (leb s.peer s.siblings)
      (not_from_false (eqb s.peer number) (ne_eqb s.peer number h.other)) (le-leb s.peer s.siblings h.last))

  pub has_sibling : is_sibling number s ≡ true → HasSibling number s
  has_sibling is =
      let parts = and_parts (not (eqb s.peer 0)) (not (eqb s.peer number) && leb s.peer s.siblings) is in
      let rest = and_parts (not (eqb s.peer number)) (leb s.peer s.siblings) parts.1 in
      let some = eqb-false s.peer 0 (not-true (eqb s.peer 0) parts.0) in
      record {
        first = grind arith;
        last = leb-true s.peer s.siblings rest.1;
        other = eqb-false s.peer number (not-true (eqb s.peer number) rest.0);
      }

  untested : ¬ HasSibling number s → is_sibling number s ≡ false
  untested none = false_from_ne_true (is_sibling number s) (λ is. none (has_sibling is))

  pub sends : HasSibling number s → sibling_command number s SEND_COMMAND ≡ asked.Talk (Send s.peer)
  unfolding sibling_command
  sends h = ap (λ b. talk_asks b (Send s.peer)) (tested h)

  pub receives : HasSibling number s → sibling_command number s RECEIVE_COMMAND ≡ asked.Talk (Receive s.peer)
  unfolding sibling_command
  receives h = ap (λ b. talk_asks b (Receive s.peer)) (tested h)

  pub names_nobody : ¬ HasSibling number s → (sibling_command number s SEND_COMMAND ≡ asked.Refused NO_SUCH_SIBLING)
      × (sibling_command number s RECEIVE_COMMAND ≡ asked.Refused NO_SUCH_SIBLING)
  unfolding sibling_command
  names_nobody none = (ap (λ b. talk_asks b (Send s.peer)) (untested none), ap (λ b. talk_asks b (Receive s.peer)) (untested none))

  pub unknown : (command : ℕ) → command ≢ SEND_COMMAND → command ≢ RECEIVE_COMMAND
      → sibling_command number s command ≡ asked.Refused UNKNOWN_COMMAND
  unfolding sibling_command
  unknown command no_send no_receive =
      cond-false (eqb command SEND_COMMAND) _ _ (ne_eqb command SEND_COMMAND no_send)
      ∙ cond-false (eqb command RECEIVE_COMMAND) _ _ (ne_eqb command RECEIVE_COMMAND no_receive)

  pub root_is_alone : s.siblings ≡ 0 → ¬ HasSibling number s
  root_is_alone none h =
      let first : 1 ≤ s.peer = h.first in
      let last : s.peer ≤ s.siblings = h.last in
      absurd (omega arith)

pub only_child : (s : SiblingRegisters) → s.siblings ≡ 1 → ¬ HasSibling 1 s
only_child s one h =
    let first : 1 ≤ s.peer = h.first in
    let last : s.peer ≤ s.siblings = h.last in
    h.other (omega arith)
