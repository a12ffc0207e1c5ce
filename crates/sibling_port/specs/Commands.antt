-- What the commands of the sibling port ask for, in a machine that is the child of a number, or a root, with 0.
use Rattle.std.specs.Prelude.{◌≡◌, ◌≢◌, ℕ, ◌≤◌, ◌==◌, ◌&&◌, nat_le, not, Bool, if◌then◌else◌, Option, Some, None}
use Rattle.sibling_port.specs.declared.talk.Talk.{Talk}
use Rattle.sibling_port.specs.declared.talk.Talk.TheVariants.{Send, Receive}
use Rattle.sibling_port.specs.declared.talk.Asked.{Asked}
use Rattle.sibling_port.specs.declared.talk.Asked.TheVariants as asked
use Rattle.sibling_port.specs.declared.answers.TheConstants.{NO_SUCH_SIBLING, UNKNOWN_COMMAND}
use Rattle.sibling_port.specs.declared.registers.TheConstants.{SEND_COMMAND, RECEIVE_COMMAND}
use Rattle.sibling_port.specs.Registers.{SiblingRegisters, refused}

-- PEER names another child of the ticket
abbrev pub is_sibling : ℕ → SiblingRegisters → Bool
is_sibling number s = not (s.peer == 0) && (not (s.peer == number) && nat_le s.peer s.siblings)

-- what a command that is a talk asks for
abbrev pub talk_asks : Bool → Talk → Asked
talk_asks is_sibling talk = if is_sibling then asked.Talk talk else asked.Refused NO_SUCH_SIBLING

-- what a command asks for
unfoldable pub sibling_command : ℕ → SiblingRegisters → ℕ → Asked
sibling_command number s command =
    if command == SEND_COMMAND then talk_asks (is_sibling number s) (Send s.peer)
    else (if command == RECEIVE_COMMAND then talk_asks (is_sibling number s) (Receive s.peer)
    else asked.Refused UNKNOWN_COMMAND)

-- the registers after a store, and the talk that the machine is to make, if the store asks for one
pub record SiblingStored : Type 0 where
  pub port : SiblingRegisters
  pub talk : Option Talk

-- a talk is made by the machine, and until then the registers are as before
abbrev pub commanded : Asked → SiblingRegisters → SiblingStored
commanded (asked.Refused word) s = record { port = refused word s; talk = None }
commanded (asked.Talk talk) s = record { port = s; talk = Some talk }

-- the same as `is_sibling`, in words: s.peer is the number of a child of the ticket, and of another one
pub record HasSibling (number : ℕ) (s : SiblingRegisters) : Type 0 where
  pub first : 1 ≤ s.peer
  pub last : s.peer ≤ s.siblings
  pub other : s.peer ≢ number

-- the sibling that a talk names
abbrev pub named : Talk → ℕ
named (Send peer) = peer
named (Receive peer) = peer
