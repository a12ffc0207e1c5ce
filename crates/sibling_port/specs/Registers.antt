-- The registers of the sibling port, and what a talk that was made leaves in them.
use Rattle.std.specs.Prelude.{ℕ, Option, Some, None}
use Rattle.sibling_port.specs.declared.answers.TheConstants.{DONE, SIBLING_ENDED}

pub record SiblingRegisters : Type 0 where
  -- the sibling that the next command talks to, by its number among the children of the ticket, from 1
  pub peer : ℕ
  -- DATA: the word that is sent, and the one that was received
  pub word : ℕ
  -- what became of the last command
  pub result : ℕ
  -- how many children the ticket made, and 0 in a root. No command changes it
  pub siblings : ℕ

-- the registers of a machine that starts: of a child of a ticket that made so many, or of a root, with 0
abbrev pub at_start : ℕ → SiblingRegisters
at_start siblings = record { peer = 0; word = 0; result = 0; siblings = siblings }

-- a refusal changes RESULT alone
abbrev pub refused : ℕ → SiblingRegisters → SiblingRegisters
refused word s = record s { result = word }

-- after a talk: the word that it brought, if there is one, is in DATA, and RESULT is the answer
abbrev pub talked : Option ℕ → ℕ → SiblingRegisters → SiblingRegisters
talked None answer s = record s { result = answer }
talked (Some word) answer s = record s { word = word; result = answer }

-- after a send, whether the sibling will have the word, or has ended and the word is dropped
abbrev pub after_send : SiblingRegisters → SiblingRegisters
after_send s = talked None DONE s

-- after a receive, of a word, or of none where no word is left and the sibling has ended
abbrev pub after_receive : Option ℕ → SiblingRegisters → SiblingRegisters
after_receive None s = talked None SIBLING_ENDED s
after_receive (Some word) s = talked (Some word) DONE s
