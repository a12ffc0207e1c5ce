-- Steps that a machine makes by its hart, each by itself and so many.
use Rattle.std.specs.Prelude.{◌≡◌, ℕ, ◌+◌, ◌<◌, None}
use Rattle.forest_model.specs.Machine.{next}
use Rattle.forest_model.specs.Forest.{call_of, talk_of}
use Rattle.forest_model.specs.Paged.{advanced, advanced_by, stalled_at}
use Rattle.vm_hart.specs.Keyed.{KeyedMachine, keyed, paged}

-- the machine after a step that does not wait, and after so many
abbrev pub moved : KeyedMachine → KeyedMachine
moved v = keyed v.key (advanced (paged v))

abbrev pub moved_by : ℕ → KeyedMachine → KeyedMachine
moved_by n v = keyed v.key (advanced_by n (paged v))

-- a machine lives, the pages that its next step touches are here, and the step is its own: no call and no talk
pub record IsFree (v : KeyedMachine) : Type 0 where
  pub live : v.machine.ending ≡ None
  pub here : stalled_at (paged v) ≡ None
  pub own : call_of (next v.machine) ≡ None
  pub silent : talk_of (next v.machine) ≡ None

-- so are the steps that it makes, so many
abbrev pub IsFreeFor : ℕ → KeyedMachine → Type 0
IsFreeFor n v = (k : ℕ) → k < n → IsFree (moved_by k v)

-- `made` steps lead from old to new, and each was one of a machine that was free to make it
pub record IsRun (old new : KeyedMachine) (made : ℕ) : Type 0 where
  pub steps : new ≡ moved_by made old
  pub counted : new.machine.steps ≡ old.machine.steps + made
  pub free : IsFreeFor made old

-- a step leads from old to new, and was one of a machine that was free to make it
abbrev pub IsStep : KeyedMachine → KeyedMachine → Type 0
IsStep old new = IsFree old × (new ≡ moved old) × (new.machine.steps ≡ old.machine.steps + 1)
