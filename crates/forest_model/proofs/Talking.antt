-- The machines talk as a forest asks it: each keeps its number and how many siblings it has, and a talk names a sibling.
use Rattle.std.proofs.Common.{◌≡◌, ◌≢◌, ℕ, ◌≤◌, ◌<◌, ◌^◌, eqb, List, [], Option, Some, None, refl, sym, ap, ◌∙◌, subst}
use Rattle.fork_port.specs.declared.commands.Call.TheVariants as call
use Rattle.fork_port.specs.declared.commands.Asked.{Asked}
use Rattle.fork_port.specs.declared.commands.Asked.TheVariants as asked
use Rattle.fork_port.specs.declared.ending.Ending.{Ending}
use Rattle.fork_port.specs.declared.tickets.Ticket.{Ticket}
use Rattle.fork_port.specs.Registers.{ForkRegisters, ticket_found}
use Rattle.fork_port.specs.Children as fork
use Rattle.fork_port.specs.Children.{children_granted, joined_from, killed_from}
use Rattle.fork_port.specs.Commands.{answered, fork_command}
use Rattle.fork_port.proofs.TicketLemmas.{either}
use Rattle.fork_port.proofs.StoreLemmas.{each_store}
use Rattle.sibling_port.specs.declared.talk.Talk as port
use Rattle.sibling_port.specs.declared.talk.Talk.TheVariants.{Send, Receive}
use Rattle.sibling_port.specs.Registers.{SiblingRegisters}
use Rattle.sibling_port.specs.Commands.{named, sibling_command}
use Rattle.sibling_port.proofs.Stores as siblings
use Rattle.sibling_port.proofs.Stores.{siblings_commanded, siblings_talked}
use Rattle.port_rules.specs.Rules.{cloned_numbers, grant_of}
use Rattle.forest_tree.specs.Operations as tree
use Rattle.forest_tree.specs.Operations.{Makes}
use Rattle.sibling_forest.specs.Talk.{Talk, peer, HasNumberOf, IsTalking}
use Rattle.sibling_forest.specs.Members.{IsWholeForest}
use Rattle.sibling_forest.proofs.Members.{alone-whole}
use Rattle.elf_load.specs.Image.{Image}
use Rattle.forest_model.specs.declared.Options.{Options}
use Rattle.forest_model.specs.Action.{Action, ask, speak}
use Rattle.forest_model.specs.Execute.{action}
use Rattle.forest_model.specs.Machine.{Machine, next, advance, boot}
use Rattle.forest_model.specs.Calls.{fork_of, forked_by, forked, children_of, child, joined_by, after_join, killed_by, after_kill}
use Rattle.forest_model.specs.Talks.{talked_by, talked, received, stepped}
use Rattle.forest_model.specs.Forest.{port_of, talk_of, tree_talk, machines, talks, booted}
use Rattle.forest_model.proofs.PortWalk.{IsKept, port-advance, same-fork, same-sibling, sibling_of}
use Rattle.forest_model.proofs.Calls.{Leads, leads, clone-asks, child-is, sibling-child}
use Rattle.forest_model.proofs.Spoken.{ComesTo, Kind, own, says, kind-of, answer_of, received-talked, stepped-own, stepped-talk, talks-at}
use Rattle.forest_model.proofs.Rules.{booted-good, machines-rules, received-steps}

-- ---- what the ports keep

-- the number of the machine, and how many siblings it has
record IsNumbered (own_number count : ℕ) (f : ForkRegisters) (r : SiblingRegisters) : Type 0 where
  number : f.clone_id ≡ own_number
  siblings : r.siblings ≡ count

module _ (f : ForkRegisters) where
  number-after_ticket : (fork.after_ticket f).clone_id ≡ f.clone_id
  unfolding fork.after_ticket
  number-after_ticket =
      either (λ (g : ForkRegisters). g.clone_id ≡ f.clone_id) (eqb f.first_argument 0) _ _ refl
      (either (λ (g : ForkRegisters). g.clone_id ≡ f.clone_id) (eqb (children_granted f) 0) _ _ refl refl)

  number-after_join : (t : ℕ) (endings : List Ending) → (fork.after_join f t endings).clone_id ≡ f.clone_id
  unfolding fork.after_join
  number-after_join t endings = by (ticket_found f t)
    where
      by : (found : Option Ticket) → (joined_from found f t endings).clone_id ≡ f.clone_id
      by None = refl
      by (Some ticket) = refl

  number-after_kill : (t : ℕ) → (fork.after_kill f t).clone_id ≡ f.clone_id
  unfolding fork.after_kill
  number-after_kill t = by (ticket_found f t)
    where
      by : (found : Option Ticket) → (killed_from found f t).clone_id ≡ f.clone_id
      by None = refl
      by (Some ticket) = refl

  number-answered : (a : Asked) → (answered a f).clone_id ≡ f.clone_id
  number-answered (asked.Refused word) = refl
  number-answered asked.NewTicket = number-after_ticket
  number-answered (asked.Discard number) = number-after_kill number
  number-answered (asked.Call c) = refl
  number-answered (asked.Exit value) = refl
  number-answered (asked.ExitWith value address count) = refl
  number-answered (asked.Zero first count) = refl

  numbered-kept : (r : SiblingRegisters) → IsKept (IsNumbered f.clone_id r.siblings) f r
  numbered-kept r = record {
    before = record { number = refl; siblings = refl };
    after_store = λ offset width word.
        each_store (λ s. IsNumbered f.clone_id r.siblings s.fork r) f offset width word
        (record { number = refl; siblings = refl }) (record { number = refl; siblings = refl }) (record { number = refl; siblings = refl })
        (record { number = number-answered (fork_command f word); siblings = refl });
    after_word = λ offset width word.
        siblings.each_store (λ t. IsNumbered f.clone_id r.siblings f t.port) f.clone_id r offset width word
        (record { number = refl; siblings = refl }) (record { number = refl; siblings = refl })
        (record { number = refl; siblings = siblings_commanded (sibling_command f.clone_id r word) r });
    after_answer = λ g q word k. record { number = k.number; siblings = k.siblings };
  }

-- ---- what each step keeps

abbrev Keeps : Machine → Machine → Type 0
Keeps m n = HasNumberOf machines talks m n

module _ (m : Machine) where
  advance-keeps : Keeps m (advance m)
  unfolding talks
  advance-keeps =
      let k = port-advance (IsNumbered (port_of m).clone_id (sibling_of m.state).siblings) m (numbered-kept (port_of m) (sibling_of m.state)) in
      record { number = k.number; siblings = k.siblings }

  talked-keeps : (word : Option ℕ) (answer : ℕ) → Keeps m (talked m word answer)
  unfolding talks talked
  talked-keeps word answer = by (action m.state) (leads m)
    where
      by : (a : Action) → Leads m a → Keeps m (talked_by a m word answer)
      by (speak t s) h = record {
        number = ap (λ (f : ForkRegisters). f.clone_id) (same-fork h);
        siblings = (siblings_talked (sibling_of s) word answer).0 ∙ ap (λ (r : SiblingRegisters). r.siblings) (same-sibling h);
      }
      by _ h = record { number = refl; siblings = refl }

  stepped-keeps : Keeps m (stepped m)
  stepped-keeps = by (kind-of m)
    where
      by : Kind m → Keeps m (stepped m)
      by (own silent) = subst (Keeps m) (sym (stepped-own m silent)) advance-keeps
      by (says t a) = subst (Keeps m) (sym (stepped-talk m t a)) (talked-keeps None _)

  received-keeps : (word : Option ℕ) → Keeps m (received m word)
  received-keeps word = subst (Keeps m) (sym (received-talked m word)) (talked-keeps word (answer_of word))

  forked-keeps : Keeps m (forked m)
  unfolding talks forked
  forked-keeps = by (action m.state) (leads m)
    where
      by : (a : Action) → Leads m a → Keeps m (forked_by a m)
      by (ask (call.Clone t) s) h = record {
        number = ap (λ (f : ForkRegisters). f.clone_id) (same-fork h);
        siblings = ap (λ (r : SiblingRegisters). r.siblings) (same-sibling h);
      }
      by _ h = record { number = refl; siblings = refl }

  joined-keeps : (endings : List Ending) → Keeps m (after_join m endings)
  unfolding talks after_join
  joined-keeps endings = by (action m.state) (leads m)
    where
      by : (a : Action) → Leads m a → Keeps m (joined_by a m endings)
      by (ask (call.Join t) s) h = record {
        number = number-after_join (fork_of s) t endings ∙ ap (λ (f : ForkRegisters). f.clone_id) (same-fork h);
        siblings = ap (λ (r : SiblingRegisters). r.siblings) (same-sibling h);
      }
      by _ h = record { number = refl; siblings = refl }

  killed-keeps : Keeps m (after_kill m)
  unfolding talks after_kill
  killed-keeps = by (action m.state) (leads m)
    where
      by : (a : Action) → Leads m a → Keeps m (killed_by a m)
      by (ask (call.Kill t) s) h = record {
        number = number-after_kill (fork_of s) t ∙ ap (λ (f : ForkRegisters). f.clone_id) (same-fork h);
        siblings = ap (λ (r : SiblingRegisters). r.siblings) (same-sibling h);
      }
      by _ h = record { number = refl; siblings = refl }

-- ---- children

count-granted : (found : Option Ticket) → children_of found ≡ (grant_of found).children
count-granted None = refl
count-granted (Some ticket) = refl

module _ (m : Machine) (t k : ℕ) (makes : Makes machines m (Some (tree.clone t))) where
  child-number : talks.number (child m k) ≡ k
  unfolding machines talks
  child-number = ap (λ (n : Machine). (port_of n).clone_id) (child-is m t k (clone-asks m t makes.call))

  child-siblings : talks.siblings (child m k) ≡ (machines.grant m t).children
  unfolding machines talks
  child-siblings =
      ap (λ (r : SiblingRegisters). r.siblings) (sibling-child m t k makes.call) ∙ count-granted (ticket_found (port_of m) t)

-- ---- a talk names a sibling

peer-named : (t : port.Talk) → peer (tree_talk t) ≡ named t
peer-named (Send j) = refl
peer-named (Receive j) = refl

peer-is : (m : Machine) (what : Talk) (a : ComesTo m what) → peer what ≡ (sibling_of m.state).peer
peer-is m what a = ap peer (sym a.same) ∙ peer-named a.said ∙ a.speaks.names.1

module _ (m : Machine) (what : Talk) (is : talk_of (next m) ≡ Some what) where
  peer-first : 1 ≤ peer what
  peer-first = let a = talks-at m what is in subst (λ j. 1 ≤ j) (sym (peer-is m what a)) a.speaks.names.0.first

  peer-last : peer what ≤ (sibling_of m.state).siblings
  peer-last =
      let a = talks-at m what is in
      subst (λ j. j ≤ (sibling_of m.state).siblings) (sym (peer-is m what a)) a.speaks.names.0.last

  peer-other : peer what ≢ (port_of m).clone_id
  peer-other =
      let a = talks-at m what is in
      subst (λ j. j ≢ (port_of m).clone_id) (sym (peer-is m what a)) a.speaks.names.0.other

pub machines-talk : IsTalking machines talks
unfolding machines talks
machines-talk = record {
  received = λ m j word makes is. received-steps m _ word makes is;
  first = peer-first;
  last = peer-last;
  other = peer-other;
  advance_numbers = stepped-keeps;
  received_numbers = received-keeps;
  forked_numbers = forked-keeps;
  join_numbers = joined-keeps;
  kill_numbers = killed-keeps;
  child_number = λ m t i makes low high. child-number m t i makes;
  child_siblings = λ m t i makes low high. child-siblings m t i makes;
}

-- a machine that is booted has no siblings
pub booted-whole : (image : Image) (disk input : List ℕ) (options : Options) → 0 < options.limit → options.allot < 2 ^ 32
    → IsWholeForest machines talks (booted image disk input options)
unfolding machines talks boot cloned_numbers
booted-whole image disk input options some fits =
    alone-whole machines talks machines-rules machines-talk (boot image disk input options) []
    (booted-good image disk input options some fits) refl refl
