-- Machines with the words to them keep the rules of machines.
use Rattle.std.proofs.Common.{◌≡◌, ℕ, Bool, List, [], ◌∷◌, refl, Option, Some, None}
use Rattle.forest_tree.specs.Operations.{Call, clone, join, kill, Operations, is_cloned, Makes, IsStep, IsChild, IsMachine}
use Rattle.sibling_forest.specs.Talk.{Talk, send, receive, Talks, Inbox, queue, Box, after_receive, advance_by, boxed, IsTalking}

module _ {M E : Type 0} (o : Operations M E) (k : Talks M) where
  pub bare-makes : (b : Box M) (next : Option Call) → Makes (boxed o k) b next → Makes o b.machine next
  unfolding boxed
  bare-makes b next h = record { good = h.good; lives = h.lives; call = h.call }

  boxed-step : (b : Box M) (n : M) (inbox : Inbox) (cloned : ℕ → Bool) → IsStep o b.machine n cloned
      → IsStep (boxed o k) b (record { machine = n; inbox = inbox }) cloned
  unfolding boxed
  boxed-step b n inbox cloned s =
      record { good = s.good; counted = s.counted; holding = s.holding; tickets = s.tickets; grants = s.grants; once = s.once }

  module _ (rules : IsMachine o) (talking : IsTalking o k) where
    receive-step : (b : Box M) (j : ℕ) (q : List ℕ) → Makes o b.machine None → k.talk b.machine ≡ Some (receive j)
        → IsStep (boxed o k) b (after_receive o k q j b) (is_cloned o b.machine)
    receive-step b j [] makes talks = boxed-step b (k.received b.machine None) _ _ (talking.received b.machine j None makes talks)
    receive-step b j (word ∷ rest) makes talks =
        boxed-step b (k.received b.machine (Some word)) _ _ (talking.received b.machine j (Some word) makes talks)

    advance-step : (b : Box M) (what : Option Talk) → k.talk b.machine ≡ what → Makes o b.machine None
        → IsStep (boxed o k) b (advance_by o k what b) (is_cloned o b.machine)
    advance-step b None talks makes = boxed-step b (o.advance b.machine) _ _ (rules.advance b.machine makes)
    advance-step b (Some (send j)) talks makes = boxed-step b (o.advance b.machine) _ _ (rules.advance b.machine makes)
    advance-step b (Some (receive j)) talks makes = receive-step b j (queue j b.inbox) makes talks

    child-is : (b : Box M) (t i : ℕ) (inbox : Inbox) → IsChild o b.machine t (o.child b.machine i)
        → IsChild (boxed o k) b t (record { machine = o.child b.machine i; inbox = inbox })
    unfolding boxed
    child-is b t i inbox c = record { good = c.good; counted = c.counted; holding = c.holding; tickets = c.tickets }

    pub boxed-machine : IsMachine (boxed o k)
    unfolding boxed
    boxed-machine = record {
      below_limit = λ b good lives. rules.below_limit b.machine good lives;
      advance = λ b makes. advance-step b (k.talk b.machine) refl (bare-makes b None makes);
      cloned_once = λ b t good cloned. rules.cloned_once b.machine t good cloned;
      clone_affords = λ b t makes. rules.clone_affords b.machine t (bare-makes b (Some (clone t)) makes);
      clone_may = λ b t makes. rules.clone_may b.machine t (bare-makes b (Some (clone t)) makes);
      forked = λ b t makes. boxed-step b (o.forked b.machine) _ _ (rules.forked b.machine t (bare-makes b (Some (clone t)) makes));
      child = λ b t i makes first last. child-is b t i _ (rules.child b.machine t i (bare-makes b (Some (clone t)) makes) first last);
      join_is_cloned = λ b t makes. rules.join_is_cloned b.machine t (bare-makes b (Some (join t)) makes);
      after_join = λ b t endings makes sized.
          boxed-step b (o.after_join b.machine endings) _ _ (rules.after_join b.machine t endings (bare-makes b (Some (join t)) makes) sized);
      kill_is_cloned = λ b t makes. rules.kill_is_cloned b.machine t (bare-makes b (Some (kill t)) makes);
      after_kill = λ b t makes. boxed-step b (o.after_kill b.machine) _ _ (rules.after_kill b.machine t (bare-makes b (Some (kill t)) makes));
    }
