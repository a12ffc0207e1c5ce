-- Trees whose machines, with the words to them, are kept at home or out on lease.
use Rattle.std.specs.Prelude.{ℕ, zero, suc, Bool, true, not, ◌&&◌, is_some}
use Rattle.forest_tree.specs.Operations.{Operations}
use Rattle.forest_tree.specs.Tree.{Tree, node}
use Rattle.forest_tree.specs.Projection.{map_tree}
use Rattle.sibling_forest.specs.Talk.{Talks, Box, boxed}
use Rattle.sibling_forest.specs.Laws.{box_of}

-- where a machine is
pub data Place : Type 0 where
  -- at home, and not woken from its descriptor yet
  asleep : Place
  home : Place
  -- on lease
  out : Place
  -- at home, where it came to wait
  parked : Place

pub record Spot (M : Type 0) : Type 0 where
  pub machine : M
  pub place : Place

abbrev pub put : {M : Type 0} → Place → Spot M → Spot M
put place s = record s { place = place }

-- the tree with its machine at another place
abbrev pub placed : {M : Type 0} → Place → Tree (Box (Spot M)) → Tree (Box (Spot M))
placed place (node b broods log) = node (record b { machine = put place b.machine }) broods log

-- the tree of the machines alone, each with the words to it
abbrev pub bare : {M : Type 0} → Tree (Box (Spot M)) → Tree (Box M)
bare t = map_tree (box_of (λ s. s.machine)) t

module _ {M E : Type 0} (o : Operations M E) where
  -- what a forest uses of a machine at its place. A child is born asleep
  unfoldable pub spots : Operations (Spot M) E
  spots = record {
    ending = λ s. o.ending s.machine;
    call = λ s. o.call s.machine;
    left = λ s. o.left s.machine;
    holding = λ s. o.holding s.machine;
    cloned = λ s. o.cloned s.machine;
    grant = λ s t. o.grant s.machine t;
    may_clone = λ s t. o.may_clone s.machine t;
    is_good = λ s. o.is_good s.machine;
    advance = λ s. record s { machine = o.advance s.machine };
    forked = λ s. record s { machine = o.forked s.machine };
    child = λ s k. record { machine = o.child s.machine k; place = asleep };
    after_join = λ s endings. record s { machine = o.after_join s.machine endings };
    after_kill = λ s. record s { machine = o.after_kill s.machine };
  }

-- a machine at its place talks as the machine does
unfoldable pub spot_talks : {M : Type 0} → Talks M → Talks (Spot M)
spot_talks k = record {
  talk = λ s. k.talk s.machine;
  word = λ s. k.word s.machine;
  received = λ s word. record s { machine = k.received s.machine word };
  number = λ s. k.number s.machine;
  siblings = λ s. k.siblings s.machine;
}

module _ {M E : Type 0} (o : Operations M E) (k : Talks M) where
  -- what a forest uses of a machine at its place, with the words to it
  abbrev pub boxes : Operations (Box (Spot M)) E
  boxes = boxed (spots o) (spot_talks k)

  -- its next steps, so many, are its own: it lives before each, and none is a call or a talk
  unfoldable pub may_run : ℕ → M → Bool
  may_run zero m = true
  may_run (suc n) m =
      not (is_some (o.ending m)) && (not (is_some (o.call m)) && (not (is_some (k.talk m)) && may_run n (o.advance m)))
