-- The small machine that talks keeps the rules.
use Rattle.std.proofs.Common.{◌≡◌, ℕ, ◌&&◌, not, nat_le, eqb, eq-eqb, Bool, true, false, refl, sym, ap, ◌∙◌, subst, List, [], ◌∷◌, Option, Some, None}
use Rattle.std.proofs.lemmas.Bool.{and_parts, leb-true}
use Rattle.forest_tree.specs.Operations.{is_cloned, IsStep, IsMachine}
use Rattle.forest_tree.specs.Projection.{Projects}
use Rattle.forest_tree.specs.Toy.{order_of, toy}
use Rattle.forest_tree.proofs.SmallMachine.{IsMachine-toy}
use Rattle.forest_tree.proofs.Projected.{IsMachine-projected}
use Rattle.sibling_forest.specs.Talk.{Talk, peer, IsTalking}
use Rattle.sibling_forest.specs.Toy.{Speaker, is_pause, if_so, chosen, speakers, speech}

projects : Projects speakers toy (λ m. m.toy)
projects = record {
  ending = λ m. refl;
  call = λ m. refl;
  left = λ m. refl;
  holding = λ m. refl;
  cloned = λ m. refl;
  grant = λ m t. refl;
  may_clone = λ m t. refl;
  is_good = λ m. refl;
  advance = λ m. refl;
  forked = λ m. refl;
  child = λ m i. refl;
  after_join = λ m endings. refl;
  after_kill = λ m. refl;
}

pub speaks-machine : IsMachine speakers
speaks-machine = IsMachine-projected speakers toy (λ m. m.toy) projects IsMachine-toy

if_so-is : (b : Bool) (what said : Talk) → if_so b what ≡ Some said → (b ≡ true) × (what ≡ said)
if_so-is true what said e = (refl, some-is what said e)
  where
    some-is : (a b : Talk) → Some a ≡ Some b → a ≡ b
    some-is a b e = cc
if_so-is false what said e = absurd (cc)

record Named (number siblings : ℕ) (said : Talk) : Type 0 where
  first : nat_le 1 (peer said) ≡ true
  last : nat_le (peer said) siblings ≡ true
  other : not (eqb (peer said) number) ≡ true

named : (says : List Talk) (pauses : Bool) (number siblings : ℕ) (said : Talk) → chosen says pauses number siblings ≡ Some said → Named number siblings said
named [] pauses number siblings said e = absurd (cc)
named (what ∷ rest) pauses number siblings said e =
    let is = if_so-is (((pauses && nat_le 1 (peer what)) && nat_le (peer what) siblings) && not (eqb (peer what) number)) what said e in
    let all = and_parts ((pauses && nat_le 1 (peer what)) && nat_le (peer what) siblings) (not (eqb (peer what) number)) is.0 in
    let most = and_parts (pauses && nat_le 1 (peer what)) (nat_le (peer what) siblings) all.0 in
    let some = and_parts pauses (nat_le 1 (peer what)) most.0 in
    subst (Named number siblings) is.1 (record { first = some.1; last = most.1; other = all.1 })

named-by : (m : Speaker) (said : Talk) → speech.talk m ≡ Some said → Named m.number m.siblings said
named-by m said e = named m.says (is_pause (order_of m.toy.orders)) m.number m.siblings said e

valued : (m : Speaker) (word : Option ℕ) (after : List Talk) → IsStep speakers m (speakers.advance m) (is_cloned speakers m)
    → IsStep speakers m (speech.received m word) (is_cloned speakers m)
valued m None after s = record { good = s.good; counted = s.counted; holding = s.holding; tickets = s.tickets; grants = s.grants; once = s.once }
valued m (Some word) after s = record { good = s.good; counted = s.counted; holding = s.holding; tickets = s.tickets; grants = s.grants; once = s.once }

pub speaks-talking : IsTalking speakers speech
speaks-talking = record {
  received = λ m j word makes talks. valued m word [] (speaks-machine.advance m makes);
  first = λ m said e. leb-true 1 (peer said) ((named-by m said e).first);
  last = λ m said e. leb-true (peer said) m.siblings ((named-by m said e).last);
  other = λ m said e same.
      let no : false ≡ true = ap not (sym (eq-eqb (peer said) m.number same)) ∙ (named-by m said e).other in absurd (cc);
  advance_numbers = λ m. record { number = refl; siblings = refl };
  received_numbers = λ m word. record { number = refl; siblings = refl };
  forked_numbers = λ m. record { number = refl; siblings = refl };
  join_numbers = λ m endings. record { number = refl; siblings = refl };
  kill_numbers = λ m. record { number = refl; siblings = refl };
  child_number = λ m t i makes first last. refl;
  child_siblings = λ m t i makes first last. refl;
}
