-- A machine of which some pages may be absent, seen as the machine with every page; and the page at which it stops.
use Rattle.std.proofs.Common.{◌≡◌, ℕ, zero, suc, ◌+◌, Bool, true, false, cond, List, [], ◌∷◌, get_or}
use Rattle.std.proofs.Common.{Option, Some, None, IsSome, refl, ap, ◌∙◌, subst, arith, suc-add, zero-add}
use Rattle.std.specs.List.{Contains}
use Rattle.forest_tree.specs.Operations.{Call, IsMachine, IsStep, Makes, is_cloned}
use Rattle.forest_tree.specs.Tree.{Tree}
use Rattle.forest_tree.specs.Projection.{map_tree, Projects}
use Rattle.forest_tree.proofs.Projected.{IsMachine-projected}
use Rattle.forest_model.specs.Machine.{Machine, after_steps}
use Rattle.sibling_forest.specs.Talk.{Box, HasNumberOf, IsTalking}
use Rattle.sibling_forest.specs.Finish as forest
use Rattle.sibling_forest.specs.Laws.{TalksAlike, box_of}
use Rattle.sibling_forest.proofs.Projected.{finish-map}
use Rattle.forest_model.specs.Forest.{machines, talks, finish}
use Rattle.forest_model.specs.Touch.{touch}
use Rattle.forest_model.specs.Paged.{Paged, advanced, advanced_by, first_absent, paged_machines, paged_talks, stalled_at}
use Rattle.forest_model.proofs.Once.{Contains-later}
use Rattle.forest_model.proofs.Rules.{machines-rules}
use Rattle.forest_model.proofs.Talking.{machines-talk}
use Rattle.forest_model.proofs.Touch.{touch-IsSome}

-- ---- the machine with every page

abbrev inner : Paged → Machine
inner p = p.machine

pub paged-projects : Projects paged_machines machines inner
unfolding paged_machines machines
paged-projects = record {
  ending = λ p. refl;
  call = λ p. refl;
  left = λ p. refl;
  holding = λ p. refl;
  cloned = λ p. refl;
  grant = λ p t. refl;
  may_clone = λ p t. refl;
  is_good = λ p. refl;
  advance = λ p. refl;
  forked = λ p. refl;
  child = λ p k. refl;
  after_join = λ p endings. refl;
  after_kill = λ p. refl;
}

pub paged-rules : IsMachine paged_machines
paged-rules = IsMachine-projected paged_machines machines inner paged-projects machines-rules

-- they talk as the machine with every page does
pub paged-alike : TalksAlike paged_talks talks inner
unfolding paged_talks
paged-alike = record { talk = λ p. refl; word = λ p. refl; received = λ p word. refl }

pub paged-finish : (t : Tree (Box Paged)) → finish (map_tree (box_of inner) t) ≡ map_tree (box_of inner) (forest.finish paged_machines paged_talks t)
paged-finish t = finish-map paged_machines machines paged_talks talks inner paged-projects paged-alike t

paged-makes : (p : Paged) (next : Option Call) → Makes paged_machines p next → Makes machines p.machine next
unfolding paged_machines
paged-makes p next h = record { good = h.good; lives = h.lives; call = h.call }

paged-step : (p q : Paged) → IsStep machines p.machine q.machine (is_cloned machines p.machine) → IsStep paged_machines p q (is_cloned paged_machines p)
unfolding paged_machines
paged-step p q h = record {
  good = h.good;
  counted = h.counted;
  holding = h.holding;
  tickets = h.tickets;
  grants = h.grants;
  once = h.once;
}

paged-number : (p q : Paged) → HasNumberOf machines talks p.machine q.machine → HasNumberOf paged_machines paged_talks p q
unfolding paged_talks
paged-number p q h = record { number = h.number; siblings = h.siblings }

pub paged-talk : IsTalking paged_machines paged_talks
unfolding paged_machines paged_talks
paged-talk =
    let t = machines-talk in
    record {
      received = λ p j word makes is.
          paged-step p (paged_talks.received p word) (t.received p.machine j word (paged-makes p None makes) is);
      first = λ p what is. t.first p.machine what is;
      last = λ p what is. t.last p.machine what is;
      other = λ p what is. t.other p.machine what is;
      advance_numbers = λ p. paged-number p (paged_machines.advance p) (t.advance_numbers p.machine);
      received_numbers = λ p word. paged-number p (paged_talks.received p word) (t.received_numbers p.machine word);
      forked_numbers = λ p. paged-number p (paged_machines.forked p) (t.forked_numbers p.machine);
      join_numbers = λ p endings. paged-number p (paged_machines.after_join p endings) (t.join_numbers p.machine endings);
      kill_numbers = λ p. paged-number p (paged_machines.after_kill p) (t.kill_numbers p.machine);
      child_number = λ p u i makes low high. t.child_number p.machine u i (paged-makes p _ makes) low high;
      child_siblings = λ p u i makes low high. t.child_siblings p.machine u i (paged-makes p _ makes) low high;
    }

pub machine-advanced_by : (n : ℕ) (p : Paged) → (advanced_by n p).machine ≡ after_steps n p.machine
unfolding advanced_by after_steps
machine-advanced_by zero p = refl
machine-advanced_by (suc n) p = machine-advanced_by n (advanced p)

pub advanced_by-suc : (n : ℕ) (p : Paged) → advanced_by (suc n) p ≡ advanced (advanced_by n p)
unfolding advanced_by
advanced_by-suc zero p = refl
advanced_by-suc (suc n) p = advanced_by-suc n (advanced p)

pub advanced_by-add : (a b : ℕ) (p : Paged) → advanced_by (a + b) p ≡ advanced_by b (advanced_by a p)
unfolding advanced_by
advanced_by-add zero b p = ap (λ n. advanced_by n p) (zero-add b)
advanced_by-add (suc a) b p = ap (λ n. advanced_by n p) (suc-add a b) ∙ advanced_by-add a b (advanced p)

-- ---- the page at which it stops

-- the page is one of these, and is not here
pub record IsAbsentOf (here : List Bool) (pages : List ℕ) (page : ℕ) : Type 0 where
  pub listed : Contains pages page
  pub absent : get_or here page false ≡ false

first_absent-by : (is_here : Bool) (here : List Bool) (first : ℕ) (rest : List ℕ) (page : ℕ) → get_or here first false ≡ is_here
    → ((p : ℕ) → first_absent here rest ≡ Some p → IsAbsentOf here rest p)
    → cond is_here (first_absent here rest) (Some first) ≡ Some page → IsAbsentOf here (first ∷ rest) page
first_absent-by true here first rest page e later is =
    let h = later page is in record { listed = Contains-later first rest page h.listed; absent = h.absent }
first_absent-by false here first rest page e later is =
    let same : first ≡ page = cc in
    record { listed = (0, omega arith, same); absent = subst (λ p. get_or here p false ≡ false) same e }

first_absent-is : (here : List Bool) (pages : List ℕ) (page : ℕ) → first_absent here pages ≡ Some page → IsAbsentOf here pages page
unfolding first_absent
first_absent-is here [] page is = absurd (cc)
first_absent-is here (first ∷ rest) page is =
    first_absent-by (get_or here first false) here first rest page refl (first_absent-is here rest) is

pub stalled-is : (p : Paged) (page : ℕ) → stalled_at p ≡ Some page → IsAbsentOf p.pages.here (touch p.machine) page
stalled-is p page is = first_absent-is p.pages.here (touch p.machine) page is

pub ended-stalls : (p : Paged) → IsSome p.machine.ending → stalled_at p ≡ None
unfolding first_absent
ended-stalls p h = ap (first_absent p.pages.here) (touch-IsSome p.machine h)
