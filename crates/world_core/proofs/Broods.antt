-- A cell before and after the calls of its machine.
use Rattle.sibling_forest.specs.Talk.{boxed}
use Rattle.std.proofs.Common.{◌≡◌, ℕ, ◌+◌, ◌≤◌, ◌&&◌, ◌||◌, not, Bool, true, false, cond, eqb, eqb-true, List, [], ◌∷◌, ◌++◌, length, replicate}
use Rattle.std.proofs.Common.{Option, Some, None, refl, sym, ap, ◌∙◌, subst, arith, vec_len, vec_capacity}
use Rattle.std.specs.BTreeMap.{btree_map_len, get, is_at}
use Rattle.std.specs.Ordering.{is_eq, nat_cmp}
use Rattle.std.proofs.lemmas.Bool.Decides.{nat_tests}
use Rattle.std.proofs.Math.ListN.{length-replicate}
use Rattle.fork_port.specs.declared.commands.Call as port
use Rattle.fork_port.specs.declared.commands.Call.TheVariants as fork
use Rattle.fork_port.specs.declared.ending.Ending.{Ending}
use Rattle.forest_tree.specs.Operations.{Call, clone, join, kill, Grant, is_cloned, Makes, IsStep, IsMachine}
use Rattle.forest_tree.specs.Tree.{Tree, node, Trees, no_tree, Broods, machine, broods_of, brood_of, without, Path}
use Rattle.forest_tree.specs.Step.{have_ended, endings, children}
use Rattle.forest_tree.proofs.Sound.{root-sound, join-step, size-cloned, length-endings}
use Rattle.forest_tree.proofs.Rests.{lives-none}
use Rattle.forest_tree.proofs.Places.{brood_of-without}
use Rattle.talking_history.specs.Places.{spots}
use Rattle.forest_model.specs.Forest.{machines}
use Rattle.forest_model.specs.Paged.{Paged, paged_machines}
use Rattle.image_depot.specs.Key.{Shelves}
use Rattle.vm_cell.specs.Standing.{IsJoin}
use Rattle.vm_cell.specs.Keyed.{KeyedMachine, paged}
use Rattle.vm_cell.specs.Woken.{AreSeeds}
use Rattle.vm_cell.specs.declared.vm.fork.ForkImage.{ForkImage}
use Rattle.run_report.specs.Lines.{Line, ticket_line, lines, log_lines}
use Rattle.world_core.specs.declared.cell.Brood.{Brood}
use Rattle.world_core.specs.declared.cell.Cell.{Cell}
use Rattle.world_core.specs.declared.cell.ChildSlot.{ChildSlot}
use Rattle.world_core.specs.declared.cell.ChildSlot.TheVariants.{Asleep}
use Rattle.world_core.specs.Broods.{slot_endings, slot_lines}
use Rattle.world_core.specs.PreparedFork.{IsNewBrood, IsSilent}
use Rattle.world_core.specs.Shows.{Member, paged_of, forest, told_member, BroodAt, BroodShows, TallyAt, IsTallied, Tallies, Holds, HoldsAfter, StandsAt, killed_tree, joined_tree, forked_tree}
use Rattle.world_core.proofs.Steps.{forest-rules}
use Rattle.world_core.proofs.BroodSlots.{brood_born, brood_endings, brood_lines}

-- ---- machines at their places

rules : IsMachine forest
rules = forest-rules

module _ (vm : Paged) (next : Call) where
  makes : (t : Tree Member) → StandsAt vm next t → Makes forest (machine t) (Some next)
  unfolding boxed spots paged_machines machines
  makes (node s broods log) at = record {
    good = (root-sound forest s broods log at.sound).good;
    lives = ap (λ (p : Paged). p.machine.ending) at.is ∙ at.lives;
    call = ap paged_machines.call at.is ∙ at.at_call;
  }

-- ---- the brood of a cloned ticket

tallied : (path : Path) (count : ℕ) (o : Option Brood) (b : Brood) (cloned : Bool) → o ≡ Some b → cloned ≡ true → TallyAt path count o cloned → IsTallied path count b
tallied path count o b cloned found is h = subst (λ (p : Option Brood). TallyAt path count p true) found (subst (TallyAt path count o) is h)

untallied : (path : Path) (count : ℕ) (o : Option Brood) (cloned : Bool) → o ≡ None → cloned ≡ true → TallyAt path count o cloned → ⊥
untallied path count o cloned found is h = subst (λ (p : Option Brood). TallyAt path count p true) found (subst (TallyAt path count o) is h)

shown : (depot : Shelves) (path : Path) (u : ℕ) (o : Option Brood) (b : Brood) (cloned : Bool) (trees : Trees Member) → o ≡ Some b → cloned ≡ true
    → BroodAt depot path u o cloned trees → BroodShows depot path u b trees
shown depot path u o b cloned trees found is h =
    subst (λ (p : Option Brood). BroodAt depot path u p true trees) found (subst (λ (c : Bool). BroodAt depot path u o c trees) is h)

-- ---- the look-ups of a map after a change

same_number : (a b : ℕ) → is_eq (nat_cmp a b) ≡ eqb a b
same_number a b = grind (arith, nat_tests)

-- ---- a ticket is gone

gone_tally : (path : Path) (before after : ℕ) (o : Option Brood) (same cloned : Bool) → (not same && cloned ≡ true → after ≡ before) → TallyAt path before o cloned
    → TallyAt path after (cond same None o) (not same && cloned)
gone_tally path before after o true cloned counts h = tt
gone_tally path before after o false true counts h = subst (λ n. TallyAt path n o true) (sym (counts refl)) h
gone_tally path before after None false false counts h = tt
gone_tally path before after (Some b) false false counts h = absurd h

gone_brood : (depot : Shelves) (path : Path) (u : ℕ) (o : Option Brood) (same cloned : Bool) (trees : Trees Member) → BroodAt depot path u o cloned trees
    → BroodAt depot path u (cond same None o) (not same && cloned) (cond same no_tree trees)
gone_brood depot path u o true cloned trees h = refl
gone_brood depot path u o false cloned trees h = h

-- the machine n comes from s, and one ticket is gone
module _ (ticket : ℕ) (s n : Member) (step : IsStep forest s n (λ u. not (eqb ticket u) && is_cloned forest s u)) (c new : Cell)
    (updates : (u : ℕ) → get nat_cmp new.broods u ≡ cond (is_at (nat_cmp ticket) u) None (get nat_cmp c.broods u)) where
  looked_up : (u : ℕ) → get nat_cmp new.broods u ≡ cond (eqb ticket u) None (get nat_cmp c.broods u)
  looked_up u = updates u ∙ ap (λ (b : Bool). cond b None (get nat_cmp c.broods u)) (same_number ticket u)

  gone_tallies : (path : Path) → ((u : ℕ) → TallyAt path (forest.grant s u).children (get nat_cmp c.broods u) (is_cloned forest s u))
      → (u : ℕ) → TallyAt path (forest.grant n u).children (get nat_cmp new.broods u) (is_cloned forest n u)
  gone_tallies path h u =
      subst (TallyAt path (forest.grant n u).children (get nat_cmp new.broods u)) (sym (step.tickets u))
      (subst (λ (o : Option Brood). TallyAt path (forest.grant n u).children o (not (eqb ticket u) && is_cloned forest s u)) (sym (looked_up u))
      (gone_tally path (forest.grant s u).children (forest.grant n u).children (get nat_cmp c.broods u) (eqb ticket u) (is_cloned forest s u)
      (λ is. ap (λ (g : Grant). g.children) (step.grants u (step.tickets u ∙ is))) (h u)))

  gone_broods : (depot : Shelves) (path : Path) (broods : Broods Member)
      → ((u : ℕ) → BroodAt depot path u (get nat_cmp c.broods u) (is_cloned forest s u) (brood_of u broods))
      → (u : ℕ) → BroodAt depot path u (get nat_cmp new.broods u) (is_cloned forest n u) (brood_of u (without ticket broods))
  gone_broods depot path broods h u =
      subst (BroodAt depot path u (get nat_cmp new.broods u) (is_cloned forest n u)) (sym (brood_of-without ticket u broods))
      (subst (λ (b : Bool). BroodAt depot path u (get nat_cmp new.broods u) b (cond (eqb ticket u) no_tree (brood_of u broods))) (sym (step.tickets u))
      (subst (λ (o : Option Brood). BroodAt depot path u o (not (eqb ticket u) && is_cloned forest s u) (cond (eqb ticket u) no_tree (brood_of u broods))) (sym (looked_up u))
      (gone_brood depot path u (get nat_cmp c.broods u) (eqb ticket u) (is_cloned forest s u) (brood_of u broods) (h u))))

-- ---- KILL

module _ (depot : Shelves) (path : Path) (vm : Paged) (ticket : ℕ) (c new : Cell) (b : Brood) (found : get nat_cmp c.broods ticket ≡ Some b)
    (updates : (u : ℕ) → get nat_cmp new.broods u ≡ cond (is_at (nat_cmp ticket) u) None (get nat_cmp c.broods u))
    (room : vec_len new.log + btree_map_len new.broods ≤ vec_capacity new.log) where
  pub killed_after : (t : Tree Member) → new.log.items ≡ c.log.items ++ ticket_line b.name ticket (vec_len b.slots) ∷ []
      → Holds depot path c t → StandsAt vm (kill ticket) t → HoldsAfter depot path new (killed_tree ticket t)
  unfolding lines
  killed_after (node s broods log) told h at =
      let m = makes vm (kill ticket) (node s broods log) at in
      let step = rules.after_kill s ticket m in
      let n = forest.after_kill s in
      let count : ℕ = (forest.grant s ticket).children in
      let one = tallied path count (get nat_cmp c.broods ticket) b (is_cloned forest s ticket) found (rules.kill_is_cloned s ticket m) (h.tallies.broods ticket) in
      let tallies : Tallies path new (killed_tree ticket (node s broods log)) = record {
        log = told ∙ ap (λ (items : List Line). items ++ ticket_line b.name ticket (vec_len b.slots) ∷ []) h.tallies.log
            ∙ ap (λ (p : Path). log_lines told_member path log ++ ticket_line p ticket (vec_len b.slots) ∷ []) one.name
            ∙ ap (λ (size : ℕ). log_lines told_member path log ++ ticket_line path ticket size ∷ []) one.size;
        room = room;
        broods = gone_tallies ticket s n step c new updates path h.tallies.broods;
      } in
      (tallies, λ lives. record { tallies = tallies; broods = gone_broods ticket s n step c new updates depot path broods h.broods })

  pub joined_after : (t : Tree Member) → new.log.items ≡ c.log.items ++ slot_lines b.slots.items → have_ended forest (brood_of ticket (broods_of t)) ≡ true
      → Holds depot path c t → StandsAt vm (join ticket) t → HoldsAfter depot path new (joined_tree ticket t)
  unfolding lines
  joined_after (node s broods log) told all h at =
      let m = makes vm (join ticket) (node s broods log) at in
      let step = join-step forest rules ticket s broods log all m at.sound in
      let trees = brood_of ticket broods in
      let n = forest.after_join s (endings forest trees) in
      let one = shown depot path ticket (get nat_cmp c.broods ticket) b (is_cloned forest s ticket) trees found (rules.join_is_cloned s ticket m) (h.broods ticket) in
      let tallies : Tallies path new (joined_tree ticket (node s broods log)) = record {
        log = told ∙ ap (λ (items : List Line). items ++ slot_lines b.slots.items) h.tallies.log
            ∙ ap (λ (items : List Line). log_lines told_member path log ++ items) (brood_lines depot path ticket b trees one all);
        room = room;
        broods = gone_tallies ticket s n step c new updates path h.tallies.broods;
      } in
      (tallies, λ lives. record { tallies = tallies; broods = gone_broods ticket s n step c new updates depot path broods h.broods })

module _ (depot : Shelves) (path : Path) (vm : Paged) (ticket : ℕ) (c : Cell) where
  -- a machine that kills or joins a ticket has a brood of it
  pub killed_there : (t : Tree Member) → get nat_cmp c.broods ticket ≡ None → Holds depot path c t → StandsAt vm (kill ticket) t → ⊥
  killed_there (node s broods log) none h at =
      untallied path (forest.grant s ticket).children (get nat_cmp c.broods ticket) (is_cloned forest s ticket) none
      (rules.kill_is_cloned s ticket (makes vm (kill ticket) (node s broods log) at)) (h.tallies.broods ticket)

  pub joined_there : (t : Tree Member) → get nat_cmp c.broods ticket ≡ None → Holds depot path c t → StandsAt vm (join ticket) t → ⊥
  joined_there (node s broods log) none h at =
      untallied path (forest.grant s ticket).children (get nat_cmp c.broods ticket) (is_cloned forest s ticket) none
      (rules.join_is_cloned s ticket (makes vm (join ticket) (node s broods log) at)) (h.tallies.broods ticket)

  pub joined_endings : (t : Tree Member) (b : Brood) → get nat_cmp c.broods ticket ≡ Some b → Holds depot path c t → StandsAt vm (join ticket) t
      → have_ended forest (brood_of ticket (broods_of t)) ≡ true → slot_endings b.slots.items ≡ endings forest (brood_of ticket (broods_of t))
  joined_endings (node s broods log) b found h at all =
      let m = makes vm (join ticket) (node s broods log) at in
      let trees = brood_of ticket broods in
      brood_endings depot path ticket b trees
      (shown depot path ticket (get nat_cmp c.broods ticket) b (is_cloned forest s ticket) trees found (rules.join_is_cloned s ticket m) (h.broods ticket)) all

  granted : (s : Member) → paged_of s ≡ vm → forest.grant s ticket ≡ paged_machines.grant vm ticket
  unfolding boxed spots
  granted s is = ap (λ (p : Paged). paged_machines.grant p ticket) is

  pub as_many : (t : Tree Member) → StandsAt vm (join ticket) t → have_ended forest (brood_of ticket (broods_of t)) ≡ true
      → length (endings forest (brood_of ticket (broods_of t))) ≡ (machines.grant vm.machine ticket).children
  unfolding paged_machines
  as_many (node s broods log) at all =
      let m = makes vm (join ticket) (node s broods log) at in
      length-endings forest (brood_of ticket broods) all
      ∙ size-cloned forest rules ticket s broods log m.lives (rules.join_is_cloned s ticket m) at.sound
      ∙ ap (λ (g : Grant). g.children) (granted s at.is)

  pub is_join : (endings : List Ending) (next : Option port.Call) → next ≡ Some (fork.Join ticket) → length endings ≡ (machines.grant vm.machine ticket).children
      → IsJoin vm.machine endings next
  is_join endings next stands size = subst (IsJoin vm.machine endings) (sym stands) size

-- ---- CLONE

come_tally : (path : Path) (before after : ℕ) (o : Option Brood) (b : Brood) (same cloned : Bool) → (same || cloned ≡ true → after ≡ before) → (same ≡ true → IsTallied path before b)
    → TallyAt path before o cloned → TallyAt path after (cond same (Some b) o) (same || cloned)
come_tally path before after o b true cloned counts one h = subst (λ n. IsTallied path n b) (sym (counts refl)) (one refl)
come_tally path before after o b false true counts one h = subst (λ n. TallyAt path n o true) (sym (counts refl)) h
come_tally path before after None b false false counts one h = tt
come_tally path before after (Some other) b false false counts one h = absurd h

come_brood : (depot : Shelves) (path : Path) (u : ℕ) (o : Option Brood) (b : Brood) (same cloned : Bool) (kids trees : Trees Member)
    → (same ≡ true → BroodShows depot path u b kids) → BroodAt depot path u o cloned trees
    → BroodAt depot path u (cond same (Some b) o) (same || cloned) (cond same kids trees)
come_brood depot path u o b true cloned kids trees one h = one refl
come_brood depot path u o b false cloned kids trees one h = h

module _ (depot : Shelves) (path : Path) (keyed : KeyedMachine) (ticket : ℕ) (c new : Cell) (room : vec_len new.log + btree_map_len new.broods ≤ vec_capacity new.log)
    (same_log : new.log.items ≡ c.log.items) where
  abbrev vm : Paged
  vm = paged keyed

  pub forked_after : (b : Brood) (image : ForkImage) (t : Tree Member) → IsNewBrood depot path keyed ticket b image
      → ((u : ℕ) → get nat_cmp new.broods u ≡ cond (is_at (nat_cmp ticket) u) (Some b) (get nat_cmp c.broods u))
      → Holds depot path c t → StandsAt vm (clone ticket) t → HoldsAfter depot path new (forked_tree ticket t)
  unfolding brood_of paged_machines
  forked_after b image (node s broods log) born updates h at =
      let m = makes vm (clone ticket) (node s broods log) at in
      let step = rules.forked s ticket m in
      let n = forest.forked s in
      let kids = children forest s ticket in
      let looked : (u : ℕ) → get nat_cmp new.broods u ≡ cond (eqb ticket u) (Some b) (get nat_cmp c.broods u) =
      λ u. updates u ∙ ap (λ (x : Bool). cond x (Some b) (get nat_cmp c.broods u)) (same_number ticket u) in
      let count : (machines.grant vm.machine ticket).children ≡ (forest.grant s ticket).children =
      ap (λ (g : Grant). g.children) (sym (granted depot path vm ticket c s at.is)) in
      let size : vec_len b.slots ≡ (machines.grant vm.machine ticket).children =
      b.slots.ok.0 ∙ ap (λ (slots : List ChildSlot). length slots) born.slots ∙ length-replicate (machines.grant vm.machine ticket).children Asleep in
      let one : IsTallied path (forest.grant s ticket).children b = record { name = born.name; size = size ∙ count; few = omega (arith, size, born.few) } in
      let tallies : Tallies path new (forked_tree ticket (node s broods log)) = record {
        log = same_log ∙ h.tallies.log;
        room = room;
        broods = λ u.
            subst (TallyAt path (forest.grant n u).children (get nat_cmp new.broods u)) (sym (step.tickets u))
            (subst (λ (o : Option Brood). TallyAt path (forest.grant n u).children o (eqb ticket u || is_cloned forest s u)) (sym (looked u))
            (come_tally path (forest.grant s u).children (forest.grant n u).children (get nat_cmp c.broods u) b (eqb ticket u) (is_cloned forest s u)
            (λ is. ap (λ (g : Grant). g.children) (step.grants u (step.tickets u ∙ is)))
            (λ same. subst (λ v. IsTallied path (forest.grant s v).children b) (eqb-true ticket u same) one)
            (h.tallies.broods u)));
      } in (
        tallies,
        λ lives.
            let shows : BroodShows depot path ticket b kids =
            brood_born depot path ticket keyed s b image at.is m (lives-none (forest.ending n) lives) born.image
            (born.slots ∙ ap (λ k. replicate k Asleep) count) (born.live ∙ count) born.wordless (subst (λ k. IsSilent k b.notes) count born.silent) born.key
            (subst (λ k. AreSeeds keyed image.key k image.seed) count born.seeds) in
            record {
              tallies = tallies;
              broods = λ u.
                  subst (λ (x : Bool). BroodAt depot path u (get nat_cmp new.broods u) x (cond (eqb ticket u) kids (brood_of u broods))) (sym (step.tickets u))
                  (subst (λ (o : Option Brood). BroodAt depot path u o (eqb ticket u || is_cloned forest s u) (cond (eqb ticket u) kids (brood_of u broods))) (sym (looked u))
                  (come_brood depot path u (get nat_cmp c.broods u) b (eqb ticket u) (is_cloned forest s u) kids (brood_of u broods)
                  (λ same. subst (λ v. BroodShows depot path v b kids) (eqb-true ticket u same) shows) (h.broods u)));
            },
      )
