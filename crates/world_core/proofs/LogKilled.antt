-- The lines of the tickets that a machine had cloned, where it has ended.
use Rattle.sibling_forest.specs.Talk.{boxed}
use Rattle.std.proofs.Common.{Less, ◌≡◌, ℕ, ◌^◌, ◌<◌, ◌≤◌, ◌||◌, Bool, true, false, cond, eqb, ltb, eqb-true, List, [], ◌∷◌, ◌++◌, map, Option, Some}
use Rattle.std.proofs.Common.{None, is_some, refl, sym, ap, ap₂, ◌∙◌, subst, inl, inr, arith, append_assoc, vec_len}
use Rattle.std.specs.List.{AllByRecursion}
use Rattle.std.specs.List.Sorted.{IsStrictlySortedBy}
use Rattle.std.specs.Map.{lookup, keys_of}
use Rattle.std.specs.Option.{IfSome}
use Rattle.std.specs.Ordering.{nat_cmp}
use Rattle.std.specs.BTreeMap.{IsOrdered, get, is_at}
use Rattle.std.specs.Cmp.{nat_cmp_is}
use Rattle.std.proofs.lemmas.Bool.{cases_lt, and_parts}
use Rattle.std.proofs.lemmas.Bool.Decides.{nat_tests}
use Rattle.std.proofs.lemmas.Cmp.{ranked}
use Rattle.std.proofs.lemmas.List.{append-nil}
use Rattle.std.proofs.lemmas.Map.Keys.{sorted_head, sorted_tail}
use Rattle.fork_port.specs.declared.ending.Ending.{Ending}
use Rattle.fork_port.specs.declared.tickets.Ticket.{Ticket}
use Rattle.fork_port.specs.Tickets.{IsRising}
use Rattle.port_rules.specs.Rules.{cloned_numbers, is_accounted}
use Rattle.port_rules.proofs.Tickets.{accounted-is}
use Rattle.forest_tree.specs.Operations.{is_among, is_cloned}
use Rattle.forest_tree.specs.Tree.{Tree, node, Log, killed, log_of, machine, Path}
use Rattle.forest_tree.specs.Step.{log_killed}
use Rattle.forest_tree.specs.Sound.{IsSound}
use Rattle.forest_tree.proofs.Sound.{root-sound}
use Rattle.forest_tree.proofs.Broods.{eqb-same}
use Rattle.talking_history.specs.Places.{spots}
use Rattle.forest_model.specs.Forest.{machines, port_of}
use Rattle.forest_model.specs.Paged.{Paged, paged_machines}
use Rattle.run_report.specs.Lines.{Line, machine_line, ticket_line, own_line as own_line_of, lines, log_lines}
use Rattle.run_report.proofs.Begin.{lines-childless}
use Rattle.world_core.specs.declared.cell.Brood.{Brood}
use Rattle.world_core.specs.declared.cell.Cell.{Cell}
use Rattle.world_core.specs.Broods.{killed_line}
use Rattle.world_core.specs.Shows.{Member, paged_of, TallyAt, IsTallied, Tallies, forest, told_member, ended_tree}

-- ---- the log of killed tickets

abbrev pub ticket_lines : Path → (ℕ → ℕ) → List ℕ → List Line
ticket_lines path count tickets = map (λ (ticket : ℕ). ticket_line path ticket (count ticket)) tickets

lines_killed : (path : Path) (s : Member) (tickets : List ℕ) (log : Log Member)
    → log_lines told_member path (log_killed forest s tickets log) ≡ log_lines told_member path log ++ ticket_lines path (λ t. (forest.grant s t).children) tickets
unfolding log_killed lines
lines_killed path s [] log = sym (append-nil (log_lines told_member path log))
lines_killed path s (t ∷ rest) log =
    lines_killed path s rest (killed log t (forest.grant s t).children)
    ∙ append_assoc (log_lines told_member path log) (ticket_line path t (forest.grant s t).children ∷ []) (ticket_lines path (λ u. (forest.grant s u).children) rest)

-- ---- numbers in order

abbrev AreAbove : ℕ → List ℕ → Type 0
AreAbove u numbers = AllByRecursion (λ y. u < y) numbers

above_first : (x u : ℕ) (xs : List ℕ) → u ≤ x → AllByRecursion (λ y. nat_cmp x y ≡ Less) xs → AreAbove u xs
above_first x u [] under h = tt
above_first x u (y ∷ ys) under h = let less : x < y = ranked x y Less (sym h.0) in (omega arith, above_first x u ys under h.1)

not_among : (u : ℕ) (xs : List ℕ) → AreAbove u xs → is_among u xs ≡ false
unfolding is_among
not_among u [] h = refl
not_among u (x ∷ xs) h =
    let less : u < x = h.0 in
    let rest = not_among u xs h.1 in
    grind (arith, nat_tests)

not_looked_up : {X : Type 0} (u : ℕ) (entries : List (ℕ × X)) → AreAbove u (keys_of entries) → lookup (is_at (nat_cmp u)) entries ≡ None
not_looked_up u [] h = refl
not_looked_up u (e ∷ es) h =
    let less : u < e.0 = h.0 in
    let rest = not_looked_up u es h.1 in
    grind (arith, nat_tests)

among_first : (x : ℕ) (xs : List ℕ) → is_among x (x ∷ xs) ≡ true
unfolding is_among
among_first x xs = ap (λ b. b || is_among x xs) (eqb-same x)

among_rest : (u x : ℕ) (xs : List ℕ) → eqb x u ≡ false → is_among u (x ∷ xs) ≡ is_among u xs
unfolding is_among
among_rest u x xs e = ap (λ b. b || is_among u xs) e

looked_up_first : {X : Type 0} (e : ℕ × X) (es : List (ℕ × X)) (u : ℕ) → e.0 ≡ u → lookup (is_at (nat_cmp u)) (e ∷ es) ≡ Some e.1
looked_up_first e es u same = grind (arith, nat_tests)

looked_up_rest : {X : Type 0} (e : ℕ × X) (es : List (ℕ × X)) (u : ℕ) → eqb e.0 u ≡ false → lookup (is_at (nat_cmp u)) (e ∷ es) ≡ lookup (is_at (nat_cmp u)) es
looked_up_rest e es u differs = grind (arith, nat_tests)

-- ---- broods in the order of their tickets

module _ {V : Type 0} (IsOf : ℕ → V → Type 0) where
  -- there is a brood exactly where the ticket is cloned, and it is of the ticket
  abbrev pub BroodOf : ℕ → Option V → Bool → Type 0
  BroodOf u None false = Unit {0}
  BroodOf u None true = ⊥
  BroodOf u (Some b) false = ⊥
  BroodOf u (Some b) true = IsOf u b

  abbrev pub AreOf : List (ℕ × V) → List ℕ → Type 0
  AreOf entries tickets = (u : ℕ) → BroodOf u (lookup (is_at (nat_cmp u)) entries) (is_among u tickets)

  -- each brood with its ticket
  unfoldable pub Paired : List (ℕ × V) → List ℕ → Type 0
  Paired [] [] = Unit {0}
  Paired [] (t ∷ ts) = ⊥
  Paired (e ∷ es) [] = ⊥
  Paired (e ∷ es) (t ∷ ts) = (e.0 ≡ t) × IsOf t e.1 × Paired es ts

  is_of : (o : Option V) (among : Bool) (b : V) (u : ℕ) → o ≡ Some b → among ≡ true → BroodOf u o among → IsOf u b
  is_of o among b u found is h = subst (λ (p : Option V). BroodOf u p true) found (subst (BroodOf u o) is h)

  no_brood_for : (o : Option V) (among : Bool) (u : ℕ) → o ≡ None → among ≡ true → BroodOf u o among → ⊥
  no_brood_for o among u found is h = subst (λ (p : Option V). BroodOf u p true) found (subst (BroodOf u o) is h)

  no_ticket_for : (o : Option V) (among : Bool) (b : V) (u : ℕ) → o ≡ Some b → among ≡ false → BroodOf u o among → ⊥
  no_ticket_for o among b u found is h = subst (λ (p : Option V). BroodOf u p false) found (subst (BroodOf u o) is h)

  of_rest : (e : ℕ × V) (es : List (ℕ × V)) (t : ℕ) (ts : List ℕ) → e.0 ≡ t → AreAbove t (keys_of es) → AreAbove t ts
      → AreOf (e ∷ es) (t ∷ ts) → AreOf es ts
  of_rest e es t ts same above_keys above h u = by (eqb t u) refl
    where
      by : (here : Bool) → eqb t u ≡ here → BroodOf u (lookup (is_at (nat_cmp u)) es) (is_among u ts)
      by true is =
          let it : t ≡ u = eqb-true t u is in
          let none = not_looked_up u es (subst (λ n. AreAbove n (keys_of es)) it above_keys) in
          let not_there = not_among u ts (subst (λ n. AreAbove n ts) it above) in
          subst (λ (o : Option V). BroodOf u o (is_among u ts)) (sym none) (subst (BroodOf u None) (sym not_there) tt)
      by false is =
          let there = looked_up_rest e es u (ap (λ n. eqb n u) same ∙ is) in
          subst (λ (o : Option V). BroodOf u o (is_among u ts)) there
          (subst (BroodOf u (lookup (is_at (nat_cmp u)) (e ∷ es))) (among_rest u t ts is) (h u))

  pub in_pairs : (entries : List (ℕ × V)) (tickets : List ℕ) → IsStrictlySortedBy nat_cmp (keys_of entries) → IsStrictlySortedBy nat_cmp tickets
      → AreOf entries tickets → Paired entries tickets
  unfolding is_among Paired
  in_pairs [] [] keys numbers h = tt
  in_pairs [] (t ∷ ts) keys numbers h = absurd (no_brood_for None (is_among t (t ∷ ts)) t refl (among_first t ts) (h t))
  in_pairs (e ∷ es) [] keys numbers h =
      absurd (no_ticket_for (lookup (is_at (nat_cmp e.0)) (e ∷ es)) (is_among e.0 []) e.1 e.0 (looked_up_first e es e.0 refl) refl (h e.0))
  in_pairs (e ∷ es) (t ∷ ts) keys numbers h = elim (cases_lt e.0 t) [
    | inl before ↦
        let above = above_first t e.0 ts (omega arith) (sorted_head nat_cmp t ts numbers) in
        absurd (no_ticket_for (lookup (is_at (nat_cmp e.0)) (e ∷ es)) (is_among e.0 (t ∷ ts)) e.1 e.0 (looked_up_first e es e.0 refl)
        (not_among e.0 (t ∷ ts) (before, above)) (h e.0))
    | inr after ↦ elim (cases_lt t e.0) [
      | inl before ↦
          let above = above_first e.0 t (keys_of es) (omega arith) (sorted_head nat_cmp e.0 (keys_of es) keys) in
          absurd (no_brood_for (lookup (is_at (nat_cmp t)) (e ∷ es)) (is_among t (t ∷ ts)) t (not_looked_up t (e ∷ es) (before, above)) (among_first t ts) (h t))
      | inr under ↦
          let same : e.0 ≡ t = omega arith in
          let first = is_of (lookup (is_at (nat_cmp t)) (e ∷ es)) (is_among t (t ∷ ts)) e.1 t (looked_up_first e es t same) (among_first t ts) (h t) in
          let above_keys = above_first e.0 t (keys_of es) (omega arith) (sorted_head nat_cmp e.0 (keys_of es) keys) in
          let above = above_first t t ts (omega arith) (sorted_head nat_cmp t ts numbers) in (
            same,
            first,
            in_pairs es ts (sorted_tail nat_cmp e.0 (keys_of es) keys) (sorted_tail nat_cmp t ts numbers) (of_rest e es t ts same above_keys above h),
          )
    ]
  ]

-- ---- broods that are killed in order

module _ (path : Path) (count : ℕ → ℕ) where
  line_tallied : (e : ℕ × Brood) (t : ℕ) → e.0 ≡ t → IsTallied path (count t) e.1 → killed_line e ≡ ticket_line path t (count t)
  line_tallied e t same h =
      ap (λ (p : Path). ticket_line p e.0 (vec_len e.1.slots)) h.name
      ∙ ap (λ (n : ℕ). ticket_line path n (vec_len e.1.slots)) same
      ∙ ap (ticket_line path t) h.size

  killed_paired : (entries : List (ℕ × Brood)) (tickets : List ℕ) → Paired (λ u. IsTallied path (count u)) entries tickets
      → map killed_line entries ≡ ticket_lines path count tickets
  unfolding Paired
  killed_paired [] [] h = refl
  killed_paired [] (t ∷ ts) h = absurd h
  killed_paired (e ∷ es) [] h = absurd h
  killed_paired (e ∷ es) (t ∷ ts) h = ap₂ (λ (line : Line) (rest : List Line). line ∷ rest) (line_tallied e t h.0 h.1) (killed_paired es ts h.2)

  tallied_of : (u : ℕ) (o : Option Brood) (among : Bool) → TallyAt path (count u) o among → BroodOf (λ v. IsTallied path (count v)) u o among
  tallied_of u None false h = tt
  tallied_of u None true h = absurd h
  tallied_of u (Some b) false h = absurd h
  tallied_of u (Some b) true h = h

  killed_entries : (entries : List (ℕ × Brood)) (tickets : List ℕ) → IsStrictlySortedBy nat_cmp (keys_of entries) → IsStrictlySortedBy nat_cmp tickets
      → ((u : ℕ) → TallyAt path (count u) (lookup (is_at (nat_cmp u)) entries) (is_among u tickets))
      → map killed_line entries ≡ ticket_lines path count tickets
  killed_entries entries tickets keys numbers h =
      killed_paired entries tickets
      (in_pairs (λ u. IsTallied path (count u)) entries tickets keys numbers
      (λ u. tallied_of u (lookup (is_at (nat_cmp u)) entries) (is_among u tickets) (h u)))

-- ---- the cloned tickets of a good machine

above_cloned : (number : ℕ) (tickets : List Ticket) → AllByRecursion (λ (other : Ticket). number < other.number) tickets
    → AllByRecursion (λ y. nat_cmp number y ≡ Less) (cloned_numbers tickets)
unfolding cloned_numbers
above_cloned number [] h = tt
above_cloned number (x ∷ xs) h = by x.is_cloned (sym (nat_cmp_is number x.number Less h.0)) (above_cloned number xs h.1)
  where
    by : (is : Bool) → nat_cmp number x.number ≡ Less → AllByRecursion (λ y. nat_cmp number y ≡ Less) (cloned_numbers xs)
        → AllByRecursion (λ y. nat_cmp number y ≡ Less) (cond is (x.number ∷ cloned_numbers xs) (cloned_numbers xs))
    by true first rest = (first, rest)
    by false first rest = rest

sorted_cloned : (tickets : List Ticket) → IsRising tickets → IsStrictlySortedBy nat_cmp (cloned_numbers tickets)
unfolding cloned_numbers IsStrictlySortedBy
sorted_cloned [] rising = tt
sorted_cloned (x ∷ xs) rising = by x.is_cloned (above_cloned x.number xs rising.0) (sorted_cloned xs rising.1)
  where
    by : (is : Bool) → AllByRecursion (λ y. nat_cmp x.number y ≡ Less) (cloned_numbers xs) → IsStrictlySortedBy nat_cmp (cloned_numbers xs)
        → IsStrictlySortedBy nat_cmp (cond is (x.number ∷ cloned_numbers xs) (cloned_numbers xs))
    by true first rest = (first, rest)
    by false first rest = rest

accounted : (s : Member) → forest.is_good s ≡ true → is_accounted (port_of s.machine.machine.machine) ≡ true
unfolding boxed spots paged_machines machines
accounted s good =
    (and_parts (is_accounted (port_of s.machine.machine.machine)) (is_some s.machine.machine.machine.ending || ltb s.machine.machine.machine.steps s.machine.machine.machine.limit) good).0

pub good_sorted : (s : Member) → forest.is_good s ≡ true → IsStrictlySortedBy nat_cmp (forest.cloned s)
unfolding boxed spots paged_machines machines
good_sorted s good = sorted_cloned (port_of s.machine.machine.machine).tickets (accounted-is (port_of s.machine.machine.machine) (accounted s good)).rising

-- ---- what a machine leaves that has ended

pub ended_lines : (path : Path) (c : Cell) (t : Tree Member) → Tallies path c t → IsSound forest t → IsOrdered nat_cmp c.broods
    → log_lines told_member path (log_of (ended_tree t)) ≡ c.log.items ++ map killed_line c.broods.entries
ended_lines path c (node s broods log) h sound ordered =
    let count : ℕ → ℕ = λ t. (forest.grant s t).children in
    lines_killed path s (forest.cloned s) log
    ∙ ap (λ (front : List Line). front ++ ticket_lines path count (forest.cloned s)) (sym h.log)
    ∙ ap (λ (back : List Line). c.log.items ++ back)
    (sym (killed_entries path count c.broods.entries (forest.cloned s) ordered (good_sorted s (root-sound forest s broods log sound).good) h.broods))

tally_fits : (path : Path) (count : ℕ) (o : Option Brood) (among : Bool) → TallyAt path count o among → IfSome o (λ b. vec_len b.slots < 2 ^ 32)
tally_fits path count None among h = tt
tally_fits path count (Some b) false h = absurd h
tally_fits path count (Some b) true h = omega (arith, h.few)

pub broods_fit : (path : Path) (c : Cell) (t : Tree Member) → Tallies path c t → (number : ℕ) → IfSome (get nat_cmp c.broods number) (λ b. vec_len b.slots < 2 ^ 32)
broods_fit path c t h number =
    tally_fits path (forest.grant (machine t) number).children (get nat_cmp c.broods number) (is_cloned forest (machine t) number) (h.broods number)

own_line : (path : Path) (s : Member) (vm : Paged) (ending : Ending) (steps : ℕ) (output : List ℕ) → paged_of s ≡ vm → vm.machine.ending ≡ Some ending
    → steps ≡ vm.machine.steps → output ≡ vm.machine.state.ports.console.output
    → machine_line path (Some ending) steps output ≡ own_line_of told_member path s
own_line path s vm ending steps output is ended made put =
    ap (λ (n : ℕ). machine_line path (Some ending) n output) (made ∙ ap (λ (p : Paged). p.machine.steps) (sym is))
    ∙ ap (λ (bytes : List ℕ). machine_line path (Some ending) s.machine.machine.machine.steps bytes) (put ∙ ap (λ (p : Paged). p.machine.state.ports.console.output) (sym is))
    ∙ ap (λ (e : Option Ending). machine_line path e s.machine.machine.machine.steps s.machine.machine.machine.state.ports.console.output)
    (sym (ap (λ (p : Paged). p.machine.ending) is ∙ ended))

pub outcome_lines : (path : Path) (c : Cell) (t : Tree Member) (vm : Paged) (ending : Ending) (steps : ℕ) (output : List ℕ) (log : List Line)
    → Tallies path c t → IsSound forest t → IsOrdered nat_cmp c.broods → log ≡ c.log.items ++ map killed_line c.broods.entries
    → paged_of (machine t) ≡ vm → vm.machine.ending ≡ Some ending → steps ≡ vm.machine.steps → output ≡ vm.machine.state.ports.console.output
    → machine_line path (Some ending) steps output ∷ log ≡ lines told_member path (ended_tree t)
outcome_lines path c (node s broods log') vm ending steps output log h sound ordered told is ended made put =
    ap₂ (λ (own : Line) (rest : List Line). own ∷ rest) (own_line path s vm ending steps output is ended made put)
    (told ∙ sym (ended_lines path c (node s broods log') h sound ordered))
    ∙ sym (lines-childless told_member path s (log_of (ended_tree (node s broods log'))))
