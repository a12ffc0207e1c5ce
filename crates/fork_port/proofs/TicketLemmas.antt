-- Tickets in the order of their numbers: what finding, marking, adding and taking out one does.
use Rattle.std.proofs.Common.{◌≡◌, ◌≢◌, ℕ, zero, suc, ◌+◌, ◌<◌, ◌≤◌, Bool, true, false, not, cond, eqb, List, [], ◌∷◌, ◌++◌, length, get_or, set}
use Rattle.std.proofs.Common.{Some, None, Option, option_map, Ordering, Result, Ok, Err, IfOk, OnErr, refl, sym, ap, ◌∙◌, subst, inl, inr, arith}
use Rattle.std.specs.List.{AllByRecursion, remove}
use Rattle.std.specs.List.Sorted.{IsSearchInRange, IsBinarySearchResult, IsNonDecreasingBy}
use Rattle.std.specs.Ordering.{nat_cmp, ordering_index}
use Rattle.std.proofs.lemmas.Bool.{cases_lt}
use Rattle.std.proofs.lemmas.Bool.Decides.{nat_tests, eqb_tells}
use Rattle.std.proofs.lemmas.Cmp.{ranked}
use Rattle.std.proofs.lemmas.List.Sums.{sum_by-cons, sum_by_push}
use Rattle.fork_port.specs.declared.tickets.Ticket.{Ticket}
use Rattle.fork_port.specs.Tickets.{has_number, ticket_of, without, marked, as_cloned, with_cloned, cost, held, IsRising, IsAt}

-- what holds of both choices holds of the choice
pub either : {A : Type 0} (P : A → Type 0) (b : Bool) (x y : A) → P x → P y → P (cond b x y)
either P true x y p q = p
either P false x y p q = q

-- all tickets have numbers above this one
abbrev pub IsBelow : ℕ → List Ticket → Type 0
IsBelow number tickets = AllByRecursion (λ (other : Ticket). number < other.number) tickets

below_at : (tickets : List Ticket) (number i : ℕ) (d : Ticket) → IsBelow number tickets → i < length tickets → number < (get_or tickets i d).number
below_at [] number i d below within = absurd (omega arith)
below_at (x ∷ xs) number zero d below within = below.0
below_at (x ∷ xs) number (suc i) d below within = below_at xs number i d below.1 (omega arith)

pub rising_at : (tickets : List Ticket) → IsRising tickets → (i j : ℕ) (d : Ticket) → i < j → j < length tickets → (get_or tickets i d).number < (get_or tickets j d).number
rising_at [] rising i j d before within = absurd (omega arith)
rising_at (x ∷ xs) rising i zero d before within = absurd (omega arith)
rising_at (x ∷ xs) rising zero (suc j) d before within = below_at xs x.number j d rising.0 (omega arith)
rising_at (x ∷ xs) rising (suc i) (suc j) d before within = rising_at xs rising.1 i j d (omega arith) (omega arith)

-- a number that no ticket has is not found
ticket_of_absent : (tickets : List Ticket) (number : ℕ) → ((k : ℕ) (d : Ticket) → k < length tickets → (get_or tickets k d).number ≢ number) → ticket_of tickets number ≡ None
ticket_of_absent [] number apart = refl
ticket_of_absent (x ∷ xs) number apart =
    let differs : x.number ≢ number = apart 0 x (omega arith) in
    let rest = ticket_of_absent xs number (λ k d within. apart (suc k) d (omega arith)) in
    grind (arith, nat_tests)

-- what a binary search among rising numbers answers
module _ (tickets : List Ticket) (rising : IsRising tickets) (number : ℕ) where
  comparisons_rise : IsNonDecreasingBy (λ (ticket : Ticket). ordering_index (nat_cmp ticket.number number)) tickets
  comparisons_rise i j d le within = elim (cases_lt i j) [
    | inl before ↦ let up = rising_at tickets rising i j d before within in grind (arith, nat_tests)
    | inr after ↦ let same : i ≡ j = omega arith in subst
        (λ (k : ℕ). ordering_index (nat_cmp (get_or tickets i d).number number) ≤ ordering_index (nat_cmp (get_or tickets k d).number number)) same (omega arith)
  ]

  pub searched : (r : Result ℕ ℕ) → IsSearchInRange r (length tickets) → IsBinarySearchResult (λ (ticket : Ticket). nat_cmp ticket.number number) tickets r
      → record { found : IfOk r (IsAt tickets number); absent : OnErr r (ticket_of tickets number ≡ None) }
  searched (Ok at) in_range equal = record {
    found = record { in_range = in_range; same_number = λ d. ranked _ number Ordering.Equal (sym (equal d)) };
    absent = tt;
  }
  searched (Err at) in_range parted = record {
    found = tt;
    absent = ticket_of_absent tickets number (λ k d within same. elim (cases_lt k at) [
      | inl before ↦ let below = ranked _ number _ (sym ((parted comparisons_rise).0 k d (omega arith) before)) in omega arith
      | inr after ↦ let above = ranked _ number _ (sym ((parted comparisons_rise).1 k d after within)) in omega arith
    ]);
  }

at_head : (x : Ticket) (xs : List Ticket) (number : ℕ) → IsAt (x ∷ xs) number zero → x.number ≡ number
at_head x xs number is_at = is_at.same_number x

at_tail : (x : Ticket) (xs : List Ticket) (number i : ℕ) → IsAt (x ∷ xs) number (suc i) → IsAt xs number i
at_tail x xs number i is_at = record { in_range = omega (arith, is_at.in_range); same_number = λ d. is_at.same_number d }

-- the tickets behind the first have other numbers than the first, and the first another than those behind it
head_differs : (x : Ticket) (xs : List Ticket) (number i : ℕ) → IsRising (x ∷ xs) → IsAt xs number i → x.number ≢ number
head_differs x xs number i rising is_at same =
    let above = below_at xs x.number i x rising.0 is_at.in_range in
    let here = is_at.same_number x in
    omega arith

pub ticket_of_at : (tickets : List Ticket) (number at : ℕ) (d : Ticket) → IsRising tickets → IsAt tickets number at → ticket_of tickets number ≡ Some (get_or tickets at d)
ticket_of_at [] number at d rising is_at = absurd (omega (arith, is_at.in_range))
ticket_of_at (x ∷ xs) number zero d rising is_at = let here = at_head x xs number is_at in grind (arith, nat_tests)
ticket_of_at (x ∷ xs) number (suc i) d rising is_at =
    let differs = head_differs x xs number i rising (at_tail x xs number i is_at) in
    let rest = ticket_of_at xs number i d rising.1 (at_tail x xs number i is_at) in
    grind (arith, nat_tests)

-- marking and taking out leave tickets of other numbers
marked_above : (tickets : List Ticket) (number : ℕ) → IsBelow number tickets → with_cloned tickets number ≡ tickets
marked_above [] number below = refl
marked_above (x ∷ xs) number below =
    let above = below.0 in
    let rest = marked_above xs number below.1 in
    grind (arith, nat_tests)

without_above : (tickets : List Ticket) (number : ℕ) → IsBelow number tickets → without tickets number ≡ tickets
without_above [] number below = refl
without_above (x ∷ xs) number below =
    let above = below.0 in
    let rest = without_above xs number below.1 in
    grind (arith, nat_tests)

pub with_cloned_at : (tickets : List Ticket) (number at : ℕ) (d ticket : Ticket) → IsRising tickets → IsAt tickets number at
    → ticket ≡ get_or tickets at d → set tickets at (record ticket { is_cloned = true }) ≡ with_cloned tickets number
with_cloned_at [] number at d ticket rising is_at here = absurd (omega (arith, is_at.in_range))
with_cloned_at (x ∷ xs) number zero d ticket rising is_at here =
    let same = at_head x xs number is_at in
    let rest = marked_above xs number (subst (λ (n : ℕ). IsBelow n xs) same rising.0) in
    grind (arith, nat_tests)
with_cloned_at (x ∷ xs) number (suc i) d ticket rising is_at here =
    let differs = head_differs x xs number i rising (at_tail x xs number i is_at) in
    let rest = with_cloned_at xs number i d ticket rising.1 (at_tail x xs number i is_at) here in
    grind (arith, nat_tests)

pub remove_at : (tickets : List Ticket) (number at : ℕ) → IsRising tickets → IsAt tickets number at → remove tickets at ≡ without tickets number
remove_at [] number at rising is_at = absurd (omega (arith, is_at.in_range))
remove_at (x ∷ xs) number zero rising is_at =
    let same = at_head x xs number is_at in
    let rest = without_above xs number (subst (λ (n : ℕ). IsBelow n xs) same rising.0) in
    grind (arith, nat_tests)
remove_at (x ∷ xs) number (suc i) rising is_at =
    let differs = head_differs x xs number i rising (at_tail x xs number i is_at) in
    let rest = remove_at xs number i rising.1 (at_tail x xs number i is_at) in
    grind (arith, nat_tests)

-- a fact of each ticket's number, children or share stays as one is marked
pub all_with_cloned : (P : Ticket → Type 0) → ((ticket : Ticket) → P ticket → P (record ticket { is_cloned = true })) → (tickets : List Ticket) (number : ℕ)
    → AllByRecursion P tickets → AllByRecursion P (with_cloned tickets number)
all_with_cloned P keeps [] number all = tt
all_with_cloned P keeps (x ∷ xs) number all =
    (either P (has_number number x) (record x { is_cloned = true }) x (keeps x all.0) all.0, all_with_cloned P keeps xs number all.1)

pub all_without : (P : Ticket → Type 0) (tickets : List Ticket) (number : ℕ) → AllByRecursion P tickets → AllByRecursion P (without tickets number)
all_without P [] number all = tt
all_without P (x ∷ xs) number all =
    let rest = all_without P xs number all.1 in
    either (λ (tickets : List Ticket). AllByRecursion P tickets) (not (has_number number x)) (x ∷ without xs number) (without xs number) (all.0, rest) rest

pub all_push : (P : Ticket → Type 0) (tickets : List Ticket) (ticket : Ticket) → AllByRecursion P tickets → P ticket → AllByRecursion P (tickets ++ ticket ∷ [])
all_push P [] ticket all one = (one, tt)
all_push P (x ∷ xs) ticket all one = (all.0, all_push P xs ticket all.1 one)

pub all_weaker : (P Q : Ticket → Type 0) → ((ticket : Ticket) → P ticket → Q ticket) → (tickets : List Ticket) → AllByRecursion P tickets → AllByRecursion Q tickets
all_weaker P Q weaker [] all = tt
all_weaker P Q weaker (x ∷ xs) all = (weaker x all.0, all_weaker P Q weaker xs all.1)

pub rising_push : (tickets : List Ticket) (ticket : Ticket) → AllByRecursion (λ (other : Ticket). other.number < ticket.number) tickets → IsRising tickets → IsRising (tickets ++ ticket ∷ [])
rising_push [] ticket below rising = (tt, tt)
rising_push (x ∷ xs) ticket below rising = (all_push (λ (other : Ticket). x.number < other.number) xs ticket rising.0 below.0, rising_push xs ticket below.1 rising.1)

number_marked : (number : ℕ) (ticket : Ticket) → (marked number ticket).number ≡ ticket.number
number_marked number ticket = either (λ (t : Ticket). t.number ≡ ticket.number) (has_number number ticket) (record ticket { is_cloned = true }) ticket refl refl

pub rising_with_cloned : (tickets : List Ticket) (number : ℕ) → IsRising tickets → IsRising (with_cloned tickets number)
rising_with_cloned [] number rising = tt
rising_with_cloned (x ∷ xs) number rising = (
  subst (λ (n : ℕ). IsBelow n (with_cloned xs number)) (sym (number_marked number x)) (all_with_cloned (λ (other : Ticket). x.number < other.number) (λ t h. h) xs number rising.0),
  rising_with_cloned xs number rising.1,
)

pub rising_without : (tickets : List Ticket) (number : ℕ) → IsRising tickets → IsRising (without tickets number)
rising_without [] number rising = tt
rising_without (x ∷ xs) number rising =
    let rest = rising_without xs number rising.1 in
    either IsRising (not (has_number number x)) (x ∷ without xs number) (without xs number) (all_without (λ (other : Ticket). x.number < other.number) xs number rising.0, rest) rest

cost_marked : (number : ℕ) (ticket : Ticket) → cost (marked number ticket) ≡ cost ticket
cost_marked number ticket = either (λ (t : Ticket). cost t ≡ cost ticket) (has_number number ticket) (record ticket { is_cloned = true }) ticket refl refl

pub held_with_cloned : (tickets : List Ticket) (number : ℕ) → held (with_cloned tickets number) ≡ held tickets
held_with_cloned [] number = refl
held_with_cloned (x ∷ xs) number =
    sum_by-cons cost (marked number x) (with_cloned xs number)
    ∙ omega (arith, cost_marked number x, held_with_cloned xs number)
    ∙ sym (sum_by-cons cost x xs)

pub held_push : (tickets : List Ticket) (ticket : Ticket) → held (tickets ++ ticket ∷ []) ≡ held tickets + cost ticket
held_push tickets ticket = sum_by_push cost tickets ticket

-- the ticket that is found has the number
pub number_found : (tickets : List Ticket) (number : ℕ) (ticket : Ticket) → ticket_of tickets number ≡ Some ticket → ticket.number ≡ number
number_found [] number ticket found = cc
number_found (x ∷ xs) number ticket found = grind (arith, nat_tests, number_found xs number ticket)

pub held_without : (tickets : List Ticket) (number : ℕ) (ticket : Ticket) → IsRising tickets → ticket_of tickets number ≡ Some ticket → held (without tickets number) + cost ticket ≡ held tickets
held_without [] number ticket rising found = cc
held_without (x ∷ xs) number ticket rising found = elim (eqb_tells x.number number) [
  | inl here ↦
      let same : x.number ≡ number = here.1 in
      let is_it : x ≡ ticket = grind (arith, nat_tests) in
      let rest = without_above xs number (subst (λ (n : ℕ). IsBelow n xs) same rising.0) in
      let kept : without (x ∷ xs) number ≡ xs = grind (arith, nat_tests) in
      rw kept (omega (arith, sum_by-cons cost x xs, ap cost is_it))
  | inr here ↦
      let there : ticket_of xs number ≡ Some ticket = grind (arith, nat_tests) in
      let kept : without (x ∷ xs) number ≡ x ∷ without xs number = grind (arith, nat_tests) in
      rw kept (omega (arith, sum_by-cons cost x xs, sum_by-cons cost x (without xs number), held_without xs number ticket rising.1 there))
]

-- what is found once a ticket came, was marked or went
pub ticket_of_push : (tickets : List Ticket) (ticket : Ticket) (other : ℕ) → AllByRecursion (λ (t : Ticket). t.number < ticket.number) tickets
    → ticket_of (tickets ++ ticket ∷ []) other ≡ cond (eqb other ticket.number) (Some ticket) (ticket_of tickets other)
ticket_of_push [] ticket other below = grind (arith, nat_tests)
ticket_of_push (x ∷ xs) ticket other below =
    let first = below.0 in
    let rest = ticket_of_push xs ticket other below.1 in
    grind (arith, nat_tests)

pub ticket_of_with_cloned : (tickets : List Ticket) (number other : ℕ)
    → ticket_of (with_cloned tickets number) other ≡ cond (eqb other number) (option_map as_cloned (ticket_of tickets other)) (ticket_of tickets other)
ticket_of_with_cloned [] number other = either (λ (o : Option Ticket). None ≡ o) (eqb other number) None None refl refl
ticket_of_with_cloned (x ∷ xs) number other =
    let rest = ticket_of_with_cloned xs number other in
    elim (eqb_tells x.number number) [
      | inl here ↦
          let mark : marked number x ≡ as_cloned x = grind (arith, nat_tests) in
          rw mark (elim (eqb_tells x.number other) [
            | inl same ↦ let it : other ≡ number = omega arith in grind (arith, nat_tests)
            | inr differs ↦ grind (arith, nat_tests)
          ])
      | inr here ↦
          let mark : marked number x ≡ x = grind (arith, nat_tests) in
          rw mark (elim (eqb_tells x.number other) [
            | inl same ↦ grind (arith, nat_tests)
            | inr differs ↦ grind (arith, nat_tests)
          ])
    ]

pub ticket_of_without : (tickets : List Ticket) (number other : ℕ) → ticket_of (without tickets number) other ≡ cond (eqb other number) None (ticket_of tickets other)
ticket_of_without [] number other = either (λ (o : Option Ticket). None ≡ o) (eqb other number) None None refl refl
ticket_of_without (x ∷ xs) number other =
    let rest = ticket_of_without xs number other in
    grind (arith, nat_tests)
