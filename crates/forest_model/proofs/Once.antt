-- Pages of which each is listed once.
use Rattle.std.proofs.Common.{◌≡◌, ◌≢◌, ℕ, zero, suc, ◌<◌, ◌≤◌, Bool, true, false, not, cond, eqb, List, [], ◌∷◌, length, get_or, Some, refl, sym, ap, ◌∙◌, subst, arith}
use Rattle.std.specs.List.{All, AllPairs, Contains, filter}
use Rattle.std.proofs.lemmas.Bool.{eqb-true}
use Rattle.std.proofs.lemmas.Bool.Decides.{nat_tests}
use Rattle.std.proofs.lemmas.List.Elements.{All-cons, All-head, All-tail, All-filter, filter_passes}
use Rattle.std.proofs.lemmas.List.Filters.{length-filter_both}
use Rattle.std.proofs.lemmas.List.Kept.{AllPairs-cons, AllPairs-filter}
use Rattle.forest_model.specs.Footprint.{each_once}
use Rattle.forest_model.specs.Paged.{first_absent}

abbrev is_other : ℕ → ℕ → Bool
is_other page other = not (eqb other page)

-- ---- what holds of the pages

pub All-each_once : (P : ℕ → Type 0) (pages : List ℕ) → All P pages → All P (each_once pages)
unfolding each_once
All-each_once P [] all = all
All-each_once P (page ∷ rest) all =
    All-cons P page (filter (is_other page) (each_once rest)) (All-head P page rest all)
    (All-filter (is_other page) P (each_once rest) (All-each_once P rest (All-tail P page rest all)))

differs : (page other : ℕ) → is_other page other ≡ true → page ≢ other
differs page other e = grind (arith, nat_tests)

pub once-each_once : (pages : List ℕ) → AllPairs (λ one other. one ≢ other) (each_once pages)
unfolding each_once
once-each_once [] = λ i j d before within. absurd (omega arith)
once-each_once (page ∷ rest) =
    AllPairs-cons (λ one other. one ≢ other) page (filter (is_other page) (each_once rest))
    (λ k d within. differs page (get_or (filter (is_other page) (each_once rest)) k d) (filter_passes (is_other page) (each_once rest) k d within))
    (AllPairs-filter (λ one other. one ≢ other) (is_other page) (each_once rest) (once-each_once rest))

pub length-each_once : (pages : List ℕ) → length (each_once pages) ≤ length pages
unfolding each_once
length-each_once [] = omega arith
length-each_once (page ∷ rest) =
    let both = length-filter_both (is_other page) (λ other. not (is_other page other)) (λ other. refl) (each_once rest) in
    let later = length-each_once rest in
    omega arith

-- ---- which pages they are

pub Contains-later : (first : ℕ) (rest : List ℕ) (page : ℕ) → Contains rest page → Contains (first ∷ rest) page
Contains-later first rest page h = (suc h.0, omega (arith, h.1), h.2)

Contains-kept : (test : ℕ → Bool) (first : ℕ) (rest : List ℕ) (page : ℕ) → Contains (filter test rest) page → (b : Bool)
    → Contains (cond b (first ∷ filter test rest) (filter test rest)) page
Contains-kept test first rest page later true = Contains-later first (filter test rest) page later
Contains-kept test first rest page later false = later

Contains-filter : (test : ℕ → Bool) (page : ℕ) → test page ≡ true → (xs : List ℕ) (k : ℕ) → k < length xs → get_or xs k page ≡ page
    → Contains (filter test xs) page
Contains-filter test page passes [] k within is = absurd (omega arith)
Contains-filter test page passes (first ∷ rest) zero within is =
    subst (λ b. Contains (cond b (first ∷ filter test rest) (filter test rest)) page) (sym (ap test is ∙ passes)) (0, omega arith, is)
Contains-filter test page passes (first ∷ rest) (suc k) within is =
    Contains-kept test first rest page (Contains-filter test page passes rest k (omega arith) is) (test first)

Contains-but : (first : ℕ) (rest : List ℕ) (page : ℕ) (same : Bool) → eqb page first ≡ same → Contains rest page
    → Contains (first ∷ filter (is_other first) rest) page
Contains-but first rest page true e later = (0, omega arith, sym (eqb-true page first e))
Contains-but first rest page false e later =
    Contains-later first (filter (is_other first) rest) page
    (Contains-filter (is_other first) page (ap not e) rest later.0 later.1 later.2)

once-at : (pages : List ℕ) (page k : ℕ) → k < length pages → get_or pages k page ≡ page → Contains (each_once pages) page
unfolding each_once
once-at [] page k within is = absurd (omega arith)
once-at (first ∷ rest) page zero within is = (0, omega arith, is)
once-at (first ∷ rest) page (suc k) within is =
    Contains-but first (each_once rest) page (eqb page first) refl (once-at rest page k (omega arith) is)

pub Contains-each_once : (pages : List ℕ) (page : ℕ) → Contains pages page → Contains (each_once pages) page
Contains-each_once pages page h = once-at pages page h.0 h.1 h.2

-- ---- the first that is not here is the same

module _ (here : List Bool) where
  -- a page that is here is passed over
  passed-over : (page other : ℕ) (rest : List ℕ) → get_or here page false ≡ true → (same : Bool) → eqb other page ≡ same
      → first_absent here (filter (is_other page) rest) ≡ first_absent here rest
      → first_absent here (cond (not same) (other ∷ filter (is_other page) rest) (filter (is_other page) rest)) ≡ first_absent here (other ∷ rest)
  unfolding first_absent
  passed-over page other rest e true is later =
      later ∙ ap (λ b. cond b (first_absent here rest) (Some other)) (sym (ap (λ p. get_or here p false) (eqb-true other page is) ∙ e))
  passed-over page other rest e false is later = ap (λ found. cond (get_or here other false) found (Some other)) later

  absent-but : (page : ℕ) → get_or here page false ≡ true → (pages : List ℕ)
      → first_absent here (filter (is_other page) pages) ≡ first_absent here pages
  unfolding first_absent
  absent-but page e [] = refl
  absent-but page e (other ∷ rest) = passed-over page other rest e (eqb other page) refl (absent-but page e rest)

  absent-by : (page : ℕ) (rest : List ℕ) (is_here : Bool) → get_or here page false ≡ is_here
      → first_absent here (each_once rest) ≡ first_absent here rest
      → cond is_here (first_absent here (filter (is_other page) (each_once rest))) (Some page) ≡ cond is_here (first_absent here rest) (Some page)
  absent-by page rest true e later = absent-but page e (each_once rest) ∙ later
  absent-by page rest false e later = refl

  pub absent-each_once : (pages : List ℕ) → first_absent here (each_once pages) ≡ first_absent here pages
  unfolding first_absent each_once
  absent-each_once [] = refl
  absent-each_once (page ∷ rest) = absent-by page rest (get_or here page false) refl (absent-each_once rest)
