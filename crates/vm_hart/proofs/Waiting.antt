-- The page that a step waits for: the first of those that it needs that is not here.
use Rattle.std.proofs.Common.{◌≡◌, ℕ, true, false, cond, List, [], ◌∷◌, ◌++◌, Option, Some, None, inl, inr, refl, ap, ◌∙◌}
use Rattle.std.specs.Option.{IfSome}
use Rattle.std.proofs.lemmas.Option.{get_or_from_slice_get}
use Rattle.forest_model.specs.Paged.{Pages, first_absent}
use Rattle.vm_hart.specs.Acts.{IsMet, WaitsAt}
use Rattle.vm_hart.specs.Keyed.{IsAbsent, IsHere}

module _ (pages : Pages) where
  pub one-absent : (page : ℕ) → IsAbsent pages page → (rest : List ℕ) → first_absent pages.here (page ∷ rest) ≡ Some page
  unfolding first_absent
  one-absent page absent rest =
      ap (λ b. cond b (first_absent pages.here rest) (Some page)) (get_or_from_slice_get pages.here page false false absent)

  pub one-here : (page : ℕ) → IsHere pages page → (rest : List ℕ) → first_absent pages.here (page ∷ rest) ≡ first_absent pages.here rest
  unfolding first_absent
  one-here page here rest =
      ap (λ b. cond b (first_absent pages.here rest) (Some page)) (get_or_from_slice_get pages.here page true false here)

  pub met-none : (needs : List ℕ) → IsMet needs pages → first_absent pages.here needs ≡ None
  unfolding first_absent
  met-none [] met = refl
  met-none (page ∷ rest) met = one-here page met.0 rest ∙ met-none rest met.1

  pub waits-first : (needs : List ℕ) (at : ℕ) → WaitsAt needs pages at → first_absent pages.here needs ≡ Some at
  waits-first [] at waits = absurd waits
  waits-first (page ∷ rest) at (inl absent) = one-absent page absent.1 rest ∙ ap (λ p. Some p) absent.0
  waits-first (page ∷ rest) at (inr later) = one-here page later.0 rest ∙ waits-first rest at later.1

  -- pages that are needed after others

  pub waits-before : (first more : List ℕ) (at : ℕ) → WaitsAt first pages at → WaitsAt (first ++ more) pages at
  waits-before [] more at waits = absurd waits
  waits-before (page ∷ rest) more at (inl absent) = inl absent
  waits-before (page ∷ rest) more at (inr later) = inr (later.0, waits-before rest more at later.1)

  pub waits-after : (first more : List ℕ) (at : ℕ) → IsMet first pages → WaitsAt more pages at → WaitsAt (first ++ more) pages at
  waits-after [] more at met waits = waits
  waits-after (page ∷ rest) more at met waits = inr (met.0, waits-after rest more at met.1 waits)

  pub met-both : (first more : List ℕ) → IsMet first pages → IsMet more pages → IsMet (first ++ more) pages
  met-both [] more met also = also
  met-both (page ∷ rest) more met also = (met.0, met-both rest more met.1 also)

  pub met-first : (first more : List ℕ) → IsMet (first ++ more) pages → IsMet first pages
  met-first [] more met = tt
  met-first (page ∷ rest) more met = (met.0, met-first rest more met.1)

  pub met-second : (first more : List ℕ) → IsMet (first ++ more) pages → IsMet more pages
  met-second [] more met = met
  met-second (page ∷ rest) more met = met-second rest more met.1

  pub some-after : (first more : List ℕ) → IsMet first pages → (page : Option ℕ) → IfSome page (WaitsAt more pages) → IfSome page (WaitsAt (first ++ more) pages)
  some-after first more met None waits = tt
  some-after first more met (Some at) waits = waits-after first more at met waits
