-- Forks by one number that has the ticket and the child.
use Rattle.std.proofs.Common.{◌≡◌, ℕ, ◌<◌, ◌+◌, ◌*◌, ◌^◌, ◌⊎◌, inl, inr, sym, ap, ◌∙◌, arith}
use Rattle.std.specs.declared.cmp.Ordering.{Ordering}
use Rattle.std.specs.declared.cmp.Ordering.TheVariants.{Less, Equal, Greater}
use Rattle.std.specs.Ordering.{nat_cmp, ordering_then}
use Rattle.std.specs.Cmp.{nat_cmp_is}

three-ways : (a b : ℕ) → (a < b) ⊎ ((a ≡ b) ⊎ (b < a))
three-ways a b = grind arith

-- where the tickets are not the same they decide, and else the children
pub by-key : (t c u d : ℕ) → c < 2 ^ 32 → d < 2 ^ 32 → ordering_then (nat_cmp t u) (nat_cmp c d) ≡ nat_cmp (t * 2 ^ 32 + c) (u * 2 ^ 32 + d)
by-key t c u d c-fits d-fits = by (three-ways t u) (three-ways c d)
  where
    ours : ℕ
    ours = t * 2 ^ 32 + c

    theirs : ℕ
    theirs = u * 2 ^ 32 + d

    tickets : (o : Ordering) → o ≡ nat_cmp t u → ordering_then o (nat_cmp c d) ≡ nat_cmp ours theirs → ordering_then (nat_cmp t u) (nat_cmp c d) ≡ nat_cmp ours theirs
    tickets o is rest = ap (λ p. ordering_then p (nat_cmp c d)) (sym is) ∙ rest

    by : (t < u) ⊎ ((t ≡ u) ⊎ (u < t)) → (c < d) ⊎ ((c ≡ d) ⊎ (d < c)) → ordering_then (nat_cmp t u) (nat_cmp c d) ≡ nat_cmp ours theirs
    by (inl less) children = tickets Less (nat_cmp_is t u Less less) (nat_cmp_is ours theirs Less (omega (arith, less)))
    by (inr (inr more)) children = tickets Greater (nat_cmp_is t u Greater more) (nat_cmp_is ours theirs Greater (omega (arith, more)))
    by (inr (inl same)) (inl less) =
        tickets Equal (nat_cmp_is t u Equal same) (sym (nat_cmp_is c d Less less) ∙ nat_cmp_is ours theirs Less (omega (arith, same, less)))
    by (inr (inl same)) (inr (inl alike)) =
        tickets Equal (nat_cmp_is t u Equal same) (sym (nat_cmp_is c d Equal alike) ∙ nat_cmp_is ours theirs Equal (omega (arith, same, alike)))
    by (inr (inl same)) (inr (inr more)) =
        tickets Equal (nat_cmp_is t u Equal same) (sym (nat_cmp_is c d Greater more) ∙ nat_cmp_is ours theirs Greater (omega (arith, same, more)))
