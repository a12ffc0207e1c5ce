-- The order of names: that with fewer forks comes first. Where both have as many, the last forks that are not the
-- same decide.
use Rattle.std.specs.Prelude.{length, reverse}
use Rattle.std.specs.declared.cmp.Ordering.{Ordering}
use Rattle.std.specs.Ordering.{nat_cmp, on, then_cmp, eq_by_cmp}
use Rattle.std.specs.Cmp.{IsEquivalence, IsTotalOrder, eq_by_cmp_equiv, nat_cmp_total, on_total, then_total}
use Rattle.std.specs.Cmp.Lexicographic.{slice_cmp, lists_total}
use Rattle.forest_tree.specs.Tree.{Branch, Path}

-- by ticket, then by child
unfoldable pub branch_cmp : Branch → Branch → Ordering
branch_cmp = then_cmp (on (λ b. b.ticket) nat_cmp) (on (λ b. b.child) nat_cmp)

-- by the last forks, then by those before them, and so on
abbrev pub back_cmp : Path → Path → Ordering
back_cmp = on reverse (slice_cmp branch_cmp)

unfoldable pub path_cmp : Path → Path → Ordering
path_cmp = then_cmp (on length nat_cmp) back_cmp

pub branch_cmp_total : IsTotalOrder branch_cmp
unfolding branch_cmp
branch_cmp_total = then_total (on_total (λ b. b.ticket) nat_cmp_total) (on_total (λ b. b.child) nat_cmp_total)

pub path_cmp_total : IsTotalOrder path_cmp
unfolding path_cmp
path_cmp_total = then_total (on_total length nat_cmp_total) (on_total reverse (lists_total branch_cmp_total))

pub branch_eq_laws : IsEquivalence (eq_by_cmp branch_cmp)
branch_eq_laws = eq_by_cmp_equiv branch_cmp_total

pub path_eq_laws : IsEquivalence (eq_by_cmp path_cmp)
path_eq_laws = eq_by_cmp_equiv path_cmp_total
