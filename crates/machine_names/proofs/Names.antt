-- Names by the forks that they hold: the first of a list, as many as they are deep.
use Rattle.std.proofs.Common.{◌≡◌, ◌-◌, ◌<◌, ◌≤◌, ℕ, true, false, sym, ap, ap₂, ◌∙◌, length, take, get_or, get_or-take, length-take-le, take-take, Some, None, arith}
use Rattle.std.specs.Ordering.{is_ne, ordering_then}
use Rattle.forest_tree.specs.Tree.{Branch, Path, beyond}
use Rattle.machine_names.specs.Name.{next_of}
use Rattle.machine_names.specs.NameOrder.{back_cmp, branch_cmp}
use Rattle.machine_names.proofs.Back.{by-last, undecided}
use Rattle.machine_names.proofs.Below.{next-apart, next-short, next-there}
use Rattle.machine_names.proofs.NameMaps.{back-same}

module _ (list path : Path) (depth : ℕ) (fits : depth ≤ length list) (is : take depth list ≡ path) where
  deep : length path ≡ depth
  deep = ap length (sym is) ∙ length-take-le depth list fits

  module _ (other way : Path) (depth-way : ℕ) (fits-way : depth-way ≤ length other) (is-way : take depth-way other ≡ way) where
    long : length way ≡ depth-way
    long = ap length (sym is-way) ∙ length-take-le depth-way other fits-way

    -- this name goes on from the other, or does not
    pub next-none : depth ≤ depth-way → None ≡ next_of (beyond way path)
    next-none short = sym (next-short way path (omega (arith, deep, long)))

    front : depth-way < depth → take (length way) path ≡ take depth-way list
    front longer = ap (take (length way)) (sym is) ∙ ap (λ n. take n (take depth list)) long ∙ take-take depth-way depth list (omega arith)

    pub next-not : depth-way < depth → is_ne (back_cmp (take depth-way list) (take depth-way other)) ≡ true → None ≡ next_of (beyond way path)
    next-not longer apart = next-apart way path (ap is_ne (ap₂ back_cmp (front longer) (sym is-way)) ∙ apart)

    pub next-some : depth-way < depth → is_ne (back_cmp (take depth-way list) (take depth-way other)) ≡ false → (x : Branch) → x ≡ get_or list depth-way x
        → Some x ≡ next_of (beyond way path)
    next-some longer same x x-is =
        let begins : take (length way) path ≡ way
        = front longer ∙ back-same (take depth-way list) (take depth-way other) (undecided (back_cmp (take depth-way list) (take depth-way other)) same) ∙ is-way in
        let there : x ≡ get_or path (length way) x
        = x-is ∙ sym (get_or-take depth list depth-way x longer) ∙ ap (λ xs. get_or xs depth-way x) is ∙ ap (λ n. get_or path n x) (sym long) in
        next-there way path x (omega (arith, deep, long)) begins there

    -- by the last fork of each, and then by those before it
    pub cmp-last : (x y : Branch) → length path ≡ length way → 0 < depth → x ≡ get_or list (depth - 1) x → (0 < depth-way → y ≡ get_or other (depth-way - 1) y)
        → back_cmp path way ≡ ordering_then (branch_cmp x y) (back_cmp (take (depth - 1) list) (take (depth - 1) other))
    cmp-last x y as_long some x-is y-is =
        let same : depth-way ≡ depth = sym long ∙ sym as_long ∙ deep in
        ap₂ back_cmp (sym is) (sym is-way ∙ ap (λ n. take n other) same)
        ∙ by-last list other depth x y some fits (omega (arith, fits-way, same)) x-is (y-is (omega (arith, same)) ∙ ap (λ n. get_or other (n - 1) y) same)
