-- How many steps it takes to make a list in which each entry is one of two.
use Rattle.std.proofs.Common.{◌≡◌, ℕ, zero, suc, ◌+◌, ◌*◌, ◌/◌, ◌%◌, ◌≤◌, ◌||◌, Bool, true, false, List, length, take, drop, refl, sym, ap, ◌∙◌, subst, arith}
use Rattle.std.specs.Simd.{first_chunks}
use Rattle.std.specs.Bool.{beq}
use Rattle.std.proofs.lemmas.List.{length-take, take-append-drop}
use Rattle.std.proofs.lemmas.List.Folds.{list_any-append}
use Rattle.shared_leaves.specs.declared.leaf.TheConstants.{LEAF_ENTRIES}
use Rattle.shared_leaves.specs.Choices.{has, WhichMade, no_leaf, equal_steps, steps_by, made_by, pieces_steps, choice_steps, one_if_mixed, mixed_pieces, mixed_leaves}

-- how many leaves of equal entries are not made yet
abbrev one_if_not : Bool → ℕ
one_if_not true = 0
one_if_not false = 1

abbrev missing : WhichMade → ℕ
missing made = one_if_not made.set + one_if_not made.unset

equal-bound : (made : Bool) (piece : List Bool) → length piece ≤ LEAF_ENTRIES → equal_steps made piece ≤ 1 + LEAF_ENTRIES * one_if_not made
equal-bound true piece short = omega arith
equal-bound false piece short = omega arith

piece-bound : (some other : Bool) (piece : List Bool) (made : WhichMade) → length piece ≤ LEAF_ENTRIES
    → steps_by some other piece made + LEAF_ENTRIES * missing (made_by some other made) ≤ 1 + LEAF_ENTRIES * (one_if_mixed some other + missing made)
piece-bound false other piece made short = omega (arith, equal-bound made.unset piece short)
piece-bound true false piece made short = omega (arith, equal-bound made.set piece short)
piece-bound true true piece made short = omega arith

pieces-bound : (count : ℕ) (flags : List Bool) (made : WhichMade)
    → pieces_steps made (first_chunks LEAF_ENTRIES count flags) ≤ count + LEAF_ENTRIES * (mixed_pieces (first_chunks LEAF_ENTRIES count flags) + missing made)
pieces-bound zero flags made = omega arith
pieces-bound (suc count) flags made =
    let piece = take LEAF_ENTRIES flags in
    let rest = pieces-bound count (drop LEAF_ENTRIES flags) (made_by (has true piece) (has false piece) made) in
    omega (arith, rest, piece-bound (has true piece) (has false piece) piece made (omega (arith, length-take LEAF_ENTRIES flags)))

pub leaves-bound : (flags : List Bool) → choice_steps flags ≤ length flags / LEAF_ENTRIES + LEAF_ENTRIES * (mixed_leaves flags + 2) + length flags % LEAF_ENTRIES
unfolding choice_steps
leaves-bound flags = omega (arith, pieces-bound (length flags / LEAF_ENTRIES) flags no_leaf)

-- ---- where no flag is set

has-parts : (n : ℕ) (flags : List Bool) → (has true (take n flags) || has true (drop n flags)) ≡ has true flags
has-parts n flags = sym (list_any-append (λ f. beq f true) (take n flags) (drop n flags)) ∙ ap (has true) (take-append-drop n flags)

neither : (a b : Bool) → (a || b) ≡ false → (a ≡ false) × (b ≡ false)
neither false false none = (refl, refl)
neither false true none = cc
neither true b none = cc

unset-bound : (count : ℕ) (flags : List Bool) (set unset : Bool) → has true flags ≡ false
    → pieces_steps (record { set = set; unset = unset }) (first_chunks LEAF_ENTRIES count flags) ≤ count + LEAF_ENTRIES * one_if_not unset
unset-bound zero flags set unset none = omega arith
unset-bound (suc count) flags set unset none =
    let piece = take LEAF_ENTRIES flags in
    let parts = neither (has true piece) (has true (drop LEAF_ENTRIES flags)) (has-parts LEAF_ENTRIES flags ∙ none) in
    let rest = unset-bound count (drop LEAF_ENTRIES flags) set true parts.1 in
    subst (λ some. steps_by some (has false piece) piece (record { set = set; unset = unset }) + pieces_steps
    (made_by some (has false piece) (record { set = set; unset = unset })) (first_chunks LEAF_ENTRIES count (drop LEAF_ENTRIES flags)) ≤ suc count + LEAF_ENTRIES * one_if_not unset)
    (sym parts.0) (omega (arith, rest, equal-bound unset piece (omega (arith, length-take LEAF_ENTRIES flags))))

pub none_set-bound : (flags : List Bool) → has true flags ≡ false → choice_steps flags ≤ length flags / LEAF_ENTRIES + LEAF_ENTRIES + length flags % LEAF_ENTRIES
unfolding choice_steps
none_set-bound flags none = omega (arith, unset-bound (length flags / LEAF_ENTRIES) flags false false none)
