-- What leaves of flags cost that are told by the lengths of their runs.
use Rattle.std.proofs.Common.{◌≡◌, suc, ◌+◌, ◌/◌, ◌%◌, ◌<◌, ◌≤◌, Bool, List, ◌++◌, length, take, drop, sym, ap, ◌∙◌, arith}
use Rattle.std.specs.Simd.{first_chunks}
use Rattle.std.proofs.lemmas.List.{append_assoc, map-append, length-drop, take-append-drop}
use Rattle.shared_leaves.specs.declared.leaf.TheConstants.{LEAF_ENTRIES}
use Rattle.shared_leaves.specs.Choices.{chosen, choice, WhichMade, piece_steps, made_with, pieces_steps}
use Rattle.shared_leaves.specs.Runs.{steps_from}

-- ---- a leaf more

pub leaf_behind : {T : Type 0} (set unset : T) (list leaf made : List T) (flags : List Bool)
    → leaf ≡ chosen set unset (take LEAF_ENTRIES flags) → made ≡ list ++ leaf → made ++ chosen set unset (drop LEAF_ENTRIES flags) ≡ list ++ chosen set unset flags
leaf_behind set unset list leaf made flags is pushed =
    ap (λ front. front ++ chosen set unset (drop LEAF_ENTRIES flags)) pushed
    ∙ append_assoc list leaf (chosen set unset (drop LEAF_ENTRIES flags))
    ∙ ap (λ back. list ++ back)
    (ap (λ front. front ++ chosen set unset (drop LEAF_ENTRIES flags)) is
    ∙ sym (map-append (choice set unset) (take LEAF_ENTRIES flags) (drop LEAF_ENTRIES flags))
    ∙ ap (chosen set unset) (take-append-drop LEAF_ENTRIES flags))

-- what it costs
pub steps_leaf : (made : WhichMade) (flags : List Bool) → LEAF_ENTRIES ≤ length flags
    → steps_from made flags ≡ piece_steps (take LEAF_ENTRIES flags) made + steps_from (made_with (take LEAF_ENTRIES flags) made) (drop LEAF_ENTRIES flags)
steps_leaf made flags enough =
    let size = length-drop LEAF_ENTRIES flags in
    let more : length flags / LEAF_ENTRIES ≡ suc (length (drop LEAF_ENTRIES flags) / LEAF_ENTRIES) = omega (arith, size, enough) in
    let rest : length flags % LEAF_ENTRIES ≡ length (drop LEAF_ENTRIES flags) % LEAF_ENTRIES = omega (arith, size, enough) in
    let whole = ap (λ count. pieces_steps made (first_chunks LEAF_ENTRIES count flags)) more in
    omega (arith, whole, rest)

pub steps_few : (made : WhichMade) (flags : List Bool) → length flags < LEAF_ENTRIES → steps_from made flags ≡ length flags
steps_few made flags few =
    let none : length flags / LEAF_ENTRIES ≡ 0 = omega (arith, few) in
    let whole = ap (λ count. pieces_steps made (first_chunks LEAF_ENTRIES count flags)) none in
    omega (arith, whole, few)
