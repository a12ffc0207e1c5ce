-- Lists in which each entry is one of two.
use Rattle.std.proofs.Common.{◌≡◌, ℕ, zero, suc, ◌+◌, ◌*◌, ◌/◌, ◌<◌, ◌≤◌, Bool, true, false, List, [], ◌∷◌, ◌++◌, length}
use Rattle.std.proofs.Common.{take, drop, get_or, replicate, Option, Some, refl, sym, ap, ap₂, ◌∙◌, take-add, arith}
use Rattle.std.specs.Simd.{first_chunks}
use Rattle.std.proofs.lemmas.List.{map-append, length-drop, length-map, drop_more, take_more, take-append-drop}
use Rattle.shared_leaves.specs.declared.leaf.TheConstants.{LEAF_ENTRIES}
use Rattle.shared_leaves.specs.Leaves.{joined}
use Rattle.shared_leaves.specs.Choices.{choice, chosen, equal_steps, has, WhichMade, made_by, piece_steps, made_with, pieces_steps, steps_by, which}
use Rattle.shared_leaves.proofs.LeafLemmas.{joined-push}

-- pieces in a row are the front
pub joined-first_chunks : {A : Type 0} (size count : ℕ) (xs : List A) → size * count ≤ length xs → joined (first_chunks size count xs) ≡ take (size * count) xs
joined-first_chunks size zero xs inside =
    let none : 0 ≡ size * 0 = omega arith in
    ap (λ n. take n xs) none
joined-first_chunks size (suc count) xs inside =
    let next : size + size * count ≡ size * suc count = grind arith in
    ap (λ rest. take size xs ++ rest) (joined-first_chunks size count (drop size xs) (omega (arith, next, length-drop size xs)))
    ∙ sym (take-add size (size * count) xs) ∙ ap (λ n. take n xs) next

module _ {T : Type 0} (set unset : T) where
  -- one entry more
  pub written-more : (flags : List Bool) (entries made : List T) (entry : T) (at : ℕ) (d : Bool) → at < length flags → entry ≡ choice set unset (get_or flags at d)
      → entries ≡ chosen set unset (take at flags) → made ≡ entries ++ entry ∷ [] → made ≡ chosen set unset (take (at + 1) flags)
  written-more flags entries made entry at d inside is so_far pushed =
      pushed ∙ ap₂ (λ xs x. xs ++ x ∷ []) so_far is
      ∙ sym (map-append (choice set unset) (take at flags) (get_or flags at d ∷ []))
      ∙ sym (ap (chosen set unset) (take_more flags at d inside))

  -- entries of equal flags
  pub all_unset : (piece : List Bool) → has true piece ≡ false → chosen set unset piece ≡ replicate (length piece) unset
  all_unset [] none = refl
  all_unset (true ∷ piece) none = cc
  all_unset (false ∷ piece) none = ap (λ xs. unset ∷ xs) (all_unset piece none)

  pub all_set : (piece : List Bool) → has false piece ≡ false → chosen set unset piece ≡ replicate (length piece) set
  all_set [] none = refl
  all_set (true ∷ piece) none = ap (λ xs. set ∷ xs) (all_set piece none)
  all_set (false ∷ piece) none = cc

  -- one leaf more
  pub leaf-more : (pieces : List (List Bool)) (list made leaf : List T) (at : ℕ) → at < length pieces
      → list ≡ chosen set unset (joined (take at pieces)) → leaf ≡ chosen set unset (get_or pieces at []) → made ≡ list ++ leaf → made ≡ chosen set unset (joined (take (at + 1) pieces))
  leaf-more pieces list made leaf at inside so_far is pushed =
      pushed ∙ ap₂ (λ xs ys. xs ++ ys) so_far is
      ∙ sym (map-append (choice set unset) (joined (take at pieces)) (get_or pieces at []))
      ∙ sym (ap (chosen set unset) (ap joined (take_more pieces at [] inside) ∙ joined-push (take at pieces) (get_or pieces at [])))

  -- which is full
  pub length-chosen : (pieces : List (List Bool)) (leaf : List T) (at : ℕ) → ((k : ℕ) → k < length pieces → length (get_or pieces k []) ≡ LEAF_ENTRIES)
      → at < length pieces → leaf ≡ chosen set unset (get_or pieces at []) → length leaf ≡ LEAF_ENTRIES
  length-chosen pieces leaf at full inside is = ap length is ∙ length-map (get_or pieces at []) (choice set unset) ∙ full at inside

  -- the whole leaves, and the rest behind them
  pub chosen-parts : (flags rest : List Bool) (whole last : List T) → rest ≡ drop (length flags / LEAF_ENTRIES * LEAF_ENTRIES) flags
      → whole ≡ chosen set unset (joined (first_chunks LEAF_ENTRIES (length flags / LEAF_ENTRIES) flags)) → last ≡ chosen set unset rest → whole ++ last ≡ chosen set unset flags
  chosen-parts flags rest whole last is_rest is_whole is_last =
      let count = length flags / LEAF_ENTRIES in
      let place : LEAF_ENTRIES * count ≡ count * LEAF_ENTRIES = omega arith in
      let front = joined-first_chunks LEAF_ENTRIES count flags (omega arith) ∙ ap (λ n. take n flags) place in
      ap₂ (λ xs ys. xs ++ ys) (is_whole ∙ ap (chosen set unset) front) (is_last ∙ ap (chosen set unset) is_rest)
      ∙ sym (map-append (choice set unset) (take (count * LEAF_ENTRIES) flags) (drop (count * LEAF_ENTRIES) flags))
      ∙ ap (chosen set unset) (take-append-drop (count * LEAF_ENTRIES) flags)

-- what the pieces from a place on cost
pub steps-rest : (pieces : List (List Bool)) (made : WhichMade) (at : ℕ) → at < length pieces
    → pieces_steps made (drop at pieces) ≡ piece_steps (get_or pieces at []) made + pieces_steps (made_with (get_or pieces at []) made) (drop (at + 1) pieces)
steps-rest pieces made at inside = ap (pieces_steps made) (drop_more pieces at [] inside)

pub kept_is : {A : Type 0} (kept : Option A) (a x : A) → kept ≡ Some a → kept ≡ Some x → x ≡ a
kept_is kept a x is read = cc

-- ---- what a leaf costs, and which leaves of equal entries are made then

module _ (piece : List Bool) (none : has true piece ≡ false) where
  pub unset-steps : (made : WhichMade) → piece_steps piece made ≡ equal_steps made.unset piece
  unset-steps made = ap (λ some. steps_by some (has false piece) piece made) none

  pub made-unset : {A : Type 0} (set old new : Option A) (leaf : A) → new ≡ Some leaf → which set new ≡ made_with piece (which set old)
  made-unset set old new leaf is = ap (λ made. which set made) is ∙ sym (ap (λ some. made_by some (has false piece) (which set old)) none)

module _ (piece : List Bool) (some : has true piece ≡ true) (all : has false piece ≡ false) where
  pub set-steps : (made : WhichMade) → piece_steps piece made ≡ equal_steps made.set piece
  set-steps made = ap₂ (λ some other. steps_by some other piece made) some all

  pub made-set : {A : Type 0} (unset old new : Option A) (leaf : A) → new ≡ Some leaf → which new unset ≡ made_with piece (which old unset)
  made-set unset old new leaf is = ap (λ made. which made unset) is ∙ sym (ap₂ (λ some other. made_by some other (which old unset)) some all)

module _ (piece : List Bool) (some : has true piece ≡ true) (other : has false piece ≡ true) (made : WhichMade) where
  pub mixed-steps : piece_steps piece made ≡ length piece
  mixed-steps = ap₂ (λ some other. steps_by some other piece made) some other

  pub made-mixed : made ≡ made_with piece made
  made-mixed = sym (ap₂ (λ some other. made_by some other made) some other)
