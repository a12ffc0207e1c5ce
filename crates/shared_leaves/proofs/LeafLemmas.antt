-- Reads and writes of a list that is cut into leaves.
use Rattle.std.proofs.Common.{◌≡◌, ℕ, zero, suc, ◌+◌, ◌-◌, ◌*◌, ◌/◌, ◌%◌, ◌<◌, ◌≤◌, List, [], ◌∷◌, ◌++◌, length, take, drop, get_or, replicate}
use Rattle.std.proofs.Common.{sym, ap, ap₂, ◌∙◌, subst, append_assoc, length-append, get_or-drop, take-add, take_all, arith, refl}
use Rattle.std.specs.List.{splice}
use Rattle.std.proofs.Math.ListN.{set, get_or-append}
use Rattle.std.proofs.Math.Seq.{take-append-add, drop-append-add}
use Rattle.std.proofs.lemmas.List.{append-nil, drop_at, drop-drop, get_or-append-add, get_or_read, length-drop, length-replicate}
use Rattle.std.proofs.lemmas.List.{length-set, length-take-le, replicate-append-replicate, set-append_left}
use Rattle.std.proofs.lemmas.List.{set-append_right, set-get_or, set_split, take-append-drop, take_at, take_more}
use Rattle.shared_leaves.specs.declared.leaf.TheConstants.{LEAF_ENTRIES}
use Rattle.shared_leaves.specs.Leaves.{joined, IsCut, leaf_count}

module _ {T : Type 0} where
  pub length-joined : (count : ℕ) (leaves : List (List T)) → IsCut count leaves → length (joined leaves) ≡ count
  length-joined count [] cut = sym cut
  length-joined count (leaf ∷ leaves) cut =
      let rest = length-joined (count - LEAF_ENTRIES) leaves cut.2 in
      omega (arith, length-append leaf (joined leaves), cut.0, cut.1, rest)

  pub length-leaves : (count : ℕ) (leaves : List (List T)) → IsCut count leaves → length leaves ≡ leaf_count count
  length-leaves count [] cut = omega (arith, cut)
  length-leaves count (leaf ∷ leaves) cut =
      let rest = length-leaves (count - LEAF_ENTRIES) leaves cut.2 in
      omega (arith, cut.0, rest)

  -- how many leaves the list has
  pub counted-leaves : (count : ℕ) (leaves : List (List T)) → IsCut count leaves → (list : List T) → joined leaves ≡ list → length leaves ≡ leaf_count (length list)
  counted-leaves count leaves cut list is =
      length-leaves count leaves cut ∙ ap leaf_count (sym (length-joined count leaves cut) ∙ ap length is)

  -- the leaf in which an entry lies
  pub leaf_below : (count : ℕ) (leaves : List (List T)) (k r : ℕ) → IsCut count leaves → LEAF_ENTRIES * k + r < count → k < length leaves
  leaf_below count [] k r cut inside = absurd (omega arith)
  leaf_below count (leaf ∷ leaves) zero r cut inside = omega arith
  leaf_below count (leaf ∷ leaves) (suc k) r cut inside =
      let below : k < length leaves = leaf_below (count - LEAF_ENTRIES) leaves k r cut.2 (omega arith) in
      omega arith

  pub within_leaf : (count : ℕ) (leaves : List (List T)) (k r : ℕ) → IsCut count leaves → LEAF_ENTRIES * k + r < count → r < LEAF_ENTRIES
      → r < length (get_or leaves k [])
  within_leaf count [] k r cut inside fits = absurd (omega arith)
  within_leaf count (leaf ∷ leaves) zero r cut inside fits = omega (arith, cut.1)
  within_leaf count (leaf ∷ leaves) (suc k) r cut inside fits = within_leaf (count - LEAF_ENTRIES) leaves k r cut.2 (omega arith) fits

  pub get_or-joined : (count : ℕ) (leaves : List (List T)) (k r : ℕ) (d : T) → IsCut count leaves → LEAF_ENTRIES * k + r < count → r < LEAF_ENTRIES
      → get_or (joined leaves) (LEAF_ENTRIES * k + r) d ≡ get_or (get_or leaves k []) r d
  get_or-joined count [] k r d cut inside fits = absurd (omega arith)
  get_or-joined count (leaf ∷ leaves) zero r d cut inside fits =
      let within : r < length leaf = omega (arith, cut.1) in
      ap (λ i. get_or (leaf ++ joined leaves) i d) (omega arith) ∙ get_or-append leaf (joined leaves) d r within
  get_or-joined count (leaf ∷ leaves) (suc k) r d cut inside fits =
      let place : LEAF_ENTRIES * suc k + r ≡ length leaf + (LEAF_ENTRIES * k + r) = omega (arith, cut.1) in
      ap (λ i. get_or (leaf ++ joined leaves) i d) place ∙ get_or-append-add leaf (joined leaves) (LEAF_ENTRIES * k + r) d
      ∙ get_or-joined (count - LEAF_ENTRIES) leaves k r d cut.2 (omega arith) fits

  pub set-joined : (count : ℕ) (leaves : List (List T)) (k r : ℕ) (entry : T) → IsCut count leaves → LEAF_ENTRIES * k + r < count → r < LEAF_ENTRIES
      → joined (set leaves k (set (get_or leaves k []) r entry)) ≡ set (joined leaves) (LEAF_ENTRIES * k + r) entry
  set-joined count [] k r entry cut inside fits = absurd (omega arith)
  set-joined count (leaf ∷ leaves) zero r entry cut inside fits =
      let within : r < length leaf = omega (arith, cut.1) in
      sym (ap (λ i. set (leaf ++ joined leaves) i entry) (omega arith) ∙ set-append_left leaf (joined leaves) r entry within)
  set-joined count (leaf ∷ leaves) (suc k) r entry cut inside fits =
      let full : length leaf ≡ LEAF_ENTRIES = omega (arith, cut.1) in
      let place : LEAF_ENTRIES * suc k + r - LEAF_ENTRIES ≡ LEAF_ENTRIES * k + r = omega arith in
      ap (λ rest. leaf ++ rest) (set-joined (count - LEAF_ENTRIES) leaves k r entry cut.2 (omega arith) fits)
      ∙ sym (set-append_right leaf (joined leaves) LEAF_ENTRIES (LEAF_ENTRIES * suc k + r) entry full (omega arith)
      ∙ ap (λ i. leaf ++ set (joined leaves) i entry) place)

  pub IsCut-set : (count : ℕ) (leaves : List (List T)) (k : ℕ) (leaf : List T) → IsCut count leaves → length leaf ≡ length (get_or leaves k [])
      → IsCut count (set leaves k leaf)
  IsCut-set count [] k leaf cut same = cut
  IsCut-set count (l ∷ leaves) zero leaf cut same = (cut.0, same ∙ cut.1, cut.2)
  IsCut-set count (l ∷ leaves) (suc k) leaf cut same = (cut.0, cut.1, IsCut-set (count - LEAF_ENTRIES) leaves k leaf cut.2 same)

  pub joined-push : (leaves : List (List T)) (leaf : List T) → joined (leaves ++ leaf ∷ []) ≡ joined leaves ++ leaf
  joined-push [] leaf = append-nil leaf
  joined-push (l ∷ leaves) leaf = ap (λ rest. l ++ rest) (joined-push leaves leaf) ∙ sym (append_assoc l (joined leaves) leaf)

  -- the first leaf has the first entries
  take-joined : (count : ℕ) (leaf : List T) (leaves : List (List T)) → IsCut count (leaf ∷ leaves) → take LEAF_ENTRIES (leaf ++ joined leaves) ≡ leaf
  take-joined count leaf [] cut = ap (take LEAF_ENTRIES) (append-nil leaf) ∙ take_all LEAF_ENTRIES leaf (omega (arith, cut.1))
  take-joined count leaf (next ∷ leaves) cut = take_at leaf (joined (next ∷ leaves)) LEAF_ENTRIES (omega (arith, cut.1, cut.2.0))

  -- the entries of leaf k
  pub get_or-leaves : (count : ℕ) (leaves : List (List T)) (k : ℕ) → IsCut count leaves → LEAF_ENTRIES * k < count
      → get_or leaves k [] ≡ take LEAF_ENTRIES (drop (LEAF_ENTRIES * k) (joined leaves))
  get_or-leaves count [] k cut inside = absurd (omega (arith, cut))
  get_or-leaves count (leaf ∷ leaves) zero cut inside = sym (take-joined count leaf leaves cut)
  get_or-leaves count (leaf ∷ leaves) (suc k) cut inside =
      let place : LEAF_ENTRIES * suc k ≡ length leaf + LEAF_ENTRIES * k = omega (arith, cut.1) in
      get_or-leaves (count - LEAF_ENTRIES) leaves k cut.2 (omega arith)
      ∙ sym (ap (take LEAF_ENTRIES) (ap (λ n. drop n (leaf ++ joined leaves)) place ∙ drop-append-add leaf (joined leaves) (LEAF_ENTRIES * k)))

  -- the first leaves, which are full
  pub IsCut-take : (count : ℕ) (leaves : List (List T)) (k : ℕ) → IsCut count leaves → LEAF_ENTRIES * k ≤ count → IsCut (LEAF_ENTRIES * k) (take k leaves)
  IsCut-take count leaves zero cut inside = omega arith
  IsCut-take count [] (suc k) cut inside = absurd (omega (arith, cut))
  IsCut-take count (leaf ∷ leaves) (suc k) cut inside =
      let rest = IsCut-take (count - LEAF_ENTRIES) leaves k cut.2 (omega arith) in
      let counted : LEAF_ENTRIES * k ≡ LEAF_ENTRIES * suc k - LEAF_ENTRIES = omega arith in
      (omega arith, omega (arith, cut.1), subst (λ n. IsCut n (take k leaves)) counted rest)

  pub joined-take : (count : ℕ) (leaves : List (List T)) (k : ℕ) → IsCut count leaves → LEAF_ENTRIES * k ≤ count
      → joined (take k leaves) ≡ take (LEAF_ENTRIES * k) (joined leaves)
  joined-take count leaves zero cut inside = refl
  joined-take count [] (suc k) cut inside = absurd (omega (arith, cut))
  joined-take count (leaf ∷ leaves) (suc k) cut inside =
      let start : LEAF_ENTRIES * suc k ≡ length leaf + LEAF_ENTRIES * k = omega (arith, cut.1) in
      ap (λ rest. leaf ++ rest) (joined-take (count - LEAF_ENTRIES) leaves k cut.2 (omega arith))
      ∙ sym (ap (λ n. take n (leaf ++ joined leaves)) start ∙ take-append-add leaf (joined leaves) (LEAF_ENTRIES * k))

  -- entries from a place on behind those before it
  pub followed : (xs list copies : List T) (entry : T) (begin count : ℕ) → begin ≤ count → list ≡ take begin xs → copies ≡ take (count - begin) (drop begin xs)
      → list ++ (copies ++ entry ∷ []) ≡ take count xs ++ entry ∷ []
  followed xs list copies entry begin count order front back =
      let whole : begin + (count - begin) ≡ count = omega arith in
      sym (append_assoc list copies (entry ∷ []))
      ∙ ap (λ all. all ++ entry ∷ []) (ap₂ (λ a b. a ++ b) front back ∙ sym (take-add begin (count - begin) xs) ∙ ap (λ n. take n xs) whole)

  -- how many these are
  pub length-front : (xs list : List T) (begin : ℕ) → begin ≤ length xs → list ≡ take begin xs → length list ≡ begin
  length-front xs list begin inside front = ap length front ∙ length-take-le begin xs inside

  pub length-last : (xs last : List T) (entry : T) (begin count : ℕ) → begin ≤ count → count ≤ length xs
      → last ≡ take (count - begin) (drop begin xs) ++ entry ∷ [] → length last ≡ count - begin + 1
  length-last xs last entry begin count order inside is =
      let run = take (count - begin) (drop begin xs) in
      omega (arith, ap length is, length-append run (entry ∷ []), length-take-le (count - begin) (drop begin xs) (omega (arith, length-drop begin xs)))

  -- an entry that goes from what is left behind others
  pub moved : (before left after rest : List T) (x : T) → left ≡ x ∷ rest → after ≡ before ++ x ∷ [] → before ++ left ≡ after ++ rest
  moved before left after rest x first pushed =
      ap (λ xs. before ++ xs) first ∙ sym (append_assoc before (x ∷ []) rest) ∙ ap (λ front. front ++ rest) (sym pushed)

  -- one entry more
  pub copied-more : (xs old copies : List T) (x : T) (first at : ℕ) → first ≤ at → at < length xs → x ≡ get_or xs at x → copies ≡ old ++ take (at - first) (drop first xs)
      → copies ++ x ∷ [] ≡ old ++ take (at + 1 - first) (drop first xs)
  copied-more xs old copies x first at order inside is before =
      let next : at - first + 1 ≡ at + 1 - first = omega arith in
      let place : first + (at - first) ≡ at = omega arith in
      let long : at - first < length (drop first xs) = omega (arith, length-drop first xs) in
      let read : get_or (drop first xs) (at - first) x ≡ x = get_or-drop first xs (at - first) x ∙ ap (λ n. get_or xs n x) place ∙ sym is in
      ap (λ front. front ++ x ∷ []) before ∙ append_assoc old (take (at - first) (drop first xs)) (x ∷ [])
      ∙ ap (λ run. old ++ run)
      (sym (ap (λ n. take n (drop first xs)) (sym next) ∙ take_more (drop first xs) (at - first) x long ∙ ap (λ e. take (at - first) (drop first xs) ++ e ∷ []) read))

  -- a leaf behind full ones
  pub IsCut-push : (count : ℕ) (leaves : List (List T)) (leaf : List T) → IsCut count leaves → count % LEAF_ENTRIES ≡ 0 → 0 < length leaf → length leaf ≤ LEAF_ENTRIES
      → IsCut (count + length leaf) (leaves ++ leaf ∷ [])
  IsCut-push count [] leaf cut whole some most = (omega arith, omega arith, omega arith)
  IsCut-push count (l ∷ leaves) leaf cut whole some most =
      let rest = IsCut-push (count - LEAF_ENTRIES) leaves leaf cut.2 (omega (arith, cut.0)) some most in
      let counted : count - LEAF_ENTRIES + length leaf ≡ count + length leaf - LEAF_ENTRIES = omega (arith, cut.0) in
      (omega arith, omega (arith, cut.0, cut.1), subst (λ n. IsCut n (leaves ++ leaf ∷ [])) counted rest)

  length_leaf : (count : ℕ) (leaves : List (List T)) (k : ℕ) → IsCut count leaves → LEAF_ENTRIES * k + LEAF_ENTRIES ≤ count → length (get_or leaves k []) ≡ LEAF_ENTRIES
  length_leaf count [] k cut inside = absurd (omega arith)
  length_leaf count (leaf ∷ leaves) zero cut inside = omega (arith, cut.1)
  length_leaf count (leaf ∷ leaves) (suc k) cut inside = length_leaf (count - LEAF_ENTRIES) leaves k cut.2 (omega arith)

  pub IsCut-replace : (count : ℕ) (leaves : List (List T)) (k : ℕ) (leaf : List T) → IsCut count leaves → LEAF_ENTRIES * k + LEAF_ENTRIES ≤ count → length leaf ≡ LEAF_ENTRIES
      → IsCut count (set leaves k leaf)
  IsCut-replace count leaves k leaf cut inside full = IsCut-set count leaves k leaf cut (full ∙ sym (length_leaf count leaves k cut inside))

  -- a full leaf in the place of another
  pub joined-replace : (count : ℕ) (leaves : List (List T)) (k : ℕ) (leaf : List T) → IsCut count leaves → LEAF_ENTRIES * k + LEAF_ENTRIES ≤ count
      → joined (set leaves k leaf) ≡ splice (joined leaves) (LEAF_ENTRIES * k) (LEAF_ENTRIES * k + LEAF_ENTRIES) leaf
  joined-replace count [] k leaf cut inside = absurd (omega arith)
  joined-replace count (l ∷ leaves) zero leaf cut inside =
      let full : length l ≡ LEAF_ENTRIES = omega (arith, cut.1) in
      sym (ap (λ rest. leaf ++ rest) (drop_at l (joined leaves) LEAF_ENTRIES full))
  joined-replace count (l ∷ leaves) (suc k) leaf cut inside =
      let start : LEAF_ENTRIES * suc k ≡ length l + LEAF_ENTRIES * k = omega (arith, cut.1) in
      let end : LEAF_ENTRIES * suc k + LEAF_ENTRIES ≡ length l + (LEAF_ENTRIES * k + LEAF_ENTRIES) = omega (arith, cut.1) in
      ap (λ rest. l ++ rest) (joined-replace (count - LEAF_ENTRIES) leaves k leaf cut.2 (omega arith))
      ∙ sym (append_assoc l (take (LEAF_ENTRIES * k) (joined leaves)) (leaf ++ drop (LEAF_ENTRIES * k + LEAF_ENTRIES) (joined leaves)))
      ∙ sym (ap (λ front. front ++ (leaf ++ drop (LEAF_ENTRIES * k + LEAF_ENTRIES) (joined leaves)))
      (ap (λ n. take n (l ++ joined leaves)) start ∙ take-append-add l (joined leaves) (LEAF_ENTRIES * k)))
      ∙ sym (ap (λ rest. take (LEAF_ENTRIES * suc k) (l ++ joined leaves) ++ (leaf ++ rest))
      (ap (λ n. drop n (l ++ joined leaves)) end ∙ drop-append-add l (joined leaves) (LEAF_ENTRIES * k + LEAF_ENTRIES)))

  -- a run behind a run
  pub splice-splice : (xs ys zs : List T) (first at end : ℕ) → first ≤ length xs → first + length ys ≡ at → at ≤ end
      → splice (splice xs first at ys) at end zs ≡ splice xs first end (ys ++ zs)
  splice-splice xs ys zs first at end inside counted order =
      let front : length (take first xs ++ ys) ≡ at = length-append (take first xs) ys ∙ ap (λ n. n + length ys) (length-take-le first xs inside) ∙ counted in
      let begins : take at (take first xs ++ ys ++ drop at xs) ≡ take first xs ++ ys = take_at (take first xs ++ ys) (drop at xs) at front in
      let more : at + (end - at) ≡ end = omega arith in
      let ends : drop end (take first xs ++ ys ++ drop at xs) ≡ drop end xs =
      ap (λ n. drop n (take first xs ++ ys ++ drop at xs)) (sym more)
      ∙ sym (drop-drop (end - at) at (take first xs ++ ys ++ drop at xs))
      ∙ ap (λ rest. drop (end - at) rest) (drop_at (take first xs ++ ys) (drop at xs) at front)
      ∙ drop-drop (end - at) at xs
      ∙ ap (λ n. drop n xs) more in
      ap (λ list. splice list at end zs) (sym (append_assoc (take first xs) ys (drop at xs)))
      ∙ ap (λ front. front ++ (zs ++ drop end (take first xs ++ ys ++ drop at xs))) begins
      ∙ ap (λ rest. take first xs ++ ys ++ (zs ++ rest)) ends
      ∙ append_assoc (take first xs) ys (zs ++ drop end xs)
      ∙ ap (λ rest. take first xs ++ rest) (sym (append_assoc ys zs (drop end xs)))

  pub set_is_splice : (xs : List T) (at : ℕ) (entry : T) → at < length xs → set xs at entry ≡ splice xs at (at + 1) (entry ∷ [])
  set_is_splice xs at entry inside =
      let next : suc at ≡ at + 1 = omega arith in
      set_split xs at entry inside ∙ ap (λ n. take at xs ++ entry ∷ drop n xs) next

  pub length-splice : (xs ys : List T) (first end : ℕ) → first + length ys ≡ end → end ≤ length xs → length (splice xs first end ys) ≡ length xs
  length-splice xs ys first end counted inside =
      omega (arith, length-append (take first xs) (ys ++ drop end xs), length-append ys (drop end xs), length-take-le first xs (omega arith), length-drop end xs)

  splice-none : (xs : List T) (first : ℕ) (entry : T) → xs ≡ splice xs first first (replicate (first - first) entry)
  splice-none xs first entry =
      let none : first - first ≡ 0 = omega arith in
      sym (ap (λ n. splice xs first first (replicate n entry)) none ∙ take-append-drop first xs)

  -- a run of equal entries that grows
  pub run-more : (xs : List T) (first at n : ℕ) (entry : T) → first ≤ at → at + n ≤ length xs
      → splice (splice xs first at (replicate (at - first) entry)) at (at + n) (replicate n entry) ≡ splice xs first (at + n) (replicate (at + n - first) entry)
  run-more xs first at n entry order inside =
      let counted : first + length (replicate (at - first) entry) ≡ at = omega (arith, length-replicate (at - first) entry) in
      let total : at - first + n ≡ at + n - first = omega arith in
      splice-splice xs (replicate (at - first) entry) (replicate n entry) first at (at + n) (omega arith) counted (omega arith)
      ∙ ap (λ ys. splice xs first (at + n) ys) (replicate-append-replicate (at - first) n entry ∙ ap (λ k. replicate k entry) total)

  pub length-run : (xs list : List T) (first at : ℕ) (entry : T) → first ≤ at → at ≤ length xs → list ≡ splice xs first at (replicate (at - first) entry)
      → length list ≡ length xs
  length-run xs list first at entry order inside is =
      let counted : first + length (replicate (at - first) entry) ≡ at = omega (arith, length-replicate (at - first) entry) in
      ap length is ∙ length-splice xs (replicate (at - first) entry) first at counted inside

  -- nothing is a run yet, and at its end it is whole
  pub run-none : (xs list : List T) (first : ℕ) (entry : T) → list ≡ xs → list ≡ splice xs first first (replicate (first - first) entry)
  run-none xs list first entry same = same ∙ splice-none xs first entry

  pub run-whole : (xs list : List T) (first at end : ℕ) (entry : T) → at ≡ end → list ≡ splice xs first at (replicate (at - first) entry)
      → list ≡ splice xs first end (replicate (end - first) entry)
  run-whole xs list first at end entry same is = is ∙ ap (λ n. splice xs first n (replicate (n - first) entry)) same

  pub run-set : (xs list : List T) (first at : ℕ) (entry : T) → first ≤ at → at < length xs → list ≡ splice xs first at (replicate (at - first) entry)
      → set list at entry ≡ splice xs first (at + 1) (replicate (at + 1 - first) entry)
  run-set xs list first at entry order inside is =
      let long : length list ≡ length xs = length-run xs list first at entry order (omega arith) is in
      set_is_splice list at entry (omega arith) ∙ ap (λ l. splice l at (at + 1) (entry ∷ [])) is ∙ run-more xs first at 1 entry order (omega arith)

  pub run-leaf : (xs list leaf : List T) (first at k : ℕ) (entry : T) → first ≤ at → at + LEAF_ENTRIES ≤ length xs → list ≡ splice xs first at (replicate (at - first) entry)
      → LEAF_ENTRIES * k ≡ at → leaf ≡ replicate LEAF_ENTRIES entry
      → splice list (LEAF_ENTRIES * k) (LEAF_ENTRIES * k + LEAF_ENTRIES) leaf ≡ splice xs first (at + LEAF_ENTRIES) (replicate (at + LEAF_ENTRIES - first) entry)
  run-leaf xs list leaf first at k entry order inside is place equal =
      ap (λ n. splice list n (n + LEAF_ENTRIES) leaf) place
      ∙ ap (λ l. splice list at (at + LEAF_ENTRIES) l) equal
      ∙ ap (λ l. splice l at (at + LEAF_ENTRIES) (replicate LEAF_ENTRIES entry)) is
      ∙ run-more xs first at LEAF_ENTRIES entry order inside

  -- one item more of a list, behind others
  pub taken-more : (before xs old new : List T) (at : ℕ) (x copy : T) → at < length xs → x ≡ get_or xs at x → copy ≡ x
      → old ≡ before ++ take at xs → new ≡ old ++ copy ∷ [] → new ≡ before ++ take (at + 1) xs
  taken-more before xs old new at x copy inside read same so_far pushed =
      pushed ∙ ap₂ (λ front y. front ++ y ∷ []) so_far (same ∙ read)
      ∙ append_assoc before (take at xs) (get_or xs at x ∷ [])
      ∙ ap (λ rest. before ++ rest) (sym (take_more xs at x inside))

  -- equal entries behind equal entries
  pub equal-more : (list leaf made : List T) (n : ℕ) (entry : T) → list ≡ replicate (length list) entry → leaf ≡ replicate n entry → made ≡ list ++ leaf
      → (made ≡ replicate (length made) entry) × (length made ≡ length list + n)
  equal-more list leaf made n entry equal more is =
      let both : made ≡ replicate (length list + n) entry = is ∙ ap (λ xs. xs ++ leaf) equal ∙ ap (λ ys. replicate (length list) entry ++ ys) more ∙ replicate-append-replicate (length list) n entry in
      let long : length made ≡ length list + n = ap length both ∙ length-replicate (length list + n) entry in
      (both ∙ ap (λ k. replicate k entry) (sym long), long)

-- the entry at place i, and its leaf
module _ {T : Type 0} (count : ℕ) (leaves : List (List T)) (i : ℕ) (cut : IsCut count leaves) (inside : i < length (joined leaves)) where
  at_place : LEAF_ENTRIES * (i / LEAF_ENTRIES) + i % LEAF_ENTRIES ≡ i
  at_place = omega arith

  short : i % LEAF_ENTRIES < LEAF_ENTRIES
  short = omega arith

  in_leaves : LEAF_ENTRIES * (i / LEAF_ENTRIES) + i % LEAF_ENTRIES < count
  in_leaves = omega (arith, length-joined count leaves cut)

  pub leaf_there : i / LEAF_ENTRIES < length leaves
  leaf_there = leaf_below count leaves (i / LEAF_ENTRIES) (i % LEAF_ENTRIES) cut in_leaves

  module _ (leaf : List T) (read : leaf ≡ get_or leaves (i / LEAF_ENTRIES) leaf) where
    is_leaf : leaf ≡ get_or leaves (i / LEAF_ENTRIES) []
    is_leaf = get_or_read leaves (i / LEAF_ENTRIES) leaf leaf_there read []

    pub entry_there : i % LEAF_ENTRIES < length leaf
    entry_there = subst (λ l. i % LEAF_ENTRIES < length l) (sym is_leaf) (within_leaf count leaves (i / LEAF_ENTRIES) (i % LEAF_ENTRIES) cut in_leaves short)

    pub entry_read : (entry : T) → entry ≡ get_or leaf (i % LEAF_ENTRIES) entry → entry ≡ get_or (joined leaves) i entry
    entry_read entry of_leaf =
        of_leaf ∙ ap (λ l. get_or l (i % LEAF_ENTRIES) entry) is_leaf
        ∙ sym (get_or-joined count leaves (i / LEAF_ENTRIES) (i % LEAF_ENTRIES) entry cut in_leaves short)
        ∙ ap (λ n. get_or (joined leaves) n entry) at_place

    pub entry_written : (entry : T) → joined (set leaves (i / LEAF_ENTRIES) (set leaf (i % LEAF_ENTRIES) entry)) ≡ set (joined leaves) i entry
    entry_written entry =
        ap (λ l. joined (set leaves (i / LEAF_ENTRIES) (set l (i % LEAF_ENTRIES) entry))) is_leaf
        ∙ set-joined count leaves (i / LEAF_ENTRIES) (i % LEAF_ENTRIES) entry cut in_leaves short
        ∙ ap (λ n. set (joined leaves) n entry) at_place

    pub IsCut-written : (entry : T) → IsCut count (set leaves (i / LEAF_ENTRIES) (set leaf (i % LEAF_ENTRIES) entry))
    IsCut-written entry =
        IsCut-set count leaves (i / LEAF_ENTRIES) (set leaf (i % LEAF_ENTRIES) entry) cut (length-set leaf (i % LEAF_ENTRIES) entry ∙ ap length is_leaf)

    -- the leaf as it was
    pub leaf_kept : set leaves (i / LEAF_ENTRIES) leaf ≡ leaves
    leaf_kept = ap (λ l. set leaves (i / LEAF_ENTRIES) l) read ∙ set-get_or leaves (i / LEAF_ENTRIES) leaf
