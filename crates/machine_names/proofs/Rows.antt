-- Names by a row of forks, of which those before the last are the name's, and by the last.
use Rattle.std.proofs.Common.{◌≡◌, ◌⊎◌, inl, inr, ℕ, ◌+◌, ◌-◌, ◌<◌, ◌≤◌, true, false, [], ◌∷◌, ◌++◌, length, take, get_or, get_or-take, length-append, length-take-le, take-take}
use Rattle.std.proofs.Common.{Some, None, refl, sym, ap, ap₂, ◌∙◌, arith}
use Rattle.std.proofs.Math.Seq.{get_or-append_seam}
use Rattle.std.specs.List.{flat_map}
use Rattle.std.proofs.lemmas.Grind.{flat_map-append}
use Rattle.std.proofs.lemmas.List.{append-nil, get_or_append_left, take-append-le, take_all, take_more}
use Rattle.std.specs.Ordering.{is_ne, ordering_then}
use Rattle.forest_tree.specs.Tree.{Branch, Path, beyond}
use Rattle.machine_names.specs.Forks.{BeginsWith, IsNamed, named, row_to}
use Rattle.machine_names.specs.Name.{branch_text, next_of}
use Rattle.machine_names.specs.NameOrder.{back_cmp, branch_cmp}
use Rattle.machine_names.proofs.Names.{cmp-last, next-none, next-not, next-some}

none-or-some : (n : ℕ) → (n ≡ 0) ⊎ (0 < n)
none-or-some n = grind arith

module _ (forks : Path) (count : ℕ) (last : Branch) (fits : count - 1 ≤ length forks) where
  before-long : length (take (count - 1) forks) ≡ count - 1
  before-long = length-take-le (count - 1) forks fits

  row-long : length (row_to count last forks) ≡ count - 1 + 1
  row-long = omega (arith, length-append (take (count - 1) forks) (last ∷ []), before-long)

  pub row-fits : count ≤ length (row_to count last forks)
  row-fits = omega (arith, row-long)

  pub named-long : length (named count last forks) ≡ count
  named-long = length-take-le count (row_to count last forks) row-fits

  -- the first forks of the name are those of the row, up to the last
  pub row-front : (k : ℕ) → k ≤ count - 1 → take k (row_to count last forks) ≡ take k forks
  row-front k inside = take-append-le k (take (count - 1) forks) (last ∷ []) (omega (arith, before-long)) ∙ take-take k (count - 1) forks inside

  pub row-above : (k : ℕ) (x : Branch) → k < count - 1 → get_or forks k x ≡ get_or (row_to count last forks) k x
  row-above k x inside =
      sym (get_or_append_left (take (count - 1) forks) (last ∷ []) x k (omega (arith, before-long)) ∙ get_or-take (count - 1) forks k x inside)

  pub row-last : last ≡ get_or (row_to count last forks) (count - 1) last
  row-last =
      sym
      (ap (λ n. get_or (row_to count last forks) n last) (sym before-long) ∙ get_or-append_seam (take (count - 1) forks) last [] last)

  pub named-is : 0 < count → named count last forks ≡ take (count - 1) forks ++ last ∷ []
  named-is some = take_all count (row_to count last forks) (omega (arith, row-long))

  -- another row that begins with the name names the same with the same last fork
  pub named-again : (path row : Path) → named count last forks ≡ path → BeginsWith path row → named count last row ≡ path
  named-again path row is begins =
      let long : length path ≡ count = sym (ap length is) ∙ named-long in
      let front : take (count - 1) row ≡ take (count - 1) forks =
      sym (take-take (count - 1) (length path) row (omega (arith, long))) ∙ ap (take (count - 1)) (begins.same ∙ sym is)
      ∙ take-take (count - 1) count (row_to count last forks) (omega arith) ∙ row-front (count - 1) (omega arith) in
      ap (λ xs. take count (xs ++ last ∷ [])) front ∙ is

-- a row that has the last fork too
pub named-whole : (forks : Path) (count : ℕ) (last : Branch) → IsNamed count last forks → named count last forks ≡ take count forks
named-whole forks count last n = by (none-or-some count)
  where
    by : (count ≡ 0) ⊎ (0 < count) → named count last forks ≡ take count forks
    by (inl none) = ap (λ m. take m (row_to count last forks)) none ∙ sym (ap (λ m. take m forks) none)
    by (inr some) =
        let whole : count - 1 + 1 ≡ count = omega arith in
        let row : row_to count last forks ≡ take count forks =
        ap (λ e. take (count - 1) forks ++ e ∷ []) (n.is_last some) ∙ sym (take_more forks (count - 1) last (omega (arith, n.within))) ∙ ap (λ m. take m forks) whole in
        ap (take count) row ∙ take-take count count forks (omega arith)

-- a row that begins with a name, by which its children are named
pub child-named : (path row : Path) (depth : ℕ) (last : Branch) → length path ≡ depth → BeginsWith path row → named (depth + 1) last row ≡ path ++ last ∷ []
child-named path row depth last long begins =
    let less : depth + 1 - 1 ≡ length path = omega (arith, long) in
    ap (λ n. take (depth + 1) (take n row ++ last ∷ [])) less ∙ ap (λ xs. take (depth + 1) (xs ++ last ∷ [])) begins.same
    ∙ take_all (depth + 1) (path ++ last ∷ []) (omega (arith, length-append path (last ∷ []), long))

-- the parent's name, which the same row has, and the last fork behind it
pub popped : (forks : Path) (count : ℕ) (last before : Branch) → count - 1 ≤ length forks → 0 < count → IsNamed (count - 1) before forks
    → named count last forks ≡ named (count - 1) before forks ++ last ∷ []
popped forks count last before fits some n =
    named-is forks count last fits some ∙ ap (λ xs. xs ++ last ∷ []) (sym (named-whole forks (count - 1) before n))

-- a name without forks, and one whose row has the last fork too, or for which one is made that has
pub begins-none : (forks path : Path) → path ≡ [] → BeginsWith path forks
begins-none forks path none = record { within = omega (arith, ap length none); same = ap (λ p. take (length p) forks) none ∙ sym none }

pub begins-whole : (forks path : Path) (count : ℕ) (last : Branch) → named count last forks ≡ path → IsNamed count last forks → BeginsWith path forks
begins-whole forks path count last is n =
    let same : take count forks ≡ path = sym (named-whole forks count last n) ∙ is in
    let long : length path ≡ count = sym (ap length same) ∙ length-take-le count forks n.within in
    record { within = omega (arith, long, n.within); same = ap (λ m. take m forks) long ∙ same }

pub begins-made : (forks path made : Path) (count : ℕ) (last : Branch) → count - 1 ≤ length forks → named count last forks ≡ path → 0 < count
    → made ≡ take (count - 1) forks ++ last ∷ [] → BeginsWith path made
begins-made forks path made count last fits is some made-is =
    let same : made ≡ path = made-is ∙ sym (named-is forks count last fits some) ∙ is in
    record { within = omega (arith, ap length same); same = ap (take (length path)) same ∙ take_all (length path) path (omega arith) }

-- how the first forks of a row compare with a name, by the last of them and then by those before it
pub begin-last : (forks above path : Path) (count : ℕ) (x last : Branch) → count - 1 ≤ length above → named count last above ≡ path → 0 < count
    → length path ≤ length forks → x ≡ get_or forks (count - 1) x
    → back_cmp (take (length path) forks) path ≡ ordering_then (branch_cmp x last) (back_cmp (take (count - 1) forks) (take (count - 1) above))
begin-last forks above path count x last fits is some within x-is =
    let long : length path ≡ count = sym (ap length is) ∙ named-long above count last fits in
    let inside : count ≤ length forks = omega (arith, long, within) in
    ap (λ n. back_cmp (take n forks) path) long
    ∙ cmp-last forks (take count forks) count inside refl (row_to count last above) path count (row-fits above count last fits) is x last
    (length-take-le count forks inside ∙ sym long) some x-is (λ _. row-last above count last fits)
    ∙ ap (λ xs. ordering_then (branch_cmp x last) (back_cmp (take (count - 1) forks) xs)) (row-front above count last fits (count - 1) (omega arith))

-- how two names compare that have as many forks
pub deep-last : (ours theirs left right : Path) (count other : ℕ) (x y : Branch) → count - 1 ≤ length ours → other - 1 ≤ length theirs
    → named count x ours ≡ left → named other y theirs ≡ right → length left ≡ length right → 0 < count
    → back_cmp left right ≡ ordering_then (branch_cmp x y) (back_cmp (take (count - 1) ours) (take (count - 1) theirs))
deep-last ours theirs left right count other x y fits others is is-right as_long some =
    let same : count ≡ other = sym (named-long ours count x fits) ∙ ap length is ∙ as_long ∙ sym (ap length is-right) ∙ named-long theirs other y others in
    cmp-last (row_to count x ours) left count (row-fits ours count x fits) is (row_to other y theirs) right other (row-fits theirs other y others) is-right x y
    as_long some (row-last ours count x fits) (λ _. row-last theirs other y others)
    ∙ ap₂ (λ xs ys. ordering_then (branch_cmp x y) (back_cmp xs ys)) (row-front ours count x fits (count - 1) (omega arith))
    (row-front theirs other y others (count - 1) (omega (arith, same)))

-- whether a name goes on from another, and by which fork
module _ (above other path way : Path) (count back : ℕ) (last end : Branch) (fits : count - 1 ≤ length above) (fits-way : back - 1 ≤ length other)
    (is : named count last above ≡ path) (is-way : named back end other ≡ way) where
  long : length way ≡ back
  long = sym (ap length is-way) ∙ named-long other back end fits-way

  front : back < count → back_cmp (take back (row_to count last above)) (take back (row_to back end other)) ≡ back_cmp (take (length way) above) way
  front longer =
      ap₂ back_cmp (row-front above count last fits back (omega (arith, longer))) is-way ∙ ap (λ n. back_cmp (take n above) way) (sym long)

  pub beyond-none : count ≤ back → None ≡ next_of (beyond way path)
  beyond-none short = next-none (row_to count last above) path count (row-fits above count last fits) is (row_to back end other) way back
      (row-fits other back end fits-way) is-way short

  pub beyond-not : back < count → is_ne (back_cmp (take (length way) above) way) ≡ true → None ≡ next_of (beyond way path)
  beyond-not longer apart = next-not (row_to count last above) path count (row-fits above count last fits) is (row_to back end other) way back
      (row-fits other back end fits-way) is-way longer (ap is_ne (front longer) ∙ apart)

  goes-on : back < count → is_ne (back_cmp (take (length way) above) way) ≡ false → (x : Branch) → x ≡ get_or (row_to count last above) back x
      → Some x ≡ next_of (beyond way path)
  goes-on longer same x x-is = next-some (row_to count last above) path count (row-fits above count last fits) is (row_to back end other) way back
      (row-fits other back end fits-way) is-way longer (ap is_ne (front longer) ∙ same) x x-is

  -- by its last fork
  pub beyond-last : back < count → is_ne (back_cmp (take (length way) above) way) ≡ false → count - 1 ≡ back → Some last ≡ next_of (beyond way path)
  beyond-last longer same next =
      goes-on longer same last (row-last above count last fits ∙ ap (λ n. get_or (row_to count last above) n last) next)

  -- by one before it
  pub beyond-some : back < count → is_ne (back_cmp (take (length way) above) way) ≡ false → back < count - 1 → (x : Branch) → x ≡ get_or above back x
      → Some x ≡ next_of (beyond way path)
  beyond-some longer same inside x x-is = goes-on longer same x (x-is ∙ row-above above count last fits back x inside)

-- the forks of a name in text
pub none-named : (forks path : Path) (count : ℕ) (last : Branch) → named count last forks ≡ path → count ≡ 0 → path ≡ []
none-named forks path count last is none = sym is ∙ ap (λ n. take n (row_to count last forks)) none

pub text-parts : (forks path : Path) (count : ℕ) (last : Branch) → count - 1 ≤ length forks → named count last forks ≡ path → 0 < count
    → flat_map branch_text (take (count - 1) forks) ++ branch_text last ≡ flat_map branch_text path
text-parts forks path count last fits is some =
    ap (λ text. flat_map branch_text (take (count - 1) forks) ++ text) (sym (append-nil (branch_text last)))
    ∙ sym (flat_map-append branch_text (take (count - 1) forks) (last ∷ []))
    ∙ ap (flat_map branch_text) (sym (named-is forks count last fits some) ∙ is)
