-- Each step on the words keeps the rule, and tells what it says.
use Rattle.std.proofs.Common.{◌≡◌, ◌≢◌, ◌⊎◌, ℕ, zero, suc, ◌+◌, ◌-◌, ◌/◌, ◌%◌, ◌<◌, ◌≤◌, List, [], ◌∷◌, ◌++◌, length, get_or, set, replicate}
use Rattle.std.proofs.Common.{cond, eqb, refl, sym, ap, ◌∙◌, subst, ⊎_elim, arith}
use Rattle.std.specs.Prelude.{bit_or, slice_index}
use Rattle.std.specs.Int.{bit_at}
use Rattle.std.specs.List.{All, sum_by}
use mathlib.Core.Option.{some, some-ne-none, some-injective}
use mathlib.Core.Option.{none}
use lib.ListN.{get_elem?}
use Rattle.std.proofs.lemmas.List.{length-set, length-replicate, set-get_or}
use Rattle.std.proofs.lemmas.List.Sums.{sum_by_push}
use Rattle.std.proofs.lemmas.List.Elements.{All-nil, All-append, All-push, All-weaker}
use Rattle.std.proofs.lemmas.Nat.Bits.{bit_at-lt}
use Rattle.atomic_table.specs.Table.{State, Me, Act, keeps, step, stepped, carried_after, Valid, Allows, Splits, opening, Final, Seen}
use Rattle.atomic_table.specs.Table.{Joins as Absorbs}
use Rattle.atomic_table.proofs.Lists.{set_here, set_else, set_again}
use Rattle.page_claims.specs.declared.view.View.{View}
use Rattle.page_claims.specs.Bits.{bit_of, mask_of, times, IsOnce}
use Rattle.page_claims.specs.Rule.{parts_of, firsts_of, idle, newcomer, parent, child, united, spent, Fits, IsKept}
use Rattle.page_claims.specs.Steps.{first_view, repeat_view, Found, Finds, looked}
use Rattle.page_claims.specs.Calls.{Closes}
use Rattle.page_claims.proofs.Views.{there, sum_set, le_sum, alone, each_set, each_push}
use Rattle.page_claims.proofs.Bits.{bit_tells, same_bit, with_bit, bit_set, bit_stays, one_more, none_more, bit_of-zeros, times-push, times-append, holds_of}

-- a sum after one pass has changed, where what it counts has changed by as much
same_sum : (new old was is count counted : ℕ) → new + was ≡ old + is → old ≡ count → is + count ≡ was + counted → new ≡ counted
same_sum new old was is count counted moved before even = omega arith

even : (was is count counted more : ℕ) → is ≡ was + more → counted ≡ count + more → is + count ≡ was + counted
even was is count counted more e f = omega arith

le_one : (t n : ℕ) → t ≤ n → n < 2 → t ≤ 1
le_one t n le lt = omega arith

-- what a pass has claimed stays claimed
fits_with : (words : List ℕ) (b : ℕ) (v : View) → b / 64 < length words → Fits words v → Fits (with_bit words b) v
fits_with words b v h f = record {
  repeated = All-weaker (λ x. bit_of words x ≡ 1) (λ x. bit_of (with_bit words b) x ≡ 1) (λ x e. bit_stays words b x h e) v.repeats f.repeated;
  bare = f.bare;
}

module _ {S : Type 0} (count : ℕ) where
  abbrev Rule : State S View → Type 0
  Rule = IsKept count

  -- what a pass claimed first is set, once
  once : (s : State S View) (h : Rule s) (id : ℕ) (v : View) → get_elem? s.views id ≡ some v → IsOnce v.firsts
  once s h id v at = record { each = λ b. le_one _ _ (subst (λ n. times b v.firsts ≤ n) (h.bits b) (le_sum (firsts_of b) s.views id v at)) (bit_at-lt (slice_index s.words (b / 64)) (b % 64)) }

  -- where a pass has all parts, the bits set are its firsts
  all_its : (s : State S View) (h : Rule s) (id : ℕ) (v : View) → get_elem? s.views id ≡ some v → v.parts ≡ 65536 → (b : ℕ) → times b v.firsts ≡ bit_of s.words b
  all_its s h id v at whole b =
      sym (alone (firsts_of b) parts_of s.views id v at (h.whole ∙ sym whole) (λ j u e bare. ap (times b) ((h.fits j u e).bare bare).0)) ∙ h.bits b

  -- what a pass has claimed is set
  claimed_is_set : (s : State S View) (h : Rule s) (id : ℕ) (v : View) → get_elem? s.views id ≡ some v → (b : ℕ) → 0 < times b v.firsts + times b v.repeats → bit_of s.words b ≡ 1
  claimed_is_set s h id v at b some_of = ⊎_elim
      (λ (clear : bit_of s.words b ≡ 0).
      let few : times b v.firsts ≤ bit_of s.words b = subst (λ n. times b v.firsts ≤ n) (h.bits b) (le_sum (firsts_of b) s.views id v at) in
      holds_of (λ x. bit_of s.words x ≡ 1) b v.repeats (h.fits id v at).repeated (rest _ _ _ some_of few clear))
      (λ (set : bit_of s.words b ≡ 1). set)
      (bit_tells (slice_index s.words (b / 64)) (b % 64))
    where
      rest : (f r n : ℕ) → 0 < f + r → f ≤ n → n ≡ 0 → 0 < r
      rest f r n some_of le clear = omega arith

  -- a bit is set by a pass, whose firsts grow as the bits do
  sets : (s : State S View) (h : Rule s) (id : ℕ) (v w : View) (c : List (ℕ × S)) (b : ℕ) → get_elem? s.views id ≡ some v → b / 64 < count → w.parts ≡ v.parts
      → Fits (with_bit s.words b) w → ((x : ℕ) → times x w.firsts + bit_of s.words x ≡ times x v.firsts + bit_of (with_bit s.words b) x)
      → Rule (stepped s (b / 64) (bit_or (slice_index s.words (b / 64)) (mask_of b)) id c w keeps)
  sets s h id v w c b at inside same fit grows =
      let within : b / 64 < length s.words = subst (λ n. b / 64 < n) (sym h.length_is) inside in record {
        length_is = length-set s.words (b / 64) (bit_or (slice_index s.words (b / 64)) (mask_of b)) ∙ h.length_is;
        bits = λ x. same_sum _ _ _ _ _ _ (sum_set (firsts_of x) s.views id v w at) (h.bits x) (grows x);
        whole = same_sum _ _ _ _ _ _ (sum_set parts_of s.views id v w at) h.whole (ap (λ n. n + 65536) same);
        fits = each_set (Fits (with_bit s.words b)) s.views id w fit (λ j u other e. fits_with s.words b u within (h.fits j u e));
      }

  -- what is told of a claim
  tells : (s : State S View) (h : Rule s) (id : ℕ) (v w : View) (c : List (ℕ × S)) (slots b : ℕ) → get_elem? s.views id ≡ some v → IsOnce w.firsts
      → (bit_of s.words b ≡ 0 → w ≡ first_view v b) → (bit_of s.words b ≡ 1 → w ≡ repeat_view v b)
      → Finds (step slots (b / 64) (mask_of b) 0 none) (v, c) (slice_index s.words (b / 64)) (w, c)
  tells s h id v w c slots b at single first repeated = record {
    once = single;
    found = λ x word mask. subst (λ y. Found (v, c) (slice_index s.words (b / 64)) y (w, c)) (sym (same_bit x b word mask)) (record {
      first = λ e. ap (λ (u : View). (u, c)) (first e);
      repeated = λ e. ap (λ (u : View). (u, c)) (repeated e);
      again = claimed_is_set s h id v at b;
      grown = λ whole. sym (all_its s h id v at whole b);
    });
  }

  -- a pass claims
  pub claims : (slots id : ℕ) (v : View) (c : List (ℕ × S)) (b : ℕ) → 0 < v.parts → b / 64 < count
      → Allows Rule slots id (v, c) (b / 64) (λ n. bit_or n (mask_of b)) (Finds (step slots (b / 64) (mask_of b) 0 none) (v, c))
  claims slots id v c b has inside s h slots_are at fit = ⊎_elim
      (λ (clear : bit_of s.words b ≡ 0).
      let w = first_view v b in
      let kept = sets s h id v w c b at inside refl
      (record { repeated = (fits_with s.words b v within (h.fits id v at)).repeated; bare = λ e. absurd (differ _ has e) })
      (λ x. even _ _ _ _ _ (times-push x b v.firsts) (one_more s.words b x within clear)) in
      (w, keeps, tt, kept, tells s h id v w c slots b at (later w kept) (λ e. refl) (λ e. absurd (apart _ clear e))))
      (λ (set : bit_of s.words b ≡ 1).
      let w = repeat_view v b in
      let kept = sets s h id v w c b at inside refl
      (record {
        repeated = All-push (λ x. bit_of (with_bit s.words b) x ≡ 1) v.repeats b (fits_with s.words b v within (h.fits id v at)).repeated (bit_set s.words b within);
        bare = λ e. absurd (differ _ has e);
      })
      (λ x. ap (λ n. times x v.firsts + n) (sym (none_more s.words b x within set))) in
      (w, keeps, tt, kept, tells s h id v w c slots b at (later w kept) (λ e. absurd (apart _ e set)) (λ e. refl)))
      (bit_tells (slice_index s.words (b / 64)) (b % 64))
    where
      within : b / 64 < length s.words
      within = subst (λ n. b / 64 < n) (sym h.length_is) inside

      differ : (n : ℕ) → 0 < n → n ≡ 0 → ⊥
      differ n some_of e = omega arith

      apart : (n : ℕ) → n ≡ 0 → n ≡ 1 → ⊥
      apart n e f = omega arith

      later : (w : View) → Rule (stepped s (b / 64) (bit_or (slice_index s.words (b / 64)) (mask_of b)) id c w keeps) → IsOnce w.firsts
      later w kept = once (stepped s (b / 64) (bit_or (slice_index s.words (b / 64)) (mask_of b)) id c w keeps) kept id w (set_here s.views id w (there s.views id v v at).0)

  -- a pass looks
  pub looks : (slots id : ℕ) (v : View) (c : List (ℕ × S)) → Allows Rule slots id (v, c) 0 (λ n. n) (looked (step slots 0 0 0 none) (v, c))
  looks slots id v c s h slots_are at fit = (
    v,
    keeps,
    tt,
    subst (λ (z : List ℕ × List View). Rule record { words = z.0; homes = s.homes; views = z.1 }) (λ k. (sym (set-get_or s.words 0 0) k, sym (set_again s.views id v at) k)) h,
    (refl, once s h id v at),
  )

  -- a pass is split off
  pub splits : (id : ℕ) (v : View) → 1 < v.parts → Splits Rule id v (parent v) child
  splits id v some_of s h at =
      let w = parent v in record {
        length_is = h.length_is;
        bits = λ b. pushed _ _ _ _ _ (sum_by_push (firsts_of b) (set s.views id w) child) (sum_set (firsts_of b) s.views id v w at) (h.bits b);
        whole = handed _ _ _ v.parts (sum_by_push parts_of (set s.views id w) child) (sum_set parts_of s.views id v w at) h.whole some_of;
        fits = each_push (Fits s.words) (set s.views id w) child
            (record { repeated = All-nil (λ b. bit_of s.words b ≡ 1); bare = λ e. (refl, refl) })
            (each_set (Fits s.words) s.views id w
            (record { repeated = (h.fits id v at).repeated; bare = λ e. absurd (left v.parts some_of e) })
            (λ j u other e. h.fits j u e));
      }
    where
      pushed : (new mid old f n : ℕ) → new ≡ mid + 0 → mid + f ≡ old + f → old ≡ n → new ≡ n
      pushed new mid old f n push change before = omega arith

      handed : (new mid old p : ℕ) → new ≡ mid + 1 → mid + p ≡ old + (p - 1) → old ≡ 65536 → 1 < p → new ≡ 65536
      handed new mid old p push change before more = omega arith

      left : (p : ℕ) → 1 < p → p - 1 ≡ 0 → ⊥
      left p more e = omega arith

  -- a pass is joined to another
  pub joins : (id : ℕ) (v : View) (other : ℕ) (w : View) → 0 < v.parts → Absorbs Rule id v other w (united v w) spent
  joins id v other w some_of s h at apart there_is =
      let u = united v w in
      let before : get_elem? s.views other ≡ some w = sym (set_else s.views id other u apart) ∙ there_is in
      let f = h.fits id v at in
      let g = h.fits other w before in record {
        length_is = h.length_is;
        bits = λ b. moved _ _ _ _ _ _ _ (sum_set (firsts_of b) s.views id v u at) (sum_set (firsts_of b) (set s.views id u) other w spent there_is) (times-append b v.firsts w.firsts) (h.bits b);
        whole = moved _ _ _ _ _ _ _ (sum_set parts_of s.views id v u at) (sum_set parts_of (set s.views id u) other w spent there_is) refl h.whole;
        fits = each_set (Fits s.words) (set s.views id u) other spent
            (record { repeated = All-nil (λ b. bit_of s.words b ≡ 1); bare = λ e. (refl, refl) })
            (λ j x ne e. each_set (Fits s.words) s.views id u
            (record { repeated = All-append (λ b. bit_of s.words b ≡ 1) v.repeats w.repeats f.repeated g.repeated; bare = λ e. absurd (left v.parts w.parts some_of e) })
            (λ k y not_it t. h.fits k y t) j x e);
      }
    where
      moved : (new mid old f g both n : ℕ) → mid + f ≡ old + both → new + g ≡ mid + 0 → both ≡ f + g → old ≡ n → new ≡ n
      moved new mid old f g both n first second sum before = omega arith

      left : (p q : ℕ) → 0 < p → p + q ≡ 0 → ⊥
      left p q more e = omega arith

  -- no bit is set at the start
  pub begins : Rule (opening (replicate count 0) [] newcomer)
  begins = record {
    length_is = length-replicate count 0;
    bits = λ b. sym (bit_of-zeros count b);
    whole = refl;
    fits = λ id v e. only id v e;
  }
    where
      only : (id : ℕ) (v : View) → get_elem? (newcomer ∷ []) id ≡ some v → Fits (replicate count 0) v
      only zero v e = subst (Fits (replicate count 0)) (some-injective newcomer v e) (record { repeated = All-nil (λ b. bit_of (replicate count 0) b ≡ 1); bare = λ p. (refl, refl) })
      only (suc id) v e = absurd (some-ne-none v (sym e))

  -- the words at the end, where a pass has all parts
  pub closes : (id : ℕ) (v : View) (words : List ℕ) (slots : List S) → v.parts ≡ 65536 → Final (Seen Rule id v) words slots → Closes v.firsts v.repeats words
  closes id v words slots whole last =
      let s = last.0 in
      let h = last.1.0 in
      let at = last.1.1 in
      let exact : (b : ℕ) → times b v.firsts ≡ bit_of words b = λ b. all_its s h id v at whole b ∙ ap (λ ws. bit_of ws b) last.2 in record {
        exact = exact;
        among = All-weaker (λ b. bit_of s.words b ≡ 1) (λ b. times b v.firsts ≡ 1) (λ b e. all_its s h id v at whole b ∙ e) v.repeats (h.fits id v at).repeated;
      }
