-- From what the steps tell to what the calls ensure.
use Rattle.std.proofs.Common.{◌≡◌, ◌≢◌, ℕ, ◌+◌, ◌*◌, ◌/◌, ◌%◌, ◌<◌, ◌≤◌, List, [], ◌∷◌, ◌++◌, take, refl, sym, ap, ◌∙◌, subst, arith}
use Rattle.std.specs.Prelude.{bit_and}
use Rattle.std.proofs.Math.Nat.{le-max_right}
use Rattle.std.proofs.lemmas.Nat.{row_fits}
use Rattle.std.proofs.lemmas.List.{take_more}
use mathlib.Core.Option.{none, some}
use lib.ListN.{get_elem?}
use Rattle.atomic_table.specs.Seated.{TableId}
use Rattle.atomic_table.specs.Table.{Me, step}
use Rattle.page_claims.specs.declared.view.View.{View}
use Rattle.page_claims.specs.declared.first.Claimed.{Claimed}
use Rattle.page_claims.specs.declared.first.Claimed.TheVariants.{First, Repeat}
use Rattle.page_claims.specs.Bits.{mask_of, words_for, times}
use Rattle.page_claims.specs.Values.{ClaimsValue, PassValue, PageName, IsLaid}
use Rattle.page_claims.specs.Steps.{first_view, repeat_view, Finds}
use Rattle.page_claims.specs.Calls.{HasBit, bit_number, HasClaimed, Answers, IsFirst, IsAnswered}
use Rattle.page_claims.proofs.Views.{there}
use Rattle.page_claims.proofs.Bits.{has_word, clear_from, set_from}

-- there is a word, for a split and a join to look at
pub some_word : {table : TableId} {key images places length capacity : ℕ} → IsLaid table key images places length capacity → 0 < table.words
some_word {table} {key} {images} {places} laid = subst (λ n. 0 < n) (sym laid.words) (le-max_right ((images * places + 63) / 64) 1)

-- a page of the claims has a word
pub word_of : {table : TableId} {key images places length capacity : ℕ} (image page : ℕ) → IsLaid table key images places length capacity → image < images → page < places
    → (image * places + page) / 64 < table.words
word_of {table} {key} {images} {places} image page laid inside within =
    subst (λ n. (image * places + page) / 64 < n) (sym laid.words) (has_word (images * places) (image * places + page) (below _ _ (row_fits image places images places inside (omega arith))))
  where
    below : (row rows : ℕ) → row + places ≤ rows → row + page < rows
    below row rows le = omega arith

abbrev pass_of : TableId → View → PassValue
pass_of table v = record { table = table; firsts = v.firsts; repeats = v.repeats; parts = v.parts }

-- what a claim of a page that has a bit tells, by the test of the bit in the number found
pub record Told (claims : ClaimsValue) (image page bit found : ℕ) (old new : PassValue) : Type 0 where
  pub has : HasBit claims image page
  pub first : bit_and found (mask_of bit) ≡ 0 → new ≡ record old { firsts = old.firsts ++ bit_number claims image page ∷ [] }
  pub repeated : bit_and found (mask_of bit) ≢ 0 → new ≡ record old { repeats = old.repeats ++ bit_number claims image page ∷ [] }
  pub again : HasClaimed old (bit_number claims image page) → bit_and found (mask_of bit) ≢ 0
  pub is_new : old.parts ≡ 65536 → bit_and found (mask_of bit) ≡ 0 → times (bit_number claims image page) old.firsts ≡ 0
  pub is_old : old.parts ≡ 65536 → bit_and found (mask_of bit) ≢ 0 → times (bit_number claims image page) old.firsts ≡ 1

apart : {P : Type 0} (n : ℕ) → n ≡ 0 → n ≡ 1 → P
apart n e f = absurd (omega arith)

module _ {S : Type 0} (claims : ClaimsValue) (image page : ℕ) where
  abbrev Step : ℕ → ℕ → Me S View → ℕ → Me S View → Type 0
  Step slots bit = Finds (step slots (bit / 64) (mask_of bit) 0 none)

  told_of : (slots n : ℕ) (table new_table : TableId) (v w : Me S View) (pass : PassValue) → HasBit claims image page
      → pass_of table v.0 ≡ pass → new_table ≡ table → Step slots (bit_number claims image page) v n w
      → Told claims image page (bit_number claims image page) n pass (pass_of new_table w.0)
  told_of slots n table new_table v w pass has is here finds =
      let b = bit_number claims image page in
      let f = finds.found b refl refl in
      let all = λ (whole : pass.parts ≡ 65536). ap (λ (p : PassValue). times b p.firsts) (sym is) ∙ sym (f.grown (ap (λ (p : PassValue). p.parts) is ∙ whole)) in
      let new = λ (u : Me S View) (e : w ≡ u). ap (λ (t : TableId). pass_of t w.0) here ∙ ap (λ (m : Me S View). pass_of table m.0) e in record {
        has = has;
        first = λ clear. new (first_view v.0 b, v.1) (f.first (clear_from n b clear)) ∙ ap (λ (p : PassValue). record p { firsts = p.firsts ++ b ∷ [] }) is;
        repeated = λ set. new (repeat_view v.0 b, v.1) (f.repeated (set_from n b set)) ∙ ap (λ (p : PassValue). record p { repeats = p.repeats ++ b ∷ [] }) is;
        again = λ some_of clear. apart _ (clear_from n b clear) (f.again (subst (λ (p : PassValue). HasClaimed p b) (sym is) some_of));
        is_new = λ whole clear. all whole ∙ clear_from n b clear;
        is_old = λ whole set. all whole ∙ set_from n b set;
      }

  -- the same, where the code has another term for the bit
  pub told : (bit slots n : ℕ) (table new_table : TableId) (v w : Me S View) (pass : PassValue) → bit ≡ bit_number claims image page → HasBit claims image page
      → pass_of table v.0 ≡ pass → new_table ≡ table → Step slots bit v n w → Told claims image page bit n pass (pass_of new_table w.0)
  told bit slots n table new_table v w pass same has is here finds =
      subst (λ b. Told claims image page b n pass (pass_of new_table w.0)) (sym same)
      (told_of slots n table new_table v w pass has is here (subst (λ b. Step slots b v n w) same finds))

module _ (claims : ClaimsValue) (image page bit found : ℕ) (old new : PassValue) where
  pub answered_first : (token : PageName) (claimed : Claimed) → Told claims image page bit found old new → bit_and found (mask_of bit) ≡ 0
      → token ≡ record { claims = claims; image = image; page = page } → claimed ≡ First token → IsAnswered claims image page old new claimed
  answered_first token claimed t clear named is = record {
    answers = subst (Answers claims image page old new) (sym is) (t.has, named, t.first clear);
    again = λ has some_of. absurd (t.again some_of clear);
    grown = λ whole. ((λ first. (t.has, t.is_new whole clear)), (λ both. subst IsFirst (sym is) tt));
  }

  pub answered_repeat : (claimed : Claimed) → Told claims image page bit found old new → bit_and found (mask_of bit) ≢ 0 → claimed ≡ Repeat → IsAnswered claims image page old new claimed
  answered_repeat claimed t set is = record {
    answers = subst (Answers claims image page old new) (sym is) (t.has, t.repeated set);
    again = λ has some_of. is;
    grown = λ whole. ((λ first. absurd (subst IsFirst is first)), (λ both. apart _ both.1 (t.is_old whole set)));
  }

pub take_push : (words : List ℕ) (i n : ℕ) → get_elem? words i ≡ some n → take (i + 1) words ≡ take i words ++ n ∷ []
take_push words i n e = let at = there words i n 0 e in take_more words i 0 at.0 ∙ ap (λ m. take i words ++ m ∷ []) at.1
