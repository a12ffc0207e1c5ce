-- Tables that lie one over the other, and the pages and words of the contents that they keep.
use Rattle.std.proofs.Common.{◌≡◌, ℕ, ◌+◌, ◌*◌, ◌/◌, ◌%◌, ◌<◌, ◌≤◌, true, false, inl, inr, List, [], ◌∷◌, length, take, drop, get_or, refl, ap, sym, ◌∙◌, subst, arith}
use Rattle.std.proofs.lemmas.Bool.{both_ways, cases_lt}
use Rattle.std.proofs.lemmas.List.{ext_get_or, get_or-take, get_or-drop, length-drop, length-take-le, drop_more, get_or_read}
use Rattle.std.proofs.lemmas.List.Elements.{All-from_get_or}
use Rattle.flat_memory.specs.Flat.{word_at}
use Rattle.page_frames.specs.declared.page.TheConstants.{PAGE_SIZE}
use Rattle.page_frames.specs.declared.entry.Entry.{Entry}
use Rattle.page_frames.specs.declared.entry.Entry.TheVariants.{Absent}
use Rattle.page_frames.specs.Tables.{is_own, entry_at, entry_bytes, laid_over, stacked}
use Rattle.page_frames.proofs.Memory.{length-laid_over, byte_of_own, byte_of_other, little_from_same}
use Rattle.image_depot.specs.Image.{own_table, IsLaid, IsStack, IsWhole}

pub length-stacked : (tables : List (List Entry)) → length (stacked tables) ≡ PAGE_SIZE * length (own_table tables)
length-stacked [] = omega arith
length-stacked (table ∷ tables) = length-laid_over table (stacked tables)

pub page_count-stacked : (tables : List (List Entry)) → length (stacked tables) / PAGE_SIZE ≡ length (own_table tables)
page_count-stacked tables = omega (arith, length-stacked tables)

pub stack_there : (tables : List (List Entry)) → IsStack tables → 0 < length tables
stack_there [] stack = absurd stack
stack_there (table ∷ tables) stack = omega arith

-- a table on a stack of its length
pub IsStack-more : (table : List Entry) (tables : List (List Entry)) → IsStack tables → length table ≡ length (own_table tables) → IsStack (table ∷ tables)
IsStack-more table [] stack size = absurd stack
IsStack-more table (next ∷ tables) stack size = (sym size, stack)

-- a whole table has all of its memory, whatever is below it
pub whole_alone : (table : List Entry) (below : List ℕ) → IsWhole table → stacked (table ∷ []) ≡ laid_over table below
whole_alone table below whole =
    ext_get_or 0 (laid_over table []) (laid_over table below) (length-laid_over table [] ∙ sym (length-laid_over table below))
    (λ at inside.
    let within : at < PAGE_SIZE * length table = subst (λ n. at < n) (length-laid_over table []) inside in
    let page = at / PAGE_SIZE in
    let place = at % PAGE_SIZE in
    let is_place : PAGE_SIZE * page + place ≡ at = omega arith in
    let there : page < length table = omega (arith, within) in
    let own : is_own (entry_at table page) ≡ true = whole page Absent there in
    ap (λ i. get_or (laid_over table []) i 0) (sym is_place)
    ∙ byte_of_own table [] page place there (omega arith) own
    ∙ sym (byte_of_own table below page place there (omega arith) own)
    ∙ ap (λ i. get_or (laid_over table below) i 0) is_place)

-- below a table that has no entry of its own for a page there is a stack of its length
below_stack : (table : List Entry) (tables : List (List Entry)) (page : ℕ) → IsStack (table ∷ tables) → page < length table → is_own (entry_at table page) ≡ false
    → IsStack tables × (length (own_table tables) ≡ length table)
below_stack table [] page stack there other = absurd (both_ways _ other (stack page Absent there))
below_stack table (next ∷ tables) page stack there other = (stack.1, stack.0)

-- what is known of a page in what is left of tables: it is as in all of them
pub record IsLeft (page : ℕ) (tables left : List (List Entry)) : Type 0 where
  pub stack : IsStack left
  pub there : page < length (own_table left)
  pub bytes : (at : ℕ) → at < PAGE_SIZE → get_or (stacked tables) (PAGE_SIZE * page + at) 0 ≡ get_or (stacked left) (PAGE_SIZE * page + at) 0

module _ (page : ℕ) (tables left : List (List Entry)) (table : List Entry) (behind : List (List Entry)) (is_next : left ≡ table ∷ behind) (known : IsLeft page tables left) where
  pub page_in_next : page < length table
  page_in_next = subst (λ ts. page < length (own_table ts)) is_next known.there

  -- it is not one of its own
  pub IsLeft-more : is_own (entry_at table page) ≡ false → IsLeft page tables behind
  IsLeft-more other =
      let stack : IsStack (table ∷ behind) = subst IsStack is_next known.stack in
      let below = below_stack table behind page stack page_in_next other in
      record {
        stack = below.0;
        there = subst (λ n. page < n) (sym below.1) page_in_next;
        bytes = λ at inside.
            known.bytes at inside
            ∙ ap (λ ts. get_or (stacked ts) (PAGE_SIZE * page + at) 0) is_next
            ∙ byte_of_other table (stacked behind) page at page_in_next inside other;
      }

  -- it is one of its own
  pub bytes_of_next : is_own (entry_at table page) ≡ true
      → (at : ℕ) → at < PAGE_SIZE → get_or (stacked tables) (PAGE_SIZE * page + at) 0 ≡ get_or (entry_bytes (entry_at table page)) at 0
  bytes_of_next own at inside =
      known.bytes at inside
      ∙ ap (λ ts. get_or (stacked ts) (PAGE_SIZE * page + at) 0) is_next
      ∙ byte_of_own table (stacked behind) page at page_in_next inside own

-- all tables are left at first
pub IsLeft-all : (page : ℕ) (tables : List (List Entry)) → IsStack tables → page < length (own_table tables) → IsLeft page tables tables
IsLeft-all page tables stack there = record { stack = stack; there = there; bytes = λ at inside. refl }

-- none is left at the end, so the end is never met
pub none_left : (page : ℕ) (tables left : List (List Entry)) → left ≡ [] → IsLeft page tables left → ⊥
none_left page tables left none known = subst IsStack none known.stack

-- the layer at a place, and those behind it
pub left_next : {Layer : Type 0} (layers : List Layer) (i : ℕ) (layer : Layer) → i < length layers → layer ≡ get_or layers i layer → drop i layers ≡ layer ∷ drop (i + 1) layers
left_next layers i layer there read = drop_more layers i layer there ∙ ap (λ l. l ∷ drop (i + 1) layers) (sym read)

-- ---- a page of contents that has these bytes

module _ (contents bytes : List ℕ) (page : ℕ) (same : (at : ℕ) → at < PAGE_SIZE → get_or contents (PAGE_SIZE * page + at) 0 ≡ get_or bytes at 0) where
  pub word_of_page : (at : ℕ) → at + 4 ≤ PAGE_SIZE → word_at bytes at ≡ word_at contents (PAGE_SIZE * page + at)
  word_of_page at within =
      sym (little_from_same 4 (PAGE_SIZE * page + at) at contents bytes
      (λ k inside. ap (λ p. get_or contents p 0) (omega arith) ∙ same (at + k) (omega arith)))

  pub bytes_of_page : length bytes ≡ PAGE_SIZE → PAGE_SIZE * page + PAGE_SIZE ≤ length contents → bytes ≡ take PAGE_SIZE (drop (PAGE_SIZE * page) contents)
  bytes_of_page whole there =
      let left = drop (PAGE_SIZE * page) contents in
      let enough : PAGE_SIZE ≤ length left = omega (arith, length-drop (PAGE_SIZE * page) contents) in
      let size : length (take PAGE_SIZE left) ≡ PAGE_SIZE = length-take-le PAGE_SIZE left enough in
      sym (ext_get_or 0 (take PAGE_SIZE left) bytes (size ∙ sym whole)
      (λ at below. let within : at < PAGE_SIZE = subst (λ n. at < n) size below in
      get_or-take PAGE_SIZE left at 0 within ∙ get_or-drop (PAGE_SIZE * page) contents at 0 ∙ same at within))

-- ---- whether a table is whole, page by page

-- the entry of a page, as it is read
pub own_by : (table : List Entry) (page : ℕ) (entry : Entry) → page < length table → entry ≡ get_or table page entry → is_own entry ≡ is_own (entry_at table page)
own_by table page entry there read = ap is_own (get_or_read table page entry there read Absent)

pub own_more : (table : List Entry) (page : ℕ) → is_own (entry_at table page) ≡ true
    → ((i : ℕ) → i < page → is_own (entry_at table i) ≡ true) → (i : ℕ) → i < page + 1 → is_own (entry_at table i) ≡ true
own_more table page own before i inside = elim (cases_lt i page) [
  | inl below ↦ before i below
  | inr from ↦ ap (λ k. is_own (entry_at table k)) (let last : i ≡ page = omega (arith, inside, from) in last) ∙ own
]

pub whole_of : (table : List Entry) (end : ℕ) → length table ≤ end → ((i : ℕ) → i < end → is_own (entry_at table i) ≡ true) → IsWhole table
whole_of table end past each =
    All-from_get_or (λ entry. is_own entry ≡ true) table Absent (λ i there. each i (omega (arith, past, there)))

pub none_whole : (table : List Entry) (page : ℕ) → page < length table → is_own (entry_at table page) ≡ false → IsWhole table → ⊥
none_whole table page there other whole = both_ways _ other (whole page Absent there)

-- ---- a table that is laid over a stack of its length

module _ (table : List Entry) (tables layers : List (List Entry)) (stack : IsStack tables) (size : length table ≡ length (own_table tables)) (laid : IsLaid table table tables layers) where
  pub IsStack-laid : IsStack layers
  IsStack-laid = elim laid [
    | inl all ↦ subst IsStack (sym all) (IsStack-more table tables stack size)
    | inr alone ↦ subst IsStack (sym alone.0) alone.1
  ]

  pub stacked-laid : stacked layers ≡ laid_over table (stacked tables)
  stacked-laid = elim laid [ inl all ↦ ap stacked all | inr alone ↦ ap stacked alone.0 ∙ whole_alone table (stacked tables) alone.1 ]

  pub length-laid : length (own_table layers) ≡ length table
  length-laid = elim laid [ inl all ↦ ap (λ ts. length (own_table ts)) all | inr alone ↦ ap (λ ts. length (own_table ts)) alone.0 ]
