-- What contracts see of claims, of a pass, and of a page that was claimed first.
use Rattle.std.specs.Prelude.{◌≡◌, ℕ, ◌*◌, ◌^◌, ◌<◌, ◌≤◌, List, []}
use Rattle.atomic_table.specs.Seated.{TableId}
use Rattle.atomic_table.specs.Table.{Me}
use Rattle.page_claims.specs.declared.view.View.{View}
use Rattle.page_claims.specs.Bits.{words_for, IsOnce}

-- which claims they are, how many images they have, and how many places for pages each image has
pub record ClaimsValue : Type 0 where
  pub table : TableId
  pub images : ℕ
  pub places : ℕ

-- of which claims a pass is, the bits that it claimed first, those that it found claimed, and how many parts it has
pub record PassValue : Type 0 where
  pub table : TableId
  pub firsts : List ℕ
  pub repeats : List ℕ
  pub parts : ℕ

-- the page in this place of this image
pub record PageName : Type 0 where
  pub claims : ClaimsValue
  pub image : ℕ
  pub page : ℕ

-- the table has just the words for the bits, no slot, and a rule that knows how many words there are; the room is empty and has a place for each word
pub record IsLaid (table : TableId) (key images places length capacity : ℕ) : Type 0 where
  pub few : images * places < 2 ^ 32
  pub words : table.words ≡ words_for (images * places)
  pub plain : table.slots ≡ 0
  pub counted : key ≡ table.words
  pub empty : length ≡ 0
  pub room : table.words ≤ capacity

-- a pass outside a call: it has a part, and no slot, and claimed nothing twice
pub record IsPass {S : Type 0} (me : Me S View) : Type 0 where
  pub empty : me.1 ≡ []
  pub parts : 0 < me.0.parts
  pub once : IsOnce me.0.firsts
