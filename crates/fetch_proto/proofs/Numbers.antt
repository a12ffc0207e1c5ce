-- Places and numbers of pages.
use Rattle.std.proofs.Common.{◌≡◌, ℕ, ◌+◌, ◌-◌, ◌<◌, ◌≤◌, inl, inr, Some, None, sym, ap, ◌∙◌, arith}
use Rattle.std.proofs.lemmas.Bool.{cases_lt}
use Rattle.fetch_proto.specs.declared.number.TheConstants.{FIRST_DISK_PAGE}
use Rattle.fetch_proto.specs.Number.{page_number, page_place}

module _ (ram disk place : ℕ) where
  number_of_ram : place < ram → page_number ram place ≡ place
  unfolding page_number
  number_of_ram inside = grind arith

  number_of_disk : ram ≤ place → page_number ram place ≡ FIRST_DISK_PAGE + (place - ram)
  unfolding page_number
  number_of_disk behind = grind arith

module _ (ram disk number : ℕ) where
  place_in_ram : number < ram → page_place ram disk number ≡ Some number
  unfolding page_place
  place_in_ram inside = grind arith

  place_on_disk : ram ≤ number → FIRST_DISK_PAGE ≤ number → number - FIRST_DISK_PAGE < disk → page_place ram disk number ≡ Some (ram + (number - FIRST_DISK_PAGE))
  unfolding page_place
  place_on_disk behind from inside = grind arith

  place_nowhere : ram ≤ number → (FIRST_DISK_PAGE ≤ number → disk ≤ number - FIRST_DISK_PAGE) → page_place ram disk number ≡ None
  unfolding page_place
  place_nowhere behind none = grind (arith, none)

pub read_back : (ram disk place : ℕ) → ram ≤ FIRST_DISK_PAGE → place < ram + disk → page_place ram disk (page_number ram place) ≡ Some place
read_back ram disk place few inside = elim (cases_lt place ram) [
  | inl of_ram ↦ ap (page_place ram disk) (number_of_ram ram disk place of_ram) ∙ place_in_ram ram disk place of_ram
  | inr behind ↦
      let number = FIRST_DISK_PAGE + (place - ram) in
      ap (page_place ram disk) (number_of_disk ram disk place behind)
      ∙ place_on_disk ram disk number (omega arith) (omega arith) (omega arith)
      ∙ ap Some (let same : ram + (number - FIRST_DISK_PAGE) ≡ place = omega arith in same)
]

-- what a number that has a place is
pub record IsPlaced (ram disk number place : ℕ) : Type 0 where
  pub there : place < ram + disk
  pub numbered : page_number ram place ≡ number

unsome : (a b : ℕ) → Some a ≡ Some b → a ≡ b
unsome a b same = cc

pub placed : (ram disk number place : ℕ) → page_place ram disk number ≡ Some place → IsPlaced ram disk number place
placed ram disk number place is = elim (cases_lt number ram) [
  | inl of_ram ↦
      let same : number ≡ place = unsome number place (sym (place_in_ram ram disk number of_ram) ∙ is) in
      record { there = omega arith; numbered = number_of_ram ram disk place (omega arith) ∙ sym same }
  | inr behind ↦ elim (cases_lt number FIRST_DISK_PAGE) [
    | inl before ↦ absurd (let none : page_place ram disk number ≡ None = place_nowhere ram disk number behind (λ from. absurd (omega arith)) in cc)
    | inr from ↦ elim (cases_lt (number - FIRST_DISK_PAGE) disk) [
      | inl inside ↦
          let same : ram + (number - FIRST_DISK_PAGE) ≡ place = unsome (ram + (number - FIRST_DISK_PAGE)) place (sym (place_on_disk ram disk number behind from inside) ∙ is) in
          record { there = omega arith; numbered = number_of_disk ram disk place (omega arith) ∙ omega arith }
      | inr past ↦ absurd (let none : page_place ram disk number ≡ None = place_nowhere ram disk number behind (λ from. past) in cc)
    ]
  ]
]
