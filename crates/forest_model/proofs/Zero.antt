-- Pages that ZERO makes read as zeros.
use Rattle.std.proofs.Common.{◌≡◌, ℕ, ◌+◌, ◌-◌, ◌*◌, ◌/◌, ◌<◌, ◌≤◌, ◌⊎◌, ◌&&◌, inl, inr, Bool, true, false, not, cond, eqb, leb, length, get_or, refl, ap, ◌∙◌, arith}
use Rattle.std.proofs.lemmas.Bool.Decides.{nat_tests, leb_tells}
use Rattle.page_frames.specs.declared.page.TheConstants.{PAGE_SIZE}
use Rattle.flat_memory.specs.Flat.{zeros}
use Rattle.flat_memory.proofs.Zeros.{length-zeros, get_or-zeros}
use Rattle.flat_memory.proofs.Bytes.{get_or-put_bytes, get_or-put_bytes_outside, length-put_bytes}
use Rattle.fork_port.specs.declared.refusals.TheConstants.{BAD_ARGUMENT}
use Rattle.fork_port.specs.Registers.{refused}
use Rattle.forest_model.specs.State.{State}
use Rattle.forest_model.specs.Memory.{is_page_range, zeroed}

-- the range lies in RAM
pages-within : (first count size : ℕ) → not (eqb count 0) && leb (first + count) (size / PAGE_SIZE) ≡ true
    → PAGE_SIZE * first + PAGE_SIZE * count ≤ size
pages-within first count size h = grind (arith, nat_tests)

-- a byte of another page lies before the range or behind it
outside_pages : (first count at : ℕ) → ((first ≤ at / PAGE_SIZE) × (at / PAGE_SIZE < first + count) → ⊥)
    → (at < PAGE_SIZE * first) ⊎ (PAGE_SIZE * first + PAGE_SIZE * count ≤ at)
outside_pages first count at other = elim (leb_tells first (at / PAGE_SIZE)) [
  | inl from ↦ elim (leb_tells (first + count) (at / PAGE_SIZE)) [
    | inl past ↦ inr (let after : first + count ≤ at / PAGE_SIZE = past.1 in omega arith)
    | inr within ↦ absurd (other (from.1, within.1))
  ]
  | inr before ↦ inl (let below : at / PAGE_SIZE < first = before.1 in omega arith)
]

module _ (s : State) (first count : ℕ) where
  pub zeroed-leaves : (at : ℕ) → is_page_range first count s.ram ≡ true → ((first ≤ at / PAGE_SIZE) × (at / PAGE_SIZE < first + count) → ⊥)
      → get_or (zeroed true first count s).ram at 0 ≡ get_or s.ram at 0
  zeroed-leaves at e other =
      let within : PAGE_SIZE * first + PAGE_SIZE * count ≤ length s.ram = pages-within first count (length s.ram) e in
      get_or-put_bytes_outside s.ram (zeros (PAGE_SIZE * count)) (PAGE_SIZE * first) at (omega arith)
      (rw (length-zeros (PAGE_SIZE * count)) (outside_pages first count at other))

  pub zeroed-clears : (at : ℕ) → is_page_range first count s.ram ≡ true → first ≤ at / PAGE_SIZE → at / PAGE_SIZE < first + count
      → get_or (zeroed true first count s).ram at 0 ≡ 0
  zeroed-clears at e from before =
      let within : PAGE_SIZE * first + PAGE_SIZE * count ≤ length s.ram = pages-within first count (length s.ram) e in
      let size : length (zeros (PAGE_SIZE * count)) ≡ PAGE_SIZE * count = length-zeros (PAGE_SIZE * count) in
      let place : at ≡ PAGE_SIZE * first + (at - PAGE_SIZE * first) = omega arith in
      ap (λ i. get_or (zeroed true first count s).ram i 0) place
      ∙ get_or-put_bytes s.ram (zeros (PAGE_SIZE * count)) (PAGE_SIZE * first) (at - PAGE_SIZE * first) (omega arith) (omega arith)
      ∙ get_or-zeros (PAGE_SIZE * count) (at - PAGE_SIZE * first)

  pub zeroed-length : is_page_range first count s.ram ≡ true → length (zeroed true first count s).ram ≡ length s.ram
  zeroed-length e =
      let within : PAGE_SIZE * first + PAGE_SIZE * count ≤ length s.ram = pages-within first count (length s.ram) e in
      let size : length (zeros (PAGE_SIZE * count)) ≡ PAGE_SIZE * count = length-zeros (PAGE_SIZE * count) in
      length-put_bytes s.ram (zeros (PAGE_SIZE * count)) (PAGE_SIZE * first) (omega arith)

  pub zeroed-tells : (in_range : Bool) → (zeroed in_range first count s).ports.fork ≡ refused s.ports.fork (cond in_range 0 BAD_ARGUMENT)
  zeroed-tells true = refl
  zeroed-tells false = refl
