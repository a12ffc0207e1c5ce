-- Zero bytes.
use Rattle.std.proofs.Common.{◌≡◌, ℕ, length, get_or, inl, inr, arith}
use Rattle.std.proofs.lemmas.Bool.{cases_lt}
use Rattle.std.proofs.lemmas.List.{length-replicate, get_or-replicate, get_or_past}
use Rattle.flat_memory.specs.Flat.{zeros}

pub length-zeros : (n : ℕ) → length (zeros n) ≡ n
unfolding zeros
length-zeros n = length-replicate n 0

pub get_or-zeros : (n at : ℕ) → get_or (zeros n) at 0 ≡ 0
unfolding zeros
get_or-zeros n at =
    elim (cases_lt at n) [
      | inl within ↦ get_or-replicate {A = ℕ} n at 0 0 within
      | inr past ↦ get_or_past _ at 0 (omega (arith, length-replicate {A = ℕ} n 0))
    ]
