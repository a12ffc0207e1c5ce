-- What is told of bytes that are handed over.
use Rattle.std.proofs.Common.{◌≡◌, ℕ, suc, ◌+◌, ◌-◌, ◌%◌, ◌<◌, ◌≤◌, min, true, false, eqb, inl, inr, List, length, get_or, Option, Some, refl, sym, ap, ◌∙◌, arith}
use Rattle.std.proofs.lemmas.Bool.{cases_lt}
use Rattle.std.proofs.lemmas.Bool.Decides.{nat_tests}
use Rattle.std.proofs.lemmas.List.{get_or_past}
use Rattle.std.proofs.Math.Seq.{take-append_seam}
use Rattle.flat_memory.specs.Flat.{word_at, put_bytes, zeros}
use Rattle.flat_memory.proofs.Bytes.{get_or-put_bytes, get_or-put_bytes_outside}
use Rattle.flat_memory.proofs.Zeros.{get_or-zeros}
use Rattle.fork_port.specs.declared.handed.TheConstants.{MAX_HANDED}
use Rattle.fork_port.specs.declared.ending.Ending.{Ending}
use Rattle.fork_port.specs.declared.ending.Ending.TheVariants.{Exit}
use Rattle.fork_port.specs.declared.registers.TheConstants.{FORK_FIRST_ARGUMENT, FORK_SECOND_ARGUMENT, FORK_RESULT, FORK_CLONE_ID, FORK_ALLOT}
use Rattle.fork_port.specs.declared.registers.TheConstants.{FORK_JOIN_SELECT, FORK_JOIN_KIND, FORK_JOIN_VALUE, FORK_GRANTED, FORK_JOIN_LENGTH, FORK_JOIN_BYTES}
use Rattle.fork_port.specs.Handed.{handed_bytes, handed_of, handed_word}
use Rattle.fork_port.specs.Ending.{join_count, join_word}
use Rattle.fork_port.specs.Registers.{ForkRegisters, is_join_word, join_result, told_load}
use Rattle.fork_port.specs.Fork.{fork_load}

-- behind the bytes all reads as 0, as it does behind the end of a list
padded : (bytes : List ℕ) (k : ℕ) → get_or (put_bytes (zeros MAX_HANDED) 0 bytes) k 0 ≡ get_or bytes k 0
padded bytes k =
    let place : k ≡ 0 + k = omega arith in
    elim (cases_lt k (length bytes)) [
      | inl within ↦
          ap (λ i. get_or (put_bytes (zeros MAX_HANDED) 0 bytes) i 0) place
          ∙ get_or-put_bytes (zeros MAX_HANDED) bytes 0 k (omega arith) within
      | inr past ↦
          get_or-put_bytes_outside (zeros MAX_HANDED) bytes 0 k (omega arith) (inr (omega arith))
          ∙ get_or-zeros MAX_HANDED k
          ∙ sym (get_or_past bytes k 0 past)
    ]

pub word_told : (bytes : List ℕ) (at : ℕ) → handed_word (handed_of bytes) at ≡ word_at bytes at
unfolding handed_of
word_told bytes at =
    rw (padded bytes at, padded bytes (suc at), padded bytes (suc (suc at)), padded bytes (suc (suc (suc at))))

pub zero_told : (bytes : List ℕ) (at : ℕ) → length bytes ≤ at → handed_word (handed_of bytes) at ≡ 0
zero_told bytes at past =
    word_told bytes at
    ∙ rw (
      get_or_past bytes at 0 past,
      get_or_past bytes (suc at) 0 (omega arith),
      get_or_past bytes (suc (suc at)) 0 (omega arith),
      get_or_past bytes (suc (suc (suc at))) 0 (omega arith),
    )

pub bytes_told : (bytes : List ℕ) → length bytes ≤ MAX_HANDED → handed_bytes (handed_of bytes) ≡ bytes
unfolding handed_of handed_bytes
bytes_told bytes few =
    let all : min (length bytes) MAX_HANDED ≡ length bytes = omega arith in
    rw all (take-append_seam bytes _)

-- ---- what a join tells of them

differs : (at register : ℕ) → register < FORK_JOIN_BYTES → eqb (FORK_JOIN_BYTES + at) register ≡ false
differs at register below = grind (arith, nat_tests)

is-word : (at : ℕ) → at % 4 ≡ 0 → at < MAX_HANDED → is_join_word (FORK_JOIN_BYTES + at) ≡ true
is-word at whole inside = grind (arith, nat_tests)

module _ (f : ForkRegisters) (value : ℕ) (bytes : List ℕ) (ended : join_result f ≡ Some (Exit value (handed_of bytes))) where
  pub length-loaded : fork_load f FORK_JOIN_LENGTH 4 ≡ Some (length bytes)
  unfolding fork_load handed_of
  length-loaded = ap (λ (r : Option Ending). Some (join_count r)) ended

  told-at : (at : ℕ) → at % 4 ≡ 0 → at < MAX_HANDED → told_load f (FORK_JOIN_BYTES + at) ≡ Some (join_word (join_result f) (FORK_JOIN_BYTES + at - FORK_JOIN_BYTES))
  told-at at whole inside =
      rw (
        differs at FORK_JOIN_SELECT (omega arith),
        differs at FORK_JOIN_KIND (omega arith),
        differs at FORK_JOIN_VALUE (omega arith),
        differs at FORK_GRANTED (omega arith),
        differs at FORK_JOIN_LENGTH (omega arith),
        is-word at whole inside,
      ) refl

  pub word-loaded : (at : ℕ) → at % 4 ≡ 0 → at < MAX_HANDED → fork_load f (FORK_JOIN_BYTES + at) 4 ≡ Some (word_at bytes at)
  unfolding fork_load
  word-loaded at whole inside =
      let place : FORK_JOIN_BYTES + at - FORK_JOIN_BYTES ≡ at = omega arith in
      rw (
        differs at FORK_FIRST_ARGUMENT (omega arith),
        differs at FORK_SECOND_ARGUMENT (omega arith),
        differs at FORK_RESULT (omega arith),
        differs at FORK_CLONE_ID (omega arith),
        differs at FORK_ALLOT (omega arith),
      )
      (told-at at whole inside
      ∙ ap (λ (r : Option Ending). Some (join_word r (FORK_JOIN_BYTES + at - FORK_JOIN_BYTES))) ended
      ∙ ap (λ i. Some (handed_word (handed_of bytes) i)) place
      ∙ ap (λ w. Some w) (word_told bytes at))
