-- Runs that are made one after the other.
use Rattle.std.proofs.Common.{◌≡◌, ◌≢◌, ◌+◌, ℕ, List, [], ◌∷◌, ◌++◌, replicate, reverse, append-nil, refl, sym, ap, ◌∙◌, true, false, arith}
use Rattle.std.specs.Prelude.{Bool, not}
use Rattle.std.proofs.Math.Bool.{not-not}
use Rattle.std.proofs.lemmas.List.{append_assoc, replicate-append-replicate, reverse-append}
use Rattle.shared_leaves.specs.Choices.{flags_of_runs}
use Rattle.vm_descriptor.specs.MadeRuns.{flag_behind}

-- ---- each behind the one before it

-- more flags of the last run
pub more_behind : (first flag : Bool) (lengths : List ℕ) (last count : ℕ) → flag ≡ flag_behind first lengths
    → flags_of_runs first (lengths ++ ((last + count) ∷ [])) ≡ flags_of_runs first (lengths ++ (last ∷ [])) ++ replicate count flag
unfolding flags_of_runs flag_behind
more_behind first flag [] last count is =
    append-nil (replicate (last + count) first)
    ∙ sym (replicate-append-replicate last count first)
    ∙ ap (λ (fs : List Bool). fs ++ replicate count first) (sym (append-nil (replicate last first)))
    ∙ ap (λ (f : Bool). (replicate last first ++ []) ++ replicate count f) (sym is)
more_behind first flag (run ∷ lengths) last count is =
    ap (λ (fs : List Bool). replicate run first ++ fs) (more_behind (not first) flag lengths last count is)
    ∙ sym (append_assoc (replicate run first) (flags_of_runs (not first) (lengths ++ (last ∷ []))) (replicate count flag))

-- a run of none
pub none_behind : (first : Bool) (lengths : List ℕ) → flags_of_runs first (lengths ++ (0 ∷ [])) ≡ flags_of_runs first lengths
unfolding flags_of_runs
none_behind first [] = refl
none_behind first (run ∷ lengths) = ap (λ (fs : List Bool). replicate run first ++ fs) (none_behind (not first) lengths)

-- its flag
pub turn_behind : (first : Bool) (lengths : List ℕ) (last : ℕ) → flag_behind first (lengths ++ (last ∷ [])) ≡ not (flag_behind first lengths)
unfolding flag_behind
turn_behind first [] last = refl
turn_behind first (run ∷ lengths) last = turn_behind (not first) lengths last

-- a run of none that is begun
pub begun_behind : (lengths new : List ℕ) (last : ℕ) → new ≡ lengths ++ (last ∷ []) → flags_of_runs false (new ++ (0 ∷ [])) ≡ flags_of_runs false (lengths ++ (last ∷ []))
begun_behind lengths new last is = ap (λ (ls : List ℕ). flags_of_runs false (ls ++ (0 ∷ []))) is ∙ none_behind false (lengths ++ (last ∷ []))

pub begun_turn : (flag : Bool) (lengths new : List ℕ) (last : ℕ) → new ≡ lengths ++ (last ∷ []) → flag ≡ flag_behind false lengths → not flag ≡ flag_behind false new
begun_turn flag lengths new last is turn =
    ap (λ (f : Bool). not f) turn ∙ sym (turn_behind false lengths last) ∙ ap (λ (ls : List ℕ). flag_behind false ls) (sym is)

-- ---- each before the one before it

pub more_before : (flag : Bool) (behind : List ℕ) (last count : ℕ) → flags_of_runs flag ((last + count) ∷ behind) ≡ replicate count flag ++ flags_of_runs flag (last ∷ behind)
unfolding flags_of_runs
more_before flag behind last count =
    let later = flags_of_runs (not flag) behind in
    let same : last + count ≡ count + last = omega arith in
    ap (λ (n : ℕ). replicate n flag ++ later) same
    ∙ ap (λ (fs : List Bool). fs ++ later) (sym (replicate-append-replicate count last flag))
    ∙ append_assoc (replicate count flag) (replicate last flag) later

pub none_before : (flag : Bool) (lengths : List ℕ) (last : ℕ) → flags_of_runs (not flag) (0 ∷ reverse (lengths ++ (last ∷ []))) ≡ flags_of_runs flag (last ∷ reverse lengths)
unfolding flags_of_runs
none_before flag lengths last =
    ap (λ (f : Bool). flags_of_runs f (reverse (lengths ++ (last ∷ [])))) (not-not flag)
    ∙ ap (λ (ls : List ℕ). flags_of_runs flag ls) (reverse-append lengths (last ∷ []))

pub begun_before : (flag : Bool) (lengths new : List ℕ) (last : ℕ) → new ≡ lengths ++ (last ∷ [])
    → flags_of_runs (not flag) (0 ∷ reverse new) ≡ flags_of_runs flag (last ∷ reverse lengths)
begun_before flag lengths new last is = ap (λ (ls : List ℕ). flags_of_runs (not flag) (0 ∷ reverse ls)) is ∙ none_before flag lengths last

-- ---- its flag

pub other_flag : (one two : Bool) → one ≢ two → not one ≡ two
other_flag true true differ = absurd (differ refl)
other_flag true false differ = refl
other_flag false true differ = refl
other_flag false false differ = absurd (differ refl)
