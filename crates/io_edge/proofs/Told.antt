-- What the clauses of a shelf and a sink in memory tell of the counts, the files and the bytes that are gone.
use Rattle.std.proofs.Common.{◌≡◌, ℕ, ◌+◌, ◌<◌, ◌≤◌, ◌⊎◌, inl, inr, Bool, true, false, cond, List, length, take, ◌++◌, min, Option, Some, None}
use Rattle.std.proofs.Common.{Result, Ok, Err, IfOk, OnErr, OnOk, IsErrOf, IsSomeAnd, refl, sym, ap, ◌∙◌, subst, arith, Vec, vec_len, Global}
use Rattle.std.proofs.lemmas.Bool.{cases_lt}
use Rattle.io_edge.specs.declared.outside.ShelfError.{ShelfError}
use Rattle.io_edge.specs.declared.outside.ShelfError.TheVariants.{Fault, TooLong, Memory}
use Rattle.io_edge.specs.declared.outside.WriteFault.{WriteFault}
use Rattle.io_edge.specs.declared.outside.TheConstants.{LAST_COUNT}
use Rattle.io_edge.specs.Outside.{HasRisen, next_count}
use Rattle.io_edge.specs.Asked.{Asked, asked_after}
use Rattle.io_edge.specs.Files.{Shelved, Loads, after_load}
use Rattle.io_edge.specs.Gone.{Kept, Puts}

pub HasRisen-next_count : (n : ℕ) → HasRisen n (next_count n)
HasRisen-next_count n = elim (cases_lt n LAST_COUNT) [ inl h ↦ inl (omega arith) | inr h ↦ inr (omega arith) ]

-- ---- a sink

pub within-Puts : (old new : Kept) (piece : List ℕ) (r : Result ℕ WriteFault) → Puts old piece r new → IfOk r (λ n. n ≤ length piece)
within-Puts old new piece (Ok n) puts = omega arith
within-Puts old new piece (Err fault) puts = tt

pub out-Puts : (old new : Kept) (piece : List ℕ) (r : Result ℕ WriteFault) → Puts old piece r new → IfOk r (λ n. Some new.bytes ≡ Some (old.bytes ++ take n piece))
out-Puts old new piece (Ok n) puts = ap (λ (sink : Kept). Some sink.bytes) puts.2
out-Puts old new piece (Err fault) puts = tt

pub none_out-Puts : (old new : Kept) (piece : List ℕ) (r : Result ℕ WriteFault) → Puts old piece r new → OnErr r (Some new.bytes ≡ Some old.bytes)
none_out-Puts old new piece (Ok n) puts = tt
none_out-Puts old new piece (Err fault) puts = ap (λ (sink : Kept). Some sink.bytes) puts.1

pub fault-Puts : (old new : Kept) (piece : List ℕ) (r : Result ℕ WriteFault) → Puts old piece r new → OnErr r (HasRisen old.faults new.faults)
fault-Puts old new piece (Ok n) puts = tt
fault-Puts old new piece (Err fault) puts = rw puts.1 (HasRisen-next_count old.faults)

pub faultless-Puts : (old new : Kept) (piece : List ℕ) (r : Result ℕ WriteFault) → Puts old piece r new → OnOk r (new.faults ≡ old.faults)
faultless-Puts old new piece (Ok n) puts = ap (λ (sink : Kept). sink.faults) puts.2
faultless-Puts old new piece (Err fault) puts = tt

-- ---- a shelf, whose coming call is listed or not, and what file has the name

pub given-Loads : (listed : Bool) (file : Option (List ℕ)) (at_most : ℕ) (r : Result (Vec ℕ Global) ShelfError)
    → Loads (cond listed None file) at_most r → IfOk r (λ bytes. file ≡ Some bytes.items)
given-Loads true file at_most (Ok copy) h = cc
given-Loads true file at_most (Err error) h = tt
given-Loads false None at_most (Ok copy) h = cc
given-Loads false None at_most (Err error) h = tt
given-Loads false (Some bytes) at_most (Ok copy) h = ap Some (sym h.0)
given-Loads false (Some bytes) at_most (Err error) h = tt

pub at_most-Loads : (found : Option (List ℕ)) (at_most : ℕ) (r : Result (Vec ℕ Global) ShelfError)
    → Loads found at_most r → IfOk r (λ bytes. vec_len bytes ≤ at_most)
at_most-Loads None at_most (Ok copy) h = cc
at_most-Loads None at_most (Err error) h = tt
at_most-Loads (Some bytes) at_most (Ok copy) h = h.1
at_most-Loads (Some bytes) at_most (Err error) h = tt

too_long : (listed : Bool) (file : Option (List ℕ)) (at_most : ℕ)
    → Loads (cond listed None file) at_most (Err TooLong) → IsSomeAnd file (λ bytes. at_most < length bytes)
too_long true file at_most h = cc
too_long false None at_most h = cc
too_long false (Some bytes) at_most h = h

pub too_long-Loads : (listed : Bool) (file : Option (List ℕ)) (at_most : ℕ) (r : Result (Vec ℕ Global) ShelfError)
    → Loads (cond listed None file) at_most r → IsErrOf r TooLong → IsSomeAnd file (λ bytes. at_most < length bytes)
too_long-Loads listed file at_most r h e = too_long listed file at_most (subst (Loads (cond listed None file) at_most) e h)

fault : (found : Option (List ℕ)) (at_most : ℕ) (shelf : Shelved) → Loads found at_most (Err Fault) → HasRisen shelf.faults (after_load found shelf).faults
fault None at_most shelf h = HasRisen-next_count shelf.faults
fault (Some bytes) at_most shelf h = absurd h

pub fault-Loads : (found : Option (List ℕ)) (at_most : ℕ) (r : Result (Vec ℕ Global) ShelfError) (old new : Shelved)
    → Loads found at_most r → new ≡ after_load found old → IsErrOf r Fault → HasRisen old.faults new.faults
fault-Loads found at_most r old new h after e = rw after (fault found at_most old (subst (Loads found at_most) e h))

-- what was asked of a shelf in memory, which tells no names
abbrev pub asked_of : Shelved → Asked
asked_of shelf = record { loads = shelf.calls; last_fault = shelf.last_fault; names = None }

asked : (name : List ℕ) (found : Option (List ℕ)) (at_most : ℕ) (r : Result (Vec ℕ Global) ShelfError) (old : Shelved) → Loads found at_most r
    → asked_of (after_load found old) ≡ asked_after name r (asked_of old)
asked name None at_most (Ok copy) old h = cc
asked name None at_most (Err Fault) old h = refl
asked name None at_most (Err TooLong) old h = cc
asked name None at_most (Err Memory) old h = cc
asked name (Some bytes) at_most (Ok copy) old h = refl
asked name (Some bytes) at_most (Err Fault) old h = absurd h
asked name (Some bytes) at_most (Err TooLong) old h = refl
asked name (Some bytes) at_most (Err Memory) old h = refl

pub asked-Loads : (name : List ℕ) (found : Option (List ℕ)) (at_most : ℕ) (r : Result (Vec ℕ Global) ShelfError) (old new : Shelved)
    → Loads found at_most r → new ≡ after_load found old → asked_of new ≡ asked_after name r (asked_of old)
asked-Loads name found at_most r old new h after = rw after (asked name found at_most r old h)
