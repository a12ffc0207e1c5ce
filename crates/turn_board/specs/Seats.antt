-- Seats are named by lists of numbers: the first seat by the empty list, and the k-th seat split off from s by s with k appended.
use Rattle.std.proofs.Common.{ℕ, zero, suc, ◌-◌, ◌*◌, List, [], ◌∷◌, ◌++◌, Bool}
use Rattle.std.specs.List.{list_any}
use Rattle.std.specs.Str.{bytes_eq}

abbrev pub is_seat : List ℕ → List ℕ → Bool
is_seat = bytes_eq

-- the number of the seat that is split off from one after so many others
abbrev pub next_seat : List ℕ → ℕ → List ℕ
next_seat seat splits = seat ++ splits ∷ []

-- the seat is among these
abbrev pub has_seat : List (List ℕ) → List ℕ → Bool
has_seat made seat = list_any (λ s. is_seat s seat) made

-- how many seats come of one whose number has p parts, itself among them, if each splits as often as it may
abbrev pub weigh : ℕ → ℕ
weigh zero = 281474976710656
weigh (suc zero) = 4294967296
weigh (suc (suc zero)) = 65536
weigh (suc (suc (suc zero))) = 1
weigh (suc (suc (suc (suc p)))) = 0

-- how many still may, after so many splits
abbrev pub room : ℕ → ℕ → ℕ
room p splits = weigh p - splits * weigh (suc p)
