-- Files in memory, by name.
use Rattle.std.specs.Prelude.{◌≡◌, ℕ, ◌<◌, ◌≤◌, Bool, if◌then◌else◌, List, [], ◌∷◌, length, Option, Some}
use Rattle.std.specs.Prelude.{None, Result, Ok, Err, is_some, string_bytes, String, Vec, vec_len}
use Rattle.std.specs.Str.{bytes_eq}
use Rattle.std.specs.declared.alloc.Global.{Global}
use Rattle.io_edge.specs.declared.outside.ShelfError.{ShelfError}
use Rattle.io_edge.specs.declared.outside.ShelfError.TheVariants.{Fault, TooLong, Memory}
use Rattle.io_edge.specs.Outside.{next_count, is_next_listed}

-- how many calls and faults there were, and which call had the last fault
pub record Counted : Type 0 where
  pub calls : ℕ
  pub faults : ℕ
  pub last_fault : ℕ

-- a shelf in memory: its files, the calls that are to fail, and the same counts
pub record Shelved : Type 0 where
  pub files : List (List ℕ × List ℕ)
  pub failing : List ℕ
  pub calls : ℕ
  pub faults : ℕ
  pub last_fault : ℕ

-- the bytes of the names and files
abbrev pub named : List (String Global × Vec ℕ Global) → List (List ℕ × List ℕ)
named [] = []
named (file ∷ files) = (string_bytes file.0, file.1.items) ∷ named files

-- the bytes of the first file of a name
abbrev pub file_named : List (List ℕ × List ℕ) → List ℕ → Option (List ℕ)
file_named [] name = None
file_named (file ∷ files) name = if bytes_eq file.0 name then Some file.1 else file_named files name

-- the bytes that the coming load finds: none where it is to fail or no file has the name
abbrev pub found : Shelved → List ℕ → Option (List ℕ)
found shelf name = if is_next_listed shelf.failing shelf.calls then None else file_named shelf.files name

-- the shelf after a load, which is a fault where nothing was found
abbrev pub after_load : Option (List ℕ) → Shelved → Shelved
after_load found shelf = record shelf {
  calls = next_count shelf.calls;
  faults = if is_some found then shelf.faults else next_count shelf.faults;
  last_fault = if is_some found then shelf.last_fault else next_count shelf.calls;
}

-- what a load answers. Want of memory may come where there are bytes to copy
abbrev pub Loads : Option (List ℕ) → ℕ → Result (Vec ℕ Global) ShelfError → Type 0
Loads None at_most result = result ≡ Err Fault
Loads (Some bytes) at_most (Ok copy) = (copy.items ≡ bytes) × (vec_len copy ≤ at_most)
Loads (Some bytes) at_most (Err Fault) = ⊥
Loads (Some bytes) at_most (Err TooLong) = at_most < length bytes
Loads (Some bytes) at_most (Err Memory) = length bytes ≤ at_most
