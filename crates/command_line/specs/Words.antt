-- What the words of a command line mean, by the matches of the parser `clap`.
use Rattle.std.specs.Prelude.{ℕ, ◌^◌, ◌&&◌, true, nat_le, nat_lt, if◌then◌else◌, List, [], ◌∷◌, length}
use Rattle.std.specs.Prelude.{map, codes, Option, Some, None, option_and_then, string_bytes, String}
use Rattle.std.specs.Str.{all_ascii_digits, bytes_eq}
use Rattle.std.specs.Str.Parse.{digits_value, without_leading_plus}
use Rattle.std.specs.declared.alloc.Global.{Global}
use Rattle.clap.specs.Words.{App, Kinds, Row, Rule, fault_of, first_of, new_app, new_rule, subcommand_of, with_rule, with_subcommand}
use Rattle.command_line.specs.declared.options.Limits.{Limits}
use Rattle.command_line.specs.declared.options.TheConstants.{AHEAD, CLONES, LIMIT, RAM, SLICE, WIRE, WORKERS}
use Rattle.command_line.specs.declared.words.TheConstants.{GENERATED_CLONES, GENERATED_AHEAD}

-- what a guest is made of and what it may do: the names of its image, of its disk and of its input, its pages of RAM,
-- the most steps of a machine, and how many clones its family may have
pub record GuestValues : Type 0 where
  pub image : List ℕ
  pub disk : Option (List ℕ)
  pub input : Option (List ℕ)
  pub pages : ℕ
  pub limit : ℕ
  pub clones : ℕ

-- how its family is run: the seed of the wires, how many pages are asked for beside one that is wanted, the workers, and
-- after how many steps of a machine, 1,000 at most, its worker looks up first
pub record RunValues : Type 0 where
  pub seed : ℕ
  pub ahead : ℕ
  pub workers : ℕ
  pub slice : ℕ

-- a guest that is drawn from a seed, and the workers that run its family
pub record GeneratedValues : Type 0 where
  pub seed : ℕ
  pub workers : ℕ

-- what a generated guest is given, which has no files
abbrev pub generated_guest : GuestValues
generated_guest = record { image = []; disk = None; input = None; pages = RAM.default; limit = LIMIT.default; clones = GENERATED_CLONES }

-- and how its family is run, by so many workers
abbrev pub generated_how : ℕ → RunValues
generated_how workers = record { seed = WIRE.default; ahead = GENERATED_AHEAD; workers = workers; slice = SLICE.default }

pub data Command : Type 0 where
  -- the guest's family is run to its end
  run : GuestValues → RunValues → Command
  -- it is driven by the script of this name
  drive : GuestValues → List ℕ → Command
  -- the family of the guest of a seed is run to its end
  generated : GeneratedValues → Command

-- ---- the command line

-- an option `--name` with one value
abbrev pub option_rule : List ℕ → Rule
option_rule name = record (new_rule name) { long = Some name }

-- an argument that has to be given
abbrev pub argument_rule : List ℕ → Rule
argument_rule name = record (new_rule name) { required = true }

-- `[--disk F] [--input F] [--ram N] [--limit N] [--clones N]`
unfoldable pub with_files : App → App
with_files app = with_rule (with_rule app (option_rule (codes "disk"))) (option_rule (codes "input"))

unfoldable pub with_numbers : App → App
with_numbers app =
    with_rule (with_rule (with_rule app (option_rule (codes "ram"))) (option_rule (codes "limit"))) (option_rule (codes "clones"))

-- `[--wire SEED] [--ahead N]`
unfoldable pub with_wire : App → App
with_wire app = with_rule (with_rule app (option_rule (codes "wire"))) (option_rule (codes "ahead"))

-- `[--workers N]`
unfoldable pub with_workers : App → App
with_workers app = with_rule app (option_rule (codes "workers"))

-- `[--slice N]`
unfoldable pub with_slice : App → App
with_slice app = with_rule app (option_rule (codes "slice"))

-- `run IMAGE ..`
abbrev pub run_app : App
run_app =
    with_slice (with_workers (with_wire (with_numbers (with_files (with_rule (new_app (codes "run")) (argument_rule (codes "IMAGE")))))))

-- `drive IMAGE SCRIPT ..`
abbrev pub drive_app : App
drive_app =
    with_numbers (with_files (with_rule (with_rule (new_app (codes "drive")) (argument_rule (codes "IMAGE"))) (argument_rule (codes "SCRIPT"))))

-- `self SEED ..`
abbrev pub generated_app : App
generated_app = with_workers (with_rule (new_app (codes "self")) (argument_rule (codes "SEED")))

-- the first word is not the program's own name
abbrev pub without_own_name : App → App
without_own_name app = record app { top = record app.top { no_binary_name = true } }

-- the whole of it
abbrev pub snow_app : App
snow_app =
    with_subcommand (with_subcommand (with_subcommand (without_own_name (new_app (codes "snow"))) run_app.top) drive_app.top) generated_app.top

-- why the parser may refuse the words: nothing where it takes them. A request for help is refused too
unfoldable pub refusals : List (List ℕ) → Kinds
refusals words = fault_of snow_app words

-- the subcommand that the words name, and what was found for its arguments
unfoldable pub found : List (List ℕ) → Option (List ℕ × List Row)
found words = subcommand_of snow_app words

-- ---- the values

-- the number that a text is, as `parse` reads a u32: one decimal digit or more, which may have a plus before them
abbrev pub number_of : List ℕ → Option ℕ
number_of text =
    let digits = without_leading_plus text in
    if nat_lt 0 (length digits) && (all_ascii_digits digits && nat_lt (digits_value 10 digits) (2 ^ 32)) then Some (digits_value 10 digits) else None

-- a number within its limits
abbrev pub number_within : ℕ → ℕ → Option ℕ → Option ℕ
number_within least most None = None
number_within least most (Some n) = if nat_le least n && nat_le n most then Some n else None

-- the value of an option: a number within its limits, or the default where the option is not given
abbrev pub value_of : Limits → Option (List ℕ) → Option ℕ
value_of limits None = Some limits.default
value_of limits (Some text) = number_within limits.least limits.most (number_of text)

abbrev pub guest_with : Option (List ℕ) → Option (List ℕ) → Option (List ℕ) → Option ℕ → Option ℕ → Option ℕ → Option GuestValues
guest_with (Some image) disk input (Some pages) (Some limit) (Some clones) =
    Some (record { image = image; disk = disk; input = input; pages = pages; limit = limit; clones = clones })
guest_with _ disk input _ _ _ = None

abbrev pub guest_of : List Row → Option GuestValues
guest_of rows =
    guest_with
    (first_of (codes "IMAGE") rows)
    (first_of (codes "disk") rows)
    (first_of (codes "input") rows)
    (value_of RAM (first_of (codes "ram") rows))
    (value_of LIMIT (first_of (codes "limit") rows))
    (value_of CLONES (first_of (codes "clones") rows))

-- how many workers there are to be
abbrev pub workers_of : List Row → Option ℕ
workers_of rows = value_of WORKERS (first_of (codes "workers") rows)

abbrev pub how_with : Option ℕ → Option ℕ → Option ℕ → Option ℕ → Option RunValues
how_with (Some seed) (Some ahead) (Some workers) (Some slice) = Some (record { seed = seed; ahead = ahead; workers = workers; slice = slice })
how_with _ _ _ _ = None

-- a seed is any number that reads
abbrev pub how_of : List Row → Option RunValues
how_of rows =
    how_with
    (value_of WIRE (first_of (codes "wire") rows))
    (value_of AHEAD (first_of (codes "ahead") rows))
    (workers_of rows)
    (value_of SLICE (first_of (codes "slice") rows))

abbrev pub run_with : Option GuestValues → Option RunValues → Option Command
run_with (Some guest) (Some how) = Some (run guest how)
run_with _ _ = None

abbrev pub drive_with : Option GuestValues → Option (List ℕ) → Option Command
drive_with (Some guest) (Some script) = Some (drive guest script)
drive_with _ _ = None

abbrev pub generated_with : Option ℕ → Option ℕ → Option Command
generated_with (Some seed) (Some workers) = Some (generated (record { seed = seed; workers = workers }))
generated_with _ _ = None

abbrev pub command_by : List ℕ → List Row → Option Command
command_by name rows =
    if bytes_eq name (codes "run") then run_with (guest_of rows) (how_of rows)
    else if bytes_eq name (codes "drive") then drive_with (guest_of rows) (first_of (codes "SCRIPT") rows)
    else if bytes_eq name (codes "self") then generated_with (option_and_then number_of (first_of (codes "SEED") rows)) (workers_of rows)
    else None

abbrev pub command_of : Option (List ℕ × List Row) → Option Command
command_of None = None
command_of (Some subcommand) = command_by subcommand.0 subcommand.1

abbrev pub meant_by : Kinds → Option (List ℕ × List Row) → Option Command
meant_by [] subcommand = command_of subcommand
meant_by (kind ∷ kinds) subcommand = None

-- what the words mean: none where the parser refuses them or they name no subcommand, or where a number is none or
-- beyond its limits
abbrev pub meant : List (List ℕ) → Option Command
meant words = meant_by (refusals words) (found words)

-- the bytes of the words
abbrev pub texts : List (String Global) → List (List ℕ)
texts words = map string_bytes words
