-- What a join tells of a child that has ended.
use Rattle.std.specs.Prelude.{ℕ, Option, Some, None}
use Rattle.fork_port.specs.declared.ending.Ending.{Ending}
use Rattle.fork_port.specs.declared.ending.Ending.TheVariants.{Exit, Limit}
use Rattle.fork_port.specs.Handed.{handed_count, handed_word}

abbrev pub ending_kind : Ending → ℕ
ending_kind (Exit value handed) = 1
ending_kind Limit = 2

abbrev pub ending_value : Ending → ℕ
ending_value (Exit value handed) = value
ending_value Limit = 0

-- how many bytes it handed over
abbrev pub ending_count : Ending → ℕ
ending_count (Exit value handed) = handed_count handed
ending_count Limit = 0

-- the word at a place of these bytes and of the zeros behind them
abbrev pub ending_word : Ending → ℕ → ℕ
ending_word (Exit value handed) at = handed_word handed at
ending_word Limit at = 0

-- the same where there may be no such child
abbrev pub join_kind : Option Ending → ℕ
join_kind None = 0
join_kind (Some ending) = ending_kind ending

abbrev pub join_value : Option Ending → ℕ
join_value None = 0
join_value (Some ending) = ending_value ending

abbrev pub join_count : Option Ending → ℕ
join_count None = 0
join_count (Some ending) = ending_count ending

abbrev pub join_word : Option Ending → ℕ → ℕ
join_word None at = 0
join_word (Some ending) at = ending_word ending at
