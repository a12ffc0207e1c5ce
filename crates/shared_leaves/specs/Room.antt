-- The room that an entry takes.
use Rattle.std.specs.Prelude.{◌^◌, ◌<◌}
use Rattle.std.specs.Borrow.{RattleType}
use prog.Memory.{size, align}
use denote.Param.{layout}

-- 64 entries lie in memory: so many bytes, at an address that is a multiple of such a number
abbrev pub IsSmall : RattleType → Type 0
IsSmall R = (size (layout R) < 2 ^ 32) × (align (layout R) < 2 ^ 32)
