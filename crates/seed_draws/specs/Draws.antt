-- The numbers that a guest is made of.
use Rattle.std.specs.Prelude.{ℕ, ◌+◌, ◌*◌, ◌/◌, ◌%◌, ◌^◌}

-- the state of the generator behind a draw, and the number that is drawn: the upper half of that state
unfoldable pub next : ℕ → ℕ
next state = (1664525 * state + 1013904223) % 2 ^ 32

unfoldable pub drawn : ℕ → ℕ
drawn state = next state / 2 ^ 16
