-- The levels of a guest. Machines of levels 0 and 1 fork twice, and their children go on at the next level.
use Rattle.std.specs.Prelude.{ℕ, zero, suc, ◌+◌, ◌*◌, [], ◌∷◌, ◌++◌, length}
use Rattle.guest_gen.specs.Assembly.{addi, add, lw, sw, beq, jal}
use Rattle.guest_gen.specs.Blocks.{Code, blocks, after_blocks}

-- a child adds its number among its siblings to its sum
unfoldable pub numbered : Code
numbered = lw 8 16 5 ∷ add 14 14 8 ∷ []

-- a ticket for four children, each with this share, whose number is kept in a register. The children are
-- made. They go on behind the rest of the level, which is so many words, and the machine goes on with it
unfoldable pub fork : ℕ → ℕ → ℕ → Code
fork register share words =
    addi 6 0 4 ∷ sw 6 0 5  -- ARG0
    ∷ addi 6 0 share ∷ sw 6 4 5  -- ARG1
    ∷ addi 6 0 1 ∷ sw 6 8 5  -- TICKET
    ∷ lw register 12 5 ∷ sw register 0 5  -- RESULT, ARG0
    ∷ addi 6 0 2 ∷ sw 6 8 5  -- CLONE
    ∷ lw 8 12 5  -- RESULT
    ∷ beq 8 0 8
    ∷ jal 0 (4 * (1 + words))
    ∷ []

-- a fork and the rest of its level
unfoldable pub forked : ℕ → ℕ → Code → Code
forked register share rest = fork register share (length rest) ++ rest

-- the children of the second ticket are dropped
unfoldable pub kill : Code
kill =
    sw 15 0 5  -- ARG0
    ∷ addi 6 0 4 ∷ sw 6 8 5  -- KILL
    ∷ []

-- those of the first are waited for
unfoldable pub join : Code
join =
    sw 9 0 5  -- ARG0
    ∷ addi 6 0 3 ∷ sw 6 8 5  -- JOIN
    ∷ []

-- the value of a child is added to the sum
unfoldable pub value : ℕ → Code
value child =
    addi 6 0 child ∷ sw 6 24 5  -- JSEL
    ∷ lw 8 32 5  -- JVALUE
    ∷ add 14 14 8
    ∷ []

-- the values of so many children
unfoldable pub values : ℕ → Code
values zero = []
values (suc n) = values n ++ value (suc n)

-- the machine ends with its sum as its value
unfoldable pub exit : Code
exit =
    sw 14 0 5  -- ARG0
    ∷ addi 6 0 5 ∷ sw 6 8 5  -- EXIT
    ∷ []

-- a level that forks, with this share: from its last blocks on, from those between its forks on, and all of it
unfoldable pub last_part : ℕ → Code
last_part s = blocks 50 s ++ kill ++ join ++ values 4 ++ exit

unfoldable pub middle_part : ℕ → ℕ → Code
middle_part share s = blocks 50 s ++ forked 15 share (last_part (after_blocks 50 s))

unfoldable pub forking_level : ℕ → ℕ → Code
forking_level share s = blocks 200 s ++ forked 9 share (middle_part share (after_blocks 200 s))

-- the state behind its blocks
unfoldable pub after_level : ℕ → ℕ
after_level s = after_blocks 50 (after_blocks 50 (after_blocks 200 s))

-- a level that does not fork
unfoldable pub last_level : ℕ → Code
last_level s = blocks 200 s ++ exit
