use Rattle.std.proofs.Common.{◌≡◌, ◌≢◌, ◌<◌, length, sym, ap, ◌∙◌, subst, arith}
use Rattle.forest_tree.specs.Tree.{Path}
use Rattle.world_core.specs.declared.world.Taken.{Taken}
use Rattle.world_core.specs.declared.world.Taken.TheVariants.{Took}
use Rattle.world_core.specs.Lent.{Lent}
use Rattle.fork_board.specs.Notes.{taken_entry}
use Rattle.fork_board.specs.Passes.{Leaves}
use Rattle.machine_tests.proofs.siblings.leases.takes_a_child.Goals as goal

-- who takes a machine still holds one of another name
leaves : (taken : Taken) (lease : Lent) (other : Path) → taken ≡ Took lease → lease.name ≢ other → Leaves (taken_entry taken) other
leaves taken lease other is apart = subst (λ t. Leaves (taken_entry t) other) (sym is) apart

-- names of other lengths are others
apart-by : (one other : Path) → length other < length one → one ≢ other
apart-by one other less same = let alike = ap length same in absurd (omega (arith, less, alike))

pub kills_a_child-requires-clause-parent_held : goal.kills_a_child-requires-clause-parent_held
kills_a_child-requires-clause-parent_held g c =
    let parent = c.args.parent in
    let child = c.in-Took.child in
    let above = c.depth.ensures ∙ ap length c.name.ensures in
    let below = c.depth-in-Took.ensures ∙ ap length c.name-in-Took.ensures in
    let less : length parent.name < length child.name = let test = c.if-assert.false in omega (arith, above, below, test) in
    c.take-pass.ensures.makes.held parent c.requires.held (leaves c.take-pass.result.1 child parent.name c.in-Took.is (apart-by child.name parent.name less))
