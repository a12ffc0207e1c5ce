use Rattle.guest_gen.proofs.Loading.{jump_past_rest}
use Rattle.guest_gen.proofs.laws.children_go_on_at_the_next_level.Goals as goal

pub returns : goal.returns
returns c = jump_past_rest
