use Rattle.std.proofs.Common.{◌≡◌, ◌-◌, ◌*◌, ◌/◌, ◌≤◌, ap, ap₂, drop, length, length-drop, length-take, take, take-take, ◌∙◌, arith}
use Rattle.shared_leaves.proofs.list.SharedList.run_before.Goals as goal

pub split_at-requires : goal.split_at-requires
split_at-requires g c =
    let begin = 64 * ((c.args.end - 1) / 64) in
    omega (arith, ap length c.leaf.ensures, length-take 64 (drop begin c.args.self.now), length-drop begin c.args.self.now, c.requires.inside, c.requires.some)

pub returns-clause-run : goal.returns-clause-run
returns-clause-run g c =
    let begin = 64 * ((c.args.end - 1) / 64) in
    let count = c.args.end - begin in
    let run = c.split_at.result.0.now in
    let short : count ≤ 64 = omega (arith, c.requires.some) in
    let is : run ≡ take count (drop begin c.args.self.now)
    = c.split_at.ensures.front ∙ ap (take count) c.leaf.ensures ∙ take-take count 64 (drop begin c.args.self.now) short in
    let size : count ≡ length run = omega (arith, ap length is, length-take count (drop begin c.args.self.now), length-drop begin c.args.self.now, c.requires.inside, c.requires.some) in
    let place : begin ≡ c.args.end - length run = omega (arith, size, c.requires.some) in
    is ∙ ap₂ (λ n at. take n (drop at c.args.self.now)) size place
