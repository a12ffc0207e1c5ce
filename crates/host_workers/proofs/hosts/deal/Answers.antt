use Rattle.std.proofs.Common.{◌≡◌, ◌+◌, ◌-◌, ◌<◌, [], ◌∷◌, ◌++◌, ◌∙◌, length, sym, ap, subst, arith}
use Rattle.fork_board.specs.Passes.{PassValue}
use Rattle.page_claims.specs.Calls.{fresh}
use Rattle.page_claims.specs.Values.{PassValue as ClaimValue}
use Rattle.board_worker.specs.Claiming.{share}
use Rattle.host_workers.specs.declared.state.State.TheVariants.{Due}
use Rattle.host_workers.proofs.States.{are-dealt, are-due, none-dealt, one-dealt}
use Rattle.host_workers.proofs.hosts.deal.Goals as goal

pub loop-number-init : goal.loop-number-init
loop-number-init c = record {
  dealt = none-dealt c.args.board.now c.args.claims.now c.args.pass c.new-states.result.items c.new-states.ensures c.requires.none;
  many = sym (ap length c.new-states.ensures);
  claiming = let none : c.args.claiming.parts ≡ c.args.claiming.parts - 0 = omega arith in ap (λ n. record c.args.claiming { parts = n }) none;
}

pub split-rest-requires-clause-board : goal.split-rest-requires-clause-board
split-rest-requires-clause-board c = ap (λ (p : PassValue). p.board) c.loop-number.invariant.dealt.left ∙ c.requires.board

pub split-rest-requires-clause-parts : goal.split-rest-requires-clause-parts
split-rest-requires-clause-parts c =
    subst (λ (p : PassValue). length p.number < 3) (sym c.loop-number.invariant.dealt.left) c.requires.parts

pub split-rest-requires-clause-splits : goal.split-rest-requires-clause-splits
split-rest-requires-clause-splits c =
    omega (arith, ap (λ (p : PassValue). p.splits) c.loop-number.invariant.dealt.left, c.loop-number.invariant.many, c.loop-number-test.true, c.requires.splits)

pub split-left-requires-clause-here : goal.split-left-requires-clause-here
split-left-requires-clause-here c = ap (λ (p : ClaimValue). p.table) c.loop-number.invariant.claiming ∙ c.requires.claims

pub split-left-requires-clause-parts : goal.split-left-requires-clause-parts
split-left-requires-clause-parts c =
    omega (arith, ap (λ (p : ClaimValue). p.parts) c.loop-number.invariant.claiming, c.loop-number-test.true, c.requires.shares)

pub push-requires : goal.push-requires
push-requires c = (omega arith, omega (arith, c.loop-number.invariant.many, c.loop-number-test.true, c.requires.count))

pub loop-number-preserved : goal.loop-number-preserved
loop-number-preserved c =
    let was = c.loop-number.invariant.claiming in
    let new : c.split-left.result.1 ≡ share c.args.claims.now = c.split-left.ensures.new ∙ ap (λ t. fresh t 1) (ap (λ (p : ClaimValue). p.table) was ∙ c.requires.claims) in
    let one : c.args.claiming.parts - c.loop-number.number - 1 ≡ c.args.claiming.parts - (c.loop-number.number + 1) = omega arith in
    record {
      dealt =
          one-dealt c.args.board.now c.args.claims.now c.args.pass c.loop-number.pass c.split-rest.result.0 c.split-rest.result.1 c.loop-number.states.items c.push.new.self.items
          c.loop-number.number c.requires.board c.loop-number.invariant.dealt c.loop-number.invariant.many c.split-rest.ensures.old c.split-rest.ensures.new
          c.split-rest.ensures.none (c.push.ensures.items ∙ ap (λ s. c.loop-number.states.items ++ Due c.loop-number.number c.split-rest.result.1 s ∷ []) new);
      many = omega (arith, c.loop-number.invariant.many, c.push.ensures.len);
      claiming =
          c.split-left.ensures.old ∙ ap (λ (p : ClaimValue). record p { parts = p.parts - 1 }) was ∙ ap (λ n. record c.args.claiming { parts = n }) one;
    }

pub split-left-requires-2-clause-here : goal.split-left-requires-2-clause-here
split-left-requires-2-clause-here c = ap (λ (p : ClaimValue). p.table) c.loop-number.invariant.claiming ∙ c.requires.claims

pub split-left-requires-2-clause-parts : goal.split-left-requires-2-clause-parts
split-left-requires-2-clause-parts c =
    omega (arith, ap (λ (p : ClaimValue). p.parts) c.loop-number.invariant.claiming, c.loop-number.auto.number-end, c.requires.shares, c.requires.count)

pub push-requires-2 : goal.push-requires-2
push-requires-2 c = (omega arith, omega (arith, c.loop-number.invariant.many, c.loop-number.auto.number-end, c.requires.count))

pub returns-clause-states : goal.returns-clause-states
returns-clause-states c = λ k count.
    let new : c.split-left-2.result.1 ≡ share c.args.claims.now = c.split-left-2.ensures.new ∙ ap (λ t. fresh t 1)
    (ap (λ (p : ClaimValue). p.table) c.loop-number.invariant.claiming ∙ c.requires.claims) in
    let items = c.push-2.ensures.items ∙ ap (λ s. c.loop-number.states.items ++ Due (c.args.count - 1) c.loop-number.pass s ∷ []) new in
    are-dealt c.args.board.now c.args.claims.now c.args.pass c.loop-number.pass c.loop-number.states.items c.push-2.new.self.items _ c.requires.board
    c.loop-number.invariant.dealt (omega arith) items
    k (omega (arith, count))

pub returns-clause-due : goal.returns-clause-due
returns-clause-due c =
    let new : c.split-left-2.result.1 ≡ share c.args.claims.now = c.split-left-2.ensures.new ∙ ap (λ t. fresh t 1)
    (ap (λ (p : ClaimValue). p.table) c.loop-number.invariant.claiming ∙ c.requires.claims) in
    let items = c.push-2.ensures.items ∙ ap (λ s. c.loop-number.states.items ++ Due (c.args.count - 1) c.loop-number.pass s ∷ []) new in
    are-due c.args.board.now c.args.claims.now c.args.pass c.loop-number.pass c.loop-number.states.items c.push-2.new.self.items _ c.requires.board
    c.loop-number.invariant.dealt (omega arith) items

pub returns-clause-len : goal.returns-clause-len
returns-clause-len c =
    omega (arith, c.push-2.ensures.len, c.loop-number.invariant.many, c.loop-number.auto.number-end, c.loop-number-test.false, c.requires.count)

pub returns-clause-left : goal.returns-clause-left
returns-clause-left c =
    let all : c.args.claiming.parts - c.loop-number.number - 1 ≡ c.args.claiming.parts - c.args.count =
    omega (arith, c.loop-number.auto.number-end, c.loop-number-test.false, c.requires.count) in
    c.split-left-2.ensures.old ∙ ap (λ (p : ClaimValue). record p { parts = p.parts - 1 }) c.loop-number.invariant.claiming ∙ ap (λ n. record c.args.claiming { parts = n }) all
