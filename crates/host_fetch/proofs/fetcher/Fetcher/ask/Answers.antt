use Rattle.std.proofs.Common.{refl, subst, inr}
use Rattle.page_claims.specs.Calls.{Answers}
use Rattle.host_fetch.proofs.Asking.{err-any, err-with}
use Rattle.host_fetch.proofs.fetcher.Fetcher.ask.Goals as goal

pub returns-in-First-clause-err : goal.returns-in-First-clause-err
returns-in-First-clause-err g c =
    let answers = subst (λ n. Answers c.args.self.now.claims.now n c.args.page c.args.claiming c.claim-claiming.result.0 c.claim-claiming.result.1) c.number.ensures
    c.claim-claiming.ensures.answered.answers in
    err-with c.keep.result (λ same. record { sent = same; pass = inr (c.claim-claiming.result.1, answers) }) c.keep.ensures.err

pub returns-in-Repeat-clause-err : goal.returns-in-Repeat-clause-err
returns-in-Repeat-clause-err g c =
    let answers = subst (λ n. Answers c.args.self.now.claims.now n c.args.page c.args.claiming c.claim-claiming.result.0 c.claim-claiming.result.1) c.number.ensures
    c.claim-claiming.ensures.answered.answers in
    err-any c.hold.result (record { sent = refl; pass = inr (c.claim-claiming.result.1, answers) })

pub returns-in-Outside-clause-err : goal.returns-in-Outside-clause-err
returns-in-Outside-clause-err g c =
    let answers = subst (λ n. Answers c.args.self.now.claims.now n c.args.page c.args.claiming c.claim-claiming.result.0 c.claim-claiming.result.1) c.number.ensures
    c.claim-claiming.ensures.answered.answers in
    err-any c.hold-in-Outside.result (record { sent = refl; pass = inr (c.claim-claiming.result.1, answers) })
