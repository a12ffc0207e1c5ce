use Rattle.std.proofs.Common.{[], ◌∷◌, map, take, get_or, refl, sym, ap, ◌∙◌, subst, arith, inl, inr}
use Rattle.std.proofs.lemmas.List.{take_all, take_more}
use Rattle.host_fetch.specs.Asked.{AreAsked, reply_in, reply_with}
use Rattle.host_fetch.proofs.Asking.{asked_more, asked_one, due_next, err-of, ok-on, same_asked, same_more, waits_more}
use Rattle.host_fetch.proofs.fetcher.Fetcher.ask_first.Goals as goal

pub returns-in_default-clause-err : goal.returns-in_default-clause-err
returns-in_default-clause-err g c = (0, record { middle = _; asked = refl; last = inl refl })

pub loop-page-init : goal.loop-page-init
loop-page-init g c = record { waiting = ap (map reply_in) c.in-Ok.ensures.items; asked = refl }

pub ask-after-requires-clause-claims : goal.ask-after-requires-clause-claims
ask-after-requires-clause-claims g c = (same_asked _ _ _ _ _ _ c.loop-page.invariant.asked).table ∙ c.requires.claims

pub returns-in_default-asked-clause-err : goal.returns-in_default-asked-clause-err
returns-in_default-asked-clause-err g c = (
  c.loop-page.page-index,
  record { middle = _; asked = c.loop-page.invariant.asked; last = inr (get_or c.args.pages.now c.loop-page.page-index 0, due_next c.args.pages.now c.loop-page.page-index c.loop-page-test.true, err-of c.ask-after.result.1 _ c.in_default-asked.is c.ask-after.ensures.err) },
)

pub returns-in_default-asked-clause-same : goal.returns-in_default-asked-clause-same
returns-in_default-asked-clause-same g c = same_more _ _ _ (same_asked _ _ _ _ _ _ c.loop-page.invariant.asked) c.ask-after.ensures.same

pub loop-page-preserved : goal.loop-page-preserved
loop-page-preserved g c =
    let pages = c.args.pages.now in
    let i = c.loop-page.page-index in
    let key = c.args.key.now in
    let page = get_or pages i 0 in
    let more = take_more pages i 0 c.loop-page-test.true in
    record {
      waiting = waits_more key (take i pages) page _ _ (ok-on c.ask-after.result.1 _ c.in-Ok-asked.is c.ask-after.ensures.waiting) c.loop-page.invariant.waiting ∙ ap (map (reply_with key)) (sym more);
      asked = subst (λ l. AreAsked c.args.self.now.depot.now c.args.self.now.claims.now key l (record { sent = c.args.pushed.now.items; pass = c.args.claiming })
          (record { sent = c.ask-after.new.pushed.items; pass = c.ask-after.result.0 })) (sym more)
          (asked_more _ _ key (take i pages) (page ∷ []) _ _ _ c.loop-page.invariant.asked (asked_one _ _ key page _ _ (ok-on c.ask-after.result.1 _ c.in-Ok-asked.is c.ask-after.ensures.asked)));
    }

pub returns-clause-waiting : goal.returns-clause-waiting
returns-clause-waiting g c =
    c.loop-page.invariant.waiting ∙ ap (map (reply_with c.args.key.now)) (take_all c.loop-page.page-index c.args.pages.now (omega (arith, c.loop-page-test.false)))

pub returns-clause-asked : goal.returns-clause-asked
returns-clause-asked g c =
    subst (λ l. AreAsked c.args.self.now.depot.now c.args.self.now.claims.now c.args.key.now l
    (record { sent = c.args.pushed.now.items; pass = c.args.claiming }) (record { sent = c.loop-page.pushed.items; pass = c.loop-page.claiming }))
    (take_all c.loop-page.page-index c.args.pages.now (omega (arith, c.loop-page-test.false))) c.loop-page.invariant.asked

pub returns-clause-same : goal.returns-clause-same
returns-clause-same g c = same_asked _ _ _ _ _ _ c.loop-page.invariant.asked
