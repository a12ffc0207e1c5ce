use Rattle.std.proofs.Common.{◌≡◌, arith, refl, sym, ap, ◌∙◌, subst, map, inl, inr}
use Rattle.image_depot.specs.Key.{image_of}
use Rattle.host_fetch.specs.Asked.{AreAsked, end_of_kind, first_asked, reply_in, reply_with}
use Rattle.host_fetch.proofs.Asking.{err-of, ok-of, ok-on, same_asked, same_more}
use Rattle.host_fetch.proofs.Loop.{Grows-same, below_after, ended, grown_on, grows_none, is_absent, is_present, keys_of, less, none_asked, part_asked, some_wait, stands, stands_on, stops}
use Rattle.host_fetch.proofs.fetcher.Fetcher.fetch_page.Goals as goal

pub returns-in_default-clause-fetches : goal.returns-in_default-clause-fetches
returns-in_default-clause-fetches g c =
    none_asked _ _ _ c.args.self.now.depot.now c.args.self.now.claims.now c.args.wanted.now.key _ _
    (first_asked (g.T.Receiver.here c.args.receiver.now) c.args.wanted.now.page (end_of_kind (image_of c.args.wanted.now.key) c.args.wanted.now.page) c.args.self.now.ahead) _

pub returns-in_default-clause-grows : goal.returns-in_default-clause-grows
returns-in_default-clause-grows g c = grows_none _

pub returns-in_default-replies-clause-grows : goal.returns-in_default-replies-clause-grows
returns-in_default-replies-clause-grows g c = grows_none _

pub returns-in_default-replies-clause-fetches : goal.returns-in_default-replies-clause-fetches
returns-in_default-replies-clause-fetches g c =
    let e = err-of c.ask_first-claiming.result.1 _ c.in_default-replies.is c.ask_first-claiming.ensures.err in
    let same = c.deref.ensures.value ∙ c.in-Ok.ensures.value
    ∙ ap (λ end. first_asked (g.T.Receiver.here c.args.receiver.now) c.args.wanted.now.page end c.args.self.now.ahead)
    c.end_of_kind-end.ensures.value in
    part_asked _ _ _ c.args.self.now.depot.now c.args.self.now.claims.now c.args.wanted.now.key _ _ _ c.deref.result.now e.0 _ _ same e.1

pub loop-claiming-init : goal.loop-claiming-init
loop-claiming-init g c =
    let same = c.deref.ensures.value ∙ c.in-Ok.ensures.value
    ∙ ap (λ end. first_asked (g.T.Receiver.here c.args.receiver.now) c.args.wanted.now.page end c.args.self.now.ahead)
    c.end_of_kind-end.ensures.value in
    stands _ _ _ _ _ _ _ c.args.self.now.depot.now c.args.self.now.claims.now c.args.wanted.now.key c.args.wanted.now.page _ _ _ _ _ _ _ _ _ refl refl refl
    (ok-of (λ w. map reply_in w.items ≡ map (reply_with c.args.wanted.now.key) c.deref.result.now)
    c.ask_first-claiming.result.1 _ c.in-Ok-replies.is c.ask_first-claiming.ensures.waiting ∙ ap (map (reply_with c.args.wanted.now.key)) same)
    (subst (λ l. AreAsked c.args.self.now.depot.now c.args.self.now.claims.now c.args.wanted.now.key l
    (record { sent = c.args.pushed.now.items; pass = c.args.claiming }) (record { sent = c.ask_first-claiming.new.pushed.items; pass = c.ask_first-claiming.result.0 }))
    same (ok-on c.ask_first-claiming.result.1 _ c.in-Ok-replies.is c.ask_first-claiming.ensures.asked))
    c.requires.of_image c.requires.absent

pub deliver-requires-clause-of_image : goal.deliver-requires-clause-of_image
deliver-requires-clause-of_image g c = keys_of _ _ _ _ _ _ _ _ _ _ _ _ _ _ _ _ _ _ _ c.loop-claiming.invariant

pub returns-in_default-deliver-clause-fetches : goal.returns-in_default-deliver-clause-fetches
returns-in_default-deliver-clause-fetches g c =
    let s = c.loop-claiming.invariant in (
      s.f.asked,
      record { middle = _; asked = s.grown; last = inl refl },
      inr (inl (stops _ _ _ _ _ _ _ _ _ _ _ _ _ _ _ _ _ _ _ _ _ c.next-fate.result c.len.result s (c.len.ensures ∙ c.loop-claiming.waiting.ok.0)
          c.next-fate.ensures.tells c.in_default-deliver.ensures.err)),
    )

pub returns-in_default-deliver-clause-key : goal.returns-in_default-deliver-clause-key
returns-in_default-deliver-clause-key g c = c.deliver.ensures.key ∙ c.loop-claiming.invariant.key_is ∙ sym c.requires.of_image

pub returns-in_default-deliver-clause-seeds : goal.returns-in_default-deliver-clause-seeds
returns-in_default-deliver-clause-seeds g c = c.next-fate.ensures.keeps ∙ c.loop-claiming.invariant.seeds_is

pub returns-in_default-deliver-clause-rest : goal.returns-in_default-deliver-clause-rest
returns-in_default-deliver-clause-rest g c = c.deliver.ensures.rest ∙ c.loop-claiming.invariant.rest_is

pub returns-in_default-deliver-clause-grows : goal.returns-in_default-deliver-clause-grows
returns-in_default-deliver-clause-grows g c =
    Grows-same _ _ _ c.loop-claiming.invariant.grows (ap g.T.Receiver.here c.in_default-deliver.ensures.err)

pub returns-then-is_here-clause-fetches : goal.returns-then-is_here-clause-fetches
returns-then-is_here-clause-fetches g c =
    let s = c.loop-claiming.invariant in (
      s.f.asked,
      s.grown,
      (
        ended _ _ _ _ _ _ _ _ _ _ _ _ _ _ _ _ _ _ _ _ _ c.next-fate.result c.len.result s (c.len.ensures ∙ c.loop-claiming.waiting.ok.0) c.next-fate.ensures.tells c.in-Ok-deliver.ensures.here,
        is_present _ c.args.wanted.now.page (sym c.is_here.ensures ∙ c.if-is_here.true),
      ),
    )

pub returns-then-is_here-clause-key : goal.returns-then-is_here-clause-key
returns-then-is_here-clause-key g c = c.deliver.ensures.key ∙ c.loop-claiming.invariant.key_is ∙ sym c.requires.of_image

pub returns-then-is_here-clause-seeds : goal.returns-then-is_here-clause-seeds
returns-then-is_here-clause-seeds g c = c.next-fate.ensures.keeps ∙ c.loop-claiming.invariant.seeds_is

pub returns-then-is_here-clause-rest : goal.returns-then-is_here-clause-rest
returns-then-is_here-clause-rest g c = c.deliver.ensures.rest ∙ c.loop-claiming.invariant.rest_is

pub returns-then-is_here-clause-grows : goal.returns-then-is_here-clause-grows
returns-then-is_here-clause-grows g c =
    grown_on _ _ _ c.next-fate.result _ c.loop-claiming.invariant.grows c.in-Ok-deliver.ensures.here

pub returns-then-has_failed-clause-fetches : goal.returns-then-has_failed-clause-fetches
returns-then-has_failed-clause-fetches g c =
    let s = c.loop-claiming.invariant in (
      s.f.asked,
      s.grown,
      (
        ended _ _ _ _ _ _ _ _ _ _ _ _ _ _ _ _ _ _ _ _ _ c.next-fate.result c.len.result s (c.len.ensures ∙ c.loop-claiming.waiting.ok.0) c.next-fate.ensures.tells c.in-Ok-deliver.ensures.here,
        is_absent _ c.args.wanted.now.page (below_after _ _ _ _ _ _ _ _ _ _ _ _ _ _ _ _ _ _ _ _ _ s c.in-Ok-deliver.ensures.here) (sym c.is_here.ensures ∙ c.if-is_here.false),
        c.has_failed.ensures.yes c.if-has_failed.true,
      ),
    )

pub returns-then-has_failed-clause-key : goal.returns-then-has_failed-clause-key
returns-then-has_failed-clause-key g c = c.deliver.ensures.key ∙ c.loop-claiming.invariant.key_is ∙ sym c.requires.of_image

pub returns-then-has_failed-clause-seeds : goal.returns-then-has_failed-clause-seeds
returns-then-has_failed-clause-seeds g c = c.next-fate.ensures.keeps ∙ c.loop-claiming.invariant.seeds_is

pub returns-then-has_failed-clause-rest : goal.returns-then-has_failed-clause-rest
returns-then-has_failed-clause-rest g c = c.deliver.ensures.rest ∙ c.loop-claiming.invariant.rest_is

pub returns-then-has_failed-clause-grows : goal.returns-then-has_failed-clause-grows
returns-then-has_failed-clause-grows g c =
    grown_on _ _ _ c.next-fate.result _ c.loop-claiming.invariant.grows c.in-Ok-deliver.ensures.here

pub loop-claiming-smaller : goal.loop-claiming-smaller
loop-claiming-smaller g c =
    let s = c.loop-claiming.invariant in
    let absent = is_absent _ c.args.wanted.now.page (below_after _ _ _ _ _ _ _ _ _ _ _ _ _ _ _ _ _ _ _ _ _ s c.in-Ok-deliver.ensures.here) (sym c.is_here.ensures ∙ c.if-is_here.false) in
    less _ _ _ _ _ _ _ _ _ _ _ _ _ _ _ _ _ _ _ _ c.deliver.new.waiting.items _ _ c.next-fate.result c.len.result s (c.len.ensures ∙ c.loop-claiming.waiting.ok.0) c.next-fate.ensures.among
    c.in-Ok-deliver.ensures.here c.deliver.ensures.waiting absent c.next-fate.ensures.streak (c.has_failed.ensures.no c.if-has_failed.false)
    (ok-on c.ask_again-after.result.1 _ c.in-Ok-asked.is c.ask_again-after.ensures.waiting)

pub loop-claiming-preserved : goal.loop-claiming-preserved
loop-claiming-preserved g c =
    let s = c.loop-claiming.invariant in
    let absent = is_absent _ c.args.wanted.now.page (below_after _ _ _ _ _ _ _ _ _ _ _ _ _ _ _ _ _ _ _ _ _ s c.in-Ok-deliver.ensures.here) (sym c.is_here.ensures ∙ c.if-is_here.false) in
    stands_on _ _ _ _ _ _ _ _ _ _ _ _ _ _ _ _ _ _ _ _ c.deliver.new.waiting.items _ _ _ c.next-fate.result c.len.result s (c.len.ensures ∙ c.loop-claiming.waiting.ok.0) c.next-fate.ensures.tells
    c.in-Ok-deliver.ensures.here c.deliver.ensures.waiting c.next-fate.ensures.keeps c.deliver.ensures.key c.deliver.ensures.rest absent
    (c.has_failed.ensures.no c.if-has_failed.false) (ok-on c.ask_again-after.result.1 _ c.in-Ok-asked.is c.ask_again-after.ensures.waiting)
    (ok-on c.ask_again-after.result.1 _ c.in-Ok-asked.is c.ask_again-after.ensures.asked)

pub returns-in_default-asked-clause-fetches : goal.returns-in_default-asked-clause-fetches
returns-in_default-asked-clause-fetches g c =
    let s = c.loop-claiming.invariant in (
      s.f.asked,
      record { middle = _; asked = s.grown; last = inr (c.args.wanted.now.page, (0, omega arith, refl), err-of c.ask_again-after.result.1 _ c.in_default-asked.is c.ask_again-after.ensures.err) },
      inr (inr (
        ended _ _ _ _ _ _ _ _ _ _ _ _ _ _ _ _ _ _ _ _ _ c.next-fate.result c.len.result s (c.len.ensures ∙ c.loop-claiming.waiting.ok.0) c.next-fate.ensures.tells c.in-Ok-deliver.ensures.here,
        is_absent _ c.args.wanted.now.page (below_after _ _ _ _ _ _ _ _ _ _ _ _ _ _ _ _ _ _ _ _ _ s c.in-Ok-deliver.ensures.here) (sym c.is_here.ensures ∙ c.if-is_here.false),
        c.has_failed.ensures.no c.if-has_failed.false,
      )),
    )

pub returns-in_default-asked-clause-key : goal.returns-in_default-asked-clause-key
returns-in_default-asked-clause-key g c = c.deliver.ensures.key ∙ c.loop-claiming.invariant.key_is ∙ sym c.requires.of_image

pub returns-in_default-asked-clause-seeds : goal.returns-in_default-asked-clause-seeds
returns-in_default-asked-clause-seeds g c = c.next-fate.ensures.keeps ∙ c.loop-claiming.invariant.seeds_is

pub returns-in_default-asked-clause-rest : goal.returns-in_default-asked-clause-rest
returns-in_default-asked-clause-rest g c = c.deliver.ensures.rest ∙ c.loop-claiming.invariant.rest_is

pub returns-in_default-asked-clause-grows : goal.returns-in_default-asked-clause-grows
returns-in_default-asked-clause-grows g c =
    grown_on _ _ _ c.next-fate.result _ c.loop-claiming.invariant.grows c.in-Ok-deliver.ensures.here

pub ask_again-after-requires-clause-claims : goal.ask_again-after-requires-clause-claims
ask_again-after-requires-clause-claims g c = (same_asked _ _ _ _ _ _ c.loop-claiming.invariant.grown).table ∙ c.requires.claims

pub returns-in_default-replies-clause-same : goal.returns-in_default-replies-clause-same
returns-in_default-replies-clause-same g c = c.ask_first-claiming.ensures.same

pub returns-in_default-deliver-clause-same : goal.returns-in_default-deliver-clause-same
returns-in_default-deliver-clause-same g c = same_asked _ _ _ _ _ _ c.loop-claiming.invariant.grown

pub returns-then-is_here-clause-same : goal.returns-then-is_here-clause-same
returns-then-is_here-clause-same g c = same_asked _ _ _ _ _ _ c.loop-claiming.invariant.grown

pub returns-then-has_failed-clause-same : goal.returns-then-has_failed-clause-same
returns-then-has_failed-clause-same g c = same_asked _ _ _ _ _ _ c.loop-claiming.invariant.grown

pub returns-in_default-asked-clause-same : goal.returns-in_default-asked-clause-same
returns-in_default-asked-clause-same g c = same_more _ _ _ (same_asked _ _ _ _ _ _ c.loop-claiming.invariant.grown) c.ask_again-after.ensures.same

pub next-fate-requires : goal.next-fate-requires
next-fate-requires g c =
    omega (arith, c.len.ensures, c.loop-claiming.waiting.ok.0, some_wait _ _ _ _ _ _ _ _ _ _ _ _ _ _ _ _ _ _ _ c.loop-claiming.invariant)
