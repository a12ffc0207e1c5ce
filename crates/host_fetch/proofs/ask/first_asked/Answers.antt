use Rattle.std.proofs.Common.{◌≡◌, ◌+◌, ◌-◌, ◌<◌, [], ◌∷◌, ◌++◌, length, take, sym, ap, ◌∙◌, subst, arith, length-append}
use Rattle.std.specs.List.{All}
use Rattle.std.proofs.lemmas.List.Elements.{All-push}
use Rattle.host_fetch.specs.Asked.{absent_among, first_asked}
use Rattle.host_fetch.proofs.Asking.{found_absent, found_all, found_here, found_most}
use Rattle.host_fetch.proofs.ask.first_asked.Goals as goal

pub loop-next-preserved-then-is_here : goal.loop-next-preserved-then-is_here
loop-next-preserved-then-is_here g c = record {
  there = c.loop-next.invariant.there;
  most = c.loop-next.invariant.most;
  is = found_here _ c.loop-next.next c.args.end _ c.loop-next.asked.items _ c.loop-next-test.true (sym c.is_here.ensures ∙ c.if-is_here.true) c.loop-next.invariant.is;
}

pub loop-next-preserved : goal.loop-next-preserved
loop-next-preserved g c =
    let here = g.T.Receiver.here c.args.receiver.now in
    let next = c.loop-next.next in
    let end = c.args.end in
    let items = c.in_ok-push-2.ensures.items in
    let room : length c.loop-next.asked.items < c.args.ahead + 1 = omega (arith, c.if-len-ahead.false, c.len.ensures, c.loop-next.asked.ok.0) in
    record {
      there = subst (All (λ each. each < length here)) (sym items)
          (All-push (λ each. each < length here) c.loop-next.asked.items next c.loop-next.invariant.there (omega (arith, c.loop-next-test.true, c.requires.pages)));
      most = omega (arith, room, ap length items, length-append c.loop-next.asked.items (next ∷ []));
      is = subst (λ l. l ++ take (c.args.ahead + 1 - length l) (absent_among here (next + 1) (end - (next + 1))) ≡ first_asked here c.args.page c.args.end c.args.ahead) (sym items)
          (found_absent here next end (c.args.ahead + 1) c.loop-next.asked.items _ c.loop-next-test.true (sym c.is_here.ensures ∙ c.if-is_here.false) room c.loop-next.invariant.is);
    }

pub returns-then-len-ahead-clause-value : goal.returns-then-len-ahead-clause-value
returns-then-len-ahead-clause-value g c =
    let here = g.T.Receiver.here c.args.receiver.now in
    let next = c.loop-next.next in
    found_most c.loop-next.asked.items (absent_among here next (c.args.end - next)) (first_asked here c.args.page c.args.end c.args.ahead) (c.args.ahead + 1)
    (omega (arith, c.if-len-ahead.true, c.len.ensures, c.loop-next.asked.ok.0)) c.loop-next.invariant.is

pub returns-then-len-ahead-clause-there : goal.returns-then-len-ahead-clause-there
returns-then-len-ahead-clause-there g c = c.loop-next.invariant.there

pub returns-clause-value : goal.returns-clause-value
returns-clause-value g c =
    let here = g.T.Receiver.here c.args.receiver.now in
    let found = c.loop-next.asked.items in
    found_all here c.loop-next.next c.args.end (c.args.ahead + 1 - length found) found (first_asked here c.args.page c.args.end c.args.ahead) c.loop-next-test.false c.loop-next.invariant.is

pub returns-clause-there : goal.returns-clause-there
returns-clause-there g c = c.loop-next.invariant.there
