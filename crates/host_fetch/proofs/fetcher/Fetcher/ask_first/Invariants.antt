use Rattle.std.proofs.Common.{◌≡◌, map, take}
use Rattle.host_fetch.specs.Asked.{AreAsked, reply_in, reply_with}
use Rattle.host_fetch.proofs.fetcher.Fetcher.ask_first.Given as goal

abbrev pub invariant-loop-page : goal.invariant-loop-page
invariant-loop-page g l = record {
  waiting : map reply_in l.waiting.items ≡ map (reply_with l.key) (take l.page-index l.pages);
  asked : AreAsked l.self.depot.now l.self.claims.now l.key (take l.page-index l.pages)
      (record { sent = l.initial.pushed.items; pass = l.initial.claiming }) (record { sent = l.pushed.items; pass = l.claiming });
}
