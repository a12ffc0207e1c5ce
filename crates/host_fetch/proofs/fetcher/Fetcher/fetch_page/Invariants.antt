use Rattle.std.proofs.Common.{◌+◌, ◌-◌, ◌*◌, length}
use Rattle.image_depot.specs.Key.{image_of}
use Rattle.host_fetch.specs.Asked.{end_of_kind, first_asked, reply_in}
use Rattle.host_fetch.proofs.Loop.{Stands}
use Rattle.host_fetch.proofs.fetcher.Fetcher.fetch_page.Given as goal

abbrev pub invariant-loop-claiming : goal.invariant-loop-claiming
invariant-loop-claiming g l = Stands g.T.Receiver.here g.T.Receiver.key g.T.Receiver.rest g.W.Wire.tells g.W.Wire.streak g.W.Wire.seeds reply_in
    l.self.depot.now l.self.claims.now l.wanted.key l.wanted.page (first_asked (g.T.Receiver.here l.fn.receiver) l.wanted.page (end_of_kind (image_of l.wanted.key) l.wanted.page) l.self.ahead)
    l.fn.receiver l.fn.wire (record { sent = l.fn.pushed.items; pass = l.fn.claiming }) l.receiver l.wire l.waiting.items (record { sent = l.pushed.items; pass = l.claiming })

-- a given reply waits no more; before it there are at most 64 other fates, each of which makes the streak longer
abbrev pub decreases-loop-claiming : goal.decreases-loop-claiming
decreases-loop-claiming g l = 65 * length l.waiting.items + (64 - g.W.Wire.streak l.wire)
