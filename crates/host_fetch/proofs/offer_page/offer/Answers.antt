use Rattle.std.proofs.Common.{ap}
use Rattle.host_fetch.proofs.Hearing.{arrived-grows}
use Rattle.host_fetch.proofs.Loop.{Grows-same, grows_none}
use Rattle.host_fetch.proofs.offer_page.offer.Goals as goal

pub returns-in_err-arrive-clause-grows : goal.returns-in_err-arrive-clause-grows
returns-in_err-arrive-clause-grows g c = Grows-same _ _ _ (grows_none _) (ap g.T.Receiver.here c.in_err-arrive.ensures.err)

pub returns-clause-grows : goal.returns-clause-grows
returns-clause-grows g c = arrived-grows _ _ _ _ _ c.in_ok-arrive.ensures.arrives
