use Rattle.std.proofs.Common.{refl}
use Rattle.image_depot.specs.Key.{image_of}
use Rattle.host_fetch.specs.Asked.{end_of_kind, first_asked}
use Rattle.host_fetch.proofs.Asking.{fetched_kept}
use Rattle.host_fetch.proofs.Failing.{finishes_wire}
use Rattle.host_fetch.proofs.Firsts.{fetched-firsts, firsts-none}
use Rattle.host_fetch.proofs.Loop.{none_asked}
use Rattle.host_fetch.proofs.fetcher.Fetcher.fetch.Goals as goal

pub returns-in_default-again-clause-fetches : goal.returns-in_default-again-clause-fetches
returns-in_default-again-clause-fetches g c = λ page wanted key known.
    none_asked _ _ page c.args.self.now.depot.now c.args.self.now.claims.now key _ _
    (first_asked (g.T.Receiver.here c.args.receiver.now) page (end_of_kind (image_of key) page) c.args.self.now.ahead) _

pub returns-clause-wire : goal.returns-clause-wire
returns-clause-wire g c = finishes_wire _ _ _ _ _ _ _ _ c.fetch_page.result.1 c.fetch_page.ensures.fetches.2

pub returns-clause-kept : goal.returns-clause-kept
returns-clause-kept g c = λ kept. fetched_kept _ _ _ _ c.fetch_page.result.1 _ _ _ c.fetch_page.ensures.fetches.1 kept

pub returns-clause-firsts : goal.returns-clause-firsts
returns-clause-firsts g c = fetched-firsts _ _ _ _ c.fetch_page.result.1 _ _ _ c.fetch_page.ensures.fetches.1

pub returns-in_default-clause-firsts : goal.returns-in_default-clause-firsts
returns-in_default-clause-firsts g c = firsts-none _ _ _ _ refl

pub returns-in_default-again-clause-firsts : goal.returns-in_default-again-clause-firsts
returns-in_default-again-clause-firsts g c = firsts-none _ _ _ _ refl
