use Rattle.host_fetch.proofs.Asking.{given_here}
use Rattle.host_fetch.proofs.deliver.give.Goals as goal

pub returns-clause-here : goal.returns-clause-here
returns-clause-here g c =
    given_here _ _ _ c.args.parcel.now _ c.requires.of_image c.in_ok-arrive.ensures.arrives
