use Rattle.std.proofs.Common.{◌≡◌, ap, ◌∙◌, subst, sym, map}
use Rattle.wire_fates.specs.declared.fate.Fate.{Fate}
use Rattle.host_fetch.specs.Asked.{reply_in}
use Rattle.host_fetch.specs.Fetch.{waiting_after}
use Rattle.host_fetch.proofs.Asking.{map-remove}
use Rattle.host_fetch.proofs.deliver.deliver.Goals as goal

pub returns-in-Give-clause-waiting : goal.returns-in-Give-clause-waiting
returns-in-Give-clause-waiting g c =
    subst (λ (fate : Fate). map reply_in c.remove-given.new.self.items ≡ waiting_after fate (map reply_in c.args.waiting.now.items)) (sym c.in-Give.is)
    (ap (map reply_in) c.remove-given.ensures.items ∙ map-remove reply_in c.args.waiting.now.items c.in-Give.place)

pub returns-in-Lose-clause-waiting : goal.returns-in-Lose-clause-waiting
returns-in-Lose-clause-waiting g c =
    subst (λ (fate : Fate). map reply_in c.remove.new.self.items ≡ waiting_after fate (map reply_in c.args.waiting.now.items)) (sym c.in-Lose.is)
    (ap (map reply_in) c.remove.ensures.items ∙ map-remove reply_in c.args.waiting.now.items c.in-Lose.place)
