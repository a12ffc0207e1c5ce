use Rattle.std.proofs.Common.{◌≡◌, subst}
use Rattle.forest_model.specs.Machine.{after_steps}
use Rattle.world_core.specs.Lent.{HasLed, Lent}
use Rattle.world_core.proofs.Arriving.{still-led}
use Rattle.world_core.proofs.lease.Lease.ran.Goals as goal

pub returns-clause-after : goal.returns-clause-after
returns-clause-after c = subst (λ (l : Lent). l.now ≡ after_steps l.ran l.start) c.self.view_is c.self.invariant.made.after

pub returns-clause-led : goal.returns-clause-led
returns-clause-led c = subst HasLed c.self.view_is c.self.invariant.led

pub returns-clause-handed : goal.returns-clause-handed
returns-clause-handed c depot w f stands since = still-led depot w f c.args.self.now (subst HasLed c.self.view_is c.self.invariant.led) stands since
