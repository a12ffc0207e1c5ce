use Rattle.machine_tests.proofs.guests.step.Goals as goal

pub returns : goal.returns
returns g c = c.step.ensures.key
