use Rattle.fork_board.proofs.Returning.{held-same}
use Rattle.machine_tests.proofs.siblings.leases.runs.Goals as goal

pub returns-clause-held : goal.returns-clause-held
returns-clause-held g c =
    let brought = c.brings_what_is_wanted in
    let ran = c.run in
    held-same c.args.pass.now brought.new.lease ran.new.self ran.ensures.same (held-same c.args.pass.now c.args.lease.now brought.new.lease brought.ensures c.requires.held)
