use Rattle.vm_cell.specs.Keyed.{paged}
use Rattle.drive_script.proofs.Started.{one, started}
use Rattle.machine_tests.proofs.world_core_tests.started.Goals as goal

pub returns : goal.returns
returns g c = (one (paged c.booted-vm.result), started c.args.depot.now c.in_ok-world.world (paged c.booted-vm.result) c.in_ok-world.ensures.stands)
