use Rattle.world_core.proofs.Images.{none}
use Rattle.std.proofs.Common.{◌≡◌, [], Some, ap}
use Rattle.std.specs.BTreeMap.{is_at}
use Rattle.std.specs.Map.{lookup}
use Rattle.machine_names.specs.NameOrder.{path_cmp}
use Rattle.run_report.specs.Report.{Ended}
use Rattle.world_core.proofs.Beginning.{end-stands}
use Rattle.world_core.proofs.world.World.of_ended.Goals as goal
use Rattle.vm_cell.specs.Keyed.{paged}

pub returns-clause-stands : goal.returns-clause-stands
returns-clause-stands c = λ depot.
    let vm = paged c.args.vm in
    let named : Ended = record { name = []; ending = Some c.args.ending; steps = vm.machine.steps; output = vm.machine.state.ports.console.output; log = [] } in
    let outcome : c.new-5.result ≡ named = cc (c.new-5.ensures, c.in_ok-root.ensures, c.steps-steps.ensures, c.into_output-output.ensures, c.new-log.ensures.items) in
    end-stands depot vm c.args.ending c.new-5.result c.new-3.result c.new-4.result c.new-told.result c.in_ok-leases.leases c.requires.ended c.requires.no_ticket c.requires.no_siblings c.requires.good
    (λ name. ap (lookup (is_at (path_cmp name))) c.new-3.ensures.empty) outcome

pub returns-clause-images : goal.returns-clause-images
returns-clause-images c images = none images c.new-3.result (λ name. ap (lookup (is_at (path_cmp name))) c.new-3.ensures.empty)
