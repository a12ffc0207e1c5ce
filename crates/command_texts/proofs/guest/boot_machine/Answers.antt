use Rattle.std.proofs.Common.{[], ap, ◌∙◌}
use Rattle.vm_cell.specs.Keyed.{KeyedMachine}
use Rattle.cow_disk.specs.Paged.{disk_over}
use Rattle.forest_model.specs.Forest.{port_of}
use Rattle.command_texts.proofs.Booted.{boot-alone, boot-ticketless}
use Rattle.command_texts.proofs.guest.boot_machine.Goals as goal

pub new-requires : goal.new-requires
new-requires c = record {
  no_ticket =
      ap (λ (v : KeyedMachine). (port_of v.machine).tickets) c.in_ok-vm.ensures ∙ boot-ticketless c.args.image.now (disk_over c.args.disk []) c.args.input.now c.args.options;
  no_siblings =
      ap (λ (v : KeyedMachine). v.machine.state.ports.sibling.siblings) c.in_ok-vm.ensures
      ∙ boot-alone c.args.image.now (disk_over c.args.disk []) c.args.input.now c.args.options;
  every_page = ap (λ (v : KeyedMachine). v.key) c.in_ok-vm.ensures;
}
