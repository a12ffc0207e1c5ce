use Rattle.std.proofs.Common.{◌<◌, ◌^◌, ℕ, Option, Some, None, IfSome, arith}
use Rattle.block_port.specs.Block.{status_word}
use Rattle.block_port.specs.declared.status.Status.{Status}
use Rattle.block_port.specs.declared.status.Status.TheVariants.{Done, BadSector, UnknownCommand}
use Rattle.vm_descriptor.specs.Fields.{Field, number, row, reserved_of, address_of}
use Rattle.vm_descriptor.specs.Fields.{Image, Pages, CloneId, Share, Pc, Mstatus, Mie, Mtvec, Mscratch, Mepc, Mcause, Mtval, Mcycle, Minstret, Mtime, Mtimecmp}
use Rattle.vm_descriptor.specs.Fields.{Steps, Limit, Reserved, Reservation, Place, LineControl, Sector, BlockStatus, Argument0, Argument1, JoinSelect, Granted}
use Rattle.rv_traps.specs.Registers.{interrupt_enable, modifies_privilege, previous_interrupt_enable, previous_mode}
use Rattle.vm_descriptor.proofs.Modes.{mstatus_small, word_fits}
use Rattle.vm_descriptor.proofs.descriptor.Descriptor.fits.Goals as goal

reserved_fits : (r : Option ℕ) → reserved_of r < 2 ^ 32
reserved_fits None = omega arith
reserved_fits (Some address) = omega arith

address_fits : (r : Option ℕ) → IfSome r (λ address. address < 2 ^ 32) → address_of r < 2 ^ 32
address_fits None fits = omega arith
address_fits (Some address) fits = fits

status_fits : (s : Status) → status_word s < 2 ^ 32
status_fits Done = omega arith
status_fits BadSector = omega arith
status_fits UnknownCommand = omega arith

pub returns : goal.returns
returns c =
    let d = c.args.self.now in
    let small = mstatus_small d.csrs.mstatus (interrupt_enable d.csrs) (previous_interrupt_enable d.csrs) (previous_mode d.csrs) (modifies_privilege d.csrs) c.requires.csrs.mstatus in
    let line_control = c.console_fits.ensures.line_control in
    let numbers = λ (f : Field). elim f as (λ f. number d f < 256 ^ (row f).width) [
      | Image ↦ c.numbers_fit.ensures.image
      | Pages ↦ c.numbers_fit.ensures.pages
      | CloneId ↦ c.numbers_fit.ensures.clone_id
      | Share ↦ c.numbers_fit.ensures.share
      | Pc ↦ c.numbers_fit.ensures.pc
      | Mstatus ↦ word_fits d.csrs.mode d.csrs.mstatus small
      | Mie ↦ c.csrs_fit.ensures.mie
      | Mtvec ↦ c.csrs_fit.ensures.mtvec
      | Mscratch ↦ c.csrs_fit.ensures.mscratch
      | Mepc ↦ c.csrs_fit.ensures.mepc
      | Mcause ↦ c.csrs_fit.ensures.mcause
      | Mtval ↦ c.csrs_fit.ensures.mtval
      | Mcycle ↦ c.counters_fit.ensures.mcycle
      | Minstret ↦ c.counters_fit.ensures.minstret
      | Mtime ↦ c.timer_fits.ensures.mtime
      | Mtimecmp ↦ c.timer_fits.ensures.mtimecmp
      | Steps ↦ c.counts_fit.ensures.steps
      | Limit ↦ c.counts_fit.ensures.limit
      | Reserved ↦ reserved_fits d.reservation
      | Reservation ↦ address_fits d.reservation c.reservation_fits.ensures
      | Place ↦ c.console_fits.ensures.place
      | LineControl ↦ omega (arith, line_control)
      | Sector ↦ c.block_fits.ensures.sector
      | BlockStatus ↦ status_fits d.block.status
      | Argument0 ↦ c.arguments_fit.ensures.argument_0
      | Argument1 ↦ c.arguments_fit.ensures.argument_1
      | JoinSelect ↦ c.arguments_fit.ensures.join_select
      | Granted ↦ c.arguments_fit.ensures.granted
    ] in
    record {
      numbers = numbers;
      mstatus = small;
      line_control = line_control;
      registers = c.registers_fit.ensures.words;
      each = c.registers_fit.ensures.each;
      buffer = c.block_fits.ensures.buffer;
      configurations = c.entries_fit.ensures.configurations;
      addresses = c.entries_fit.ensures.addresses;
      words = c.entries_fit.ensures.words;
      map = c.requires.ram.one_bit_a_page;
      runs = let most = c.requires.ram.most in omega (arith, most);
    }
