-- Instructions that compute a value for rd. RISC-V Unprivileged ISA 20191213, section 2.4 and chapter 7
use Rattle.std.specs.Prelude.{◌+◌, ◌%◌, ◌^◌}
use Rattle.rv_decode.specs.Instruction.{Instruction}
use Rattle.rv_exec.specs.Compute.{alu}
use Rattle.forest_model.specs.State.{State}
use Rattle.forest_model.specs.Action.{Action, retire_next, with_rd, rs1, rs2, immediate}

-- LUI and AUIPC
unfoldable pub load_upper : Instruction → State → Action
load_upper i s = retire_next (with_rd i (immediate i) s)

unfoldable pub add_upper : Instruction → State → Action
add_upper i s = retire_next (with_rd i ((s.pc + immediate i) % 2 ^ 32) s)

unfoldable pub compute_immediate : Instruction → State → Action
compute_immediate i s = retire_next (with_rd i (alu i.kind (rs1 i s) (immediate i)) s)

unfoldable pub compute : Instruction → State → Action
compute i s = retire_next (with_rd i (alu i.kind (rs1 i s) (rs2 i s)) s)
