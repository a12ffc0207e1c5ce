-- How a machine came to its end, by the values of the code.
use Rattle.std.specs.Prelude.{◌≡◌, ℕ, List, [], Option, Some, None}
use Rattle.fork_port.specs.declared.ending.Ending.{Ending}
use Rattle.fork_port.specs.declared.ending.Ending.TheVariants as endings
use Rattle.fork_port.specs.Handed.{handed_of}
use Rattle.run_report.specs.declared.machine_end.MachineEnd.{MachineEnd}
use Rattle.run_report.specs.declared.machine_end.MachineEnd.TheVariants.{Stuck, Value, Limit, Full}

-- how it ended, or none where it is stuck
abbrev pub ending_in : MachineEnd → Option Ending
ending_in (Stuck steps) = None
ending_in (Value value steps) = Some (endings.Exit value (handed_of []))
ending_in (Limit steps) = Some endings.Limit
ending_in (Full full) = full.value.ending

-- the steps that it made
abbrev pub steps_in : MachineEnd → ℕ
steps_in (Stuck steps) = steps
steps_in (Value value steps) = steps
steps_in (Limit steps) = steps
steps_in (Full full) = full.value.steps

-- what it put out
abbrev pub output_in : MachineEnd → List ℕ
output_in (Stuck steps) = []
output_in (Value value steps) = []
output_in (Limit steps) = []
output_in (Full full) = full.value.output.items

-- both tell the same of a machine
abbrev pub IsSameEnd : MachineEnd → MachineEnd → Type 0
IsSameEnd e f = (ending_in f ≡ ending_in e) × (steps_in f ≡ steps_in e) × (output_in f ≡ output_in e)
