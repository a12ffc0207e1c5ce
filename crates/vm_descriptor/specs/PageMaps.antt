-- The flags that a map of pages holds.
use Rattle.std.specs.Prelude.{Bool, false, List}
use Rattle.shared_leaves.specs.Choices.{flags_of_runs}
use Rattle.vm_descriptor.specs.declared.page_map.MapForm.{MapForm}
use Rattle.vm_descriptor.specs.declared.page_map.MapForm.TheVariants.{Flags, Runs, Table}

abbrev pub held : MapForm → List Bool
held (Flags flags) = flags.items
held (Runs lengths) = flags_of_runs false lengths.items
held (Table flags) = flags
