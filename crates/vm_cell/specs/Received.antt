-- A machine that pages are sent to.
use Rattle.std.specs.Prelude.{[]}
use Rattle.vm_hart.specs.Keyed.{KeyedMachine}

-- all of a machine but which of its pages are here
abbrev pub without_here : KeyedMachine → KeyedMachine
without_here v = record v { pages = record v.pages { here = [] } }
