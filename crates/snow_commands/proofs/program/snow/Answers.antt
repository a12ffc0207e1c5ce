use Rattle.std.proofs.Common.{Err, ap, subst, ◌∙◌}
use Rattle.guest_files.specs.Parts.{IsFaultOf, loads_of}
use Rattle.command_line.specs.Commands.{meaning}
use Rattle.command_texts.specs.Lost.{IsLost}
use Rattle.command_texts.specs.Status.{IsFaultAsked, IsLoadAsked}
use Rattle.command_texts.specs.Seeded.{AreSeeded}
use Rattle.command_texts.proofs.Codes.{completed, ends-at-load, ends-fileless, means, reached}
use Rattle.command_texts.proofs.Seeding.{ends-before, ends-first, ends-read, ends-run}
use Rattle.snow_commands.proofs.program.snow.Goals as goal

pub returns-in-Ok-clause-complete : goal.returns-in-Ok-clause-complete
returns-in-Ok-clause-complete g c =
    rw c.new.ensures
    (completed (meaning c.in-Ok-Some.command) (λ m. IsLost m g.W.Wire.streak c.write_text.new.wires.items)
    (λ load. IsFaultOf (loads_of (meaning c.in-Ok-Some.command)) load (g.S.Shelf.asked c.args.shelf.now) (g.S.Shelf.asked c.write_text.new.shelf)) _ _ _ _ _
    c.in-Ok.is (means c.in-Ok-Some.field-0-is c.in-Ok-Some.ensures) c.write_text.ensures.writes)

pub returns-in-Ok-clause-fileless : goal.returns-in-Ok-clause-fileless
returns-in-Ok-clause-fileless g c =
    rw c.new.ensures
    (ends-fileless (meaning c.in-Ok-Some.command) c.in-Ok.is (means c.in-Ok-Some.field-0-is c.in-Ok-Some.ensures) c.write_text.ensures.fileless)

pub returns-in-Err-ReadFault-clause-load_asked : goal.returns-in-Err-ReadFault-clause-load_asked
returns-in-Err-ReadFault-clause-load_asked g c =
    let load = c.in-Err-ReadFault.load in
    rw c.new-in-Err-ReadFault.ensures
    (λ code. subst (λ m. IsLoadAsked m load) (means c.in-Ok-Some.field-0-is c.in-Ok-Some.ensures)
    (ends-at-load _ _ _ _ _ _ _ load (c.in-Err-ReadFault.is ∙ ap Err c.in-Err-ReadFault.field-0-is) c.write_text.ensures.writes).0.0)

pub returns-in-Err-ReadFault-clause-load_reached : goal.returns-in-Err-ReadFault-clause-load_reached
returns-in-Err-ReadFault-clause-load_reached g c =
    let load = c.in-Err-ReadFault.load in
    rw c.new-in-Err-ReadFault.ensures
    (λ code. reached (meaning c.in-Ok-Some.command) _ load (means c.in-Ok-Some.field-0-is c.in-Ok-Some.ensures)
    (ends-at-load _ _ _ _ _ _ _ load (c.in-Err-ReadFault.is ∙ ap Err c.in-Err-ReadFault.field-0-is) c.write_text.ensures.writes).1)

pub returns-in-Err-ReadFault-clause-load_fault : goal.returns-in-Err-ReadFault-clause-load_fault
returns-in-Err-ReadFault-clause-load_fault g c =
    let load = c.in-Err-ReadFault.load in
    rw c.new-in-Err-ReadFault.ensures
    (λ code. subst (λ m. IsFaultAsked m load (g.S.Shelf.asked c.args.shelf.now) (g.S.Shelf.asked c.write_text.new.shelf)) (means c.in-Ok-Some.field-0-is c.in-Ok-Some.ensures)
    (ends-at-load _ _ _ _ _ _ _ load (c.in-Err-ReadFault.is ∙ ap Err c.in-Err-ReadFault.field-0-is) c.write_text.ensures.writes).0.1.1)

pub returns-in-Err-ReadFault-clause-complete : goal.returns-in-Err-ReadFault-clause-complete
returns-in-Err-ReadFault-clause-complete g c =
    rw c.new-in-Err-ReadFault.ensures
    (completed (meaning c.in-Ok-Some.command) (λ m. IsLost m g.W.Wire.streak c.write_text.new.wires.items)
    (λ load. IsFaultOf (loads_of (meaning c.in-Ok-Some.command)) load (g.S.Shelf.asked c.args.shelf.now) (g.S.Shelf.asked c.write_text.new.shelf)) _ _ _ _ _
    (c.in-Err-ReadFault.is ∙ ap Err c.in-Err-ReadFault.field-0-is) (means c.in-Ok-Some.field-0-is c.in-Ok-Some.ensures) c.write_text.ensures.writes)

pub returns-in-Err-ReadFault-clause-fileless : goal.returns-in-Err-ReadFault-clause-fileless
returns-in-Err-ReadFault-clause-fileless g c =
    rw c.new-in-Err-ReadFault.ensures
    (ends-fileless (meaning c.in-Ok-Some.command) (c.in-Err-ReadFault.is ∙ ap Err c.in-Err-ReadFault.field-0-is) (means c.in-Ok-Some.field-0-is c.in-Ok-Some.ensures) c.write_text.ensures.fileless)

pub returns-in-Err-ImageRefused-clause-complete : goal.returns-in-Err-ImageRefused-clause-complete
returns-in-Err-ImageRefused-clause-complete g c =
    rw c.new-in-Err-ImageRefused.ensures
    (completed (meaning c.in-Ok-Some.command) (λ m. IsLost m g.W.Wire.streak c.write_text.new.wires.items)
    (λ load. IsFaultOf (loads_of (meaning c.in-Ok-Some.command)) load (g.S.Shelf.asked c.args.shelf.now) (g.S.Shelf.asked c.write_text.new.shelf)) _ _ _ _ _
    (c.in-Err-ImageRefused.is ∙ ap Err c.in-Err-ImageRefused.field-0-is) (means c.in-Ok-Some.field-0-is c.in-Ok-Some.ensures) c.write_text.ensures.writes)

pub returns-in-Err-ImageRefused-clause-fileless : goal.returns-in-Err-ImageRefused-clause-fileless
returns-in-Err-ImageRefused-clause-fileless g c =
    rw c.new-in-Err-ImageRefused.ensures
    (ends-fileless (meaning c.in-Ok-Some.command) (c.in-Err-ImageRefused.is ∙ ap Err c.in-Err-ImageRefused.field-0-is)
    (means c.in-Ok-Some.field-0-is c.in-Ok-Some.ensures) c.write_text.ensures.fileless)

pub returns-in-Err-DataRefused-clause-complete : goal.returns-in-Err-DataRefused-clause-complete
returns-in-Err-DataRefused-clause-complete g c =
    rw c.new-in-Err-DataRefused.ensures
    (completed (meaning c.in-Ok-Some.command) (λ m. IsLost m g.W.Wire.streak c.write_text.new.wires.items)
    (λ load. IsFaultOf (loads_of (meaning c.in-Ok-Some.command)) load (g.S.Shelf.asked c.args.shelf.now) (g.S.Shelf.asked c.write_text.new.shelf)) _ _ _ _ _
    (c.in-Err-DataRefused.is ∙ ap Err c.in-Err-DataRefused.field-0-is) (means c.in-Ok-Some.field-0-is c.in-Ok-Some.ensures) c.write_text.ensures.writes)

pub returns-in-Err-DataRefused-clause-fileless : goal.returns-in-Err-DataRefused-clause-fileless
returns-in-Err-DataRefused-clause-fileless g c =
    rw c.new-in-Err-DataRefused.ensures
    (ends-fileless (meaning c.in-Ok-Some.command) (c.in-Err-DataRefused.is ∙ ap Err c.in-Err-DataRefused.field-0-is) (means c.in-Ok-Some.field-0-is c.in-Ok-Some.ensures) c.write_text.ensures.fileless)

pub returns-in-Err-ScriptRefused-clause-complete : goal.returns-in-Err-ScriptRefused-clause-complete
returns-in-Err-ScriptRefused-clause-complete g c =
    rw c.of_script.ensures
    (completed (meaning c.in-Ok-Some.command) (λ m. IsLost m g.W.Wire.streak c.write_text.new.wires.items)
    (λ load. IsFaultOf (loads_of (meaning c.in-Ok-Some.command)) load (g.S.Shelf.asked c.args.shelf.now) (g.S.Shelf.asked c.write_text.new.shelf)) _ _ _ _ _
    (c.in-Err-ScriptRefused.is ∙ ap Err c.in-Err-ScriptRefused.field-0-is) (means c.in-Ok-Some.field-0-is c.in-Ok-Some.ensures) c.write_text.ensures.writes)

pub returns-in-Err-ScriptRefused-clause-fileless : goal.returns-in-Err-ScriptRefused-clause-fileless
returns-in-Err-ScriptRefused-clause-fileless g c =
    rw c.of_script.ensures
    (ends-fileless (meaning c.in-Ok-Some.command) (c.in-Err-ScriptRefused.is ∙ ap Err c.in-Err-ScriptRefused.field-0-is)
    (means c.in-Ok-Some.field-0-is c.in-Ok-Some.ensures) c.write_text.ensures.fileless)

pub returns-in-Err-WriteFault-clause-complete : goal.returns-in-Err-WriteFault-clause-complete
returns-in-Err-WriteFault-clause-complete g c =
    rw c.new-in-Err-WriteFault.ensures
    (completed (meaning c.in-Ok-Some.command) (λ m. IsLost m g.W.Wire.streak c.write_text.new.wires.items)
    (λ load. IsFaultOf (loads_of (meaning c.in-Ok-Some.command)) load (g.S.Shelf.asked c.args.shelf.now) (g.S.Shelf.asked c.write_text.new.shelf)) _ _ _ _ _
    (c.in-Err-WriteFault.is ∙ ap Err c.in-Err-WriteFault.field-0-is) (means c.in-Ok-Some.field-0-is c.in-Ok-Some.ensures) c.write_text.ensures.writes)

pub returns-in-Err-WriteFault-clause-fileless : goal.returns-in-Err-WriteFault-clause-fileless
returns-in-Err-WriteFault-clause-fileless g c =
    rw c.new-in-Err-WriteFault.ensures
    (ends-fileless (meaning c.in-Ok-Some.command) (c.in-Err-WriteFault.is ∙ ap Err c.in-Err-WriteFault.field-0-is) (means c.in-Ok-Some.field-0-is c.in-Ok-Some.ensures) c.write_text.ensures.fileless)

pub returns-in-Err-Wire-clause-complete : goal.returns-in-Err-Wire-clause-complete
returns-in-Err-Wire-clause-complete g c =
    rw c.new-in-Err-Wire.ensures
    (completed (meaning c.in-Ok-Some.command) (λ m. IsLost m g.W.Wire.streak c.write_text.new.wires.items)
    (λ load. IsFaultOf (loads_of (meaning c.in-Ok-Some.command)) load (g.S.Shelf.asked c.args.shelf.now) (g.S.Shelf.asked c.write_text.new.shelf)) _ _ _ _ _
    (c.in-Err-Wire.is ∙ ap Err c.in-Err-Wire.field-0-is) (means c.in-Ok-Some.field-0-is c.in-Ok-Some.ensures) c.write_text.ensures.writes)

pub returns-in-Err-Wire-clause-fileless : goal.returns-in-Err-Wire-clause-fileless
returns-in-Err-Wire-clause-fileless g c =
    rw c.new-in-Err-Wire.ensures
    (ends-fileless (meaning c.in-Ok-Some.command) (c.in-Err-Wire.is ∙ ap Err c.in-Err-Wire.field-0-is) (means c.in-Ok-Some.field-0-is c.in-Ok-Some.ensures) c.write_text.ensures.fileless)

pub returns-in-Err-Memory-clause-complete : goal.returns-in-Err-Memory-clause-complete
returns-in-Err-Memory-clause-complete g c =
    (completed (meaning c.in-Ok-Some.command) (λ m. IsLost m g.W.Wire.streak c.write_text.new.wires.items)
    (λ load. IsFaultOf (loads_of (meaning c.in-Ok-Some.command)) load (g.S.Shelf.asked c.args.shelf.now) (g.S.Shelf.asked c.write_text.new.shelf)) _ _ _ _ _
    (c.in-Err-Memory.is ∙ ap Err c.in-Err-Memory.field-0-is) (means c.in-Ok-Some.field-0-is c.in-Ok-Some.ensures) c.write_text.ensures.writes)

pub returns-in-Err-Memory-clause-fileless : goal.returns-in-Err-Memory-clause-fileless
returns-in-Err-Memory-clause-fileless g c =
    (ends-fileless (meaning c.in-Ok-Some.command) (c.in-Err-Memory.is ∙ ap Err c.in-Err-Memory.field-0-is) (means c.in-Ok-Some.field-0-is c.in-Ok-Some.ensures) c.write_text.ensures.fileless)

pub returns-in-Ok-clause-seeded : goal.returns-in-Ok-clause-seeded
returns-in-Ok-clause-seeded g c =
    rw c.new.ensures
    (ends-run (λ m. AreSeeded m g.W.Wire.seeds c.args.wires.now.items c.write_text.new.wires.items) (meaning c.in-Ok-Some.command) c.in-Ok.is
    (means c.in-Ok-Some.field-0-is c.in-Ok-Some.ensures) c.write_text.ensures.seeded)

pub returns-in-Err-ReadFault-clause-seeded : goal.returns-in-Err-ReadFault-clause-seeded
returns-in-Err-ReadFault-clause-seeded g c =
    rw c.new-in-Err-ReadFault.ensures
    (ends-run (λ m. AreSeeded m g.W.Wire.seeds c.args.wires.now.items c.write_text.new.wires.items) (meaning c.in-Ok-Some.command)
    (c.in-Err-ReadFault.is ∙ ap Err c.in-Err-ReadFault.field-0-is) (means c.in-Ok-Some.field-0-is c.in-Ok-Some.ensures) c.write_text.ensures.seeded)

pub returns-in-Err-ImageRefused-clause-seeded : goal.returns-in-Err-ImageRefused-clause-seeded
returns-in-Err-ImageRefused-clause-seeded g c =
    rw c.new-in-Err-ImageRefused.ensures
    (ends-run (λ m. AreSeeded m g.W.Wire.seeds c.args.wires.now.items c.write_text.new.wires.items) (meaning c.in-Ok-Some.command)
    (c.in-Err-ImageRefused.is ∙ ap Err c.in-Err-ImageRefused.field-0-is) (means c.in-Ok-Some.field-0-is c.in-Ok-Some.ensures) c.write_text.ensures.seeded)

pub returns-in-Err-DataRefused-clause-seeded : goal.returns-in-Err-DataRefused-clause-seeded
returns-in-Err-DataRefused-clause-seeded g c =
    rw c.new-in-Err-DataRefused.ensures
    (ends-run (λ m. AreSeeded m g.W.Wire.seeds c.args.wires.now.items c.write_text.new.wires.items) (meaning c.in-Ok-Some.command)
    (c.in-Err-DataRefused.is ∙ ap Err c.in-Err-DataRefused.field-0-is) (means c.in-Ok-Some.field-0-is c.in-Ok-Some.ensures) c.write_text.ensures.seeded)

pub returns-in-Err-ScriptRefused-clause-seeded : goal.returns-in-Err-ScriptRefused-clause-seeded
returns-in-Err-ScriptRefused-clause-seeded g c =
    rw c.of_script.ensures
    (ends-run (λ m. AreSeeded m g.W.Wire.seeds c.args.wires.now.items c.write_text.new.wires.items) (meaning c.in-Ok-Some.command)
    (c.in-Err-ScriptRefused.is ∙ ap Err c.in-Err-ScriptRefused.field-0-is) (means c.in-Ok-Some.field-0-is c.in-Ok-Some.ensures) c.write_text.ensures.seeded)

pub returns-in-Err-WriteFault-clause-seeded : goal.returns-in-Err-WriteFault-clause-seeded
returns-in-Err-WriteFault-clause-seeded g c =
    rw c.new-in-Err-WriteFault.ensures
    (ends-run (λ m. AreSeeded m g.W.Wire.seeds c.args.wires.now.items c.write_text.new.wires.items) (meaning c.in-Ok-Some.command)
    (c.in-Err-WriteFault.is ∙ ap Err c.in-Err-WriteFault.field-0-is) (means c.in-Ok-Some.field-0-is c.in-Ok-Some.ensures) c.write_text.ensures.seeded)

pub returns-in-Err-Wire-clause-seeded : goal.returns-in-Err-Wire-clause-seeded
returns-in-Err-Wire-clause-seeded g c =
    rw c.new-in-Err-Wire.ensures
    (ends-run (λ m. AreSeeded m g.W.Wire.seeds c.args.wires.now.items c.write_text.new.wires.items) (meaning c.in-Ok-Some.command)
    (c.in-Err-Wire.is ∙ ap Err c.in-Err-Wire.field-0-is) (means c.in-Ok-Some.field-0-is c.in-Ok-Some.ensures) c.write_text.ensures.seeded)

pub returns-in-Ok-clause-loads : goal.returns-in-Ok-clause-loads
returns-in-Ok-clause-loads g c =
    rw c.new.ensures
    (ends-read _ _ (meaning c.in-Ok-Some.command)
    c.in-Ok.is (means c.in-Ok-Some.field-0-is c.in-Ok-Some.ensures) c.write_text.ensures.loads)

pub returns-in-Ok-clause-untouched : goal.returns-in-Ok-clause-untouched
returns-in-Ok-clause-untouched g c = rw c.new.ensures (ends-before c.in-Ok.is c.write_text.ensures.untouched)

pub returns-in-Err-ReadFault-clause-loads : goal.returns-in-Err-ReadFault-clause-loads
returns-in-Err-ReadFault-clause-loads g c =
    rw c.new-in-Err-ReadFault.ensures
    (ends-read _ _ (meaning c.in-Ok-Some.command)
    (c.in-Err-ReadFault.is ∙ ap Err c.in-Err-ReadFault.field-0-is) (means c.in-Ok-Some.field-0-is c.in-Ok-Some.ensures) c.write_text.ensures.loads)

pub returns-in-Err-ReadFault-clause-untouched : goal.returns-in-Err-ReadFault-clause-untouched
returns-in-Err-ReadFault-clause-untouched g c =
    rw c.new-in-Err-ReadFault.ensures (ends-before (c.in-Err-ReadFault.is ∙ ap Err c.in-Err-ReadFault.field-0-is) c.write_text.ensures.untouched)

pub returns-in-Err-ImageRefused-clause-loads : goal.returns-in-Err-ImageRefused-clause-loads
returns-in-Err-ImageRefused-clause-loads g c =
    rw c.new-in-Err-ImageRefused.ensures
    (ends-read _ _ (meaning c.in-Ok-Some.command)
    (c.in-Err-ImageRefused.is ∙ ap Err c.in-Err-ImageRefused.field-0-is) (means c.in-Ok-Some.field-0-is c.in-Ok-Some.ensures) c.write_text.ensures.loads)

pub returns-in-Err-ImageRefused-clause-untouched : goal.returns-in-Err-ImageRefused-clause-untouched
returns-in-Err-ImageRefused-clause-untouched g c =
    rw c.new-in-Err-ImageRefused.ensures (ends-before (c.in-Err-ImageRefused.is ∙ ap Err c.in-Err-ImageRefused.field-0-is) c.write_text.ensures.untouched)

pub returns-in-Err-DataRefused-clause-loads : goal.returns-in-Err-DataRefused-clause-loads
returns-in-Err-DataRefused-clause-loads g c =
    rw c.new-in-Err-DataRefused.ensures
    (ends-read _ _ (meaning c.in-Ok-Some.command)
    (c.in-Err-DataRefused.is ∙ ap Err c.in-Err-DataRefused.field-0-is) (means c.in-Ok-Some.field-0-is c.in-Ok-Some.ensures) c.write_text.ensures.loads)

pub returns-in-Err-DataRefused-clause-untouched : goal.returns-in-Err-DataRefused-clause-untouched
returns-in-Err-DataRefused-clause-untouched g c =
    rw c.new-in-Err-DataRefused.ensures (ends-before (c.in-Err-DataRefused.is ∙ ap Err c.in-Err-DataRefused.field-0-is) c.write_text.ensures.untouched)

pub returns-in-Err-ScriptRefused-clause-loads : goal.returns-in-Err-ScriptRefused-clause-loads
returns-in-Err-ScriptRefused-clause-loads g c =
    rw c.of_script.ensures
    (ends-read _ _ (meaning c.in-Ok-Some.command)
    (c.in-Err-ScriptRefused.is ∙ ap Err c.in-Err-ScriptRefused.field-0-is) (means c.in-Ok-Some.field-0-is c.in-Ok-Some.ensures) c.write_text.ensures.loads)

pub returns-in-Err-ScriptRefused-clause-untouched : goal.returns-in-Err-ScriptRefused-clause-untouched
returns-in-Err-ScriptRefused-clause-untouched g c =
    rw c.of_script.ensures (ends-before (c.in-Err-ScriptRefused.is ∙ ap Err c.in-Err-ScriptRefused.field-0-is) c.write_text.ensures.untouched)

pub returns-in-Err-WriteFault-clause-loads : goal.returns-in-Err-WriteFault-clause-loads
returns-in-Err-WriteFault-clause-loads g c =
    rw c.new-in-Err-WriteFault.ensures
    (ends-read _ _ (meaning c.in-Ok-Some.command)
    (c.in-Err-WriteFault.is ∙ ap Err c.in-Err-WriteFault.field-0-is) (means c.in-Ok-Some.field-0-is c.in-Ok-Some.ensures) c.write_text.ensures.loads)

pub returns-in-Err-WriteFault-clause-untouched : goal.returns-in-Err-WriteFault-clause-untouched
returns-in-Err-WriteFault-clause-untouched g c =
    rw c.new-in-Err-WriteFault.ensures (ends-before (c.in-Err-WriteFault.is ∙ ap Err c.in-Err-WriteFault.field-0-is) c.write_text.ensures.untouched)

pub returns-in-Err-Wire-clause-loads : goal.returns-in-Err-Wire-clause-loads
returns-in-Err-Wire-clause-loads g c =
    rw c.new-in-Err-Wire.ensures
    (ends-read _ _ (meaning c.in-Ok-Some.command)
    (c.in-Err-Wire.is ∙ ap Err c.in-Err-Wire.field-0-is) (means c.in-Ok-Some.field-0-is c.in-Ok-Some.ensures) c.write_text.ensures.loads)

pub returns-in-Err-Wire-clause-untouched : goal.returns-in-Err-Wire-clause-untouched
returns-in-Err-Wire-clause-untouched g c =
    rw c.new-in-Err-Wire.ensures (ends-before (c.in-Err-Wire.is ∙ ap Err c.in-Err-Wire.field-0-is) c.write_text.ensures.untouched)

pub returns-in-Ok-clause-first_loads : goal.returns-in-Ok-clause-first_loads
returns-in-Ok-clause-first_loads g c =
    ends-first _ _ (meaning c.in-Ok-Some.command) c.write_text.result (means c.in-Ok-Some.field-0-is c.in-Ok-Some.ensures) c.write_text.ensures.loads

pub returns-in-Err-ReadFault-clause-first_loads : goal.returns-in-Err-ReadFault-clause-first_loads
returns-in-Err-ReadFault-clause-first_loads g c =
    ends-first _ _ (meaning c.in-Ok-Some.command) c.write_text.result (means c.in-Ok-Some.field-0-is c.in-Ok-Some.ensures) c.write_text.ensures.loads

pub returns-in-Err-ImageRefused-clause-first_loads : goal.returns-in-Err-ImageRefused-clause-first_loads
returns-in-Err-ImageRefused-clause-first_loads g c =
    ends-first _ _ (meaning c.in-Ok-Some.command) c.write_text.result (means c.in-Ok-Some.field-0-is c.in-Ok-Some.ensures) c.write_text.ensures.loads

pub returns-in-Err-DataRefused-clause-first_loads : goal.returns-in-Err-DataRefused-clause-first_loads
returns-in-Err-DataRefused-clause-first_loads g c =
    ends-first _ _ (meaning c.in-Ok-Some.command) c.write_text.result (means c.in-Ok-Some.field-0-is c.in-Ok-Some.ensures) c.write_text.ensures.loads

pub returns-in-Err-ScriptRefused-clause-first_loads : goal.returns-in-Err-ScriptRefused-clause-first_loads
returns-in-Err-ScriptRefused-clause-first_loads g c =
    ends-first _ _ (meaning c.in-Ok-Some.command) c.write_text.result (means c.in-Ok-Some.field-0-is c.in-Ok-Some.ensures) c.write_text.ensures.loads

pub returns-in-Err-WriteFault-clause-first_loads : goal.returns-in-Err-WriteFault-clause-first_loads
returns-in-Err-WriteFault-clause-first_loads g c =
    ends-first _ _ (meaning c.in-Ok-Some.command) c.write_text.result (means c.in-Ok-Some.field-0-is c.in-Ok-Some.ensures) c.write_text.ensures.loads

pub returns-in-Err-Wire-clause-first_loads : goal.returns-in-Err-Wire-clause-first_loads
returns-in-Err-Wire-clause-first_loads g c =
    ends-first _ _ (meaning c.in-Ok-Some.command) c.write_text.result (means c.in-Ok-Some.field-0-is c.in-Ok-Some.ensures) c.write_text.ensures.loads

pub returns-in-Err-Memory-clause-first_loads : goal.returns-in-Err-Memory-clause-first_loads
returns-in-Err-Memory-clause-first_loads g c =
    ends-first _ _ (meaning c.in-Ok-Some.command) c.write_text.result (means c.in-Ok-Some.field-0-is c.in-Ok-Some.ensures) c.write_text.ensures.loads
