-- Lines of a report, and their pieces, by the values of the code.
use Rattle.std.specs.Prelude.{ℕ, List}
use Rattle.std.specs.Fmt.{decimal}
use Rattle.run_report.specs.declared.line.MachineLine.{MachineLine}
use Rattle.run_report.specs.declared.line.TicketLine.{TicketLine}
use Rattle.run_report.specs.declared.line.Said.{Said}
use Rattle.run_report.specs.declared.line.Said.TheVariants.{Machine, Ticket}
use Rattle.run_report.specs.declared.line.Piece.{Piece}
use Rattle.run_report.specs.declared.line.Piece.TheVariants.{Text, Named, Ended, HandedOver, Number, Sum}
use Rattle.run_report.specs.MachineEnd.{ending_in, output_in, steps_in}
use Rattle.run_report.specs.Lines.{Line, machine_line, ticket_line, end_text, handed_text}
use Rattle.machine_names.specs.Name.{name_text}

abbrev pub line_of_machine : MachineLine → Line
line_of_machine m = machine_line m.name (ending_in m.end) (steps_in m.end) (output_in m.end)

abbrev pub line_of_ticket : TicketLine → Line
line_of_ticket t = ticket_line t.name t.ticket t.killed

abbrev pub line_of : Said → Line
line_of (Machine m) = line_of_machine m
line_of (Ticket t) = line_of_ticket t

abbrev pub piece_text : Piece → List ℕ
piece_text (Text bytes) = bytes.now
piece_text (Named name) = name_text name.now
piece_text (Ended end) = end_text (ending_in end.now)
piece_text (HandedOver end) = handed_text (ending_in end.now)
piece_text (Number n) = decimal n
piece_text (Sum n) = decimal n
