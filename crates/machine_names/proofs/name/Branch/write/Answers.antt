use Rattle.std.proofs.Common.{◌≡◌, ◌+◌, ◌-◌, ◌≤◌, append-nil, arith, length, length-set}
use Rattle.std.specs.Fmt.{decimal}
use Rattle.std.proofs.lemmas.Fmt.{length-decimal-le}
use Rattle.std.proofs.lemmas.List.{drop-set, drop_all}
use Rattle.machine_names.proofs.name.Branch.write.Goals as goal

pub write_digits-child-requires : goal.write_digits-child-requires
write_digits-child-requires c =
    let child : length (decimal c.self.inside.child) ≤ 10 = length-decimal-le 10 c.self.inside.child (omega arith) (omega arith) (omega arith) in
    (omega (arith, child), omega (arith, c.told-bytes))

pub overflow_sub-child : goal.overflow_sub-child
overflow_sub-child c =
    let child : length (decimal c.self.inside.child) ≤ 10 = length-decimal-le 10 c.self.inside.child (omega arith) (omega arith) (omega arith) in
    omega (arith, child, c.write_digits-child.ensures.start)

pub write_digits-ticket-requires : goal.write_digits-ticket-requires
write_digits-ticket-requires c =
    let child : length (decimal c.self.inside.child) ≤ 10 = length-decimal-le 10 c.self.inside.child (omega arith) (omega arith) (omega arith) in
    let ticket : length (decimal c.self.inside.ticket) ≤ 10 = length-decimal-le 10 c.self.inside.ticket (omega arith) (omega arith) (omega arith) in (
      omega (arith, child, ticket, c.write_digits-child.ensures.start),
      omega (arith, c.told-bytes, c.write_digits-child.auto.buf, c.write_digits-child.ensures.start, length-set c.write_digits-child.new.buf (c.write_digits-child.result - 1) 46),
    )

pub overflow_sub-ticket : goal.overflow_sub-ticket
overflow_sub-ticket c =
    let child : length (decimal c.self.inside.child) ≤ 10 = length-decimal-le 10 c.self.inside.child (omega arith) (omega arith) (omega arith) in
    let ticket : length (decimal c.self.inside.ticket) ≤ 10 = length-decimal-le 10 c.self.inside.ticket (omega arith) (omega arith) (omega arith) in
    omega (arith, child, ticket, c.write_digits-child.ensures.start, c.write_digits-ticket.ensures.start)

pub returns-clause-text : goal.returns-clause-text
returns-clause-text c =
    let child : length (decimal c.self.inside.child) ≤ 10 = length-decimal-le 10 c.self.inside.child (omega arith) (omega arith) (omega arith) in
    let ticket : length (decimal c.self.inside.ticket) ≤ 10 = length-decimal-le 10 c.self.inside.ticket (omega arith) (omega arith) (omega arith) in
    let front = c.write_digits-child.result in
    let begin = c.write_digits-ticket.result in
    let digits = c.write_digits-child.new.buf in
    let text = c.write_digits-ticket.new.buf in
    let long : length digits ≡ 22 = omega (arith, c.told-bytes, c.write_digits-child.auto.buf) in
    let longer : length text ≡ 22 = omega (arith, long, c.write_digits-ticket.auto.buf, length-set digits (front - 1) 46) in
    let after_front : front - 1 + 1 ≡ front = omega (arith, child, c.write_digits-child.ensures.start) in
    let after_begin : begin - 1 + 1 ≡ begin = omega (arith, child, ticket, c.write_digits-child.ensures.start, c.write_digits-ticket.ensures.start) in
    rw (
      ← c.self.view_is,
      drop-set text (begin - 1) 46 (omega (arith, longer, c.write_digits-child.ensures.start, c.write_digits-ticket.ensures.start)),
      after_begin,
      c.write_digits-ticket.ensures.written,
      drop-set digits (front - 1) 46 (omega (arith, long, c.write_digits-child.ensures.start)),
      after_front,
      c.write_digits-child.ensures.written,
      drop_all 22 c.args.bytes.now (omega (arith, c.told-bytes)),
      append-nil,
    )
