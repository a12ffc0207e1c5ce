use Rattle.std.proofs.Common.{◌≡◌, true, get_or, arith}
use Rattle.std.proofs.lemmas.List.Elements.{All-set}
use Rattle.guest_pmp.specs.Registers.{is_configuration}
use Rattle.guest_pmp.proofs.Bytes.{written_byte-is_configuration}
use Rattle.guest_pmp.proofs.pmp.Pmp.put_byte.Goals as goal

pub invariant_of-self : goal.invariant_of-self
invariant_of-self c = All-set (λ byte. is_configuration byte ≡ true) c.self.inside.registers.configurations c.args.entry c.written_byte.result
    (rw c.written_byte.ensures (written_byte-is_configuration (get_or c.self.inside.registers.configurations c.args.entry 0) c.args.byte (c.self.invariant c.args.entry 0 (grind arith))))
    c.self.invariant
