use Rattle.std.proofs.Common.{◌≡◌, eqb, false, sym, ◌∙◌, arith}
use Rattle.std.proofs.lemmas.Bool.Decides.{nat_tests}
use Rattle.vm_hart.proofs.HandingOver.{met-alike, needs-both, needs-none, needs-outside, waits-alike}
use Rattle.vm_hart.proofs.hart.Hart.wanted_bytes.Goals as goal

pub returns-then-count-eq0-clause-none : goal.returns-then-count-eq0-clause-none
returns-then-count-eq0-clause-none c none =
    met-alike c.args.self.now.pages _ _ (needs-none c.args.self.now.state c.args.address c.args.count c.if-count-eq0.true) tt

pub returns-then-not-has_bytes-clause-none : goal.returns-then-not-has_bytes-clause-none
returns-then-not-has_bytes-clause-none c none =
    met-alike c.args.self.now.pages _ _ (needs-outside c.args.self.now.state c.args.address c.args.count (sym c.has_bytes.ensures.value ∙ c.if-not-has_bytes.true)) tt

pub returns-clause-some : goal.returns-clause-some
returns-clause-some c =
    let some : eqb c.args.count 0 ≡ false = grind (arith, nat_tests) in
    waits-alike c.args.self.now.pages _ _
    (needs-both c.args.self.now.state c.args.address c.args.count (sym c.has_bytes.ensures.value ∙ c.if-not-has_bytes.false) some)
    c.absent_among.result c.absent_among.ensures.some

pub returns-clause-none : goal.returns-clause-none
returns-clause-none c none =
    let some : eqb c.args.count 0 ≡ false = grind (arith, nat_tests) in
    met-alike c.args.self.now.pages _ _
    (needs-both c.args.self.now.state c.args.address c.args.count (sym c.has_bytes.ensures.value ∙ c.if-not-has_bytes.false) some)
    (c.absent_among.ensures.none none)
