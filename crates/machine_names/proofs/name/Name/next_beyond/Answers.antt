use Rattle.std.proofs.Common.{get_or, length, take, sym, ap, ◌∙◌, arith}
use Rattle.std.specs.Arc.{arc_value}
use Rattle.std.specs.Ordering.{is_ne}
use Rattle.machine_names.specs.NameOrder.{back_cmp}
use Rattle.machine_names.proofs.Rows.{beyond-last, beyond-none, beyond-not, beyond-some, named-long}
use Rattle.machine_names.proofs.name.Name.next_beyond.Goals as goal

pub returns-then-self-name : goal.returns-then-self-name
returns-then-self-name c =
    beyond-none (arc_value c.self.inside.above) (arc_value c.name.inside.above) c.args.self.now c.args.name.now c.self.inside.depth c.name.inside.depth
    c.self.inside.last c.name.inside.last c.self.invariant c.name.invariant c.self.view_is c.name.view_is (omega (arith, c.if-self-name.true))

pub cmp_begin-requires : goal.cmp_begin-requires
cmp_begin-requires c =
    omega (
      arith,
      ap length c.name.view_is,
      named-long (arc_value c.name.inside.above) c.name.inside.depth c.name.inside.last c.name.invariant,
      c.if-self-name.false,
      c.self.invariant,
      ap length c.deref.ensures,
    )

pub returns-then-is_ne : goal.returns-then-is_ne
returns-then-is_ne c =
    let is = c.cmp_begin.ensures ∙ ap (λ forks. back_cmp (take (length c.args.name.now) forks) c.args.name.now) c.deref.ensures in
    beyond-not (arc_value c.self.inside.above) (arc_value c.name.inside.above) c.args.self.now c.args.name.now c.self.inside.depth c.name.inside.depth
    c.self.inside.last c.name.inside.last c.self.invariant c.name.invariant c.self.view_is c.name.view_is (omega (arith, c.if-self-name.false))
    (ap is_ne (sym is) ∙ sym c.if-is_ne.ensures)

pub returns-then-self-name-2 : goal.returns-then-self-name-2
returns-then-self-name-2 c =
    let is = c.cmp_begin.ensures ∙ ap (λ forks. back_cmp (take (length c.args.name.now) forks) c.args.name.now) c.deref.ensures in
    beyond-last (arc_value c.self.inside.above) (arc_value c.name.inside.above) c.args.self.now c.args.name.now c.self.inside.depth c.name.inside.depth
    c.self.inside.last c.name.inside.last c.self.invariant c.name.invariant c.self.view_is c.name.view_is (omega (arith, c.if-self-name.false))
    (ap is_ne (sym is) ∙ sym c.if-is_ne.ensures) (omega arith)

pub returns : goal.returns
returns c =
    let is = c.cmp_begin.ensures ∙ ap (λ forks. back_cmp (take (length c.args.name.now) forks) c.args.name.now) c.deref.ensures in
    beyond-some (arc_value c.self.inside.above) (arc_value c.name.inside.above) c.args.self.now c.args.name.now c.self.inside.depth c.name.inside.depth
    c.self.inside.last c.name.inside.last c.self.invariant c.name.invariant c.self.view_is c.name.view_is (omega (arith, c.if-self-name.false))
    (ap is_ne (sym is) ∙ sym c.if-is_ne.ensures) (omega arith) c.get.result.now
    (c.get.ensures ∙ ap (λ xs. get_or xs c.name.inside.depth c.get.result.now) c.deref-2.ensures)
