use Rattle.std.proofs.Common.{◌≡◌, ◌-◌, [], length, take, sym, ap, ◌∙◌, arith}
use Rattle.std.specs.Arc.{arc_value}
use Rattle.std.specs.Ordering.{ordering_then}
use Rattle.machine_names.specs.Forks.{row_to}
use Rattle.machine_names.specs.NameOrder.{back_cmp}
use Rattle.machine_names.proofs.Back.{decided, undecided}
use Rattle.machine_names.proofs.Rows.{begin-last, named-long}
use Rattle.machine_names.proofs.name.Name.cmp_begin.Goals as goal

pub returns-then-self-eq0 : goal.returns-then-self-eq0
returns-then-self-eq0 c =
    let none : c.args.self.now ≡ [] =
    sym c.self.view_is ∙ ap (λ n. take n (row_to c.self.inside.depth c.self.inside.last (arc_value c.self.inside.above))) c.if-self-eq0.true in
    sym (ap (λ name. back_cmp (take (length name) c.args.forks.now) name) none)

pub get-requires : goal.get-requires
get-requires c =
    omega (
      arith,
      c.requires,
      ap length c.self.view_is,
      named-long (arc_value c.self.inside.above) c.self.inside.depth c.self.inside.last c.self.invariant,
    )

pub returns-then-is_ne : goal.returns-then-is_ne
returns-then-is_ne c =
    let above = arc_value c.self.inside.above in
    let before = back_cmp (take (c.self.inside.depth - 1) c.args.forks.now) (take (c.self.inside.depth - 1) above) in
    decided c.cmp-order.result before (sym c.if-is_ne.ensures) ∙ ap (λ o. ordering_then o before) c.cmp-order.ensures
    ∙ sym (begin-last c.args.forks.now above c.args.self.now c.self.inside.depth c.get.result.now c.self.inside.last c.self.invariant c.self.view_is
    (omega arith) c.requires c.get.ensures)

pub cmp_back-requires : goal.cmp_back-requires
cmp_back-requires c = record {
  left = omega (
    arith,
    c.requires,
    ap length c.self.view_is,
    named-long (arc_value c.self.inside.above) c.self.inside.depth c.self.inside.last c.self.invariant,
  );
  right = omega (arith, c.self.invariant, ap length c.deref.ensures);
}

pub returns : goal.returns
returns c =
    let above = arc_value c.self.inside.above in
    let before = back_cmp (take (c.self.inside.depth - 1) c.args.forks.now) (take (c.self.inside.depth - 1) above) in
    c.cmp_back.ensures ∙ ap (λ xs. back_cmp (take (c.self.inside.depth - 1) c.args.forks.now) (take (c.self.inside.depth - 1) xs)) c.deref.ensures
    ∙ ap (λ o. ordering_then o before) (sym (undecided c.cmp-order.result (sym c.if-is_ne.ensures)) ∙ c.cmp-order.ensures)
    ∙ sym (begin-last c.args.forks.now above c.args.self.now c.self.inside.depth c.get.result.now c.self.inside.last c.self.invariant c.self.view_is
    (omega arith) c.requires c.get.ensures)
