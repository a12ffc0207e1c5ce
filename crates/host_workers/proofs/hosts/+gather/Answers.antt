use Rattle.std.proofs.Common.{rules, ◌≡◌, ◌+◌, ◌≤◌, [], length, sym, ap, ◌∙◌, subst, eqb-true, arith}
use Rattle.std.proofs.lemmas.List.{nil_from_length}
use Rattle.page_claims.specs.Values.{PassValue as ClaimValue}
use Rattle.host_workers.specs.Spread.{HaveWorked, WorkAll, parent, states_of}
use Rattle.host_workers.proofs.States.{alone, beside, first-done, joined, some-left}
use Rattle.host_workers.proofs.hosts.+gather.Goals as goal

pub unreachable-requires-in_default-replace : goal.unreachable-requires-in_default-replace
unreachable-requires-in_default-replace g t c =
    let w = c.requires.worked in
    let done =
    first-done g.W.Wire.streak c.args.wires.now (states_of c.args.claims.now w.0 w.1 w.2) c.in-Some.state.now c.in-Some.states.now
    (subst (λ l. HaveWorked g.W.Wire.streak c.args.wires.now (states_of c.args.claims.now w.0 w.1 w.2) l) c.in-Some.ensures.cases.0 w.5) in
    c.in_default-replace.not-Done done.0 done.1 done.2 (c.replace.ensures.value ∙ done.3)

pub returns-then-is_empty : goal.returns-then-is_empty
returns-then-is_empty g t c =
    let none : c.in-Some-split_first.wires.now ≡ [] =
    nil_from_length c.in-Some-split_first.wires.now (eqb-true (length c.in-Some-split_first.wires.now) 0 (sym c.is_empty.ensures ∙ c.if-is_empty.true)) in
    let one =
    alone g.W.Wire.streak c.args.claims.now c.requires.worked.0 c.args.wires.now c.args.states.now c.in-Some-split_first.field-0-0.now c.in-Some-split_first.wires.now
    c.in-Some.state.now c.in-Some.states.now c.in-Done.split c.in-Done.share c.in-Done.one c.in-Some-split_first.ensures.cases.0 c.in-Some.ensures.cases.0
    (sym c.replace.ensures.value ∙ c.in-Done.is)
    c.requires.worked.1 c.requires.worked.2 c.requires.worked.4 c.requires.worked.5 none in
    record {
      worked = λ first pass k many h.
          (alone g.W.Wire.streak c.args.claims.now first c.args.wires.now c.args.states.now c.in-Some-split_first.field-0-0.now c.in-Some-split_first.wires.now
          c.in-Some.state.now c.in-Some.states.now c.in-Done.split c.in-Done.share c.in-Done.one c.in-Some-split_first.ensures.cases.0 c.in-Some.ensures.cases.0
          (sym c.replace.ensures.value ∙ c.in-Done.is)
          pass k many h none).0;
      claims = one.1.table;
      parts = omega (arith, one.1.parts, ap length c.in-Some-split_first.ensures.cases.0, ap length none);
    }

pub gather-pass-requires : goal.gather-pass-requires
gather-pass-requires g t c κs within =
    let w = c.requires.worked in
    let more : 1 ≤ length c.in-Some-split_first.wires.now = some-left c.in-Some-split_first.wires.now (sym c.is_empty.ensures ∙ c.if-is_empty.false) in
    let rest =
    beside g.W.Wire.streak c.args.claims.now w.0 c.args.wires.now c.args.states.now c.in-Some-split_first.field-0-0.now c.in-Some-split_first.wires.now
    c.in-Some.state.now c.in-Some.states.now c.in-Done.split c.in-Done.share c.in-Done.one c.in-Some-split_first.ensures.cases.0 c.in-Some.ensures.cases.0
    (sym c.replace.ensures.value ∙ c.in-Done.is)
    w.1 w.2 w.4 w.5 more in
    (search rules, (within, (more, (search rules, (w.0 + 1, parent w.1, rest.k, w.3, rest.many, rest.rest)))))

pub join_pass-pass-requires : goal.join_pass-pass-requires
join_pass-pass-requires g t c =
    let w = c.requires.worked in
    let rest =
    beside g.W.Wire.streak c.args.claims.now w.0 c.args.wires.now c.args.states.now c.in-Some-split_first.field-0-0.now c.in-Some-split_first.wires.now
    c.in-Some.state.now c.in-Some.states.now c.in-Done.split c.in-Done.share c.in-Done.one c.in-Some-split_first.ensures.cases.0 c.in-Some.ensures.cases.0
    (sym c.replace.ensures.value ∙ c.in-Done.is)
    w.1 w.2 w.4 w.5 (some-left c.in-Some-split_first.wires.now (sym c.is_empty.ensures ∙ c.if-is_empty.false)) in
    record {
      board = ((c.gather-pass.ensures.worked (w.0 + 1) (parent w.1) rest.k rest.many rest.rest).worked.same_board ∙ w.3, rest.first.worked.same_board ∙ w.3);
      holds = rest.first.none;
    }

pub join-requires : goal.join-requires
join-requires g t c =
    let w = c.requires.worked in
    let rest =
    beside g.W.Wire.streak c.args.claims.now w.0 c.args.wires.now c.args.states.now c.in-Some-split_first.field-0-0.now c.in-Some-split_first.wires.now
    c.in-Some.state.now c.in-Some.states.now c.in-Done.split c.in-Done.share c.in-Done.one c.in-Some-split_first.ensures.cases.0 c.in-Some.ensures.cases.0
    (sym c.replace.ensures.value ∙ c.in-Done.is)
    w.1 w.2 w.4 w.5 (some-left c.in-Some-split_first.wires.now (sym c.is_empty.ensures ∙ c.if-is_empty.false)) in
    record { here = c.gather-pass.ensures.claims; other_here = rest.same.table }

pub returns : goal.returns
returns g t c =
    let more : 1 ≤ length c.in-Some-split_first.wires.now = some-left c.in-Some-split_first.wires.now (sym c.is_empty.ensures ∙ c.if-is_empty.false) in
    let w = c.requires.worked in
    let share =
    beside g.W.Wire.streak c.args.claims.now w.0 c.args.wires.now c.args.states.now c.in-Some-split_first.field-0-0.now c.in-Some-split_first.wires.now
    c.in-Some.state.now c.in-Some.states.now c.in-Done.split c.in-Done.share c.in-Done.one c.in-Some-split_first.ensures.cases.0 c.in-Some.ensures.cases.0
    (sym c.replace.ensures.value ∙ c.in-Done.is)
    w.1 w.2 w.4 w.5 more in
    record {
      worked = λ first pass k many h.
          let rest =
          beside g.W.Wire.streak c.args.claims.now first c.args.wires.now c.args.states.now c.in-Some-split_first.field-0-0.now c.in-Some-split_first.wires.now
          c.in-Some.state.now c.in-Some.states.now c.in-Done.split c.in-Done.share c.in-Done.one c.in-Some-split_first.ensures.cases.0 c.in-Some.ensures.cases.0
          (sym c.replace.ensures.value ∙ c.in-Done.is)
          pass k many h more in
          subst (WorkAll g.W.Wire.streak c.args.wires.now pass c.join_pass-pass.result) (sym c.finish_of.ensures)
          (joined g.W.Wire.streak c.args.claims.now first c.args.wires.now c.args.states.now c.in-Some-split_first.field-0-0.now c.in-Some-split_first.wires.now
          c.in-Some.state.now c.in-Some.states.now c.in-Done.split c.in-Done.share c.in-Done.one c.in-Some-split_first.ensures.cases.0 c.in-Some.ensures.cases.0
          (sym c.replace.ensures.value ∙ c.in-Done.is)
          pass k many h more c.gather-pass.result.0 c.join_pass-pass.result c.gather-pass.result.2
          (c.gather-pass.ensures.worked (first + 1) (parent pass) rest.k rest.many rest.rest) c.join_pass-pass.ensures);
      claims = ap (λ (p : ClaimValue). p.table) c.join.ensures.both ∙ c.gather-pass.ensures.claims;
      parts = omega (arith, ap (λ (p : ClaimValue). p.parts) c.join.ensures.both, c.gather-pass.ensures.parts, share.same.parts, ap length c.in-Some-split_first.ensures.cases.0);
    }
