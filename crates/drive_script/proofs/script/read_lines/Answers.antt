use Rattle.std.proofs.Common.{◌∙◌, ◌+◌, drop, Err, sym, ap, refl, ◌==◌, rules, tests, arith, ◌<◌, ◌≤◌, length}
use Rattle.std.proofs.lemmas.Bool.{eqb-true}
use Rattle.std.proofs.lemmas.List.{length_push, map_push}
use Rattle.std.proofs.lemmas.Iterator.Consumers.{YieldsList-turn, YieldsList-end}
use Rattle.std.proofs.lemmas.Iterator.Splits.{YieldsList-from_slice_split}
use Rattle.drive_script.specs.Lines.{line_read, lines_read}
use Rattle.drive_script.specs.Script.{lines_from, parts, script}
use Rattle.drive_script.proofs.Scripts.{after_lines, after-nothing, from-empty, from-end, from-more, from-refused, some-text}
use Rattle.drive_script.proofs.script.read_lines.Goals as goal

pub loop-text-init : goal.loop-text-init
unfolding script
loop-text-init c = record {
  counted = refl;
  read = ap (λ items. after_lines (lines_read items) (lines_from 1 (parts 10 c.args.bytes.now))) c.requires.none ∙ after-nothing _;
}

pub loop-text-preserved-then-is_empty : goal.loop-text-preserved-then-is_empty
loop-text-preserved-then-is_empty c =
    let turn = YieldsList-turn (YieldsList-from_slice_split _ (λ b. b == 10) c.args.bytes.now (cc) (cc) (cc) (λ x b q k. search (rules, tests)))
    c.loop-text.yielded _ c.loop-text.yielded_by _ _ c.in-Some.text c.in-Some.is c.next.ensures.steps in
    let counted = c.loop-text.invariant.counted in
    let within : c.loop-text.number < length (parts 10 c.args.bytes.now) = omega (arith, turn.0) in
    let here = rw (← counted) at turn.1 in
    let next = from-empty c.loop-text.number (parts 10 c.args.bytes.now) c.in-Some.text.now within here (eqb-true (length c.in-Some.text.now) 0 (sym c.if-is_empty.ensures)) in
    record {
      counted = omega (arith, length_push c.loop-text.yielded c.in-Some.text);
      read = sym (ap (after_lines (lines_read c.loop-text.lines.items)) next) ∙ c.loop-text.invariant.read;
    }

pub loop-text-preserved : goal.loop-text-preserved
loop-text-preserved c =
    let turn = YieldsList-turn (YieldsList-from_slice_split _ (λ b. b == 10) c.args.bytes.now (cc) (cc) (cc) (λ x b q k. search (rules, tests)))
    c.loop-text.yielded _ c.loop-text.yielded_by _ _ c.in-Some.text c.in-Some.is c.next.ensures.steps in
    let counted = c.loop-text.invariant.counted in
    let within : c.loop-text.number < length (parts 10 c.args.bytes.now) = omega (arith, turn.0) in
    let here = rw (← counted) at turn.1 in
    let long = some-text c.in-Some.text.now (sym c.if-is_empty.ensures) in
    let next = from-more (lines_read c.loop-text.lines.items) c.loop-text.number (parts 10 c.args.bytes.now) c.in-Some.text.now (line_read c.in-Ok.line) within here long c.in-Ok.ensures.reads in
    let rest = lines_from (c.loop-text.number + 1 + 1) (drop (c.loop-text.number + 1) (parts 10 c.args.bytes.now)) in
    record {
      counted = omega (arith, length_push c.loop-text.yielded c.in-Some.text);
      read =
          ap (λ items. after_lines (lines_read items) rest) c.in_ok-push-in-Ok.ensures.items
          ∙ ap (λ lines. after_lines lines rest) (map_push line_read c.loop-text.lines.items c.in-Ok.line)
          ∙ sym next ∙ c.loop-text.invariant.read;
    }

pub returns-in-Err-Refused-clause-refuses : goal.returns-in-Err-Refused-clause-refuses
returns-in-Err-Refused-clause-refuses c =
    let turn = YieldsList-turn (YieldsList-from_slice_split _ (λ b. b == 10) c.args.bytes.now (cc) (cc) (cc) (λ x b q k. search (rules, tests)))
    c.loop-text.yielded _ c.loop-text.yielded_by _ _ c.in-Some.text c.in-Some.is c.next.ensures.steps in
    let counted = c.loop-text.invariant.counted in
    let within : c.loop-text.number < length (parts 10 c.args.bytes.now) = omega (arith, turn.0) in
    let here = rw (← counted) at turn.1 in
    let long = some-text c.in-Some.text.now (sym c.if-is_empty.ensures) in
    let next = from-refused (lines_read c.loop-text.lines.items) c.loop-text.number c.in-Err-Refused.kind (parts 10 c.args.bytes.now)
    c.in-Some.text.now within here long (rw c.in-Err-Refused.field-0-is at c.in-Err-Refused.ensures.refuses) in
    sym c.loop-text.invariant.read ∙ next ∙ ap (λ kind. Err (c.loop-text.number + 1, kind)) (sym c.in-Err-Refused.kind-is)

pub returns-clause-reads : goal.returns-clause-reads
returns-clause-reads c =
    let all = YieldsList-end (YieldsList-from_slice_split _ (λ b. b == 10) c.args.bytes.now (cc) (cc) (cc) (λ x b q k. search (rules, tests)))
    c.loop-text.yielded _ c.loop-text.yielded_by _ _ c.in-None.is c.next.ensures.steps in
    let counted = c.loop-text.invariant.counted in
    let past : length (parts 10 c.args.bytes.now) ≤ c.loop-text.number = omega (arith, all.1) in
    sym c.loop-text.invariant.read ∙ from-end (lines_read c.loop-text.lines.items) c.loop-text.number (parts 10 c.args.bytes.now) past
