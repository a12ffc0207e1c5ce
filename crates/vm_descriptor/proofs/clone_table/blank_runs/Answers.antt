use Rattle.std.proofs.Common.{◌≡◌, ◌-◌, ◌++◌, ℕ, List, length, map, drop, ap, sym, ◌∙◌, arith}
use Rattle.std.specs.Prelude.{Bool}
use Rattle.std.proofs.lemmas.List.{drop_all, length-map}
use Rattle.std.proofs.lemmas.Result.{IfOk-weaker}
use Rattle.page_frames.specs.Tables.{is_blank}
use Rattle.vm_descriptor.proofs.CloneTables.{run_flags}
use Rattle.vm_descriptor.proofs.clone_table.blank_runs.Goals as goal

pub leaves-init : goal.leaves-init
leaves-init c =
    let table = c.args.table.now in
    record {
      so_far = c.new-runs.ensures.before ∙ sym (drop_all c.len-end.result (map is_blank table) (omega (arith, length-map table is_blank, c.len-end.ensures)));
      inside = omega (arith, c.len-end.ensures);
    }

pub leaves-preserved : goal.leaves-preserved
leaves-preserved c =
    let table = c.args.table.now in
    let entries = c.run_before-entries.result.now in
    let was = c.leaves.invariant in
    let begin = c.leaves.end - length entries in
    record {
      so_far =
          c.in_ok-put_entries.ensures ∙ ap (λ (fs : List Bool). map is_blank entries ++ fs) was.so_far
          ∙ run_flags table entries begin c.leaves.end (omega (arith, c.run_before-entries.ensures.most)) c.run_before-entries.ensures.run;
      inside = omega (arith, was.inside);
    }

pub returns : goal.returns
returns c =
    let flags = map is_blank c.args.table.now in
    let none : c.leaves.end ≡ 0 = omega arith in
    let all : drop c.leaves.end flags ≡ flags = ap (λ (n : ℕ). drop n flags) none in
    IfOk-weaker c.into_reversed.result _ _ (λ lengths is. is ∙ c.leaves.invariant.so_far ∙ all) c.into_reversed.ensures
