use Rattle.std.proofs.Common.{rules, ◌≡◌, ◌-◌, ◌++◌, List, length, map, take, drop, ap, sym, ◌∙◌}
use Rattle.std.specs.Prelude.{Bool}
use Rattle.std.proofs.lemmas.List.{append_assoc}
use Rattle.std.proofs.lemmas.Result.{on_ok_weaker}
use Rattle.page_frames.specs.Tables.{is_blank}
use Rattle.vm_descriptor.specs.MadeRuns.{from_the_end}
use Rattle.vm_descriptor.proofs.CloneTables.{split_flags}
use Rattle.vm_descriptor.proofs.clone_table.put_entries.Goals as goal

pub tested-preserved : goal.tested-preserved
tested-preserved c =
    let left = c.tested.left.now in
    let before = c.in-Some.before.now in
    let last = c.in-Some.tested.now in
    let old = from_the_end c.tested.runs in
    let is_before : before ≡ take (length left - 32) left = search rules in
    let is_last : last ≡ drop (length left - 32) left = search rules in
    ap (λ (fs : List Bool). map is_blank before ++ fs) c.in_ok-put_tested.ensures
    ∙ sym (append_assoc (map is_blank before) (map is_blank last) old)
    ∙ ap (λ (fs : List Bool). fs ++ old) (sym (split_flags left before last (length left - 32) is_before is_last)) ∙ c.tested.invariant

pub returns : goal.returns
returns c = on_ok_weaker c.put_each.result (λ put. put ∙ c.tested.invariant) c.put_each.ensures
