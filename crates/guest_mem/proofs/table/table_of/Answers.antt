use Rattle.std.proofs.Common.{◌≡◌, ◌+◌, ◌≤◌, false, length, sym, ap, ◌∙◌, subst}
use Rattle.std.specs.Prelude.{IfOk, OnOk}
use Rattle.shared_leaves.specs.Choices.{choice_steps, flags_of_runs}
use Rattle.vm_descriptor.specs.PageMaps.{held}
use Rattle.vm_descriptor.specs.CloneTables.{clone_table}
use Rattle.guest_mem.proofs.table.table_of.Goals as goal

pub returns-in-Flags-clause-value : goal.returns-in-Flags-clause-value
returns-in-Flags-clause-value g c =
    let is = c.deref.ensures.value ∙ sym (ap held c.in-Flags.is) ∙ c.form.ensures in
    subst (λ flags. IfOk c.chosen_counted.result (λ table. table ≡ clone_table flags)) is c.chosen_counted.ensures.value

pub returns-in-Flags-clause-cost : goal.returns-in-Flags-clause-cost
returns-in-Flags-clause-cost g c =
    let is = c.deref.ensures.value ∙ sym (ap held c.in-Flags.is) ∙ c.form.ensures in
    subst (λ flags. OnOk c.chosen_counted.result (c.chosen_counted.new.steps ≡ c.args.steps.now + choice_steps flags)) is c.chosen_counted.ensures.cost

pub returns-in-Flags-clause-most : goal.returns-in-Flags-clause-most
returns-in-Flags-clause-most g c =
    let is = c.deref.ensures.value ∙ sym (ap held c.in-Flags.is) ∙ c.form.ensures in
    subst (λ flags. c.chosen_counted.new.steps ≤ c.args.steps.now + choice_steps flags) is c.chosen_counted.ensures.most

pub returns-in-Runs-clause-value : goal.returns-in-Runs-clause-value
returns-in-Runs-clause-value g c =
    let is = ap (flags_of_runs false) c.deref-in-Runs.ensures.value ∙ sym (ap held c.in-Runs.is) ∙ c.form.ensures in
    subst (λ flags. IfOk c.chosen_in_runs_counted.result (λ table. table ≡ clone_table flags)) is c.chosen_in_runs_counted.ensures.value

pub returns-in-Runs-clause-cost : goal.returns-in-Runs-clause-cost
returns-in-Runs-clause-cost g c =
    let is = ap (flags_of_runs false) c.deref-in-Runs.ensures.value ∙ sym (ap held c.in-Runs.is) ∙ c.form.ensures in
    subst (λ flags. OnOk c.chosen_in_runs_counted.result (c.chosen_in_runs_counted.new.steps ≡ c.args.steps.now + choice_steps flags)) is c.chosen_in_runs_counted.ensures.cost

pub returns-in-Runs-clause-most : goal.returns-in-Runs-clause-most
returns-in-Runs-clause-most g c =
    let is = ap (flags_of_runs false) c.deref-in-Runs.ensures.value ∙ sym (ap held c.in-Runs.is) ∙ c.form.ensures in
    subst (λ flags. c.chosen_in_runs_counted.new.steps ≤ c.args.steps.now + choice_steps flags) is c.chosen_in_runs_counted.ensures.most

pub chosen_in_runs_counted-requires : goal.chosen_in_runs_counted-requires
chosen_in_runs_counted-requires g c = ap length (ap (flags_of_runs false) c.deref-in-Runs.ensures.value ∙ sym (ap held c.in-Runs.is) ∙ c.form.ensures) ∙ c.requires

pub returns-clause-value : goal.returns-clause-value
returns-clause-value g c =
    let is = c.deref-in-Table.ensures.value ∙ c.in_ok-flags-in-Table.ensures in
    subst (λ flags. IfOk c.chosen_counted-in-Table.result (λ table. table ≡ clone_table flags)) is c.chosen_counted-in-Table.ensures.value

pub returns-clause-cost : goal.returns-clause-cost
returns-clause-cost g c =
    let is = c.deref-in-Table.ensures.value ∙ c.in_ok-flags-in-Table.ensures in
    subst (λ flags. OnOk c.chosen_counted-in-Table.result (c.chosen_counted-in-Table.new.steps ≡ c.args.steps.now + choice_steps flags)) is c.chosen_counted-in-Table.ensures.cost

pub returns-clause-most : goal.returns-clause-most
returns-clause-most g c =
    let is = c.deref-in-Table.ensures.value ∙ c.in_ok-flags-in-Table.ensures in
    subst (λ flags. c.chosen_counted-in-Table.new.steps ≤ c.args.steps.now + choice_steps flags) is c.chosen_counted-in-Table.ensures.most
