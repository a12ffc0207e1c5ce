use Rattle.std.proofs.Common.{◌≡◌, ◌+◌, ◌≤◌, take, drop, sym, ap, ◌∙◌, subst, arith}
use Rattle.std.specs.Prelude.{not, IfOk, OnOk}
use Rattle.shared_leaves.specs.declared.leaf.TheConstants.{LEAF_ENTRIES}
use Rattle.shared_leaves.specs.Choices.{chosen, flags_of_runs, made_with, piece_steps, which}
use Rattle.shared_leaves.proofs.RunLemmas.{run_gone, run_taken}
use Rattle.shared_leaves.proofs.runs.Place.next_leaf.Goals as goal

pub returns-then-self-ge-LEAF_ENTRIES-clause-value : goal.returns-then-self-ge-LEAF_ENTRIES-clause-value
returns-then-self-ge-LEAF_ENTRIES-clause-value g c =
    let run = c.open_run.new.self in
    let piece = ap (λ fs. take LEAF_ENTRIES fs) (sym c.open_run.ensures.same)
    ∙ run_taken LEAF_ENTRIES run.left run.flag (flags_of_runs (not run.flag) (drop run.next c.args.runs.now)) (omega arith) in
    subst (λ p. IfOk c.leaf_in_run.result (λ leaf. leaf ≡ chosen c.args.set.now c.args.unset.now p)) (sym piece) c.leaf_in_run.ensures.value

pub returns-then-self-ge-LEAF_ENTRIES-clause-rest : goal.returns-then-self-ge-LEAF_ENTRIES-clause-rest
returns-then-self-ge-LEAF_ENTRIES-clause-rest g c =
    let run = c.open_run.new.self in
    run_gone LEAF_ENTRIES run.left run.flag (flags_of_runs (not run.flag) (drop run.next c.args.runs.now)) (omega arith) ∙ ap (λ fs. drop LEAF_ENTRIES fs) c.open_run.ensures.same

pub returns-then-self-ge-LEAF_ENTRIES-clause-after : goal.returns-then-self-ge-LEAF_ENTRIES-clause-after
returns-then-self-ge-LEAF_ENTRIES-clause-after g c =
    let run = c.open_run.new.self in
    let piece = ap (λ fs. take LEAF_ENTRIES fs) (sym c.open_run.ensures.same)
    ∙ run_taken LEAF_ENTRIES run.left run.flag (flags_of_runs (not run.flag) (drop run.next c.args.runs.now)) (omega arith) in
    subst (λ p. OnOk c.leaf_in_run.result (which c.leaf_in_run.new.made.set c.leaf_in_run.new.made.unset ≡ made_with p (which c.args.made.now.set c.args.made.now.unset)))
    (sym piece) c.leaf_in_run.ensures.after

pub returns-then-self-ge-LEAF_ENTRIES-clause-cost : goal.returns-then-self-ge-LEAF_ENTRIES-clause-cost
returns-then-self-ge-LEAF_ENTRIES-clause-cost g c =
    let run = c.open_run.new.self in
    let piece = ap (λ fs. take LEAF_ENTRIES fs) (sym c.open_run.ensures.same)
    ∙ run_taken LEAF_ENTRIES run.left run.flag (flags_of_runs (not run.flag) (drop run.next c.args.runs.now)) (omega arith) in
    subst (λ p. OnOk c.leaf_in_run.result (c.leaf_in_run.new.steps ≡ c.args.steps.now + piece_steps p (which c.args.made.now.set c.args.made.now.unset)))
    (sym piece) c.leaf_in_run.ensures.cost

pub returns-then-self-ge-LEAF_ENTRIES-clause-most : goal.returns-then-self-ge-LEAF_ENTRIES-clause-most
returns-then-self-ge-LEAF_ENTRIES-clause-most g c =
    let run = c.open_run.new.self in
    let piece = ap (λ fs. take LEAF_ENTRIES fs) (sym c.open_run.ensures.same)
    ∙ run_taken LEAF_ENTRIES run.left run.flag (flags_of_runs (not run.flag) (drop run.next c.args.runs.now)) (omega arith) in
    subst (λ p. c.leaf_in_run.new.steps ≤ c.args.steps.now + piece_steps p (which c.args.made.now.set c.args.made.now.unset)) (sym piece) c.leaf_in_run.ensures.most

pub returns-clause-value : goal.returns-clause-value
returns-clause-value g c =
    let piece = c.next_flags.ensures.flags ∙ ap (λ fs. take LEAF_ENTRIES fs) c.open_run.ensures.same in
    subst (λ p. IfOk c.leaf_of.result (λ leaf. leaf ≡ chosen c.args.set.now c.args.unset.now p)) piece c.leaf_of.ensures.value

pub returns-clause-rest : goal.returns-clause-rest
returns-clause-rest g c = c.next_flags.ensures.rest ∙ ap (λ fs. drop LEAF_ENTRIES fs) c.open_run.ensures.same

pub returns-clause-after : goal.returns-clause-after
returns-clause-after g c =
    let piece = c.next_flags.ensures.flags ∙ ap (λ fs. take LEAF_ENTRIES fs) c.open_run.ensures.same in
    subst (λ p. OnOk c.leaf_of.result (which c.leaf_of.new.made.set c.leaf_of.new.made.unset ≡ made_with p (which c.args.made.now.set c.args.made.now.unset)))
    piece c.leaf_of.ensures.after

pub returns-clause-cost : goal.returns-clause-cost
returns-clause-cost g c =
    let piece = c.next_flags.ensures.flags ∙ ap (λ fs. take LEAF_ENTRIES fs) c.open_run.ensures.same in
    subst (λ p. OnOk c.leaf_of.result (c.leaf_of.new.steps ≡ c.args.steps.now + piece_steps p (which c.args.made.now.set c.args.made.now.unset)))
    piece c.leaf_of.ensures.cost

pub returns-clause-most : goal.returns-clause-most
returns-clause-most g c =
    let piece = c.next_flags.ensures.flags ∙ ap (λ fs. take LEAF_ENTRIES fs) c.open_run.ensures.same in
    subst (λ p. c.leaf_of.new.steps ≤ c.args.steps.now + piece_steps p (which c.args.made.now.set c.args.made.now.unset)) piece c.leaf_of.ensures.most
