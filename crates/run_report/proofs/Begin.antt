-- The lines of a tree begin with that of its machine.
use Rattle.std.proofs.Common.{◌≡◌, ℕ, eqb, eqb-true, Bool, true, false, cond, refl, ap, ap₂, ◌∙◌, List, [], ◌∷◌, ◌++◌, Some}
use Rattle.std.specs.List.{flat_map}
use Rattle.std.proofs.lemmas.List.{append-nil}
use Rattle.fork_port.specs.declared.ending.Ending.{Ending}
use Rattle.forest_tree.specs.Tree.{Broods, no_brood, brood, Log, Path, Tree, Trees, node, brood_of}
use Rattle.sibling_forest.specs.Talk.{Box}
use Rattle.forest_model.specs.Machine.{Machine}
use Rattle.run_report.specs.Lines.{Told, block_of, in_order, lines, log_lines, trees_lines, blocks, machine_line, text_of}
use Rattle.run_report.specs.Report.{Ended, lines_of, report, report_of, told_box}
use Rattle.run_report.specs.Summary.{summary, summary_of, summary_text, summed}

-- where there are no children no line is of them
none-in-order : (tickets : List ℕ) → in_order tickets [] ≡ []
unfolding in_order block_of
none-in-order [] = refl
none-in-order (t ∷ tickets) = none-in-order tickets

module _ {M : Type 0} (said : Told M) (path : Path) where
  block-by : (t u : ℕ) (trees : Trees M) (rest : Broods M) (same : Bool) → eqb u t ≡ same
      → block_of t (blocks said path rest) ≡ trees_lines said path t 1 (brood_of t rest)
      → cond same (trees_lines said path u 1 trees) (block_of t (blocks said path rest)) ≡ trees_lines said path t 1 (cond same trees (brood_of t rest))
  block-by t u trees rest true e is = ap (λ n. trees_lines said path n 1 trees) (eqb-true u t e)
  block-by t u trees rest false e is = is

  -- the lines of a ticket are those of its brood
  pub block-is : (t : ℕ) (broods : Broods M) → block_of t (blocks said path broods) ≡ trees_lines said path t 1 (brood_of t broods)
  unfolding lines block_of brood_of
  block-is t no_brood = refl
  block-is t (brood u trees rest) = block-by t u trees rest (eqb u t) refl (block-is t rest)

  pub in-order-is : (tickets : List ℕ) (broods : Broods M)
      → in_order tickets (blocks said path broods) ≡ flat_map (λ t. trees_lines said path t 1 (brood_of t broods)) tickets
  unfolding in_order
  in-order-is [] broods = refl
  in-order-is (t ∷ tickets) broods = ap₂ (λ own rest. own ++ rest) (block-is t broods) (in-order-is tickets broods)

  pub lines-all : (m : M) (broods : Broods M) (log : Log M)
      → lines said path (node m broods log) ≡ machine_line path (said.ending m) (said.steps m) (said.output m)
      ∷ (log_lines said path log ++ flat_map (λ t. trees_lines said path t 1 (brood_of t broods)) (said.cloned m))
  unfolding lines
  lines-all m broods log =
      ap (λ rest. machine_line path (said.ending m) (said.steps m) (said.output m) ∷ (log_lines said path log ++ rest)) (in-order-is (said.cloned m) broods)

  pub lines-childless : (m : M) (log : Log M)
      → lines said path (node m no_brood log) ≡ machine_line path (said.ending m) (said.steps m) (said.output m) ∷ log_lines said path log
  unfolding lines
  lines-childless m log =
      ap (λ rest. machine_line path (said.ending m) (said.steps m) (said.output m) ∷ rest)
      (ap (λ rest. log_lines said path log ++ rest) (none-in-order (said.cloned m)) ∙ append-nil (log_lines said path log))

  pub lines-ended : (m : M) (log : Log M) (ending : Ending) → said.ending m ≡ Some ending
      → lines said path (node m no_brood log) ≡ machine_line path (Some ending) (said.steps m) (said.output m) ∷ log_lines said path log
  lines-ended m log ending h =
      lines-childless m log ∙ ap (λ e. machine_line path e (said.steps m) (said.output m) ∷ log_lines said path log) h

pub report-root : (b : Box Machine) (broods : Broods (Box Machine)) (log : Log (Box Machine))
    → report (node b broods log)
    ≡ report_of (record {
      name = [];
      ending = b.machine.ending;
      steps = b.machine.steps;
      output = b.machine.state.ports.console.output;
      log = log_lines told_box [] log ++ flat_map (λ ticket. trees_lines told_box [] ticket 1 (brood_of ticket broods)) (told_box.cloned b);
    })
unfolding report lines_of
report-root b broods log = ap text_of (lines-all told_box [] b broods log)

pub summary-root : (seed : ℕ) (b : Box Machine) (broods : Broods (Box Machine)) (log : Log (Box Machine))
    → summary seed (node b broods log)
    ≡ summary_of seed (record {
      name = [];
      ending = b.machine.ending;
      steps = b.machine.steps;
      output = b.machine.state.ports.console.output;
      log = log_lines told_box [] log ++ flat_map (λ ticket. trees_lines told_box [] ticket 1 (brood_of ticket broods)) (told_box.cloned b);
    })
unfolding summary summary_of lines_of
summary-root seed b broods log = ap (λ all. summary_text seed (summed all)) (lines-all told_box [] b broods log)

-- ---- an outcome that has the lines of a forest

pub outcome-report : (outcome : Ended) (t : Tree (Box Machine)) → lines_of outcome ≡ lines told_box [] t → report_of outcome ≡ report t
unfolding report
outcome-report outcome t same = ap text_of same

pub outcome-summary : (seed : ℕ) (outcome : Ended) (t : Tree (Box Machine)) → lines_of outcome ≡ lines told_box [] t → summary_of seed outcome ≡ summary seed t
unfolding summary summary_of
outcome-summary seed outcome t same = ap (λ all. summary_text seed (summed all)) same
