-- The world of one machine.
use Rattle.sibling_forest.specs.Talk.{boxed}
use Rattle.std.proofs.Common.{◌≡◌, ◌≢◌, ℕ, true, false, refl, sym, ap, ◌∙◌, subst, List, [], ◌∷◌, Some, None, is_some}
use Rattle.std.specs.Global.{Vec}
use Rattle.std.specs.Option.{IfSome}
use Rattle.std.specs.BTreeMap.{BTreeMap, Updates, get}
use Rattle.image_depot.specs.Key.{Shelves}
use Rattle.image_depot.specs.Reply.{Delivery}
use Rattle.port_rules.specs.Rules.{cloned_numbers}
use Rattle.forest_tree.specs.Operations.{is_among, is_cloned}
use Rattle.forest_tree.specs.Tree.{Tree, no_entry, child_at, brood_of, Branch, Path, subtree}
use Rattle.forest_tree.specs.Step.{alone}
use Rattle.fork_port.specs.declared.ending.Ending.{Ending}
use Rattle.talking_history.specs.Places.{home, spots}
use Rattle.talking_history.specs.World.{world_of, holds, lives_ready}
use Rattle.talking_history.proofs.Ends.{start-whole}
use Rattle.forest_model.proofs.Paged.{paged-rules, paged-talk}
use Rattle.forest_model.specs.Forest.{machines, port_of, talks}
use Rattle.forest_model.specs.Paged.{Paged, paged_machines, paged_talks}
use Rattle.run_report.specs.Lines.{machine_line, lines}
use Rattle.run_report.proofs.Begin.{lines-ended}
use Rattle.machine_names.specs.NameOrder.{path_cmp}
use Rattle.run_report.specs.Report.{Ended, lines_of}
use Rattle.machine_names.proofs.NameMaps.{updated-here, updated-apart}
use Rattle.world_core.specs.declared.cell.Cell.{Cell}
use Rattle.world_core.specs.declared.reason.Reason.{Reason}
use Rattle.world_core.specs.declared.world.World.{World}
use Rattle.world_core.specs.declared.world.leases.Leases.{Leases}
use Rattle.ready_queue.specs.Ready.{Ready}
use Rattle.world_core.specs.Listed.{IsListed}
use Rattle.world_core.specs.Shows.{Member, forest, told_member, CellShows, Shows}
use Rattle.world_core.specs.World.{IsDue, IsForest, StandsFor, is_ready_in, rests_in}
use Rattle.world_core.proofs.Ready.{IsListed-first}

-- a machine without tickets has cloned none
no-ticket : (vm : Paged) → (port_of vm.machine).tickets ≡ [] → paged_machines.cloned vm ≡ []
unfolding paged_machines machines cloned_numbers
no-ticket vm none = ap cloned_numbers none

pub none-cloned : (vm : Paged) → (port_of vm.machine).tickets ≡ [] → (ticket : ℕ) → is_cloned paged_machines vm ticket ≡ false
unfolding is_among
none-cloned vm none ticket = ap (is_among ticket) (no-ticket vm none)

-- a machine at home, to which no word waits
abbrev pub at_start : Paged → Member
at_start vm = record { machine = record { machine = vm; place = home }; inbox = [] }

start-forest : (vm : Paged) → (port_of vm.machine).tickets ≡ [] → vm.machine.state.ports.sibling.siblings ≡ 0 → machines.is_good vm.machine ≡ true
    → IsForest (world_of paged_machines paged_talks {R = Reason} vm).tree
unfolding paged_machines paged_talks talks
start-forest vm none single good = start-whole paged_machines paged_talks paged-rules paged-talk Reason vm good (no-ticket vm none) single

-- ---- a machine that has ended

own-line : (vm : Paged) (ending : Ending) → vm.machine.ending ≡ Some ending
    → lines told_member [] (alone forest (at_start vm)) ≡ machine_line [] (Some ending) vm.machine.steps vm.machine.state.ports.console.output ∷ []
unfolding lines
own-line vm ending over = lines-ended told_member [] (at_start vm) no_entry ending over

pub end-stands : (depot : Shelves) (vm : Paged) (ending : Ending) (outcome : Ended) (cells : BTreeMap Path Cell) (list : List Ready) (told : Vec Delivery) (leases : Leases)
    → vm.machine.ending ≡ Some ending → (port_of vm.machine).tickets ≡ [] → vm.machine.state.ports.sibling.siblings ≡ 0 → machines.is_good vm.machine ≡ true
    → ((name : Path) → get path_cmp cells name ≡ None)
    → outcome ≡ record { name = []; ending = Some ending; steps = vm.machine.steps; output = vm.machine.state.ports.console.output; log = [] }
    → StandsFor depot (record { cells = cells; ready = list; halted = None; told = told; outcome = Some outcome; leases = leases }) (world_of paged_machines paged_talks vm)
unfolding boxed spots paged_machines machines lines_of
end-stands depot vm ending outcome cells list told leases over none single good empty is = record {
  whole = start-forest vm none single good;
  halted = refl;
  tree = record {
    ended = ap is_some over;
    home = refl;
    lines = ap lines_of is ∙ sym (own-line vm ending over);
    cells = empty;
  };
}

-- ---- a machine that lives

module _ (depot : Shelves) (vm : Paged) (old cells : BTreeMap Path Cell) (list : List Ready) (cell : Cell) (told : Vec Delivery) (leases : Leases) where
  abbrev first : Tree Member
  first = alone forest (at_start vm)

  abbrev start : World
  start = record { cells = cells; ready = list; halted = None; told = told; outcome = None; leases = leases }

  none-below : (x : Branch) (rest : Path) → subtree (x ∷ rest) first ≡ None
  unfolding subtree brood_of child_at
  none-below x rest = refl

  root-apart : (x : Branch) (rest : Path) → [] ≢ x ∷ rest
  root-apart x rest e = cc

  pub start-stands : vm.machine.ending ≡ None → (port_of vm.machine).tickets ≡ [] → vm.machine.state.ports.sibling.siblings ≡ 0 → machines.is_good vm.machine ≡ true
      → ((name : Path) → get path_cmp old name ≡ None)
      → Updates path_cmp old cells [] (Some cell) → CellShows depot [] (rests_in first []) cell first → list ≡ record { name = []; children = None } ∷ []
      → StandsFor depot start (world_of paged_machines paged_talks vm)
  unfolding subtree paged_machines
  start-stands lives none single good empty inserted shows listed = record {
    whole = start-forest vm none single good;
    halted = refl;
    tree = record {
      root = shows.awake;
      each = record { cells = at; ready = due; listed = turn };
    };
  }
    where
      here_is : get path_cmp cells [] ≡ Some cell
      here_is = updated-here old cells [] (Some cell) inserted

      gone_is : (x : Branch) (rest : Path) → get path_cmp cells (x ∷ rest) ≡ None
      gone_is x rest = updated-apart old cells [] (Some cell) inserted (x ∷ rest) (root-apart x rest) ∙ empty (x ∷ rest)

      named : IsListed [] list
      named = subst (IsListed []) (sym listed) (IsListed-first [] (record { name = []; children = None }) [] refl)

      at : (name : Path) → Shows depot name (rests_in first name) (get path_cmp cells name) (subtree name first)
      at [] = subst (λ o. Shows depot [] (rests_in first []) o (Some first)) (sym here_is) shows
      at (x ∷ rest) =
          subst (λ o. Shows depot (x ∷ rest) (rests_in first (x ∷ rest)) o (subtree (x ∷ rest) first)) (sym (gone_is x rest))
          (subst (Shows depot (x ∷ rest) (rests_in first (x ∷ rest)) None) (sym (none-below x rest)) tt)

      due : (name : Path) → is_ready_in (rests_in first) name first ≡ true → IsDue (get path_cmp cells name) name list
      due [] ready = subst (λ o. IsDue o [] list) (sym here_is) named
      due (x ∷ rest) ready =
          let no : false ≡ true = sym (ap (holds (lives_ready paged_machines paged_talks (rests_in first (x ∷ rest)))) (none-below x rest)) ∙ ready in absurd (cc)

      turn : (name : Path) → IfSome (get path_cmp cells name) (λ (c : Cell). c.is_listed ≡ true → IsListed name list)
      turn [] = subst (λ o. IfSome o (λ (c : Cell). c.is_listed ≡ true → IsListed [] list)) (sym here_is) (λ is. named)
      turn (x ∷ rest) = subst (λ o. IfSome o (λ (c : Cell). c.is_listed ≡ true → IsListed (x ∷ rest) list)) (sym (gone_is x rest)) tt
