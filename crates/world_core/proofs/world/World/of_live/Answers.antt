use Rattle.world_core.specs.Images.{IsImageAt}
use Rattle.world_core.proofs.Images.{none, put}
use Rattle.std.proofs.Common.{◌≡◌, [], ◌∷◌, Some, None, sym, ap, ap₂, ◌∙◌, subst}
use Rattle.std.specs.BTreeMap.{Updates, is_at}
use Rattle.std.specs.Map.{lookup}
use Rattle.forest_tree.specs.Step.{alone}
use Rattle.forest_model.specs.Paged.{Paged}
use Rattle.machine_names.specs.NameOrder.{path_cmp}
use Rattle.vm_cell.specs.Keyed.{KeyedMachine, IsOfDepot, paged}
use Rattle.ready_queue.specs.Ready.{Ready}
use Rattle.world_core.specs.Shows.{forest, CellShows}
use Rattle.world_core.specs.World.{rests_in}
use Rattle.world_core.proofs.Beginning.{at_start, none-cloned, start-stands}
use Rattle.world_core.proofs.world.World.of_live.Goals as goal

pub returns-clause-stands : goal.returns-clause-stands
returns-clause-stands c = λ depot.
    let vm = paged c.args.vm in
    let boxed : c.in_ok-vm.vm.value ≡ c.args.vm = c.in_ok-vm.ensures.ok in
    let same : paged c.in_ok-vm.vm.value ≡ vm = ap paged boxed in
    let of_depot : IsOfDepot depot c.in_ok-vm.vm.value.key = λ key some. let no : None ≡ Some key = sym (ap (λ (v : KeyedMachine). v.key) boxed ∙ c.requires.every_page) ∙ some in absurd (cc) in
    let list : c.push.new.self ≡ record { name = []; children = None } ∷ [] =
    c.push.ensures ∙ ap₂ (λ (w : Ready) rest. w ∷ rest)
    (c.in_ok-turn.ensures ∙ ap (λ n. let own : Ready = record { name = n; children = None } in own) (c.in_ok-copy.ensures ∙ c.in_ok-name.ensures)) c.new-ready.ensures in
    let inserted : Updates path_cmp c.new-cells.result c.seat.new.cells [] (Some c.of_root.result) =
    subst (λ name. Updates path_cmp c.new-cells.result c.seat.new.cells name (Some c.of_root.result)) c.in_ok-name.ensures c.in_ok-seat.ensures.ok in
    let resting = rests_in (alone forest (at_start vm)) [] in
    let shows : CellShows depot [] resting c.of_root.result (alone forest (at_start vm)) =
    subst (λ m. CellShows depot [] resting c.of_root.result (alone forest (at_start m))) same
    (c.of_root.ensures.shows depot resting [] (ap (λ (p : Paged). p.machine.ending) same ∙ c.requires.lives) of_depot
    (none-cloned (paged c.in_ok-vm.vm.value) (ap (λ (p : Paged). p.machine.state.ports.fork.tickets) same ∙ c.requires.no_ticket))) in
    start-stands depot vm c.new-cells.result c.seat.new.cells c.push.new.self c.of_root.result c.new-told.result c.in_ok-leases.leases c.requires.lives c.requires.no_ticket c.requires.no_siblings c.requires.good
    (λ name. ap (lookup (is_at (path_cmp name))) c.new-cells.ensures.empty) inserted shows list

pub returns-clause-images : goal.returns-clause-images
returns-clause-images c images =
    let boxed : c.in_ok-vm.vm.value ≡ c.args.vm = c.in_ok-vm.ensures.ok in
    let at : IsImageAt images [] c.in_ok-vm.vm.value.key = subst (IsImageAt images []) (sym (ap (λ (v : KeyedMachine). v.key) boxed ∙ c.requires.every_page)) tt in
    put images c.new-cells.result c.seat.new.cells [] c.of_root.result
    (subst (λ name. Updates path_cmp c.new-cells.result c.seat.new.cells name (Some c.of_root.result)) c.in_ok-name.ensures c.in_ok-seat.ensures.ok)
    (c.of_root.ensures.images images [] at) (none images c.new-cells.result (λ name. ap (lookup (is_at (path_cmp name))) c.new-cells.ensures.empty))
