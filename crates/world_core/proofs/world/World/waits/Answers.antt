use Rattle.std.proofs.Common.{◌≡◌, false, IsSome, Some, None, refl, sym, ap, ◌∙◌, subst}
use Rattle.std.specs.BTreeMap.{get_by}
use Rattle.forest_tree.specs.Tree.{Tree, node}
use Rattle.forest_tree.proofs.Places.{some-same}
use Rattle.machine_names.specs.NameOrder.{path_cmp}
use Rattle.world_core.specs.declared.cell.Cell.{Cell}
use Rattle.world_core.specs.Lent.{vm_of}
use Rattle.world_core.specs.Shows.{Member, Holds}
use Rattle.world_core.specs.Answers.{stands_waiting_of}
use Rattle.world_core.proofs.Steps.{lent_out}
use Rattle.world_core.proofs.Waiting.{waits-join, waits-none}
use Rattle.world_core.proofs.Returns.{match-handed}
use Rattle.world_core.proofs.world.World.waits.Goals as goal

pub returns-in_default : goal.returns-in_default
returns-in_default c depot f stands out_as =
    let lease = c.args.lease.now in
    match-handed depot c.args.self.now f lease (false ≡ false) (λ t. false ≡ stands_waiting_of (vm_of lease) lease.name f.tree) stands out_as
    (λ none. refl)
    (λ start inbox broods log cell is_as is.
    let no : None ≡ Some cell = c.in_default.ensures.value ∙ ap (λ name. get_by (path_cmp name) c.args.self.now.cells) c.name.ensures ∙ is.cell in
    absurd (cc))

pub returns-in-None : goal.returns-in-None
returns-in-None c depot f stands out_as =
    let lease = c.args.lease.now in
    match-handed depot c.args.self.now f lease (false ≡ false) (λ t. false ≡ stands_waiting_of (vm_of lease) lease.name f.tree) stands out_as
    (λ none. refl)
    (λ start inbox broods log cell is_as is.
    waits-none (vm_of lease) lease.name f.tree (node (lent_out inbox start) broods log) is.there c.in-None.ensures (sym c.in_default-talk.ensures))

pub returns-in-Some-joins : goal.returns-in-Some-joins
returns-in-Some-joins c depot f stands out_as =
    let lease = c.args.lease.now in
    match-handed depot c.args.self.now f lease (c.waits.result ≡ false) (λ t. c.waits.result ≡ stands_waiting_of (vm_of lease) lease.name f.tree) stands out_as
    (λ none.
    let no : None ≡ Some c.in-Some.cell.now =
    sym none ∙ sym (ap (λ name. get_by (path_cmp name) c.args.self.now.cells) c.name.ensures) ∙ sym c.in-Some.ensures.value in
    absurd (cc))
    (λ start inbox broods log cell is_as is.
    let t : Tree Member = node (lent_out inbox start) broods log in
    let found : Some c.in-Some.cell.now ≡ Some cell =
    c.in-Some.ensures.value ∙ ap (λ name. get_by (path_cmp name) c.args.self.now.cells) c.name.ensures ∙ is.cell in
    c.waits.ensures depot lease.name t (subst (λ (d : Cell). Holds depot lease.name d t) (sym (some-same c.in-Some.cell.now cell found)) is.shows.holds)
    ∙ waits-join (vm_of lease) lease.name f.tree t is.there c.in-Some-joins.ticket c.in-Some-joins.ensures)

pub returns-in-Some-talk : goal.returns-in-Some-talk
returns-in-Some-talk c depot f stands out_as =
    let lease = c.args.lease.now in
    match-handed depot c.args.self.now f lease (c.talk_waits.result ≡ false) (λ t. c.talk_waits.result ≡ stands_waiting_of (vm_of lease) lease.name f.tree) stands out_as
    (λ none.
    let no : None ≡ Some c.in-Some.cell.now =
    sym none ∙ sym (ap (λ name. get_by (path_cmp name) c.args.self.now.cells) c.name.ensures) ∙ sym c.in-Some.ensures.value in
    absurd (cc))
    (λ start inbox broods log cell is_as is. c.talk_waits.ensures depot f stands out_as (subst IsSome (sym is.there) refl))
