-- A world after a KILL.
use Rattle.sibling_forest.specs.Talk.{Inbox, boxed}
use Rattle.std.proofs.lemmas.Map.Entries.{lookup-filter-keys}
use Rattle.std.specs.Map.{lookup}
use Rattle.std.specs.List.{filter}
use Rattle.std.proofs.Common.{◌≡◌, ◌≢◌, ℕ, ◌&&◌, not, eqb, Bool, true, false, cond, refl, sym, ap, ap₂, ◌∙◌, subst, [], ◌∷◌, ◌++◌, Option, Some, None, is_some}
use Rattle.std.specs.BTreeMap.{BTreeMap, WritesThrough, get, is_at}
use Rattle.std.proofs.lemmas.List.{append-nil}
use Rattle.image_depot.specs.Key.{Shelves}
use Rattle.fork_port.specs.declared.commands.Call.TheVariants.{Kill}
use Rattle.forest_tree.specs.Operations.{kill, Makes}
use Rattle.forest_tree.specs.Tree.{killed as dead}
use Rattle.forest_tree.specs.Tree.{Tree, node, Broods, Log, machine, without, Branch, Path, beyond}
use Rattle.forest_tree.specs.Step.{step, waits, waits_by}
use Rattle.forest_tree.proofs.Steps.{step-lives}
use Rattle.forest_tree.proofs.Sound.{root-sound}
use Rattle.forest_tree.proofs.Broods.{eqb-sym}
use Rattle.talking_history.specs.Places.{home, spots, placed}
use Rattle.talking_history.specs.Rows.{is_kill, killed, may_spend}
use Rattle.forest_model.specs.Calls.{after_kill}
use Rattle.forest_model.specs.Forest.{machines}
use Rattle.forest_model.specs.Paged.{Paged, paged_machines, paged_talks}
use Rattle.machine_names.specs.Name.{begins_with}
use Rattle.machine_names.specs.NameOrder.{path_cmp}
use Rattle.machine_names.proofs.NameMaps.{yes-same}
use Rattle.vm_cell.specs.Standing.{standing_call}
use Rattle.world_core.specs.declared.cell.Cell.{Cell}
use Rattle.world_core.specs.declared.world.World.{World}
use Rattle.world_core.specs.Lent.{Lent, IsLent, vm_of, now_of}
use Rattle.world_core.specs.Shows.{Member, paged_of, forest, Holds, HoldsAfter, StandsAt, killed_tree}
use Rattle.world_core.specs.World.{Forest, StandsFor}
use Rattle.world_core.specs.Between.{IsBetween, settled_tree}
use Rattle.world_core.specs.Answers.{IsHandedOut}
use Rattle.machine_names.proofs.Below.{beyond-append}
use Rattle.world_core.proofs.Returns.{apart-below, apart-outside, some-is, written-here, written-apart}
use Rattle.world_core.proofs.Steps.{came_out, lent_out, forest-rules}
use Rattle.world_core.proofs.Giving.{stepped-heard}
use Rattle.world_core.proofs.Calling.{StandsHere, lives-out, spent-whole, spent-goes, whole-gone, gone-between, found-here, Called}

-- a map of which some names are dropped
pub kept-get : (m n : BTreeMap Path Cell) (p : Path → Bool) → n.entries ≡ filter (λ (e : Path × Cell). not (p e.0)) m.entries → (q : Path)
    → get path_cmp n q ≡ cond (p q) None (get path_cmp m q)
kept-get m n p kept q =
    ap (lookup (is_at (path_cmp q))) kept
    ∙ lookup-filter-keys (is_at (path_cmp q)) (λ k. not (p k)) (not (p q)) (λ k same. ap (λ u. not (p u)) (sym (yes-same q k same))) m.entries
    ∙ by (p q) (get path_cmp m q)
  where
    by : (is : Bool) (o : Option Cell) → cond (not is) o None ≡ cond is None o
    by true o = refl
    by false o = refl

-- the cells once those below a ticket are dropped
module _ (before cells swept : BTreeMap Path Cell) (name : Path) (ticket : ℕ) (d : Cell) (put : get path_cmp cells name ≡ Some d)
    (others : (q : Path) → name ≢ q → get path_cmp cells q ≡ get path_cmp before q)
    (kept : (q : Path) → get path_cmp swept q ≡ cond (begins_with ticket (beyond name q)) None (get path_cmp cells q)) where
  looked : (q : Path) (way : Option Path) → beyond name q ≡ way → get path_cmp swept q ≡ cond (begins_with ticket way) None (get path_cmp cells q)
  looked q way e = kept q ∙ ap (λ u. cond (begins_with ticket u) None (get path_cmp cells q)) e

  pub sweep-here : get path_cmp swept name ≡ Some d
  sweep-here = looked name (Some []) (ap (beyond name) (sym (append-nil name)) ∙ beyond-append name []) ∙ put

  pub sweep-outside : (q : Path) → beyond name q ≡ None → get path_cmp swept q ≡ get path_cmp before q
  sweep-outside q none = looked q None none ∙ others q (apart-outside name q none)

  pub sweep-below : (x : Branch) (rest : Path) → get path_cmp swept (name ++ x ∷ rest) ≡ cond (eqb ticket x.ticket) None (get path_cmp before (name ++ x ∷ rest))
  sweep-below x rest =
      looked (name ++ x ∷ rest) (Some (x ∷ rest)) (beyond-append name (x ∷ rest))
      ∙ ap₂ (λ same (o : Option Cell). cond same None o) (eqb-sym x.ticket ticket) (others (name ++ x ∷ rest) (apart-below name x rest))

module _ (depot : Shelves) (w v : World) (f : Forest) (lease : Lent) (ticket : ℕ) (start : Paged) (inbox : Inbox) (broods : Broods Member) (log : Log Member) (c d : Cell)
    (h : StandsHere depot w f lease (kill ticket) start inbox broods log c) where
  makes-kill : Makes forest (lent_out inbox (now_of lease)) (Some (kill ticket))
  unfolding boxed spots
  makes-kill = record {
    good = (root-sound forest (lent_out inbox (now_of lease)) broods log h.at.sound).good;
    lives = lives-out inbox (now_of lease) h.at.lives;
    call = h.at.at_call;
  }

  -- the machine with the words to it after the step
  killed-box : forest.after_kill (lent_out inbox (now_of lease)) ≡ came_out inbox (record (now_of lease) { machine = after_kill lease.now })
  unfolding boxed spots paged_machines machines
  killed-box = refl

  pub killed-between : v.ready ≡ w.ready → v.halted ≡ w.halted → v.outcome ≡ w.outcome → get path_cmp v.cells lease.name ≡ Some d → d.is_listed ≡ c.is_listed
      → ((q : Path) → beyond lease.name q ≡ None → get path_cmp v.cells q ≡ get path_cmp w.cells q)
      → ((x : Branch) (rest : Path) → get path_cmp v.cells (lease.name ++ x ∷ rest) ≡ cond (eqb ticket x.ticket) None (get path_cmp w.cells (lease.name ++ x ∷ rest)))
      → HoldsAfter depot lease.name d (killed_tree ticket (node (lent_out inbox (now_of lease)) broods log))
      → IsBetween depot v f lease.name (killed_tree ticket (node (lent_out inbox (now_of lease)) broods log))
  killed-between ready halted outcome found same elsewhere swept after_it =
      let s = lent_out inbox (now_of lease) in
      let count : ℕ = (forest.grant s ticket).children in
      gone-between depot w v f lease.name ticket (lent_out inbox start) (forest.after_kill s) broods log (dead log ticket count) c d h.is ready found elsewhere swept h.whole
      (whole-gone ticket s (forest.after_kill s) broods log (dead log ticket count) h.at.sound (lives-out inbox (now_of lease) h.at.lives) (forest-rules.after_kill s ticket makes-kill))
      (stepped-heard inbox (record (now_of lease) { machine = after_kill lease.now }) s (forest.after_kill s) (node (lent_out inbox start) broods log)
      (without ticket broods) (dead log ticket count) killed-box refl)
      after_it same (halted ∙ h.halted) outcome

  pub killed-spend : placed home (step forest (node (lent_out inbox (now_of lease)) broods log)) ≡ placed home (settled_tree (killed_tree ticket (node (lent_out inbox (now_of lease)) broods log)))
  unfolding boxed spots
  killed-spend =
      ap (placed home) (step-lives forest (lent_out inbox (now_of lease)) broods log (Some (kill ticket)) (lives-out inbox (now_of lease) h.at.lives) h.at.at_call)

  pub killed-may : may_spend paged_machines paged_talks killed (now_of lease) (waits forest (node (lent_out inbox (now_of lease)) broods log)) ≡ true
  unfolding boxed spots paged_machines machines
  killed-may =
      ap₂ (λ ending call. (not (is_some ending) && is_kill call) && not (waits_by forest call broods)) h.at.lives h.at.at_call

  pub killed-machine : paged_of (machine (killed_tree ticket (node (lent_out inbox (now_of lease)) broods log))) ≡ record (now_of lease) { machine = after_kill lease.now }
  unfolding boxed spots paged_machines machines
  killed-machine = refl

pub kill-called : (depot : Shelves) (w : World) (f : Forest) (lease : Lent) (ticket : ℕ) (c d : Cell) (cells swept : BTreeMap Path Cell) (name sweep : Path) (vm after : Paged)
    → StandsFor depot w f → IsHandedOut f lease → IsLent lease.start lease.ran lease.now → Some (Kill ticket) ≡ standing_call (vm_of lease)
    → Some c ≡ get path_cmp w.cells lease.name → name ≡ lease.name → sweep ≡ lease.name → vm ≡ now_of lease → WritesThrough path_cmp (path_cmp lease.name) w.cells d cells
    → ((q : Path) → get path_cmp swept q ≡ cond (begins_with ticket (beyond sweep q)) None (get path_cmp cells q)) → d.is_listed ≡ c.is_listed
    → ((t : Tree Member) (depot : Shelves) (path : Path) → Holds depot path c t → StandsAt vm (kill ticket) t → HoldsAfter depot path d (killed_tree ticket t))
    → after ≡ record vm { machine = after_kill vm.machine } → Called depot (record w { cells = swept }) f lease killed name after
kill-called depot w f lease ticket c d cells swept name sweep vm after h out_as lent at found name_is sweep_is vm_is written kept listed holds_after made =
    let here_is = found-here depot w f lease (Kill ticket) c h out_as lent at found in
    let s = here_is.stands in
    let v : World = record w { cells = swept } in
    let u : Tree Member = node (lent_out here_is.inbox (now_of lease)) here_is.broods here_is.log in
    let some = some-is c (get path_cmp w.cells lease.name) found in
    let put = written-here w.cells cells lease.name d written some in
    let others = written-apart w.cells cells lease.name d written some in
    let kept_as = subst (λ n. (q : Path) → get path_cmp swept q ≡ cond (begins_with ticket (beyond n q)) None (get path_cmp cells q)) sweep_is kept in
    let after_it = holds_after u depot lease.name s.holds (subst (λ m. StandsAt m (kill ticket) u) (sym vm_is) s.at) in
    let becomes = killed-spend depot w v f lease ticket here_is.start here_is.inbox here_is.broods here_is.log c d s in
    subst (λ n. Called depot v f lease killed n after) (sym name_is) (record {
      tree = killed_tree ticket u;
      between = killed-between depot w v f lease ticket here_is.start here_is.inbox here_is.broods here_is.log c d s refl refl refl
          (sweep-here w.cells cells swept lease.name ticket d put others kept_as) listed
          (sweep-outside w.cells cells swept lease.name ticket d put others kept_as) (sweep-below w.cells cells swept lease.name ticket d put others kept_as) after_it;
      is = killed-machine depot w v f lease ticket here_is.start here_is.inbox here_is.broods here_is.log c d s
          ∙ ap (λ (p : Paged). record p { machine = after_kill p.machine }) (sym vm_is) ∙ sym made;
      whole = spent-whole depot w f lease (kill ticket) here_is.start here_is.inbox here_is.broods here_is.log c s killed (placed home (settled_tree (killed_tree ticket u))) becomes refl
          (killed-may depot w v f lease ticket here_is.start here_is.inbox here_is.broods here_is.log c d s);
      goes = spent-goes depot w f lease (kill ticket) here_is.start here_is.inbox here_is.broods here_is.log c s killed (placed home (settled_tree (killed_tree ticket u))) becomes refl
          (killed-may depot w v f lease ticket here_is.start here_is.inbox here_is.broods here_is.log c d s);
    })
