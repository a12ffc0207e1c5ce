-- Which image the machines of a brood have, where cells change.
use Rattle.std.proofs.Common.{◌≡◌, ℕ, Bool, true, false, cond, eqb, eqb-true, [], ◌∷◌, ◌⊎◌, inl, inr, Option, Some, None, refl, sym, ap, ◌∙◌, subst}
use Rattle.std.specs.Option.{IfSome}
use Rattle.std.specs.Prelude.{Result, Ok, Err}
use Rattle.std.specs.Result.{IfOk, IsErr}
use Rattle.std.specs.declared.alloc.AllocError.{AllocError}
use Rattle.std.specs.Map.{lookup}
use Rattle.std.specs.Ordering.{nat_cmp}
use Rattle.std.specs.BTreeMap.{BTreeMap, Updates, WritesThrough, get, is_at}
use Rattle.fork_port.specs.declared.commands.Call.{Call}
use Rattle.fork_port.specs.declared.commands.Call.TheVariants.{Clone}
use Rattle.forest_tree.specs.Tree.{Path, beyond}
use Rattle.image_depot.specs.Key.{number_of}
use Rattle.machine_names.specs.Name.{begins_with, child_path}
use Rattle.machine_names.specs.NameOrder.{path_cmp}
use Rattle.machine_names.proofs.NameMaps.{updated-here, updated-apart}
use Rattle.vm_descriptor.specs.declared.descriptor.Descriptor.{Descriptor}
use Rattle.vm_cell.specs.Keyed.{KeyedMachine}
use Rattle.vm_cell.specs.Woken.{woken}
use Rattle.vm_cell.specs.Standing.{standing_call}
use Rattle.vm_cell.specs.declared.vm.fork.ForkImage.{ForkImage}
use Rattle.world_core.specs.declared.cell.Brood.{Brood}
use Rattle.world_core.specs.declared.cell.Cell.{Cell}
use Rattle.world_core.specs.declared.cell.Change.{Change}
use Rattle.world_core.specs.declared.cell.State.{State}
use Rattle.world_core.specs.declared.cell.State.TheVariants.{Home, Parked, Out}
use Rattle.world_core.specs.Between.{TakesOut}
use Rattle.world_core.specs.Images.{AreBroodsAt, HasImages, HaveImages, Images, IsBroodAt, IsImageAt, IsLentAt, IsStateAt, IsPreparedAt, image_at}
use Rattle.world_core.specs.Lent.{Lent, vm_of}
use Rattle.world_core.specs.PreparedFork.{IsBroodOf, IsPreparedFor, Prepared}
use Rattle.world_core.specs.Unparked.{ends_wait, unparked}
use Rattle.world_core.proofs.Changes.{Lies, here, below, parent, above, apart, lies}
use Rattle.world_core.proofs.Leaving.{if-some-is}
use Rattle.world_core.proofs.Returns.{same-or-apart, some-is, written-here, written-apart}
use Rattle.world_core.proofs.SlotSteps as slots

pub at-child : (images : Images) (path : Path) (ticket k : ℕ) → image_at images (child_path path ticket k) ≡ Some (images path ticket)
unfolding image_at
at-child images [] ticket k = refl
at-child images (b ∷ []) ticket k = refl
at-child images (b ∷ (c ∷ rest)) ticket k = at-child (λ path. images (b ∷ path)) (c ∷ rest) ticket k

-- ---- the broods of a cell

module _ (images : Images) (path : Path) where
  -- what its children start with is let go, or is of the image that it was of
  pub left-by : {A : Type 0} (ticket : ℕ) (old image : Option ForkImage) → (image ≡ old) ⊎ ((image ≡ None) × A) → IfSome old (λ y. images path ticket ≡ number_of y.key)
      → IfSome image (λ y. images path ticket ≡ number_of y.key)
  left-by ticket old image (inl kept) h = subst (λ o. IfSome o (λ (y : ForkImage). images path ticket ≡ number_of y.key)) (sym kept) h
  left-by ticket old image (inr gone) h = subst (λ o. IfSome o (λ (y : ForkImage). images path ticket ≡ number_of y.key)) (sym gone.0) tt

  pub brood-written : (old new : BTreeMap ℕ Brood) (ticket : ℕ) (b d : Brood) → get nat_cmp old ticket ≡ Some b
      → WritesThrough nat_cmp (nat_cmp ticket) old d new → (IsBroodAt images path ticket b → IsBroodAt images path ticket d)
      → AreBroodsAt images path old → AreBroodsAt images path new
  brood-written old new ticket b d found w step h u = by (eqb ticket u) refl
    where
      is : slots.IsWritten old new ticket d
      is = slots.written old new ticket d w (some-is b (get nat_cmp old ticket) (sym found))

      by : (same : Bool) → eqb ticket u ≡ same → IfSome (get nat_cmp new u) (IsBroodAt images path u)
      by true e =
          subst (λ n. IfSome (get nat_cmp new n) (IsBroodAt images path n)) (eqb-true ticket u e)
          (subst (λ o. IfSome o (IsBroodAt images path ticket)) (sym is.here)
          (step (if-some-is (get nat_cmp old ticket) b (IsBroodAt images path ticket) (sym found) (h ticket))))
      by false e = subst (λ o. IfSome o (IsBroodAt images path u)) (sym (is.others u e)) (h u)

  pub brood-put : (old new : BTreeMap ℕ Brood) (ticket : ℕ) (b : Brood)
      → ((u : ℕ) → get nat_cmp new u ≡ cond (is_at (nat_cmp ticket) u) (Some b) (get nat_cmp old u)) → IsBroodAt images path ticket b
      → AreBroodsAt images path old → AreBroodsAt images path new
  brood-put old new ticket b updates at h u = by (is_at (nat_cmp ticket) u) refl
    where
      by : (same : Bool) → is_at (nat_cmp ticket) u ≡ same → IfSome (get nat_cmp new u) (IsBroodAt images path u)
      by true e =
          subst (λ o. IfSome o (IsBroodAt images path u)) (sym (updates u ∙ ap (λ s. cond s (Some b) (get nat_cmp old u)) e))
          (subst (λ n. IsBroodAt images path n b) (slots.same-ticket ticket u e) at)
      by false e =
          subst (λ o. IfSome o (IsBroodAt images path u)) (sym (updates u ∙ ap (λ s. cond s (Some b) (get nat_cmp old u)) e)) (h u)

  pub brood-gone : (old new : BTreeMap ℕ Brood) (ticket : ℕ) → ((u : ℕ) → get nat_cmp new u ≡ cond (is_at (nat_cmp ticket) u) None (get nat_cmp old u))
      → AreBroodsAt images path old → AreBroodsAt images path new
  brood-gone old new ticket updates h u = by (is_at (nat_cmp ticket) u) refl
    where
      by : (same : Bool) → is_at (nat_cmp ticket) u ≡ same → IfSome (get nat_cmp new u) (IsBroodAt images path u)
      by true e = subst (λ o. IfSome o (IsBroodAt images path u)) (sym (updates u ∙ ap (λ s. cond s None (get nat_cmp old u)) e)) tt
      by false e = subst (λ o. IfSome o (IsBroodAt images path u)) (sym (updates u ∙ ap (λ s. cond s None (get nat_cmp old u)) e)) (h u)

  pub no-brood : (broods : BTreeMap ℕ Brood) → broods.entries ≡ [] → AreBroodsAt images path broods
  no-brood broods empty ticket = subst (λ o. IfSome o (IsBroodAt images path ticket)) (sym (ap (lookup (is_at (nat_cmp ticket))) empty)) tt

  -- a machine that waited is at home
  pub unparked-at : (change : Change) (state : State) → IsStateAt images path state → IsStateAt images path (unparked change state)
  unparked-at change (Home vm) h = h
  unparked-at change (Parked awaited vm turn) h = by (ends_wait change awaited)
    where
      by : (b : Bool) → IsStateAt images path (cond b (Home vm) (Parked awaited vm turn))
      by true = h
      by false = h
  unparked-at change Out h = h

  -- a child wakes with the key of its brood
  pub woken-at : (ticket index siblings : ℕ) (b : Brood) (image : ForkImage) (seed : Descriptor) (r : Result KeyedMachine AllocError) (c : Cell) → HasImages images path c
      → get nat_cmp c.broods ticket ≡ Some b → b.image ≡ Some image → IfOk r (λ v. v ≡ woken seed siblings image.key)
      → IfOk r (λ v. IsImageAt images (child_path path ticket index) v.key)
  unfolding woken
  woken-at ticket index siblings b image seed (Ok v) c h found is wakes =
      let at : IsBroodAt images path ticket b = if-some-is (get nat_cmp c.broods ticket) b (IsBroodAt images path ticket) (sym found) (h.broods ticket) in
      let number : images path ticket ≡ number_of image.key = subst (λ o. IfSome o (λ (y : ForkImage). images path ticket ≡ number_of y.key)) is at in
      subst (λ (w : KeyedMachine). IsImageAt images (child_path path ticket index) w.key) (sym wakes) (at-child images path ticket index ∙ ap Some number)
  woken-at ticket index siblings b image seed (Err e) c h found is wakes = tt

  -- the cell with another brood for a ticket, and where its machine may wait no more
  pub cell-written : (c : Cell) (broods : BTreeMap ℕ Brood) (ticket : ℕ) (b d : Brood) → get nat_cmp c.broods ticket ≡ Some b
      → WritesThrough nat_cmp (nat_cmp ticket) c.broods d broods → (IsBroodAt images path ticket b → IsBroodAt images path ticket d)
      → HasImages images path c → HasImages images path (record c { broods = broods })
  cell-written c broods ticket b d found w step h = record { state = h.state; broods = brood-written c.broods broods ticket b d found w step h.broods }

  pub cell-unparked : (change : Change) (c new : Cell) (broods : BTreeMap ℕ Brood) (ticket : ℕ) (b d : Brood) → get nat_cmp c.broods ticket ≡ Some b
      → WritesThrough nat_cmp (nat_cmp ticket) c.broods d broods → (IsBroodAt images path ticket b → IsBroodAt images path ticket d)
      → new.state ≡ unparked change c.state → new.broods ≡ broods → HasImages images path c → HasImages images path new
  cell-unparked change c new broods ticket b d found w step state same h = record {
    state = subst (IsStateAt images path) (sym state) (unparked-at change c.state h.state);
    broods = subst (AreBroodsAt images path) (sym same) (brood-written c.broods broods ticket b d found w step h.broods);
  }

-- ---- cells

module _ (images : Images) where
  pub written : (old new : BTreeMap Path Cell) (at : Path) (c d : Cell) → Some c ≡ get path_cmp old at → WritesThrough path_cmp (path_cmp at) old d new
      → (HasImages images at c → HasImages images at d) → HaveImages images old → HaveImages images new
  written old new at c d found w step h name =
      let some = some-is c (get path_cmp old at) found in
      elim (same-or-apart at name) [
        | inl same ↦
            subst (λ n. IfSome (get path_cmp new n) (HasImages images n)) (sym same)
            (subst (λ o. IfSome o (HasImages images at)) (sym (written-here old new at d w some))
            (step (if-some-is (get path_cmp old at) c (HasImages images at) found (h at))))
        | inr other ↦ subst (λ o. IfSome o (HasImages images name)) (sym (written-apart old new at d w some name other)) (h name)
      ]

  pub put : (old new : BTreeMap Path Cell) (at : Path) (c : Cell) → Updates path_cmp old new at (Some c) → HasImages images at c
      → HaveImages images old → HaveImages images new
  put old new at c updates is h name = elim (same-or-apart at name) [
    | inl same ↦
        subst (λ n. IfSome (get path_cmp new n) (HasImages images n)) (sym same)
        (subst (λ o. IfSome o (HasImages images at)) (sym (updated-here old new at (Some c) updates)) is)
    | inr other ↦ subst (λ o. IfSome o (HasImages images name)) (sym (updated-apart old new at (Some c) updates name other)) (h name)
  ]

  pub alike : (old new : BTreeMap Path Cell) → ((n : Path) → get path_cmp new n ≡ get path_cmp old n) → HaveImages images old → HaveImages images new
  alike old new same h name = subst (λ o. IfSome o (HasImages images name)) (sym (same name)) (h name)

  pub none : (cells : BTreeMap Path Cell) → ((n : Path) → get path_cmp cells n ≡ None) → HaveImages images cells
  none cells empty name = subst (λ o. IfSome o (HasImages images name)) (sym (empty name)) tt

  pub taken-out : (old new : BTreeMap Path Cell) (at : Path) (c : Cell) → TakesOut old new at c → HaveImages images old → HaveImages images new
  taken-out old new at c t h name = by (lies at name)
    where
      same : get path_cmp new name ≡ get path_cmp old name → IfSome (get path_cmp new name) (HasImages images name)
      same e = subst (λ o. IfSome o (HasImages images name)) (sym e) (h name)

      gone : get path_cmp new name ≡ None → IfSome (get path_cmp new name) (HasImages images name)
      gone e = subst (λ o. IfSome o (HasImages images name)) (sym e) tt

      by : Lies at name → IfSome (get path_cmp new name) (HasImages images name)
      by (here e) = gone (ap (get path_cmp new) e ∙ t.here)
      by (below x rest e) = elim (t.below x rest) [
        | inl none ↦ gone (ap (get path_cmp new) e ∙ none)
        | inr kept ↦ same (ap (get path_cmp new) e ∙ kept.1 ∙ sym (ap (get path_cmp old) e))
      ]
      by (parent x out e) = same (t.elsewhere name out)
      by (above x y rest out e) = same (t.elsewhere name out)
      by (apart out e) = same (t.elsewhere name out)

  pub dropped : (old new : BTreeMap Path Cell) (ticket : ℕ) (at : Path)
      → ((n : Path) → get path_cmp new n ≡ cond (begins_with ticket (beyond at n)) None (get path_cmp old n)) → HaveImages images old → HaveImages images new
  dropped old new ticket at drops h name = by (begins_with ticket (beyond at name)) refl
    where
      by : (b : Bool) → begins_with ticket (beyond at name) ≡ b → IfSome (get path_cmp new name) (HasImages images name)
      by true e = subst (λ o. IfSome o (HasImages images name)) (sym (drops name ∙ ap (λ s. cond s None (get path_cmp old name)) e)) tt
      by false e = subst (λ o. IfSome o (HasImages images name)) (sym (drops name ∙ ap (λ s. cond s None (get path_cmp old name)) e)) (h name)

  -- a machine that was on lease has the key that it had
  pub lent-key : (lease : Lent) (name : Path) (v : KeyedMachine) → name ≡ lease.name → v.key ≡ lease.key → IsLentAt images lease → IsImageAt images name v.key
  lent-key lease name v named same h = subst (λ n. IsImageAt images n v.key) (sym named) (subst (IsImageAt images lease.name) (sym same) h)

  -- the brood of a CLONE is of the image that is told for it
  pub prepared-at : (lease : Lent) (prepared : Prepared) (ticket : ℕ) (b : Brood) → IsPreparedFor lease prepared → ticket ≡ prepared.ticket → IsBroodOf prepared b
      → IsPreparedAt images prepared → IsBroodAt images lease.name ticket b
  prepared-at lease prepared ticket b of same brood at =
      subst (λ o. IfSome o (λ (y : ForkImage). images lease.name ticket ≡ number_of y.key)) (sym brood.image)
      (ap (images lease.name) same ∙ ap (λ n. images n prepared.ticket) (sym of.name) ∙ at)

  pub no-lent : {A : Type 0} (r : Result A AllocError) (P : A → Type 0) → IsErr r → IfOk r P
  no-lent (Ok a) P failed = absurd (cc)
  no-lent (Err e) P failed = tt

-- ---- the children of a CLONE

-- the number of their image, if they were made ready
pub prepared-number : Result Prepared AllocError → ℕ
prepared-number (Ok prepared) = number_of prepared.image.key
prepared-number (Err e) = 0

same-ticket : (call : Option Call) (t u : ℕ) → call ≡ Some (Clone t) → call ≡ Some (Clone u) → t ≡ u
same-ticket call t u a b = let e : Some (Clone t) ≡ Some (Clone u) = sym a ∙ b in cc

pub fork-prepared : (images : Images) (lease : Lent) (ticket : ℕ) (r : Result Prepared AllocError) → standing_call (vm_of lease) ≡ Some (Clone ticket)
    → images lease.name ticket ≡ prepared-number r → IfOk r (IsPreparedFor lease) → IfOk r (IsPreparedAt images)
unfolding prepared-number
fork-prepared images lease ticket (Ok prepared) stands at of =
    ap (images prepared.name) (same-ticket (standing_call (vm_of lease)) prepared.ticket ticket of.clone stands)
    ∙ ap (λ n. images n ticket) of.name ∙ at
fork-prepared images lease ticket (Err e) stands at of = tt
