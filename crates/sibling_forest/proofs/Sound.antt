-- A step keeps soundness and what each machine holds.
use Rattle.std.proofs.Common.{◌≡◌, ℕ, Bool, true, false, refl, sym, ap, ◌∙◌, subst, List, [], ◌∷◌, Option, Some, None}
use Rattle.forest_tree.specs.Operations.{Operations, IsMachine}
use Rattle.forest_tree.specs.Tree.{Tree, node, Trees, Broods, Log, machine, size, at_child, child_at, at_brood, Path, with_broods}
use Rattle.forest_tree.specs.Step.{step}
use Rattle.forest_tree.specs.Sound.{IsSound, Hold}
use Rattle.forest_tree.proofs.Broods.{broods_with-at_brood, size-at_child}
use Rattle.forest_tree.proofs.Sound.{below-sound, KeepsTo, Keeps, Hold-at_child, AreSound-at_brood, broods-sound, at_brood-none, step-keeps}
use Rattle.sibling_forest.specs.Talk.{Talk, send, receive, Talks, Box, boxed, IsTalking}
use Rattle.sibling_forest.specs.Settle.{heard_by, sibling_rests, sibling_step_by, sibling_step, settle, settle_all}
use Rattle.sibling_forest.proofs.Boxes.{boxed-machine}
use Rattle.sibling_forest.proofs.Siblings.{brings, target, deliver-is}

module _ {M E : Type 0} (o : Operations M E) (k : Talks M) where
  heard-sound : (e : Option E) (i word : ℕ) (b : Box M) (broods : Broods (Box M)) (log : Log (Box M)) → IsSound (boxed o k) (node b broods log)
      → KeepsTo (boxed o k) (node b broods log) (node (heard_by o k e i word b) broods log)
  unfolding boxed IsSound
  heard-sound None i word b broods log h = record {
    sound = (record { good = h.0.good; ended = h.0.ended; one_each = h.0.one_each }, h.1);
    holding = refl;
  }
  heard-sound (Some ending) i word b broods log h = record { sound = h; holding = refl }

  pub brings-keeps : (what : Option Talk) (i word : ℕ) (t : Tree (Box M)) → IsSound (boxed o k) t → Keeps (boxed o k) (brings o k what i word) t
  brings-keeps None i word t h = record { sound = h; holding = refl }
  brings-keeps (Some (send j)) i word (node b broods log) h = heard-sound (o.ending b.machine) i word b broods log h
  brings-keeps (Some (receive j)) i word t h = record { sound = h; holding = refl }

  pub sibling_step-size : (rest : Bool) (c : Option (Tree (Box M))) (i : ℕ) (trees : Trees (Box M)) → size (sibling_step_by o k rest c i trees) ≡ size trees
  sibling_step-size true c i trees = refl
  sibling_step-size false None i trees = refl
  sibling_step-size false (Some t) i trees =
      ap size (deliver-is o k (k.talk (machine t).machine) i (k.word (machine t).machine) (at_child (step (boxed o k)) i trees))
      ∙ size-at_child (brings o k (k.talk (machine t).machine) i (k.word (machine t).machine)) (target o k (k.talk (machine t).machine)) (at_child (step (boxed o k)) i trees)
      ∙ size-at_child (step (boxed o k)) i trees

  pub keeps-below : IsMachine (boxed o k) → (f : Trees (Box M) → Trees (Box M)) → ((trees : Trees (Box M)) → size (f trees) ≡ size trees)
      → ((share : ℕ) (trees : Trees (Box M)) → Hold (boxed o k) share trees → Hold (boxed o k) share (f trees))
      → (u : ℕ) (t : Tree (Box M)) → IsSound (boxed o k) t → Keeps (boxed o k) (with_broods (at_brood f u)) t
  keeps-below rules f sized held u (node b broods log) h = record {
    sound = broods-sound (boxed o k) rules b broods (at_brood f u broods) log (λ t. broods_with-at_brood f u t broods)
        (at_brood-none (boxed o k) rules f u broods)
        (AreSound-at_brood (boxed o k) f ((boxed o k).grant b) u sized held broods (below-sound (boxed o k) b broods log h)) h;
    holding = refl;
  }

  module _ (rules : IsMachine o) (talking : IsTalking o k) where
    boxes : IsMachine (boxed o k)
    boxes = boxed-machine o k rules talking

    sibling_step-held : (rest : Bool) (c : Option (Tree (Box M))) (i share : ℕ) (trees : Trees (Box M)) → Hold (boxed o k) share trees
        → Hold (boxed o k) share (sibling_step_by o k rest c i trees)
    sibling_step-held true c i share trees h = h
    sibling_step-held false None i share trees h = h
    sibling_step-held false (Some t) i share trees h =
        subst (Hold (boxed o k) share) (sym (deliver-is o k (k.talk (machine t).machine) i (k.word (machine t).machine) (at_child (step (boxed o k)) i trees)))
        (Hold-at_child (boxed o k) (brings o k (k.talk (machine t).machine) i (k.word (machine t).machine))
        (brings-keeps (k.talk (machine t).machine) i (k.word (machine t).machine)) share (target o k (k.talk (machine t).machine)) (at_child (step (boxed o k)) i trees)
        (Hold-at_child (boxed o k) (step (boxed o k)) (step-keeps (boxed o k) boxes) share i trees h))

    pub settle-keeps : (path : Path) (t : Tree (Box M)) → IsSound (boxed o k) t → Keeps (boxed o k) (settle o k path) t
    unfolding settle
    settle-keeps [] t h = step-keeps (boxed o k) boxes t h
    settle-keeps (b ∷ []) t h =
        keeps-below boxes (sibling_step o k b.child) (λ trees. sibling_step-size (sibling_rests o k b.child trees) (child_at b.child trees) b.child trees)
        (λ share trees held. sibling_step-held (sibling_rests o k b.child trees) (child_at b.child trees) b.child share trees held) b.ticket t h
    settle-keeps (b ∷ (c ∷ path)) t h =
        keeps-below boxes (at_child (settle o k (c ∷ path)) b.child) (size-at_child (settle o k (c ∷ path)) b.child)
        (λ share trees held. Hold-at_child (boxed o k) (settle o k (c ∷ path)) (λ u sound. settle-keeps (c ∷ path) u sound) share b.child trees held) b.ticket t h

    pub settle_all-keeps : (paths : List Path) (t : Tree (Box M)) → IsSound (boxed o k) t → Keeps (boxed o k) (settle_all o k paths) t
    unfolding settle_all
    settle_all-keeps [] t h = record { sound = h; holding = refl }
    settle_all-keeps (path ∷ rest) t h =
        let one : KeepsTo (boxed o k) t (settle o k path t) = settle-keeps path t h in
        let then : KeepsTo (boxed o k) (settle o k path t) (settle_all o k rest (settle o k path t)) = settle_all-keeps rest (settle o k path t) one.sound in
        record { sound = then.sound; holding = then.holding ∙ one.holding }
