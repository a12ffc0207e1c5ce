-- What becomes of a child since its birth.
use Rattle.std.proofs.Common.{◌≡◌, inl, inr, cond, refl, sym, ap, ◌∙◌, subst, List, [], ◌∷◌, ◌++◌, Option, Some, None, IsSome, option_and_then}
use Rattle.std.proofs.lemmas.Bool.{or_parts}
use Rattle.forest_tree.specs.Operations.{Operations, IsMachine}
use Rattle.forest_tree.specs.Tree.{Tree, node, Broods, brood, Log, machine, broods_of, child_at, brood_of, Branch, Path, subtree}
use Rattle.forest_tree.specs.Step.{has_ended, waits, children, settled_by, settled, step}
use Rattle.forest_tree.proofs.Broods.{eqb-same}
use Rattle.forest_tree.proofs.Calls.{step-clone, child-children}
use Rattle.forest_tree.proofs.Names.{IsGone, GoneIn}
use Rattle.forest_tree.proofs.Places.{some-same, is-within, subtree-parts}
use Rattle.forest_tree.proofs.Rests.{lives-none}
use Rattle.forest_tree.proofs.Sound.{machine-settled}
use Rattle.forest_tree.proofs.Steps.{cases-ending}
use Rattle.sibling_forest.specs.Talk.{Talks, Box, boxed, IsTalking}
use Rattle.sibling_forest.specs.Settle.{settle, settle_all}
use Rattle.sibling_forest.specs.Members.{IsWholeForest}
use Rattle.sibling_forest.proofs.Boxes.{boxed-machine}
use Rattle.sibling_forest.proofs.MemberAt.{names-other}
use Rattle.sibling_forest.proofs.Members.{settle-whole}
use Rattle.sibling_forest.proofs.Others.{own-step}
use Rattle.talking_history.proofs.Stuck.{moves-inside}
use Rattle.forest_model.specs.Machine.{Machine}
use Rattle.forest_model.specs.Forest.{machines, talks}
use Rattle.forest_model.proofs.Rules.{machines-rules}
use Rattle.forest_model.proofs.Talking.{machines-talk}
use Rattle.drive_script.specs.Script.{ScriptLine}
use Rattle.drive_script.specs.Story.{events, Bears, born}
use Rattle.drive_script.specs.Told.{Driven, whole, after_script, steps_of_script}
use Rattle.drive_script.proofs.Lined.{script-steps}
use Rattle.drive_script.proofs.Runs.{all-whole}
use Rattle.drive_script.proofs.Steps.{all-both}
use Rattle.drive_script.proofs.Stories.{IsAfter, gone-on, steps-story}

module _ {M E : Type 0} (o : Operations M E) (k : Talks M) (rules : IsMachine o) (talking : IsTalking o k) where
  abbrev all : IsMachine (boxed o k)
  all = boxed-machine o k rules talking

  -- what a clone leads to where its machine goes on living, and where it ends
  child-born : (e : Option E) (b : Branch) (n x : Box M) (broods : Broods (Box M)) (log : Log (Box M)) (c : Tree (Box M)) → e ≡ None
      → child_at b.child (children (boxed o k) x b.ticket) ≡ Some c
      → subtree (b ∷ []) (settled_by (boxed o k) e n (brood b.ticket (children (boxed o k) x b.ticket) broods) log) ≡ Some c
  unfolding subtree brood_of
  child-born (Some ending) b n x broods log c lives found = absurd (cc)
  child-born None b n x broods log c lives found =
      ap (λ same. option_and_then (subtree []) (child_at b.child (cond same (children (boxed o k) x b.ticket) (brood_of b.ticket broods)))) (eqb-same b.ticket)
      ∙ ap (option_and_then (subtree [])) found

  child-gone : (e : Option E) (b : Branch) (n : Box M) (broods : Broods (Box M)) (log : Log (Box M)) → (boxed o k).ending n ≡ e → IsSome e
      → IsGone (boxed o k) all (b ∷ []) (settled_by (boxed o k) e n broods log)
  unfolding IsGone GoneIn child_at brood_of
  child-gone None b n broods log is ended = absurd (cc)
  child-gone (Some ending) b n broods log is ended = inr (subst IsSome (sym is) refl)

  -- a place that is gone below a machine is gone
  gone-below : (path : Path) (b : Branch) (u v : Tree (Box M)) → subtree path u ≡ Some v → IsGone (boxed o k) all (b ∷ []) v
      → IsGone (boxed o k) all (path ++ (b ∷ [])) u
  unfolding IsGone GoneIn subtree
  gone-below [] b u v here gone = subst (IsGone (boxed o k) all (b ∷ [])) (sym (some-same u v here)) gone
  gone-below (y ∷ way) b u v here gone =
      let is = is-within (boxed o k) way (child_at y.child (brood_of y.ticket (broods_of u))) v here in
      subst (λ c. GoneIn (boxed o k) all (IsGone (boxed o k) all (way ++ (b ∷ []))) c (machine u) y.ticket) (sym is.1) (gone-below way b is.0 v is.2 gone)

  module _ (b : Branch) (path : Path) (p t : Tree (Box M)) (h : IsWholeForest o k t) (bears : Bears o k b path p t) where
    lives : o.ending (machine p).machine ≡ None
    unfolding boxed
    lives = lives-none (o.ending (machine p).machine) (or_parts (has_ended (boxed o k) p) (waits (boxed o k) p) (moves-inside o k path t p bears.there bears.moves)).0

    pub parent-steps : subtree path (settle o k path t) ≡ Some (step (boxed o k) p)
    parent-steps = own-step o k path t p bears.there bears.moves (names-other o k talking path t p h bears.there)

    after-clone : (x : Box M) (broods : Broods (Box M)) (log : Log (Box M)) → p ≡ node x broods log
        → step (boxed o k) p ≡ settled (boxed o k) ((boxed o k).forked x) (brood b.ticket (children (boxed o k) x b.ticket) broods) log
    unfolding boxed
    after-clone x broods log is =
        ap (step (boxed o k)) is
        ∙ step-clone (boxed o k) x broods log b.ticket (ap (λ (u : Tree (Box M)). o.ending (machine u).machine) (sym is) ∙ lives)
        (ap (λ (u : Tree (Box M)). o.call (machine u).machine) (sym is) ∙ bears.clones)

    -- after the clone the child is there, alone, unless its parent has ended
    pub born-there : o.ending (machine (step (boxed o k) p)).machine ≡ None → subtree (path ++ (b ∷ [])) (settle o k path t) ≡ Some (born o k b.child p)
    unfolding boxed
    born-there alive =
        subtree-parts path (b ∷ []) (settle o k path t) ∙ ap (option_and_then (subtree (b ∷ []))) parent-steps ∙ by p refl
      where
        by : (q : Tree (Box M)) → p ≡ q → subtree (b ∷ []) (step (boxed o k) p) ≡ Some (born o k b.child p)
        by (node x broods log) is =
            let made = after-clone x broods log is in
            let goes : (boxed o k).ending ((boxed o k).forked x) ≡ None =
            ap (boxed o k).ending (sym (machine-settled (boxed o k) ((boxed o k).forked x) (brood b.ticket (children (boxed o k) x b.ticket) broods) log))
            ∙ ap (λ (u : Tree (Box M)). o.ending (machine u).machine) (sym made) ∙ alive in
            ap (subtree (b ∷ [])) made
            ∙ child-born ((boxed o k).ending ((boxed o k).forked x)) b ((boxed o k).forked x) x broods log (born o k b.child p) goes
            (ap (λ (u : Tree (Box M)). child_at b.child (children (boxed o k) (machine u) b.ticket)) (sym is)
            ∙ child-children (boxed o k) (machine p) b.ticket b.child bears.least bears.most)

    ends-gone : IsSome (o.ending (machine (step (boxed o k) p)).machine) → IsGone (boxed o k) all (path ++ (b ∷ [])) (settle o k path t)
    unfolding boxed
    ends-gone ended = gone-below path b (settle o k path t) (step (boxed o k) p) parent-steps (by p refl)
      where
        by : (q : Tree (Box M)) → p ≡ q → IsGone (boxed o k) all (b ∷ []) (step (boxed o k) p)
        by (node x broods log) is =
            let made = after-clone x broods log is in
            let end : IsSome ((boxed o k).ending ((boxed o k).forked x)) =
            subst IsSome (ap (λ (u : Tree (Box M)). o.ending (machine u).machine) made
            ∙ ap (boxed o k).ending (machine-settled (boxed o k) ((boxed o k).forked x) (brood b.ticket (children (boxed o k) x b.ticket) broods) log)) ended in
            subst (IsGone (boxed o k) all (b ∷ [])) (sym made)
            (child-gone ((boxed o k).ending ((boxed o k).forked x)) b ((boxed o k).forked x) (brood b.ticket (children (boxed o k) x b.ticket) broods) log refl end)

    -- and what is there later is the child after what happened to it
    pub birth-story : (after : List Path) (c : Tree (Box M)) → subtree (path ++ (b ∷ [])) (settle_all o k after (settle o k path t)) ≡ Some c
        → IsAfter o k (events o k (path ++ (b ∷ [])) after (settle o k path t)) (born o k b.child p) c
    birth-story after c there = elim (cases-ending (o.ending (machine (step (boxed o k) p)).machine)) [
      | inl ended ↦
          let gone = gone-on o k rules talking (path ++ (b ∷ [])) after (settle o k path t) (settle-whole o k rules talking path t h).sound
          (ends-gone (subst IsSome (sym ended.1) refl)) in
          let no : None ≡ Some c = sym gone ∙ there in
          absurd (cc)
      | inr alive ↦ steps-story o k rules talking (path ++ (b ∷ [])) after (settle o k path t) (born o k b.child p) c (settle-whole o k rules talking path t h) (born-there alive) there
    ]

-- ---- in a script

module _ (lines : List ScriptLine) (s : Driven) (before after : List Path) (path : Path) (b : Branch) (t p : Tree (Box Machine))
    (h : IsWholeForest machines talks (whole s.tree)) (parts : steps_of_script lines s ≡ before ++ (path ∷ after))
    (made : settle_all machines talks before (whole s.tree) ≡ t) (bears : Bears machines talks b path p t) where
  script-forest : IsWholeForest machines talks t
  script-forest = subst (IsWholeForest machines talks) made (all-whole machines talks machines-rules machines-talk before (whole s.tree) h)

  script-rest : whole (after_script lines s).tree ≡ settle_all machines talks after (settle machines talks path t)
  unfolding settle_all
  script-rest =
      script-steps lines s ∙ ap (λ paths. settle_all machines talks paths (whole s.tree)) parts ∙ all-both machines talks before (path ∷ after) (whole s.tree)
      ∙ ap (λ u. settle_all machines talks after (settle machines talks path u)) made

  pub script-born : (q : Tree (Box Machine)) → subtree path (settle machines talks path t) ≡ Some q → (machine q).machine.ending ≡ None
      → subtree (path ++ (b ∷ [])) (settle machines talks path t) ≡ Some (born machines talks b.child p)
  unfolding machines
  script-born q there alive =
      let same : q ≡ step (boxed machines talks) p =
      some-same q (step (boxed machines talks) p) (sym there ∙ parent-steps machines talks machines-rules machines-talk b path p t script-forest bears) in
      born-there machines talks machines-rules machines-talk b path p t script-forest bears
      (ap (λ (u : Tree (Box Machine)). (machine u).machine.ending) (sym same) ∙ alive)

  pub script-birth : (c : Tree (Box Machine)) → subtree (path ++ (b ∷ [])) (whole (after_script lines s).tree) ≡ Some c
      → IsAfter machines talks (events machines talks (path ++ (b ∷ [])) after (settle machines talks path t)) (born machines talks b.child p) c
  script-birth c there =
      birth-story machines talks machines-rules machines-talk b path p t script-forest bears after c (sym (ap (subtree (path ++ (b ∷ []))) script-rest) ∙ there)
