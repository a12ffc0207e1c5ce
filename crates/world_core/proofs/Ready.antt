-- Which machines are ready after a change of one.
use Rattle.std.proofs.Common.{◌≡◌, ◌&&◌, not, Bool, true, refl, sym, ap, ◌∙◌, subst, inl, inr, List, [], ◌∷◌, ◌++◌, Option, Some, None, is_some, option_and_then, option_map}
use Rattle.forest_tree.specs.Tree.{Tree, Branch, Path, subtree, beyond, at_path}
use Rattle.talking_history.specs.World.{is_ready_at, lives_ready, holds}
use Rattle.forest_tree.proofs.Changes.{at_path-within, at_path-here, at_path-machine}
use Rattle.forest_model.specs.Paged.{paged_machines, paged_talks}
use Rattle.ready_queue.specs.Ready.{Ready}
use Rattle.world_core.specs.Listed.{IsListed, IsCovered}
use Rattle.world_core.specs.Shows.{Member, forest}
use Rattle.world_core.specs.World.{Rests, is_ready_in}
use Rattle.world_core.proofs.Changes.{Lies, here, below, parent, above, apart, lies, outside, outside-apart}

-- one more in the list
pub IsListed-more : (n : Path) (w : Ready) (list : List Ready) → IsListed n list → IsListed n (w ∷ list)
unfolding IsListed
IsListed-more n w list h = inr h

pub IsCovered-more : (n : Path) (w : Ready) (list : List Ready) → IsCovered n list → IsCovered n (w ∷ list)
unfolding IsCovered
IsCovered-more n w list h = inr h

-- a machine that its turn names
pub IsListed-first : (n : Path) (w : Ready) (list : List Ready) → w ≡ record { name = n; children = None } → IsListed n (w ∷ list)
unfolding IsListed
IsListed-first n w list e = subst (λ v. IsListed n (v ∷ list)) (sym e) (inl refl)

module _ (f : Tree Member → Tree Member) where
  lives_ready-kept : (resting : Bool) (x : Branch) (rest : Path) (t : Tree Member)
      → lives_ready paged_machines paged_talks resting (at_path f (x ∷ rest) t) ≡ lives_ready paged_machines paged_talks resting t
  lives_ready-kept resting x rest t =
      ap (λ (b : Member). not (is_some (forest.ending b)) && is_ready_at b.machine.place resting) (at_path-machine f x rest t)

  holds-kept : (resting : Bool) (x : Branch) (rest : Path) (u : Option (Tree Member))
      → holds (lives_ready paged_machines paged_talks resting) (option_map (at_path f (x ∷ rest)) u) ≡ holds (lives_ready paged_machines paged_talks resting) u
  holds-kept resting x rest None = refl
  holds-kept resting x rest (Some t) = lives_ready-kept resting x rest t

  -- one that is above a change
  pub above-ready : (rests : Rests) (name n : Path) (t : Tree Member) (x : Branch) (rest : Path) → beyond name n ≡ None → beyond n name ≡ Some (x ∷ rest)
      → is_ready_in rests n (at_path f name t) ≡ is_ready_in rests n t
  above-ready rests name n t x rest none e =
      ap (holds (lives_ready paged_machines paged_talks (rests n))) (outside f name n t (Some (x ∷ rest)) none e) ∙ holds-kept (rests n) x rest (subtree n t)

  -- what holds of each that is ready after a change
  pub ready-changed : (P : Path → Type 0) (rests : Rests) (name : Path) (t a : Tree Member) → subtree name t ≡ Some a
      → (lives_ready paged_machines paged_talks (rests name) (f a) ≡ true → P name)
      → ((x : Branch) (rest : Path) → holds (lives_ready paged_machines paged_talks (rests (name ++ (x ∷ rest)))) (subtree (x ∷ rest) (f a)) ≡ true
      → P (name ++ (x ∷ rest)))
      → ((n : Path) → beyond name n ≡ None → is_ready_in rests n t ≡ true → P n)
      → (n : Path) → is_ready_in rests n (at_path f name t) ≡ true → P n
  ready-changed P rests name t a there at_it below_it outer n ready = by (lies name n)
    where
      by : Lies name n → P n
      by (here e) =
          subst P (sym e)
          (at_it
          (ap (holds (lives_ready paged_machines paged_talks (rests name)))
          (sym (at_path-here f name t ∙ ap (option_map f) there))
          ∙ ap (λ m. is_ready_in rests m (at_path f name t)) (sym e) ∙ ready))
      by (below x rest e) =
          subst P (sym e)
          (below_it x rest
          (ap (holds (lives_ready paged_machines paged_talks (rests (name ++ (x ∷ rest)))))
          (sym (at_path-within f name (x ∷ rest) t ∙ ap (option_and_then (λ b. subtree (x ∷ rest) (f b))) there))
          ∙ ap (λ m. is_ready_in rests m (at_path f name t)) (sym e) ∙ ready))
      by (parent x none e) = outer n none (sym (above-ready rests name n t x [] none e) ∙ ready)
      by (above x y rest none e) = outer n none (sym (above-ready rests name n t x (y ∷ rest) none e) ∙ ready)
      by (apart none e) =
          outer n none (sym (ap (holds (lives_ready paged_machines paged_talks (rests n))) (outside-apart f name n t none e)) ∙ ready)
