-- Which machines of a world rest after a change of one.
use Rattle.std.proofs.Common.{◌≡◌, ◌||◌, not, Bool, true, false, refl, sym, ap, ap₂, ◌∙◌, subst, [], ◌∷◌, ◌++◌, Option, Some, None, is_some, option_map}
use Rattle.std.proofs.Math.Bool.{or-false}
use Rattle.std.proofs.lemmas.List.{append-nil}
use Rattle.forest_tree.specs.Operations.{Call, join}
use Rattle.image_depot.specs.Key.{Shelves}
use Rattle.forest_tree.specs.Tree.{Tree, node, machine, Branch, Path, subtree, beyond, goes_on, at_path, at_beyond}
use Rattle.forest_tree.specs.Step.{has_ended, waits}
use Rattle.sibling_forest.specs.Talk.{boxed}
use Rattle.sibling_forest.specs.Settle.{rests_there, rests_at}
use Rattle.sibling_forest.specs.Laws.{child_number, is_sibling, queue_from, read_of}
use Rattle.talking_history.specs.Places.{parked, Place, spots, placed, spot_talks}
use Rattle.forest_tree.proofs.Changes.{at_path-elsewhere, at_path-here, at_path-machine}
use Rattle.forest_tree.proofs.Lives.{waits-deep, waits-child}
use Rattle.talking_history.specs.World.{holds, lives_ready}
use Rattle.talking_history.proofs.Ends.{put-whole, resting-put}
use Rattle.talking_history.proofs.Beside.{rests-beside, rests-parts, rests-within, silent-waits, talk-above, talk_waits}
use Rattle.forest_model.specs.Paged.{paged_machines, paged_talks}
use Rattle.forest_model.proofs.Paged.{paged-rules, paged-talk}
use Rattle.machine_names.proofs.Below.{beyond-append, beyond-is}
use Rattle.world_core.specs.declared.cell.Cell.{Cell}
use Rattle.world_core.specs.Shows.{Member, forest, paged_of, Shows, CellShows}
use Rattle.world_core.specs.Unparked.{JoinsAlone, rests_with}
use Rattle.world_core.specs.World.{IsForest, rests_in}
use Rattle.world_core.proofs.Changes.{beyond-parent, child-there, is_one}
use Rattle.world_core.proofs.Steps.{call-quiet}

-- ---- where as many rest

-- what is shown does not tell who rests where none is there
pub shows-rests : (depot : Shelves) (n : Path) (before after : Bool) (c : Option Cell) (u : Option (Tree Member))
    → ((v : Tree Member) → u ≡ Some v → after ≡ before) → Shows depot n before c u → Shows depot n after c u
shows-rests depot n before after None None same h = tt
shows-rests depot n before after None (Some v) same h = h
shows-rests depot n before after (Some c) None same h = absurd h
shows-rests depot n before after (Some c) (Some v) same h = subst (λ resting. CellShows depot n resting c v) (sym (same v refl)) h

pub ready-rests : (before after : Bool) (u : Option (Tree Member)) → ((v : Tree Member) → u ≡ Some v → after ≡ before)
    → holds (lives_ready paged_machines paged_talks after) u ≡ true → holds (lives_ready paged_machines paged_talks before) u ≡ true
ready-rests before after None same h = h
ready-rests before after (Some v) same h = subst (λ resting. lives_ready paged_machines paged_talks resting v ≡ true) (same v refl) h

-- ---- the machines above a change

above-rests : (f : Tree Member → Tree Member) (n : Path) (x : Branch) (rest : Path) (t u : Tree Member) → subtree n t ≡ Some u
    → waits forest (at_path f (x ∷ rest) u) ≡ waits forest u → rests_in (at_path f (n ++ (x ∷ rest)) t) n ≡ rests_in t n
above-rests f n x rest t u at same =
    rests-parts (spots paged_machines) (spot_talks paged_talks) n (at_path f (n ++ (x ∷ rest)) t) (at_path f (x ∷ rest) u) there
    ∙ ap₂ (λ own by_talk. own || by_talk)
    (ap₂ (λ ended waiting. ended || waiting) (ap (λ (b : Member). is_some (forest.ending b)) (at_path-machine f x rest u)) same)
    (talk-above (spots paged_machines) (spot_talks paged_talks) f n x rest t)
    ∙ sym (rests-parts (spots paged_machines) (spot_talks paged_talks) n t u at)
  where
    there : subtree n (at_path f (n ++ (x ∷ rest)) t) ≡ Some (at_path f (x ∷ rest) u)
    there =
        at_path-elsewhere f (n ++ (x ∷ rest)) n t (ap goes_on (beyond-parent n x rest))
        ∙ ap (λ way. option_map (at_beyond f way) (subtree n t)) (beyond-append n (x ∷ rest))
        ∙ ap (option_map (at_path f (x ∷ rest))) at

-- ---- who is not below a machine that lives on with the same words to it, or that goes on as one that has ended

same-read : (a b : Tree Member) → has_ended forest b ≡ has_ended forest a → (machine b).inbox ≡ (machine a).inbox → (n : Path)
    → read_of (spots paged_machines) (child_number n) (Some b) ≡ read_of (spots paged_machines) (child_number n) (Some a)
unfolding boxed
same-read a b life inbox n = ap₂ (λ ended words. Some (not ended, queue_from (child_number n) words)) life inbox

pub rests-reading : (f : Tree Member → Tree Member) (name n : Path) (t a u : Tree Member) → subtree name t ≡ Some a
    → has_ended forest (f a) ≡ has_ended forest a
    → (is_sibling n name ≡ true → read_of (spots paged_machines) (child_number n) (Some (f a)) ≡ read_of (spots paged_machines) (child_number n) (Some a))
    → beyond name n ≡ None → subtree n t ≡ Some u → rests_in (at_path f name t) n ≡ rests_in t n
rests-reading f name n t a u there life reads none at = by (beyond n name) refl
  where
    by : (way : Option Path) → beyond n name ≡ way → rests_in (at_path f name t) n ≡ rests_in t n
    by None e = rests-beside (spots paged_machines) (spot_talks paged_talks) f name n t a u none e there at reads
    by (Some []) e =
        let same : name ≡ n = beyond-is n name [] e ∙ append-nil n in
        let no : None ≡ Some [] = sym none ∙ ap₂ (λ l m. beyond l m) same (sym (append-nil n)) ∙ beyond-append n [] in
        absurd (cc)
    by (Some (x ∷ [])) e =
        ap (λ m. rests_in (at_path f m t) n) (beyond-is n name (x ∷ []) e)
        ∙ above-rests f n x [] t u at (waits-child forest f x u a (child-there name n t a u x e there at) life)
    by (Some (x ∷ (y ∷ rest))) e =
        ap (λ m. rests_in (at_path f m t) n) (beyond-is n name (x ∷ (y ∷ rest)) e) ∙ above-rests f n x (y ∷ rest) t u at (waits-deep forest f x y rest u)

pub rests-outside : (f : Tree Member → Tree Member) (name n : Path) (t a u : Tree Member) → subtree name t ≡ Some a
    → has_ended forest (f a) ≡ has_ended forest a → (machine (f a)).inbox ≡ (machine a).inbox → beyond name n ≡ None → subtree n t ≡ Some u
    → rests_in (at_path f name t) n ≡ rests_in t n
rests-outside f name n t a u there life inbox none at =
    rests-reading f name n t a u there life (λ beside. same-read a (f a) life inbox n) none at

-- one that is not above a change by one fork, and no sibling of what is changed
pub rests-elsewhere : (f : Tree Member → Tree Member) (name n : Path) (t a u : Tree Member) → subtree name t ≡ Some a → beyond name n ≡ None
    → is_one (beyond n name) ≡ false → (is_sibling n name ≡ true → ⊥) → subtree n t ≡ Some u → rests_in (at_path f name t) n ≡ rests_in t n
rests-elsewhere f name n t a u there none one apart at = by (beyond n name) refl
  where
    by : (way : Option Path) → beyond n name ≡ way → rests_in (at_path f name t) n ≡ rests_in t n
    by None e =
        rests-beside (spots paged_machines) (spot_talks paged_talks) f name n t a u none e there at (λ beside. absurd (apart beside))
    by (Some []) e =
        let same : name ≡ n = beyond-is n name [] e ∙ append-nil n in
        let no : None ≡ Some [] = sym none ∙ ap₂ (λ l m. beyond l m) same (sym (append-nil n)) ∙ beyond-append n [] in
        absurd (cc)
    by (Some (x ∷ [])) e = let no : true ≡ false = sym (ap is_one e) ∙ one in absurd (cc)
    by (Some (x ∷ (y ∷ rest))) e =
        ap (λ m. rests_in (at_path f m t) n) (beyond-is n name (x ∷ (y ∷ rest)) e) ∙ above-rests f n x (y ∷ rest) t u at (waits-deep forest f x y rest u)

-- ---- the parent of a machine that is changed

abbrev pub talk_rests : Path → Tree Member → Bool
talk_rests name t = talk_waits (spots paged_machines) (spot_talks paged_talks) name t

-- a live machine rests where it waits for its children, or with its talk
pub alive-rests : (name : Path) (t a : Tree Member) → subtree name t ≡ Some a → has_ended forest a ≡ false → rests_in t name ≡ rests_with (talk_rests name t) a
alive-rests name t a at lives =
    rests-parts (spots paged_machines) (spot_talks paged_talks) name t a at
    ∙ ap (λ ended. (ended || waits forest a) || talk_rests name t) lives

-- one that stands at a join does not talk
pub joins-alone : (name : Path) (t a : Tree Member) → subtree name t ≡ Some a → JoinsAlone (talk_rests name t) a
unfolding boxed spots spot_talks
joins-alone name t a at ticket call =
    silent-waits (spots paged_machines) (spot_talks paged_talks) name t a at (call-quiet (paged_of (machine a)) (join ticket) call)

-- its talk does not read its children
pub talk-rests-above : (f : Tree Member → Tree Member) (n : Path) (x : Branch) (rest : Path) (t : Tree Member)
    → talk_rests n (at_path f (n ++ (x ∷ rest)) t) ≡ talk_rests n t
talk-rests-above f n x rest t = talk-above (spots paged_machines) (spot_talks paged_talks) f n x rest t

-- ---- who is below a machine

pub rests-below : (name : Path) (x : Branch) (rest : Path) (t a : Tree Member) → subtree name t ≡ Some a
    → rests_in t (name ++ (x ∷ rest)) ≡ rests_in a (x ∷ rest)
rests-below name x rest t a at =
    rests-within (spots paged_machines) (spot_talks paged_talks) name x rest t
    ∙ ap (rests_there (rests_at (spots paged_machines) (spot_talks paged_talks) (x ∷ rest))) at

pub placed-rests : (place : Place) (a : Tree Member) (x : Branch) (rest : Path) → rests_in (placed place a) (x ∷ rest) ≡ rests_in a (x ∷ rest)
unfolding rests_at
placed-rests place (node s broods log) x [] = refl
placed-rests place (node s broods log) x (y ∷ rest) = refl

-- ---- where a machine is put says nothing of who rests

pub put-rests : (place : Place) (name n : Path) (t : Tree Member) → rests_in (at_path (placed place) name t) n ≡ rests_in t n
put-rests place name n t = resting-put paged_machines paged_talks place n name t

pub put-forest : (place : Place) (name : Path) (t : Tree Member) → IsForest t → IsForest (at_path (placed place) name t)
put-forest place name t whole = put-whole paged_machines paged_talks paged-rules paged-talk place name t whole

-- ---- a machine that stands at a call

pub rests-at-call : (name : Path) (t a b : Tree Member) (next : Call) → subtree name t ≡ Some a → has_ended forest b ≡ false → forest.call (machine b) ≡ Some next
    → rests_in (at_path (λ u. b) name t) name ≡ waits forest b
unfolding boxed spots spot_talks
rests-at-call name t a b next at lives call =
    let there : subtree name (at_path (λ u. b) name t) ≡ Some b = at_path-here (λ u. b) name t ∙ ap (option_map (λ u. b)) at in
    rests-parts (spots paged_machines) (spot_talks paged_talks) name (at_path (λ u. b) name t) b there
    ∙ ap₂ (λ own by_talk. own || by_talk) (ap (λ ended. ended || waits forest b) lives)
    (silent-waits (spots paged_machines) (spot_talks paged_talks) name (at_path (λ u. b) name t) b there (call-quiet (paged_of (machine b)) next call))
    ∙ or-false (waits forest b)

-- the same where it is parked
pub parked-rests : (name : Path) (t a b : Tree Member) (next : Call) → subtree name t ≡ Some a → has_ended forest b ≡ false → forest.call (machine b) ≡ Some next
    → rests_in (at_path (λ u. placed parked b) name t) name ≡ waits forest b
unfolding boxed spots
parked-rests name t a (node s broods log) next at lives call = rests-at-call name t a (placed parked (node s broods log)) next at lives call
