-- The page at which a machine stalls, and one that comes.
use Rattle.std.proofs.Common.{◌≡◌, ◌⊎◌, inl, inr, ⊎_elim, ℕ, zero, suc, Bool, true, false, cond, List, [], ◌∷◌}
use Rattle.std.proofs.Common.{length, get_or, set, slice_get, Option, Some, None, Result, Ok, Err, IfOk, OnErr, refl, sym, ap, ap₂, ◌∙◌}
use Rattle.std.specs.Option.{IfSome}
use Rattle.std.specs.declared.alloc.AllocError.{AllocError}
use Rattle.std.proofs.lemmas.Bool.{cases_eq}
use Rattle.std.proofs.lemmas.List.{get_or-set_other}
use Rattle.std.proofs.lemmas.List.Elements.{All-contains}
use Rattle.std.proofs.lemmas.Option.{slice_get_read}
use Rattle.cow_disk.specs.declared.arrived.Arrived.{Arrived}
use Rattle.cow_disk.specs.declared.arrived.Arrived.TheVariants.{Got, Had}
use Rattle.image_depot.specs.Key.{Key}
use Rattle.image_depot.specs.Receiver as receiver
use Rattle.image_depot.specs.Reply.{Reply}
use Rattle.forest_model.specs.Machine.{Machine}
use Rattle.forest_model.specs.Paged.{AreFlagged, IsPageOf, Pages, Paged, first_absent, stalled_at}
use Rattle.forest_model.specs.Touch.{touch}
use Rattle.forest_model.proofs.Paged.{stalled-is}
use Rattle.forest_model.proofs.Touch.{IsPages-touch, flagged-page}
use Rattle.vm_hart.specs.Keyed.{Arrives, KeyedMachine, paged}
use Rattle.vm_cell.specs.Received.{without_here}

-- it is one of RAM or of the disk, and absent
pub stalled-absent : (p : Paged) (page : ℕ) → stalled_at p ≡ Some page → AreFlagged p.machine.state p.pages → slice_get p.pages.here page ≡ Some false
stalled-absent p page is flagged =
    let at = stalled-is p page is in
    let of_machine : IsPageOf p.machine.state page = All-contains (IsPageOf p.machine.state) (touch p.machine) page (IsPages-touch p.machine).each at.listed in
    slice_get_read p.pages.here (length p.pages.here) page false refl (flagged-page p.machine.state p.pages flagged page of_machine) (sym at.absent)

pub wanted-absent : (p : Paged) (wanted : Option ℕ) → wanted ≡ stalled_at p → AreFlagged p.machine.state p.pages
    → IfSome wanted (λ page. slice_get p.pages.here page ≡ Some false)
wanted-absent p None is flagged = tt
wanted-absent p (Some page) is flagged = stalled-absent p page (sym is) flagged

-- ---- a page comes

-- a page that is here stays here
stays : (here : List Bool) (page other : ℕ) → get_or here other false ≡ true → get_or (set here page true) other false ≡ true
stays [] page other is = is
stays (b ∷ here) zero zero is = refl
stays (b ∷ here) zero (suc other) is = is
stays (b ∷ here) (suc page) zero is = is
stays (b ∷ here) (suc page) (suc other) is = stays here page other is

-- of these pages the same one is waited for, or it was the one that came
abbrev Waits : List Bool → ℕ → List ℕ → Type 0
Waits here page pages = (first_absent (set here page true) pages ≡ first_absent here pages) ⊎ (first_absent here pages ≡ Some page)

waits-by : (here : List Bool) (page first : ℕ) (rest : List ℕ) (is_here : Bool) → get_or here first false ≡ is_here → Waits here page rest
    → Waits here page (first ∷ rest)
unfolding first_absent
waits-by here page first rest true e later =
    let was : first_absent here (first ∷ rest) ≡ first_absent here rest = ap (λ b. cond b (first_absent here rest) (Some first)) e in
    let now : first_absent (set here page true) (first ∷ rest) ≡ first_absent (set here page true) rest =
    ap (λ b. cond b (first_absent (set here page true) rest) (Some first)) (stays here page first e) in
    ⊎_elim (λ same. inl (now ∙ same ∙ sym was)) (λ came. inr (was ∙ came)) later
waits-by here page first rest false e later =
    let was : first_absent here (first ∷ rest) ≡ Some first = ap (λ b. cond b (first_absent here rest) (Some first)) e in
    ⊎_elim (λ same. inr (was ∙ ap Some same))
    (λ other. inl (ap (λ b. cond b (first_absent (set here page true) rest) (Some first)) (get_or-set_other here page first true false other ∙ e) ∙ sym was))
    (cases_eq first page)

waits-arrived : (here : List Bool) (page : ℕ) (pages : List ℕ) → Waits here page pages
unfolding first_absent
waits-arrived here page [] = inl refl
waits-arrived here page (first ∷ rest) = waits-by here page first rest (get_or here first false) refl (waits-arrived here page rest)

-- so what is wanted stays, unless it came
pub wanted-arrived : (old new : KeyedMachine) (reply : Reply) (r : Result Arrived AllocError) → new.machine ≡ old.machine
    → IfOk r (Arrives old.key old.pages reply new.pages) → OnErr r (new ≡ old)
    → (stalled_at (paged new) ≡ stalled_at (paged old)) ⊎ (stalled_at (paged old) ≡ Some reply.page)
wanted-arrived old new reply (Ok (Got page)) same h err =
    let now : stalled_at (paged new) ≡ first_absent (set old.pages.here page true) (touch old.machine) =
    ap₂ (λ (pages : Pages) (m : Machine). first_absent pages.here (touch m)) h.3 same in
    ⊎_elim (λ stays. inl (now ∙ stays)) (λ came. inr (came ∙ ap Some h.0)) (waits-arrived old.pages.here page (touch old.machine))
wanted-arrived old new reply (Ok (Had page)) same h err =
    inl (ap₂ (λ (pages : Pages) (m : Machine). first_absent pages.here (touch m)) h.1 same)
wanted-arrived old new reply (Err e) same h err = inl (ap (λ (v : KeyedMachine). stalled_at (paged v)) err)

pub here-arrived : (key : Option Key) (old new : Pages) (reply : Reply) (r : Result Arrived AllocError) → IfOk r (Arrives key old reply new)
    → IfOk r (receiver.Arrives key old.here reply new.here)
here-arrived key old new reply (Ok (Got page)) h = (h.0, h.1, h.2, ap (λ (pages : Pages). pages.here) h.3)
here-arrived key old new reply (Ok (Had page)) h = (h.0, ap (λ (pages : Pages). pages.here) h.1, h.2)
here-arrived key old new reply (Err e) h = tt

blank-arrived : (key : Option Key) (old new : Pages) (reply : Reply) (answer : Arrived) → Arrives key old reply new answer → new.blank ≡ old.blank
blank-arrived key old new reply (Got page) h = ap (λ (pages : Pages). pages.blank) h.3
blank-arrived key old new reply (Had page) h = ap (λ (pages : Pages). pages.blank) h.1

abbrev bare : Machine → List Bool → Option Key → KeyedMachine
bare m blank key = record { machine = m; pages = record { here = []; blank = blank }; key = key }

same-without : (old new : KeyedMachine) → new.machine ≡ old.machine → new.pages.blank ≡ old.pages.blank → new.key ≡ old.key
    → without_here new ≡ without_here old
same-without old new machine blank key = ap (λ m. bare m new.pages.blank new.key) machine ∙ ap₂ (bare old.machine) blank key

-- nothing else changes
pub rest-arrived : (old new : KeyedMachine) (reply : Reply) (r : Result Arrived AllocError) → new.machine ≡ old.machine → new.key ≡ old.key
    → IfOk r (Arrives old.key old.pages reply new.pages) → OnErr r (new ≡ old) → without_here new ≡ without_here old
rest-arrived old new reply (Ok answer) machine key h err =
    same-without old new machine (blank-arrived old.key old.pages new.pages reply answer h) key
rest-arrived old new reply (Err e) machine key h err = ap without_here err

-- a machine that has had the page is as it was
pub had-arrived : (old new : KeyedMachine) (reply : Reply) (r : Result Arrived AllocError) → new.machine ≡ old.machine → new.key ≡ old.key
    → IfOk r (Arrives old.key old.pages reply new.pages) → IfOk r (λ answer. receiver.IsHad answer → new ≡ old)
had-arrived old new reply (Ok (Got page)) machine key h = λ none. absurd none
had-arrived old new reply (Ok (Had page)) machine key h = λ _.
    let keyed : Machine → Pages → Option Key → KeyedMachine = λ m pages k. record { machine = m; pages = pages; key = k } in
    ap (λ m. keyed m new.pages new.key) machine ∙ ap₂ (keyed old.machine) h.1 key
had-arrived old new reply (Err e) machine key h = tt
