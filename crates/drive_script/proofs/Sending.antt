-- What was sent to siblings, as the driver keeps it.
use Rattle.std.proofs.Common.{◌≡◌, ◌≢◌, ℕ, ◌==◌, ◌&&◌, eqb-true, eq-eqb, Bool, true, false, cond, refl, sym, ap, ap₂, ◌∙◌, subst, [], ◌∷◌, ◌++◌, length, Vec, Option, Some, None, option_map}
use Rattle.std.specs.BTreeMap.{BTreeMap, Updates, get}
use Rattle.std.specs.declared.alloc.Global.{Global}
use Rattle.std.proofs.lemmas.Bool.{and_parts}
use Rattle.forest_tree.specs.Tree.{Path}
use Rattle.forest_tree.proofs.Places.{some-same}
use Rattle.talking_history.specs.Histories.{is_same_path}
use Rattle.talking_history.proofs.Held.{same-self, same-is}
use Rattle.machine_names.specs.Name.{child_path}
use Rattle.machine_names.specs.NameOrder.{path_cmp}
use Rattle.machine_names.proofs.NameMaps.{updated-apart, updated-here}
use Rattle.drive_script.specs.declared.answer.SentPlace.{SentPlace}
use Rattle.drive_script.specs.Driven.{Keeps, first_of, pages_in}
use Rattle.drive_script.specs.Replies.{Siblings, Replies, are_same, page_at, place_of, reply_to, siblings_below, siblings_of, with_reply}

-- ---- siblings

pub siblings-child : (path : Path) (ticket child : ℕ) → siblings_of (child_path path ticket child) ≡ Some (record { parent = path; ticket = ticket })
unfolding siblings_of
siblings-child [] ticket child = refl
siblings-child (b ∷ path) ticket child = ap (siblings_below b) (siblings-child path ticket child)

pub siblings-root : (path : Path) → path ≡ [] → siblings_of path ≡ None
unfolding siblings_of
siblings-root path is = ap siblings_of is

pub are-same : (a b : Siblings) → are_same a b ≡ true → a ≡ b
are-same a b h =
    let parts = and_parts (is_same_path a.parent b.parent) (a.ticket == b.ticket) h in
    let make : Path → ℕ → Siblings = λ parent ticket. record { parent = parent; ticket = ticket } in
    ap₂ make (same-is a.parent b.parent parts.0) (eqb-true a.ticket b.ticket parts.1)

same-itself : (a : Siblings) → are_same a a ≡ true
same-itself a = ap₂ (λ parent ticket. parent && ticket) (same-self a.parent) (eq-eqb a.ticket a.ticket refl)

true-not : (b : Bool) → b ≡ true → b ≡ false → ⊥
true-not b is not_so = cc

first-apart : (a b : Siblings) → are_same a b ≡ false → first_of a ≢ first_of b
first-apart a b apart e =
    let is : a ≡ b = some-same a b (sym (siblings-child a.parent a.ticket 1) ∙ ap siblings_of e ∙ siblings-child b.parent b.ticket 1) in
    true-not (are_same a b) (ap (are_same a) (sym is) ∙ same-itself a) apart

-- ---- what was sent

module _ (lists new : BTreeMap Path (Vec ℕ Global)) (sent : Replies) (h : Keeps lists sent) where
  keeps-next : (to : Siblings) (page : ℕ) → pages_in (get path_cmp new (first_of to)) ≡ pages_in (get path_cmp lists (first_of to)) ++ page ∷ []
      → ((other : Path) → first_of to ≢ other → get path_cmp new other ≡ get path_cmp lists other) → Keeps new (with_reply (Some (to, page)) sent)
  keeps-next to page here others at = by (are_same to at) refl
    where
      by : (same : Bool) → are_same to at ≡ same → pages_in (get path_cmp new (first_of at)) ≡ cond same (sent at ++ page ∷ []) (sent at)
      by true e =
          subst (λ (x : Siblings). pages_in (get path_cmp new (first_of x)) ≡ sent x ++ page ∷ []) (are-same to at e)
          (here ∙ ap (λ pages. pages ++ page ∷ []) (h to))
      by false e = ap pages_in (others (first_of at) (first-apart to at e)) ∙ h at

-- a list was taken out, and put back with one page more
module _ (lists mid new : BTreeMap Path (Vec ℕ Global)) (first : Path) (page : ℕ) (list : Vec ℕ Global)
    (taken : Updates path_cmp lists mid first None) (put : Updates path_cmp mid new first (Some list)) where
  pub appended-here : list.items ≡ pages_in (get path_cmp lists first) ++ page ∷ []
      → pages_in (get path_cmp new first) ≡ pages_in (get path_cmp lists first) ++ page ∷ []
  appended-here items = ap pages_in (updated-here mid new first (Some list) put) ∙ items

  pub appended-apart : (other : Path) → first ≢ other → get path_cmp new other ≡ get path_cmp lists other
  appended-apart other apart = updated-apart mid new first (Some list) put other apart ∙ updated-apart lists mid first None taken other apart

-- a reply is sent, or none
abbrev pub IsSent : BTreeMap Path (Vec ℕ Global) → Replies → Option (Siblings × ℕ) → Option SentPlace → Type 0
IsSent new sent reply placed = (placed ≡ place_of reply sent) × Keeps new (with_reply reply sent)

pub sends-none : (lists : BTreeMap Path (Vec ℕ Global)) (sent : Replies) (reply : Option (Siblings × ℕ)) → reply ≡ None → Keeps lists sent → IsSent lists sent reply None
sends-none lists sent reply none h = subst (λ r. IsSent lists sent r None) (sym none) (refl, h)

pub no-page : (to : Option Siblings) (page : Option ℕ) → page ≡ None → reply_to to page ≡ None
no-page None page none = refl
no-page (Some to) page none = ap (reply_to (Some to)) none

pub no-siblings : (to : Option Siblings) (page : Option ℕ) → to ≡ None → reply_to to page ≡ None
no-siblings to page none = ap (λ t. reply_to t page) none

pub first-sibling : (name parent child : Path) (ticket k : ℕ) → name ≡ child_path parent ticket k → child ≡ child_path parent ticket 1
    → Some child ≡ option_map first_of (siblings_of name)
first-sibling name parent child ticket k is first =
    ap Some first ∙ sym (ap (option_map first_of) (ap siblings_of is ∙ siblings-child parent ticket k))

pub no-first : (to : Option Siblings) → None ≡ option_map first_of to → to ≡ None
no-first None h = refl
no-first (Some to) h = absurd (cc)

-- the first of the siblings has the list
pub sends-one : (lists new : BTreeMap Path (Vec ℕ Global)) (sent : Replies) (to : Option Siblings) (first : Path) (page place : ℕ)
    → Some first ≡ option_map first_of to → place ≡ length (pages_in (get path_cmp lists first))
    → pages_in (get path_cmp new first) ≡ pages_in (get path_cmp lists first) ++ page ∷ []
    → ((other : Path) → first ≢ other → get path_cmp new other ≡ get path_cmp lists other) → Keeps lists sent
    → IsSent new sent (reply_to to (Some page)) (Some (record { page = page; place = place }))
sends-one lists new sent None first page place is at here others h = absurd (cc)
sends-one lists new sent (Some to) first page place is at here others h =
    let same : first ≡ first_of to = some-same first (first_of to) is in
    let placed : length (pages_in (get path_cmp lists first)) ≡ length (sent to) = ap (λ f. length (pages_in (get path_cmp lists f))) same ∙ ap length (h to) in
    let put : ℕ → Option SentPlace = λ n. Some (record { page = page; place = n }) in (
      ap put (at ∙ placed),
      keeps-next lists new sent h to page
          (subst (λ f. pages_in (get path_cmp new f) ≡ pages_in (get path_cmp lists f) ++ page ∷ []) same here)
          (subst (λ f. (other : Path) → f ≢ other → get path_cmp new other ≡ get path_cmp lists other) same others),
    )

-- ---- a page at a place

pub page-none : (to : Option Siblings) (place : ℕ) (sent : Replies) → to ≡ None → None ≡ page_at to place sent
page-none to place sent none = sym (ap (λ t. page_at t place sent) none)
