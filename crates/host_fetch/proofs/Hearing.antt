-- Replies that were heard.
use Rattle.std.proofs.Common.{◌≡◌, ◌≢◌, ℕ, Bool, true, false, cond, List, [], ◌∷◌, slice_set, Option, Some, None, Result, Ok, Err, IfOk, IfSome, OnErr, refl, sym, ap, ap₂, ◌∙◌, subst}
use Rattle.std.specs.BTreeMap.{insert_entry, is_at}
use Rattle.std.specs.List.{All}
use Rattle.std.specs.Option.{option_map}
use Rattle.std.specs.declared.cmp.Ordering.{Ordering}
use Rattle.std.specs.declared.cmp.Ordering.TheVariants.{Less, Equal, Greater}
use Rattle.std.specs.Ordering.{is_eq, nat_cmp, ordering_then, match_ordering}
use Rattle.std.proofs.lemmas.List.Elements.{All-cons, All-head, All-nil, All-tail}
use Rattle.std.proofs.lemmas.Map.Lookups.{exact_unsigned}
use Rattle.std.proofs.lemmas.Option.{slice_get_within}
use Rattle.image_depot.specs.Key.{Key, number_of}
use Rattle.image_depot.specs.Reply.{Reply, Delivery, sent_image, sent_page}
use Rattle.cow_disk.specs.declared.arrived.Arrived.{Arrived}
use Rattle.cow_disk.specs.declared.arrived.Arrived.TheVariants.{Got, Had}
use Rattle.image_depot.specs.Receiver.{Arrives, IsAbsent, IsHere, IsOfImage}
use Rattle.wire_fates.specs.declared.fate.Fate.TheVariants.{Give}
use Rattle.host_fetch.specs.Fetch.{Grows}
use Rattle.host_fetch.proofs.Loop.{grown_on, grows_none, set_is_here}
use Rattle.host_fetch.specs.Heard.{IsAtItsPlace, Place, Replies, found, place_cmp}

-- ---- places

both : (a b : Ordering) → ordering_then a b ≡ Equal → (a ≡ Equal) × (b ≡ Equal)
both Less b e = absurd (cc)
both Equal b e = (refl, e)
both Greater b e = absurd (cc)

pub same-place : (a b : Place) → place_cmp a b ≡ Equal → (a.0 ≡ b.0) × (a.1 ≡ b.1)
same-place a b e =
    let parts = both (nat_cmp a.0 b.0) (nat_cmp a.1 b.1) e in
    (exact_unsigned a.0 b.0 parts.0, exact_unsigned a.1 b.1 parts.1)

inserted-by : (o : Ordering) (k : Place) (v : Delivery) (e : Place × Delivery) (es : Replies) → place_cmp k e.0 ≡ o → IsAtItsPlace (k, v) → IsAtItsPlace e
    → All IsAtItsPlace es → All IsAtItsPlace (insert_entry place_cmp es k v)
    → All IsAtItsPlace (match_ordering o ((k, v) ∷ e ∷ es) ((e.0, v) ∷ es) (e ∷ insert_entry place_cmp es k v))
inserted-by Less k v e es is new here rest later =
    All-cons IsAtItsPlace (k, v) (e ∷ es) new (All-cons IsAtItsPlace e es here rest)
inserted-by Equal k v e es is new here rest later =
    let same = same-place k e.0 is in
    All-cons IsAtItsPlace (e.0, v) es (new.0 ∙ same.0, new.1 ∙ same.1) rest
inserted-by Greater k v e es is new here rest later = All-cons IsAtItsPlace e (insert_entry place_cmp es k v) here later

pub inserted : (k : Place) (v : Delivery) (es : Replies) → IsAtItsPlace (k, v) → All IsAtItsPlace es → All IsAtItsPlace (insert_entry place_cmp es k v)
inserted k v [] new h = All-cons IsAtItsPlace (k, v) [] new (All-nil IsAtItsPlace)
inserted k v (e ∷ es) new h =
    let rest = All-tail IsAtItsPlace e es h in
    inserted-by (place_cmp k e.0) k v e es refl new (All-head IsAtItsPlace e es h) rest (inserted k v es new rest)

equal-is : (o : Ordering) → is_eq o ≡ true → o ≡ Equal
equal-is Less e = cc
equal-is Equal e = refl
equal-is Greater e = cc

apart-by : (b : Bool) (place other : Place) → is_at (place_cmp place) other ≡ b → other ≢ place → b ≡ false
apart-by false place other is differ = refl
apart-by true place other is differ =
    let same = same-place place other (equal-is (place_cmp place other) is) in
    absurd (differ (ap₂ (λ (image page : ℕ). let at : Place = (image, page) in at) (sym same.0) (sym same.1)))

-- no other place is found for a place
pub apart : (place other : Place) → other ≢ place → is_at (place_cmp place) other ≡ false
apart place other differ = apart-by (is_at (place_cmp place) other) place other refl differ

found-by : (b : Bool) (image page : ℕ) (e : Place × Delivery) (es : Replies) (sent : Delivery) → is_at (place_cmp (image, page)) e.0 ≡ b → IsAtItsPlace e
    → (found es image page ≡ Some sent → (sent_image sent ≡ image) × (sent_page sent ≡ page)) → cond b (Some e.1) (found es image page) ≡ Some sent
    → (sent_image sent ≡ image) × (sent_page sent ≡ page)
found-by true image page e es sent is here later some =
    let same = same-place (image, page) e.0 (equal-is (place_cmp (image, page) e.0) is) in
    let one : e.1 ≡ sent = cc in
    (sym (ap sent_image one) ∙ here.0 ∙ sym same.0, sym (ap sent_page one) ∙ here.1 ∙ sym same.1)
found-by false image page e es sent is here later some = later some

-- what is found is at its place
pub found-is : (image page : ℕ) (es : Replies) (sent : Delivery) → All IsAtItsPlace es → found es image page ≡ Some sent
    → (sent_image sent ≡ image) × (sent_page sent ≡ page)
found-is image page [] sent h some = absurd (cc)
found-is image page (e ∷ es) sent h some =
    found-by (is_at (place_cmp (image, page)) e.0) image page e es sent refl (All-head IsAtItsPlace e es h)
    (found-is image page es sent (All-tail IsAtItsPlace e es h)) some

pub reply-is : {B : Type 0} (now : B → Delivery) (r : Option B) (image page : ℕ) (es : Replies) → All IsAtItsPlace es → option_map now r ≡ found es image page
    → IfSome r (λ sent. (sent_image (now sent) ≡ image) × (sent_page (now sent) ≡ page))
reply-is now None image page es h e = tt
reply-is now (Some sent) image page es h e = found-is image page es (now sent) h (sym e)

-- ---- a reply that is given

-- pages stay that are here
pub arrived-grows : (key : Option Key) (old new : List Bool) (reply : Reply) (arrived : Arrived) → Arrives key old reply new arrived → Grows old new
arrived-grows key old new reply (Got page) h = grown_on old old new (Give 0) (page ∷ []) (grows_none old) h.3
arrived-grows key old new reply (Had page) h = subst (Grows old) (sym h.1) (grows_none old)

-- the page of a reply of the image is here then
pub arrived-here : (key : Option Key) (old new : List Bool) (reply : Reply) (arrived : Arrived) (k : Key) (page : ℕ) → key ≡ Some k
    → number_of k ≡ number_of reply.key → reply.page ≡ page → IsAbsent old page → Arrives key old reply new arrived → IsHere new page
arrived-here key old new reply (Got got) k page some number is absent h =
    let same : got ≡ page = h.0 ∙ is in
    subst (λ here. IsHere here page) (sym h.3)
    (subst (λ n. IsHere (slice_set old n true) page) (sym same) (set_is_here old page (slice_get_within old page false absent)))
arrived-here key old new reply (Had had) k page some number is absent h =
    let same : had ≡ page = h.0 ∙ is in
    let here = h.2 (subst (λ o. IsOfImage o reply) (sym some) number) in
    subst (λ list. IsHere list page) (sym h.1) (subst (IsHere old) same here)

pub arrived-ok : {E : Type 0} (key : Option Key) (old new : List Bool) (reply : Reply) (r : Result Arrived E) → IfOk r (Arrives key old reply new)
    → OnErr r (new ≡ old) → Grows old new
arrived-ok key old new reply (Ok arrived) h err = arrived-grows key old new reply arrived h
arrived-ok key old new reply (Err e) h err = subst (Grows old) (sym err) (grows_none old)
