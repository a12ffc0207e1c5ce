-- Histories that go on, and what they leave of a forest.
use Rattle.std.proofs.Common.{◌≡◌, refl, ◌∙◌, [], ◌∷◌, ◌++◌}
use Rattle.forest_tree.specs.Operations.{Operations, IsMachine}
use Rattle.forest_tree.specs.Sound.{IsSound}
use Rattle.sibling_forest.specs.Talk.{Talks, IsTalking}
use Rattle.sibling_forest.specs.Finish.{finish}
use Rattle.sibling_forest.specs.Members.{IsWholeForest}
use Rattle.talking_history.specs.Places.{spots, bare, spot_talks, boxes}
use Rattle.talking_history.specs.Histories.{Seat, Entry, row, told, heard, tell_failed, hear_failed, History, Record, Permits, record_after, replay, IsLegal}
use Rattle.talking_history.proofs.Ends.{does-sound, does-whole, does-leaves}

module _ {M E : Type 0} (o : Operations M E) (k : Talks M) where
  pub replay-append : {R : Type 0} (before more : History R) (r : Record M R)
      → replay o k (before ++ more) r ≡ replay o k more (replay o k before r)
  unfolding replay
  replay-append [] more r = refl
  replay-append (e ∷ rest) more r = replay-append rest more (record_after o k e.0 e.1 r)

  pub legal-apart : {R : Type 0} (before more : History R) (r : Record M R) → IsLegal o k (before ++ more) r
      → IsLegal o k before r × IsLegal o k more (replay o k before r)
  unfolding replay IsLegal
  legal-apart [] more r h = (tt, h)
  legal-apart (e ∷ rest) more r h =
      let both = legal-apart rest more (record_after o k e.0 e.1 r) h.1 in
      ((h.0, both.0), both.1)

  pub legal-together : {R : Type 0} (before more : History R) (r : Record M R) → IsLegal o k before r → IsLegal o k more (replay o k before r)
      → IsLegal o k (before ++ more) r
  unfolding replay IsLegal
  legal-together [] more r h then = then
  legal-together (e ∷ rest) more r h then = (h.0, legal-together rest more (record_after o k e.0 e.1 r) h.1 then)

  -- one entry more
  pub replay-push : {R : Type 0} (before : History R) (seat : Seat) (entry : Entry R) (r : Record M R)
      → replay o k (before ++ (seat, entry) ∷ []) r ≡ record_after o k seat entry (replay o k before r)
  unfolding replay
  replay-push before seat entry r = replay-append before ((seat, entry) ∷ []) r

  pub legal-push : {R : Type 0} (before : History R) (seat : Seat) (entry : Entry R) (r : Record M R) → IsLegal o k before r
      → Permits o k seat entry (replay o k before r) → IsLegal o k (before ++ (seat, entry) ∷ []) r
  unfolding IsLegal
  legal-push before seat entry r h may = legal-together before ((seat, entry) ∷ []) r h (may, tt)

  module _ (rules : IsMachine o) (talking : IsTalking o k) where
    pub after-sound : {R : Type 0} (seat : Seat) (entry : Entry R) (r : Record M R) → IsSound (boxes o k) r.world.tree
        → IsSound (boxes o k) (record_after o k seat entry r).world.tree
    unfolding record_after
    after-sound seat (row x) r h = does-sound o k rules talking x r.world h
    after-sound seat (told image page) r h = h
    after-sound seat (heard place) r h = h
    after-sound seat tell_failed r h = h
    after-sound seat (hear_failed place) r h = h

    pub replay-sound : {R : Type 0} (history : History R) (r : Record M R) → IsSound (boxes o k) r.world.tree
        → IsSound (boxes o k) (replay o k history r).world.tree
    unfolding replay
    replay-sound [] r h = h
    replay-sound (e ∷ rest) r h = replay-sound rest (record_after o k e.0 e.1 r) (after-sound e.0 e.1 r h)

    after-whole : {R : Type 0} (seat : Seat) (entry : Entry R) (r : Record M R) → IsWholeForest (spots o) (spot_talks k) r.world.tree
        → IsWholeForest (spots o) (spot_talks k) (record_after o k seat entry r).world.tree
    unfolding record_after
    after-whole seat (row x) r h = does-whole o k rules talking x r.world h
    after-whole seat (told image page) r h = h
    after-whole seat (heard place) r h = h
    after-whole seat tell_failed r h = h
    after-whole seat (hear_failed place) r h = h

    pub replay-whole : {R : Type 0} (history : History R) (r : Record M R) → IsWholeForest (spots o) (spot_talks k) r.world.tree
        → IsWholeForest (spots o) (spot_talks k) (replay o k history r).world.tree
    unfolding replay
    replay-whole [] r h = h
    replay-whole (e ∷ rest) r h = replay-whole rest (record_after o k e.0 e.1 r) (after-whole e.0 e.1 r h)

    after-leaves : {R : Type 0} (seat : Seat) (entry : Entry R) (r : Record M R) → IsSound (boxes o k) r.world.tree
        → finish o k (bare (record_after o k seat entry r).world.tree) ≡ finish o k (bare r.world.tree)
    unfolding record_after
    after-leaves seat (row x) r h = does-leaves o k rules talking x r.world h
    after-leaves seat (told image page) r h = refl
    after-leaves seat (heard place) r h = refl
    after-leaves seat tell_failed r h = refl
    after-leaves seat (hear_failed place) r h = refl

    pub replay-leaves : {R : Type 0} (history : History R) (r : Record M R) → IsSound (boxes o k) r.world.tree
        → finish o k (bare (replay o k history r).world.tree) ≡ finish o k (bare r.world.tree)
    unfolding replay
    replay-leaves [] r h = refl
    replay-leaves (e ∷ rest) r h =
        replay-leaves rest (record_after o k e.0 e.1 r) (after-sound e.0 e.1 r h) ∙ after-leaves e.0 e.1 r h
