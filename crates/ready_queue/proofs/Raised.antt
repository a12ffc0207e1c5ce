-- A turn of children that is the first.
use Rattle.std.proofs.Common.{◌≡◌, ℕ, inl, List, [], ◌∷◌, ◌++◌, refl, ap}
use Rattle.forest_tree.specs.Tree.{Path}
use Rattle.ready_queue.specs.Ready.{Begins, Raises, Ready}

-- no turn moves then
pub raised-first : (name : Path) (ticket : ℕ) (front back : List Ready) → Begins name ticket front → Raises name ticket (front ++ back) (front ++ back)
raised-first name ticket front back begins =
    let is : front ++ back ≡ begins.turn ∷ begins.rest ++ back = ap (λ list. list ++ back) begins.is in
    record {
      turn = begins.turn;
      of = begins.of;
      others = begins.rest ++ back;
      first = is;
      from = inl (record { before = []; after = begins.rest ++ back; was = is; left = refl });
    }
