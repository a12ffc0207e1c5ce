-- A turn in its room, at the head of others.
use Rattle.std.proofs.Common.{◌≡◌, ◌∷◌, Option, Some, None, refl, sym, ap, ◌∙◌}
use Rattle.std.specs.declared.alloc.Global.{Global}
use Rattle.std.specs.declared.boxed.Box.{Box}
use Rattle.ready_queue.specs.Nodes.{turns_from, turns_behind, turns_of, ready_of}
use Rattle.ready_queue.specs.declared.turn.Node.{Node, Node-F, out-Node, roll-Node, out-roll-Node, rolls-Node', is-Node', back-Node-next}

turns_behind-back : (next : Option (Box Node Global)) → turns_behind (back-Node-next next) ≡ turns_of next
unfolding turns_from
turns_behind-back None = refl
turns_behind-back (Some first) = refl

pub turns_from_roll : (x : Node-F Node) → turns_from (roll-Node x) ≡ record { name = x.name; children = x.children } ∷ turns_of x.next
unfolding turns_from
turns_from_roll x = ap turns_from (rolls-Node' x) ∙ ap (λ rest. record { name = x.name; children = x.children } ∷ rest) (turns_behind-back x.next)

pub turns_from_out : (node : Node) → turns_from node ≡ ready_of node ∷ turns_of (out-Node node).next
unfolding turns_from
turns_from_out node = ap turns_from (is-Node' node) ∙ ap (λ rest. ready_of node ∷ rest) (turns_behind-back (out-Node node).next)

pub ready_of_roll : (x : Node-F Node) → ready_of (roll-Node x) ≡ record { name = x.name; children = x.children }
ready_of_roll x = ap (λ y. record { name = y.name; children = y.children }) (out-roll-Node x)

-- the first turn, taken from those behind it
pub first_turn : (first : Option (Box Node Global)) (b : Box Node Global) (node : Node) (rest next : Option (Box Node Global)) → Some b ≡ first → node ≡ b.value
    → rest ≡ (out-Node node).next
    → turns_of first ≡ ready_of (roll-Node record { name = (out-Node node).name; children = (out-Node node).children; next = next }) ∷ turns_of rest
first_turn first b node rest next e is behind =
    ap turns_of (sym e) ∙ ap turns_from (sym is) ∙ turns_from_out node ∙ ap (λ next. ready_of node ∷ turns_of next) (sym behind)
    ∙ ap (λ turn. turn ∷ turns_of rest) (sym (ready_of_roll (record { name = (out-Node node).name; children = (out-Node node).children; next = next })))
