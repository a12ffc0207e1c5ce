use Rattle.std.proofs.Common.{◌≡◌, ℕ, zero, suc, ◌<◌, ◌^◌, List, [], ◌∷◌, ◌++◌, length, get_or, map, vec_len, refl, ap, ◌∙◌, sym, subst, append_assoc, arith}
use Rattle.std.specs.List.{All}
use Rattle.std.specs.Option.{IfSome}
use Rattle.std.specs.BTreeMap.{BTreeMap, IsOrdered, get}
use Rattle.std.specs.Ordering.{nat_cmp}
use Rattle.std.proofs.lemmas.Cmp.{nat_cmp_total}
use Rattle.std.proofs.lemmas.Map.Iter.{rest_more}
use Rattle.std.proofs.lemmas.Map.Views.{All-found}
use Rattle.run_report.specs.Lines.{Line}
use Rattle.world_core.specs.declared.cell.Brood.{Brood}
use Rattle.world_core.specs.Broods.{killed_line}
use Rattle.world_core.proofs.cell.calls.log_killed.Goals as goal

-- each brood that the map has is small
are_small : (broods : BTreeMap ℕ Brood) → IsOrdered nat_cmp broods → ((number : ℕ) → IfSome (get nat_cmp broods number) (λ brood. vec_len brood.slots < 2 ^ 32))
    → All (λ entry. vec_len entry.1.slots < 2 ^ 32) broods.entries
are_small broods ordered small k d within =
    subst (λ o. IfSome o (λ brood. vec_len brood.slots < 2 ^ 32)) (All-found nat_cmp_total broods ordered k d within) (small (get_or broods.entries k d).0)

pub broods-init : goal.broods-init
broods-init c =
    let gives = c.into_iter-ticket-iterator.ensures.into_iter_gives in
    record {
      can_next = tt;
      is_finite = tt;
      lines = refl;
      room = omega (arith, c.requires.room, ap length gives.0);
      small = subst (λ (entries : List (ℕ × Brood)). All (λ entry. vec_len entry.1.slots < 2 ^ 32) entries) (sym gives.0) (are_small c.args.broods gives.5 c.requires.small);
    }

first_small : (entries rest : List (ℕ × Brood)) (entry : ℕ × Brood) → entries ≡ entry ∷ rest → All (λ e. vec_len e.1.slots < 2 ^ 32) entries → vec_len entry.1.slots < 2 ^ 32
first_small entries rest entry left small =
    (subst (λ (xs : List (ℕ × Brood)). All (λ e. vec_len e.1.slots < 2 ^ 32) xs) left small) zero entry (omega arith)

pub into_line-requires : goal.into_line-requires
into_line-requires c =
    let entry : ℕ × Brood = (c.in-Some.ticket, c.in-Some.brood) in
    let left = rest_more (λ (x : ℕ × Brood). x) c.broods.ticket-iterator c.next.new.self c.next.result entry c.in-Some.is c.next.ensures.steps in
    first_small c.broods.ticket-iterator c.next.new.self entry left c.broods.invariant.small

pub broods-preserved : goal.broods-preserved
broods-preserved c =
    let entry : ℕ × Brood = (c.in-Some.ticket, c.in-Some.brood) in
    let rest = c.next.new.self in
    let log = c.broods.log.items in
    let left = rest_more (λ (x : ℕ × Brood). x) c.broods.ticket-iterator rest c.next.result entry c.in-Some.is c.next.ensures.steps in
    let small = subst (λ (entries : List (ℕ × Brood)). All (λ e. vec_len e.1.slots < 2 ^ 32) entries) left c.broods.invariant.small in
    record {
      can_next = tt;
      is_finite = tt;
      lines = ap (λ (items : List Line). items ++ map killed_line rest) c.push_reserved.ensures.items
          ∙ append_assoc log (c.into_line.result ∷ []) (map killed_line rest)
          ∙ ap (λ (line : Line). log ++ line ∷ map killed_line rest) c.into_line.ensures
          ∙ ap (λ (entries : List (ℕ × Brood)). log ++ map killed_line entries) (sym left)
          ∙ c.broods.invariant.lines;
      room = omega (arith, ap length left, c.broods.invariant.room, c.push_reserved.ensures.len, c.push_reserved.ensures.capacity);
      small = λ k d within. small (suc k) d (omega arith);
    }
