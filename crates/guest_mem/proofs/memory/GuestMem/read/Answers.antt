use Rattle.std.proofs.Common.{rules, ◌≡◌, ◌+◌, ◌<◌, ◌≤◌, ℕ, List, [], ◌∷◌, ◌++◌, length, take, drop, get_or, length-drop, sym, ap, ◌∙◌, arith}
use Rattle.std.proofs.lemmas.List.{get_or-drop, take_all, take_more, take_more_set}
use Rattle.guest_mem.proofs.memory.GuestMem.read.Goals as goal

pub loop-place-preserved : goal.loop-place-preserved
loop-place-preserved c =
    let i = c.loop-place.place in
    let xs = c.loop-place.bytes in
    let rest = drop c.args.at c.args.self.now.reads in
    let before : i < length xs = search rules in
    let inside : i < length rest = simp length-drop (omega arith) in (
      search rules,
      take_more_set xs i c.byte.result before
          ∙ ap (λ (ys : List ℕ). ys ++ (c.byte.result ∷ [])) c.loop-place.invariant.1
          ∙ ap (λ (b : ℕ). take i rest ++ (b ∷ [])) (c.byte.ensures ∙ sym (get_or-drop c.args.at c.args.self.now.reads i 0))
          ∙ sym (take_more rest i 0 inside),
    )

pub returns : goal.returns
returns c =
    let i = c.loop-place.place in
    let xs = c.loop-place.bytes in
    let past : length xs ≤ i = search rules in
    let last : i ≡ length c.args.bytes.now = search rules in
    sym (take_all i xs past) ∙ (c.loop-place.invariant.1 ∙ ap (λ (n : ℕ). take n (drop c.args.at c.args.self.now.reads)) last)
