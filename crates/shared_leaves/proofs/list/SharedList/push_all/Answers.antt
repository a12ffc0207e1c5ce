use Rattle.std.proofs.Common.{◌≡◌, ◌++◌, length, sym, ap, ◌∙◌, append_assoc, append-nil, length-append, arith}
use Rattle.std.specs.Vec.Iter.{into_iter_items}
use Rattle.std.proofs.lemmas.List.{nil_from_length}
use Rattle.shared_leaves.proofs.list.SharedList.push_all.Goals as goal

pub push_leaf-requires-clause-full : goal.push_leaf-requires-clause-full
push_leaf-requires-clause-full g c = c.leaves.invariant.full (omega (arith, c.leaves-test.true, c.len.ensures))

pub push_leaf-requires-clause-some : goal.push_leaf-requires-clause-some
push_leaf-requires-clause-some g c =
    omega (arith, ap length c.in_ok-new.ensures, c.next_entries.ensures.most, c.leaves-test.true, c.len.ensures, c.leaves.entries.rest.ok.0)

pub push_leaf-requires-clause-most : goal.push_leaf-requires-clause-most
push_leaf-requires-clause-most g c = omega (arith, ap length c.in_ok-new.ensures, c.next_entries.ensures.most)

pub leaves-preserved : goal.leaves-preserved
leaves-preserved g c =
    let list = c.leaves.self in
    let leaf = c.next_entries.result.items in
    let rest = into_iter_items c.next_entries.new.left in
    let pushed = c.in_ok-push_leaf.ensures ∙ ap (λ entries. list ++ entries) c.in_ok-new.ensures in
    let full = c.leaves.invariant.full (omega (arith, c.leaves-test.true, c.len.ensures)) in
    record {
      parts =
          c.leaves.invariant.parts ∙ ap (λ left. list ++ left) c.next_entries.ensures.parts
          ∙ sym (append_assoc list leaf rest) ∙ ap (λ front. front ++ rest) (sym pushed);
      full = λ some. omega (
        arith,
        some,
        full,
        ap length pushed,
        length-append list leaf,
        c.next_entries.ensures.most,
        ap length c.next_entries.ensures.parts,
        length-append leaf rest,
        c.next_entries.new.left.rest.ok.0,
      );
    }

pub leaves-smaller : goal.leaves-smaller
leaves-smaller g c =
    let leaf = c.next_entries.result.items in
    let rest = into_iter_items c.next_entries.new.left in
    omega (
      arith,
      c.leaves-test.true,
      c.len.ensures,
      c.next_entries.ensures.most,
      ap length c.next_entries.ensures.parts,
      length-append leaf rest,
      c.leaves.entries.rest.ok.0,
      c.next_entries.new.left.rest.ok.0,
    )

pub returns : goal.returns
returns g c =
    let left = into_iter_items c.leaves.entries in
    let none : length left ≡ 0 = omega (arith, c.leaves-test.false, c.len.ensures, c.leaves.entries.rest.ok.0) in
    sym (c.leaves.invariant.parts ∙ ap (λ rest. c.leaves.self ++ rest) (nil_from_length left none) ∙ append-nil c.leaves.self)
