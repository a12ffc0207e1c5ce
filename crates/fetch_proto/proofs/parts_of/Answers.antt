use Rattle.std.proofs.Common.{rules, ◌≡◌, ℕ, List, ◌++◌, sym, ap, ◌∙◌, ◌≤◌, length, subst, arith}
use Rattle.std.specs.Prelude.{drop, take}
use Rattle.std.specs.Int.{to_le_bytes, from_le_bytes, w32}
use Rattle.flat_memory.proofs.ByteLists.{AreBytes}
use Rattle.fetch_proto.specs.Frame.{frame}
use Rattle.fetch_proto.proofs.Frames.{bytes-drop, word-back, in_four, framed}
use Rattle.fetch_proto.proofs.parts_of.Goals as goal

pub returns : goal.returns
returns c =
    let four = in_four 4 c.args.bytes.now c.in_ok-magic.magic.now c.in_ok-magic.rest.now c.in_ok-image.image.now c.in_ok-image.rest.now c.in_ok-page.page.now c.in_ok-page.rest.now
    c.in_ok-magic.ensures.cases.0 c.in_ok-magic.ensures.cases.1 c.in_ok-image.ensures.cases.0 c.in_ok-image.ensures.cases.1 c.in_ok-page.ensures.cases.0 c.in_ok-page.ensures.cases.1 in
    let bytes : AreBytes c.args.bytes.now = λ i. let fits = c.type_inv.bytes i in search rules in
    let beyond-magic : AreBytes c.in_ok-magic.rest.now = subst AreBytes (sym c.in_ok-magic.ensures.cases.1) (bytes-drop 4 c.args.bytes.now bytes) in
    let beyond-image : AreBytes c.in_ok-image.rest.now = subst AreBytes (sym c.in_ok-image.ensures.cases.1) (bytes-drop 4 c.in_ok-magic.rest.now beyond-magic) in
    let left-1 = c.in_ok-image.ensures.cases.2 in
    let left-2 = c.in_ok-page.ensures.cases.2 in
    let image = word-back c.in_ok-magic.rest.now c.in_ok-image.image.now c.from_le_bytes-2.result beyond-magic (omega (arith, left-1)) c.in_ok-image.ensures.cases.0 c.from_le_bytes-2.ensures in
    let page = word-back c.in_ok-image.rest.now c.in_ok-page.page.now c.from_le_bytes-3.result beyond-image (omega (arith, left-2)) c.in_ok-page.ensures.cases.0 c.from_le_bytes-3.ensures in
    let left = c.in_ok-magic.ensures.cases.2 in
    let magic = word-back c.args.bytes.now c.in_ok-magic.magic.now c.from_le_bytes.result bytes (omega (arith, left)) c.in_ok-magic.ensures.cases.0 c.from_le_bytes.ensures in
    record {
      image_fits = search rules;
      page_fits = search rules;
      is =
          framed c.args.bytes.now c.in_ok-magic.magic.now c.in_ok-image.image.now c.in_ok-page.page.now c.in_ok-page.rest.now c.in-Ok.bytes.now
          c.from_le_bytes-2.result c.from_le_bytes-3.result four (ap (to_le_bytes w32) (sym c.if-from_le_bytes-ne-MAGIC.false) ∙ magic) image page c.in-Ok.ensures.1.same;
    }

pub returns-then-from_le_bytes-ne-MAGIC : goal.returns-then-from_le_bytes-ne-MAGIC
unfolding frame
returns-then-from_le_bytes-ne-MAGIC c image page content whole is =
    c.if-from_le_bytes-ne-MAGIC.true (c.from_le_bytes.ensures ∙ ap (from_le_bytes w32) (c.in_ok-magic.ensures.cases.0 ∙ ap (take 4) is))
