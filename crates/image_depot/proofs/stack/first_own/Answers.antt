use Rattle.std.proofs.Common.{◌+◌, drop, sym, ap, ◌∙◌, arith}
use Rattle.std.proofs.lemmas.List.{drop_all}
use Rattle.image_depot.proofs.Stacks.{IsLeft-all, IsLeft-more, bytes_of_next, left_next, none_left, page_in_next}
use Rattle.image_depot.proofs.stack.first_own.Goals as goal

pub loop-layer-init : goal.loop-layer-init
loop-layer-init g c = IsLeft-all c.args.page (g.L.Layer.tables c.args.layers.now) c.requires.stack c.requires.there

pub has-requires : goal.has-requires
has-requires g c =
    let layers = c.args.layers.now in
    let i = c.loop-layer.layer-index in
    let layer = c.layer-item.result in
    let behind = drop (i + 1) layers in
    page_in_next c.args.page (g.L.Layer.tables layers) (g.L.Layer.tables (drop i layers)) (g.L.Layer.entries layer) (g.L.Layer.tables behind)
    (ap g.L.Layer.tables (left_next layers i layer c.loop-layer-test.true c.layer-item.is) ∙ g.met.L.Layer.of_more layer behind) c.loop-layer.invariant

pub loop-layer-preserved : goal.loop-layer-preserved
loop-layer-preserved g c =
    let layers = c.args.layers.now in
    let i = c.loop-layer.layer-index in
    let layer = c.layer-item.result in
    let behind = drop (i + 1) layers in
    IsLeft-more c.args.page (g.L.Layer.tables layers) (g.L.Layer.tables (drop i layers)) (g.L.Layer.entries layer) (g.L.Layer.tables behind)
    (ap g.L.Layer.tables (left_next layers i layer c.loop-layer-test.true c.layer-item.is) ∙ g.met.L.Layer.of_more layer behind) c.loop-layer.invariant
    (sym c.has.ensures ∙ c.if-has.false)

pub returns-then-has : goal.returns-then-has
returns-then-has g c =
    let layers = c.args.layers.now in
    let i = c.loop-layer.layer-index in
    let layer = c.layer-item.result in
    let behind = drop (i + 1) layers in
    let is_next = ap g.L.Layer.tables (left_next layers i layer c.loop-layer-test.true c.layer-item.is) ∙ g.met.L.Layer.of_more layer behind in
    let own = sym c.has.ensures ∙ c.if-has.true in
    record {
      among = (i, c.loop-layer-test.true, sym c.layer-item.is);
      there = page_in_next c.args.page (g.L.Layer.tables layers) (g.L.Layer.tables (drop i layers)) (g.L.Layer.entries layer) (g.L.Layer.tables behind) is_next c.loop-layer.invariant;
      own = own;
      bytes = bytes_of_next c.args.page (g.L.Layer.tables layers) (g.L.Layer.tables (drop i layers)) (g.L.Layer.entries layer) (g.L.Layer.tables behind) is_next c.loop-layer.invariant own;
    }

pub unreachable-requires : goal.unreachable-requires
unreachable-requires g c =
    let layers = c.args.layers.now in
    let i = c.loop-layer.layer-index in
    none_left c.args.page (g.L.Layer.tables layers) (g.L.Layer.tables (drop i layers))
    (ap g.L.Layer.tables (drop_all i layers (omega arith)) ∙ g.met.L.Layer.of_none) c.loop-layer.invariant
