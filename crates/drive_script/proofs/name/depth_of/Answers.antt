use Rattle.std.proofs.Common.{◌≡◌, true, codes, Some, option_map, ◌∙◌, sym, ap}
use Rattle.std.specs.Str.{bytes_eq}
use Rattle.drive_script.proofs.Names.{depth-end, name-depth, not-other}
use Rattle.drive_script.proofs.name.depth_of.Goals as goal

pub returns : goal.returns
returns c =
    let whole = depth-end c.forks.depth (option_map (λ text. text.now) c.forks.forks) _ (ap (option_map (λ text. text.now)) c.in_default.is) c.forks.invariant.all in
    let zero : bytes_eq c.cut.result.0.now (codes "0") ≡ true = ap (bytes_eq c.cut.result.0.now) (sym c.as_slice.ensures) ∙ not-other _ c.if-ne.ensures in
    name-depth c.args.text.now c.cut.result.0.now (option_map (λ text. text.now) c.cut.result.1) (Some c.forks.depth) c.cut.ensures.parts zero whole
