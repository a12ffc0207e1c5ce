use Rattle.std.proofs.Common.{◌≡◌, Some, option_map, ◌∙◌, sym, ap}
use Rattle.std.proofs.lemmas.Result.{IfOk-weaker}
use Rattle.drive_script.specs.Script.{name_of}
use Rattle.drive_script.proofs.Names.{name-forks, no-more}
use Rattle.drive_script.proofs.name.NameText.name.Goals as goal

pub returns : goal.returns
returns c =
    let text = c.as_bytes.result.now in
    let named : name_of text ≡ Some c.args.self.now = ap name_of c.as_bytes.ensures.value ∙ c.self.invariant.is_name ∙ ap Some c.self.view_is in
    let forks = name-forks text c.cut.result.0.now (option_map (λ text. text.now) c.cut.result.1) c.args.self.now c.cut.ensures.parts named in
    let whole = no-more c.forks.branches.items (option_map (λ text. text.now) c.forks.forks) _ (ap (option_map (λ text. text.now)) c.in_default.is) c.forks.invariant in
    let same : Some c.forks.branches.items ≡ Some c.args.self.now = sym whole ∙ forks in
    let all : c.forks.branches.items ≡ c.args.self.now = cc in
    IfOk-weaker c.from_branches.result _ _ (λ name is. is ∙ all) c.from_branches.ensures
