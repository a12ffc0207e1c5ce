use Rattle.std.proofs.Common.{◌∙◌, ap}
use Rattle.std.proofs.lemmas.Result.{IfOk-weaker}
use Rattle.clap.specs.Words.{App, app_of, with_subcommand}
use Rattle.command_line.proofs.words.subcommand_added.Goals as goal

pub returns : goal.returns
returns c =
    IfOk-weaker c.subcommand.result _ _
    (λ added adds. adds.shape c.in_ok-made.ensures.local ∙ ap (λ (app : App). with_subcommand (app_of c.args.command) app.top) c.in_ok-made.ensures.app)
    c.subcommand.ensures
