use Rattle.std.proofs.Common.{◌∙◌, ap, rules, ◌≡◌}
use Rattle.std.proofs.lemmas.Result.{IfOk-weaker}
use Rattle.clap.specs.Words.{App, app_of, with_subcommand}
use Rattle.command_line.specs.Words.{drive_app, generated_app, run_app, with_files, with_numbers, with_slice, with_wire, with_workers, without_own_name}
use Rattle.command_line.proofs.words.snow_command.Goals as goal

pub returns : goal.returns
unfolding with_files with_numbers with_wire with_workers with_slice
returns c =
    let bare : app_of c.no_binary_name-command.result ≡ without_own_name (app_of c.new.result) = search rules in
    let top = bare ∙ ap without_own_name c.new.ensures.app in
    let run = c.in_ok-command.ensures ∙ ap (λ (app : App). with_subcommand app run_app.top) top in
    let drive = c.in_ok-command-2.ensures ∙ ap (λ (app : App). with_subcommand app drive_app.top) run in
    IfOk-weaker c.subcommand_added-3.result _ _ (λ added is. is ∙ ap (λ (app : App). with_subcommand app generated_app.top) drive)
    c.subcommand_added-3.ensures
