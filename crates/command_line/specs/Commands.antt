-- Commands, and what a subcommand takes, by the values of the code.
use Rattle.std.specs.Prelude.{List}
use Rattle.std.specs.List.{fold}
use Rattle.clap.specs.Words.{App, Rule, new_app, with_rule}
use Rattle.command_line.specs.declared.words.Command.{Command as Asked}
use Rattle.command_line.specs.declared.words.Command.TheVariants as asked
use Rattle.command_line.specs.declared.options.Parameter.{Parameter}
use Rattle.command_line.specs.declared.options.Parameter.TheVariants.{Word, File, Number}
use Rattle.command_line.specs.declared.options.Subcommand.{Subcommand}
use Rattle.command_line.specs.Words.{Command, argument_rule, drive, generated, option_rule, run}

abbrev pub meaning : Asked → Command
meaning (asked.Run guest how) = run guest how
meaning (asked.Drive guest script) = drive guest script.now
meaning (asked.Generated values) = generated values

-- what the parser is told of a word or an option
abbrev pub rule_for : Parameter → Rule
rule_for (Word name) = argument_rule name.now
rule_for (File name) = option_rule name.now
rule_for (Number option) = option_rule option.name.now

-- the command line of a command that takes these too, in their order
abbrev pub taking : List Parameter → App → App
taking parameters app = fold (λ app parameter. with_rule app (rule_for parameter)) app parameters

-- the command line of a subcommand
abbrev pub app_for : Subcommand → App
app_for subcommand = taking subcommand.parameters.now (new_app subcommand.name.now)
