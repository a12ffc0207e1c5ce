use Rattle.std.proofs.Common.{◌≡◌, false, take}
use Rattle.clap.specs.declared.Command.TheViews.{out-Command}
use Rattle.clap.specs.Words.{app_of, new_app}
use Rattle.command_line.specs.Commands.{taking}
use Rattle.command_line.proofs.words.made_subcommand.Given as goal

abbrev pub invariant-parameters : goal.invariant-parameters
invariant-parameters l = record {
  app : app_of l.made ≡ taking (take l.parameter-index l.fn.subcommand.parameters.now) (new_app l.fn.subcommand.name.now);
  local : (out-Command l.made).has_globals ≡ false;
}
