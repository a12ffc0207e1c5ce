use Rattle.command_line.proofs.Meanings.{not-global, parameter-more, rule-added}
use Rattle.command_line.proofs.words.made_subcommand.Goals as goal

pub parameters-preserved : goal.parameters-preserved
parameters-preserved c =
    let so_far = c.parameters.invariant in
    let adds = c.in_ok-made.ensures in
    record {
      app = parameter-more c.args.subcommand.now.parameters.now _ _ _ c.parameters.parameter-index _ c.parameters-test.true so_far.app
          (rule-added adds c.argument.ensures.1 c.argument.ensures.0);
      local = not-global adds c.argument.ensures.0 so_far.local;
    }
