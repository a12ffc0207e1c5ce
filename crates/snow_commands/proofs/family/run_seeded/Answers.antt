use Rattle.std.proofs.Common.{map, ap, ◌∙◌}
use Rattle.command_texts.specs.Seeded.{all_seeded}
use Rattle.snow_commands.proofs.family.run_seeded.Goals as goal

pub returns-clause-seeded : goal.returns-clause-seeded
returns-clause-seeded g c =
    c.run_hosts-pass.ensures.seeds ∙ c.seed_all.ensures.seeded ∙ ap (λ n. all_seeded n (map g.W.Wire.seeds c.args.wires.now)) c.seed.ensures
