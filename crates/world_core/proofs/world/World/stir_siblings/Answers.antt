use Rattle.std.proofs.Common.{◌+◌, refl, ◌∙◌, arith}
use Rattle.machine_names.specs.Name.{child_path}
use Rattle.world_core.specs.Between.{with_tree}
use Rattle.world_core.specs.Stirring.{rests_until}
use Rattle.world_core.specs.World.{rests_in}
use Rattle.world_core.proofs.Telling.{told-further, told-none, told-one}
use Rattle.world_core.proofs.world.World.stir_siblings.Goals as goal

pub loop-who-init : goal.loop-who-init
loop-who-init c = record {
  first = omega arith;
  last = omega arith;
  stirs = λ depot f b h over. h;
  told = refl;
  images = λ images h. h;
}

pub loop-who-preserved : goal.loop-who-preserved
loop-who-preserved c =
    let l = c.loop-who in
    let who = c.in-Some.who in
    let most = c.in-Some.ensures.bounds in
    record {
      first = omega (arith, l.invariant.first, most.0);
      last = omega (arith, most.1);
      stirs = λ depot f b h over.
          let is = l.invariant.stirs depot f b h over in
          let one = told-one depot l.self f c.args.parent.now c.args.ticket c.args.index b l.first is over who c.in-Some.ensures.noted in
          told-further depot l.self c.stir.new.self f c.args.parent.now c.args.ticket c.args.index b l.first (who + 1) is c.stir.ensures.rest.0 c.stir.ensures.rest.1
          (c.stir.ensures.each depot (rests_until c.args.parent.now c.args.ticket l.first (rests_in f.tree) (rests_in (with_tree (child_path c.args.parent.now c.args.ticket c.args.index) b f).tree))
          (rests_until c.args.parent.now c.args.ticket (who + 1) (rests_in f.tree) (rests_in (with_tree (child_path c.args.parent.now c.args.ticket c.args.index) b f).tree))
          (with_tree (child_path c.args.parent.now c.args.ticket c.args.index) b f).tree is.whole is.root is.each one.2);
      told = c.stir.ensures.told ∙ l.invariant.told;
      images = λ images h. c.stir.ensures.images images (l.invariant.images images h);
    }

pub returns-clause-stands : goal.returns-clause-stands
returns-clause-stands c depot f b h over =
    let l = c.loop-who in
    told-none depot l.self f c.args.parent.now c.args.ticket c.args.index b l.first (l.invariant.stirs depot f b h over) over c.in_default.ensures.noted
