use Rattle.std.proofs.Common.{◌≡◌, subst}
use Rattle.image_depot.specs.Key.{Shelves}
use Rattle.talking_history.specs.Rows.{took, does}
use Rattle.forest_model.specs.Paged.{paged_machines, paged_talks}
use Rattle.world_core.specs.Answers.{HandedOut, Takes}
use Rattle.world_core.specs.Lent.{Lent}
use Rattle.world_core.specs.World.{Forest}
use Rattle.world_core.specs.declared.world.Taken.{Taken}
use Rattle.world_core.specs.declared.world.Taken.TheVariants as taken
use Rattle.world_core.specs.declared.world.World.{World}
use Rattle.world_core.proofs.Arriving.{taken-handed}
use Rattle.world_core.proofs.Giving.{home-wants-none}
use Rattle.machine_tests.proofs.world_core_tests.is_given_back.Goals as goal

handed-out : (depot : Shelves) (f : Forest) (r : Taken) (lease : Lent) (new : World) → r ≡ taken.Took lease → Takes depot f r new → HandedOut new lease
handed-out depot f r lease new is takes =
    let took_so = subst (λ (t : Taken). Takes depot f t new) is takes in
    (depot, (does paged_machines paged_talks (took lease.name) f, took_so.0.after, taken-handed f lease took_so.1, took_so.2))

pub take-requires : goal.take-requires
take-requires c = let h = c.requires.1 in (h.forest, h.stands)

pub give-requires : goal.give-requires
give-requires c = let h = c.requires.1 in handed-out c.args.depot.now h.forest c.take.result c.in-Took.lease c.take.new.self c.in-Took.is (c.take.ensures.takes h.forest h.stands)

pub unreachable-requires : goal.unreachable-requires
unreachable-requires c =
    let h = c.requires.1 in
    let out_so = handed-out c.args.depot.now h.forest c.take.result c.in-Took.lease c.take.new.self c.in-Took.is (c.take.ensures.takes h.forest h.stands) in
    home-wants-none c.in-Took.lease.now.ending (c.in-Memory-give.ensures.answers out_so.0 out_so.1.0 out_so.1.1 out_so.1.2 out_so.1.3).0
