use Rattle.world_core.proofs.world.leases.Leases.last_is_out.Given as goal

abbrev pub decreases-loop-name : goal.decreases-loop-name
decreases-loop-name l = goal.left-loop-name l
