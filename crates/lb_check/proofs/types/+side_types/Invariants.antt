use Rattle.lb_check.proofs.types.+side_types.Given as goal

abbrev pub decreases-side_types : goal.decreases-side_types
decreases-side_types l = goal.size-side_types l
