use Rattle.lb_check.proofs.clock_rules.+place_side.Given as goal

abbrev pub decreases-place_side : goal.decreases-place_side
decreases-place_side l = goal.size-place_side l
