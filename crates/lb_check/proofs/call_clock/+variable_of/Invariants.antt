use Rattle.lb_check.proofs.call_clock.+variable_of.Given as goal

abbrev pub decreases-variable_of : goal.decreases-variable_of
decreases-variable_of l = goal.size-variable_of l
