use Rattle.lb_show.proofs.vcd.push_identifier.Given as goal

abbrev pub decreases-characters : goal.decreases-characters
decreases-characters l = l.rest
