use Rattle.lb_show.proofs.widths.digits.Given as goal

abbrev pub decreases-digits : goal.decreases-digits
decreases-digits l = l.rest
