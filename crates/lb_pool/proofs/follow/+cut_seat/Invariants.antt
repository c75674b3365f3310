use Rattle.lb_pool.proofs.follow.+cut_seat.Given as goal

abbrev pub decreases-cut_seat : goal.decreases-cut_seat
decreases-cut_seat l = l.count
