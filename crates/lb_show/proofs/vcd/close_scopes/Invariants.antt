use Rattle.std.proofs.Common.{vec_len}
use Rattle.lb_show.proofs.vcd.close_scopes.Given as goal

abbrev pub decreases-closing : goal.decreases-closing
decreases-closing l = vec_len l.open
