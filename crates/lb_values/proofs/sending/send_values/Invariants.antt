use Rattle.std.proofs.Common.{◌≡◌}
use Rattle.lb_show.specs.Shows.{csv_rest, is_csv, parts_left}
use Rattle.lb_values.specs.Sending.{HasSent}
use Rattle.lb_values.proofs.sending.send_values.Given as goal

abbrev pub invariant-parts : goal.invariant-parts
invariant-parts g l = record {
  sent : HasSent (is_csv l.fn.show) (g.S.Sink.taken l.fn.sink) (g.S.Sink.taken l.sink)
      (csv_rest l.fn.show) (csv_rest l.show);
  kept : is_csv l.show ≡ is_csv l.fn.show;
  failures : g.S.Sink.failures l.sink ≡ g.S.Sink.failures l.fn.sink;
}

abbrev pub decreases-parts : goal.decreases-parts
decreases-parts g l = parts_left l.show
