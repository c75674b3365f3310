use Rattle.lb_show.specs.Shows.{csv_rest, is_csv}
use Rattle.lb_values.proofs.Parts.{front_part}
use Rattle.lb_values.proofs.sending.send_part.Goals as goal

pub returns-in-Err-send-clause-stopped : goal.returns-in-Err-send-clause-stopped
returns-in-Err-send-clause-stopped g c =
    front_part (is_csv c.args.show.now) (g.S.Sink.taken c.args.sink.now)
    (g.S.Sink.taken c.send.new.sink) (csv_rest c.args.show.now) (csv_rest c.write.new.self)
    c.clear.new.self.items c.write.new.text.items c.as_slice.result.now c.in-Err-send.sent.count
    c.clear.ensures.items c.in-Ok.ensures.csv c.as_slice.ensures.value
    c.in-Err-send.ensures.first
