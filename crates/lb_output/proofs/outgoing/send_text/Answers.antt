-- The bytes that the sink took before it failed are the front of the text.
use Rattle.std.proofs.Common.{◌≡◌, ℕ, List, length, take, drop, ap, subst, arith}
use Rattle.lb_output.specs.Taken.{Takes}
use Rattle.lb_output.proofs.GoingOut.{goes_front}
use Rattle.lb_output.proofs.outgoing.send_text.Goals as goal

pub returns-in-Err-clause-first : goal.returns-in-Err-clause-first
returns-in-Err-clause-first g c =
    let text = c.args.out.now.text.items in
    let n = c.in-Err.sent.count in
    let sent : c.as_slice.result.now ≡ text = c.as_slice.ensures.value in
    let taken = g.S.Sink.taken in
    let Took : List ℕ → Type 0 =
    λ bytes. Takes (taken c.args.sink.now) (taken c.send.new.sink) (take n bytes) in (
      drop n text,
      goes_front (g.S.Sink.taken c.args.sink.now) (g.S.Sink.taken c.send.new.sink) text
          c.args.out.now.count n (omega (arith, c.in-Err.ensures.within, ap length sent))
          (subst Took sent c.in-Err.ensures.first),
    )
