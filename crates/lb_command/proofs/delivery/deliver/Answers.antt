use Rattle.std.proofs.Common.{◌≤◌, List, ℕ, length, subst, take}
use Rattle.lb_output.specs.Taken.{Takes}
use Rattle.lb_command.specs.Outcomes.IsDelivered.{whole}
use Rattle.lb_command.proofs.Deliveries.{broken_by}
use Rattle.lb_command.proofs.delivery.deliver.Goals as goal

pub returns-in-Ok : goal.returns-in-Ok
returns-in-Ok g c =
    let taken = g.W.Sink.taken in
    let Took : List ℕ → Type 0 = Takes (taken c.args.writer.now) (taken c.put.new.sink) in
    let took = subst Took c.text.ensures c.in-Ok.ensures.all in
    whole c.status.ensures (record { all = took; never_failed = c.in-Ok.ensures.ok })
    c.warn.ensures.warned

pub returns-in-Err : goal.returns-in-Err
returns-in-Err g c =
    let is = c.unsent-refusal.ensures in
    let taken = g.W.Sink.taken in
    let sent = c.in-Err.sent in
    let Within : List ℕ → Type 0 = λ bytes. sent.count ≤ length bytes in
    let First : List ℕ → Type 0 = λ bytes.
    Takes (taken c.args.writer.now) (taken c.put.new.sink) (take sent.count bytes) in
    broken_by _ _ _ _ _ _ c.unsent-refusal.result sent.count is.number is.position
    (subst Within c.text.ensures c.in-Err.ensures.within)
    (subst First c.text.ensures c.in-Err.ensures.first) c.tell.ensures.status
    c.in-Err.ensures.failed c.tell.ensures.told
