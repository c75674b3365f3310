use Rattle.std.proofs.Common.{Err, Global, Ok, Vec, ℕ, refl}
use Rattle.lb_output.proofs.SinkBytes.{takes_nothing}
use Rattle.lb_command.specs.Streams.{change}
use Rattle.lb_command.proofs.Showings.{out_of_memory, showing_in, shown_of, unshown_of}
use Rattle.lb_command.proofs.showing.show_texts.Goals as goal

pub returns-in_default-clause-shown : goal.returns-in_default-clause-shown
returns-in_default-clause-shown g c =
    out_of_memory (Vec ℕ Global) _ _ c.args.task.now _ _ refl
    (record { kept = takes_nothing _; never_failed = refl })

pub returns-in-Ok-show_values-clause-shown : goal.returns-in-Ok-show_values-clause-shown
returns-in-Ok-show_values-clause-shown g c =
    let taken = g.W.Sink.taken in
    let failures = g.W.Sink.failures in
    let writer = c.args.writer.now in
    let after = c.show_values.new.sink in
    let output = change (taken writer) (taken after) (failures writer) (failures after) in
    let source = c.parts.result.0.now in
    let traces = c.parts.result.1.now in
    showing_in {T = Vec ℕ Global} c.args.texts source traces c.args.task.now output
    (Ok c.warnings_of.result) c.parts.ensures.source c.parts.ensures.traces
    (shown_of source traces c.args.task.now c.asked-asked.result output c.warnings_of.result
    c.asked-asked.ensures c.in-Ok-show_values.ensures)

pub returns-in-Err-clause-shown : goal.returns-in-Err-clause-shown
returns-in-Err-clause-shown g c =
    let taken = g.W.Sink.taken in
    let failures = g.W.Sink.failures in
    let writer = c.args.writer.now in
    let after = c.show_values.new.sink in
    let output = change (taken writer) (taken after) (failures writer) (failures after) in
    let source = c.parts.result.0.now in
    let traces = c.parts.result.1.now in
    showing_in {T = Vec ℕ Global} c.args.texts source traces c.args.task.now output
    (Err c.fault_of.result) c.parts.ensures.source c.parts.ensures.traces
    (unshown_of source traces c.args.task.now c.asked-asked.result output (Vec ℕ Global)
    c.in-Err.cause c.fault_of.result c.asked-asked.ensures c.fault_of.ensures
    c.in-Err.ensures)
