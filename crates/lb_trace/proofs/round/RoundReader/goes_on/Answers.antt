-- A record goes on where its first cell is the name of the last trace.
use Rattle.std.proofs.Common.{sym, ap, ◌∙◌}
use Rattle.csv.specs.Records.{fields_of}
use Rattle.lb_traces.specs.Traces.{Recording}
use Rattle.lb_trace.specs.Refusals.{is_last}
use Rattle.lb_trace.proofs.RoundReadings.{goes_on-none, goes_on-some}
use Rattle.lb_trace.proofs.round.RoundReader.goes_on.Goals as goal

pub returns-in-Some : goal.returns-in-Some
returns-in-Some c =
    c.is_last.ensures
    ∙ ap (λ (r : Recording). is_last c.in-Some.name.now r.traces) c.set.ensures
    ∙ sym (goes_on-some _ _ _ (sym c.in-Some.ensures.value))

pub returns-in-None : goal.returns-in-None
returns-in-None c =
    sym (goes_on-none (fields_of c.args.entry.now) c.args.self.now.recorder.rows.traces
    (sym c.in-None.ensures.value))
