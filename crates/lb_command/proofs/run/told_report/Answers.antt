use Rattle.lb_command.proofs.Reported.{bench_lists}
use Rattle.lb_command.proofs.run.told_report.Goals as goal

pub conclude_found-requires-clause-lists : goal.conclude_found-requires-clause-lists
conclude_found-requires-clause-lists g c =
    let is = c.in_ok-found.ensures.outcome in
    bench_lists is.source is.traces c.args.task.now.options c.in_ok-found.found.value is.reported

pub returns-clause-outcome : goal.returns-clause-outcome
returns-clause-outcome g c =
    let found = c.in_ok-found.found in
    let is = c.in_ok-conclude_found.ensures in
    record {
      report = found.value;
      notes = is.0;
      remarks = found.warnings.items;
      reported = c.in_ok-found.ensures.outcome;
      remarked = c.in_ok-found.ensures.warned;
      concluded = is.1;
      said = is.2;
    }
