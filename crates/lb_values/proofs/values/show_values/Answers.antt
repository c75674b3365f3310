use Rattle.lb_refusal.specs.declared.error.BenchError.TheVariants.{Syntax}
use Rattle.lb_values.proofs.Answering.{refused_by}
use Rattle.lb_values.proofs.values.show_values.Goals as goal

pub returns-in-Err : goal.returns-in-Err
returns-in-Err g c =
    refused_by c.args.source.now c.args.traces.now c.args.options.now c.args.asked.now _ _
    (Syntax c.in-Err.cause) c.in-Err.ensures
