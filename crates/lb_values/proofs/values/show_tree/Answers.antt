use Rattle.lb_syntax.specs.SourceView.{view_source}
use Rattle.lb_values.proofs.Answering.{refused_by}
use Rattle.lb_values.proofs.values.show_tree.Goals as goal

pub returns-in-Ok : goal.returns-in-Ok
returns-in-Ok g c =
    c.show_case.ensures (view_source c.args.tree.now) c.args.traces.now c.args.options.now
    c.requires.tree c.in-Ok.ensures.ok

pub returns-in-Err : goal.returns-in-Err
returns-in-Err g c =
    refused_by c.args.source.now c.args.traces.now c.args.options.now c.args.asked.now _ _
    c.in-Err.error (c.in-Err.ensures.err c.args.source.now c.requires.tree)
