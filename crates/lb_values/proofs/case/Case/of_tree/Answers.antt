-- The traces that a text spells under the signature of the program, or their refusal.
use Rattle.std.proofs.Common.{◌≡◌, ◌∙◌, subst, sym, rules}
use Rattle.std.proofs.lemmas.Result.{err_from_is_err_and}
use Rattle.lb_syntax.specs.SourceView.{view_source}
use Rattle.lb_static.specs.DataTypes.{signature}
use Rattle.lb_static.specs.Signature.{Elements}
use Rattle.lb_traces.specs.Traces.{Traces}
use Rattle.lb_trace.specs.Correct.{IsTraceReading}
use Rattle.lb_trace.specs.Errors.{Refuses}
use Rattle.lb_trace.specs.Spelling.{Spells}
use Rattle.lb_report.specs.Bench.{program_of}
use Rattle.lb_values.proofs.Cases.{recorded_is}
use Rattle.lb_values.proofs.case.Case.of_tree.Goals as goal

pub returns-in_err-program-clause-err : goal.returns-in_err-program-clause-err
returns-in_err-program-clause-err c =
    let p = err_from_is_err_and c.from_residual.result c.from_residual.ensures.1 in
    λ source only.
    rw (p.1, p.2) (c.in_err-program.ensures.err source c.args.traces.now only)

pub returns-in_err-set-clause-err : goal.returns-in_err-set-clause-err
returns-in_err-set-clause-err c =
    let exit = c.from_residual-in_err-set in
    let p = err_from_is_err_and exit.result exit.ensures.1 in
    let e = c.in_err-set.field-0.0 in
    let found = c.in_ok-program.ensures.ok in
    let tree = view_source c.args.tree.now in
    let text = c.args.traces.now in
    let elements : c.signature.result.now ≡ signature (program_of tree c.args.options.now) =
    c.signature.ensures.value ∙ sym found.inputs in
    let read =
    subst (IsTraceReading c.signature.result.now text) c.in_err-set.was c.read_traces.ensures in
    λ source only. rw (p.1, p.2) (record {
      tree = tree;
      spelled = only;
      holds = (
        found.accepted,
        subst (λ (es : Elements). Refuses es text e) elements read.refused,
      );
    })

pub returns-clause-ok : goal.returns-clause-ok
returns-clause-ok c =
    let found = c.in_ok-program.ensures.ok in
    let tree = view_source c.args.tree.now in
    let text = c.args.traces.now in
    let elements : c.signature.result.now ≡ signature (program_of tree c.args.options.now) =
    c.signature.ensures.value ∙ sym found.inputs in
    let read =
    subst (IsTraceReading c.signature.result.now text) c.in_ok-set.was c.read_traces.ensures in
    record {
      accepted = found.accepted;
      equations = found.equations;
      recorded =
          recorded_is (program_of tree c.args.options.now) c.signature.result.now text
          c.in_ok-set.set elements read;
    }
