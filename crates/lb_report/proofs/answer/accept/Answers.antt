-- The program of the tree is the program of the text that spells it, and a refusal of the tree is
-- one of the text.
use Rattle.std.proofs.Common.{◌∙◌, sym}
use Rattle.std.proofs.lemmas.Result.{err_from_is_err_and}
use Rattle.lb_syntax.specs.SourceView.{view_source}
use Rattle.lb_report.proofs.answer.accept.Goals as goal

pub returns-in_err-checked-clause-err : goal.returns-in_err-checked-clause-err
returns-in_err-checked-clause-err c =
    let residual = c.from_residual-in_err-checked in
    let p = err_from_is_err_and residual.result residual.ensures.1 in
    let source = c.args.source.now in
    rw (p.1, p.2) (λ traces. c.in_err-checked.ensures.err source traces c.in_ok-tree.ensures)

pub returns-clause-ok : goal.returns-clause-ok
returns-clause-ok c =
    let found = c.in_ok-checked.ensures.ok in
    record {
      tree = view_source c.in_ok-tree.tree;
      spelled = c.in_ok-tree.ensures;
      holds = record {
        accepted = found.accepted;
        inputs = found.inputs ∙ sym c.into_signature.ensures.value;
        equations = found.equations;
      };
    }
