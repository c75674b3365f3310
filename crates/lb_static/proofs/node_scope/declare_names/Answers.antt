-- A name that is declared already is doubled.
use Rattle.std.proofs.Common.{◌+◌, ◌∙◌, ◌++◌, ◌∷◌, ap, sym, drop}
use Rattle.std.proofs.lemmas.List.{drop_more}
use Rattle.std.proofs.lemmas.Result.{err_from_is_err_and}
use Rattle.lb_static.proofs.Faults.{fault_within}
use Rattle.lb_static.proofs.Scopes.{once_here}
use Rattle.lb_static.specs.CountedNames.{Declares}
use Rattle.lb_static.specs.NameFaults.{is_told}
use Rattle.lb_static.proofs.node_scope.declare_names.Goals as goal

pub returns-in_err-declare_new-clause-err : goal.returns-in_err-declare_new-clause-err
returns-in_err-declare_new-clause-err c =
    let p = err_from_is_err_and c.from_residual.result c.from_residual.ensures.1 in
    let x = c.name-item.result in
    let before = c.loop-name.declared in
    let i = c.loop-name.name-index in
    let names = c.args.names.now in
    let all = ap (λ y. before ++ y ∷ drop (i + 1) names) c.name-item.is
    ∙ ap (λ l. before ++ l) (sym (drop_more names i x c.loop-name-test.true))
    ∙ c.loop-name.invariant in
    rw (p.1, p.2) (fault_within c.in_err-declare_new.field-0.0 _ _ c.in_err-declare_new.ensures.err
    (λ e. once_here (is_told c.in_err-declare_new.field-0.0 Declares) before _ _ x all e))
