-- The variables of a group are alike.
use Rattle.std.proofs.Common.{◌≡◌, ◌∙◌, Ok, length, false, true, arith, subst, sym}
use Rattle.std.specs.Prelude.{nat_eq}
use Rattle.std.proofs.lemmas.Bool.Decides.{nat_tests}
use Rattle.std.proofs.lemmas.Result.{err_from_is_err_and, on_ok_weaker}
use Rattle.lb_syntax.specs.SourceView.{view_group}
use Rattle.lb_syntax.specs.View.{view_statics}
use Rattle.lb_static.specs.NameFaults.{IsNameFault}
use Rattle.lb_static.specs.NodeProgress.{ResolvesStatics, statics_fit, statics_told, with_alike}
use Rattle.lb_static.specs.Progressed.{progress}
use Rattle.lb_static.specs.StaticParts.{Dimension}
use Rattle.lb_static.proofs.NodeVariables.{clock_fault, sizes_fault, empty_fits, group_done}
use Rattle.lb_static.proofs.NodeVariables.{group_fits}
use Rattle.lb_static.proofs.resolving_variables.resolve_group.Goals as goal

pub returns-in_err-clock-clause-err : goal.returns-in_err-clock-clause-err
returns-in_err-clock-clause-err c =
    let p = err_from_is_err_and c.from_residual.result c.from_residual.ensures.1 in
    let g = view_group c.args.group.now in
    let long = c.args.group.now.names.ok.0 in
    let some : nat_eq (length g.names) 0 ≡ false =
    grind (arith, nat_tests, long, c.is_empty.ensures, c.if-is_empty.false) in
    rw (p.1, p.2) (clock_fault c.in_err-clock.field-0.0 (progress c.args.here.now) g some
    c.in_err-clock.ensures.err)

pub returns-in_err-first_size-clause-err : goal.returns-in_err-first_size-clause-err
returns-in_err-first_size-clause-err c =
    let p = err_from_is_err_and c.from_residual-in_err-first_size.result
    c.from_residual-in_err-first_size.ensures.1 in
    let s = progress c.args.here.now in
    let g = view_group c.args.group.now in
    let f = c.in_err-first_size.field-0.0 in
    let long = c.args.group.now.names.ok.0 in
    let some : nat_eq (length g.names) 0 ≡ false =
    grind (arith, nat_tests, long, c.is_empty.ensures, c.if-is_empty.false) in
    let refused = subst (λ l. IsNameFault f (statics_told f s (view_statics l)))
    c.deref.ensures.value c.in_err-first_size.ensures in
    rw (p.1, p.2) (sizes_fault f s g some refused)

pub returns-clause-ok : goal.returns-clause-ok
returns-clause-ok c =
    let s = progress c.args.here.now in
    let mid = progress c.all_statics.new.here in
    let after = progress c.push_variables.new.here in
    let g = view_group c.args.group.now in
    let first = c.in_ok-first_size.first_size in
    let count = c.in_ok-first_size.sizes in
    let clock = c.in_ok-clock.clock in
    let long = c.args.group.now.names.ok.0 in
    let some : nat_eq (length g.names) 0 ≡ false =
    grind (arith, nat_tests, long, c.is_empty.ensures, c.if-is_empty.false) in
    let found = subst (λ l. ResolvesStatics s mid Dimension (view_statics l) (Ok (first, count)))
    c.deref.ensures.value c.in_ok-first_size.ensures in
    on_ok_weaker c.push_variables.result
    (λ d. group_done s mid after g first count clock some found.0 found.1
    c.in_ok-clock.ensures.stands
    (subst (λ l. after ≡ with_alike mid l
    (record { kind = g.kind; first_size = first; sizes = count; clock = clock }))
    c.deref-2.ensures.value d))
    c.push_variables.ensures.ok

pub returns-clause-fit : goal.returns-clause-fit
returns-clause-fit c =
    let s = progress c.args.here.now in
    let g = view_group c.args.group.now in
    let sizes = subst (λ l. statics_fit s (view_statics l) ≡ true) c.deref.ensures.value
    c.in_ok-first_size.ensures.2 in
    on_ok_weaker c.push_variables.result (λ d. group_fits s g sizes c.in_ok-clock.ensures.fit)
    c.push_variables.ensures.ok

pub returns-then-is_empty-clause-fit : goal.returns-then-is_empty-clause-fit
returns-then-is_empty-clause-fit c =
    empty_fits (progress c.args.here.now) c.args.group.now
    (sym c.is_empty.ensures ∙ c.if-is_empty.true)
