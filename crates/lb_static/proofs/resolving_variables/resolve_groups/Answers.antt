-- One more group of variables.
use Rattle.std.proofs.Common.{◌≡◌, refl, subst, true}
use Rattle.std.specs.List.{list_all}
use Rattle.std.proofs.lemmas.List.{take_all}
use Rattle.std.proofs.lemmas.Result.{err_from_is_err_and}
use Rattle.lb_syntax.specs.Grammar.{declared}
use Rattle.lb_syntax.specs.SourceView.{view_groups}
use Rattle.lb_static.specs.NodeProgress.{after_groups, declaration_fits}
use Rattle.lb_static.specs.Progressed.{progress}
use Rattle.lb_static.proofs.NodeVariables.{group_fault, next_fits, next_group, no_groups}
use Rattle.lb_static.proofs.resolving_variables.resolve_groups.Goals as goal

pub loop-group-init : goal.loop-group-init
loop-group-init c = (no_groups (progress c.args.here.now), refl)

pub returns-in_err-resolve_group-clause-err : goal.returns-in_err-resolve_group-clause-err
returns-in_err-resolve_group-clause-err c =
    let p = err_from_is_err_and c.from_residual.result c.from_residual.ensures.1 in
    rw (p.1, p.2) (group_fault c.in_err-resolve_group.field-0.0 (progress c.args.here.now)
    (progress c.loop-group.here) c.args.groups.now c.loop-group.group-index c.group-item.result
    c.loop-group-test.true c.group-item.is c.loop-group.invariant.0
    c.in_err-resolve_group.ensures.err)

pub loop-group-preserved : goal.loop-group-preserved
loop-group-preserved c =
    let start = progress c.args.here.now in
    let here = progress c.loop-group.here in
    let groups = c.args.groups.now in
    let i = c.loop-group.group-index in
    let group = c.group-item.result in (
      next_group start here (progress c.resolve_group.new.here) groups i group
          c.loop-group-test.true c.group-item.is c.loop-group.invariant.0
          c.in_ok-resolve_group.ensures.ok,
      next_fits start here groups i group c.loop-group-test.true c.group-item.is
          c.loop-group.invariant.0 c.loop-group.invariant.1 c.in_ok-resolve_group.ensures.fit,
    )

pub returns-clause-ok : goal.returns-clause-ok
returns-clause-ok c =
    subst (λ l. progress c.loop-group.here
    ≡ after_groups (progress c.args.here.now) (view_groups l))
    (take_all c.loop-group.group-index c.args.groups.now c.loop-group-test.false)
    c.loop-group.invariant.0

pub returns-clause-fit : goal.returns-clause-fit
returns-clause-fit c =
    subst (λ l. list_all (declaration_fits (progress c.args.here.now)) (declared (view_groups l))
    ≡ true)
    (take_all c.loop-group.group-index c.args.groups.now c.loop-group-test.false)
    c.loop-group.invariant.1
