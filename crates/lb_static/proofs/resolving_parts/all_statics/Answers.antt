-- The places of static expressions that are found one after another.
use Rattle.std.proofs.Common.{◌≡◌, ◌-◌, List, [], length, map, take, arith, ap, sym, ◌∙◌}
use Rattle.std.proofs.Common.{length-append}
use Rattle.std.proofs.lemmas.List.{length-map, take_all}
use Rattle.std.proofs.lemmas.Result.{err_from_is_err_and}
use Rattle.lb_syntax.specs.View.{view_statics}
use Rattle.lb_static.specs.NodeProgress.{grown, statics_fit}
use Rattle.lb_static.specs.Progressed.{progress}
use Rattle.lb_static.specs.StaticParts.{Part, purpose_of}
use Rattle.lb_static.proofs.GrownNodes.{next_static, next_static_fits}
use Rattle.lb_static.proofs.Resolutions.{fault_of_static, statics_placed}
use Rattle.lb_static.proofs.SharedParts.{own_kept}
use Rattle.lb_static.proofs.resolving_parts.all_statics.Goals as goal

pub returns-in_err-one_static : goal.returns-in_err-one_static
returns-in_err-one_static c =
    let p = err_from_is_err_and c.from_residual.result c.from_residual.ensures.1 in
    rw (p.1, p.2) (fault_of_static (progress c.args.here.now) (progress c.loop-text.here)
    c.in_err-one_static.field-0.0 (purpose_of c.args.role) c.args.texts.now c.loop-text.text-index
    c.text-item.result c.loop-text-test.true c.text-item.is c.loop-text.invariant.0
    c.in_err-one_static.ensures)

pub loop-text-preserved : goal.loop-text-preserved
loop-text-preserved c =
    let start = progress c.args.here.now in
    let here = progress c.loop-text.here in
    let role = purpose_of c.args.role in
    let found = c.in_ok-one_static.ensures in (
      next_static start here (progress c.one_static.new.here) role c.args.texts.now
          c.loop-text.text-index c.text-item.result c.loop-text-test.true c.text-item.is
          c.loop-text.invariant.0 found.0,
      next_static_fits start here role c.args.texts.now c.loop-text.text-index
          c.text-item.result c.loop-text-test.true c.text-item.is c.loop-text.invariant.0
          c.loop-text.invariant.1 found.2,
    )

pub overflow_sub-result : goal.overflow_sub-result
overflow_sub-result c =
    let start = progress c.args.here.now in
    let role = purpose_of c.args.role in
    let so_far = view_statics (take c.loop-text.text-index c.args.texts.now) in
    let tagged : List Part = map (λ x. (role, x)) so_far in
    let parts = ap (λ s. length s.parts) c.loop-text.invariant.0
    ∙ ap length (own_kept role start.parts so_far c.requires) ∙ length-append start.parts tagged in
    let first = c.next_static-first.ensures in
    let last = c.next_static.ensures in
    omega (arith, parts, first, last)

pub returns : goal.returns
returns c =
    let start = progress c.args.here.now in
    let here = progress c.loop-text.here in
    let role = purpose_of c.args.role in
    let xs = view_statics c.args.texts.now in
    let whole = take_all c.loop-text.text-index c.args.texts.now c.loop-text-test.false in
    let is = c.loop-text.invariant.0
    ∙ ap (λ l. grown start (map (λ x. (role, x)) (view_statics l)) []) whole in
    let tagged : List Part = map (λ x. (role, x)) xs in
    let parts = ap (λ s. length s.parts) is ∙ ap length (own_kept role start.parts xs c.requires)
    ∙ length-append start.parts tagged in
    let same : length tagged ≡ length xs = length-map xs (λ x. (role, x)) in
    let first = c.next_static-first.ensures in
    let last = c.next_static.ensures in
    let long : c.next_static.result.0 - c.next_static-first.result.0 ≡ length xs =
    omega (arith, parts, same, first, last) in (
      is,
      statics_placed start here role xs c.next_static-first.result _ c.requires is first long,
      ap (λ l. statics_fit start (view_statics l)) (sym whole) ∙ c.loop-text.invariant.1,
    )
