use Rattle.std.proofs.Common.{◌≡◌, ◌∙◌, ◌++◌, ap, arith, option_map, sym}
use Rattle.lb_flat.specs.Programs.{numbers_of}
use Rattle.lb_reason.specs.Deciding as spec
use Rattle.lb_reason.specs.Moments.{equations_now, row_now}
use Rattle.lb_reason.specs.Tests.{number}
use Rattle.lb_reason.proofs.Chains.{all_on, none_on, one_on}
use Rattle.lb_reason.proofs.deciding.chain.Goals as goal

pub steps-preserved : goal.steps-preserved
steps-preserved c =
    let Q = equations_now c.args.moment.now in
    let row = row_now c.args.moment.now in
    one_on Q row c.steps.elements.items _ c.in-Some.element c.steps.left _ _ c.steps-test.true
    c.in_ok-push.ensures.items c.next_element-next.ensures
    (ap (λ o. numbers_of c.steps.elements.items
    ++ spec.chain c.steps.left Q row (option_map number o)) (sym c.in-Some.is)
    ∙ c.steps.invariant)

pub returns-in_default : goal.returns-in_default
returns-in_default c =
    let Q = equations_now c.args.moment.now in
    let row = row_now c.args.moment.now in
    all_on Q row c.steps.elements.items c.steps.left (option_map number c.steps.next) _
    (ap (λ o. spec.chain c.steps.left Q row (option_map number o)) c.in_default.is
    ∙ none_on Q row c.steps.left)
    c.steps.invariant

pub returns : goal.returns
returns c =
    let Q = equations_now c.args.moment.now in
    let row = row_now c.args.moment.now in
    let done : c.steps.left ≡ 0 = omega (arith, c.steps-test.false) in
    all_on Q row c.steps.elements.items c.steps.left (option_map number c.steps.next) _
    (ap (λ n. spec.chain n Q row (option_map number c.steps.next)) done) c.steps.invariant
