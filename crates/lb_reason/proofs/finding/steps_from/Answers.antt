use Rattle.std.proofs.Common.{◌≡◌, ◌∙◌, ◌+◌, ◌<◌, ◌≤◌, Some, ap, arith, length, refl, sym}
use Rattle.std.proofs.lemmas.List.{length-map, take_all}
use Rattle.lb_flat.specs.Programs.{numbers_of}
use Rattle.lb_flat.specs.Values.{equation_of}
use Rattle.lb_reason.specs.Deciding.{chain}
use Rattle.lb_reason.specs.Moments.{equations_now, row_now}
use Rattle.lb_reason.proofs.Steps.{one_step}
use Rattle.lb_reason.proofs.finding.steps_from.Goals as goal

pub loop-i-preserved : goal.loop-i-preserved
loop-i-preserved c =
    let elements = c.in_ok-elements.elements.items in
    let within : c.loop-i.i < length elements =
    omega (arith, c.loop-i-test.true, c.len-i-end.ensures) in
    let more = one_step (row_now c.args.moment.now) elements c.loop-i.steps.items _ c.loop-i.i _ _
    c.cell.result within c.index-element.ensures refl c.cell.ensures
    c.in_ok-push.ensures.items c.loop-i.invariant.elements c.loop-i.invariant.cells in
    record { elements = more.0; cells = more.1 }

pub returns : goal.returns
returns c =
    let Q = equations_now c.args.moment.now in
    let row = row_now c.args.moment.now in
    let clocks = c.args.moment.now.program.now.clocks.items in
    let elements = c.in_ok-elements.elements.items in
    let past : length elements ≤ c.loop-i.i =
    omega (arith, c.loop-i-test.false, c.len-i-end.ensures) in
    let count : length c.equations.result.now ≡ length Q =
    sym (length-map c.equations.result.now (equation_of clocks)) ∙ ap length c.equations.ensures in
    record {
      elements =
          c.loop-i.invariant.elements
          ∙ ap numbers_of (take_all c.loop-i.i elements past)
          ∙ c.in_ok-elements.ensures
          ∙ ap (λ n. chain (n + 1) Q row (Some c.args.first.0)) count;
      cells = c.loop-i.invariant.cells;
    }
