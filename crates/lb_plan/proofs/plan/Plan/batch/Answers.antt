-- A batch lies within the numbers.
use Rattle.std.proofs.Common.{[], get_or, subst}
use Rattle.lb_plan.proofs.Cutting.{Lies, lies, is_lawful}
use Rattle.lb_plan.specs.Plans.{IsLawful}
use Rattle.lb_plan.proofs.plan.Plan.batch.Goals as goal

found :
    (c : goal.After-min-end) →
    Lies c.self.inside.width c.as_slice-numbers.result.now c.args.i c.min-end.result
    (get_or c.args.self.now c.args.i [])
found c =
    lies c.self.inside.width c.self.inside.numbers.items c.args.self.now c.args.i
    c.as_slice-numbers.result.now c.min-end.result c.self.view_is c.self.invariant
    c.as_slice-numbers.ensures.value c.requires c.min-end.ensures

pub slice_bounds-result-count : goal.slice_bounds-result-count
slice_bounds-result-count c = (found c).rises

pub slice_bounds-result-start : goal.slice_bounds-result-start
slice_bounds-result-start c = (found c).rises

pub returns-clause-numbers : goal.returns-clause-numbers
returns-clause-numbers c =
    (lies c.self.inside.width c.self.inside.numbers.items c.args.self.now c.args.i
    c.as_slice-numbers.result.now c.min-end.result c.self.view_is c.self.invariant
    c.as_slice-numbers.ensures.value c.requires c.min-end.ensures).value

pub returns-clause-lawful : goal.returns-clause-lawful
returns-clause-lawful c =
    subst IsLawful c.self.view_is
    (is_lawful c.self.inside.width c.self.inside.numbers.items c.self.invariant)
