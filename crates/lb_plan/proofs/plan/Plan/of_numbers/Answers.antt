-- A width and numbers, each once, are a plan.
use Rattle.std.proofs.Common.{◌≡◌, length, vec_len, rules}
use Rattle.lb_plan.proofs.Cutting.{plan_of, joined}
use Rattle.lb_plan.proofs.plan.Plan.of_numbers.Goals as goal

pub returns-clause-plan : goal.returns-clause-plan
returns-clause-plan c =
    let numbers = c.args.numbers in
    let count : vec_len numbers ≡ length numbers.items = search rules in
    plan_of c.args.width numbers.items (vec_len numbers) count c.requires.width c.requires.few
    c.requires.each_once

pub returns-clause-numbers : goal.returns-clause-numbers
returns-clause-numbers c = joined c.args.width c.args.numbers.items c.requires.width.0
