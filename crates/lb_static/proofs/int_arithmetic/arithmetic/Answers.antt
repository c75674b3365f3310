use Rattle.std.proofs.Common.{rules, sym}
use Rattle.std.proofs.lemmas.Int.{rem_is}
use Rattle.lb_static.proofs.Quotients.{int_divides, int_quotient}
use Rattle.lb_static.proofs.int_arithmetic.arithmetic.Goals as goal

pub returns-in-Plus : goal.returns-in-Plus
returns-in-Plus c = search rules

pub returns-in-Minus : goal.returns-in-Minus
returns-in-Minus c = search rules

pub returns-in-Times : goal.returns-in-Times
returns-in-Times c = search rules

pub returns-in-Divide : goal.returns-in-Divide
returns-in-Divide c =
    int_quotient c.args.op c.args.a c.args.b c.in-Divide.is c.ranges.a c.ranges.b
    (sym c.if-is_divisible.ensures)

pub returns-in-Modulo : goal.returns-in-Modulo
returns-in-Modulo c = search (rules, rem_is)

pub returns-in_default : goal.returns-in_default
returns-in_default c = search rules

pub returns-in_default-2 : goal.returns-in_default-2
returns-in_default-2 c = search rules

pub returns-in_default-3 : goal.returns-in_default-3
returns-in_default-3 c = search rules

pub nonzero_div-result : goal.nonzero_div-result
nonzero_div-result c =
    int_divides c.args.a c.args.b c.ranges.a c.ranges.b (sym c.if-is_divisible.ensures)

pub nonzero_rem-result : goal.nonzero_rem-result
nonzero_rem-result c =
    int_divides c.args.a c.args.b c.ranges.a c.ranges.b (sym c.if-is_divisible-2.ensures)
