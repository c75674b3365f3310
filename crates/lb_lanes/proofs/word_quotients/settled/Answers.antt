use Rattle.lb_lanes.proofs.SignedDivisions.{abs_of}
use Rattle.lb_lanes.proofs.SmallQuotients.{small_divides}
use Rattle.lb_lanes.proofs.word_quotients.settled.Goals as goal

pub signed-requires-clause-divisible : goal.signed-requires-clause-divisible
signed-requires-clause-divisible g c =
    small_divides c.args.x c.args.y c.unsigned_abs-size.result c.unsigned_abs-by.result
    c.in-Some.quotient
    (abs_of c.args.x c.unsigned_abs-size.result c.cast_signed.result
    (record { sfits = c.cast_signed.type_inv }) c.cast_signed.ensures
    c.unsigned_abs-size.ensures.value)
    (abs_of c.args.y c.unsigned_abs-by.result c.cast_signed-2.result
    (record { sfits = c.cast_signed-2.type_inv }) c.cast_signed-2.ensures
    c.unsigned_abs-by.ensures.value)
    c.in-Some.ensures.divisor c.in-Some.ensures.right c.in-Some.ensures.small

pub from_quotient-requires-clause-divisible : goal.from_quotient-requires-clause-divisible
from_quotient-requires-clause-divisible g c =
    small_divides c.args.x c.args.y c.unsigned_abs-size.result c.unsigned_abs-by.result
    c.in-Some.quotient
    (abs_of c.args.x c.unsigned_abs-size.result c.cast_signed.result
    (record { sfits = c.cast_signed.type_inv }) c.cast_signed.ensures
    c.unsigned_abs-size.ensures.value)
    (abs_of c.args.y c.unsigned_abs-by.result c.cast_signed-2.result
    (record { sfits = c.cast_signed-2.type_inv }) c.cast_signed-2.ensures
    c.unsigned_abs-by.ensures.value)
    c.in-Some.ensures.divisor c.in-Some.ensures.right c.in-Some.ensures.small

pub returns-in-Some-clause-divisible : goal.returns-in-Some-clause-divisible
returns-in-Some-clause-divisible g c e =
    small_divides c.args.x c.args.y c.unsigned_abs-size.result c.unsigned_abs-by.result
    c.in-Some.quotient
    (abs_of c.args.x c.unsigned_abs-size.result c.cast_signed.result
    (record { sfits = c.cast_signed.type_inv }) c.cast_signed.ensures
    c.unsigned_abs-size.ensures.value)
    (abs_of c.args.y c.unsigned_abs-by.result c.cast_signed-2.result
    (record { sfits = c.cast_signed-2.type_inv }) c.cast_signed-2.ensures
    c.unsigned_abs-by.ensures.value)
    c.in-Some.ensures.divisor c.in-Some.ensures.right c.in-Some.ensures.small
