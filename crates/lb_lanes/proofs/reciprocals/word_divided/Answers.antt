use Rattle.std.proofs.Common.{◌/◌, ap₂, ◌∙◌, sym, subst}
use Rattle.lb_lanes.specs.Reciprocals.{IsReciprocal}
use Rattle.lb_lanes.proofs.SignedDivisions.{abs_of}
use Rattle.lb_lanes.proofs.reciprocals.word_divided.Goals as goal

pub size_divided-size-requires-clause-bound : goal.size_divided-size-requires-clause-bound
size_divided-size-requires-clause-bound c = c.unsigned_abs.ensures.bound

pub size_divided-size-requires-clause-reciprocal : goal.size_divided-size-requires-clause-reciprocal
size_divided-size-requires-clause-reciprocal c =
    subst (λ n. IsReciprocal n c.args.factor c.args.shift)
    (sym (abs_of c.args.divisor c.unsigned_abs-2.result c.cast_signed-2.result
    (record { sfits = c.cast_signed-2.type_inv }) c.cast_signed-2.ensures
    c.unsigned_abs-2.ensures.value))
    c.requires.reciprocal

pub signed-requires-clause-size : goal.signed-requires-clause-size
signed-requires-clause-size c =
    c.size_divided-size.ensures
    ∙ ap₂ (λ m n. m / n)
    (abs_of c.args.x c.unsigned_abs.result c.cast_signed.result
    (record { sfits = c.cast_signed.type_inv }) c.cast_signed.ensures c.unsigned_abs.ensures.value)
    (abs_of c.args.divisor c.unsigned_abs-2.result c.cast_signed-2.result
    (record { sfits = c.cast_signed-2.type_inv }) c.cast_signed-2.ensures
    c.unsigned_abs-2.ensures.value)
