use Rattle.std.proofs.Common.{◌/◌, ap₂, sym}
use Rattle.lb_lanes.proofs.SignedDivisions.{abs_of}
use Rattle.lb_lanes.proofs.reciprocals.word_shifted.Goals as goal

pub signed-requires-clause-size : goal.signed-requires-clause-size
signed-requires-clause-size c =
    ap₂ (λ m n. m / n)
    (abs_of c.args.x c.unsigned_abs.result c.cast_signed.result
    (record { sfits = c.cast_signed.type_inv }) c.cast_signed.ensures c.unsigned_abs.ensures.value)
    (sym c.requires.power)
