use Rattle.std.proofs.Common.{◌≡◌, pos, ◌<◌, refl, sym, subst, arith, not-suc-le-zero, w32}
use Rattle.std.proofs.Common.{to_z}
use Rattle.lb_lanes.specs.Kernels.{bits_lane}
use Rattle.lb_lanes.specs.Reciprocals.{IsReciprocal}
use Rattle.lb_lanes.proofs.Joined.{word_joined}
use Rattle.lb_lanes.proofs.SignedDivisions.{abs_of, abs_positive}
use Rattle.lb_lanes.proofs.word_divisions.divide_by_one.Goals as goal

pub ilog2-log-requires : goal.ilog2-log-requires
ilog2-log-requires g c =
    subst (λ n. 0 < n)
    (sym (abs_of c.args.divisor c.unsigned_abs-size.result c.cast_signed.result
    (record { sfits = c.cast_signed.type_inv }) c.cast_signed.ensures
    c.unsigned_abs-size.ensures.value))
    (abs_positive (pos 0) _ (c.requires (pos 0)))

pub loop-i-init : goal.loop-i-init
loop-i-init g c = record { done = λ i h. absurd (not-suc-le-zero h); rest = λ i le. refl }

pub word_divided-quotient-requires-clause-reciprocal :
    goal.word_divided-quotient-requires-clause-reciprocal
word_divided-quotient-requires-clause-reciprocal g c =
    subst (λ n. IsReciprocal n c.reciprocal-factor.result.0 c.reciprocal-factor.result.1)
    (abs_of c.args.divisor c.unsigned_abs-size.result c.cast_signed.result
    (record { sfits = c.cast_signed.type_inv }) c.cast_signed.ensures
    c.unsigned_abs-size.ensures.value)
    c.reciprocal-factor.ensures

pub loop-i-preserved : goal.loop-i-preserved
loop-i-preserved g c =
    word_joined
    (λ i n. to_z w32 n
    ≡ g.K.Division.divided (bits_lane c.args.a.now i) (to_z w32 c.args.divisor))
    c.args.out.now c.loop-i.out c.loop-i.i c.from_quotient.result (omega arith) c.loop-i.invariant
    c.from_quotient.ensures

pub returns : goal.returns
returns g c i h = c.loop-i.invariant.done i (omega arith)
