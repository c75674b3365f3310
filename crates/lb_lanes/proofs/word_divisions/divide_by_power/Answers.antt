use Rattle.std.proofs.Common.{◌≡◌, refl, arith, not-suc-le-zero, w32, to_z}
use Rattle.lb_lanes.specs.Kernels.{bits_lane}
use Rattle.lb_lanes.proofs.Joined.{word_joined}
use Rattle.lb_lanes.proofs.word_divisions.divide_by_power.Goals as goal

pub loop-i-init : goal.loop-i-init
loop-i-init g c = record { done = λ i h. absurd (not-suc-le-zero h); rest = λ i le. refl }

pub loop-i-preserved : goal.loop-i-preserved
loop-i-preserved g c =
    word_joined
    (λ i n. to_z w32 n
    ≡ g.K.Division.divided (bits_lane c.args.a.now i) (to_z w32 c.args.divisor))
    c.args.out.now c.loop-i.out c.loop-i.i c.from_quotient.result (omega arith) c.loop-i.invariant
    c.from_quotient.ensures

pub returns : goal.returns
returns g c i h = c.loop-i.invariant.done i (omega arith)
