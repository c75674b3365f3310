use Rattle.std.proofs.Common.{◌≡◌, ℤ, refl, ap₂, ◌∙◌, arith, not-suc-le-zero, w32, to_z}
use Rattle.lb_lanes.specs.Kernels.{bits_lane}
use Rattle.lb_lanes.specs.Operators.{can_divide}
use Rattle.lb_lanes.proofs.Checks.{passed_is}
use Rattle.lb_lanes.proofs.Joined.{word_joined}
use Rattle.lb_lanes.proofs.WordViews.{bits_of}
use Rattle.lb_lanes.proofs.word_divisions.divide_all.Goals as goal

pub loop-i-init : goal.loop-i-init
loop-i-init g c = record { done = λ i h. absurd (not-suc-le-zero h); rest = λ i le. refl }

pub divide-divided-requires : goal.divide-divided-requires
divide-divided-requires g c =
    ap₂ can_divide
    (passed_is _ _ (record { sfits = c.cast_signed.type_inv }) c.cast_signed.ensures)
    (passed_is _ _ (record { sfits = c.cast_signed-in-loop-i.type_inv })
    c.cast_signed-in-loop-i.ensures)
    ∙ c.requires c.loop-i.i c.loop-i-test.true

pub loop-i-preserved : goal.loop-i-preserved
loop-i-preserved g c =
    word_joined
    (λ i n. to_z w32 n
    ≡ g.K.Division.divided (bits_lane c.args.a.now i) (bits_lane c.args.divisors.now i))
    c.args.out.now c.loop-i.out c.loop-i.i c.cast_unsigned.result (omega arith) c.loop-i.invariant
    (bits_of c.cast_unsigned.result c.divide-divided.result
    (record { sfits = c.divide-divided.type_inv }) c.cast_unsigned.ensures
    ∙ c.divide-divided.ensures
    ∙ ap₂ (λ (u v : ℤ). g.K.Division.divided u v)
    (passed_is _ _ (record { sfits = c.cast_signed.type_inv }) c.cast_signed.ensures)
    (passed_is _ _ (record { sfits = c.cast_signed-in-loop-i.type_inv })
    c.cast_signed-in-loop-i.ensures))

pub returns : goal.returns
returns g c i h = c.loop-i.invariant.done i (omega arith)
