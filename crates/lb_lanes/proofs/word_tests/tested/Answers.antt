use Rattle.std.proofs.Common.{◌*◌, ◌+◌, ◌≡◌, ap₂, subst, ◌∙◌, arith, not-suc-le-zero, w32, to_z, ℕ}
use Rattle.lb_lanes.specs.Kernels.{bits_lane}
use lib.Bits.{bit_or}
use Rattle.lb_lanes.proofs.OnPlanes.{on-zero, shl}
use Rattle.lb_lanes.proofs.Joined.{DoneBelow, lanes_joined}
use Rattle.lb_lanes.proofs.word_tests.tested.Goals as goal

pub loop-c-init : goal.loop-c-init
loop-c-init g c = record { done = λ i h. absurd (not-suc-le-zero h); rest = λ i le h. on-zero i }

pub loop-c-preserved : goal.loop-c-preserved
loop-c-preserved g c =
    let test = λ (i : ℕ). g.K.WordTest.passes (bits_lane c.args.a.now i)
    (bits_lane c.args.b.now i) in
    let e : 16 * c.loop-c.c + 16 ≡ 16 * (c.loop-c.c + 1) = omega arith in
    subst
    (λ k. DoneBelow test k (bit_or c.loop-c.plane (shl (16 * c.loop-c.c) c.test16-passed.result)))
    e
    (lanes_joined 16 test c.loop-c.plane c.test16-passed.result (16 * c.loop-c.c)
    (omega arith) c.test16-passed.ensures.within c.loop-c.invariant
    (λ j h. c.test16-passed.ensures.lanes j h
    ∙ ap₂ (λ (u v : ℕ). g.K.WordTest.passes (to_z w32 u) (to_z w32 v)) (c.load16.ensures j h)
    (c.load16-in-loop-c.ensures j h)))

pub returns : goal.returns
returns g c i h = c.loop-c.invariant.done i (omega arith)
