use Rattle.std.proofs.Common.{◌≡◌, ℕ, ◌*◌, ◌+◌, ◌<◌, refl, ap, ap₂, ◌∙◌, sym, subst, arith}
use Rattle.std.proofs.Common.{not-suc-le-zero, w32, to_z, get_or, cond, Bool, true, false}
use lib.Bits.{bit_or}
use Rattle.lb_lanes.specs.Kernels.{bits_lane}
use Rattle.lb_lanes.specs.Planes.{on}
use Rattle.lb_lanes.proofs.OnPlanes.{on-zero, shl}
use Rattle.lb_lanes.proofs.Joined.{DoneBelow, WrittenBelow, lanes_joined, more_words_joined}
use Rattle.lb_lanes.proofs.word_tests.chosen.Goals as goal

pub loop-c-init : goal.loop-c-init
loop-c-init g c = record {
  values = record { done = λ i h. absurd (not-suc-le-zero h); rest = λ i le. refl };
  plane = record { done = λ i h. absurd (not-suc-le-zero h); rest = λ i le h. on-zero i };
}

pub loop-c-preserved : goal.loop-c-preserved
loop-c-preserved g c =
    let k = 16 * c.loop-c.c in
    let a = c.args.a.now in
    let b = c.args.b.now in
    let test = λ (i : ℕ). g.K.WordTest.passes (bits_lane c.args.x.now i)
    (bits_lane c.args.y.now i) in
    let e : k + 16 ≡ 16 * (c.loop-c.c + 1) = omega arith in
    let P : ℕ → ℕ → Type 0 = λ i n. n ≡ cond (test i) (get_or a i 0) (get_or b i 0) in
    let here : (j : ℕ) → j < 16 → on c.chosen16-passed.result.1 j ≡ test (k + j)
    = λ j h. c.chosen16-passed.ensures.lanes j h
    ∙ ap₂ (λ (u v : ℕ). g.K.WordTest.passes (to_z w32 u) (to_z w32 v))
    (c.load16-left.ensures j h) (c.load16-right.ensures j h) in
    record {
      values = subst (λ n. WrittenBelow P n c.args.out.now c.store16.new.words) e
          (more_words_joined 16 P c.args.out.now c.loop-c.out c.store16.new.words k
          c.loop-c.invariant.values c.store16.ensures.below c.store16.ensures.above
          (λ j h. c.store16.ensures.inside j h ∙ c.chosen16-passed.ensures.value j h
          ∙ ap (λ t. cond t (get_or c.load16-first.result j 0) (get_or c.load16-second.result j 0))
          (here j h)
          ∙ ap₂ (cond (test (k + j))) (c.load16-first.ensures j h) (c.load16-second.ensures j h)));
      plane =
          subst (λ n. DoneBelow test n (bit_or c.loop-c.plane (shl k c.chosen16-passed.result.1))) e
          (lanes_joined 16 test c.loop-c.plane c.chosen16-passed.result.1 k
          (omega arith) c.chosen16-passed.ensures.within c.loop-c.invariant.plane here);
    }

-- the integer of a chosen word is the chosen integer
bits_by : (t : Bool) (m n : ℕ) → to_z w32 (cond t m n) ≡ cond t (to_z w32 m) (to_z w32 n)
bits_by true m n = refl
bits_by false m n = refl

pub returns-clause-plane : goal.returns-clause-plane
returns-clause-plane g c i h = c.loop-c.invariant.plane.done i (omega arith)

pub returns-clause-lanes : goal.returns-clause-lanes
returns-clause-lanes g c i h =
    let a = get_or c.args.a.now i 0 in
    let b = get_or c.args.b.now i 0 in
    ap (to_z w32)
    (c.loop-c.invariant.values.done i (omega arith)
    ∙ ap (λ t. cond t a b) (sym (c.loop-c.invariant.plane.done i (omega arith))))
    ∙ bits_by (on c.loop-c.plane i) a b
