use Rattle.std.proofs.Common.{◌≡◌, ℕ, ◌<◌, ◌*◌, ◌+◌, ℤ, true, not, refl, ap, ap₂, ◌∙◌, subst}
use Rattle.std.proofs.Common.{arith, not-suc-le-zero, w32, to_z}
use lib.Bits.{bit_or}
use Rattle.lb_lanes.specs.Kernels.{bits_lane}
use Rattle.lb_lanes.specs.Operators.{is_int}
use Rattle.lb_lanes.proofs.OnPlanes.{on-zero, shl}
use Rattle.lb_lanes.proofs.Joined.{DoneBelow, WrittenBelow, lanes_joined, more_words_joined}
use Rattle.lb_lanes.proofs.word_kernels.run_wrapped.Goals as goal

pub loop-c-init : goal.loop-c-init
loop-c-init g c = record {
  values = record { done = λ i h. absurd (not-suc-le-zero h); rest = λ i le. refl };
  beyond = record { done = λ i h. absurd (not-suc-le-zero h); rest = λ i le h. on-zero i };
}

pub loop-c-preserved : goal.loop-c-preserved
loop-c-preserved g c =
    let k = 16 * c.loop-c.c in
    let op = λ (x y : ℤ). g.K.Wrapping.exact x y in
    let a = λ (i : ℕ). bits_lane c.args.a.now i in
    let b = λ (i : ℕ). bits_lane c.args.b.now i in
    let here : (j : ℕ) → j < 16
    → op (bits_lane c.load16.result j) (bits_lane c.load16-in-loop-c.result j)
    ≡ op (a (k + j)) (b (k + j))
    = λ j h. ap₂ (λ (u v : ℕ). op (to_z w32 u) (to_z w32 v)) (c.load16.ensures j h)
    (c.load16-in-loop-c.ensures j h) in
    let e : k + 16 ≡ 16 * (c.loop-c.c + 1) = omega arith in
    let test = λ (i : ℕ). not (is_int (op (a i) (b i))) in
    let P : ℕ → ℕ → Type 0 = λ i n. is_int (op (a i) (b i)) ≡ true
    → to_z w32 n ≡ op (a i) (b i) in
    record {
      values = subst (λ n. WrittenBelow P n c.args.out.now c.store16.new.words) e
          (more_words_joined 16 P c.args.out.now c.loop-c.out c.store16.new.words k
          c.loop-c.invariant.values c.store16.ensures.below c.store16.ensures.above
          (λ j h within. ap (to_z w32) (c.store16.ensures.inside j h)
          ∙ c.wrapped16.ensures.value j h (ap is_int (here j h) ∙ within)
          ∙ here j h));
      beyond =
          subst (λ n. DoneBelow test n (bit_or c.loop-c.beyond (shl k c.tops16.result))) e
          (lanes_joined 16 test c.loop-c.beyond c.tops16.result k
          (omega arith) c.tops16.ensures.within c.loop-c.invariant.beyond
          (λ j h. c.tops16.ensures.lanes j h ∙ c.wrapped16.ensures.look j h
          ∙ ap (λ v. not (is_int v)) (here j h)));
    }

pub returns-clause-values : goal.returns-clause-values
returns-clause-values g c i h = c.loop-c.invariant.values.done i (omega arith)

pub returns-clause-beyond : goal.returns-clause-beyond
returns-clause-beyond g c i h = c.loop-c.invariant.beyond.done i (omega arith)
