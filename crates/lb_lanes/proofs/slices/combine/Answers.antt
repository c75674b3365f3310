use Rattle.std.proofs.Common.{◌≡◌, ℕ, ◌*◌, ◌+◌, refl, ap₂, ◌∙◌, subst, arith, not-suc-le-zero}
use Rattle.std.proofs.Common.{get_or}
use Rattle.lb_lanes.proofs.Joined.{WrittenBelow, words_joined}
use Rattle.lb_lanes.proofs.slices.combine.Goals as goal

pub loop-c-init : goal.loop-c-init
loop-c-init g c = record {
  long = refl;
  words = record { done = λ i h. absurd (not-suc-le-zero h); rest = λ i le. refl };
}

pub loop-c-preserved : goal.loop-c-preserved
loop-c-preserved g c =
    let k = 8 * c.loop-c.c in
    let out = c.args.out.now in
    let P : ℕ → ℕ
    → Type 0 = λ i n. n ≡ g.K.WordOp.word (get_or c.args.a.now i 0) (get_or c.args.b.now i 0) in
    let e : k + 8 ≡ 8 * (c.loop-c.c + 1) = omega arith in
    record {
      long = c.store8.ensures.len ∙ c.loop-c.invariant.long;
      words = subst (λ n. WrittenBelow P n out c.store8.new.words) e
          (words_joined P out c.loop-c.out c.store8.new.words k c.loop-c.invariant.words
          c.store8.ensures.below c.store8.ensures.above
          (λ j h. c.store8.ensures.inside j h ∙ c.eight-eight.ensures j h
          ∙ ap₂ (λ (u v : ℕ). g.K.WordOp.word u v) (c.load8.ensures j h)
          (c.load8-in-loop-c.ensures j h)));
    }
