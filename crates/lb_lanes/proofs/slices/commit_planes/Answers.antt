use Rattle.std.proofs.Common.{◌≡◌, ℕ, ◌*◌, ◌+◌, refl, sym, ◌∙◌, subst, arith, not-suc-le-zero}
use Rattle.std.proofs.Common.{get_or, rules}
use Rattle.lb_lanes.specs.Correct.{IsSelection}
use Rattle.lb_lanes.proofs.Joined.{WrittenBelow, words_joined}
use Rattle.lb_lanes.proofs.slices.commit_planes.Goals as goal

pub loop-c-init : goal.loop-c-init
loop-c-init c = record {
  long = refl;
  words = record { done = λ i h. absurd (not-suc-le-zero h); rest = λ i le. refl };
}

pub loop-c-preserved : goal.loop-c-preserved
loop-c-preserved c =
    let k = 8 * c.loop-c.c in
    let m = c.args.mask.0 in
    let old = c.args.old.now in
    let P : ℕ → ℕ → Type 0 = λ i n. IsSelection m (get_or c.args.new.now i 0) (get_or old i 0) n in
    let e : k + 8 ≡ 8 * (c.loop-c.c + 1) = omega arith in
    record {
      long = c.store8.ensures.len ∙ c.loop-c.invariant.long;
      words = subst (λ n. WrittenBelow P n old c.store8.new.words) e
          (words_joined P old c.loop-c.old c.store8.new.words k c.loop-c.invariant.words
          c.store8.ensures.below c.store8.ensures.above
          (λ j h.
          let x = c.load8.ensures j h in
          let y = c.load8-in-loop-c.ensures j h
          ∙ c.loop-c.invariant.words.rest (k + j) (omega arith) in
          subst (P (k + j)) (sym (c.store8.ensures.inside j h))
          (subst (λ a. IsSelection m a (get_or old (k + j) 0) (get_or c.selected8-kept.result j 0))
          x
          (subst (λ b. IsSelection m (get_or c.load8.result j 0) b
          (get_or c.selected8-kept.result j 0)) y
          (c.selected8-kept.ensures j h)))));
    }

pub loop-k-preserved : goal.loop-k-preserved
loop-k-preserved c = search rules
