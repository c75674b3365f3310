use Rattle.std.proofs.Common.{◌≡◌, ℕ, ◌*◌, ◌+◌, refl, ap, ap₂, ◌∙◌, subst, arith, not-suc-le-zero}
use Rattle.std.proofs.Common.{w32, to_z, get_or, cond}
use Rattle.lb_lanes.specs.Planes.{on}
use Rattle.lb_lanes.proofs.OnPlanes.{on-shr}
use Rattle.lb_lanes.proofs.Views.{word_by}
use Rattle.lb_lanes.proofs.Joined.{WrittenBelow, more_words_joined}
use Rattle.lb_lanes.proofs.word_kernels.blend.Goals as goal

pub loop-c-init : goal.loop-c-init
loop-c-init c = record { done = λ i h. absurd (not-suc-le-zero h); rest = λ i le. refl }

pub loop-c-preserved : goal.loop-c-preserved
loop-c-preserved c =
    let k = 16 * c.loop-c.c in
    let m = c.args.mask in
    let a = c.args.a.now in
    let b = c.args.b.now in
    let out = c.args.out.now in
    let e : k + 16 ≡ 16 * (c.loop-c.c + 1) = omega arith in
    let P : ℕ → ℕ → Type 0 = λ i n. n ≡ cond (on m i) (get_or a i 0) (get_or b i 0) in
    subst (λ n. WrittenBelow P n out c.store16.new.words) e
    (more_words_joined 16 P out c.loop-c.out c.store16.new.words k c.loop-c.invariant
    c.store16.ensures.below c.store16.ensures.above
    (λ j h. c.store16.ensures.inside j h ∙ c.blended16-kept.ensures j h
    ∙ ap₂ (λ t n. cond t n (get_or c.load16-in-loop-c.result j 0)) (on-shr m k j)
    (c.load16.ensures j h)
    ∙ ap (cond (on m (k + j)) (get_or a (k + j) 0)) (c.load16-in-loop-c.ensures j h)))

pub returns : goal.returns
returns c i h = ap (to_z w32) (c.loop-c.invariant.done i (omega arith))
    ∙ word_by w32 (on c.args.mask i) _ _
