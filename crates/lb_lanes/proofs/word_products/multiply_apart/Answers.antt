use Rattle.std.proofs.Common.{◌≡◌, ◌≢◌, ℕ, ◌==◌, ◌*ℤ◌, ap, ◌∙◌, arith, refl}
use Rattle.std.proofs.Common.{not-suc-le-zero, below_more, set, get_or, w32, to_z, true}
use Rattle.std.proofs.lemmas.List.{get_or-set_same, get_or-set_other}
use Rattle.lb_lanes.specs.Kernels.{bits_lane}
use Rattle.lb_lanes.specs.Operators.{is_int}
use Rattle.lb_lanes.proofs.word_products.multiply_apart.Goals as goal

pub loop-i-init : goal.loop-i-init
loop-i-init c = record {
  values = λ i h. absurd (not-suc-le-zero h);
  beyond = λ i h. absurd (not-suc-le-zero h);
  rest = λ i le. refl;
}

pub loop-i-preserved : goal.loop-i-preserved
loop-i-preserved c =
    let i = c.loop-i.i in
    let v = c.product-low.result.0 in
    let u = c.product-low.result.1 in
    let lanes = c.loop-i.lanes in
    let beyond = c.loop-i.beyond in
    let exact = λ (k : ℕ). bits_lane c.args.lanes.now k *ℤ bits_lane c.args.by.now k in
    let here : to_z w32 (get_or lanes i 0) *ℤ bits_lane c.args.by.now i ≡ exact i
    = ap (λ n. to_z w32 n *ℤ bits_lane c.args.by.now i)
    (c.loop-i.invariant.rest i (omega arith)) in
    record {
      values = below_more
          (λ k. is_int (exact k) ≡ true → bits_lane (set lanes i v) k ≡ exact k) i
          (λ k l within. let ne : k ≢ i = omega arith in
          ap (to_z w32) (get_or-set_other lanes i k v 0 ne)
          ∙ c.loop-i.invariant.values k l within)
          (λ within. ap (to_z w32) (get_or-set_same lanes i v 0 (omega arith))
          ∙ c.product-low.ensures.value (ap is_int here ∙ within) ∙ here);
      beyond = below_more
          (λ k. (get_or (set beyond i u) k 0 == 0) ≡ is_int (exact k)) i
          (λ k l. let ne : k ≢ i = omega arith in
          ap (λ n. n == 0) (get_or-set_other beyond i k u 0 ne)
          ∙ c.loop-i.invariant.beyond k l)
          (ap (λ n. n == 0) (get_or-set_same beyond i u 0 (omega arith))
          ∙ c.product-low.ensures.look ∙ ap is_int here);
      rest = λ k le. let ne : k ≢ i = omega arith in get_or-set_other lanes i k v 0 ne
          ∙ c.loop-i.invariant.rest k (omega arith);
    }

pub returns-clause-values : goal.returns-clause-values
returns-clause-values c i h = c.loop-i.invariant.values i (omega arith)

pub returns-clause-beyond : goal.returns-clause-beyond
returns-clause-beyond c i h = c.loop-i.invariant.beyond i (omega arith)
