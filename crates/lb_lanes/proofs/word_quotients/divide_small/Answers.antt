use Rattle.std.proofs.Common.{◌≡◌, ◌≢◌, ℕ, ◌==◌, ap, ◌∙◌, sym, arith, cond, pos, true}
use Rattle.std.proofs.Common.{not-suc-le-zero, below_more, set, get_or, w32, to_z}
use Rattle.std.proofs.lemmas.List.{get_or-set_same, get_or-set_other}
use Rattle.std.proofs.lemmas.Nat.{le_or_l, le_or_r}
use Rattle.lb_lanes.specs.Kernels.{bits_lane}
use Rattle.lb_lanes.specs.Operators.{can_divide}
use Rattle.lb_lanes.proofs.word_quotients.divide_small.Goals as goal

pub loop-i-init : goal.loop-i-init
loop-i-init g c = record {
  sure = λ none i h. absurd (not-suc-le-zero h);
  divisible = λ i h. absurd (not-suc-le-zero h);
  values = λ i h. absurd (not-suc-le-zero h);
}

pub loop-i-preserved : goal.loop-i-preserved
loop-i-preserved g c =
    let i = c.loop-i.i in
    let v = c.settled-value.result.0 in
    let u = c.settled-value.result.1 in
    let out = c.loop-i.out in
    let doubts = c.loop-i.doubts in
    let a = λ (k : ℕ). bits_lane c.args.a.now k in
    let b = λ (k : ℕ). bits_lane c.args.b.now k in
    let exact = λ (k : ℕ). g.K.Division.divided (a k) (b k) in
    record {
      sure = λ none.
          let before : c.loop-i.union ≡ 0
          = omega (arith, none, le_or_l c.loop-i.union u) in
          let seen : u ≡ 0 = omega (arith, none, le_or_r c.loop-i.union u) in
          below_more (λ k. get_or (set doubts i u) k 0 ≡ 0) i
          (λ k l. let ne : k ≢ i = omega arith in
          get_or-set_other doubts i k u 0 ne ∙ c.loop-i.invariant.sure before k l)
          (get_or-set_same doubts i u 0 (omega arith) ∙ seen);
      divisible = below_more
          (λ k. (get_or (set doubts i u) k 0 == 0) ≡ true → can_divide (a k) (b k) ≡ true) i
          (λ k l e. let ne : k ≢ i = omega arith in
          c.loop-i.invariant.divisible k l
          (ap (λ n. n == 0) (sym (get_or-set_other doubts i k u 0 ne)) ∙ e))
          (λ e. c.settled-value.ensures.divisible
          (ap (λ n. n == 0) (sym (get_or-set_same doubts i u 0 (omega arith))) ∙ e));
      values = below_more
          (λ k. to_z w32 (get_or (set out i v) k 0)
          ≡ cond (get_or (set doubts i u) k 0 == 0) (exact k) (pos 0)) i
          (λ k l. let ne : k ≢ i = omega arith in
          ap (to_z w32) (get_or-set_other out i k v 0 ne)
          ∙ c.loop-i.invariant.values k l
          ∙ ap (λ n. cond (n == 0) (exact k) (pos 0)) (sym (get_or-set_other doubts i k u 0 ne)))
          (ap (to_z w32) (get_or-set_same out i v 0 (omega arith))
          ∙ c.settled-value.ensures.value
          ∙ ap (λ n. cond (n == 0) (exact i) (pos 0))
          (sym (get_or-set_same doubts i u 0 (omega arith))));
    }

pub returns-clause-divisible : goal.returns-clause-divisible
returns-clause-divisible g c i h = c.loop-i.invariant.divisible i (omega arith)

pub returns-clause-values : goal.returns-clause-values
returns-clause-values g c i h = c.loop-i.invariant.values i (omega arith)

pub returns-clause-sure : goal.returns-clause-sure
returns-clause-sure g c none i h = c.loop-i.invariant.sure none i (omega arith)
