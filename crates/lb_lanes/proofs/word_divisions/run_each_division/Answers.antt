use Rattle.std.proofs.Common.{◌≡◌, ℕ, ◌<◌, ◌==◌, true, false, not, ◌&&◌, ℤ, cond, pos, ap, ap₂, ◌∙◌}
use Rattle.std.proofs.Common.{sym, get_or}
use Rattle.std.specs.Ordering.{int_eq}
use lib.Bits.{bit_and}
use Rattle.lb_lanes.specs.Kernels.{bits_lane, lanes_in}
use Rattle.lb_lanes.specs.Operators.{can_divide}
use Rattle.lb_lanes.specs.Planes.{on}
use Rattle.lb_lanes.proofs.LaneCases.{kept_common, faulty_common, and_right}
use Rattle.lb_lanes.proofs.OnPlanes.{on-and, on-flip, on-zero, flip}
use Rattle.lb_lanes.proofs.SmallQuotients.{kept_guess, faulty_guess, kept_settled, faulty_settled}
use Rattle.lb_lanes.proofs.WordArithmetic.{word_zero_is, zero_word_at}
use Rattle.lb_lanes.proofs.Widths.{inside}
use Rattle.lb_lanes.proofs.word_divisions.run_each_division.Goals as goal

pub returns-then-others-eq0 : goal.returns-then-others-eq0
returns-then-others-eq0 g c =
    let active = c.args.active in
    let live = λ (i : ℕ). on active i in
    let sure = c.tested.result in
    let zero = c.tested-2.result in
    let doubts = c.divide_small.new.doubts in
    let a = λ (i : ℕ). bits_lane c.args.a.now i in
    let b = λ (i : ℕ). bits_lane c.args.b.now i in
    let f : ℤ → ℤ → ℤ = g.K.Division.divided in
    let none : (i : ℕ) → i < lanes_in c.args.width → on sure i ≡ (get_or doubts i 0 == 0)
    = λ i h. c.tested.ensures i h
    ∙ ap (int_eq (bits_lane doubts i)) (zero_word_at i (inside c.args.width i h))
    ∙ word_zero_is (get_or doubts i 0) in
    let no_divisor : (i : ℕ) → i < lanes_in c.args.width → on zero i ≡ int_eq (b i) (pos 0)
    = λ i h. c.tested-2.ensures i h
    ∙ ap (int_eq (b i)) (zero_word_at i (inside c.args.width i h)) in
    let can : (i : ℕ) → i < lanes_in c.args.width → on sure i ≡ true → can_divide (a i) (b i) ≡ true
    = λ i h e. c.divide_small.ensures.divisible i h (sym (none i h) ∙ e) in
    let open_at : (i : ℕ) → i < lanes_in c.args.width
    → on (bit_and active (flip sure)) i ≡ (live i && not (on sure i))
    = λ i h. on-and active (flip sure) i
    ∙ ap (λ t. live i && t) (on-flip sure i c.tested.type_inv (inside c.args.width i h)) in
    let no_other : (i : ℕ) → i < lanes_in c.args.width
    → ((live i && not (on sure i)) && not (on zero i)) ≡ false
    = λ i h. ap (λ t. t && not (on zero i)) (sym (open_at i h))
    ∙ ap (λ t. on (bit_and active (flip sure)) i && t)
    (sym (on-flip zero i c.tested-2.type_inv (inside c.args.width i h)))
    ∙ sym (on-and (bit_and active (flip sure)) (flip zero) i)
    ∙ ap (λ n. on n i) c.if-others-eq0.true ∙ on-zero i in
    record {
      values = λ i h.
          c.keep-2.ensures i h
          ∙ kept_guess f (live i) (on sure i) (on zero i) (a i) (b i)
          (bits_lane c.divide_small.new.out i) (can i h)
          (c.divide_small.ensures.values i h
          ∙ ap (λ t. cond t (f (a i) (b i)) (pos 0)) (sym (none i h)))
          (no_divisor i h) (no_other i h);
      fault_bits = λ i h.
          open_at i h
          ∙ faulty_guess f (live i) (on sure i) (on zero i) (a i) (b i) (can i h)
          (no_divisor i h) (no_other i h);
    }

pub divide_some-requires : goal.divide_some-requires
divide_some-requires g c i h e =
    let doubtful = bit_and c.args.active (flip c.tested.result) in
    sym (c.tested-divisible.ensures i h)
    ∙ and_right (on doubtful i) (on c.tested-divisible.result i)
    (sym (on-and doubtful c.tested-divisible.result i) ∙ e)

pub returns : goal.returns
returns g c =
    let active = c.args.active in
    let live = λ (i : ℕ). on active i in
    let sure = c.tested.result in
    let divisible = c.tested-divisible.result in
    let doubtful = bit_and active (flip sure) in
    let divides = bit_and doubtful divisible in
    let doubts = c.divide_small.new.doubts in
    let a = λ (i : ℕ). bits_lane c.args.a.now i in
    let b = λ (i : ℕ). bits_lane c.args.b.now i in
    let f : ℤ → ℤ → ℤ = g.K.Division.divided in
    let none : (i : ℕ) → i < lanes_in c.args.width → on sure i ≡ (get_or doubts i 0 == 0)
    = λ i h. c.tested.ensures i h
    ∙ ap (int_eq (bits_lane doubts i)) (zero_word_at i (inside c.args.width i h))
    ∙ word_zero_is (get_or doubts i 0) in
    let can : (i : ℕ) → i < lanes_in c.args.width → on sure i ≡ true → can_divide (a i) (b i) ≡ true
    = λ i h e. c.divide_small.ensures.divisible i h (sym (none i h) ∙ e) in
    let open_at : (i : ℕ) → i < lanes_in c.args.width → on doubtful i ≡ (live i && not (on sure i))
    = λ i h. on-and active (flip sure) i
    ∙ ap (λ t. live i && t) (on-flip sure i c.tested.type_inv (inside c.args.width i h)) in
    let divides_at : (i : ℕ) → i < lanes_in c.args.width
    → on divides i ≡ ((live i && not (on sure i)) && on divisible i)
    = λ i h. on-and doubtful divisible i ∙ ap (λ t. t && on divisible i) (open_at i h) in
    record {
      values = λ i h.
          c.divide_some.ensures i h
          ∙ ap₂ (λ t r. cond t (f (a i) (b i)) r) (divides_at i h) (c.keep-2.ensures i h)
          ∙ kept_settled f (live i) (on sure i) (on divisible i) (a i) (b i)
          (bits_lane c.divide_small.new.out i) (can i h)
          (c.divide_small.ensures.values i h
          ∙ ap (λ t. cond t (f (a i) (b i)) (pos 0)) (sym (none i h)))
          (c.tested-divisible.ensures i h);
      fault_bits = λ i h.
          on-and doubtful (flip divisible) i
          ∙ ap₂ (λ s t. s && t) (open_at i h)
          (on-flip divisible i c.tested-divisible.type_inv (inside c.args.width i h))
          ∙ faulty_settled f (live i) (on sure i) (on divisible i) (a i) (b i) (can i h)
          (c.tested-divisible.ensures i h);
    }

pub returns-then-divide_small-eq0 : goal.returns-then-divide_small-eq0
returns-then-divide_small-eq0 g c =
    let live = λ (i : ℕ). on c.args.active i in
    let doubts = c.divide_small.new.doubts in
    let a = λ (i : ℕ). bits_lane c.args.a.now i in
    let b = λ (i : ℕ). bits_lane c.args.b.now i in
    let f : ℤ → ℤ → ℤ = g.K.Division.divided in
    let none : (i : ℕ) → i < lanes_in c.args.width → (get_or doubts i 0 == 0) ≡ true
    = λ i h. ap (λ n. n == 0)
    (c.divide_small.ensures.sure c.if-divide_small-eq0.true i h) in
    let can : (i : ℕ) → i < lanes_in c.args.width → can_divide (a i) (b i) ≡ true
    = λ i h. c.divide_small.ensures.divisible i h (none i h) in
    record {
      values = λ i h.
          c.keep.ensures i h
          ∙ kept_common f (live i) (a i) (b i) (bits_lane c.divide_small.new.out i)
          (λ e. (
            c.divide_small.ensures.values i h
                ∙ ap (λ t. cond t (f (a i) (b i)) (pos 0)) (none i h),
            can i h,
          ));
      fault_bits = λ i h. on-zero i ∙ faulty_common f (live i) (a i) (b i) (λ e. can i h);
    }
