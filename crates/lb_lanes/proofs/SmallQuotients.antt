-- Quotients that are guessed and checked.
use Rattle.std.proofs.Common.{◌≡◌, ℕ, ◌/◌, ◌<◌, Bool, true, false, not, ◌&&◌, ℤ, pos}
use Rattle.std.proofs.Common.{negsuc, cond, refl, sym, ap, ap₂, ◌∙◌, subst, arith, w32, to_z}
use Rattle.std.specs.Int.RustNames.{unsigned_abs}
use Rattle.std.specs.Ordering.{int_eq}
use Rattle.std.specs.Prelude.{Some, None}
use Rattle.lb_lanes.specs.Kernels.{kept, faulty}
use Rattle.lb_lanes.specs.Operators.{can_divide, divided_by}
use Rattle.lb_lanes.proofs.Checks.{can_divide_by, int_same}

apart : (x y : ℤ) → (x ≡ y → ⊥) → int_eq x y ≡ false
apart x y h = by (int_eq x y) refl
  where
    by : (t : Bool) → int_eq x y ≡ t → t ≡ false
    by true e = absurd (h (int_same x y e))
    by false e = refl

-- two integers can be divided, if the divisor is not 0 and the quotient is small
divides : (a d : ℤ) → 0 < unsigned_abs d → unsigned_abs a / unsigned_abs d < 65536
    → can_divide a d ≡ true
unfolding can_divide
divides a d positive small = by (int_eq d (negsuc 0)) refl
  where
    some : int_eq d (pos 0) ≡ false
    some = apart d (pos 0) (λ e.
        let none : 0 < 0 = subst (λ v. 0 < unsigned_abs v) e positive in
        omega (arith, none))

    by : (t : Bool) → int_eq d (negsuc 0) ≡ t → can_divide a d ≡ true
    by true e =
        let not_least = apart a (negsuc 2147483647) (λ f.
        let large : 2147483648 / 1 < 65536
        = subst (λ v. unsigned_abs v / 1 < 65536) f
        (subst (λ v. unsigned_abs a / unsigned_abs v < 65536) (int_same d (negsuc 0) e) small) in
        omega (arith, large)) in
        ap₂ (λ s t. not s && not (t && int_eq d (negsuc 0))) some not_least
    by false e = can_divide_by a d some e

pub small_divides : (x y n d q : ℕ) → n ≡ unsigned_abs (to_z w32 x) → d ≡ unsigned_abs (to_z w32 y)
    → 0 < d → q ≡ n / d → q < 65536 → can_divide (to_z w32 x) (to_z w32 y) ≡ true
small_divides x y n d q size by positive is small =
    divides (to_z w32 x) (to_z w32 y) (subst (λ k. 0 < k) by positive)
    (subst (λ k. k < 65536) (is ∙ ap₂ (λ k l. k / l) size by) small)

-- a lane that is sure or not live, or is divided by itself if it can be, has the kept result
pub kept_settled : (f : ℤ → ℤ → ℤ) (live sure can : Bool) (a b r : ℤ)
    → (sure ≡ true → can_divide a b ≡ true) → r ≡ cond sure (f a b) (pos 0)
    → can ≡ can_divide a b
    → cond ((live && not sure) && can) (f a b) (cond live r (pos 0)) ≡ kept live (divided_by f a b)
kept_settled f false sure can a b r h is e = refl
kept_settled f true true can a b r h is e =
    is ∙ sym (ap (λ t. kept true (cond t (Some (f a b)) None)) (h refl))
kept_settled f true false true a b r h is e =
    ap (λ t. kept true (cond t (Some (f a b)) None)) e
kept_settled f true false false a b r h is e =
    is ∙ ap (λ t. kept true (cond t (Some (f a b)) None)) e

pub faulty_settled : (f : ℤ → ℤ → ℤ) (live sure can : Bool) (a b : ℤ)
    → (sure ≡ true → can_divide a b ≡ true) → can ≡ can_divide a b
    → ((live && not sure) && not can) ≡ faulty live (divided_by f a b)
faulty_settled f false sure can a b h e = refl
faulty_settled f true true can a b h e =
    sym (ap (λ t. faulty true (cond t (Some (f a b)) None)) (h refl))
faulty_settled f true false true a b h e =
    ap (λ t. faulty true (cond t (Some (f a b)) None)) e
faulty_settled f true false false a b h e =
    ap (λ t. faulty true (cond t (Some (f a b)) None)) e

-- no integer can be divided by 0
not_zero : (a b : ℤ) (none : Bool) → none ≡ int_eq b (pos 0) → not none ≡ false
    → can_divide a b ≡ false
unfolding can_divide
not_zero a b true is h =
    ap (λ t. not t && not (int_eq a (negsuc 2147483647) && int_eq b (negsuc 0))) (sym is)
not_zero a b false is h = cc

-- a lane that is sure or not live, or has 0 for a divisor, has the kept result
pub kept_guess : (f : ℤ → ℤ → ℤ) (live sure none : Bool) (a b r : ℤ)
    → (sure ≡ true → can_divide a b ≡ true) → r ≡ cond sure (f a b) (pos 0)
    → none ≡ int_eq b (pos 0) → ((live && not sure) && not none) ≡ false
    → cond live r (pos 0) ≡ kept live (divided_by f a b)
kept_guess f false sure none a b r can is e h = refl
kept_guess f true true none a b r can is e h =
    is ∙ sym (ap (λ t. kept true (cond t (Some (f a b)) None)) (can refl))
kept_guess f true false none a b r can is e h =
    is ∙ sym (ap (λ t. kept true (cond t (Some (f a b)) None)) (not_zero a b none e h))

pub faulty_guess : (f : ℤ → ℤ → ℤ) (live sure none : Bool) (a b : ℤ)
    → (sure ≡ true → can_divide a b ≡ true)
    → none ≡ int_eq b (pos 0) → ((live && not sure) && not none) ≡ false
    → (live && not sure) ≡ faulty live (divided_by f a b)
faulty_guess f false sure none a b can e h = refl
faulty_guess f true true none a b can e h =
    sym (ap (λ t. faulty true (cond t (Some (f a b)) None)) (can refl))
faulty_guess f true false none a b can e h =
    sym (ap (λ t. faulty true (cond t (Some (f a b)) None)) (not_zero a b none e h))
