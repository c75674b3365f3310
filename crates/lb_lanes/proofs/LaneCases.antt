-- The result in a lane after an operator, by cases.
use Rattle.std.proofs.Common.{◌≡◌, Bool, true, false, not, ◌&&◌, ℤ, pos, cond, refl, sym, ap, ◌∙◌}
use Rattle.std.specs.Prelude.{Some, None}
use Rattle.lb_lanes.specs.Kernels.{kept, faulty}
use Rattle.lb_lanes.specs.Operators.{is_int, lawful, can_divide, divided_by}

lawful_where : (v : ℤ) → is_int v ≡ true → lawful v ≡ Some v
lawful_where v e = ap (λ b. cond b (Some v) None) e

-- a result in the range of `int` is kept in a live lane, and is no fault
pub kept_lawful : (live : Bool) (v : ℤ) → is_int v ≡ true
    → kept live (lawful v) ≡ cond live v (pos 0)
kept_lawful live v e = ap (kept live) (lawful_where v e) ∙ by live
  where
    by : (b : Bool) → kept b (Some v) ≡ cond b v (pos 0)
    by true = refl
    by false = refl

pub faulty_lawful : (live : Bool) (v : ℤ) → is_int v ≡ true → faulty live (lawful v) ≡ false
faulty_lawful live v e = ap (faulty live) (lawful_where v e) ∙ by live
  where
    by : (b : Bool) → faulty b (Some v) ≡ false
    by true = refl
    by false = refl

zero_is_int : is_int (pos 0) ≡ true
unfolding is_int
zero_is_int = refl

-- a lane that is made 0 unless it is live and its result is in the range of `int` is `kept`
pub masked_kept : (live t : Bool) (v w : ℤ) → is_int v ≡ t → (is_int v ≡ true → w ≡ v)
    → cond (live && not (not t)) w (pos 0) ≡ kept live (lawful v)
masked_kept true true v w e value = value e ∙ sym (kept_lawful true v e)
masked_kept true false v w e value = sym (ap (λ t. kept true (cond t (Some v) None)) e)
masked_kept false t v w e value = refl

pub masked_faulty : (live t : Bool) (v : ℤ) → is_int v ≡ t
    → (live && not t) ≡ faulty live (lawful v)
masked_faulty true true v e = sym (faulty_lawful true v e)
masked_faulty true false v e = sym (ap (λ t. faulty true (cond t (Some v) None)) e)
masked_faulty false t v e = refl

-- a lane of a division that is made 0 unless it is live and can be divided is `kept`
pub kept_divided : (live can : Bool) (v : ℤ)
    → cond (live && can) v (pos 0) ≡ kept live (cond can (Some v) None)
kept_divided true true v = refl
kept_divided true false v = refl
kept_divided false can v = refl

pub faulty_divided : (live can : Bool) (v : ℤ)
    → (live && not can) ≡ faulty live (cond can (Some v) None)
faulty_divided true true v = refl
faulty_divided true false v = refl
faulty_divided false can v = refl

pub none_faulty : (live can : Bool) (v : ℤ) → (live && can) ≡ true
    → faulty live (cond can (Some v) None) ≡ false
none_faulty true true v e = refl
none_faulty true false v e = cc
none_faulty false can v e = refl

pub and_right : (a b : Bool) → (a && b) ≡ true → b ≡ true
and_right true b e = e
and_right false b e = cc

-- a lane that can be divided if it is live, and is made 0 if it is not, is `kept`
pub kept_common : (f : ℤ → ℤ → ℤ) (live : Bool) (a b r : ℤ)
    → (live ≡ true → (r ≡ f a b) × (can_divide a b ≡ true))
    → cond live r (pos 0) ≡ kept live (divided_by f a b)
kept_common f true a b r h =
    let here = h refl in
    here.0 ∙ sym (ap (λ t. kept true (cond t (Some (f a b)) None)) here.1)
kept_common f false a b r h = refl

pub faulty_common : (f : ℤ → ℤ → ℤ) (live : Bool) (a b : ℤ) → (live ≡ true → can_divide a b ≡ true)
    → false ≡ faulty live (divided_by f a b)
faulty_common f true a b h = sym (ap (λ t. faulty true (cond t (Some (f a b)) None)) (h refl))
faulty_common f false a b h = refl

-- an operator on a masked first operand, with 0 for a result out of the range of `int`, is `kept`
pub apart_value : (f : ℤ → ℤ → ℤ) (live w : Bool) (a b r o : ℤ) → f (pos 0) b ≡ pos 0
    → w ≡ is_int (f (cond live a (pos 0)) b)
    → (is_int (f (cond live a (pos 0)) b) ≡ true → r ≡ f (cond live a (pos 0)) b)
    → o ≡ cond w r (pos 0) → o ≡ kept live (lawful (f a b))
apart_value f false w a b r o z e v is =
    let within : is_int (f (pos 0) b) ≡ true = ap is_int z ∙ zero_is_int in
    is ∙ ap (λ t. cond t r (pos 0)) (e ∙ within) ∙ v within ∙ z
apart_value f true w a b r o z e v is = by (is_int (f a b)) refl
  where
    by : (t : Bool) → is_int (f a b) ≡ t → o ≡ kept true (lawful (f a b))
    by true i = is ∙ ap (λ t. cond t r (pos 0)) (e ∙ i) ∙ v i ∙ sym (kept_lawful true (f a b) i)
    by false i = is ∙ ap (λ t. cond t r (pos 0)) (e ∙ i)
        ∙ sym (ap (λ t. kept true (cond t (Some (f a b)) None)) i)

pub apart_fault : (f : ℤ → ℤ → ℤ) (live w : Bool) (a b : ℤ) → f (pos 0) b ≡ pos 0
    → w ≡ is_int (f (cond live a (pos 0)) b) → not w ≡ faulty live (lawful (f a b))
apart_fault f false w a b z e = ap not (e ∙ ap is_int z ∙ zero_is_int)
apart_fault f true w a b z e = by (is_int (f a b)) refl
  where
    by : (t : Bool) → is_int (f a b) ≡ t → not w ≡ faulty true (lawful (f a b))
    by true i = ap not (e ∙ i) ∙ sym (faulty_lawful true (f a b) i)
    by false i = ap not (e ∙ i) ∙ sym (ap (λ t. faulty true (cond t (Some (f a b)) None)) i)
