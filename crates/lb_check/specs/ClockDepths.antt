-- The depths of the declared clocks of a node, as the code finds them.
-- This file mirrors code (src/clock.rt); no definition of the language stands on it.
use Rattle.std.specs.Prelude.{◌≡◌, ◌+◌, ◌<◌, ◌≤◌, ℕ, zero, suc, nat_lt, Bool, true, Option, Some}
use Rattle.std.specs.Prelude.{None, option_map, List, length, slice_get}
use Rattle.lb_syntax.specs.Lists.{◌>>=◌}
use Rattle.lb_static.specs.declared.resolved.Sampling.{Sampling}
use Rattle.lb_static.specs.declared.resolved.Variable.{Variable}
use Rattle.lb_check.specs.Clocks.{depth}

-- the variable that variable `x` waits for, if it is on a clock of its own
abbrev pub awaited : List Variable → ℕ → Option ℕ
awaited vs x = slice_get vs x >>= λ v. option_map (λ s. s.variable.0) v.clock

-- each variable that another one waits for is in the list
abbrev pub AreAwaited : List Variable → Type 0
AreAwaited vs = (x y : ℕ) → awaited vs x ≡ Some y → y < length vs

-- a number of steps leads from `from` to `to`, each to the variable that is waited for
unfoldable pub LeadsTo : List Variable → ℕ → (from to : ℕ) → Type 0
LeadsTo vs zero x y = x ≡ y
LeadsTo vs (suc k) x y = (z : ℕ) × (awaited vs x ≡ Some z) × LeadsTo vs k z y

-- the declared clock of `x` has depth `d`: 0 on the base clock, else one more than the awaited one
unfoldable pub HasDepth : List Variable → ℕ → ℕ → Type 0
HasDepth vs zero x = awaited vs x ≡ None
HasDepth vs (suc d) x = (z : ℕ) × (awaited vs x ≡ Some z) × HasDepth vs d z

-- the depth of the declared clock of `x` where it is less than `n`, else none
unfoldable pub depth_within : ℕ → List Variable → ℕ → Option ℕ
depth_within zero vs x = None
depth_within (suc n) vs x = depth_from (depth_within n vs) (awaited vs x)
  where
    depth_from : (ℕ → Option ℕ) → Option ℕ → Option ℕ
    depth_from depth None = Some 0
    depth_from depth (Some y) = option_map suc (depth y)

-- the depths of variables, as far as they are known
pub record AreDepths (vs : List Variable) (depths : List (Option ℕ)) : Type 0 where
  pub as_many : length depths ≡ length vs
  pub right : (x d : ℕ) → slice_get depths x ≡ Some (Some d) → HasDepth vs d x
  pub small : (x d : ℕ) → slice_get depths x ≡ Some (Some d) → d ≤ length vs

-- the depth of variable `x` is known
abbrev pub IsKnown : List (Option ℕ) → ℕ → Type 0
IsKnown depths x = (d : ℕ) × (slice_get depths x ≡ Some (Some d))

-- a variable whose declared clock runs in a circle, or none where the depth of each is known
abbrev pub IsCircle : List Variable → Option ℕ → Type 0
IsCircle vs None =
    (depths : List (Option ℕ)) × AreDepths vs depths
    × ((x : ℕ) → x < length vs → IsKnown depths x)
IsCircle vs (Some x) = (x < length vs) × (depth_within (length vs + 1) vs x ≡ None)

-- whether a variable is on no clock of its own, or waits for one of the first `count` variables
abbrev pub waits_below : ℕ → Variable → Bool
waits_below count v = below v.clock
  where
    below : Option Sampling → Bool
    below None = true
    below (Some s) = nat_lt s.variable.0 count
