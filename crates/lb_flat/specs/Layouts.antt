-- This file mirrors code: where `expand` puts the elements of variables.
-- A layout of a program gives each variable its elements, and each instance its clock.
-- Source: this project's rule.
use Rattle.std.specs.Prelude.{ℕ, Bool, List, [], ◌∷◌}
use Rattle.lb_syntax.specs.Tree.{Name}
use Rattle.lb_static.specs.Instances.{Path}
use Rattle.lb_check.specs.Clocks.{Clock, Base, On}
use Rattle.lb_flat.specs.Flat.{FlatClock, Where}

-- the elements of each variable, the elements that serve for it in a clock, and the clock on which
-- each instance runs
pub record Layout : Type 0 where
  pub places : Path → Name → List ℕ
  pub signs : Path → Name → List ℕ
  pub runs : Path → FlatClock

-- the instants of clock `k` at which the first element of a list has the sign `sign`; `k` where the
-- list is empty
abbrev pub where_signed : FlatClock → Bool → List ℕ → FlatClock
where_signed k sign [] = k
where_signed k sign (i ∷ is) = Where k i sign

-- a clock of the instance at a path
abbrev pub flat_clock : Layout → Path → Clock → FlatClock
flat_clock Y p Base = Y.runs p
flat_clock Y p (On k x sign) = where_signed (flat_clock Y p k) sign (Y.signs p x)
