-- The condition for one push of an equation in the code that expands.
-- This file says what data of the program mean; no definition of the language stands on it.
use Rattle.std.specs.Prelude.{ℕ, ◌+◌, ◌<◌}
use Rattle.lb_flat.specs.declared.equation.Operation.{Operation}
use Rattle.lb_flat.specs.declared.equation.Operation.TheVariants.{Input, Constant, Copy, ApplyUnary}
use Rattle.lb_flat.specs.declared.equation.Operation.TheVariants.{ApplyBinary, Choose, FirstThen}
use Rattle.lb_flat.specs.declared.equation.Operation.TheVariants.{Previous, Latest, Sample}

-- the operands of an operation are below element `n`
abbrev pub AreBelow : ℕ → Operation → Type 0
AreBelow n (Input j) = Unit {0}
AreBelow n (Constant v) = Unit {0}
AreBelow n (Copy a) = a.0 < n
AreBelow n (ApplyUnary op a) = a.0 < n
AreBelow n (ApplyBinary op a b) = (a.0 < n) × (b.0 < n)
AreBelow n (Choose c a b) = (c.0 < n) × (a.0 < n) × (b.0 < n)
AreBelow n (FirstThen started a b) = (a.0 < n) × (b.0 < n)
AreBelow n (Previous v a) = a.0 < n
AreBelow n (Latest v a) = a.0 < n
AreBelow n (Sample a) = a.0 < n

-- element `n` can be pushed: there is a number after it, and its operands are below it
pub record CanPush (n : ℕ) (o : Operation) : Type 0 where
  pub room : n + 1 < 4294967296
  pub operands : AreBelow n o
