-- The ends of the steps of a reason.
-- Source: this project's rule.
use Rattle.std.specs.Prelude.{◌≡◌, ◌+◌, ℕ, Bool, true, false, Some, None, List, [], length}
use Rattle.std.specs.List.{last_or}
use Rattle.lb_syntax.specs.Lists.{Every}
use Rattle.lb_check.specs.Scalars.{Cell}
use Rattle.lb_flat.specs.Flat.{FlatEquation}
use Rattle.lb_flat.specs.Run.{Ready, Row, cell}
use Rattle.lb_reason.specs.Deciding.{chain, given_by, next_element, operands_taken}

-- the elements of the steps from an element on
abbrev pub all_steps : List FlatEquation → Row → ℕ → List ℕ
all_steps Q row first = chain (length Q + 1) Q row (Some first)

-- no element decides the last step, where the equations are in order
abbrev pub HasEnd : List FlatEquation → Row → (first : ℕ) → Type 0
HasEnd Q row first =
    (size last : ℕ) → Ready size [] Q → last_or None (all_steps Q row first) ≡ Some last →
    next_element Q row last ≡ None

-- each step passes a test; and where the equations are in order, the operation of the last step
-- takes no operand that passes it
pub record IsFollowed (test : Cell → Bool) (Q : List FlatEquation) (row : Row) (first : ℕ)
    : Type 0 where
  pub each : Every (λ e. test (cell row e) ≡ true) (all_steps Q row first)
  pub made :
      (size last : ℕ) → Ready size [] Q → last_or None (all_steps Q row first) ≡ Some last →
      (q : FlatEquation) → given_by Q last ≡ Some q →
      Every (λ a. test (cell row a) ≡ false) (operands_taken row q.operation)
