-- The variables that a call gives for the clock variables of its callee, as the code finds them.
-- This file mirrors code (src/call_clock.rt); no definition of the language stands on it.
use Rattle.std.specs.Prelude.{ℕ, Bool, true, ◌||◌, not, nat_lt, Option, Some, None, is_some, List}
use Rattle.std.specs.Prelude.{slice_get}
use Rattle.lb_syntax.specs.Lists.{holds}
use Rattle.lb_static.specs.declared.resolved.Sampling.{Sampling}
use Rattle.lb_static.specs.declared.resolved.Term.{Term, Variable, Group'}
use Rattle.lb_static.specs.declared.resolved.Variable.{Variable as Declared}
use Rattle.lb_static.specs.declared.resolved.VariableId.{VariableId}

-- the variable of a term that is a variable, in parentheses or not
unfoldable pub variable_of : Term → Option VariableId
variable_of (Variable x) = Some x
variable_of (Group' p e) = variable_of e
variable_of t = None

-- whether the argument at place `i` is a variable
abbrev pub is_variable_at : List Term → ℕ → Bool
is_variable_at es i = holds (λ t. is_some (variable_of t)) (slice_get es i)

-- whether the variable that a parameter waits for, if it is an input, has a variable as its
-- argument
abbrev pub waits_for_given : ℕ → List Term → Option Sampling → Bool
waits_for_given inputs es None = true
waits_for_given inputs es (Some s) =
    not (nat_lt s.variable.0 inputs) || is_variable_at es s.variable.0

abbrev pub is_given : ℕ → List Term → Declared → Bool
is_given inputs es v = waits_for_given inputs es v.clock
