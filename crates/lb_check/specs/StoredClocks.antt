-- The meaning of an environment of the code for clocks, and the variables that a call gives for
-- those of its callee.
-- This file says what data of the program mean; no definition of the language stands on it.
use Rattle.std.specs.Prelude.{ℕ, Option, Some, None, List, map}
use Rattle.lb_static.specs.declared.resolved.ResolvedNode.{ResolvedNode}
use Rattle.lb_static.specs.declared.resolved.Sampling.{Sampling}
use Rattle.lb_static.specs.declared.resolved.Variable.{Variable}
use Rattle.lb_static.specs.declared.resolved.VariableId.{VariableId}
use Rattle.lb_check.specs.TermClocks.{Context, context_of, declared_in, given_at, stands_for}
use Rattle.lb_check.specs.declared.call_clock.Given.{Given}
use Rattle.lb_check.specs.declared.call_clock.Given.TheVariants.{Nested, Whole}
use Rattle.lb_check.specs.declared.own_clock.Clock.{Clock}
use Rattle.lb_check.specs.declared.own_clock.Clock.TheVariants.{Base, On}
use Rattle.lb_check.specs.declared.term_clock.ClockEnv.{ClockEnv}

-- the clock on which the variable of a clock stands
abbrev pub clock_above : ResolvedNode → Clock → Option Clock
clock_above n Base = None
clock_above n (On x sign) = Some (declared_in n x)

-- the context of an environment: the meaning of the numbers of its node
abbrev pub context_in : ClockEnv → Context
context_in s = context_of s.reached.now s.node.now

-- the declared clocks of some variables
abbrev pub clocks_of : List Variable → List (Option Sampling)
clocks_of vs = map (λ v. v.clock) vs

-- the variable of the caller that stands for a variable of the callee
abbrev pub given_in : Given → ℕ → Option VariableId
given_in (Nested os) = given_at os.now
given_in (Whole inputs os lefts) = stands_for inputs os.now lefts.now
