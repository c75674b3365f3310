-- The clocks that a term accepts, as the code finds them.
-- This file mirrors code (src/term_clock.rt, src/walked_clocks.rt, src/call_clock.rt,
-- src/clock_rules.rt); no definition of the language stands on it.
use Rattle.std.specs.Prelude.{ℕ, ◌+◌, ◌-◌, nat_lt, nat_eq, Bool, true, false, ◌&&◌, ◌||◌, not}
use Rattle.std.specs.Prelude.{Option, Some, None, is_some, option_map, List, [], ◌∷◌, map, take}
use Rattle.std.specs.Prelude.{drop, length, slice_get, if◌then◌else◌}
use Rattle.std.specs.List.{list_all}
use Rattle.lb_syntax.specs.Lists.{◌>>=◌, either_or, or_else, holds}
use Rattle.lb_static.specs.ReachedNodes.{callee_in}
use Rattle.lb_static.specs.declared.reachable.Reached.{Reached}
use Rattle.lb_static.specs.declared.resolved.CallId.{CallId}
use Rattle.lb_static.specs.declared.resolved.ResolvedNode.{ResolvedNode}
use Rattle.lb_static.specs.declared.resolved.Sampling.{Sampling}
use Rattle.lb_static.specs.declared.resolved.ResolvedStatement.{ResolvedStatement}
use Rattle.lb_static.specs.declared.resolved.ResolvedStatement.TheVariants as statement
use Rattle.lb_static.specs.declared.resolved.Term.{Term, Literal, Truth, Variable, Value, Group'}
use Rattle.lb_static.specs.declared.resolved.Term.{Unary', Binary', If', Arrow', Fby', Pre'}
use Rattle.lb_static.specs.declared.resolved.Term.{Current', When', Replicate', Index', Slice'}
use Rattle.lb_static.specs.declared.resolved.Term.{Join', Array', AtMostOne', Nor', Call'}
use Rattle.lb_static.specs.declared.resolved.Term.{IterateNode', IterateSymbol', Row_of-Term}
use Rattle.lb_static.specs.declared.resolved.Term.{end_of-Term, more_of-Term}
use Rattle.lb_static.specs.declared.resolved.VariableId.{VariableId}
use Rattle.lb_check.specs.CallClocks.{variable_of}
use Rattle.lb_check.specs.Scalars.{same}
use Rattle.lb_check.specs.declared.own_clock.Clock.{Clock}
use Rattle.lb_check.specs.declared.own_clock.Clock.TheVariants.{Base, On}
use Rattle.lb_check.specs.declared.clock_set.Operand.{Operand}
use Rattle.lb_check.specs.declared.clock_set.ClockSet.{ClockSet}
use Rattle.lb_check.specs.declared.clock_set.ClockSet.TheVariants.{NoClock, AnyClock, OneClock}

-- ## The meaning of the numbers of a node

-- a context: the declared clock of each variable, and the node of each call
pub record Context : Type 0 where
  pub variable : VariableId → Clock
  pub callee : CallId → Option ResolvedNode

abbrev pub clock_with : Option Sampling → Clock
clock_with None = Base
clock_with (Some s) = On s.variable s.sign

abbrev pub declared_in : ResolvedNode → VariableId → Clock
declared_in n x = clock_with (slice_get n.variables.items x.0 >>= λ v. v.clock)

unfoldable pub context_of : Reached → ResolvedNode → Context
context_of r n = record { variable = declared_in n; callee = callee_in r n }

-- ## Clocks

-- whether two clocks are the same; the clock above `On x sign` is always the declared clock of `x`
abbrev pub is_same : Clock → Clock → Bool
is_same Base Base = true
is_same (On x sign) (On y other) = nat_eq x.0 y.0 && same sign other
is_same k l = false

-- ## Clock sets

-- the clock set of two operands together: the clocks that both accept
abbrev pub both : ClockSet → ClockSet → ClockSet
both NoClock s = NoClock
both AnyClock s = s
both (OneClock k) NoClock = NoClock
both (OneClock k) AnyClock = OneClock k
both (OneClock k) (OneClock l) = if is_same k l then OneClock k else NoClock

-- the clock set of operands together: the clocks that all accept
abbrev pub together : List Operand → ClockSet
together [] = AnyClock
together (o ∷ os) = both o.clock_set (together os)

-- whether a clock set accepts clock `k`, if there is one
abbrev pub accepts_clock : Option Clock → ClockSet → Bool
accepts_clock k NoClock = false
accepts_clock k AnyClock = true
accepts_clock k (OneClock l) = holds (λ k. is_same l k) k

-- the clock set of `when`: `x` at this sign, where its operand accepts the clock of `x`
abbrev pub sampled : Context → VariableId → Bool → ClockSet → ClockSet
sampled ctx x sign s = if accepts_clock (Some (ctx.variable x)) s then OneClock (On x sign) else
    NoClock

-- the clock set of `current`: one clock above that of its operand
abbrev pub raised : Context → ClockSet → ClockSet
raised ctx (OneClock (On x sign)) = OneClock (ctx.variable x)
raised ctx s = NoClock

-- ## Calls

-- the declared clocks of the inputs, and below of the outputs, of a node
abbrev pub input_clocks : ResolvedNode → List (Option Sampling)
input_clocks n = map (λ v. v.clock) (take n.inputs n.variables.items)

abbrev pub output_clocks : ResolvedNode → List (Option Sampling)
output_clocks n = map (λ v. v.clock) (take n.outputs (drop n.inputs n.variables.items))

-- the variable that a call gives for input `i`, if it gives a variable
abbrev pub given_at : List Operand → ℕ → Option VariableId
given_at os i = slice_get os i >>= λ o. o.variable

-- whether the variable that a parameter waits for, if it is an input, is given a variable
abbrev pub is_given : ℕ → List Operand → Option Sampling → Bool
is_given inputs os None = true
is_given inputs os (Some s) =
    not (nat_lt s.variable.0 inputs) || is_some (given_at os s.variable.0)

abbrev pub are_given : ResolvedNode → List Operand → Bool
are_given n os =
    list_all (λ v. is_given n.inputs os v.clock)
    (take (n.inputs + n.outputs) n.variables.items)

-- the base clock of a callee: that of the first operand that stands on one clock alone and whose
-- parameter is on the base clock
abbrev pub base_of : List (Option Sampling) → List ClockSet → Option Clock
base_of [] ss = None
base_of (c ∷ cs) [] = None
base_of (None ∷ cs) (OneClock k ∷ ss) = Some k
base_of (c ∷ cs) (s ∷ ss) = base_of cs ss

-- the clock of a parameter as the caller sees it, where the callee runs on clock `base`, and the
-- variables `given` of the caller stand for those of the callee
abbrev pub expected : Option Clock → (ℕ → Option VariableId) → Option Sampling → Option Clock
expected base given None = base
expected base given (Some s) = option_map (λ y. On y s.sign) (given s.variable.0)

-- whether each operand accepts the clock of its parameter
abbrev pub all_fit :
    Option Clock → (ℕ → Option VariableId) → List (Option Sampling) → List ClockSet → Bool
all_fit base given [] ss = true
all_fit base given (c ∷ cs) [] = true
all_fit base given (c ∷ cs) (s ∷ ss) =
    accepts_clock (expected base given c) s && all_fit base given cs ss

abbrev pub clock_sets : List Operand → List ClockSet
clock_sets os = map (λ o. o.clock_set) os

abbrev pub clock_set_on : Option Clock → ClockSet
clock_set_on None = AnyClock
clock_set_on (Some k) = OneClock k

-- the clock set of the first result of a call
abbrev pub first_result :
    Option Clock → (ℕ → Option VariableId) → List (Option Sampling) → ClockSet
first_result base given [] = clock_set_on base
first_result base given (c ∷ cs) = clock_set_on (expected base given c)

-- the clock set of a call with one result
abbrev pub call_clock_set : ResolvedNode → List Operand → ClockSet
call_clock_set n os =
    let base = base_of (input_clocks n) (clock_sets os) in
    if are_given n os && all_fit base (given_at os) (input_clocks n) (clock_sets os)
    then first_result base (given_at os) (output_clocks n)
    else NoClock

-- whether a node has no clocked parameters, as an iterated node must
abbrev pub is_base_clocked : ResolvedNode → Bool
is_base_clocked n =
    list_all (λ v. not (is_some v.clock)) (take (n.inputs + n.outputs) n.variables.items)

-- ## Terms

-- the clock set of a term with a row of operands
abbrev pub row_clock_set : Context → Term → List Operand → ClockSet
row_clock_set ctx (Call' c arity all) os =
    either_or (option_map (λ n. call_clock_set n os) (ctx.callee c)) NoClock
row_clock_set ctx (IterateNode' it c arity all) os =
    if holds is_base_clocked (ctx.callee c) then together os else NoClock
row_clock_set ctx t os = together os

-- the clock set of a term with one operand, from the clock set of that
abbrev pub unary_clock_set : Context → Term → ClockSet → ClockSet
unary_clock_set ctx (Current' p e) s = raised ctx s
unary_clock_set ctx (When' p e x sign) s = sampled ctx x sign s
unary_clock_set ctx t s = s

unfoldable mutual
  -- the clock set of a term: the clocks on which it may stand
  pub infer_clock : Context → Term → ClockSet
  infer_clock ctx (Literal n) = AnyClock
  infer_clock ctx (Truth b) = AnyClock
  infer_clock ctx (Variable x) = OneClock (ctx.variable x)
  infer_clock ctx (Value i) = AnyClock
  infer_clock ctx (Group' p e) = infer_clock ctx e
  infer_clock ctx (Unary' op p a) = infer_clock ctx a
  infer_clock ctx (Binary' op p a q b) = both (infer_clock ctx a) (infer_clock ctx b)
  infer_clock ctx (If' p c q a r b) =
      both (infer_clock ctx c) (both (infer_clock ctx a) (infer_clock ctx b))
  infer_clock ctx (Arrow' p a q b) = both (infer_clock ctx a) (infer_clock ctx b)
  infer_clock ctx (Fby' p a q b) = both (infer_clock ctx a) (infer_clock ctx b)
  infer_clock ctx (Pre' p e) = infer_clock ctx e
  infer_clock ctx (Current' p e) = raised ctx (infer_clock ctx e)
  infer_clock ctx (When' p e x sign) = sampled ctx x sign (infer_clock ctx e)
  infer_clock ctx (Replicate' p e n) = infer_clock ctx e
  infer_clock ctx (Index' p e i) = infer_clock ctx e
  infer_clock ctx (Slice' p e i j) = infer_clock ctx e
  infer_clock ctx (Join' p a q b) = both (infer_clock ctx a) (infer_clock ctx b)
  infer_clock ctx (Array' arity all) = row_clock_set ctx (Array' arity all) (operands_in ctx all)
  infer_clock ctx (AtMostOne' arity all) =
      row_clock_set ctx (AtMostOne' arity all) (operands_in ctx all)
  infer_clock ctx (Nor' arity all) = row_clock_set ctx (Nor' arity all) (operands_in ctx all)
  infer_clock ctx (Call' c arity all) =
      row_clock_set ctx (Call' c arity all) (operands_in ctx all)
  infer_clock ctx (IterateNode' it c arity all) =
      row_clock_set ctx (IterateNode' it c arity all) (operands_in ctx all)
  infer_clock ctx (IterateSymbol' it op n arity all) =
      row_clock_set ctx (IterateSymbol' it op n arity all) (operands_in ctx all)

  -- the operands for a row of terms
  pub operands_in : {m : _} → Context → Row_of-Term m → List Operand
  operands_in ctx end_of-Term = []
  operands_in ctx (more_of-Term e rest) =
      record { clock_set = infer_clock ctx e; variable = variable_of e } ∷ operands_in ctx rest

-- the operand for a term: its clock set, and its variable if it is one
abbrev pub operand_of : Context → Term → Operand
operand_of ctx e = record { clock_set = infer_clock ctx e; variable = variable_of e }

-- the operands for a list of terms
abbrev pub operands_of : Context → List Term → List Operand
operands_of ctx es = map (operand_of ctx) es

-- ## Statements

-- the clock of an equation: that of its first left variable
abbrev pub left_clock : Context → List VariableId → Clock
left_clock ctx [] = Base
left_clock ctx (x ∷ xs) = ctx.variable x

-- whether the left variables stand on the clock of the right side
abbrev pub is_one_clocked : Context → List VariableId → ClockSet → Bool
is_one_clocked ctx lefts s =
    let k = left_clock ctx lefts in
    accepts_clock (Some k) s && list_all (λ x. is_same k (ctx.variable x)) lefts

-- the variable of the caller that stands for variable `i` of a callee: an operand or a left
-- variable
abbrev pub stands_for : ℕ → List Operand → List VariableId → ℕ → Option VariableId
stands_for inputs os lefts i =
    if nat_lt i inputs then given_at os i else slice_get lefts (i - inputs)

abbrev pub left_clock_sets : Context → List VariableId → List ClockSet
left_clock_sets ctx lefts = map (λ x. OneClock (ctx.variable x)) lefts

-- the base clock of a callee whose results are those of an equation with these left variables
abbrev pub result_base :
    Context → ResolvedNode → List Operand → List VariableId → Option Clock
result_base ctx n os [] = Some Base
result_base ctx n os (x ∷ xs) =
    or_else (base_of (output_clocks n) (left_clock_sets ctx (x ∷ xs)))
    (base_of (input_clocks n) (clock_sets os))

-- whether the operands of a call, and the left variables as its results, stand on the clocks of its
-- parameters
abbrev pub is_call_clocked :
    Context → ResolvedNode → List Operand → List VariableId → Bool
is_call_clocked ctx n os lefts =
    let base = result_base ctx n os lefts in
    let given = stands_for n.inputs os lefts in
    nat_eq (length lefts) n.outputs
    && (are_given n os
    && (all_fit base given (input_clocks n) (clock_sets os)
    && all_fit base given (output_clocks n) (left_clock_sets ctx lefts)))

-- whether an equation whose right side is a call keeps the rules of clocks
abbrev pub is_called_clocked : Context → List VariableId → CallId → List Term → Bool
is_called_clocked ctx lefts c es =
    holds (λ n. is_call_clocked ctx n (operands_of ctx es) lefts) (ctx.callee c)

-- whether an equation with this right side keeps the rules of clocks
unfoldable pub is_equation_clocked : Context → List VariableId → Term → Bool
is_equation_clocked ctx lefts (Group' p e) = is_equation_clocked ctx lefts e
is_equation_clocked ctx lefts (Call' c arity all) =
    holds (λ n. is_call_clocked ctx n (operands_in ctx all) lefts) (ctx.callee c)
is_equation_clocked ctx lefts e = is_one_clocked ctx lefts (infer_clock ctx e)

abbrev pub stands : ClockSet → Bool
stands NoClock = false
stands AnyClock = true
stands (OneClock k) = true

abbrev pub is_resolved_statement_clocked : Context → ResolvedStatement → Bool
is_resolved_statement_clocked ctx (statement.Equation lefts e) =
    is_equation_clocked ctx lefts.items e
is_resolved_statement_clocked ctx (statement.Assertion e) = stands (infer_clock ctx e)

-- whether each statement of a node keeps the rules of clocks
abbrev pub is_body_clocked : Reached → ResolvedNode → Bool
is_body_clocked r n = list_all (is_resolved_statement_clocked (context_of r n)) n.body.items
