-- The clock on which each part of a term stands, and what is found of its calls, as the code places
-- them.
-- This file mirrors code (src/placed_clock.rt, src/clock_rules.rt, src/given_variables.rt,
-- src/found_clocks.rt); no definition of the language stands on it.
use Rattle.std.specs.Prelude.{◌≡◌, ℕ, zero, suc, ◌+◌, ◌<◌, nat_eq, Bool, false, if◌then◌else◌}
use Rattle.std.specs.Prelude.{Option, Some, None, option_map, List, [], ◌∷◌, ◌++◌, map, flat_map}
use Rattle.std.specs.Prelude.{length, take, get_or}
use Rattle.std.specs.List.{list_any}
use Rattle.lb_syntax.specs.Lists.{either_or, holds, listed}
use Rattle.lb_static.specs.declared.reachable.Reached.{Reached}
use Rattle.lb_static.specs.declared.resolved.CallId.{CallId}
use Rattle.lb_static.specs.declared.resolved.ResolvedNode.{ResolvedNode}
use Rattle.lb_static.specs.declared.resolved.ResolvedStatement.{ResolvedStatement}
use Rattle.lb_static.specs.declared.resolved.ResolvedStatement.TheVariants as statement
use Rattle.lb_static.specs.declared.resolved.Sampling.{Sampling}
use Rattle.lb_static.specs.declared.resolved.Term.{Term, Literal, Truth, Variable, Value, Group'}
use Rattle.lb_static.specs.declared.resolved.Term.{Unary', Binary', If', Arrow', Fby', Pre'}
use Rattle.lb_static.specs.declared.resolved.Term.{Current', When', Replicate', Index', Slice'}
use Rattle.lb_static.specs.declared.resolved.Term.{Join', Array', AtMostOne', Nor', Call'}
use Rattle.lb_static.specs.declared.resolved.Term.{IterateNode', IterateSymbol', Row_of-Term}
use Rattle.lb_static.specs.declared.resolved.Term.{end_of-Term, more_of-Term}
use Rattle.lb_static.specs.declared.resolved.VariableId.{VariableId}
use Rattle.lb_check.specs.TermClocks.{Context, context_of, input_clocks, clock_sets, base_of}
use Rattle.lb_check.specs.TermClocks.{expected, given_at, stands_for, result_base, infer_clock}
use Rattle.lb_check.specs.TermClocks.{operands_in, left_clock}
use Rattle.lb_check.specs.declared.clock_set.ClockSet.{ClockSet}
use Rattle.lb_check.specs.declared.clock_set.ClockSet.TheVariants.{OneClock}
use Rattle.lb_check.specs.declared.clock_set.Operand.{Operand}
use Rattle.lb_check.specs.declared.found_clocks.CallClock.{CallClock}
use Rattle.lb_check.specs.declared.found_clocks.GivenVariable.{GivenVariable}
use Rattle.lb_check.specs.declared.found_clocks.NodeClocks.{NodeClocks}
use Rattle.lb_check.specs.declared.own_clock.Clock.{Clock}
use Rattle.lb_check.specs.declared.own_clock.Clock.TheVariants.{Base}

-- ## Found calls, terms and nodes

-- a found call: the clock on which its instances run, and the variables of the node that stand for
-- clock parameters of its callee
pub record FoundCall : Type 0 where
  pub runs : Clock
  pub given : List GivenVariable

-- a found term: the clock on which it stands, and what is found of it as a call, if it is one
pub record FoundTerm : Type 0 where
  pub clock : Clock
  pub call : Option FoundCall

abbrev pub part : Clock → FoundTerm
part k = record { clock = k; call = None }

abbrev pub called : Clock → FoundCall → FoundTerm
called k c = record { clock = k; call = Some c }

-- a found node: the clocks of its terms, and its calls
pub record FoundNode : Type 0 where
  pub terms : List Clock
  pub calls : List FoundCall

-- `f` with one more term
abbrev pub with_term : FoundNode → FoundTerm → FoundNode
with_term f t = record {
  terms = f.terms ++ (t.clock ∷ []);
  calls = f.calls ++ listed (λ c. c ∷ []) t.call;
}

abbrev pub with_terms : FoundNode → List FoundTerm → FoundNode
with_terms f [] = f
with_terms f (t ∷ ts) = with_terms (with_term f t) ts

abbrev pub nothing_found : FoundNode
nothing_found = record { terms = []; calls = [] }

-- the found call for which the code keeps `c`
abbrev pub call_in : CallClock → FoundCall
call_in c = record { runs = c.runs; given = c.given.items }

abbrev pub found_in : NodeClocks → FoundNode
found_in f = record { terms = f.terms.items; calls = map call_in f.calls.items }

-- ## Variables that stand for clock parameters

abbrev pub waits_at : ℕ → Option Sampling → Bool
waits_at i c = holds (λ s. nat_eq s.variable.0 i) c

-- whether an input or output waits for the variable at place `i`
abbrev pub is_awaited : ResolvedNode → ℕ → Bool
is_awaited n i =
    list_any (λ v. waits_at i v.clock) (take (n.inputs + n.outputs) n.variables.items)

-- each flag says whether an input or output of the node waits for the variable at its place
abbrev pub AreAwaited : ResolvedNode → List Bool → Type 0
AreAwaited n flags = (i : ℕ) → i < length flags → get_or flags i false ≡ is_awaited n i

abbrev pub pair_at : ℕ → VariableId → GivenVariable
pair_at i y = record { callee = record { 0 = i }; caller = y }

-- the clock parameter at place `i` with the variable that stands for it; none for other parameters
abbrev pub given_variable : ResolvedNode → (ℕ → Option VariableId) → ℕ → Option GivenVariable
given_variable n given i = if is_awaited n i then option_map (pair_at i) (given i) else None

-- the results of `given_variable` at `count` places from `first` on
abbrev pub given_from : ResolvedNode → (ℕ → Option VariableId) → (first count : ℕ) →
    List GivenVariable
given_from n given i zero = []
given_from n given i (suc m) =
    listed (λ g. g ∷ []) (given_variable n given i) ++ given_from n given (suc i) m

abbrev pub given_variables : ResolvedNode → List Operand → List VariableId → List GivenVariable
given_variables n os lefts =
    given_from n (stands_for n.inputs os lefts) 0
    (length (take (n.inputs + n.outputs) n.variables.items))

-- ## Clocks

-- the clock that a clock set determines, or the base clock where it determines none
abbrev pub determined_clock : ClockSet → Clock
determined_clock (OneClock k) = k
determined_clock s = Base

-- the clock of the operand of a term on clock `k`, if it has one operand and is not `current`
abbrev pub operand_clock : Context → Clock → Term → Clock
operand_clock ctx k (When' p e x sign) = ctx.variable x
operand_clock ctx k t = k

-- the clock of the operand of `current`, which is the first of the list
abbrev pub current_clock : List Operand → Clock
current_clock [] = Base
current_clock (o ∷ os) = determined_clock o.clock_set

-- the clocks of the arguments of a callee that runs on clock `base`, where the variables `given` of
-- the caller stand for those of the callee
abbrev pub argument_clocks : Clock → (ℕ → Option VariableId) → ResolvedNode → List Clock
argument_clocks base given n =
    map (λ v. either_or (expected (Some base) given v.clock) base)
    (take n.inputs n.variables.items)

-- the clock on which the callee of a call runs that stands on clock `k`
abbrev pub call_base : Clock → ResolvedNode → List Operand → Clock
call_base k n os = either_or (base_of (input_clocks n) (clock_sets os)) k

-- the clocks of the arguments of a call that stands on clock `k`
abbrev pub call_clocks : Context → Clock → CallId → List Operand → List Clock
call_clocks ctx k c os =
    listed (λ n. argument_clocks (call_base k n os) (given_at os) n) (ctx.callee c)

abbrev pub nested_call : Clock → List Operand → Option ResolvedNode → FoundCall
nested_call k os None = record { runs = k; given = [] }
nested_call k os (Some n) = record { runs = call_base k n os; given = given_variables n os [] }

-- the clock on which the callee of a call runs that is a whole right side
abbrev pub side_base : Context → ResolvedNode → List Operand → List VariableId → Clock
side_base ctx n os lefts = either_or (result_base ctx n os lefts) Base

abbrev pub side_clocks :
    Context → List VariableId → List Operand → Option ResolvedNode → List Clock
side_clocks ctx lefts os callee =
    listed (λ n. argument_clocks (side_base ctx n os lefts) (stands_for n.inputs os lefts) n)
    callee

abbrev pub side_call :
    Context → List VariableId → List Operand → Option ResolvedNode → FoundCall
side_call ctx lefts os None = record { runs = left_clock ctx lefts; given = [] }
side_call ctx lefts os (Some n) =
    record { runs = side_base ctx n os lefts; given = given_variables n os lefts }

-- the found call of an iterated node, which runs on the clock of its term
abbrev pub iterated_call : Clock → FoundCall
iterated_call k = record { runs = k; given = [] }

-- the found term of a term on clock `k` whose operands are a row on clock `k`
abbrev pub row_term : Clock → Term → FoundTerm
row_term k (IterateNode' it c arity all) = called k (iterated_call k)
row_term k t = part k

-- placing terms takes their operands `own` from `known`, and adds what is found of the terms
abbrev pub IsPlaced :
    List Operand → List FoundTerm → (before after : FoundNode) → (known left : List Operand) →
    Type 0
IsPlaced own found before after known left =
    (others : List Operand) → known ≡ own ++ others →
    (left ≡ others) × (after ≡ with_terms before found)

-- ## Terms

unfoldable mutual
  -- the found terms of a term on clock `k` and of its parts, in text order, parentheses apart
  pub placed_terms : Context → Clock → Term → List FoundTerm
  placed_terms ctx k (Literal n) = part k ∷ []
  placed_terms ctx k (Truth b) = part k ∷ []
  placed_terms ctx k (Variable x) = part k ∷ []
  placed_terms ctx k (Value i) = part k ∷ []
  placed_terms ctx k (Group' p e) = placed_terms ctx k e
  placed_terms ctx k (Unary' op p a) = part k ∷ placed_terms ctx k a
  placed_terms ctx k (Binary' op p a q b) = part k ∷ (placed_terms ctx k a ++ placed_terms ctx k b)
  placed_terms ctx k (If' p c q a r b) =
      part k ∷ (placed_terms ctx k c ++ (placed_terms ctx k a ++ placed_terms ctx k b))
  placed_terms ctx k (Arrow' p a q b) = part k ∷ (placed_terms ctx k a ++ placed_terms ctx k b)
  placed_terms ctx k (Fby' p a q b) = part k ∷ (placed_terms ctx k a ++ placed_terms ctx k b)
  placed_terms ctx k (Pre' p e) = part k ∷ placed_terms ctx k e
  placed_terms ctx k (Current' p e) =
      part k ∷ placed_terms ctx (determined_clock (infer_clock ctx e)) e
  placed_terms ctx k (When' p e x sign) = part k ∷ placed_terms ctx (ctx.variable x) e
  placed_terms ctx k (Replicate' p e n) = part k ∷ placed_terms ctx k e
  placed_terms ctx k (Index' p e i) = part k ∷ placed_terms ctx k e
  placed_terms ctx k (Slice' p e i j) = part k ∷ placed_terms ctx k e
  placed_terms ctx k (Join' p a q b) = part k ∷ (placed_terms ctx k a ++ placed_terms ctx k b)
  placed_terms ctx k (Array' arity all) = part k ∷ placed_row ctx k all
  placed_terms ctx k (AtMostOne' arity all) = part k ∷ placed_row ctx k all
  placed_terms ctx k (Nor' arity all) = part k ∷ placed_row ctx k all
  placed_terms ctx k (Call' c arity all) =
      called k (nested_call k (operands_in ctx all) (ctx.callee c))
      ∷ placed_arguments ctx (call_clocks ctx k c (operands_in ctx all)) all
  placed_terms ctx k (IterateNode' it c arity all) =
      called k (iterated_call k) ∷ placed_row ctx k all
  placed_terms ctx k (IterateSymbol' it op n arity all) = part k ∷ placed_row ctx k all

  -- the found terms of a row of terms on one clock
  pub placed_row : {m : _} → Context → Clock → Row_of-Term m → List FoundTerm
  placed_row ctx k end_of-Term = []
  placed_row ctx k (more_of-Term e rest) = placed_terms ctx k e ++ placed_row ctx k rest

  -- the found terms of a row of terms, each on a clock of its own
  pub placed_arguments : {m : _} → Context → List Clock → Row_of-Term m → List FoundTerm
  placed_arguments ctx ks end_of-Term = []
  placed_arguments ctx [] (more_of-Term e rest) = []
  placed_arguments ctx (k ∷ ks) (more_of-Term e rest) =
      placed_terms ctx k e ++ placed_arguments ctx ks rest

-- the found terms of a list of terms on one clock
abbrev pub placed_all : Context → Clock → List Term → List FoundTerm
placed_all ctx k es = flat_map (placed_terms ctx k) es

-- the found terms of a list of terms, each on a clock of its own
abbrev pub placed_each : Context → List Clock → List Term → List FoundTerm
placed_each ctx ks [] = []
placed_each ctx [] (e ∷ es) = []
placed_each ctx (k ∷ ks) (e ∷ es) = placed_terms ctx k e ++ placed_each ctx ks es

-- ## Statements

-- the found terms of a call that is a whole right side
abbrev pub placed_call :
    Context → List VariableId → List Operand → List Term → Option ResolvedNode → List FoundTerm
placed_call ctx lefts os es callee =
    called (left_clock ctx lefts) (side_call ctx lefts os callee)
    ∷ placed_each ctx (side_clocks ctx lefts os callee) es

-- the found terms of the right side of an equation
unfoldable pub placed_side : Context → List VariableId → Term → List FoundTerm
placed_side ctx lefts (Group' p e) = placed_side ctx lefts e
placed_side ctx lefts (Call' c arity all) =
    called (left_clock ctx lefts) (side_call ctx lefts (operands_in ctx all) (ctx.callee c))
    ∷ placed_arguments ctx (side_clocks ctx lefts (operands_in ctx all) (ctx.callee c)) all
placed_side ctx lefts e = placed_terms ctx (left_clock ctx lefts) e

abbrev pub placed_statement : Context → ResolvedStatement → List FoundTerm
placed_statement ctx (statement.Equation lefts e) = placed_side ctx lefts.items e
placed_statement ctx (statement.Assertion e) =
    placed_terms ctx (determined_clock (infer_clock ctx e)) e

-- the found terms of a node
abbrev pub node_terms : Reached → ResolvedNode → List FoundTerm
node_terms r n = flat_map (placed_statement (context_of r n)) n.body.items
