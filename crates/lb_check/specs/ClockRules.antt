-- The rules of clocks, as a test (E10). They are judged in the text of a node, by its own base
-- clock and its own variables.
-- Source: Lustre V6 reference manual, clocks. The clock on which a call runs, and that of what
-- nothing determines, are this project's rule.
use Rattle.std.specs.Prelude.{Bool, true, false, ◌&&◌, ◌||◌, not, nat_eq, Option, Some, is_some}
use Rattle.std.specs.Prelude.{List, [], ◌∷◌, ◌++◌, map, length}
use Rattle.std.specs.List.{list_all}
use Rattle.std.specs.Str.{bytes_eq}
use Rattle.lb_syntax.specs.Lists.{holds, listed}
use Rattle.lb_syntax.specs.Tree.{Name, Node_named, Expr, Variable, Current, When, Call, Iterate}
use Rattle.lb_syntax.specs.Tree.{Exprs, Declaration, Sampling, Node, Statement, Equation, Assertion}
use Rattle.lb_static.specs.StaticValues.{named}
use Rattle.lb_static.specs.Instances.{Program, node_named}
use Rattle.lb_static.specs.Parts.{among, variable_names}
use Rattle.lb_check.specs.Scalars.{same}
use Rattle.lb_check.specs.Clocks.{Clock, Base, On, Given, variable_clock, declared_clock, clock_of}
use Rattle.lb_check.specs.Clocks.{given_inputs, result_clocks, ungrouped}
use Rattle.lb_check.specs.Occurrences.{Occurrence, node_occurrences, statements}

-- ## Equal clocks

abbrev pub is_clock : Clock → Clock → Bool
is_clock Base Base = true
is_clock (On k x sign) (On l y other) = bytes_eq x y && (same sign other && is_clock k l)
is_clock k l = false

abbrev pub are_clocks : List Clock → List Clock → Bool
are_clocks [] [] = true
are_clocks (k ∷ ks) (l ∷ ls) = is_clock k l && are_clocks ks ls
are_clocks ks ls = false

-- ## Declarations

-- whether a declaration has no clock, or one that passes `test`
abbrev pub if_clocked : (Sampling → Bool) → Declaration → Bool
if_clocked test d = list_all test (listed (λ s. s ∷ []) d.clock)

-- whether the variable of a declared clock is among `allowed`
abbrev pub is_clocked_by : List Declaration → Declaration → Bool
is_clocked_by allowed d = if_clocked (λ s. among s.variable (map (λ v. v.name) allowed)) d

-- whether the clock variable of each input is an input, that of each output is an input or an
-- output, and no declared clocks run in a circle
abbrev pub are_declared_clocks : Node → Bool
are_declared_clocks here =
    list_all (is_clocked_by here.inputs) here.inputs
    && (list_all (is_clocked_by (here.inputs ++ here.outputs)) here.outputs
    && list_all (λ x. is_some (variable_clock here x)) (variable_names here))

-- ## Calls

-- whether a variable of the caller is given for the clock variable of a parameter, where that is an
-- input of the callee
abbrev pub is_given_variable : Node → Node → Given → Declaration → Bool
is_given_variable here callee given d =
    if_clocked (λ s.
    not (among s.variable (map (λ i. i.name) callee.inputs))
    || holds (λ g. among g.1 (variable_names here)) (named (λ g. g.0) s.variable given))
    d

abbrev pub are_given_variables : Node → Node → Exprs → Bool
are_given_variables here callee es =
    list_all (is_given_variable here callee (given_inputs callee.inputs es))
    (callee.inputs ++ callee.outputs)

-- whether a call on clock `k` is given variables for clocks, and, if it has one result, has it on
-- `k`
abbrev pub is_call_clocked : Node → Clock → Exprs → Node → Bool
is_call_clocked here k es callee =
    are_given_variables here callee es
    && (not (nat_eq (length callee.outputs) 1)
    || are_clocks (result_clocks k callee es []) (k ∷ []))

-- whether a node has no clocked parameters, as an iterated node must
abbrev pub is_base_clocked_node : Node → Bool
is_base_clocked_node callee =
    list_all (λ d. not (is_some d.clock)) (callee.inputs ++ callee.outputs)

-- whether the node with name `f`, if there is one, passes `test`
abbrev pub if_node : Program → (Node → Bool) → Name → Bool
if_node P test f = list_all test (listed (λ n. n ∷ []) (node_named P f))

-- ## Expressions

-- whether a clock stands one step below `k`
abbrev pub is_just_below : Clock → Option Clock → Bool
is_just_below k (Some (On l x sign)) = is_clock k l
is_just_below k o = false

-- whether an expression may stand on clock `k`. Its parts stand on the clocks that `occurrences`
-- gives them. `current` is refused where nothing determines the clock of its operand.
abbrev pub is_on_clock : Program → Node → Clock → Expr → Bool
is_on_clock P here k (Variable x) =
    not (among x (variable_names here)) || is_clock k (declared_clock here x)
is_on_clock P here k (When a x sign) = is_clock k (On (declared_clock here x) x sign)
is_on_clock P here k (Current a) = is_just_below k (clock_of P here a)
is_on_clock P here k (Call f statics es) = if_node P (is_call_clocked here k es) f
is_on_clock P here k (Iterate it (Node_named f statics) m es) = if_node P is_base_clocked_node f
is_on_clock P here k e = true

abbrev pub is_occurrence_clocked : Program → Node → Occurrence → Bool
is_occurrence_clocked P here o = is_on_clock P here o.clock o.expr

-- ## Equations

abbrev pub left_clocks : Node → List Name → List Clock
left_clocks here xs = map (declared_clock here) xs

-- whether the left variables are on the clocks of the results of a right side on clock `k`
abbrev pub are_on_results : Program → Node → Clock → List Name → Expr → Bool
are_on_results P here k lefts (Call f statics es) =
    if_node P (λ n. are_clocks (left_clocks here lefts) (result_clocks k n es lefts)) f
are_on_results P here k lefts e = list_all (is_clock k) (left_clocks here lefts)

abbrev pub is_statement_clocked : Program → Node → Statement → Occurrence → Bool
is_statement_clocked P here (Equation lefts e) o =
    are_on_results P here o.clock lefts (ungrouped e)
is_statement_clocked P here (Assertion e) o = true

abbrev pub is_clocked : Program → Node → Bool
is_clocked P here =
    are_declared_clocks here
    && (list_all (is_occurrence_clocked P here) (node_occurrences P here)
    && list_all (λ s. is_statement_clocked P here s.0 s.1) (statements P here))
