-- The clocks of an instance, as it sees them itself.
-- Source: Lustre V6 reference manual, clocks. The clock on which a call runs is this project's
-- rule.
use Rattle.std.specs.Prelude.{ℕ, zero, suc, Bool, Option, Some, None, option_map, List, [], ◌∷◌}
use Rattle.std.specs.Prelude.{◌++◌, map, length}
use Rattle.lb_syntax.specs.Lists.{◌>>=◌, or_else, either_or, listed}
use Rattle.lb_syntax.specs.Tree.{Name, Expr, Literal, Truth, Variable, Group, Unary, Binary, If}
use Rattle.lb_syntax.specs.Tree.{Arrow, Fby, Pre, Current, When, Replicate, Index, Slice, Join}
use Rattle.lb_syntax.specs.Tree.{Array, AtMostOne, Nor, Call, Iterate, Exprs, Nil, Cons}
use Rattle.lb_syntax.specs.Tree.{Declaration, Sampling, Node}
use Rattle.lb_static.specs.StaticValues.{named}
use Rattle.lb_static.specs.Instances.{Program, node_named}
use Rattle.lb_static.specs.DataTypes.{variables}

-- a clock: the base clock, or the instants of a clock at which a variable has a sign
pub data Clock : Type 0 where
  Base : Clock
  On : Clock → Name → Bool → Clock

-- ## Declared clocks

-- the clock for a declared sampling, where `clock_of` gives the clock of its variable
abbrev pub sampled :
    (Declaration → Option Clock) → List Declaration → Option Sampling → Option Clock
sampled clock_of vars None = Some Base
sampled clock_of vars (Some s) =
    named (λ v. v.name) s.variable vars >>= λ v.
    clock_of v >>= λ k. Some (On k s.variable s.sign)

-- the declared clock of a variable where its depth is less than `n`, else none
abbrev pub clock_within : ℕ → List Declaration → Declaration → Option Clock
clock_within zero vars d = None
clock_within (suc n) vars d = sampled (clock_within n vars) vars d.clock

-- the declared clock of variable `x`, or none where declared clocks run in a circle
abbrev pub variable_clock : Node → Name → Option Clock
variable_clock n x =
    let vars = variables n in
    named (λ d. d.name) x vars >>= clock_within (suc (length vars)) vars

-- this clock, or the base clock where there is none
abbrev pub clock_or : Option Clock → Clock
clock_or o = either_or o Base

abbrev pub declared_clock : Node → Name → Clock
declared_clock n x = clock_or (variable_clock n x)

-- ## The depth of a clock

abbrev pub parent : Clock → Option Clock
parent Base = None
parent (On k x sign) = Some k

-- the depth of a clock: 0 for the base clock
abbrev pub depth : Clock → ℕ
depth Base = 0
depth (On k x sign) = suc (depth k)

-- the clock that is `n` steps further up, or the base clock where there are fewer
abbrev pub above : ℕ → Clock → Clock
above zero k = k
above (suc n) Base = Base
above (suc n) (On k x sign) = above n k

-- the depth of the clock of a callee's variable, in the callee
abbrev pub own_depth : Node → Declaration → ℕ
own_depth n d = depth (declared_clock n d.name)

-- ## The clocks of a callee, as its caller sees them

-- pairs of a variable of the callee and the variable of the caller that stands for it
abbrev pub Given : Type 0
Given = List (Name × Name)

abbrev pub given_name : Given → Name → Name
given_name given x = either_or (option_map (λ g. g.1) (named (λ g. g.0) x given)) x

-- a clock of the callee, as the caller sees it, where the callee runs on clock k
abbrev pub outer : Clock → Given → Clock → Clock
outer k given Base = k
outer k given (On b x sign) = On (outer k given b) (given_name given x) sign

-- an expression without the parentheses around it
abbrev pub ungrouped : Expr → Expr
ungrouped (Group e) = ungrouped e
ungrouped e = e

-- the name of an expression that is a variable, in parentheses or not
abbrev pub as_variable : Expr → Option Name
as_variable (Variable x) = Some x
as_variable (Group e) = as_variable e
as_variable e = None

-- the inputs for which a variable is given, each with that variable
abbrev pub given_inputs : List Declaration → Exprs → Given
given_inputs [] es = []
given_inputs (d ∷ ds) Nil = []
given_inputs (d ∷ ds) (Cons e es) =
    listed (λ y. (d.name, y) ∷ []) (as_variable e) ++ given_inputs ds es

-- the outputs, each with its left variable
abbrev pub given_outputs : List Declaration → List Name → Given
given_outputs [] xs = []
given_outputs (d ∷ ds) [] = []
given_outputs (d ∷ ds) (x ∷ xs) = (d.name, x) ∷ given_outputs ds xs

-- the base clock of a callee, where its first result is on clock k
abbrev pub base_from : Clock → Node → List Declaration → Clock
base_from k n [] = k
base_from k n (d ∷ ds) = above (own_depth n d) k

abbrev pub base_clock : Clock → Node → Clock
base_clock k n = base_from k n n.outputs

-- the base clock of a callee, from the first argument whose clock something determines
abbrev pub base_from_arguments : Node → List Declaration → List (Option Clock) → Option Clock
base_from_arguments n [] ks = None
base_from_arguments n (d ∷ ds) [] = None
base_from_arguments n (d ∷ ds) (Some k ∷ ks) = Some (above (own_depth n d) k)
base_from_arguments n (d ∷ ds) (None ∷ ks) = base_from_arguments n ds ks

-- the clock of the first result of a callee that runs on clock k
abbrev pub first_result_clock : Clock → Node → Given → List Declaration → Clock
first_result_clock k n given [] = k
first_result_clock k n given (d ∷ ds) = outer k given (declared_clock n d.name)

-- the clock of a call, from the clocks that its arguments determine
abbrev pub called_clock : Exprs → List (Option Clock) → Node → Option Clock
called_clock es ks n =
    let given = given_inputs n.inputs es in
    option_map (λ k. first_result_clock k n given n.outputs) (base_from_arguments n n.inputs ks)

-- the clocks of the arguments of a call on clock k
abbrev pub argument_clocks : Clock → Node → Exprs → List Clock
argument_clocks k n es =
    let given = given_inputs n.inputs es in
    map (λ d. outer (base_clock k n) given (declared_clock n d.name)) n.inputs

-- the clocks of the results of a call on clock k, with these left variables
abbrev pub result_clocks : Clock → Node → Exprs → List Name → List Clock
result_clocks k n es lefts =
    let given = given_inputs n.inputs es ++ given_outputs n.outputs lefts in
    map (λ d. outer (base_clock k n) given (declared_clock n d.name)) n.outputs

-- ## The clock of an expression

abbrev mutual
  -- the clock that something inside an expression determines, if anything does; literals and
  -- constants determine none
  pub clock_of : Program → Node → Expr → Option Clock
  clock_of P n (Literal m) = None
  clock_of P n (Truth b) = None
  clock_of P n (Variable x) = variable_clock n x
  clock_of P n (Group a) = clock_of P n a
  clock_of P n (Unary op a) = clock_of P n a
  clock_of P n (Binary op a b) = or_else (clock_of P n a) (clock_of P n b)
  clock_of P n (If c a b) =
      or_else (clock_of P n c) (or_else (clock_of P n a) (clock_of P n b))
  clock_of P n (Arrow a b) = or_else (clock_of P n a) (clock_of P n b)
  clock_of P n (Fby a b) = or_else (clock_of P n a) (clock_of P n b)
  clock_of P n (Pre a) = clock_of P n a
  clock_of P n (Current a) = clock_of P n a >>= parent
  clock_of P n (When a x sign) = option_map (λ k. On k x sign) (variable_clock n x)
  clock_of P n (Replicate a m) = clock_of P n a
  clock_of P n (Index a i) = clock_of P n a
  clock_of P n (Slice a i j) = clock_of P n a
  clock_of P n (Join a b) = or_else (clock_of P n a) (clock_of P n b)
  clock_of P n (Array es) = first_clock P n es
  clock_of P n (AtMostOne es) = first_clock P n es
  clock_of P n (Nor es) = first_clock P n es
  clock_of P n (Call f statics es) = node_named P f >>= called_clock es (each_clock P n es)
  clock_of P n (Iterate it op m es) = first_clock P n es

  pub first_clock : Program → Node → Exprs → Option Clock
  first_clock P n Nil = None
  first_clock P n (Cons e es) = or_else (clock_of P n e) (first_clock P n es)

  -- the clock that each expression of a row determines
  pub each_clock : Program → Node → Exprs → List (Option Clock)
  each_clock P n Nil = []
  each_clock P n (Cons e es) = clock_of P n e ∷ each_clock P n es
