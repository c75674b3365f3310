-- The scalar elements of variables that an element needs at the same instant.
-- Source: this project's rule, on scalar elements after expansion; the Lustre V6 reference manual
-- has it on variables.
use Rattle.std.specs.Prelude.{◌≡◌, ℕ, suc, ◌+◌, ◌-◌, ◌*◌, Bool, true, false, ◌&&◌, Option, Some}
use Rattle.std.specs.Prelude.{None, List, [], ◌∷◌, ◌++◌, map, take, drop, flat_map, filter, find}
use Rattle.std.specs.Prelude.{nat_eq}
use Rattle.std.specs.Str.{bytes_eq}
use Rattle.std.specs.List.{range_with_len, list_any}
use Rattle.lb_syntax.specs.declared.tree.ArrayIterator.{ArrayIterator}
use Rattle.lb_syntax.specs.declared.tree.ArrayIterator.TheVariants.{Map, Red}
use Rattle.lb_syntax.specs.Lists.{◌>>=◌, In, zip2, copies, heads, joined, holds, either_or, listed}
use Rattle.lb_syntax.specs.Tree.{Name, Node_named, Symbol, Expr, Literal, Truth, Variable, Group}
use Rattle.lb_syntax.specs.Tree.{Unary, Binary, If, Arrow, Fby, Pre, Current, When, Replicate}
use Rattle.lb_syntax.specs.Tree.{Index, Slice, Join, Array, AtMostOne, Nor, Call, Iterate, Exprs}
use Rattle.lb_syntax.specs.Tree.{Nil, Cons, Declaration, Node, Static, Statement, Equation}
use Rattle.lb_syntax.specs.Tree.{Assertion}
use Rattle.lb_static.specs.StaticValues.{named}
use Rattle.lb_static.specs.Instances.{Program, Instance, Path, Root, Observer, Child, node_named}
use Rattle.lb_static.specs.Instances.{call_site, callee_of, instance_at, instances}
use Rattle.lb_static.specs.DataTypes.{variables, width}
use Rattle.lb_static.specs.Parts.{left_names}
use Rattle.lb_check.specs.Clocks.{Clock, Base, On, Given, clock_of, clock_or, declared_clock}
use Rattle.lb_check.specs.Clocks.{base_clock, given_inputs, given_outputs, ungrouped}
use Rattle.lb_check.specs.Occurrences.{Occurrence, call_count, node_occurrences, statements}
use Rattle.lb_check.specs.Streams.{number, part_count, outputs_of, iterated}
use Rattle.lb_check.specs.Solutions.{iterator_inputs}

-- ## Elements

-- one scalar element of a variable of an instance
pub record Element : Type 0 where
  pub path : Path
  pub variable : Name
  pub index : ℕ

-- the elements of a variable
abbrev pub elements : Program → Instance → Declaration → List Element
elements P here d =
    map (λ i. record { path = here.path; variable = d.name; index = i })
    (range_with_len 0 (width P here d))

abbrev pub elements_named : Program → Instance → Name → List Element
elements_named P here x = listed (elements P here) (named (λ d. d.name) x (variables here.node))

-- ## Clocks as the whole program sees them

-- a clock: the base clock of the program, or the instants of a clock at which a variable, with its
-- path, has a sign
pub data WholeClock : Type 0 where
  Always : WholeClock
  Where : WholeClock → Path → Name → Bool → WholeClock

-- whether `x` is the clock variable of an input or output of node `n`
abbrev pub is_clock_parameter : Node → Name → Bool
is_clock_parameter n x =
    list_any (λ d. holds (λ s. bytes_eq s.variable x) d.clock) (n.inputs ++ n.outputs)

-- whether an expression is a call or an iterated node
abbrev pub is_site : Expr → Bool
is_site (Call f statics es) = true
is_site (Iterate it (Node_named f statics) m es) = true
is_site e = false

-- the call with number `call` in the text of a node
abbrev pub call_at : Program → Node → ℕ → Option Occurrence
call_at P n call = find (λ o. nat_eq o.calls_before call && is_site o.expr) (node_occurrences P n)

-- whether the whole right side of a statement is the call with number `call`
abbrev pub is_right_side : ℕ → Occurrence → Bool
is_right_side call o = nat_eq o.calls_before call && is_site (ungrouped o.expr)

-- the left variables of the equation whose whole right side is the call with number `call`
abbrev pub lefts_at : Program → Node → ℕ → List Name
lefts_at P n call =
    listed (λ s. left_names s.0) (find (λ s. is_right_side call s.1) (statements P n))

-- the clock parameters of a callee for which the caller gives a variable, each with that variable
abbrev pub given_parameters : Node → Exprs → List Name → Given
given_parameters callee es lefts =
    filter (λ g. is_clock_parameter callee g.0)
    (given_inputs callee.inputs es ++ given_outputs callee.outputs lefts)

-- the clock parameters of the callee of a call, each with the variable that stands for it
abbrev pub given_to : Program → Node → ℕ → Expr → Given
given_to P n call (Call f statics es) =
    listed (λ callee. given_parameters callee es (lefts_at P n call)) (node_named P f)
given_to P n call e = []

abbrev pub given_at : Program → Option Instance → ℕ → Given
given_at P caller call =
    listed (λ here. listed (λ o. given_to P here.node call o.expr) (call_at P here.node call))
    caller

-- the variable, with its path, that stands for variable `x` in a clock: that of the caller where
-- the caller gives one, else `x` itself
abbrev pub serves : Path → Name → Option (Name × Name) → (Name → Path × Name) → Path × Name
serves p x (Some g) further = further g.1
serves p x None further = (p, x)

abbrev pub serving : Program → Path → Name → Path × Name
serving P Root x = (Root, x)
serving P Observer x = (Observer, x)
serving P (Child p call index) x =
    let given = named (λ g. g.0) x (given_at P (instance_at P p) call) in
    serves (Child p call index) x given (serving P p)

-- a clock of the instance at path `p`, which runs on clock `runs`, as the whole program sees it
abbrev pub whole_clock : Program → Path → WholeClock → Clock → WholeClock
whole_clock P p runs Base = runs
whole_clock P p runs (On k x sign) =
    Where (whole_clock P p runs k) (serving P p x).0 (serving P p x).1 sign

-- the clock on which the instances of a call on clock k run, as its caller sees it
abbrev pub site_clock : Program → Clock → Expr → Clock
site_clock P k (Call f statics es) =
    either_or (node_named P f >>= λ callee. Some (base_clock k callee)) k
site_clock P k e = k

-- the clock on which an instance runs
abbrev pub runs_on : Program → Path → WholeClock
runs_on P Root = Always
runs_on P Observer = Always
runs_on P (Child p call index) =
    either_or
    (instance_at P p >>= λ here. call_at P here.node call >>= λ o.
    Some (whole_clock P p (runs_on P p) (site_clock P o.clock o.expr)))
    Always

-- the elements that a clock waits for
abbrev pub clock_elements : WholeClock → List Element
clock_elements Always = []
clock_elements (Where k p x sign) =
    record { path = p; variable = x; index = 0 } ∷ clock_elements k

-- the elements that a clock of an instance waits for
abbrev pub waits_for : Program → Instance → Clock → List Element
waits_for P here k = clock_elements (whole_clock P here.path (runs_on P here.path) k)

-- ## The elements that give a value

-- the elements of output `x` of the instance that a call has at an index
abbrev pub output_elements :
    Program → Instance → Name → List Static → (call index : ℕ) → Name → List Element
output_elements P here f statics call index x =
    listed (λ callee. elements_named P callee x)
    (callee_of P here (call_site f statics) call index)

-- the needs of an iterated symbol: `map` element by element of two arrays, `red` all for one result
abbrev pub symbol_needs : ArrayIterator → List (List (List Element)) → List (List Element)
symbol_needs Map (xs ∷ (ys ∷ [])) = zip2 (λ a b. a ++ b) xs ys
symbol_needs Red (xs ∷ (ys ∷ [])) = (joined xs ++ joined ys) ∷ []
symbol_needs it xss = []

-- the needs of elements that each need themselves
abbrev pub itself : List Element → List (List Element)
itself xs = map (λ x. x ∷ []) xs

abbrev pub both : List (List Element) → List (List Element) → List (List Element)
both xss yss = zip2 (λ xs ys. xs ++ ys) xss yss

unfoldable mutual
  -- for each scalar element of an expression after `n` calls, the elements that give its value at
  -- the same instant. Both branches of `if` and both sides of `->` count, and the operand of `pre`
  -- does not. `when` and `current` add the variables of the clock that is passed.
  pub needs : Program → Instance → ℕ → Expr → List (List Element)
  needs P here n (Literal m) = [] ∷ []
  needs P here n (Truth b) = [] ∷ []
  needs P here n (Variable x) =
      either_or
      (named (λ d. d.name) x (variables here.node) >>= λ d. Some (itself (elements P here d)))
      ([] ∷ [])
  needs P here n (Group a) = needs P here n a
  needs P here n (Unary op a) = needs P here n a
  needs P here n (Binary op a b) = both (needs P here n a) (needs P here (n + call_count a) b)
  needs P here n (If c a b) =
      map (λ xs. heads (needs P here n c) ++ xs)
      (both (needs P here (n + call_count c) a)
      (needs P here (n + call_count c + call_count a) b))
  needs P here n (Arrow a b) = both (needs P here n a) (needs P here (n + call_count a) b)
  needs P here n (Fby a b) = needs P here n a
  needs P here n (Pre a) = map (λ xs. []) (needs P here n a)
  needs P here n (When a x sign) =
      let passed = waits_for P here (On (declared_clock here.node x) x sign) in
      map (λ xs. passed ++ xs) (needs P here n a)
  needs P here n (Current a) =
      let passed = waits_for P here (clock_or (clock_of P here.node a)) in
      map (λ xs. passed ++ xs) (needs P here n a)
  needs P here n (Replicate a m) = copies (number P here m) (needs P here n a)
  needs P here n (Index a i) =
      take (part_count P here a) (drop (part_count P here a * number P here i) (needs P here n a))
  needs P here n (Slice a i j) =
      take (part_count P here a * (suc (number P here j) - number P here i))
      (drop (part_count P here a * number P here i) (needs P here n a))
  needs P here n (Join a b) = needs P here n a ++ needs P here (n + call_count a) b
  needs P here n (Array es) = joined (all_needs P here n es)
  needs P here n (AtMostOne es) = joined (joined (all_needs P here n es)) ∷ []
  needs P here n (Nor es) = joined (joined (all_needs P here n es)) ∷ []
  needs P here n (Call f statics es) =
      itself (flat_map (λ o. output_elements P here f statics n 0 o.name) (outputs_of P here f))
  needs P here n (Iterate it (Node_named f statics) m es) =
      itself
      (iterated (output_elements P here f statics n) (number P here m) it (outputs_of P here f))
  needs P here n (Iterate it (Symbol op) m es) = symbol_needs it (all_needs P here n es)

  pub all_needs : Program → Instance → ℕ → Exprs → List (List (List Element))
  all_needs P here n Nil = []
  all_needs P here n (Cons e es) =
      needs P here n e ∷ all_needs P here (n + call_count e) es

-- ## The definitions of elements

-- an element, and the elements that its defining expression or its clock needs
pub record Definition : Type 0 where
  pub element : Element
  pub needed : List Element

abbrev pub defined_as : List Element → List (List Element) → List Definition
defined_as xs yss = zip2 (λ x ys. record { element = x; needed = ys }) xs yss

-- the definitions of the inputs of a callee: they need the elements of its arguments
abbrev pub input_definitions :
    Program → Option Instance → List (List (List Element)) → List Definition
input_definitions P callee args =
    listed (λ n. defined_as (flat_map (elements P n) n.node.inputs) (joined args)) callee

abbrev pub call_definitions : Program → Instance → ℕ → Expr → List Definition
call_definitions P here n (Call f statics es) =
    let callee = callee_of P here (call_site f statics) n 0 in
    input_definitions P callee (all_needs P here (n + 1) es)
call_definitions P here n (Iterate it (Node_named f statics) m es) =
    let outs : ℕ → Name → List (List Element) =
    λ i x. itself (output_elements P here f statics n i x) in
    let args = all_needs P here (n + 1) es in
    flat_map (λ i.
    input_definitions P (callee_of P here (call_site f statics) n i)
    (iterator_inputs outs (number P here m) it (outputs_of P here f) args i))
    (range_with_len 0 (number P here m))
call_definitions P here n e = []

abbrev pub equation_definitions :
    Program → Instance → Statement → Occurrence → List Definition
equation_definitions P here (Equation lefts e) o =
    defined_as (flat_map (elements_named P here) lefts) (needs P here o.calls_before e)
equation_definitions P here (Assertion e) o = []

-- the definitions by a clock: each element of a variable needs the elements of its clock
abbrev pub clock_definitions : Program → Instance → Declaration → List Definition
clock_definitions P here d =
    let needed = waits_for P here (declared_clock here.node d.name) in
    map (λ x. record { element = x; needed = needed }) (elements P here d)

-- the definitions of the elements of an instance, and of the inputs of its callees
abbrev pub definitions_at : Program → Instance → List Definition
definitions_at P here =
    flat_map (λ s. equation_definitions P here s.0 s.1) (statements P here.node)
    ++ (flat_map (λ o. call_definitions P here o.calls_before o.expr)
    (node_occurrences P here.node)
    ++ flat_map (clock_definitions P here) (variables here.node))

-- the definitions of the observer's inputs: the inputs and outputs of the node under test
abbrev pub observer_definitions :
    Program → Option Instance → Option Instance → List Definition
observer_definitions P (Some root) (Some observer) =
    defined_as (flat_map (elements P observer) observer.node.inputs)
    (itself (flat_map (elements P root) (root.node.inputs ++ root.node.outputs)))
observer_definitions P root observer = []

abbrev pub definitions : Program → List Definition
definitions P =
    flat_map (definitions_at P) (instances P)
    ++ observer_definitions P (instance_at P Root) (instance_at P Observer)

-- ## Causality

-- element `x` needs element `y` at the same instant
pub record Needs (P : Program) (x y : Element) : Type 0 where
  pub by : Definition
  pub stands : In by (definitions P)
  pub is_of : by.element ≡ x
  pub names : In y by.needed

-- a chain of needs, of one step or more
pub data Reaches (P : Program) (y : Element) : Element → Type 0 where
  at_once : (x : Element) → Needs P x y → Reaches P y x
  through : (x z : Element) → Needs P x z → Reaches P y z → Reaches P y x

-- no element reaches itself
abbrev pub IsCausal : Program → Type 0
IsCausal P = (x : Element) → Reaches P x x → ⊥

-- some element reaches itself
abbrev pub IsCyclic : Program → Type 0
IsCyclic P = (x : Element) × Reaches P x x
