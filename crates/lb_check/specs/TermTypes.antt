-- The types of a term, as the code finds them.
-- This file mirrors code (src/types.rt); no definition of the language stands on it.
use Rattle.std.specs.Prelude.{ℕ, ℤ, pos, Bool, true, ◌&&◌, Option, Some, None, option_map, List, []}
use Rattle.std.specs.Prelude.{◌∷◌, map, take, drop, slice_get}
use Rattle.std.specs.List.{list_all}
use Rattle.lb_syntax.specs.declared.tree.ArrayIterator.{ArrayIterator}
use Rattle.lb_syntax.specs.declared.tree.BinaryOperator.{BinaryOperator}
use Rattle.lb_syntax.specs.Lists.{◌>>=◌, where_true, all_some, either_or, holds}
use Rattle.lb_static.specs.declared.reachable.Reached.{Reached}
use Rattle.lb_static.specs.declared.resolved.CallId.{CallId}
use Rattle.lb_static.specs.declared.resolved.CallSite.{CallSite}
use Rattle.lb_static.specs.declared.resolved.ResolvedNode.{ResolvedNode}
use Rattle.lb_static.specs.declared.resolved.Sampling.{Sampling}
use Rattle.lb_static.specs.declared.resolved.StaticId.{StaticId}
use Rattle.lb_static.specs.declared.resolved.ResolvedStatement.{ResolvedStatement}
use Rattle.lb_static.specs.declared.resolved.ResolvedStatement.TheVariants as statement
use Rattle.lb_static.specs.declared.resolved.Term.{Term, Literal, Truth, Variable, Value, Group'}
use Rattle.lb_static.specs.declared.resolved.Term.{Unary', Binary', If', Arrow', Fby', Pre'}
use Rattle.lb_static.specs.declared.resolved.Term.{Current', When', Replicate', Index', Slice'}
use Rattle.lb_static.specs.declared.resolved.Term.{Join', Array', AtMostOne', Nor', Call'}
use Rattle.lb_static.specs.declared.resolved.Term.{IterateNode', IterateSymbol', Row_of-Term}
use Rattle.lb_static.specs.declared.resolved.Term.{end_of-Term, more_of-Term}
use Rattle.lb_static.specs.declared.resolved.Variable.{Variable as Declared}
use Rattle.lb_static.specs.declared.resolved.VariableId.{VariableId}
use Rattle.lb_static.specs.declared.table.Specialization.{Specialization}
use Rattle.lb_static.specs.declared.table.Table.{Table}
use Rattle.lb_static.specs.CalledSpecializations.{called_by}
use Rattle.lb_static.specs.DataTypes.{DataType, truth, is_type, are_types}
use Rattle.lb_static.specs.StaticValues.{natural}
use Rattle.lb_static.specs.StoredTypes.{declared_type, declared_types}
use Rattle.lb_check.specs.Types.{constant_type, unary_type, binary_type, common_type, array_of}
use Rattle.lb_check.specs.Types.{index_type, slice_type, join_type, list_type, symbol_types}
use Rattle.lb_check.specs.Types.{iterator_types, only, singly}

-- the types of the inputs and of the outputs of a callee
abbrev pub CallTypes : Type 0
CallTypes = List DataType × List DataType

-- a context: the meaning of the numbers in a term
pub record Context : Type 0 where
  pub variable : VariableId → Option DataType
  pub constant : StaticId → Option DataType
  pub count : StaticId → Option ℕ
  pub call : CallId → Option CallTypes
  pub repeats : CallId → Option ℕ

-- ## The meaning of the numbers of a specialization

-- the type of a static parameter or a constant
abbrev pub constant_at : List ℤ → StaticId → Option DataType
constant_at statics i = constant_type (slice_get statics i.0)

-- the value of a size or an index
abbrev pub count_at : List ℤ → StaticId → Option ℕ
count_at statics i = slice_get statics i.0 >>= natural

abbrev pub variable_at : ResolvedNode → Specialization → VariableId → Option DataType
variable_at n s x = slice_get n.variables.items x.0 >>= declared_type s.statics.items

-- the types of the inputs and of the outputs of a node under these static values
abbrev pub call_types_of : List ℤ → ResolvedNode → Option CallTypes
call_types_of statics n =
    declared_types statics (take n.inputs n.variables.items) >>= λ ins.
    declared_types statics (take n.outputs (drop n.inputs n.variables.items)) >>= λ outs.
    Some (ins, outs)

abbrev pub callee_types : Reached → Specialization → Option CallTypes
callee_types r s = slice_get r.nodes.items s.node.0 >>= call_types_of s.statics.items

abbrev pub call_types_at : Reached → Table → Specialization → CallId → Option CallTypes
call_types_at r t s c = called_by t s c >>= callee_types r

abbrev pub repeats_of : List ℤ → CallSite → Option ℕ
repeats_of statics site = either_or (option_map (count_at statics) site.count) (Some 0)

abbrev pub repeats_at : ResolvedNode → Specialization → CallId → Option ℕ
repeats_at n s c = slice_get n.calls.items c.0 >>= repeats_of s.statics.items

unfoldable pub context_of : Reached → Table → ResolvedNode → Specialization → Context
context_of r t n s = record {
  variable = variable_at n s;
  constant = constant_at s.statics.items;
  count = count_at s.statics.items;
  call = call_types_at r t s;
  repeats = repeats_at n s;
}

-- ## Terms

-- the type `o`, where `c` is the type of a truth
abbrev pub when_truth : Option DataType → Option DataType → Option DataType
when_truth c o = c >>= λ c. where_true (is_type truth c) c >>= λ _. o

abbrev pub when_both : Option DataType → Option DataType → (DataType → DataType → Option DataType)
    → Option DataType
when_both o p f = o >>= λ t. p >>= f t

-- the types of the results of `#` and `nor` with operands of these types
abbrev pub truth_results : List DataType → Option (List DataType)
truth_results ts = where_true (list_all (is_type truth) ts) (truth ∷ [])

abbrev pub call_results : Context → CallId → List DataType → Option (List DataType)
call_results ctx c ts = ctx.call c >>= λ o. where_true (are_types o.0 ts) o.1

abbrev pub node_results : Context → ArrayIterator → CallId → List DataType → Option (List DataType)
node_results ctx it c ts =
    ctx.repeats c >>= λ n. ctx.call c >>= λ o. iterator_types it n o.0 o.1 ts

abbrev pub symbol_results :
    ArrayIterator → BinaryOperator → Option ℕ → List DataType → Option (List DataType)
symbol_results it op count ts =
    count >>= λ n. symbol_types op >>= λ o. iterator_types it n o.0 o.1 ts

-- the types of the results of a term with a row of operands of these types
abbrev pub row_results : Context → Term → List DataType → Option (List DataType)
row_results ctx (Array' arity all) ts = singly (list_type ts)
row_results ctx (AtMostOne' arity all) ts = truth_results ts
row_results ctx (Nor' arity all) ts = truth_results ts
row_results ctx (Call' c arity all) ts = call_results ctx c ts
row_results ctx (IterateNode' it c arity all) ts = node_results ctx it c ts
row_results ctx (IterateSymbol' it op n arity all) ts = symbol_results it op (ctx.count n) ts
row_results ctx t ts = None

-- the type of a term with one operand of this type
abbrev pub one_type : Context → Term → DataType → Option DataType
one_type ctx (Unary' op p a) t = unary_type op t
one_type ctx (When' p e x sign) t = when_truth (ctx.variable x) (Some t)
one_type ctx (Replicate' p e n) t = ctx.count n >>= λ n. array_of n t
one_type ctx (Index' p e i) t = ctx.count i >>= λ i. index_type i t
one_type ctx (Slice' p e i j) t = ctx.count i >>= λ i. ctx.count j >>= λ j. slice_type i j t
one_type ctx e t = Some t

unfoldable mutual
  -- the one type of a term
  pub type_of : Context → Term → Option DataType
  type_of ctx (Literal n) = constant_type (Some (pos n))
  type_of ctx (Truth b) = Some truth
  type_of ctx (Variable x) = ctx.variable x
  type_of ctx (Value i) = ctx.constant i
  type_of ctx (Group' p e) = type_of ctx e
  type_of ctx (Unary' op p a) = type_of ctx a >>= unary_type op
  type_of ctx (Binary' op p a q b) = when_both (type_of ctx a) (type_of ctx b) (binary_type op)
  type_of ctx (If' p c q a r b) =
      when_truth (type_of ctx c) (when_both (type_of ctx a) (type_of ctx b) common_type)
  type_of ctx (Arrow' p a q b) = when_both (type_of ctx a) (type_of ctx b) common_type
  type_of ctx (Fby' p a q b) = when_both (type_of ctx a) (type_of ctx b) common_type
  type_of ctx (Pre' p e) = type_of ctx e
  type_of ctx (Current' p e) = type_of ctx e
  type_of ctx (When' p e x sign) = when_truth (ctx.variable x) (type_of ctx e)
  type_of ctx (Replicate' p e n) = ctx.count n >>= λ n. type_of ctx e >>= array_of n
  type_of ctx (Index' p e i) = ctx.count i >>= λ i. type_of ctx e >>= index_type i
  type_of ctx (Slice' p e i j) =
      ctx.count i >>= λ i. ctx.count j >>= λ j. type_of ctx e >>= slice_type i j
  type_of ctx (Join' p a q b) = when_both (type_of ctx a) (type_of ctx b) join_type
  type_of ctx (Array' arity all) =
      types_in ctx all >>= row_results ctx (Array' arity all) >>= only
  type_of ctx (AtMostOne' arity all) =
      types_in ctx all >>= row_results ctx (AtMostOne' arity all) >>= only
  type_of ctx (Nor' arity all) = types_in ctx all >>= row_results ctx (Nor' arity all) >>= only
  type_of ctx (Call' c arity all) =
      types_in ctx all >>= row_results ctx (Call' c arity all) >>= only
  type_of ctx (IterateNode' it c arity all) =
      types_in ctx all >>= row_results ctx (IterateNode' it c arity all) >>= only
  type_of ctx (IterateSymbol' it op n arity all) =
      types_in ctx all >>= row_results ctx (IterateSymbol' it op n arity all) >>= only

  -- the types of a row of terms
  pub types_in : {m : _} → Context → Row_of-Term m → Option (List DataType)
  types_in ctx end_of-Term = Some []
  types_in ctx (more_of-Term e rest) =
      type_of ctx e >>= λ t. types_in ctx rest >>= λ ts. Some (t ∷ ts)

-- the type of a term without operands
abbrev pub leaf_type : Context → Term → Option DataType
leaf_type ctx (Literal n) = constant_type (Some (pos n))
leaf_type ctx (Truth b) = Some truth
leaf_type ctx (Variable x) = ctx.variable x
leaf_type ctx (Value i) = ctx.constant i
leaf_type ctx t = None

-- the type of a term whose two operands have these types
abbrev pub two_types : Term → Option DataType → Option DataType → Option DataType
two_types (Binary' op p a q b) l r = when_both l r (binary_type op)
two_types (Join' p a q b) l r = when_both l r join_type
two_types e l r = when_both l r common_type

-- the types of a list of terms
abbrev pub types_of : Context → List Term → Option (List DataType)
types_of ctx es = all_some (map (type_of ctx) es)

-- the types of the results of a right side
unfoldable pub results : Context → Term → Option (List DataType)
results ctx (Group' p e) = results ctx e
results ctx (Array' arity all) = types_in ctx all >>= row_results ctx (Array' arity all)
results ctx (AtMostOne' arity all) = types_in ctx all >>= row_results ctx (AtMostOne' arity all)
results ctx (Nor' arity all) = types_in ctx all >>= row_results ctx (Nor' arity all)
results ctx (Call' c arity all) = types_in ctx all >>= row_results ctx (Call' c arity all)
results ctx (IterateNode' it c arity all) =
    types_in ctx all >>= row_results ctx (IterateNode' it c arity all)
results ctx (IterateSymbol' it op n arity all) =
    types_in ctx all >>= row_results ctx (IterateSymbol' it op n arity all)
results ctx t = singly (type_of ctx t)

-- ## Statements

abbrev pub left_types : Context → List VariableId → Option (List DataType)
left_types ctx xs = all_some (map ctx.variable xs)

abbrev pub are_equal : Option (List DataType) → Option (List DataType) → Bool
are_equal o p = holds (λ ss. holds (are_types ss) p) o

abbrev pub is_equation_typed : Context → List VariableId → Term → Bool
is_equation_typed ctx lefts e = are_equal (results ctx e) (left_types ctx lefts)

abbrev pub is_one_truth : Context → Term → Bool
is_one_truth ctx e = are_equal (results ctx e) (Some (truth ∷ []))

abbrev pub is_resolved_statement_typed : Context → ResolvedStatement → Bool
is_resolved_statement_typed ctx (statement.Equation lefts e) = is_equation_typed ctx lefts.items e
is_resolved_statement_typed ctx (statement.Assertion e) = is_one_truth ctx e

-- whether the variable of a declared clock is a truth
abbrev pub is_clock_typed : Context → Option Sampling → Bool
is_clock_typed ctx None = true
is_clock_typed ctx (Some s) = holds (is_type truth) (ctx.variable s.variable)

abbrev pub is_variable_typed : Context → Declared → Bool
is_variable_typed ctx v = is_clock_typed ctx v.clock

abbrev pub is_node_typed : Context → ResolvedNode → Bool
is_node_typed ctx n =
    list_all (is_variable_typed ctx) n.variables.items
    && list_all (is_resolved_statement_typed ctx) n.body.items

abbrev pub is_specialization_typed : Reached → Table → Specialization → Bool
is_specialization_typed r t s =
    holds (λ n. is_node_typed (context_of r t n s) n) (slice_get r.nodes.items s.node.0)

-- whether each specialization keeps the rules of types
abbrev pub are_typed : Reached → Table → Bool
are_typed r t = list_all (is_specialization_typed r t) t.specializations.items
