-- The type of each expression of an instance.
-- Source: Lustre V6 reference manual, typing of expressions and array iterators; the limits of
-- lengths are this project's rule.
use Rattle.std.specs.Prelude.{ℕ, suc, ◌+◌, ◌-◌, ℤ, pos, Bool, ◌&&◌, ◌||◌, nat_le}
use Rattle.std.specs.Prelude.{nat_lt, Option, Some, None, option_map, List, [], ◌∷◌, map, length}
use Rattle.std.specs.Prelude.{if◌then◌else◌}
use Rattle.std.specs.List.{list_all}
use Rattle.lb_syntax.specs.declared.tree.UnaryOperator.{UnaryOperator}
use Rattle.lb_syntax.specs.declared.tree.UnaryOperator.TheVariants.{Not, Negate}
use Rattle.lb_syntax.specs.declared.tree.BinaryOperator.{BinaryOperator}
use Rattle.lb_syntax.specs.declared.tree.Kind.{Kind}
use Rattle.lb_syntax.specs.declared.tree.ArrayIterator.{ArrayIterator}
use Rattle.lb_syntax.specs.declared.tree.ArrayIterator.TheVariants.{Map, Red, Fill}
use Rattle.lb_syntax.specs.Lists.{◌>>=◌, all_some, either_or, holds, where_true}
use Rattle.lb_syntax.specs.Operators.{class_of, is_class}
use Rattle.lb_syntax.specs.declared.tree.OperatorClass.TheVariants.{Arithmetic, Equality, Logical}
use Rattle.lb_syntax.specs.Tree.{Name, Operator, Node_named, Symbol, Expr, Literal, Truth, Variable}
use Rattle.lb_syntax.specs.Tree.{Group, Unary, Binary, If, Arrow, Fby, Pre, Current, When}
use Rattle.lb_syntax.specs.Tree.{Replicate, Index, Slice, Join, Array, AtMostOne, Nor, Call}
use Rattle.lb_syntax.specs.Tree.{Iterate, Exprs, Nil, Cons}
use Rattle.lb_static.specs.StaticValues.{named}
use Rattle.lb_static.specs.Arithmetic.{is_int}
use Rattle.lb_static.specs.Instances.{Program, Instance, name_value, static_count, call_site}
use Rattle.lb_static.specs.Instances.{callee_of}
use Rattle.lb_static.specs.DataTypes.{DataType, int, truth, is_type, are_types, variables}
use Rattle.lb_static.specs.DataTypes.{variable_type, input_types, output_types}

-- ## Data operators

abbrev pub is_arithmetic : BinaryOperator → Bool
is_arithmetic op = is_class Arithmetic (class_of op)

abbrev pub is_logical : BinaryOperator → Bool
is_logical op = is_class Logical (class_of op)

abbrev pub is_equality : BinaryOperator → Bool
is_equality op = is_class Equality (class_of op)

abbrev pub are_ints : DataType → DataType → Bool
are_ints s t = is_type s int && is_type t int

abbrev pub are_truths : DataType → DataType → Bool
are_truths s t = is_type s truth && is_type t truth

-- the type of the result of an operator, where its operand has the type that it takes
abbrev pub unary_type : UnaryOperator → DataType → Option DataType
unary_type Not t = where_true (is_type t truth) truth
unary_type Negate t = where_true (is_type t int) int

abbrev pub binary_type : BinaryOperator → DataType → DataType → Option DataType
binary_type op s t =
    if is_arithmetic op then where_true (are_ints s t) int else
    if is_logical op then where_true (are_truths s t) truth else
    if is_equality op then where_true (are_ints s t || are_truths s t) truth else
    where_true (are_ints s t) truth

abbrev pub common_type : DataType → DataType → Option DataType
common_type s t = where_true (is_type s t) t

-- ## Arrays

-- the type of an array of `n` elements of type `t`; no array is longer than 4,096
abbrev pub array_of : ℕ → DataType → Option DataType
array_of n t =
    where_true (nat_le 1 n && nat_le n 4096) (record { kind = t.kind; sizes = n ∷ t.sizes })

-- the length of an array and the type of its elements
abbrev pub element_with : Kind → List ℕ → Option (ℕ × DataType)
element_with kind [] = None
element_with kind (n ∷ ns) = Some (n, record { kind = kind; sizes = ns })

abbrev pub element_of : DataType → Option (ℕ × DataType)
element_of t = element_with t.kind t.sizes

abbrev pub index_type : ℕ → DataType → Option DataType
index_type i t = element_of t >>= λ a. where_true (nat_lt i a.0) a.1

abbrev pub slice_type : ℕ → ℕ → DataType → Option DataType
slice_type i j t =
    element_of t >>= λ a.
    where_true (nat_le i j && nat_lt j a.0) a.1 >>= array_of (suc j - i)

abbrev pub join_type : DataType → DataType → Option DataType
join_type s t =
    element_of s >>= λ a. element_of t >>= λ b. common_type a.1 b.1 >>= array_of (a.0 + b.0)

abbrev pub list_type : List DataType → Option DataType
list_type [] = None
list_type (t ∷ ts) = where_true (list_all (is_type t) ts) t >>= array_of (suc (length ts))

-- ## Iterators

-- `map`: arrays of the inputs' types give arrays of the outputs' types
abbrev pub map_types : ℕ → (ins outs args : List DataType) → Option (List DataType)
map_types n ins outs args =
    all_some (map (array_of n) ins) >>= λ wanted.
    where_true (are_types wanted args) outs >>= λ outs. all_some (map (array_of n) outs)

-- `red`: the first input is the accumulator, and the one output has its type
abbrev pub red_types : ℕ → (ins outs args : List DataType) → Option (List DataType)
red_types n (acc ∷ ins) (out ∷ []) (init ∷ args) =
    all_some (map (array_of n) ins) >>= λ wanted.
    where_true (is_type acc out && (is_type acc init && are_types wanted args)) (out ∷ [])
red_types n ins outs args = None

-- `fill`: the one input is the accumulator, the first output has its type, and there are more
abbrev pub fill_types : ℕ → (ins outs args : List DataType) → Option (List DataType)
fill_types n (acc ∷ []) (out ∷ (o ∷ outs)) (init ∷ []) =
    all_some (map (array_of n) (o ∷ outs)) >>= λ arrays.
    where_true (is_type acc out && is_type acc init) (out ∷ arrays)
fill_types n ins outs args = None

abbrev pub iterator_types :
    ArrayIterator → ℕ → (ins outs args : List DataType) → Option (List DataType)
iterator_types Map n ins outs args = map_types n ins outs args
iterator_types Red n ins outs args = red_types n ins outs args
iterator_types Fill n ins outs args = fill_types n ins outs args

-- the types of the operands and of the result of an iterated data operator: numbers, or truths; a
-- comparison is not iterated
abbrev pub symbol_types : BinaryOperator → Option (List DataType × List DataType)
symbol_types op =
    if is_arithmetic op then Some (int ∷ int ∷ [], int ∷ [])
    else where_true (is_logical op) (truth ∷ truth ∷ [], truth ∷ [])

-- the types of the inputs and of the outputs of a callee or of an iterated operator
abbrev pub operator_types : Program → Instance → Operator → Option (List DataType × List DataType)
operator_types P here (Node_named f statics) =
    callee_of P here (call_site f statics) 0 0 >>= λ n.
    input_types P n >>= λ ins. output_types P n >>= λ outs. Some (ins, outs)
operator_types P here (Symbol op) = symbol_types op

-- ## Expressions

-- the type of a number with this value, where that is in the range of `int`
abbrev pub constant_type : Option ℤ → Option DataType
constant_type o = where_true (holds is_int o) int

-- the type of a name: of a variable, or of a static parameter or a constant
abbrev pub name_data_type : Program → Instance → Name → Option DataType
name_data_type P here x =
    either_or (option_map (variable_type P here) (named (λ d. d.name) x (variables here.node)))
    (constant_type (name_value P here x))

-- the one type of an expression with one result
abbrev pub only : List DataType → Option DataType
only (t ∷ []) = Some t
only ts = None

abbrev pub singly : Option DataType → Option (List DataType)
singly o = option_map (λ t. t ∷ []) o

-- the type of one result, from one operand with one result, and below from two
abbrev pub from_one : Option (List DataType) → (DataType → Option DataType) → Option (List DataType)
from_one ts f = ts >>= only >>= λ t. singly (f t)

abbrev pub from_two :
    Option (List DataType) → Option (List DataType) → (DataType → DataType → Option DataType) →
    Option (List DataType)
from_two ts us f = ts >>= only >>= λ t. us >>= only >>= λ u. singly (f t u)

-- the type of one truth, from operands that are truths
abbrev pub from_truths : Option (List DataType) → Option (List DataType)
from_truths ts = ts >>= λ ts. where_true (list_all (is_type truth) ts) (truth ∷ [])

abbrev mutual
  -- the types of the results of an expression, or none where a rule of types is broken
  pub data_types : Program → Instance → Expr → Option (List DataType)
  data_types P here (Literal n) = singly (constant_type (Some (pos n)))
  data_types P here (Truth b) = Some (truth ∷ [])
  data_types P here (Variable x) = singly (name_data_type P here x)
  data_types P here (Group a) = data_types P here a
  data_types P here (Unary op a) = from_one (data_types P here a) (unary_type op)
  data_types P here (Binary op a b) =
      from_two (data_types P here a) (data_types P here b) (binary_type op)
  data_types P here (If c a b) =
      from_truths (from_one (data_types P here c) Some) >>= λ _.
      from_two (data_types P here a) (data_types P here b) common_type
  data_types P here (Arrow a b) = from_two (data_types P here a) (data_types P here b) common_type
  data_types P here (Fby a b) = from_two (data_types P here a) (data_types P here b) common_type
  data_types P here (Pre a) = from_one (data_types P here a) Some
  data_types P here (Current a) = from_one (data_types P here a) Some
  data_types P here (When a x sign) =
      from_truths (singly (name_data_type P here x)) >>= λ _. from_one (data_types P here a) Some
  data_types P here (Replicate a n) =
      static_count P here n >>= λ n. from_one (data_types P here a) (array_of n)
  data_types P here (Index a i) =
      static_count P here i >>= λ i. from_one (data_types P here a) (index_type i)
  data_types P here (Slice a i j) =
      static_count P here i >>= λ i. static_count P here j >>= λ j.
      from_one (data_types P here a) (slice_type i j)
  data_types P here (Join a b) = from_two (data_types P here a) (data_types P here b) join_type
  data_types P here (Array es) = all_types P here es >>= λ ts. singly (list_type ts)
  data_types P here (AtMostOne es) = from_truths (all_types P here es)
  data_types P here (Nor es) = from_truths (all_types P here es)
  data_types P here (Call f statics es) =
      operator_types P here (Node_named f statics) >>= λ n.
      all_types P here es >>= λ args. where_true (are_types n.0 args) n.1
  data_types P here (Iterate it op n es) =
      static_count P here n >>= λ n. operator_types P here op >>= λ o.
      all_types P here es >>= λ args. iterator_types it n o.0 o.1 args

  -- the types of expressions with one result each
  pub all_types : Program → Instance → Exprs → Option (List DataType)
  all_types P here Nil = Some []
  all_types P here (Cons e es) =
      data_types P here e >>= only >>= λ t. all_types P here es >>= λ ts. Some (t ∷ ts)
