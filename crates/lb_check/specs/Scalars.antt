-- The value of one scalar element at one instant, and the tables of the data operators.
-- Source: Lustre V6 reference manual, data operators and the undefined value nil. Faults and
-- strictness are this project's rule.
use Rattle.std.specs.Prelude.{Bool, true, false, not, ◌&&◌, ◌||◌, nat_le, nat_eq, ℤ, int_lt, int_le}
use Rattle.std.specs.Prelude.{Option, List, [], ◌∷◌, count_by, option_map}
use Rattle.std.specs.Ordering.{int_eq}
use Rattle.lb_syntax.specs.declared.tree.UnaryOperator.{UnaryOperator}
use Rattle.lb_syntax.specs.declared.tree.UnaryOperator.TheVariants.{Not, Negate}
use Rattle.lb_syntax.specs.declared.tree.BinaryOperator.{BinaryOperator}
use Rattle.lb_syntax.specs.declared.tree.BinaryOperator.TheVariants.{Or, Xor, And, Implies, Equal}
use Rattle.lb_syntax.specs.declared.tree.BinaryOperator.TheVariants.{Unequal, Less, AtMost, Greater}
use Rattle.lb_syntax.specs.declared.tree.BinaryOperator.TheVariants.{AtLeast}
use Rattle.lb_syntax.specs.declared.tree.Kind.{Kind}
use Rattle.lb_syntax.specs.declared.tree.Kind.TheVariants.{Int as Int_kind, Bool as Bool_kind}
use Rattle.lb_syntax.specs.Lists.{either_or}
use Rattle.lb_static.specs.Arithmetic.{is_int, arithmetic, negated}

-- a scalar: `Nil` is the undefined value, which a memory holds before its first tick, and `Bad` is
-- the value of a fault
pub data Scalar : Type 0 where
  Integer : ℤ → Scalar
  Boolean : Bool → Scalar
  Nil : Scalar
  Bad : Scalar

-- a cell: absent, or a scalar
abbrev pub Cell : Type 0
Cell = Option Scalar

-- the cells of one scalar element, instant by instant
abbrev pub Stream : Type 0
Stream = List Cell

-- ## Strictness

-- the value of a data operator: that of a fault where an operand is faulty, else nil where one is
-- nil, else `result`; the one place that says so
abbrev pub strict : List Scalar → Scalar → Scalar
strict [] result = result
strict (Bad ∷ vs) result = Bad
strict (Nil ∷ vs) result = strict vs Nil
strict (v ∷ vs) result = strict vs result

-- ## Operators with one operand, and with two

-- an exact result, or the value of a fault where there is none
abbrev pub or_fault : Option ℤ → Scalar
or_fault o = either_or (option_map Integer o) Bad

-- whether two truth values are the same
abbrev pub same : Bool → Bool → Bool
same true b = b
same false b = not b

abbrev pub two_integers : BinaryOperator → ℤ → ℤ → Scalar
two_integers Equal a b = Boolean (int_eq a b)
two_integers Unequal a b = Boolean (not (int_eq a b))
two_integers Less a b = Boolean (int_lt a b)
two_integers AtMost a b = Boolean (int_le a b)
two_integers Greater a b = Boolean (int_lt b a)
two_integers AtLeast a b = Boolean (int_le b a)
two_integers op a b = or_fault (arithmetic op a b)

abbrev pub two_booleans : BinaryOperator → Bool → Bool → Scalar
two_booleans Or a b = Boolean (a || b)
two_booleans Xor a b = Boolean (not (same a b))
two_booleans And a b = Boolean (a && b)
two_booleans Implies a b = Boolean (not a || b)
two_booleans Equal a b = Boolean (same a b)
two_booleans Unequal a b = Boolean (not (same a b))
two_booleans op a b = Bad

-- operands of other kinds do not occur in an accepted program
abbrev pub two_values : BinaryOperator → Scalar → Scalar → Scalar
two_values op (Integer a) (Integer b) = two_integers op a b
two_values op (Boolean a) (Boolean b) = two_booleans op a b
two_values op v w = Bad

abbrev pub two_scalars : BinaryOperator → Scalar → Scalar → Scalar
two_scalars op v w = strict (v ∷ w ∷ []) (two_values op v w)

abbrev pub one_value : UnaryOperator → Scalar → Scalar
one_value Negate (Integer a) = or_fault (negated a)
one_value Not (Boolean a) = Boolean (not a)
one_value op v = Bad

abbrev pub one_scalar : UnaryOperator → Scalar → Scalar
one_scalar op v = strict (v ∷ []) (one_value op v)

-- ## `if`, `#` and `nor`

-- the chosen branch, where the other one may be faulty or nil; nil where the condition is nil
abbrev pub chosen : Scalar → Scalar → Scalar → Scalar
chosen (Boolean true) v w = v
chosen (Boolean false) v w = w
chosen Nil v w = Nil
chosen c v w = Bad

abbrev pub is_true : Scalar → Bool
is_true (Boolean true) = true
is_true v = false

-- `#`: at most one operand is true
abbrev pub at_most_one : List Scalar → Scalar
at_most_one vs = strict vs (Boolean (nat_le (count_by is_true vs) 1))

-- `nor`: no operand is true
abbrev pub none_true : List Scalar → Scalar
none_true vs = strict vs (Boolean (nat_eq (count_by is_true vs) 0))

-- ## Memories

-- the value of a memory before its first tick; the one place that says so
abbrev pub first_value : Scalar
first_value = Nil

-- ## Kinds

-- whether a scalar is one of this kind; nil and the value of a fault are of each
abbrev pub is_of_kind : Kind → Scalar → Bool
is_of_kind Int_kind (Integer z) = is_int z
is_of_kind Bool_kind (Boolean b) = true
is_of_kind kind Nil = true
is_of_kind kind Bad = true
is_of_kind kind v = false

-- whether a scalar is one that a trace may give: one of this kind, neither nil nor a fault
abbrev pub is_given : Kind → Scalar → Bool
is_given kind Nil = false
is_given kind Bad = false
is_given kind v = is_of_kind kind v
