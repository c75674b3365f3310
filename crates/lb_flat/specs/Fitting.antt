-- Clocks and kinds of the elements of a flat program that fit its equations.
-- Source: this project's rule; the kinds that operators take and give are those of the Lustre V6
-- reference manual.
use Rattle.std.specs.Prelude.{◌≡◌, ℕ, ◌<◌, Bool, true, Option, Some, None, List, length, slice_get}
use Rattle.lb_syntax.specs.declared.tree.UnaryOperator.{UnaryOperator}
use Rattle.lb_syntax.specs.declared.tree.UnaryOperator.TheVariants.{Not, Negate}
use Rattle.lb_syntax.specs.declared.tree.BinaryOperator.{BinaryOperator}
use Rattle.lb_syntax.specs.declared.tree.Kind.{Kind}
use Rattle.lb_syntax.specs.declared.tree.Kind.TheVariants.{Int, Bool as Truth}
use Rattle.lb_syntax.specs.Lists.{Every}
use Rattle.lb_syntax.specs.Operators.{class_of}
use Rattle.lb_syntax.specs.declared.tree.OperatorClass.{OperatorClass}
use Rattle.lb_syntax.specs.declared.tree.OperatorClass.TheVariants.{Arithmetic, Equality, Logical}
use Rattle.lb_syntax.specs.declared.tree.OperatorClass.TheVariants.{Order}
use Rattle.lb_check.specs.Scalars.{Scalar, is_of_kind}
use Rattle.lb_flat.specs.Flat.{FlatClock, Always, Where, Operation, Input, Constant, Copy}
use Rattle.lb_flat.specs.Flat.{ApplyUnary, ApplyBinary, Choose, FirstThen, Previous, Latest, Sample}
use Rattle.lb_flat.specs.Flat.{FlatEquation}

-- ## Clocks

-- the operands of an operation on clock `k` have clocks that fit, where `K` gives the clock of each
-- element, and there are `inputs` inputs
abbrev pub OperandsFit : ℕ → (ℕ → FlatClock) → FlatClock → Operation → Type 0
OperandsFit inputs K k (Input j) = (k ≡ Always) × (j < inputs)
OperandsFit inputs K k (Constant v) = Unit {0}
OperandsFit inputs K k (Copy a) = K a ≡ k
OperandsFit inputs K k (ApplyUnary op a) = K a ≡ k
OperandsFit inputs K k (ApplyBinary op a b) = (K a ≡ k) × (K b ≡ k)
OperandsFit inputs K k (Choose c a b) = (K c ≡ k) × (K a ≡ k) × (K b ≡ k)
OperandsFit inputs K k (FirstThen started a b) = (K a ≡ k) × (K b ≡ k)
OperandsFit inputs K k (Previous v a) = Unit {0}
OperandsFit inputs K k (Latest v a) = Unit {0}
OperandsFit inputs K k (Sample a) = (i : ℕ) × (sign : Bool) × (k ≡ Where (K a) i sign)

-- an equation is on the clock of its element, and its operands fit
pub record ClockFits (inputs : ℕ) (K : ℕ → FlatClock) (q : FlatEquation) : Type 0 where
  pub own : K q.element ≡ q.clock
  pub operands : OperandsFit inputs K q.clock q.operation

-- ## Kinds

-- the kind of the result on two integers, and on two truth values, of the operators of a class, if
-- they take them
abbrev pub class_on_integers : OperatorClass → Option Kind
class_on_integers Arithmetic = Some Int
class_on_integers Equality = Some Truth
class_on_integers Order = Some Truth
class_on_integers Logical = None

abbrev pub class_on_truths : OperatorClass → Option Kind
class_on_truths Logical = Some Truth
class_on_truths Equality = Some Truth
class_on_truths Order = None
class_on_truths Arithmetic = None

-- the kind of an operator's result on two integers, and on two truth values, if it takes them
abbrev pub integers_kind : BinaryOperator → Option Kind
integers_kind op = class_on_integers (class_of op)

abbrev pub truths_kind : BinaryOperator → Option Kind
truths_kind op = class_on_truths (class_of op)

-- the kind of the result of an operator on operands of two kinds, if it takes them
abbrev pub binary_kind : BinaryOperator → Kind → Kind → Option Kind
binary_kind op Int Int = integers_kind op
binary_kind op Truth Truth = truths_kind op
binary_kind op k l = None

abbrev pub unary_kind : UnaryOperator → Kind → Option Kind
unary_kind Negate Int = Some Int
unary_kind Not Truth = Some Truth
unary_kind op k = None

-- scalar `v` is of kind `k`
abbrev pub IsOf : Kind → Scalar → Type 0
IsOf k v = is_of_kind k v ≡ true

-- the operands of an operation fit a result of kind `kind`, where `N` gives the kind of each
-- element
abbrev pub OperandKinds : List Kind → (ℕ → Kind) → Kind → Operation → Type 0
OperandKinds inputs N kind (Input j) = slice_get inputs j ≡ Some kind
OperandKinds inputs N kind (Constant v) = IsOf kind v
OperandKinds inputs N kind (Copy a) = N a ≡ kind
OperandKinds inputs N kind (ApplyUnary op a) = unary_kind op (N a) ≡ Some kind
OperandKinds inputs N kind (ApplyBinary op a b) = binary_kind op (N a) (N b) ≡ Some kind
OperandKinds inputs N kind (Choose c a b) = (N a ≡ kind) × (N b ≡ kind)
OperandKinds inputs N kind (FirstThen started a b) = (N a ≡ kind) × (N b ≡ kind)
OperandKinds inputs N kind (Previous v a) = IsOf kind v × (N a ≡ kind)
OperandKinds inputs N kind (Latest v a) = IsOf kind v × (N a ≡ kind)
OperandKinds inputs N kind (Sample a) = N a ≡ kind

abbrev pub KindFits : List Kind → (ℕ → Kind) → FlatEquation → Type 0
KindFits inputs N q = OperandKinds inputs N (N q.element) q.operation

-- ## Both

-- the clocks and the kinds of equations fit
pub record IsFitting (inputs : List Kind) (K : ℕ → FlatClock) (N : ℕ → Kind)
    (Q : List FlatEquation) : Type 0 where
  pub clocks : Every (ClockFits (length inputs) K) Q
  pub kinds : Every (KindFits inputs N) Q
