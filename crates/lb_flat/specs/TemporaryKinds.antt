-- The kinds of the temporaries of a flat program, which are no elements of variables, each
-- from the kinds of the elements before it.
-- Source: this project's rule.
use Rattle.std.specs.Prelude.{ℕ, List, [], ◌∷◌, ◌++◌, get_or, if◌then◌else◌}
use Rattle.lb_syntax.specs.declared.tree.UnaryOperator.{UnaryOperator}
use Rattle.lb_syntax.specs.declared.tree.UnaryOperator.TheVariants.{Not, Negate}
use Rattle.lb_syntax.specs.declared.tree.BinaryOperator.{BinaryOperator}
use Rattle.lb_syntax.specs.declared.tree.Kind.{Kind}
use Rattle.lb_syntax.specs.declared.tree.Kind.TheVariants.{Int, Bool as Truth}
use Rattle.lb_check.specs.Scalars.{Scalar, Boolean}
use Rattle.lb_check.specs.Types.{is_arithmetic}
use Rattle.lb_flat.specs.Flat.{Operation, Input, Constant, Copy, ApplyUnary, ApplyBinary, Choose}
use Rattle.lb_flat.specs.Flat.{FirstThen, Previous, Latest, Sample, FlatEquation}

-- the kind of the result of an operator
abbrev pub unary_result : UnaryOperator → Kind
unary_result Not = Truth
unary_result Negate = Int

abbrev pub binary_result : BinaryOperator → Kind
binary_result op = if is_arithmetic op then Int else Truth

-- the kind of a constant
abbrev pub scalar_kind : Scalar → Kind
scalar_kind (Boolean b) = Truth
scalar_kind v = Int

-- the kind of the result of an operation, from the kinds of elements; an input, which no further
-- element is, counts as an `int`
abbrev pub operation_kind : (ℕ → Kind) → Operation → Kind
operation_kind kind_of (Input j) = Int
operation_kind kind_of (Constant v) = scalar_kind v
operation_kind kind_of (Copy a) = kind_of a
operation_kind kind_of (ApplyUnary op a) = unary_result op
operation_kind kind_of (ApplyBinary op a b) = binary_result op
operation_kind kind_of (Choose c a b) = kind_of a
operation_kind kind_of (FirstThen started a b) = kind_of a
operation_kind kind_of (Previous v a) = kind_of a
operation_kind kind_of (Latest v a) = kind_of a
operation_kind kind_of (Sample a) = kind_of a

-- the kind of element `i` in a list of kinds; `int` where it is not there
abbrev pub kind_among : List Kind → ℕ → Kind
kind_among kinds i = get_or kinds i Int

-- the kinds of the elements that equations give in turn, after elements of the kinds `kinds`
abbrev pub kinds_from : List Kind → List FlatEquation → List Kind
kinds_from kinds [] = []
kinds_from kinds (q ∷ qs) =
    let new = operation_kind (kind_among kinds) q.operation in
    new ∷ kinds_from (kinds ++ (new ∷ [])) qs
