-- The operand that decides the result of an operation at an instant.
-- Source: this project's rule.
use Rattle.std.specs.Prelude.{ℕ, zero, suc, Bool, true, false, Option, Some, None, List, [], ◌∷◌}
use Rattle.std.specs.Prelude.{nat_eq}
use Rattle.std.specs.Prelude.{if◌then◌else◌}
use Rattle.std.specs.List.{find}
use Rattle.lb_syntax.specs.declared.tree.BinaryOperator.{BinaryOperator}
use Rattle.lb_syntax.specs.declared.tree.BinaryOperator.TheVariants.{Or, And, Implies}
use Rattle.lb_syntax.specs.Operators.{class_of}
use Rattle.lb_syntax.specs.declared.tree.OperatorClass.TheVariants.{}
use Rattle.lb_syntax.specs.declared.tree.OperatorClass.{OperatorClass}
use Rattle.lb_syntax.specs.declared.tree.OperatorClass.TheVariants.{Logical}
use Rattle.lb_check.specs.Scalars.{Cell, Boolean, Nil, Bad}
use Rattle.lb_check.specs.Verdicts as verdicts
use Rattle.lb_flat.specs.Flat.{FlatEquation, Operation, Input, Constant, Copy, ApplyUnary}
use Rattle.lb_flat.specs.Flat.{ApplyBinary, Choose, FirstThen, Previous, Latest, Sample}
use Rattle.lb_flat.specs.Run.{Row, cell}

-- ## Tests of a cell

abbrev pub is_bad : Cell → Bool
is_bad x = verdicts.is_bad (Some x)

abbrev pub is_nil : Cell → Bool
is_nil x = verdicts.is_nil (Some x)

abbrev pub is_false : Cell → Bool
is_false x = verdicts.is_false (Some x)

abbrev pub is_true : Cell → Bool
is_true (Some (Boolean true)) = true
is_true x = false

abbrev pub is_present : Cell → Bool
is_present None = false
is_present (Some v) = true

-- ## Operands

-- the first of some elements that passes a test in a row, if one does
abbrev pub first_of : (Cell → Bool) → Row → List ℕ → Option ℕ
first_of test row elements = find (λ e. test (cell row e)) elements

-- the first of two operands, if it passes a test, and else the second
abbrev pub first_or_second : (Cell → Bool) → Row → (a b : ℕ) → Option ℕ
first_or_second test row a b = if test (cell row a) then Some a else Some b

-- the branch that a condition chooses
abbrev pub branch_taken : Cell → (a b : ℕ) → List ℕ
branch_taken (Some (Boolean true)) a b = a ∷ []
branch_taken (Some (Boolean false)) a b = b ∷ []
branch_taken x a b = []

-- the operands that an operation takes at an instant: `if` takes the condition and the branch that
-- it chooses, `->` takes one side; of the memories only `current` takes its operand
abbrev pub operands_taken : Row → Operation → List ℕ
operands_taken row (Input j) = []
operands_taken row (Constant v) = []
operands_taken row (Copy a) = a ∷ []
operands_taken row (ApplyUnary op a) = a ∷ []
operands_taken row (ApplyBinary op a b) = a ∷ b ∷ []
operands_taken row (Choose c a b) = c ∷ branch_taken (cell row c) a b
operands_taken row (FirstThen false a b) = a ∷ []
operands_taken row (FirstThen true a b) = b ∷ []
operands_taken row (Previous v a) = []
operands_taken row (Latest v a) = a ∷ []
operands_taken row (Sample a) = a ∷ []

-- the first operand of a logical operator; a comparison has none that decides
abbrev pub first_where_logical : OperatorClass → (a : ℕ) → Option ℕ
first_where_logical Logical a = Some a
first_where_logical class a = None

-- the operand that decides, where two operands give this truth. `and` with the result false: the
-- first that is false. `or` with the result true: the first that is true. `=>`: the left one where
-- it is false, and else the right one. `and` and `or` with another result, and each other logical
-- operator: the first. A comparison has none
abbrev pub truth_of_two : BinaryOperator → Bool → Row → (a b : ℕ) → Option ℕ
truth_of_two And false row a b = first_or_second is_false row a b
truth_of_two Or true row a b = first_or_second is_true row a b
truth_of_two Implies v row a b = first_or_second is_false row a b
truth_of_two op v row a b = first_where_logical (class_of op) a

-- the operand that decides, where an operator of two operands gives this cell
abbrev pub of_two : BinaryOperator → Cell → Row → (a b : ℕ) → Option ℕ
of_two op (Some (Boolean v)) row a b = truth_of_two op v row a b
of_two op x row a b = None

-- the operand that decides, where an operator of one operand gives this cell: the operand of `not`
abbrev pub of_one : Cell → ℕ → Option ℕ
of_one (Some (Boolean v)) a = Some a
of_one x a = None

-- the branch that the condition of an `if` chooses
abbrev pub of_condition : Cell → (a b : ℕ) → Option ℕ
of_condition (Some (Boolean true)) a b = Some a
of_condition (Some (Boolean false)) a b = Some b
of_condition x a b = None

-- the operand that decides, where the operation gives a cell that is neither a fault nor nil; a
-- memory, an input and a constant have none
abbrev pub value_decided : Row → Cell → Operation → Option ℕ
value_decided row x (Input j) = None
value_decided row x (Constant v) = None
value_decided row x (Copy a) = Some a
value_decided row x (ApplyUnary op a) = of_one x a
value_decided row x (ApplyBinary op a b) = of_two op x row a b
value_decided row x (Choose c a b) = of_condition (cell row c) a b
value_decided row x (FirstThen false a b) = Some a
value_decided row x (FirstThen true a b) = Some b
value_decided row x (Previous v a) = None
value_decided row x (Latest v a) = first_of is_present row (a ∷ [])
value_decided row x (Sample a) = Some a

-- the operand that decides, where the operation gives this cell. For a fault it is the first
-- operand that is a fault, for nil the first that is nil; where there is none, the operation makes
-- the fault or nil itself
abbrev pub deciding : Row → Cell → Operation → Option ℕ
deciding row (Some Bad) q = first_of is_bad row (operands_taken row q)
deciding row (Some Nil) q = first_of is_nil row (operands_taken row q)
deciding row x q = value_decided row x q

-- ## Steps

-- the first equation that gives an element
abbrev pub given_by : List FlatEquation → ℕ → Option FlatEquation
given_by [] e = None
given_by (q ∷ qs) e = if nat_eq q.element e then Some q else given_by qs e

abbrev pub decided_by : Row → ℕ → Option FlatEquation → Option ℕ
decided_by row e None = None
decided_by row e (Some q) = deciding row (cell row e) q.operation

-- the element that decides the cell of element e in a row, by equations with their memories
abbrev pub next_element : List FlatEquation → Row → ℕ → Option ℕ
next_element Q row e = decided_by row e (given_by Q e)

-- element e, and behind each element the one that decides it; `most` elements at most
abbrev pub chain : (most : ℕ) → List FlatEquation → Row → Option ℕ → List ℕ
chain zero Q row e = []
chain (suc n) Q row None = []
chain (suc n) Q row (Some e) = e ∷ chain n Q row (next_element Q row e)
