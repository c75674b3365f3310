-- The forms of a resolved term by its operands.
-- Source: this project's words.
use Rattle.std.specs.Prelude.{◌≡◌, ◌⊎◌, Bool}
use Rattle.std.specs.Global.{Global}
use Rattle.std.specs.Prelude.{Vec, Box}
use Rattle.lb_syntax.specs.declared.tree.ArrayIterator.{ArrayIterator}
use Rattle.lb_syntax.specs.declared.tree.BinaryOperator.{BinaryOperator}
use Rattle.lb_syntax.specs.declared.tree.UnaryOperator.{UnaryOperator}
use Rattle.lb_static.specs.declared.resolved.CallId.{CallId}
use Rattle.lb_static.specs.declared.resolved.StaticId.{StaticId}
use Rattle.lb_static.specs.declared.resolved.VariableId.{VariableId}
use Rattle.lb_static.specs.declared.resolved.Term.{Term, Unary, Binary, Arrow, Fby, Pre, Current}
use Rattle.lb_static.specs.declared.resolved.Term.{When, Replicate, Index, Slice, Join, Array}
use Rattle.lb_static.specs.declared.resolved.Term.{AtMostOne, Nor, Call, IterateNode, IterateSymbol}

-- the term `t` has one operand, `e`
abbrev pub IsSingle : Term → Box Term Global → Type 0
IsSingle t e =
    ((op : UnaryOperator) × (t ≡ Unary op e)) ⊎ ((t ≡ Pre e) ⊎ ((t ≡ Current e)
    ⊎ (((x : VariableId) × (sign : Bool) × (t ≡ When e x sign))
    ⊎ (((n : StaticId) × (t ≡ Replicate e n))
    ⊎ (((i : StaticId) × (t ≡ Index e i))
    ⊎ ((i : StaticId) × (j : StaticId) × (t ≡ Slice e i j)))))))

-- the term `t` has two operands, `a` and `b`
abbrev pub IsPair : Term → Box Term Global → Box Term Global → Type 0
IsPair t a b =
    ((op : BinaryOperator) × (t ≡ Binary op a b)) ⊎ ((t ≡ Arrow a b) ⊎ ((t ≡ Fby a b)
    ⊎ (t ≡ Join a b)))

-- the term `t` has a row of operands, `es`
abbrev pub IsRow : Term → Vec Term Global → Type 0
IsRow t es =
    (t ≡ Array es) ⊎ ((t ≡ AtMostOne es) ⊎ ((t ≡ Nor es) ⊎ (((c : CallId) × (t ≡ Call c es))
    ⊎ (((it : ArrayIterator) × (c : CallId) × (t ≡ IterateNode it c es))
    ⊎ ((it : ArrayIterator) × (op : BinaryOperator) × (n : StaticId)
    × (t ≡ IterateSymbol it op n es))))))

-- the term `t` has one operand; below: two operands, a row of operands
abbrev pub HasOne : Term → Type 0
HasOne t = (e : Box Term Global) × IsSingle t e

abbrev pub HasTwo : Term → Type 0
HasTwo t = (a : Box Term Global) × (b : Box Term Global) × IsPair t a b

abbrev pub HasRow : Term → Type 0
HasRow t = (es : Vec Term Global) × IsRow t es
