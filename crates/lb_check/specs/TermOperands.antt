-- The operands of a resolved term, by its form.
-- Source: this project's words.
use Rattle.std.specs.Prelude.{◌≡◌, ◌⊎◌, ℕ, Bool, Box, List, Vec}
use Rattle.std.specs.Global.{Global}
use Rattle.lb_syntax.specs.declared.tree.ArrayIterator.{ArrayIterator}
use Rattle.lb_syntax.specs.declared.tree.BinaryOperator.{BinaryOperator}
use Rattle.lb_static.specs.declared.resolved.CallId.{CallId}
use Rattle.lb_static.specs.declared.resolved.StaticId.{StaticId}
use Rattle.lb_static.specs.declared.resolved.Term.{Term, Literal, Truth, Variable, Value, If}
use Rattle.lb_static.specs.declared.resolved.Term.{Array, AtMostOne, Nor, Call, IterateNode}
use Rattle.lb_static.specs.declared.resolved.Term.{IterateSymbol}
use Rattle.lb_static.specs.declared.resolved.VariableId.{VariableId}
use Rattle.lb_static.specs.TermForms.{IsPair, IsSingle}

-- a term without operands
abbrev pub IsLeaf : Term → Type 0
IsLeaf t =
    ((n : ℕ) × (t ≡ Literal n))
    ⊎ (((b : Bool) × (t ≡ Truth b))
    ⊎ (((i : StaticId) × (t ≡ Value i)) ⊎ ((x : VariableId) × (t ≡ Variable x))))

-- a term with this one operand, parentheses apart
abbrev pub HasOperand : Term → Term → Type 0
HasOperand t x = (e : Box Term Global) × IsSingle t e × (x ≡ e.value)

-- a term with these two operands
abbrev pub HasOperands : Term → (left right : Term) → Type 0
HasOperands t x y =
    (a : Box Term Global) × (b : Box Term Global) × IsPair t a b × (x ≡ a.value) × (y ≡ b.value)

-- a choice with this condition and these branches
abbrev pub HasBranches : Term → (condition left right : Term) → Type 0
HasBranches t z x y =
    (c : Box Term Global) × (a : Box Term Global) × (b : Box Term Global) × (t ≡ If c a b)
    × (z ≡ c.value) × (x ≡ a.value) × (y ≡ b.value)

-- a list of these elements
abbrev pub HasElements : Term → List Term → Type 0
HasElements t es = (v : Vec Term Global) × (t ≡ Array v) × (es ≡ v.items)

-- a term with a row of operands, but a list
abbrev pub IsGiven : Term → Vec Term Global → Type 0
IsGiven t es =
    (t ≡ AtMostOne es) ⊎ ((t ≡ Nor es) ⊎ (((c : CallId) × (t ≡ Call c es))
    ⊎ (((it : ArrayIterator) × (c : CallId) × (t ≡ IterateNode it c es))
    ⊎ ((it : ArrayIterator) × (op : BinaryOperator) × (n : StaticId)
    × (t ≡ IterateSymbol it op n es)))))

-- a term with these operands in a row, but a list
abbrev pub HasRow : Term → List Term → Type 0
HasRow t es = (v : Vec Term Global) × IsGiven t v × (es ≡ v.items)
