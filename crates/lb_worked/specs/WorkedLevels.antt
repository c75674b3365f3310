-- Worked examples of the levels: tokens or texts, and the one tree that they spell.
-- Source: this project's rule (the levels).
use Rattle.std.specs.Prelude.{◌≡◌, true, false, List, [], ◌∷◌, Some, None, codes}
use Prim.Native.String.{String}
use Rattle.lb_syntax.specs.declared.token.Mark.TheVariants as m
use Rattle.lb_syntax.specs.declared.token.Token.{Token}
use Rattle.lb_syntax.specs.declared.token.Token.TheVariants.{Name as name, Literal as number}
use Rattle.lb_syntax.specs.declared.token.Token.TheVariants.{Mark as mark}
use Rattle.lb_syntax.specs.declared.tree.UnaryOperator.TheVariants.{Not, Negate}
use Rattle.lb_syntax.specs.declared.tree.BinaryOperator.TheVariants.{Or, Xor, And, Implies, Equal}
use Rattle.lb_syntax.specs.declared.tree.BinaryOperator.TheVariants.{Less, Plus, Minus, Times}
use Rattle.lb_syntax.specs.declared.tree.BinaryOperator.TheVariants.{Divide, Modulo}
use Rattle.lb_syntax.specs.declared.tree.ArrayIterator.TheVariants.{Map}
use Rattle.lb_syntax.specs.Tree.{Name, Static, Whole, Named, Negated, Combined, Grouped, Symbol}
use Rattle.lb_syntax.specs.Tree.{Expr, Literal, Truth, Variable, Unary, Binary, If, Arrow, Pre}
use Rattle.lb_syntax.specs.Tree.{When, Replicate, Join, Array, Call, Iterate, Nil, Cons}
use Rattle.lb_syntax.specs.Spelling.{Spells, IsStatic}
use Rattle.lb_syntax.specs.Tokens.{tokens}

abbrev a : Name
a = codes "a"

abbrev b : Name
b = codes "b"

abbrev c : Name
c = codes "c"

abbrev map : Name
map = codes "map"

-- the tokens `ts` spell the tree `e` and no other
abbrev pub SpellsOnly : Expr → List Token → Type 0
SpellsOnly e ts = Spells e ts × ((other : Expr) → Spells other ts → e ≡ other)

-- the tokens `ts` spell no expression
abbrev pub SpellsNone : List Token → Type 0
SpellsNone ts = (e : Expr) → Spells e ts → ⊥

-- `1 - if c then 2 else 3 - 4` is `1 - (if c then 2 else (3 - 4))`
abbrev pub choice_takes_the_rest_tree : Expr
choice_takes_the_rest_tree =
    Binary Minus (Literal 1) (If (Variable c) (Literal 2) (Binary Minus (Literal 3) (Literal 4)))

abbrev pub choice_takes_the_rest_tokens : List Token
choice_takes_the_rest_tokens =
    number 1 ∷ mark m.Minus ∷ mark m.If ∷ name c ∷ mark m.Then ∷ number 2 ∷ mark m.Else ∷
    number 3 ∷ mark m.Minus ∷ number 4 ∷ []

-- `if c then a else b | [3]` is `(if c then a else b) | [3]`
abbrev pub join_is_last_tree : Expr
join_is_last_tree =
    Join (If (Variable c) (Variable a) (Variable b)) (Array (Cons (Literal 3) Nil))

abbrev pub join_is_last_tokens : List Token
join_is_last_tokens =
    mark m.If ∷ name c ∷ mark m.Then ∷ name a ∷ mark m.Else ∷ name b ∷ mark m.Bar ∷
    mark m.OpenBracket ∷ number 3 ∷ mark m.CloseBracket ∷ []

-- `0 -> if c then 1 else 2 + 3` is `0 -> (if c then 1 else (2 + 3))`
abbrev pub arrow_before_choice_tree : Expr
arrow_before_choice_tree =
    Arrow (Literal 0) (If (Variable c) (Literal 1) (Binary Plus (Literal 2) (Literal 3)))

abbrev pub arrow_before_choice_tokens : List Token
arrow_before_choice_tokens =
    number 0 ∷ mark m.Arrow ∷ mark m.If ∷ name c ∷ mark m.Then ∷ number 1 ∷ mark m.Else ∷
    number 2 ∷ mark m.Plus ∷ number 3 ∷ []

-- `not a = b` is `(not a) = b`
abbrev pub not_before_equal_tree : Expr
not_before_equal_tree =
    Binary Equal (Unary Not (Variable a)) (Variable b)

abbrev pub not_before_equal_tokens : List Token
not_before_equal_tokens =
    mark m.Not ∷ name a ∷ mark m.Equal ∷ name b ∷ []

-- `pre a when c` is `(pre a) when c`
abbrev pub pre_before_when_tree : Expr
pre_before_when_tree =
    When (Pre (Variable a)) c true

abbrev pub pre_before_when_tokens : List Token
pre_before_when_tokens =
    mark m.Pre ∷ name a ∷ mark m.When ∷ name c ∷ []

-- `1 - 2 - 3 = - 4` is `((1 - 2) - 3) = (- 4)`
abbrev pub minus_to_the_left_tree : Expr
minus_to_the_left_tree =
    Binary Equal (Binary Minus (Binary Minus (Literal 1) (Literal 2)) (Literal 3))
    (Unary Negate (Literal 4))

abbrev pub minus_to_the_left_tokens : List Token
minus_to_the_left_tokens =
    number 1 ∷ mark m.Minus ∷ number 2 ∷ mark m.Minus ∷ number 3 ∷ mark m.Equal ∷ mark m.Minus ∷
    number 4 ∷ []

-- `false => false => false` is `false => (false => false)`
abbrev pub implies_to_the_right_tree : Expr
implies_to_the_right_tree =
    Binary Implies (Truth false) (Binary Implies (Truth false) (Truth false))

abbrev pub implies_to_the_right_tokens : List Token
implies_to_the_right_tokens =
    mark m.False ∷ mark m.Implies ∷ mark m.False ∷ mark m.Implies ∷ mark m.False ∷ []

-- `true or false xor true` is `(true or false) xor true`
abbrev pub or_and_xor_on_one_level_tree : Expr
or_and_xor_on_one_level_tree =
    Binary Xor (Binary Or (Truth true) (Truth false)) (Truth true)

abbrev pub or_and_xor_on_one_level_tokens : List Token
or_and_xor_on_one_level_tokens =
    mark m.True ∷ mark m.Or ∷ mark m.False ∷ mark m.Xor ∷ mark m.True ∷ []

-- `map(a)` is a call
abbrev pub map_may_be_called_tree : Expr
map_may_be_called_tree =
    Call (codes "map") [] (Cons (Variable a) Nil)

abbrev pub map_may_be_called_tokens : List Token
map_may_be_called_tokens =
    name map ∷ mark m.Open ∷ name a ∷ mark m.Close ∷ []

-- `map<<+, 2>>(a, b)` is an iterator
abbrev pub map_of_an_operator_tree : Expr
map_of_an_operator_tree =
    Iterate Map (Symbol Plus) (Whole 2) (Cons (Variable a) (Cons (Variable b) Nil))

abbrev pub map_of_an_operator_tokens : List Token
map_of_an_operator_tokens =
    name map ∷ mark m.OpenStatic ∷ mark m.Plus ∷ mark m.Comma ∷ number 2 ∷ mark m.CloseStatic ∷
    mark m.Open ∷ name a ∷ mark m.Comma ∷ name b ∷ mark m.Close ∷ []

-- `a < b < 3` is no expression: reading it ends after the tree of `a < b`
abbrev pub comparison_tree : Expr
comparison_tree = Binary Less (Variable a) (Variable b)

abbrev pub comparison_chain_tokens : List Token
comparison_chain_tokens = name a ∷ mark m.Less ∷ name b ∷ mark m.Less ∷ number 3 ∷ []

-- `map<<2>>(a)` is no expression: an iterator applies a node or an operator, and `2` is neither
abbrev pub map_of_a_number_tokens : List Token
map_of_a_number_tokens =
    name map ∷ mark m.OpenStatic ∷ number 2 ∷ mark m.CloseStatic ∷ mark m.Open ∷ name a ∷ mark
    m.Close ∷ []

-- `- 2 * 3` is `(- 2) * 3` as a static expression
abbrev pub static_minus_tree : Static
static_minus_tree = Combined Times (Negated (Whole 2)) (Whole 3)

abbrev pub static_minus_tokens : List Token
static_minus_tokens = mark m.Minus ∷ number 2 ∷ mark m.Star ∷ number 3 ∷ []

-- ## Texts

-- the tokens of a text; the empty list if a byte begins no token
abbrev pub tokens_of : String → List Token
tokens_of text = elim (tokens (codes text)) as (λ o. List Token) [ None ↦ [] | Some ts ↦ ts ]

-- the text spells the tree `e` and no other
abbrev pub IsText : Expr → String → Type 0
IsText e text = SpellsOnly e (tokens_of text)

abbrev d : Name
d = codes "d"

abbrev n : Name
n = codes "n"

abbrev pub least_tree : Expr
least_tree = Binary Minus (Unary Negate (Literal 2147483647)) (Literal 1)

abbrev pub and_before_xor_tree : Expr
and_before_xor_tree =
    Binary Xor (Binary Or (Variable a) (Variable b)) (Binary And (Variable c) (Variable d))

abbrev pub products_before_sums_tree : Expr
products_before_sums_tree =
    Binary Minus (Binary Minus (Literal 1) (Binary Modulo (Binary Times (Literal 2) (Literal 3))
    (Literal 4))) (Literal 5)

abbrev pub minus_before_when_tree : Expr
minus_before_when_tree = When (Unary Negate (Variable a)) c false

abbrev pub when_to_the_left_tree : Expr
when_to_the_left_tree = When (When (Variable a) c true) d false

abbrev pub copies_to_the_left_tree : Expr
copies_to_the_left_tree =
    Replicate (Replicate (Literal 0) (Named n))
    (Grouped (Combined Minus (Whole 1) (Negated (Whole 2))))

abbrev pub static_quotients_tree : Expr
static_quotients_tree =
    Replicate (Variable a)
    (Grouped (Combined Divide (Combined Divide (Named n) (Whole 2)) (Whole 3)))

abbrev pub static_arguments_tree : Expr
static_arguments_tree =
    Call (codes "f") (Whole 1 ∷ Named n ∷ Combined Times (Negated (Whole 3)) (Whole 2) ∷ [])
    (Cons (Variable a) (Cons (Variable b) Nil))

abbrev pub no_arguments_tree : Expr
no_arguments_tree = Call (codes "f") [] Nil

pub record AreLevels : Type 0 where
  pub choice_takes_the_rest : SpellsOnly choice_takes_the_rest_tree choice_takes_the_rest_tokens
  pub join_is_last : SpellsOnly join_is_last_tree join_is_last_tokens
  pub arrow_before_choice : SpellsOnly arrow_before_choice_tree arrow_before_choice_tokens
  pub not_before_equal : SpellsOnly not_before_equal_tree not_before_equal_tokens
  pub pre_before_when : SpellsOnly pre_before_when_tree pre_before_when_tokens
  pub minus_to_the_left : SpellsOnly minus_to_the_left_tree minus_to_the_left_tokens
  pub implies_to_the_right : SpellsOnly implies_to_the_right_tree implies_to_the_right_tokens
  pub or_and_xor_on_one_level : SpellsOnly or_and_xor_on_one_level_tree
      or_and_xor_on_one_level_tokens
  pub map_may_be_called : SpellsOnly map_may_be_called_tree map_may_be_called_tokens
  pub map_of_an_operator : SpellsOnly map_of_an_operator_tree map_of_an_operator_tokens
  pub comparisons_do_not_chain : SpellsNone comparison_chain_tokens
  pub map_of_a_number : SpellsNone map_of_a_number_tokens
  pub static_minus : IsStatic static_minus_tree static_minus_tokens []
  pub least : IsText least_tree "-2147483647 - 1"
  pub and_before_xor : IsText and_before_xor_tree "a or b xor c and d"
  pub products_before_sums : IsText products_before_sums_tree "1 - 2 * 3 mod 4 - 5"
  pub minus_before_when : IsText minus_before_when_tree "-a when not (c)"
  pub when_to_the_left : IsText when_to_the_left_tree "a when c when not d"
  pub copies_to_the_left : IsText copies_to_the_left_tree "0 ^ n ^ (1 - -2)"
  pub static_quotients : IsText static_quotients_tree "a ^ (n div 2 / 3)"
  pub static_arguments : IsText static_arguments_tree "f<<1, n; -3 * 2>>(a, b)"
  pub no_arguments : IsText no_arguments_tree "f()"
