-- The clocks that the occurrences of expressions in the text of a node may have, as a relation.
--
-- `Occurrences` of lb_check computes the clock of each occurrence. Here no clock is computed: a
-- list of occurrences, each with a clock, keeps the rules or does not. The operand of `current`
-- stands on one clock just below, and can stand on no other. An assertion stands on the one clock
-- on which it can stand, or on the base clock.
-- Source: Lustre V6 reference manual, clocks. The clocks of arguments, and that of an assertion,
-- are this project's rule.
use Rattle.std.specs.Prelude.{◌≡◌, ◌⊎◌, ℕ, ◌+◌, Bool, true, List, [], ◌∷◌, ◌++◌, length}
use Rattle.lb_syntax.specs.Tree.{Name, Node_named, Symbol, Expr, Literal, Truth, Variable, Group}
use Rattle.lb_syntax.specs.Tree.{Unary, Binary, If, Arrow, Fby, Pre, Current, When, Replicate}
use Rattle.lb_syntax.specs.Tree.{Index, Slice, Join, Array, AtMostOne, Nor, Call, Iterate, Exprs}
use Rattle.lb_syntax.specs.Tree.{Nil, Cons, Node, Statement, Equation, Assertion}
use Rattle.lb_static.specs.Instances.{Program, Instance, node_named, statement_sites}
use Rattle.lb_static.specs.Parts.{right_side}
use Rattle.lb_check.specs.ClockRules.{is_on_clock, is_statement_clocked}
use Rattle.lb_check.specs.Clocks.{Clock, Base, On, declared_clock}
use Rattle.lb_check.specs.Occurrences.{Occurrence, at, call_count, call_clocks, node_occurrences}

-- ## Lists of occurrences

-- a statement on a list of occurrences
abbrev pub Occurrences : Type 1
Occurrences = List Occurrence → Type 0

-- the list is empty
abbrev pub Nothing : Occurrences
Nothing os = os ≡ []

-- the list has one occurrence, and behind it those of its parts
abbrev pub First : Occurrence → Occurrences → Occurrences
First o Parts os = (xs : List Occurrence) × Parts xs × (os ≡ o ∷ xs)

-- the list has occurrences of `Front`, and behind them those of `Back`
abbrev pub Both : Occurrences → Occurrences → Occurrences
Both Front Back os =
    (xs : List Occurrence) × (ys : List Occurrence) × Front xs × Back ys × (os ≡ xs ++ ys)

-- a rule is kept, and the statement holds of the list
abbrev pub Where : Bool → Occurrences → Occurrences
Where rule Those os = (rule ≡ true) × Those os

-- ## Expressions

-- clock `own` stands one step below clock `k`
abbrev pub IsJustBelow : Clock → Clock → Type 0
IsJustBelow k own = (x : Name) × (sign : Bool) × (own ≡ On k x sign)

-- `own` is the only clock of which the statement holds, whatever the list
abbrev pub IsOnly : Clock → (Clock → Occurrences) → Type 0
IsOnly own On_clock = (l : Clock) (xs : List Occurrence) → On_clock l xs → l ≡ own

unfoldable mutual
  -- the occurrences of an expression and of its parts, in text order, where the expression stands
  -- on clock `k` after `n` calls; each rule of clocks is kept
  pub IsAssigned : Program → Node → Clock → ℕ → Expr → Occurrences
  IsAssigned P here k n (Literal m) = First (at k n (Literal m)) Nothing
  IsAssigned P here k n (Truth b) = First (at k n (Truth b)) Nothing
  IsAssigned P here k n (Variable x) =
      Where (is_on_clock P here k (Variable x)) (First (at k n (Variable x)) Nothing)
  IsAssigned P here k n (Group a) = IsAssigned P here k n a
  IsAssigned P here k n (Unary op a) = First (at k n (Unary op a)) (IsAssigned P here k n a)
  IsAssigned P here k n (Binary op a b) =
      First (at k n (Binary op a b))
      (Both (IsAssigned P here k n a) (IsAssigned P here k (n + call_count a) b))
  IsAssigned P here k n (If c a b) =
      First (at k n (If c a b))
      (Both (IsAssigned P here k n c)
      (Both (IsAssigned P here k (n + call_count c) a)
      (IsAssigned P here k (n + call_count c + call_count a) b)))
  IsAssigned P here k n (Arrow a b) =
      First (at k n (Arrow a b))
      (Both (IsAssigned P here k n a) (IsAssigned P here k (n + call_count a) b))
  IsAssigned P here k n (Fby a b) =
      First (at k n (Fby a b))
      (Both (IsAssigned P here k n a) (IsAssigned P here k (n + call_count a) b))
  IsAssigned P here k n (Pre a) = First (at k n (Pre a)) (IsAssigned P here k n a)
  IsAssigned P here k n (When a x sign) =
      Where (is_on_clock P here k (When a x sign))
      (First (at k n (When a x sign)) (IsAssigned P here (declared_clock here x) n a))
  IsAssigned P here k n (Current a) = λ os.
      (own : Clock) × IsJustBelow k own × IsOnly own (λ l. IsAssigned P here l n a)
      × First (at k n (Current a)) (IsAssigned P here own n a) os
  IsAssigned P here k n (Replicate a m) =
      First (at k n (Replicate a m)) (IsAssigned P here k n a)
  IsAssigned P here k n (Index a i) = First (at k n (Index a i)) (IsAssigned P here k n a)
  IsAssigned P here k n (Slice a i j) = First (at k n (Slice a i j)) (IsAssigned P here k n a)
  IsAssigned P here k n (Join a b) =
      First (at k n (Join a b))
      (Both (IsAssigned P here k n a) (IsAssigned P here k (n + call_count a) b))
  IsAssigned P here k n (Array es) = First (at k n (Array es)) (AreAssigned P here k n es)
  IsAssigned P here k n (AtMostOne es) = First (at k n (AtMostOne es)) (AreAssigned P here k n es)
  IsAssigned P here k n (Nor es) = First (at k n (Nor es)) (AreAssigned P here k n es)
  IsAssigned P here k n (Call f statics es) =
      Where (is_on_clock P here k (Call f statics es))
      (First (at k n (Call f statics es))
      (AreAssignedEach P here (call_clocks k (node_named P f) es) (n + 1) es))
  IsAssigned P here k n (Iterate it (Node_named f statics) m es) =
      Where (is_on_clock P here k (Iterate it (Node_named f statics) m es))
      (First (at k n (Iterate it (Node_named f statics) m es)) (AreAssigned P here k (n + 1) es))
  IsAssigned P here k n (Iterate it (Symbol op) m es) =
      First (at k n (Iterate it (Symbol op) m es)) (AreAssigned P here k n es)

  -- the occurrences of expressions on one clock
  pub AreAssigned : Program → Node → Clock → ℕ → Exprs → Occurrences
  AreAssigned P here k n Nil = Nothing
  AreAssigned P here k n (Cons e es) =
      Both (IsAssigned P here k n e) (AreAssigned P here k (n + call_count e) es)

  -- the occurrences of expressions, each on a clock of its own
  pub AreAssignedEach : Program → Node → List Clock → ℕ → Exprs → Occurrences
  AreAssignedEach P here ks n Nil = Nothing
  AreAssignedEach P here [] n (Cons e es) = Nothing
  AreAssignedEach P here (k ∷ ks) n (Cons e es) =
      Both (IsAssigned P here k n e) (AreAssignedEach P here ks (n + call_count e) es)

-- ## Statements

-- `k` is the clock of a statement: an equation stands on the declared clock of its first left
-- variable; an assertion on the one clock on which it can stand, or on the base clock
abbrev pub IsStatementClock : Program → Node → ℕ → Statement → Clock → Type 0
IsStatementClock P here n (Equation [] e) k = k ≡ Base
IsStatementClock P here n (Equation (x ∷ xs) e) k = k ≡ declared_clock here x
IsStatementClock P here n (Assertion e) k = IsOnly k (λ l. IsAssigned P here l n e) ⊎ (k ≡ Base)

-- the occurrences in a statement after `n` calls; the rules of the statement are kept too
unfoldable pub IsStatementAssigned : Program → Node → ℕ → Statement → Occurrences
IsStatementAssigned P here n s os =
    (k : Clock) × IsStatementClock P here n s k
    × Where (is_statement_clocked P here s (at k n (right_side s)))
    (IsAssigned P here k n (right_side s)) os

-- the occurrences in some statements
unfoldable pub AreStatementsAssigned : Program → Node → ℕ → List Statement → Occurrences
AreStatementsAssigned P here n [] = Nothing
AreStatementsAssigned P here n (s ∷ rest) =
    Both (IsStatementAssigned P here n s)
    (AreStatementsAssigned P here (n + length (statement_sites s)) rest)

-- the computed occurrences of an instance, with their clocks, keep all rules, and no other list
-- does
pub record HasOneAssignment (P : Program) (here : Instance) : Type 0 where
  pub keeps_rules :
      AreStatementsAssigned P here.node 0 here.node.body (node_occurrences P here.node)
  pub no_other :
      (os : List Occurrence) → AreStatementsAssigned P here.node 0 here.node.body os →
      os ≡ node_occurrences P here.node
