-- The variables of a node that serve as clocks, by number: some declared clock or some `when` of
-- the node names them.
-- This file mirrors code (src/expansion/clock_uses.rt); no definition of the language stands on it.
use Rattle.std.specs.Prelude.{◌≡◌, ◌<◌, ℕ, ◌==◌, Bool, false, List, [], ◌∷◌, ◌++◌, flat_map, get_or}
use Rattle.std.specs.Prelude.{length}
use Rattle.std.specs.List.{range_with_len, list_any, filter}
use Rattle.lb_syntax.specs.Lists.{listed}
use Rattle.lb_static.specs.declared.resolved.ResolvedNode.{ResolvedNode}
use Rattle.lb_static.specs.declared.resolved.ResolvedStatement.{ResolvedStatement}
use Rattle.lb_static.specs.declared.resolved.Term.{Term, Literal, Truth, Variable, Value, Group'}
use Rattle.lb_static.specs.declared.resolved.Term.{Unary', Binary', If', Arrow', Fby', Pre'}
use Rattle.lb_static.specs.declared.resolved.Term.{Current', When', Replicate', Index', Slice'}
use Rattle.lb_static.specs.declared.resolved.Term.{Join', Array', AtMostOne', Nor', Call'}
use Rattle.lb_static.specs.declared.resolved.Term.{IterateNode', IterateSymbol', Row_of-Term}
use Rattle.lb_static.specs.declared.resolved.Term.{end_of-Term, more_of-Term}
use Rattle.lb_static.specs.declared.resolved.Variable.{Variable as Declared}
use Rattle.lb_static.specs.declared.resolved.ResolvedStatement.TheVariants as statement

abbrev mutual
  -- the numbers of the variables that some `when` in a term names
  pub whens_in : Term → List ℕ
  whens_in (Literal n) = []
  whens_in (Truth b) = []
  whens_in (Variable x) = []
  whens_in (Value i) = []
  whens_in (Group' p e) = whens_in e
  whens_in (Unary' op p a) = whens_in a
  whens_in (Pre' p a) = whens_in a
  whens_in (Current' p a) = whens_in a
  whens_in (When' p a x sign) = x.0 ∷ whens_in a
  whens_in (Replicate' p a n) = whens_in a
  whens_in (Index' p a i) = whens_in a
  whens_in (Slice' p a i j) = whens_in a
  whens_in (Binary' op p a q b) = whens_in a ++ whens_in b
  whens_in (Arrow' p a q b) = whens_in a ++ whens_in b
  whens_in (Fby' p a q b) = whens_in a ++ whens_in b
  whens_in (Join' p a q b) = whens_in a ++ whens_in b
  whens_in (If' p c q a r b) = whens_in c ++ (whens_in a ++ whens_in b)
  whens_in (Array' arity all) = whens_in_row all
  whens_in (AtMostOne' arity all) = whens_in_row all
  whens_in (Nor' arity all) = whens_in_row all
  whens_in (IterateSymbol' it op n arity all) = whens_in_row all
  whens_in (Call' c arity all) = whens_in_row all
  whens_in (IterateNode' it c arity all) = whens_in_row all

  pub whens_in_row : {m : _} → Row_of-Term m → List ℕ
  whens_in_row end_of-Term = []
  whens_in_row (more_of-Term e rest) = whens_in e ++ whens_in_row rest

-- the numbers of the variables that some `when` in a list of terms names
abbrev pub whens_in_all : List Term → List ℕ
whens_in_all es = flat_map whens_in es

-- the numbers of the variables that some `when` in a statement names
abbrev pub statement_whens : ResolvedStatement → List ℕ
statement_whens (statement.Equation lefts e) = whens_in e
statement_whens (statement.Assertion e) = whens_in e

-- the variable that the declared clock of a variable waits for
abbrev pub declared_when : Declared → List ℕ
declared_when v = listed (λ s. s.variable.0 ∷ []) v.clock

-- the numbers of the variables that a declared clock or a `when` of a node names
abbrev pub clocks_named : ResolvedNode → List ℕ
clocks_named n =
    flat_map declared_when n.variables.items ++ flat_map statement_whens n.body.items

-- whether the number `x` is in `xs`
abbrev pub is_among : List ℕ → ℕ → Bool
is_among xs x = list_any (λ y. y == x) xs

-- the numbers of the variables that serve as clocks, in the order of their declarations
abbrev pub clock_numbers : ResolvedNode → List ℕ
clock_numbers n = filter (is_among (clocks_named n)) (range_with_len 0 (length n.variables.items))

-- the numbers of those of the first `n` variables whose flag is set
abbrev pub flagged_below : List Bool → ℕ → List ℕ
flagged_below flags n = filter (λ x. get_or flags x false) (range_with_len 0 n)

-- the numbers of all variables whose flag is set
abbrev pub flagged : List Bool → List ℕ
flagged flags = flagged_below flags (length flags)

-- each of `count` variables has a flag, which says whether its number is in `names`
pub record HasFlags (count : ℕ) (names : List ℕ) (flags : List Bool) : Type 0 where
  pub long : length flags ≡ count
  pub flag : (x : ℕ) → x < count → get_or flags x false ≡ is_among names x
