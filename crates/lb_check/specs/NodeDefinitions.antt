-- The variables that a node with resolved names defines, and its statements with memory, as the
-- code finds them.
-- This file mirrors code (src/definition_rules.rt); no definition of the language stands on it.
use Rattle.std.specs.Prelude.{◌≡◌, ℕ, ◌+◌, Bool, true, false, cond, ◌&&◌, nat_lt, Option, None}
use Rattle.std.specs.Prelude.{List, [], ◌∷◌, if◌then◌else◌, ◌==◌, EachIndex, min, slice_index}
use Rattle.lb_syntax.specs.Lists.{holds}
use Rattle.lb_static.specs.Instances.{Program}
use Rattle.lb_static.specs.ReachedNodes.{callee_in, tree_at}
use Rattle.lb_static.specs.declared.reachable.NodeId.{NodeId}
use Rattle.lb_static.specs.declared.reachable.Reached.{Reached}
use Rattle.lb_static.specs.declared.resolved.CallId.{CallId}
use Rattle.lb_static.specs.declared.resolved.ResolvedNode.{ResolvedNode}
use Rattle.lb_static.specs.declared.resolved.VariableId.{VariableId}
use Rattle.lb_static.specs.declared.resolved.ResolvedStatement.{ResolvedStatement}
use Rattle.lb_static.specs.declared.resolved.ResolvedStatement.TheVariants as statement
use Rattle.lb_static.specs.declared.resolved.Term.{Term, Literal, Truth, Variable, Value, Group'}
use Rattle.lb_static.specs.declared.resolved.Term.{Unary', Binary', If', Arrow', Fby', Pre'}
use Rattle.lb_static.specs.declared.resolved.Term.{Current', When', Replicate', Index', Slice'}
use Rattle.lb_static.specs.declared.resolved.Term.{Join', Array', AtMostOne', Nor', Call'}
use Rattle.lb_static.specs.declared.resolved.Term.{IterateNode', IterateSymbol', Row_of-Term}
use Rattle.lb_static.specs.declared.resolved.Term.{end_of-Term, more_of-Term}
use Rattle.lb_check.specs.BrokenParts.{first_broken}
use Rattle.lb_check.specs.DefinitionRules.{is_defined}

-- ## Left variables

-- the number of times that place `i` stands among some left variables
abbrev pub count_left : ℕ → List VariableId → ℕ
count_left i [] = 0
count_left i (x ∷ xs) = (if x.0 == i then 1 else 0) + count_left i xs

abbrev pub count_statement : ℕ → ResolvedStatement → ℕ
count_statement i (statement.Equation lefts e) = count_left i lefts.items
count_statement i (statement.Assertion e) = 0

-- the number of times that place `i` stands on the left of some statements
abbrev pub count_statements : ℕ → List ResolvedStatement → ℕ
count_statements i [] = 0
count_statements i (s ∷ ss) = count_statement i s + count_statements i ss

-- each count is the `number` of its place, where 2 stands for 2 and more
abbrev pub AreCounts : List ℕ → (ℕ → ℕ) → Type 0
AreCounts counts number =
    EachIndex counts (λ i. min 2 (slice_index counts i) ≡ min 2 (number i))

-- the number of times that variable `i` should stand on the left: 0 for the first `inputs`, else 1
abbrev pub wanted_count : (inputs i : ℕ) → ℕ
wanted_count inputs i = if nat_lt i inputs then 0 else 1

-- ## Memory

-- whether the callee of a call is a function
abbrev pub calls_function : Reached → ResolvedNode → CallId → Bool
calls_function r n c = holds (λ callee. callee.tree.now.is_function) (callee_in r n c)

unfoldable mutual
  -- whether a term holds no `->`, `fby`, `pre` and `current`, and calls functions alone
  pub is_memoryless : Reached → ResolvedNode → Term → Bool
  is_memoryless r n (Literal m) = true
  is_memoryless r n (Truth b) = true
  is_memoryless r n (Variable x) = true
  is_memoryless r n (Value i) = true
  is_memoryless r n (Group' p e) = is_memoryless r n e
  is_memoryless r n (Unary' op p a) = is_memoryless r n a
  is_memoryless r n (Binary' op p a q b) = is_memoryless r n a && is_memoryless r n b
  is_memoryless r n (If' p c q a o b) =
      is_memoryless r n c && (is_memoryless r n a && is_memoryless r n b)
  is_memoryless r n (Arrow' p a q b) = false
  is_memoryless r n (Fby' p a q b) = false
  is_memoryless r n (Pre' p e) = false
  is_memoryless r n (Current' p e) = false
  is_memoryless r n (When' p e x sign) = is_memoryless r n e
  is_memoryless r n (Replicate' p e m) = is_memoryless r n e
  is_memoryless r n (Index' p e i) = is_memoryless r n e
  is_memoryless r n (Slice' p e i j) = is_memoryless r n e
  is_memoryless r n (Join' p a q b) = is_memoryless r n a && is_memoryless r n b
  is_memoryless r n (Array' arity all) = is_row_memoryless r n all
  is_memoryless r n (AtMostOne' arity all) = is_row_memoryless r n all
  is_memoryless r n (Nor' arity all) = is_row_memoryless r n all
  is_memoryless r n (Call' c arity all) = calls_function r n c && is_row_memoryless r n all
  is_memoryless r n (IterateNode' it c arity all) =
      calls_function r n c && is_row_memoryless r n all
  is_memoryless r n (IterateSymbol' it op m arity all) = is_row_memoryless r n all

  pub is_row_memoryless : {m : _} → Reached → ResolvedNode → Row_of-Term m → Bool
  is_row_memoryless r n end_of-Term = true
  is_row_memoryless r n (more_of-Term e rest) =
      is_memoryless r n e && is_row_memoryless r n rest

abbrev pub is_statement_memoryless : Reached → ResolvedNode → ResolvedStatement → Bool
is_statement_memoryless r n (statement.Equation lefts e) = is_memoryless r n e
is_statement_memoryless r n (statement.Assertion e) = is_memoryless r n e

-- the place of the first statement with memory, in a function
abbrev pub memory_in_function : Reached → ResolvedNode → Option ℕ
memory_in_function r n =
    cond n.tree.now.is_function (first_broken (is_statement_memoryless r n) n.body.items) None

-- ## Nodes

-- whether the reached node `id` keeps the rules of definitions
abbrev pub is_defined_at : Program → Reached → NodeId → Bool
is_defined_at P r id = holds (is_defined P) (tree_at r id)
