-- The meaning of the clock set that the code infers for a term.
-- This file says what data of the program mean; no definition of the language stands on it.
use Rattle.std.specs.Prelude.{◌≡◌, ℕ, nat_eq, Bool, true, false, ◌&&◌, Some, None, List, [], ◌∷◌}
use Rattle.std.specs.Prelude.{slice_get}
use Rattle.std.specs.List.{list_all}
use Rattle.lb_syntax.specs.Lists.{holds}
use Rattle.lb_syntax.specs.Tree.{Expr}
use Rattle.lb_static.specs.Instances.{Program}
use Rattle.lb_static.specs.Names.{keeps_names}
use Rattle.lb_static.specs.ReachedNodes.{IsReached}
use Rattle.lb_static.specs.ResolvedNodes.{node_of, texts_of}
use Rattle.lb_static.specs.ResolvedTerms.{expr_of}
use Rattle.lb_static.specs.declared.reachable.Reached.{Reached}
use Rattle.lb_static.specs.declared.resolved.CallId.{CallId}
use Rattle.lb_static.specs.declared.resolved.ResolvedNode.{ResolvedNode}
use Rattle.lb_static.specs.declared.resolved.ResolvedStatement.{ResolvedStatement}
use Rattle.lb_static.specs.declared.resolved.ResolvedStatement.TheVariants as statement
use Rattle.lb_static.specs.declared.resolved.Term.{Term, Literal, Truth, Variable, Value, Group'}
use Rattle.lb_static.specs.declared.resolved.Term.{Unary', Binary', If', Arrow', Fby', Pre'}
use Rattle.lb_static.specs.declared.resolved.Term.{Current', When', Replicate', Index', Slice'}
use Rattle.lb_static.specs.declared.resolved.Term.{Join', Array', AtMostOne', Nor', Call'}
use Rattle.lb_static.specs.declared.resolved.Term.{IterateNode', IterateSymbol', Row_of-Term}
use Rattle.lb_static.specs.declared.resolved.Term.{end_of-Term, more_of-Term}
use Rattle.lb_check.specs.ClockRules.{is_clock, is_occurrence_clocked}
use Rattle.lb_check.specs.Clocks as tree
use Rattle.lb_check.specs.Clocks.{clock_of}
use Rattle.lb_check.specs.Occurrences.{occurrences}
use Rattle.lb_check.specs.OwnClocks.{HasClocks, clock_in, is_clock_within}
use Rattle.lb_static.specs.ReachedNodes.{callee_in}
use Rattle.lb_check.specs.TermClocks.{Context, infer_clock}
use Rattle.lb_check.specs.declared.clock_set.ClockSet.{ClockSet}
use Rattle.lb_check.specs.declared.clock_set.ClockSet.TheVariants.{NoClock, AnyClock, OneClock}

-- whether an expression on clock `k` after `n` calls, and its parts, keep the rules of clocks
abbrev pub is_clocked_on : Program → ResolvedNode → tree.Clock → ℕ → Expr → Bool
is_clocked_on P here k n e =
    list_all (is_occurrence_clocked P (node_of here)) (occurrences P (node_of here) k n e)

-- the clock set of an expression: it may stand on these clocks alone, and its own is one of them
abbrev pub IsClockSet : Program → ResolvedNode → Expr → ClockSet → Type 0
IsClockSet P here e NoClock = (k : tree.Clock) (n : ℕ) → is_clocked_on P here k n e ≡ false
IsClockSet P here e AnyClock =
    (clock_of P (node_of here) e ≡ None)
    × ((k : tree.Clock) (n : ℕ) → is_clocked_on P here k n e ≡ true)
IsClockSet P here e (OneClock c) =
    (is_clock_within here c ≡ true)
    × (clock_of P (node_of here) e ≡ Some (clock_in here c))
    × ((k : tree.Clock) (n : ℕ) → is_clocked_on P here k n e ≡ is_clock k (clock_in here c))

-- the clock set that is inferred for each term of a list is right
abbrev pub AreClockSets : Program → ResolvedNode → Context → List Term → Type 0
AreClockSets P here ctx [] = Unit {0}
AreClockSets P here ctx (e ∷ es) =
    IsClockSet P here (expr_of (texts_of here) e) (infer_clock ctx e) × AreClockSets P here ctx es

-- a reached node keeps the rules of declared clocks, and so does each node that it calls
pub record SeesClocks (P : Program) (r : Reached) (here : ResolvedNode) : Type 0 where
  pub names : keeps_names P ≡ true
  pub reached : IsReached P r
  pub place : ℕ
  pub at : slice_get r.nodes.items place ≡ Some here
  pub own : HasClocks here
  pub callees : (c : CallId) (n : ResolvedNode) → callee_in r here c ≡ Some n → HasClocks n

-- ## One result

-- whether the callee of a call has one output
abbrev pub calls_single : Reached → ResolvedNode → CallId → Bool
calls_single r n c = holds (λ m. nat_eq m.outputs 1) (callee_in r n c)

unfoldable mutual
  -- whether each call in a term, itself included, has one result; iterators may have more
  pub is_single : Reached → ResolvedNode → Term → Bool
  is_single r n (Literal m) = true
  is_single r n (Truth b) = true
  is_single r n (Variable x) = true
  is_single r n (Value i) = true
  is_single r n (Group' p e) = is_single r n e
  is_single r n (Unary' op p a) = is_single r n a
  is_single r n (Binary' op p a q b) = is_single r n a && is_single r n b
  is_single r n (If' p c q a r' b) = is_single r n c && (is_single r n a && is_single r n b)
  is_single r n (Arrow' p a q b) = is_single r n a && is_single r n b
  is_single r n (Fby' p a q b) = is_single r n a && is_single r n b
  is_single r n (Pre' p e) = is_single r n e
  is_single r n (Current' p e) = is_single r n e
  is_single r n (When' p e x sign) = is_single r n e
  is_single r n (Replicate' p e i) = is_single r n e
  is_single r n (Index' p e i) = is_single r n e
  is_single r n (Slice' p e i j) = is_single r n e
  is_single r n (Join' p a q b) = is_single r n a && is_single r n b
  is_single r n (Array' arity all) = are_single r n all
  is_single r n (AtMostOne' arity all) = are_single r n all
  is_single r n (Nor' arity all) = are_single r n all
  is_single r n (Call' c arity all) = calls_single r n c && are_single r n all
  is_single r n (IterateNode' it c arity all) = are_single r n all
  is_single r n (IterateSymbol' it op i arity all) = are_single r n all

  pub are_single : {m : _} → Reached → ResolvedNode → Row_of-Term m → Bool
  are_single r n end_of-Term = true
  are_single r n (more_of-Term e rest) = is_single r n e && are_single r n rest

-- whether each call in a right side has one result; a call that is all of it may have more
unfoldable pub is_single_within : Reached → ResolvedNode → Term → Bool
is_single_within r n (Group' p e) = is_single_within r n e
is_single_within r n (Call' c arity all) = are_single r n all
is_single_within r n e = is_single r n e

-- whether each call of a statement has one result, apart from one that is a whole right side
abbrev pub is_statement_single : Reached → ResolvedNode → ResolvedStatement → Bool
is_statement_single r n (statement.Equation lefts e) = is_single_within r n e
is_statement_single r n (statement.Assertion e) = is_single r n e
