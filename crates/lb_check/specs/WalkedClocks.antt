-- The operands of each `current` and of each call in a term, as a walk over it finds them.
-- This file mirrors code (src/walked_clocks.rt); no definition of the language stands on it.
use Rattle.std.specs.Prelude.{◌≡◌, List, [], ◌∷◌, ◌++◌, flat_map, reverse}
use Rattle.lb_static.specs.declared.resolved.Term.{Term, Literal, Truth, Variable, Value, Group'}
use Rattle.lb_static.specs.declared.resolved.Term.{Unary', Binary', If', Arrow', Fby', Pre'}
use Rattle.lb_static.specs.declared.resolved.Term.{Current', When', Replicate', Index', Slice'}
use Rattle.lb_static.specs.declared.resolved.Term.{Join', Array', AtMostOne', Nor', Call'}
use Rattle.lb_static.specs.declared.resolved.Term.{IterateNode', IterateSymbol', Row_of-Term}
use Rattle.lb_static.specs.declared.resolved.Term.{end_of-Term, more_of-Term}
use Rattle.lb_check.specs.TermClocks.{Context, infer_clock, operand_of, operands_in, operands_of}
use Rattle.lb_check.specs.declared.clock_set.ClockSet.{ClockSet}
use Rattle.lb_check.specs.declared.clock_set.Operand.{Operand}

unfoldable mutual
  -- the operands of each `current` and of each call in a term, in text order: the operands of a
  -- call stand before the operands within them
  pub known_operands : Context → Term → List Operand
  known_operands ctx (Literal n) = []
  known_operands ctx (Truth b) = []
  known_operands ctx (Variable x) = []
  known_operands ctx (Value i) = []
  known_operands ctx (Group' p e) = known_operands ctx e
  known_operands ctx (Unary' op p a) = known_operands ctx a
  known_operands ctx (Binary' op p a q b) = known_operands ctx a ++ known_operands ctx b
  known_operands ctx (If' p c q a r b) =
      known_operands ctx c ++ (known_operands ctx a ++ known_operands ctx b)
  known_operands ctx (Arrow' p a q b) = known_operands ctx a ++ known_operands ctx b
  known_operands ctx (Fby' p a q b) = known_operands ctx a ++ known_operands ctx b
  known_operands ctx (Pre' p e) = known_operands ctx e
  known_operands ctx (Current' p e) = operand_of ctx e ∷ known_operands ctx e
  known_operands ctx (When' p e x sign) = known_operands ctx e
  known_operands ctx (Replicate' p e n) = known_operands ctx e
  known_operands ctx (Index' p e i) = known_operands ctx e
  known_operands ctx (Slice' p e i j) = known_operands ctx e
  known_operands ctx (Join' p a q b) = known_operands ctx a ++ known_operands ctx b
  known_operands ctx (Array' arity all) = known_in ctx all
  known_operands ctx (AtMostOne' arity all) = known_in ctx all
  known_operands ctx (Nor' arity all) = known_in ctx all
  known_operands ctx (Call' c arity all) = operands_in ctx all ++ known_in ctx all
  known_operands ctx (IterateNode' it c arity all) = known_in ctx all
  known_operands ctx (IterateSymbol' it op n arity all) = known_in ctx all

  -- the known operands of a row of terms
  pub known_in : {m : _} → Context → Row_of-Term m → List Operand
  known_in ctx end_of-Term = []
  known_in ctx (more_of-Term e rest) = known_operands ctx e ++ known_in ctx rest

-- the known operands of a list of terms
abbrev pub known_among : Context → List Term → List Operand
known_among ctx es = flat_map (known_operands ctx) es

-- a walk over a term adds its known operands, the last one first, and infers its clock set
abbrev pub IsWalked : Context → Term → (before after : List Operand) → ClockSet → Type 0
IsWalked ctx e before after s =
    (s ≡ infer_clock ctx e) × (after ≡ before ++ reverse (known_operands ctx e))

-- a walk over a row of terms adds their known operands, the last one first
abbrev pub IsRowWalked :
    Context → List Term → (before after : List Operand) → List Operand → Type 0
IsRowWalked ctx es before after os =
    (os ≡ operands_of ctx es) × (after ≡ before ++ reverse (known_among ctx es))
