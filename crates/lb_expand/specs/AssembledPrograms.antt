-- The flat program that is put together from the emitted equations.
-- This file mirrors code (src/expansion/term_emission/program_emission.rt); no definition of the
-- language stands on it.
use Rattle.std.specs.Prelude.{ℕ, List, ◌++◌}
use Rattle.lb_syntax.specs.declared.tree.Kind.{Kind}
use Rattle.lb_expand.specs.Emit.{State}
use Rattle.lb_flat.specs.Flat.{FlatEquation}
use Rattle.lb_flat.specs.Judging.{FlatProgram}

-- all equations of a state, behind `qs`
abbrev pub equations_behind : List FlatEquation → State → List FlatEquation
equations_behind qs s = (qs ++ s.copies) ++ s.equations

-- the flat program of a state, with its equations, the kinds of its inputs and of its elements, the
-- number of elements of variables, the elements that serve as clocks, and the element of the
-- property
abbrev pub assembled :
    State → List FlatEquation → (inputs kinds : List Kind) → (variables : ℕ) → List ℕ →
    (property : ℕ) → FlatProgram
assembled s equations inputs kinds variables clock_elements property = record {
  inputs = inputs;
  kinds = kinds;
  equations = equations;
  size = s.next;
  variables = variables;
  memory_operands = s.memory_operands;
  clock_elements = clock_elements;
  asserted = s.asserted;
  property = property;
}
