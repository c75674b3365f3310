-- The meaning of a flat program of the code, and the conditions under which it can be run.
-- Source: this project's rule.
use Rattle.std.specs.Prelude.{◌≡◌, ℕ, ◌<◌, ◌≤◌, List, [], length, map, All}
use Rattle.lb_flat.specs.declared.equation.ElementId.{ElementId}
use Rattle.lb_flat.specs.declared.equation.Clock.{Clock}
use Rattle.lb_flat.specs.declared.equation.Equation.{Equation}
use Rattle.lb_flat.specs.declared.program.FlatProgram.{FlatProgram}
use Rattle.lb_flat.specs.Flat.{FlatEquation}
use Rattle.lb_flat.specs.Judging as judging
use Rattle.lb_flat.specs.Run.{Ready}
use Rattle.lb_flat.specs.Values.{equation_of}
use Rattle.lb_flat.specs.Within.{AreClocks, IsWithin}

-- the numbers of some elements
abbrev pub numbers_of : List ElementId → List ℕ
numbers_of ids = map (λ a. a.0) ids

-- some equations, under the table of their clocks
abbrev pub flat_equations : List Clock → List Equation → List FlatEquation
flat_equations clocks qs = map (equation_of clocks) qs

-- the meaning of a flat program of the code
abbrev pub program_of : FlatProgram → judging.FlatProgram
program_of p = record {
  inputs = p.inputs.items;
  kinds = p.kinds.items;
  equations = flat_equations p.clocks.items p.equations.items;
  size = p.size;
  variables = p.variables;
  memory_operands = numbers_of p.memory_operands.items;
  clock_elements = numbers_of p.clock_elements.items;
  asserted = numbers_of p.asserted.items;
  property = p.property.0;
}

-- each element has a kind; all numbers are those of elements, and of clocks of the table
pub record IsInRange (p : FlatProgram) : Type 0 where
  pub kinds : length p.kinds.items ≡ p.size
  pub clocks : AreClocks p.size p.clocks.items
  pub equations : All (IsWithin p.size p.clocks.items) p.equations.items
  pub variables : p.variables ≤ p.size
  pub memory_operands : All (λ a. a.0 < p.size) p.memory_operands.items
  pub clock_elements : All (λ a. a.0 < p.size) p.clock_elements.items
  pub asserted : All (λ a. a.0 < p.size) p.asserted.items
  pub property : p.property.0 < p.size

-- equations of a program stand in an order in which they can be computed
abbrev pub AreInOrder : FlatProgram → List Equation → Type 0
AreInOrder p qs = Ready p.size [] (flat_equations p.clocks.items qs)

-- a program can be run
pub record IsRunnable (p : FlatProgram) : Type 0 where
  pub in_range : IsInRange p
  pub in_order : AreInOrder p p.equations.items
