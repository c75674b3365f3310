-- Solutions of a flat program: streams that solve its equations, with the kinds of its elements and
-- the instants at which each is present.
-- Source: this project's rule.
use Rattle.std.specs.Prelude.{◌≡◌, ℕ, true, List}
use Rattle.lb_syntax.specs.declared.tree.Kind.{Kind}
use Rattle.lb_syntax.specs.Lists.{Every}
use Rattle.lb_check.specs.Scalars.{Stream}
use Rattle.lb_check.specs.Solutions.{Inputs, fits, is_row}
use Rattle.lb_flat.specs.Flat.{FlatEquation, column, instants, FlatSolves}
use Rattle.lb_flat.specs.Judging.{FlatProgram}

-- the element of an equation is present exactly on its clock, with scalars of its kind
abbrev pub IsCellFit : (ℕ → Kind) → Inputs → List Stream → FlatEquation → Type 0
IsCellFit kinds X F q =
    fits (kinds q.element) (instants X F q.clock) (column X F q.element) ≡ true

-- streams solve a flat program on a trace of this signature: the equations hold, and each element
-- is present exactly on its clock, with scalars of its kind
pub record IsFlatSolution (signature : List Kind) (kinds : ℕ → Kind) (f : FlatProgram)
    (X : Inputs) (F : List Stream) : Type 0 where
  pub rows : Every (λ row. is_row signature row ≡ true) X
  pub equations : FlatSolves f.size f.equations X F
  pub cells : Every (IsCellFit kinds X F) f.equations
