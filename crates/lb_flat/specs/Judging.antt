-- The elements that a flat program watches, and the verdict that its rows give.
-- Source: this project's rule: that of verdicts, on the elements of a flat program.
use Rattle.std.specs.Prelude.{ℕ, suc, Bool, Option, Some, List, [], ◌∷◌, ◌++◌, if◌then◌else◌}
use Rattle.std.specs.List.{list_any, range_with_len}
use Rattle.lb_syntax.specs.declared.tree.Kind.{Kind}
use Rattle.lb_check.specs.declared.verdict.Verdict.{Verdict}
use Rattle.lb_check.specs.declared.verdict.Verdict.TheVariants.{Passed, Fault, Undefined, Assertion}
use Rattle.lb_check.specs.declared.verdict.Verdict.TheVariants.{False}
use Rattle.lb_check.specs.Scalars.{Cell}
use Rattle.lb_check.specs.Solutions.{Inputs}
use Rattle.lb_check.specs.Verdicts.{is_bad, is_nil, is_false, or_later}
use Rattle.lb_flat.specs.Flat.{FlatEquation}
use Rattle.lb_flat.specs.Run.{Row, cell, run}

-- equations on `size` elements, the first `variables` of which are those of variables, with the
-- kinds of the inputs and of each element; and the elements that hold the operands of memories, the
-- variables that serve as clocks, the assertions and the property
pub record FlatProgram : Type 0 where
  pub inputs : List Kind
  pub kinds : List Kind
  pub equations : List FlatEquation
  pub size : ℕ
  pub variables : ℕ
  pub memory_operands : List ℕ
  pub clock_elements : List ℕ
  pub asserted : List ℕ
  pub property : ℕ

-- the elements at which a fault counts
abbrev pub named_elements : FlatProgram → List ℕ
named_elements f = range_with_len 0 f.variables ++ (f.memory_operands ++ f.asserted)

-- the elements at which a truth is wanted
abbrev pub truth_elements : FlatProgram → List ℕ
truth_elements f = f.clock_elements ++ (f.asserted ++ f.property ∷ [])

-- one of these elements passes a test in a row
abbrev pub some_in : (Option Cell → Bool) → Row → List ℕ → Bool
some_in test row is = list_any (λ i. test (Some (cell row i))) is

-- the verdict of the row of instant `t`; `Passed` where it decides nothing
abbrev pub row_judged : FlatProgram → ℕ → Row → Verdict
row_judged f t row =
    if some_in is_bad row (named_elements f) then Fault t else
    if some_in is_nil row (truth_elements f) then Undefined t else
    if some_in is_false row f.asserted then Assertion t else
    if some_in is_false row (f.property ∷ []) then False t else Passed

-- the verdict of rows from instant t on
abbrev pub rows_judged : FlatProgram → ℕ → List Row → Verdict
rows_judged f t [] = Passed
rows_judged f t (row ∷ rows) = or_later (row_judged f t row) (rows_judged f (suc t) rows)

-- the verdict of a flat program on a trace
abbrev pub flat_verdict : FlatProgram → Inputs → Verdict
flat_verdict f X = rows_judged f 0 (run f.size f.equations X)
