-- The meaning of the tests of cells.
-- This file says what data of the program mean; no definition of the language stands on it.
use Rattle.std.specs.Prelude.{ℕ, Bool}
use Rattle.lb_check.specs.Scalars.{Cell}
use Rattle.lb_flat.specs.declared.equation.ElementId.{ElementId}
use Rattle.lb_reason.specs.Deciding.{is_bad, is_nil, is_false, is_true, is_present}
use Rattle.lb_reason.specs.declared.deciding.Test.{Test}
use Rattle.lb_reason.specs.declared.deciding.Test.TheVariants.{Bad, Nil, False, True, Present}

abbrev pub passes : Test → Cell → Bool
passes Bad = is_bad
passes Nil = is_nil
passes False = is_false
passes True = is_true
passes Present = is_present

-- the number of an element
abbrev pub number : ElementId → ℕ
number e = e.0
