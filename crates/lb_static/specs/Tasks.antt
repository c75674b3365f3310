-- The tasks that are left in the walk over the constants.
-- This file says what data of the program mean; no definition of the language stands on it.
use Rattle.std.specs.Prelude.{ℕ, ◌+◌, Bool, cond, List, [], ◌∷◌, length}
use Rattle.lb_syntax.specs.Tree.{Constant}
use Rattle.lb_static.specs.Parts.{static_names}
use Rattle.lb_static.specs.declared.constants.Task.{Task}
use Rattle.lb_static.specs.declared.constants.Task.TheVariants.{Visit, Evaluate}

-- the place of the constant of a task
abbrev pub place_of : Task → ℕ
place_of (Visit place) = place
place_of (Evaluate place) = place

-- the number of tasks that may still come up at the constants that are not seen yet: two for each,
-- and one for each name in it
abbrev pub waiting : List Bool → List Constant → ℕ
waiting [] constants = 0
waiting (s ∷ seen) [] = 0
waiting (s ∷ seen) (c ∷ constants) =
    cond s 0 (2 + length (static_names c.value)) + waiting seen constants
