-- The table of clocks by paths and names: the number of the row at a path, the number of a variable
-- of an instance, and the places of the clocks of variables.
-- This file mirrors code (src/clocks.rt); no definition of the language stands on it.
use Rattle.std.specs.Prelude.{ℕ, ◌+◌, ◌*◌, Option, None, List, get_or}
use Rattle.std.specs.Str.{bytes_eq}
use Rattle.lb_syntax.specs.Lists.{either_or, listed}
use Rattle.lb_syntax.specs.Tree.{Name}
use Rattle.lb_static.specs.Instances.{Program, Instance, Path, Root, Observer, Child, is_path}
use Rattle.lb_static.specs.Instances.{instance_at, instances}
use Rattle.lb_static.specs.Parts.{variable_names}
use Rattle.lb_expand.specs.ClockTables.{IsClockTable}
use Rattle.lb_expand.specs.Rows.{place_where}
use Rattle.lb_expand.specs.declared.clocks.Clocks.{Clocks}
use Rattle.lb_flat.specs.declared.equation.ClockId.{ClockId}

-- the number of the row at a path; 0 where there is none
abbrev pub row_number : Program → Path → ℕ
row_number P p = either_or (place_where (λ (c : Instance). is_path c.path p) (instances P)) 0

-- the number of `x` among `names`; 0 where it is not among them
abbrev pub name_number : List Name → Name → ℕ
name_number names x = either_or (place_where (λ y. bytes_eq y x) names) 0

-- the number of variable `x` among those of the instance at path `p`
abbrev pub variable_place : Program → Path → Name → ℕ
variable_place P p x =
    name_number (listed (λ (c : Instance). variable_names c.node) (instance_at P p)) x

-- the clock on which the instance at a path runs, where `runs` holds the clock of each row
abbrev pub path_runs : Program → List (Option ClockId) → Path → Option ClockId
path_runs P runs Root = None
path_runs P runs Observer = None
path_runs P runs (Child p c i) = get_or runs (row_number P (Child p c i)) None

-- how many variables stand before the row at a path, where `variables` holds this for each row
abbrev pub path_before : Program → List ℕ → Path → ℕ
path_before P variables p = get_or variables (row_number P p) 0

-- the place of the first clock of variable `x` of the instance at path `p`
abbrev pub path_place : Program → List ℕ → Path → Name → ℕ
path_place P variables p x = 2 * (path_before P variables p + variable_place P p x)

-- `c` holds the clocks of a program, where `variables` counts the variables before each row
abbrev pub AreClocksOf : Program → List ℕ → Clocks → Type 0
AreClocksOf P variables c =
    IsClockTable P c.table.items (path_place P variables) (path_runs P c.runs.items)
    (path_before P variables)
