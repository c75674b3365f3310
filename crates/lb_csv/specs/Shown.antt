-- The parts of the elements that are shown that contracts name.
-- This file says what data of the program mean; no definition of the language stands on it.
use Rattle.std.specs.Prelude.{ℕ, List, map, string_bytes}
use Rattle.lb_csv.specs.declared.column.Column.{Column}

-- the names of the elements that are shown
abbrev pub names_of : List Column → List (List ℕ)
names_of columns = map (λ c. string_bytes c.name) columns

-- the numbers of the elements that are shown
abbrev pub numbers_of : List Column → List ℕ
numbers_of columns = map (λ c. c.element.0) columns
