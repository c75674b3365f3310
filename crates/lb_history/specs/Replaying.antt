-- A flat program on a trace, instant by instant: its equations with their memories, and the row of
-- cells.
-- Source: this project's rule.
use Rattle.std.specs.Prelude.{ℕ, zero, suc, List, [], map, get_or}
use Rattle.lb_check.specs.Solutions.{Inputs}
use Rattle.lb_flat.specs.Flat.{FlatEquation}
use Rattle.lb_flat.specs.Judging.{FlatProgram}
use Rattle.lb_flat.specs.Run.{Row, advanced, row_of}

-- the equations of `size` elements, with their memories as they are before instant t
abbrev pub equations_before : ℕ → List FlatEquation → Inputs → ℕ → List FlatEquation
equations_before size Q X zero = Q
equations_before size Q X (suc t) =
    let before = equations_before size Q X t in
    map (advanced (row_of size before (get_or X t []))) before

-- the row of instant t
abbrev pub row_at : FlatProgram → Inputs → ℕ → Row
row_at f X t = row_of f.size (equations_before f.size f.equations X t) (get_or X t [])
