-- Comma-separated values of the elements of a program: a header, and a record for each instant.
-- Source: this project's rule.
use Rattle.std.specs.Prelude.{ℕ, zero, suc, Bool, true, false, Some, None, List, [], ◌∷◌, ◌++◌, map}
use Rattle.std.specs.Prelude.{codes, decimal, flat_map}
use Rattle.std.specs.Fmt.{signed_decimal}
use Rattle.lb_check.specs.Scalars.{Cell, Integer, Boolean, Nil, Bad}
use Rattle.lb_check.specs.Solutions.{Inputs}
use Rattle.lb_flat.specs.Judging.{FlatProgram}
use Rattle.lb_flat.specs.Run.{Row, cell}
use Rattle.lb_history.specs.Replaying.{row_at}

abbrev pub truth_text : Bool → List ℕ
truth_text true = codes "1"
truth_text false = codes "0"

-- the text of a cell: a number, 0 or 1; empty where the cell is absent
abbrev pub cell_text : Cell → List ℕ
cell_text None = []
cell_text (Some (Integer z)) = signed_decimal z
cell_text (Some (Boolean b)) = truth_text b
cell_text (Some Nil) = codes "?"
cell_text (Some Bad) = codes "!"

-- a comma, and a name or a cell behind it
abbrev pub field : List ℕ → List ℕ
field text = codes "," ++ text

abbrev pub cell_field : Cell → List ℕ
cell_field x = field (cell_text x)

-- the header: the names of the elements
abbrev pub header : List (List ℕ) → List ℕ
header names = codes "instant" ++ (flat_map field names ++ codes "\n")

-- the record of an instant
abbrev pub record_text : ℕ → List Cell → List ℕ
record_text t cells = decimal t ++ (flat_map cell_field cells ++ codes "\n")

-- the cells of some elements in a row
abbrev pub cells_in : Row → List ℕ → List Cell
cells_in row is = map (cell row) is

-- the records of `count` instants from instant t on
abbrev pub records : FlatProgram → Inputs → List ℕ → (t count : ℕ) → List ℕ
records f X is t zero = []
records f X is t (suc n) =
    record_text t (cells_in (row_at f X t) is) ++ records f X is (suc t) n
