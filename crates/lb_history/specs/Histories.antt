-- The cells of a history, and those of the history that solves a program on a recorded trace.
-- Source: this project's rule.
use Rattle.std.specs.Prelude.{◌≡◌, ℕ, Some, None, [], get_or, slice_get}
use Rattle.lb_static.specs.DataTypes.{signature}
use Rattle.lb_static.specs.Instances.{Program}
use Rattle.lb_check.specs.Elements.{program_elements}
use Rattle.lb_check.specs.Needs.{Element}
use Rattle.lb_check.specs.Scalars.{Cell}
use Rattle.lb_check.specs.Solutions.{Solves}
use Rattle.lb_check.specs.Streams.{History}
use Rattle.lb_flat.specs.FlatPrograms.{IsFlatOf}
use Rattle.lb_flat.specs.Inputs.{inputs_of}
use Rattle.lb_flat.specs.Judging.{FlatProgram}
use Rattle.lb_traces.specs.Traces.{Recording}

-- the cell of an element of a variable of an instance at instant t; it is absent where there is no
-- such element
abbrev pub history_cell : History → Element → ℕ → Cell
history_cell H e t = get_or (get_or (H.columns e.path e.variable) e.index []) t None

-- x is the cell of element i at instant t of trace k: in each program that the flat one stands for
-- and whose signature the traces have, by each history that solves it on the trace (there is one)
abbrev pub IsHistoryCell : FlatProgram → Recording → (k t i : ℕ) → Cell → Type 0
IsHistoryCell f r k t i x =
    (P : Program) → IsFlatOf P f → signature P ≡ r.signature →
    (H : History) → Solves P (inputs_of r k) H →
    (e : Element) → slice_get (program_elements P) i ≡ Some e → x ≡ history_cell H e t
