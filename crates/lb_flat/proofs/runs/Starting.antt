-- A trace starts with the prepared state, whatever the room held before.
use Rattle.lb_flat.proofs.Words.{◌≡◌, ℕ, List, InputPlace, Cell}
use Rattle.lb_flat.specs.{PreparedPrograms.IsPrepared, declared.equation.Equation.Equation}
use Rattle.lb_flat.specs.declared.program.FlatProgram.{FlatProgram}

pub started :
    (p : FlatProgram) (inputs inputs_there : List InputPlace)
    (steps steps_there : List Equation) (memories memories_there : List ℕ)
    (row row_there : List Cell) → IsPrepared p inputs steps memories row →
    inputs_there ≡ inputs → steps_there ≡ steps → memories_there ≡ memories →
    row_there ≡ row → IsPrepared p inputs_there steps_there memories_there row_there
started p inputs inputs_there steps steps_there memories memories_there row row_there h a b c d =
    rw (a, b, c, d) h
