-- The test whether equations stand in an order in which they can be computed.
-- This file says what data of the program mean: the test answers true only where they are `Ready`.
use Rattle.std.specs.Prelude.{ℕ, Bool, true, false, not, ◌&&◌, nat_lt, List, [], ◌∷◌, length}
use Rattle.std.specs.Prelude.{get_or, set}
use Rattle.std.specs.List.{list_all}
use Rattle.lb_flat.specs.Flat.{FlatEquation}
use Rattle.lb_flat.specs.Run.{equation_reads, keeps}

-- an element is done, in a table with a mark for each element
abbrev pub is_done : List Bool → ℕ → Bool
is_done done i = get_or done i false

-- an equation can be computed where these elements are done
abbrev pub is_next : List Bool → FlatEquation → Bool
is_next done q =
    list_all (is_done done) (equation_reads q)
    && (list_all (λ i. nat_lt i (length done)) (keeps q.operation)
    && (nat_lt q.element (length done) && not (is_done done q.element)))

-- each equation can be computed where the elements before it are done, and at the end all are done
unfoldable pub is_in_order : List Bool → List FlatEquation → Bool
is_in_order done [] = list_all (λ b. b) done
is_in_order done (q ∷ qs) = is_next done q && is_in_order (set done q.element true) qs
