-- The promises of `expand` and `with_places`.
-- This file says what data of the program mean; no definition of the language stands on it.
use Rattle.std.specs.Prelude.{◌≡◌, true, false, length, Result, Ok, Err}
use Rattle.lb_static.specs.Instances.{Program}
use Rattle.lb_check.specs.TypeRules.{is_small}
use Rattle.lb_flat.specs.declared.flat.Flat.{Flat}
use Rattle.lb_expand.specs.declared.error.FlatError.{FlatError}
use Rattle.lb_flat.specs.declared.error.OrderError.{OrderError}
use Rattle.lb_flat.specs.Programs.{program_of}
use Rattle.lb_expand.specs.SizeFaults.{IsSizeFault}
use Rattle.lb_flat.specs.Correct.{IsExpansionOf}
use Rattle.lb_expand.specs.declared.error.FlatError.TheVariants as error
use Rattle.lb_flat.specs.declared.error.OrderError.TheVariants as order_error

-- ## Expansion

-- the answer to an accepted program is its expansion, unless it is too large or memory ran out
abbrev pub IsExpansionAnswer : Program → Result Flat FlatError → Type 0
IsExpansionAnswer P (Ok f) = (is_small P ≡ true) × IsExpansionOf P (program_of f.program)
IsExpansionAnswer P (Err error.Memory) = Unit {0}
IsExpansionAnswer P (Err (error.Large fault)) = (is_small P ≡ false) × IsSizeFault P fault

-- ## Places of a cycle

-- the second error is the cycle of the first with a place for each element; or memory ran out
abbrev pub IsPlaced : OrderError → OrderError → Type 0
IsPlaced e order_error.Memory = Unit {0}
IsPlaced order_error.Memory (order_error.Cycle d) = ⊥
IsPlaced (order_error.Cycle c) (order_error.Cycle d) =
    (d.value.elements.items ≡ c.value.elements.items)
    × (length d.value.places.items ≡ length d.value.elements.items)
