-- The parts of a flat program that are known before its instants, and those left for each instant.
-- Source: this project's rule.
use Rattle.std.specs.Prelude.{ℕ, suc, Bool, true, false, not, ◌||◌, ◌≡◌, List, [], ◌∷◌, map}
use Rattle.std.specs.Prelude.{if◌then◌else◌}
use Rattle.std.specs.List.{filter}
use Rattle.lb_syntax.specs.Lists.{Every}
use Rattle.lb_flat.specs.declared.equation.InputPlace.{InputPlace}
use Rattle.lb_flat.specs.Flat.{FlatClock, Always, Where, Operation, Input, Constant, FirstThen}
use Rattle.lb_flat.specs.Flat.{Previous, Latest, FlatEquation}
use Rattle.lb_flat.specs.Run.{Row, cell, now}

-- whether an operation is a scalar of the trace
abbrev pub is_input : Operation → Bool
is_input (Input j) = true
is_input o = false

abbrev pub is_base : FlatClock → Bool
is_base Always = true
is_base (Where k i sign) = false

-- a constant on the base clock, which is the same at each instant
abbrev pub is_fixed : FlatClock → Operation → Bool
is_fixed k (Constant v) = is_base k
is_fixed k o = false

abbrev pub fixed_in : List FlatEquation → List FlatEquation
fixed_in Q = filter (λ q. is_fixed q.clock q.operation) Q

-- whether an equation is computed at each instant
abbrev pub is_step : FlatEquation → Bool
is_step q = not (is_input q.operation || is_fixed q.clock q.operation)

abbrev pub steps_in : List FlatEquation → List FlatEquation
steps_in Q = filter is_step Q

-- the equation of an element that holds an input
abbrev pub place_equation : InputPlace → FlatEquation
place_equation p = record { element = p.element.0; clock = Always; operation = Input p.input.0 }

-- an equation moved to the base clock: inputs are present at each instant
abbrev pub on_base : FlatEquation → FlatEquation
on_base q = record q { clock = Always }

abbrev pub inputs_in : List FlatEquation → List FlatEquation
inputs_in Q = map on_base (filter (λ q. is_input q.operation) Q)

-- whether an operation has a memory, which changes from an instant to the next
abbrev pub has_memory : Operation → Bool
has_memory (FirstThen started a b) = true
has_memory (Previous v a) = true
has_memory (Latest v a) = true
has_memory o = false

-- the places of the equations that have a memory, where the first equation has place `n`
abbrev pub memory_places : ℕ → List FlatEquation → List ℕ
memory_places n [] = []
memory_places n (q ∷ Q) =
    if has_memory q.operation then n ∷ memory_places (suc n) Q else memory_places (suc n) Q

-- a row holds the constants on the base clock
abbrev pub HoldsFixed : Row → FlatEquation → Type 0
HoldsFixed row q =
    is_fixed q.clock q.operation ≡ true →
    cell row q.element ≡ now [] row q.clock q.operation

abbrev pub AreFixed : Row → List FlatEquation → Type 0
AreFixed row Q = Every (HoldsFixed row) Q
