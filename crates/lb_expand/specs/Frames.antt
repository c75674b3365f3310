-- The meaning of a frame of the code that expands resolved terms.
-- This file says what data of the program mean; no definition of the language stands on it.
use Rattle.std.specs.Prelude.{ℕ, ◌+◌, ◌<◌, ◌≤◌, ◌^◌, List, ◌++◌, map}
use Rattle.std.specs.List.{range_with_len}
use Rattle.lb_expand.specs.declared.expansion.frame.Elements.{Elements}
use Rattle.lb_expand.specs.declared.expansion.frame.Cursor.{Cursor as CodePlace}
use Rattle.lb_expand.specs.Emit.{State, Target}
use Rattle.lb_expand.specs.EmitTerms.{Cursor, PlacedEmitted, PlacedState, placed}
use Rattle.lb_flat.specs.Flat.{FlatClock, FlatEquation, Copy}
use Rattle.lb_expand.specs.TermEmissions.{onto}

-- the elements of a variable
abbrev pub elements_of : Elements → List ℕ
elements_of e = range_with_len e.first e.count

-- the elements `e` stand before element `n`
abbrev pub AreBefore : ℕ → Elements → Type 0
AreBefore n e = e.first + e.count ≤ n

-- elements as targets on one clock
abbrev pub targets_of : FlatClock → List ℕ → List Target
targets_of k is = map (λ i. record { place = i; clock = k }) is

abbrev pub place_of : CodePlace → Cursor
place_of at = record { term = at.term; call = at.call }

-- the equation by which element `i` is a copy of element `j`
abbrev pub copy_of : FlatClock → (element operand : ℕ) → FlatEquation
copy_of k i j = record { element = i; clock = k; operation = Copy j }

-- the state with `qs` added to the equations of elements of variables
abbrev pub with_copies : State → List FlatEquation → State
with_copies s qs = record s { copies = s.copies ++ qs }

-- a place is one that the code can hold
pub record HasPlaces (at : Cursor) : Type 0 where
  pub terms : at.term < 2 ^ 64
  pub calls : at.call < 2 ^ 64

-- the numbers of elements, terms and calls after an emission are ones that the code can hold
pub record HasRoom (r : PlacedEmitted) : Type 0 where
  pub elements : r.emitted.state.next < 2 ^ 32
  pub places : HasPlaces r.place

-- an emission, with its elements above the elements `below` of a stack
abbrev pub stacked : List ℕ → PlacedEmitted → PlacedEmitted
stacked below r = placed r.place (onto below r.emitted)

-- the state behind a statement, and the place after the statement
abbrev pub placed_state : Cursor → State → PlacedState
placed_state at s = record { place = at; state = s }
