-- The place with which an explanation begins.
-- Source: this project's rule.
use Rattle.std.specs.Prelude.{ℕ, Option, Some, None, List, [], ◌∷◌, ◌++◌, codes, decimal}
use Rattle.std.specs.Option.{unwrap_or}
use Rattle.lb_syntax.specs.Places.{line_of, column_of}
use Rattle.lb_syntax.specs.declared.error.SyntaxError.{SyntaxError}
use Rattle.lb_syntax.specs.declared.error.SyntaxError.TheVariants as syntax
use Rattle.lb_static.specs.declared.causes.CycleCall.{CycleCall}
use Rattle.lb_static.specs.declared.error.StaticError.{StaticError}
use Rattle.lb_static.specs.declared.error.StaticError.TheVariants as static
use Rattle.lb_cause.specs.declared.error.CheckError.{CheckError}
use Rattle.lb_cause.specs.declared.error.CheckError.TheVariants as check
use Rattle.lb_flat.specs.declared.error.CyclePlace.{CyclePlace}
use Rattle.lb_flat.specs.declared.error.OrderError.{OrderError}
use Rattle.lb_flat.specs.declared.error.OrderError.TheVariants as order
use Rattle.lb_refusal.specs.declared.error.BenchError.{BenchError}
use Rattle.lb_refusal.specs.declared.error.BenchError.TheVariants as bench

-- the offset of the first call of a cycle of calls
abbrev pub first_call : List CycleCall → Option ℕ
first_call [] = None
first_call (call ∷ calls) = Some call.offset

-- the offset of the first element of a cycle of elements
abbrev pub first_element : List CyclePlace → Option ℕ
first_element [] = None
first_element (place ∷ places) = Some place.offset

-- the offset of what breaks a rule of names, static values or instances; 0 for a node under test or
-- an observer that the text does not declare
abbrev pub static_offset : StaticError → Option ℕ
static_offset static.Memory = None
static_offset (static.Name fault) = Some (unwrap_or fault.value.offset 0)
static_offset (static.Recursion cycle) = first_call cycle.value.calls.items
static_offset (static.Root fault) = Some fault.value.offset
static_offset (static.Value fault) = Some fault.value.offset
static_offset (static.Range fault) = Some fault.value.offset
static_offset (static.Instances fault) = None

-- the offset of what breaks a rule of types, clocks or definitions
abbrev pub check_offset : CheckError → Option ℕ
check_offset check.Memory = None
check_offset (check.Type fault) = Some fault.value.offset
check_offset (check.Clock fault) = Some fault.value.offset
check_offset (check.Definition fault) = Some fault.value.offset

-- the offset of the first element that needs itself
abbrev pub order_offset : OrderError → Option ℕ
order_offset order.Memory = None
order_offset (order.Cycle cycle) = first_element cycle.value.places.items

-- the line and the column of an offset, if there is one
abbrev pub place_at : List ℕ → Option ℕ → Option (ℕ × ℕ)
place_at text None = None
place_at text (Some offset) = Some (line_of text offset, column_of text offset)

-- the line and the column that E1 to E3 hold
abbrev pub syntax_place : SyntaxError → Option (ℕ × ℕ)
syntax_place syntax.Memory = None
syntax_place (syntax.Character line column) = Some (line, column)
syntax_place (syntax.Syntax line column) = Some (line, column)
syntax_place (syntax.Size line column) = Some (line, column)

-- the line and the column of an error in the source, if the error holds its place
abbrev pub place_in : (source : List ℕ) → BenchError → Option (ℕ × ℕ)
place_in source bench.Memory = None
place_in source (bench.Syntax cause) = syntax_place cause
place_in source (bench.Static cause) = place_at source (static_offset cause)
place_in source (bench.Check cause) = place_at source (check_offset cause)
place_in source (bench.Flat cause) = None
place_in source (bench.Order cause) = place_at source (order_offset cause)
place_in source (bench.Trace cause) = None

-- the beginning of the first line, as `pump.lus:14:13: error: `
abbrev pub head : (name : List ℕ) → (line column : ℕ) → List ℕ
head name line column =
    name ++ codes ":" ++ decimal line ++ codes ":" ++ decimal column ++ codes ": error: "
