-- Refusals: their numbers, words and places.
-- Source: this project's rule; the numbers and words are part of the product.
use Rattle.std.specs.Prelude.{ℕ, Option, Some, None, List, [], ◌∷◌, codes, get_or}
use Rattle.lb_syntax.specs.declared.error.SyntaxError.{SyntaxError}
use Rattle.lb_syntax.specs.declared.error.SyntaxError.TheVariants as syntax
use Rattle.lb_static.specs.declared.error.StaticError.{StaticError}
use Rattle.lb_static.specs.declared.error.StaticError.TheVariants as static
use Rattle.lb_cause.specs.declared.error.CheckError.{CheckError}
use Rattle.lb_cause.specs.declared.error.CheckError.TheVariants as check
use Rattle.lb_expand.specs.declared.error.FlatError.{FlatError}
use Rattle.lb_expand.specs.declared.error.FlatError.TheVariants as flat
use Rattle.lb_flat.specs.declared.error.OrderError.{OrderError}
use Rattle.lb_flat.specs.declared.error.OrderError.TheVariants as order
use Rattle.lb_trace.specs.Errors.{error_number}
use Rattle.lb_refusal.specs.declared.error.BenchError.{BenchError}
use Rattle.lb_refusal.specs.declared.error.BenchError.TheVariants as bench

-- the words, E0 first
abbrev pub words : List (List ℕ)
words =
    codes "memory"
    ∷ codes "character"
    ∷ codes "syntax"
    ∷ codes "size"
    ∷ codes "name"
    ∷ codes "constant"
    ∷ codes "range"
    ∷ codes "recursion"
    ∷ codes "root"
    ∷ codes "type"
    ∷ codes "clock"
    ∷ codes "definition"
    ∷ codes "large"
    ∷ codes "cycle"
    ∷ codes "header"
    ∷ codes "record"
    ∷ codes "cell"
    ∷ codes "trace"
    ∷ codes "limit"
    ∷ codes "write"
    ∷ codes "usage"
    ∷ codes "read"
    ∷ []

-- the word of a number
abbrev pub word_of : ℕ → List ℕ
word_of number = get_or words number []

abbrev pub syntax_number : SyntaxError → ℕ
syntax_number syntax.Memory = 0
syntax_number (syntax.Character line column) = 1
syntax_number (syntax.Syntax line column) = 2
syntax_number (syntax.Size line column) = 3

abbrev pub static_number : StaticError → ℕ
static_number static.Memory = 0
static_number (static.Name fault) = 4
static_number (static.Recursion cycle) = 7
static_number (static.Root fault) = 8
static_number (static.Value fault) = 5
static_number (static.Range fault) = 6
static_number (static.Instances fault) = 12

abbrev pub check_number : CheckError → ℕ
check_number check.Memory = 0
check_number (check.Type name) = 9
check_number (check.Clock name) = 10
check_number (check.Definition name) = 11

abbrev pub flat_number : FlatError → ℕ
flat_number flat.Memory = 0
flat_number (flat.Large fault) = 12

abbrev pub order_number : OrderError → ℕ
order_number order.Memory = 0
order_number (order.Cycle cycle) = 13

-- the number of a refusal
abbrev pub number_of : BenchError → ℕ
number_of bench.Memory = 0
number_of (bench.Syntax e) = syntax_number e
number_of (bench.Static e) = static_number e
number_of (bench.Check e) = check_number e
number_of (bench.Flat e) = flat_number e
number_of (bench.Order e) = order_number e
number_of (bench.Trace e) = error_number e

abbrev pub syntax_position : SyntaxError → Option (ℕ × ℕ)
syntax_position syntax.Memory = None
syntax_position (syntax.Character line column) = Some (line, column)
syntax_position (syntax.Syntax line column) = Some (line, column)
syntax_position (syntax.Size line column) = Some (line, column)

-- the line and the column of a refusal; E1, E2 and E3 alone have them
abbrev pub position_of : BenchError → Option (ℕ × ℕ)
position_of bench.Memory = None
position_of (bench.Syntax e) = syntax_position e
position_of (bench.Static e) = None
position_of (bench.Check e) = None
position_of (bench.Flat e) = None
position_of (bench.Order e) = None
position_of (bench.Trace e) = None
