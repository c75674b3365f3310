-- The verdict of a trace, from the history that solves the program on it.
-- Source: this project's rule, after the 1993 paper on synchronous observers: an assertion is an
-- assumption on the environment, and the property is judged only while the assumptions have held.
use Rattle.std.specs.Prelude.{◌≡◌, ℕ, zero, suc, ◌+◌, ◌<◌, Bool, true, false, ◌||◌, Option, Some}
use Rattle.std.specs.Prelude.{None, List, ◌++◌, map, length, flat_map, slice_get, if◌then◌else◌}
use Rattle.std.specs.List.{list_any, filter}
use Rattle.lb_syntax.specs.Lists.{some_of, listed}
use Rattle.lb_syntax.specs.Tree.{Name, Expr, Fby, Pre, Current, Declaration, Node, Statement}
use Rattle.lb_syntax.specs.Tree.{Equation, Assertion}
use Rattle.lb_static.specs.Instances.{Program, Instance, Path, Root, Observer, instance_at}
use Rattle.lb_static.specs.Instances.{instances}
use Rattle.lb_static.specs.Parts.{among, clock_names}
use Rattle.lb_static.specs.DataTypes.{variables}
use Rattle.lb_check.specs.Scalars.{Boolean, Nil, Bad, Cell, Stream}
use Rattle.lb_check.specs.Clocks.{Clock, clock_of, clock_or}
use Rattle.lb_check.specs.Occurrences.{Occurrence, at, call_count, node_occurrences, statements}
use Rattle.lb_check.specs.Streams.{History}
use Rattle.lb_check.specs.Solutions.{Inputs, Solves, streams_at}
pub use Rattle.lb_check.specs.declared.verdict.Verdict.{Verdict}
pub use Rattle.lb_check.specs.declared.verdict.Verdict.TheVariants.{Passed, Fault, Undefined}
pub use Rattle.lb_check.specs.declared.verdict.Verdict.TheVariants.{Assertion as Assertion_fails}
pub use Rattle.lb_check.specs.declared.verdict.Verdict.TheVariants.{False}

-- ## Named places

-- the operand that `pre`, `fby` or `current` keeps
abbrev pub operand_of : Program → Instance → Clock → ℕ → Expr → Option Occurrence
operand_of P here k n (Pre a) = Some (at k n a)
operand_of P here k n (Fby a b) = Some (at k (n + call_count a) b)
operand_of P here k n (Current a) = Some (at (clock_or (clock_of P here.node a)) n a)
operand_of P here k n e = None

abbrev pub memory_operand : Program → Instance → Occurrence → Option Occurrence
memory_operand P here o = operand_of P here o.clock o.calls_before o.expr

abbrev pub memory_operands : Program → Instance → List Occurrence
memory_operands P here = some_of (map (memory_operand P here) (node_occurrences P here.node))

-- the right side of an assertion
abbrev pub assertion_of : Statement → Occurrence → Option Occurrence
assertion_of (Assertion e) o = Some o
assertion_of (Equation lefts e) o = None

abbrev pub assertions : Program → Node → List Occurrence
assertions P n = some_of (map (λ s. assertion_of s.0 s.1) (statements P n))

-- the streams of the variables of an instance, inputs among them
abbrev pub variable_columns : History → Instance → List Stream
variable_columns H here = flat_map (λ d. H.columns here.path d.name) (variables here.node)

-- the streams of the operands that the memories of an instance keep
abbrev pub memory_columns : Program → History → Instance → List Stream
memory_columns P H here = flat_map (streams_at P H here) (memory_operands P here)

-- the streams of the assertions of an instance
abbrev pub assertion_columns : Program → History → Instance → List Stream
assertion_columns P H here = flat_map (streams_at P H here) (assertions P here.node)

-- the places at which a fault counts
abbrev pub named_places : Program → History → Instance → List Stream
named_places P H here =
    variable_columns H here ++ (memory_columns P H here ++ assertion_columns P H here)

-- the variables of a node that serve as clocks: some `when` of the node names them
abbrev pub clock_variables : Node → List Declaration
clock_variables n = filter (λ d. among d.name (clock_names n)) (variables n)

-- the streams of the clock variables of an instance
abbrev pub clock_columns : History → Instance → List Stream
clock_columns H here =
    flat_map (λ d. H.columns here.path d.name) (clock_variables here.node)

-- ## The events of an instant

-- whether a cell is present and holds a fault
abbrev pub is_bad : Option Cell → Bool
is_bad (Some (Some Bad)) = true
is_bad x = false

-- whether a cell is present and nil
abbrev pub is_nil : Option Cell → Bool
is_nil (Some (Some Nil)) = true
is_nil x = false

-- whether a cell is present and false
abbrev pub is_false : Option Cell → Bool
is_false (Some (Some (Boolean false))) = true
is_false x = false

-- whether one of some streams passes a test at instant `t`
abbrev pub some_at : (Option Cell → Bool) → ℕ → List Stream → Bool
some_at test t xss = list_any (λ xs. test (slice_get xs t)) xss

-- whether a fault occurs: a named place holds one
abbrev pub is_fault : Program → History → ℕ → Bool
is_fault P H t = list_any (λ here. some_at is_bad t (named_places P H here)) (instances P)

-- whether an assertion of some instance is false
abbrev pub is_failed : Program → History → ℕ → Bool
is_failed P H t = list_any (λ here. some_at is_false t (assertion_columns P H here)) (instances P)

-- the path of the node whose one output is the property: the observer, or else the node under test
abbrev pub property_path : Option Name → Path
property_path None = Root
property_path (Some o) = Observer

abbrev pub property_columns : Program → History → List Stream
property_columns P H =
    listed (λ here. flat_map (λ d. H.columns here.path d.name) here.node.outputs)
    (instance_at P (property_path P.observer))

-- whether the property is false
abbrev pub is_violated : Program → History → ℕ → Bool
is_violated P H t = some_at is_false t (property_columns P H)

-- whether nil stands where a truth is wanted: in a variable that serves as a clock, an assertion or
-- the property
abbrev pub is_undefined : Program → History → ℕ → Bool
is_undefined P H t =
    list_any (λ here. some_at is_nil t (clock_columns H here)) (instances P)
    || (list_any (λ here. some_at is_nil t (assertion_columns P H here)) (instances P)
    || some_at is_nil t (property_columns P H))

-- ## The verdict

-- whether instant `t` decides: a fault, a nil truth, a failed assertion or a false property
abbrev pub decides : Program → History → ℕ → Bool
decides P H t =
    is_fault P H t || (is_undefined P H t || (is_failed P H t || is_violated P H t))

-- `t` is the first of `count` instants that decides
pub record IsLeast (P : Program) (H : History) (count t : ℕ) : Type 0 where
  pub within : t < count
  pub happens : decides P H t ≡ true
  pub not_before : (s : ℕ) → s < t → decides P H s ≡ false

-- the verdict at the end of a history over `count` instants: at the first instant that decides, a
-- fault comes before what is undefined, that before an assertion, and an assertion before the
-- property
abbrev pub Ends : Program → History → ℕ → Verdict → Type 0
Ends P H count Passed = (t : ℕ) → t < count → decides P H t ≡ false
Ends P H count (Fault t) = IsLeast P H count t × (is_fault P H t ≡ true)
Ends P H count (Undefined t) =
    IsLeast P H count t × (is_fault P H t ≡ false) × (is_undefined P H t ≡ true)
Ends P H count (Assertion_fails t) =
    IsLeast P H count t × (is_fault P H t ≡ false) × (is_undefined P H t ≡ false)
    × (is_failed P H t ≡ true)
Ends P H count (False t) =
    IsLeast P H count t × (is_fault P H t ≡ false) × (is_undefined P H t ≡ false)
    × (is_failed P H t ≡ false)

-- the verdict of a trace
abbrev pub HasVerdict : Program → Inputs → Verdict → Type 0
HasVerdict P X v = (H : History) × Solves P X H × Ends P H (length X) v

-- a trace has this verdict, and no other
pub record IsOnlyVerdict (P : Program) (X : Inputs) (v : Verdict) : Type 0 where
  pub has : HasVerdict P X v
  pub only : (w : Verdict) → HasVerdict P X w → v ≡ w

-- ## The verdict by looking at one instant after another

-- the verdict that instant `t` decides; `Passed` where it decides nothing
abbrev pub judged : Program → History → ℕ → Verdict
judged P H t =
    if is_fault P H t then Fault t else
    if is_undefined P H t then Undefined t else
    if is_failed P H t then Assertion_fails t else
    if is_violated P H t then False t else Passed

abbrev pub or_later : Verdict → Verdict → Verdict
or_later Passed v = v
or_later v w = v

-- the verdict over `n` instants from instant `t` on
abbrev pub verdict_from : Program → History → ℕ → ℕ → Verdict
verdict_from P H t zero = Passed
verdict_from P H t (suc n) = or_later (judged P H t) (verdict_from P H (suc t) n)
