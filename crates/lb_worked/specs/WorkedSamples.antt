-- Short ways to write the traces of worked examples, and the histories that solve them.
-- Source: this project's words.
use Rattle.std.specs.Prelude.{ℕ, Bool, true, false, ◌&&◌, nat_eq, Option, Some, None, List, map}
use Rattle.std.specs.Prelude.{filter, length, slice_get, replicate, codes, find, if◌then◌else◌}
use Rattle.std.specs.Str.{bytes_eq}
use Rattle.std.specs.Str.Parse.{signed_digits_value}
use Prim.Native.String.{String}
use Rattle.lb_syntax.specs.Lists.{or_else, heads, listed, some_of, tail_of}
use Rattle.lb_syntax.specs.Tree.{Name}
use Rattle.lb_static.specs.WorkedTrees.{pieces, words}
use Rattle.lb_static.specs.Instances.{Path, Root, Observer, Child, is_path}
use Rattle.lb_check.specs.Scalars.{Integer, Boolean, Nil, Bad, Cell, Stream}
use Rattle.lb_check.specs.Streams.{History}
use Rattle.lb_check.specs.Solutions.{Inputs}
use Rattle.lb_check.specs.Needs.{Element}

-- ## Cells as they are written

-- the parts of a text between its semicolons
abbrev parts : String → List (List ℕ)
parts text = pieces 59 (codes text)

-- a cell: `.` for absent, `t` and `f` for true and false, `?` for nil, `!` for the value of a
-- fault, or a whole number
abbrev cell : List ℕ → Cell
cell w =
    if bytes_eq w (codes ".") then None else
    if bytes_eq w (codes "t") then Some (Boolean true) else
    if bytes_eq w (codes "f") then Some (Boolean false) else
    if bytes_eq w (codes "?") then Some Nil else
    if bytes_eq w (codes "!") then Some Bad else
    Some (Integer (signed_digits_value 10 w))

-- ## Traces

-- a trace: for each instant the cells of the scalar inputs, such as `1 t; -5 f` for two instants
abbrev pub trace : String → Inputs
trace text = map (λ row. some_of (map cell (words row))) (parts text)

-- ## Histories

-- a variable's name and its cells, one for each instant: `n 0 5 11` is `n` with 0, 5 and 11
abbrev column : List ℕ → Name × Stream
column line = let ws = words line in (heads ws, map cell (tail_of ws))

-- an instance: the instants at which it runs, and a column for each scalar of its variables. An
-- array has one column for each element, in order, all under its name
pub record Part : Type 0 where
  pub path : Path
  pub ticks : List Bool
  pub columns : List (Name × Stream)

abbrev truths : String → List Bool
truths text = map (λ w. bytes_eq w (codes "t")) (words (codes text))

-- the instance at `p` with the columns that `text` spells; it runs where `ticks` has `t`
abbrev pub running : String → Path → String → Part
running ticks p text = record { path = p; ticks = truths ticks; columns = map column (parts text) }

-- the instance at `p` with the columns that `text` spells; it runs at every instant
abbrev pub at : Path → String → Part
at p text =
    let columns = map column (parts text) in
    let count = length (listed (λ c. c.1) (slice_get columns 0)) in
    record { path = p; ticks = replicate count true; columns = columns }

abbrev part_at : List Part → Path → Option Part
part_at told p = find (λ part. is_path part.path p) told

-- the streams of the columns with the name `x`
abbrev columns_named : Name → Part → List Stream
columns_named x part = map (λ c. c.1) (filter (λ c. bytes_eq c.0 x) part.columns)

-- the history of the parts `told`, the node under test first. An instance without a part, such as
-- an observer, runs at the instants of the node under test
abbrev pub history : List Part → History
history told = record {
  ticks = λ p. listed (λ part. part.ticks) (or_else (part_at told p) (slice_get told 0));
  columns = λ p x. listed (columns_named x) (part_at told p);
}

-- ## Elements

-- element `i` of the variable `x` of the instance at `p`; `element` is for a scalar
abbrev pub element_of : Path → String → ℕ → Element
element_of p x i = record { path = p; variable = codes x; index = i }

abbrev pub element : Path → String → Element
element p x = element_of p x 0
