-- The whole flat program that `expand` emits from the rows of the table of instances.
-- This file mirrors code (src/expansion/start_emission.rt, begin_emission.rt, clock_emission.rt and
-- whole_emission.rt); no definition of the language stands on it.
use Rattle.std.specs.Prelude.{◌≡◌, ◌<◌, ℕ, suc, ◌+◌, ◌^◌, Bool, true, false, Option, Some, None}
use Rattle.std.specs.Prelude.{List, [], ◌∷◌, ◌++◌, map, flat_map, get_or, length, option_map}
use Rattle.std.specs.Prelude.{if◌then◌else◌}
use Rattle.std.specs.List.{range_with_len}
use Rattle.lb_syntax.specs.Lists.{or_else, listed}
use Rattle.lb_syntax.specs.declared.tree.Kind.{Kind}
use Rattle.lb_static.specs.declared.reachable.Reached.{Reached}
use Rattle.lb_static.specs.declared.resolved.ResolvedNode.{ResolvedNode}
use Rattle.lb_static.specs.declared.table.Origin.{Origin}
use Rattle.lb_static.specs.declared.table.Table.{Table}
use Rattle.lb_expand.specs.declared.expansion.start.Start.{Start}
use Rattle.lb_expand.specs.ClockUses.{clock_numbers}
use Rattle.lb_expand.specs.Emit.{Target, copied, from_inputs, before_instances}
use Rattle.lb_expand.specs.EmitRows.{bodies}
use Rattle.lb_expand.specs.EmitTerms.{Context, emit_rows}
use Rattle.lb_flat.specs.Flat.{FlatClock, FlatEquation, Input}
use Rattle.lb_flat.specs.TemporaryKinds.{kinds_from}
use Rattle.lb_flat.specs.Judging.{FlatProgram}
use Rattle.lb_expand.specs.TableClocks.{node_at}
use Rattle.lb_static.specs.declared.table.Instance as row
use Rattle.lb_static.specs.declared.table.Origin.TheVariants as origin

-- ## Variables of a row

-- the equation by which an element is a scalar of the trace
abbrev pub input_of : FlatClock → (element input : ℕ) → FlatEquation
input_of k i j = record { element = i; clock = k; operation = Input j }

-- the elements of a variable, as targets
abbrev pub variable_targets : Context → ℕ → List Target
variable_targets ctx x = map (λ p. record { place = p; clock = ctx.declared x }) (ctx.places x)

-- the elements of the first `n` variables, as targets
abbrev pub parameter_targets : Context → ℕ → List Target
parameter_targets ctx n = flat_map (variable_targets ctx) (range_with_len 0 n)

-- the elements of `n` variables, from number `first` on
abbrev pub places_from : Context → (first count : ℕ) → List ℕ
places_from ctx first n = flat_map ctx.places (range_with_len first n)

-- ## Rows that start

abbrev pub is_start : (observer : Bool) → Origin → Bool
is_start false origin.UnderTest = true
is_start true origin.Observer = true
is_start b o = false

-- the start at row `j`, whose node is `n`
abbrev pub start_of : ℕ → ResolvedNode → Start
start_of j n = record { row = j; inputs = n.inputs; outputs = n.outputs }

-- the first of these rows that starts the node under test, or the observer
unfoldable pub start_from :
    Reached → Table → (observer : Bool) → ℕ → List row.Instance → Option Start
start_from r t b j [] = None
start_from r t b j (i ∷ rows) =
    if is_start b i.origin then option_map (start_of j) (node_at r t i)
    else start_from r t b (suc j) rows

abbrev pub start_in : Reached → Table → (observer : Bool) → Option Start
start_in r t b = start_from r t b 0 t.instances.items

module _ (cs : ℕ → Context) where
  -- the equations by which the inputs of a row that starts are those of the trace
  abbrev pub given_at : Option Start → List FlatEquation
  given_at None = []
  given_at (Some s) = from_inputs 0 (parameter_targets (cs s.row) s.inputs)

  -- the equations by which the observer receives the inputs and outputs of the node under test
  abbrev pub observed_at : Option Start → Option Start → List FlatEquation
  observed_at (Some root) (Some o) =
      copied (parameter_targets (cs o.row) o.inputs)
      (places_from (cs root.row) 0 (root.inputs + root.outputs))
  observed_at root o = []

  -- the equations that begin a flat program
  abbrev pub begun_at : Option Start → Option Start → List FlatEquation
  begun_at root o = given_at root ++ observed_at root o

  -- the elements of the outputs of a row that starts
  abbrev pub outputs_at : Option Start → List ℕ
  outputs_at None = []
  outputs_at (Some s) = places_from (cs s.row) s.inputs s.outputs

  -- the elements of the variables of a row that serve as clocks
  abbrev pub clocks_in : Reached → Table → ℕ → row.Instance → List ℕ
  clocks_in r t j i = listed (λ n. flat_map (cs j).places (clock_numbers n)) (node_at r t i)

-- a row that starts can be entered, and its inputs and outputs can be counted
pub record IsReady (cs : ℕ → Context) (is_row : ℕ → Bool) (s : Start) : Type 0 where
  pub there : is_row s.row ≡ true
  pub inputs_counted : length (parameter_targets (cs s.row) s.inputs) < 2 ^ 32
  pub all_counted : s.inputs + s.outputs < 2 ^ 64

-- the elements of the variables of rows that serve as clocks; the first row has number `j`
unfoldable pub row_clocks : Reached → Table → (ℕ → Context) → ℕ → List row.Instance → List ℕ
row_clocks r t cs j [] = []
row_clocks r t cs j (i ∷ rows) = clocks_in cs r t j i ++ row_clocks r t cs (suc j) rows

-- ## The whole program

-- the whole flat program on inputs of the kinds `inputs`; its first `count` elements are those of
-- variables, and have the kinds `kinds`
abbrev pub whole :
    Reached → Table → (ℕ → Context) → (inputs kinds : List Kind) → ℕ → FlatProgram
whole r t cs inputs kinds count =
    let s = emit_rows (before_instances count) (bodies r t cs 0 t.instances.items) in
    let root = start_in r t false in
    let observer = start_in r t true in
    record {
      inputs = inputs;
      kinds = kinds ++ kinds_from kinds s.equations;
      equations =
          given_at cs root ++ (observed_at cs root observer ++ (s.copies ++ s.equations));
      size = s.next;
      variables = count;
      memory_operands = s.memory_operands;
      clock_elements = row_clocks r t cs 0 t.instances.items;
      asserted = s.asserted;
      property = get_or (outputs_at cs (or_else observer root)) 0 0;
    }
