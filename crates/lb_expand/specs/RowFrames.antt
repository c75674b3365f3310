-- The meaning of the numbers in the text of a row's node, as the code reads it from stored data.
-- This file mirrors code (src/row_frame.rt); no definition of the language stands on it.
use Rattle.std.specs.Prelude.{◌≡◌, ℕ, ◌+◌, nat_le, ℤ, Bool, true, false, Option, Some, None}
use Rattle.std.specs.Prelude.{option_map, List, [], length, get_or, slice_get, if◌then◌else◌}
use Rattle.lb_syntax.specs.Lists.{◌>>=◌, either_or, listed}
use Rattle.lb_static.specs.Arithmetic.{is_int}
use Rattle.lb_static.specs.declared.resolved.ResolvedNode.{ResolvedNode}
use Rattle.lb_static.specs.declared.table.Specialization.{Specialization}
use Rattle.lb_check.specs.PlacedTypes.{found_in, parts_of}
use Rattle.lb_check.specs.Scalars.{Scalar, Integer, Bad}
use Rattle.lb_static.specs.ReachedNodes.{callee_in}
use Rattle.lb_check.specs.TermClocks.{declared_in}
use Rattle.lb_check.specs.declared.checked.Checking.{Checking}
use Rattle.lb_check.specs.declared.found_types.NodeTypes.{NodeTypes}
use Rattle.lb_check.specs.declared.own_clock.Clock.{Clock}
use Rattle.lb_check.specs.declared.own_clock.Clock.TheVariants.{Base, On}
use Rattle.lb_expand.specs.declared.children.Children.{Children}
use Rattle.lb_expand.specs.declared.clocks.Clocks.{Clocks}
use Rattle.lb_flat.specs.declared.equation.ClockId.{ClockId}
use Rattle.lb_expand.specs.declared.expansion.frame.Callee.{Callee}
use Rattle.lb_expand.specs.declared.layout.Layout.{Layout}
use Rattle.lb_expand.specs.declared.row_frame.RowFrame.{RowFrame}
use Rattle.lb_expand.specs.EmitTerms.{Context}
use Rattle.lb_flat.specs.Flat.{FlatClock, Always}
use Rattle.lb_expand.specs.RowContexts.{RowClocks, size_at, times_at, parameters_of}
use Rattle.lb_expand.specs.Rows.{numbers_at, called_row}
use Rattle.lb_expand.specs.TableClocks.{clock_id, node_at}
use Rattle.lb_flat.specs.Values.{clock_of}

-- the value of a static expression as an operand: that of a fault where it is no `int`
abbrev pub int_value : ℤ → Scalar
int_value z = if is_int z then Integer z else Bad

abbrev pub held_value : List ℤ → ℕ → Scalar
held_value statics i = either_or (option_map int_value (slice_get statics i)) Bad

-- the elements `ns`, if they stand before element `count`; otherwise none
abbrev pub held_below : ℕ → List ℕ → List ℕ
held_below count ns = if nat_le (get_or ns 0 0 + length ns) count then ns else []

-- the numbers of inputs and outputs of a called node, if these are among its variables
abbrev pub held_callee : ResolvedNode → Option Callee
held_callee m =
    if nat_le (m.inputs + m.outputs) (length m.variables.items)
    then Some (parameters_of m) else None

-- the stored data from which the context of a row is read
pub record Read : Type 0 where
  pub checked : Checking
  pub layout : Layout
  pub children : Children
  pub clocks : Clocks
  pub row : ℕ
  pub node : ResolvedNode
  pub specialization : Specialization
  pub terms : List Clock
  pub types : Option NodeTypes

abbrev pub read_of : RowFrame → Read
read_of f = record {
  checked = f.checked.now;
  layout = f.layout.now;
  children = f.children.now;
  clocks = f.clocks.now;
  row = f.row.0;
  node = f.node.now;
  specialization = f.specialization.now;
  terms = f.term_clocks.now;
  types = option_map (λ types. types.now) f.types;
}

-- the row that call `c` of the row calls at index `i`
abbrev pub read_child : Read → (call index : ℕ) → Option ℕ
read_child z c i = called_row z.children.rows z.row c i

-- the elements of a variable of a row
abbrev pub read_numbers : Read → (row variable : ℕ) → List ℕ
read_numbers z j x =
    held_below z.layout.count (numbers_at z.layout.variables.items z.layout.starts.items j x)

-- the place of clock `k` of row `j`
abbrev pub read_id : Read → ℕ → Clock → Option ClockId
read_id z j k = clock_id z.layout.variables.items z.clocks.runs.items j k

-- the place of the clock of a variable of a called row
abbrev pub input_id : Read → (call index variable : ℕ) → Option ClockId
input_id z c i x =
    read_child z c i >>= λ m.
    slice_get z.checked.elab.table.instances.items m >>= λ j.
    node_at z.checked.elab.reached z.checked.elab.table j >>= λ n.
    read_id z m (declared_in n (record { 0 = x }))

abbrev pub read_clock : Read → Option ClockId → FlatClock
read_clock z k = clock_of z.clocks.table.items k

-- how many scalar elements each element of the array of a term has: none where nothing is found
abbrev pub read_parts : Read → ℕ → ℕ
read_parts z t = either_or (option_map (λ types. parts_of (found_in types) t) z.types) 0

-- the clocks of a row, as they are read
abbrev pub read_clocks : Read → RowClocks
read_clocks z = record {
  declared = λ x. read_clock z (read_id z z.row (declared_in z.node (record { 0 = x })));
  sampled = λ x sign. read_clock z (read_id z z.row (On (record { 0 = x }) sign));
  clock = λ t. read_clock z (read_id z z.row (get_or z.terms t Base));
  parts = read_parts z;
  input = λ c i x. read_clock z (input_id z c i x);
}

-- the context of a row, as it is read
abbrev pub read_context : Read → Context
read_context z = record {
  places = λ x. read_numbers z z.row x;
  declared = (read_clocks z).declared;
  sampled = (read_clocks z).sampled;
  value = held_value z.specialization.statics.items;
  count = size_at z.specialization.statics.items;
  clock = (read_clocks z).clock;
  parts = (read_clocks z).parts;
  callee = λ c. callee_in z.checked.elab.reached z.node (record { 0 = c }) >>= held_callee;
  repeats = times_at z.node z.specialization;
  child = λ c i x. listed (λ k. read_numbers z k x) (read_child z c i);
  input = (read_clocks z).input;
}

abbrev pub frame_context : RowFrame → Context
frame_context f = read_context (read_of f)

-- ## Rows of a checked program

-- the specialization of a row and its node
abbrev pub found_row : Checking → ℕ → Option (Specialization × ResolvedNode)
found_row c j =
    slice_get c.elab.table.instances.items j >>= λ i.
    slice_get c.elab.table.specializations.items i.specialization.0 >>= λ s.
    option_map {U = Specialization × ResolvedNode} (λ n. (s, n))
    (slice_get c.elab.reached.nodes.items s.node.0)

-- the clocks of the terms of a node
abbrev pub found_terms : Checking → Specialization → List Clock
found_terms c s = listed (λ f. f.terms.items) (slice_get c.clocks.items s.node.0)

-- the types of the terms of a row
abbrev pub found_types : Checking → ℕ → Option NodeTypes
found_types c j =
    slice_get c.elab.table.instances.items j >>= λ i.
    c.types >>= λ all. slice_get all.items i.specialization.0

-- `z` is the data of row `j` of a checked program, with the tables of all rows
pub record IsFrameOf (c : Checking) (l : Layout) (all : Children) (k : Clocks) (j : ℕ) (z : Read) :
    Type 0 where
  pub checked : z.checked ≡ c
  pub layout : z.layout ≡ l
  pub children : z.children ≡ all
  pub clocks : z.clocks ≡ k
  pub row : z.row ≡ j
  pub found : found_row c j ≡ Some (z.specialization, z.node)
  pub terms : z.terms ≡ found_terms c z.specialization
  pub types : z.types ≡ found_types c j

-- whether there is a row with a number
abbrev pub is_row : Checking → ℕ → Bool
is_row c j =
    either_or
    (option_map (λ (found : Specialization × ResolvedNode). true) (found_row c j)) false

-- ## All rows

-- the data of row `j`, which is of node `n` and specialization `s`
abbrev pub row_read :
    Checking → Layout → Children → Clocks → ℕ → ResolvedNode → Specialization → Read
row_read c l all k j n s = record {
  checked = c;
  layout = l;
  children = all;
  clocks = k;
  row = j;
  node = n;
  specialization = s;
  terms = found_terms c s;
  types = found_types c j;
}

-- the context where there is no row
abbrev pub no_context : Context
no_context = record {
  places = λ x. [];
  declared = λ x. Always;
  sampled = λ x sign. Always;
  value = λ i. Bad;
  count = λ i. 0;
  clock = λ t. Always;
  parts = λ t. 0;
  callee = λ c. None;
  repeats = λ c. 0;
  child = λ c i x. [];
  input = λ c i x. Always;
}

abbrev pub row_found_context :
    Checking → Layout → Children → Clocks → ℕ → Specialization × ResolvedNode → Context
row_found_context c l all k j found = read_context (row_read c l all k j found.1 found.0)

-- the context of row `j`
abbrev pub frame_contexts : Checking → Layout → Children → Clocks → ℕ → Context
frame_contexts c l all k j =
    either_or (option_map (row_found_context c l all k j) (found_row c j)) no_context

-- the contexts of the rows that a frame can go to
abbrev pub contexts_of : RowFrame → ℕ → Context
contexts_of f = frame_contexts f.checked.now f.layout.now f.children.now f.clocks.now

abbrev pub is_row_of : RowFrame → ℕ → Bool
is_row_of f = is_row f.checked.now
