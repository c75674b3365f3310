-- The clocks of the variables of the rows of the table of instances, and the clocks on which the
-- rows run.
-- This file mirrors code (src/clocks.rt); no definition of the language stands on it.
use Rattle.std.specs.Prelude.{◌≡◌, ℕ, suc, ◌+◌, ◌*◌, min, nat_eq, Bool, true, false, Option, Some}
use Rattle.std.specs.Prelude.{None, option_map, List, [], ◌∷◌, ◌++◌, map, flat_map, get_or, length}
use Rattle.std.specs.Prelude.{slice_get, find, ◌≤◌}
use Rattle.std.specs.List.{range_with_len}
use Rattle.lb_syntax.specs.Lists.{◌>>=◌, either_or, listed}
use Rattle.lb_static.specs.declared.reachable.Reached.{Reached}
use Rattle.lb_static.specs.declared.resolved.ResolvedNode.{ResolvedNode}
use Rattle.lb_static.specs.declared.resolved.VariableId.{VariableId}
use Rattle.lb_static.specs.declared.table.Origin.{Origin}
use Rattle.lb_static.specs.declared.table.Table.{Table}
use Rattle.lb_check.specs.TermClocks.{declared_in}
use Rattle.lb_check.specs.declared.checked.Checking.{Checking}
use Rattle.lb_check.specs.declared.found_clocks.CallClock.{CallClock}
use Rattle.lb_check.specs.declared.found_clocks.GivenVariable.{GivenVariable}
use Rattle.lb_check.specs.declared.found_clocks.NodeClocks.{NodeClocks}
use Rattle.lb_check.specs.declared.own_clock.Clock.{Clock}
use Rattle.lb_check.specs.declared.own_clock.Clock.TheVariants.{Base, On}
use Rattle.lb_expand.specs.ClockTables.{sign_place}
use Rattle.lb_expand.specs.Rows.{count_at, numbers_at, row_numbers, variables_before, element_total}
use Rattle.lb_flat.specs.declared.equation.ClockId.{ClockId}
use Rattle.lb_flat.specs.declared.equation.ElementId.{ElementId}
use Rattle.lb_expand.specs.declared.layout.Layout.{Layout}
use Rattle.lb_static.specs.declared.table.Instance as row
use Rattle.lb_static.specs.declared.table.Origin.TheVariants as origin
use Rattle.lb_flat.specs.declared.equation.Clock as table

-- ## Sources of the table

pub record Sources : Type 0 where
  pub reached : Reached
  pub table : Table
  pub found : List NodeClocks
  pub variables : List ℕ
  pub starts : List ℕ

abbrev pub sources_of : Checking → Layout → Sources
sources_of c l = record {
  reached = c.elab.reached;
  table = c.elab.table;
  found = c.clocks.items;
  variables = l.variables.items;
  starts = l.starts.items;
}

-- a list to which rows add a piece each, one after another; the first row has number `n`
abbrev pub added_after :
    {A B : Type 0} → (ℕ → A → List B → List B) → ℕ → List B → List A → List B
added_after piece n before [] = before
added_after piece n before (i ∷ rows) =
    added_after piece (suc n) (before ++ piece n i before) rows

-- ## Reads of a row

-- the number of variable `x` of row `j` among the variables of all rows; 65,536 where it is greater
abbrev pub variable_number : List ℕ → (row variable : ℕ) → ℕ
variable_number variables j x = min (get_or variables j 0 + x) 65536

-- the place of a clock of row `j`, where `runs` holds the clock on which each row runs
abbrev pub clock_id : List ℕ → List (Option ClockId) → ℕ → Clock → Option ClockId
clock_id variables runs j Base = get_or runs j None
clock_id variables runs j (On x sign) =
    Some (record { 0 = 2 * variable_number variables j x.0 + sign_place sign })

-- the `CallClock` that is found for call `c` of row `j`
abbrev pub found_call : Table → List NodeClocks → (row call : ℕ) → Option CallClock
found_call t found j c =
    slice_get t.instances.items j >>= λ i.
    slice_get t.specializations.items i.specialization.0 >>= λ s.
    slice_get (listed (λ f. f.calls.items) (slice_get found s.node.0)) c

-- the node of a row
abbrev pub node_at : Reached → Table → row.Instance → Option ResolvedNode
node_at r t i =
    slice_get t.specializations.items i.specialization.0 >>= λ s.
    slice_get r.nodes.items s.node.0

-- ## Clocks on which rows run

-- the clock on which a row runs, where `before` holds those of the rows before it
abbrev pub row_runs : Sources → List (Option ClockId) → Origin → Option ClockId
row_runs from before (origin.Called caller call index) =
    either_or
    (option_map (λ c. clock_id from.variables before caller.0 c.runs)
    (found_call from.table from.found caller.0 call.0)) None
row_runs from before _ = None

abbrev pub table_runs : Sources → List row.Instance → List (Option ClockId)
table_runs from rows = added_after (λ j i before. row_runs from before i.origin ∷ []) 0 [] rows

-- ## Elements that serve for variables in clocks

-- the variable of the caller that is given for variable `x` of the callee
abbrev pub given_for : List GivenVariable → ℕ → Option VariableId
given_for gs x = option_map (λ g. g.caller) (find (λ g. nat_eq g.callee.0 x) gs)

-- the number, among all variables, of the caller's variable that is given for variable `x` of a row
abbrev pub caller_number : Sources → Origin → ℕ → Option ℕ
caller_number from (origin.Called caller call index) x =
    found_call from.table from.found caller.0 call.0 >>= λ c.
    option_map (λ y. variable_number from.variables caller.0 y.0) (given_for c.given.items x)
caller_number from _ x = None

abbrev pub no_element : ElementId
no_element = record { 0 = 0 }

-- the first element of a variable of a row
abbrev pub own_element : (variables starts : List ℕ) → (row variable : ℕ) → ElementId
own_element variables starts j x = record { 0 = get_or (numbers_at variables starts j x) 0 0 }

-- the element that serves for variable `x` of row `j`; `before` holds those of the rows before it
abbrev pub serving_element : Sources → List ElementId → ℕ → Origin → ℕ → ElementId
serving_element from before j o x =
    either_or (option_map (λ n. get_or before n no_element) (caller_number from o x))
    (own_element from.variables from.starts j x)

abbrev pub row_serving : Sources → ℕ → Origin → List ElementId → List ElementId
row_serving from j o before =
    map (serving_element from before j o) (range_with_len 0 (count_at from.variables j))

abbrev pub table_serving : Sources → List row.Instance → List ElementId
table_serving from rows = added_after (λ j i before. row_serving from j i.origin before) 0 [] rows

-- ## The table

-- the two clocks of a variable of a row, where `runs` holds the clocks of rows, and `serving` the
-- elements that serve for variables
abbrev pub signed_clock : Option ClockId → ElementId → Bool → table.Clock
signed_clock parent element sign =
    record { parent = parent; element = element; sign = sign }

abbrev pub signed_clocks : Option ClockId → ElementId → List table.Clock
signed_clocks parent element =
    signed_clock parent element false ∷ signed_clock parent element true ∷ []

abbrev pub variable_clocks :
    List ℕ → List (Option ClockId) → List ElementId → ℕ → ResolvedNode → ℕ → List table.Clock
variable_clocks variables runs serving j n x =
    signed_clocks (clock_id variables runs j (declared_in n (record { 0 = x })))
    (get_or serving (variable_number variables j x) no_element)

abbrev pub node_clocks :
    List ℕ → List (Option ClockId) → List ElementId → ℕ → ResolvedNode → List table.Clock
node_clocks variables runs serving j n =
    flat_map (variable_clocks variables runs serving j n)
    (range_with_len 0 (count_at variables j))

abbrev pub row_clocks :
    Reached → Table → List ℕ → List (Option ClockId) → List ElementId → ℕ → row.Instance →
    List table.Clock
row_clocks r t variables runs serving j i =
    listed (node_clocks variables runs serving j) (node_at r t i)

abbrev pub table_clocks :
    Reached → Table → List ℕ → List (Option ClockId) → List ElementId → List row.Instance →
    List table.Clock
table_clocks r t variables runs serving rows =
    added_after (λ j i before. row_clocks r t variables runs serving j i) 0 [] rows

abbrev pub clocks_among :
    Sources → List (Option ClockId) → List ElementId → List row.Instance → List table.Clock
clocks_among from runs serving rows =
    table_clocks from.reached from.table from.variables runs serving rows

-- the clocks on which all rows run, the elements that serve for their variables, and the clocks of
-- their variables
abbrev pub all_runs : Sources → List (Option ClockId)
all_runs from = table_runs from from.table.instances.items

abbrev pub all_serving : Sources → List ElementId
all_serving from = table_serving from from.table.instances.items

abbrev pub all_clocks : Sources → List table.Clock
all_clocks from = clocks_among from (all_runs from) (all_serving from) from.table.instances.items

-- ## Layouts

-- a layout holds the places of the elements of the variables of a table's rows, of which there are
-- at most 65,536
pub record IsLayoutOf (r : Reached) (t : Table) (l : Layout) : Type 0 where
  pub numbers :
      (j x : ℕ) →
      numbers_at l.variables.items l.starts.items j x ≡ row_numbers r t j (record { 0 = x })
  pub variables :
      (j : ℕ) → j ≤ length t.instances.items →
      get_or l.variables.items j 0 ≡ variables_before r t j
  pub count : l.count ≡ element_total r t
  pub few : l.count ≤ 65536
