-- The places of the scalar elements of the rows of the table of instances, and the rows that a row
-- calls.
-- This file mirrors code (src/layout.rt, src/children.rt); no definition of the language stands on
-- it.
use Rattle.std.specs.Prelude.{◌≡◌, ◌≤◌, ℕ, suc, ◌+◌, ◌-◌, ℤ, nat_eq, nat_lt, Bool, false, ◌&&◌}
use Rattle.std.specs.Prelude.{Option, Some, None, option_map, List, [], ◌∷◌, ◌++◌, map, flat_map}
use Rattle.std.specs.Prelude.{take, get_or, length, slice_get, sum_by, if◌then◌else◌}
use Rattle.std.specs.HashMap.{HashMap, get}
use Rattle.std.specs.List.{range_with_len}
use Rattle.lb_syntax.specs.Lists.{either_or, listed}
use Rattle.lb_static.specs.DataTypes.{element_count}
use Rattle.lb_static.specs.declared.reachable.Reached.{Reached}
use Rattle.lb_static.specs.declared.resolved.Variable.{Variable as Declared}
use Rattle.lb_static.specs.declared.resolved.VariableId.{VariableId}
use Rattle.lb_static.specs.declared.table.Origin.{Origin}
use Rattle.lb_static.specs.declared.table.Specialization.{Specialization}
use Rattle.lb_static.specs.declared.table.Table.{Table}
use Rattle.lb_static.specs.StoredTypes.{declared_type}
use Rattle.lb_static.specs.declared.table.Instance as row
use Rattle.lb_static.specs.declared.table.Origin.TheVariants as origin

-- the sum of numbers
abbrev pub sum_of : List ℕ → ℕ
sum_of ns = sum_by (λ n. n) ns

-- ## Widths

-- how many elements a variable has under these values of the static expressions
abbrev pub declared_width : List ℤ → Declared → ℕ
declared_width statics v = either_or (option_map element_count (declared_type statics v)) 0

-- the widths of the variables of a specialization
abbrev pub widths_of : Reached → Specialization → List ℕ
widths_of r s =
    listed (λ n. map (declared_width s.statics.items) n.variables.items)
    (slice_get r.nodes.items s.node.0)

-- the widths of the variables of a row of the table
abbrev pub widths_in : Reached → Table → row.Instance → List ℕ
widths_in r t i = listed (widths_of r) (slice_get t.specializations.items i.specialization.0)

-- the widths of the variables of row `j`
abbrev pub row_widths : Reached → Table → ℕ → List ℕ
row_widths r t j = listed (widths_in r t) (slice_get t.instances.items j)

-- the widths of the variables of all rows
abbrev pub table_widths : Reached → Table → List ℕ
table_widths r t = flat_map (widths_in r t) t.instances.items

-- ## Numbers

-- how many elements stand before a row
abbrev pub first_of_row : Reached → Table → ℕ → ℕ
first_of_row r t j = sum_of (flat_map (widths_in r t) (take j t.instances.items))

-- how many variables stand before a row
abbrev pub variables_before : Reached → Table → ℕ → ℕ
variables_before r t j = length (flat_map (widths_in r t) (take j t.instances.items))

-- how many elements there are in all
abbrev pub element_total : Reached → Table → ℕ
element_total r t = sum_of (table_widths r t)

-- the numbers of the elements of a variable of a row
abbrev pub row_numbers : Reached → Table → ℕ → VariableId → List ℕ
row_numbers r t j x =
    let ws = row_widths r t j in
    range_with_len (first_of_row r t j + sum_of (take x.0 ws)) (get_or ws x.0 0)

-- ## Numbers as they are stored

-- the running sums of a list, on top of `n`: 2 and 3 on top of 1 give 3 and 6
abbrev pub sums_after : ℕ → List ℕ → List ℕ
sums_after n [] = []
sums_after n (w ∷ ws) = (n + w) ∷ sums_after (n + w) ws

-- `after` is `before` and then the starts that the widths `ws` give on top of `last`; `next` is
-- `last` plus all widths, and at most 65,536
pub record AreAdded (ws : List ℕ) (last : ℕ) (before after : List ℕ) (next : ℕ) : Type 0 where
  pub starts : after ≡ before ++ sums_after last ws
  pub next_is : next ≡ last + sum_of ws
  pub few : next ≤ 65536

-- the numbers from `from` on, before `to`
abbrev pub numbers_between : (from to : ℕ) → List ℕ
numbers_between from to = range_with_len from (to - from)

-- how many variables row `j` has, where `variables` holds how many stand before each row
abbrev pub count_at : (variables : List ℕ) → (row : ℕ) → ℕ
count_at variables j = get_or variables (j + 1) 0 - get_or variables j 0

-- the numbers of the elements of variable `x` of row `j`, where `variables` holds how many
-- variables stand before each row, and `elements` how many elements before each variable
abbrev pub numbers_at : (variables elements : List ℕ) → (row variable : ℕ) → List ℕ
numbers_at variables elements j x =
    let first = get_or variables j 0 in
    if nat_lt x (get_or variables (j + 1) 0 - first)
    then numbers_between (get_or elements (first + x) 0) (get_or elements (first + x + 1) 0)
    else []

-- ## What a row calls

-- two calls are the same; each is a row, the number of a call in it, and an index
abbrev pub same_call : (one other : ℕ × ℕ × ℕ) → Bool
same_call x y = (nat_eq x.0 y.0 && nat_eq x.1 y.1) && nat_eq x.2 y.2

-- a row is reached by call `c` of row `j` at index `i`
abbrev pub is_called : (caller call index : ℕ) → Origin → Bool
is_called j c i (origin.Called caller call index) =
    same_call (caller.0, call.0, index) (j, c, i)
is_called j c i _ = false

-- the first place in a list at which a test holds
abbrev pub place_where : {A : Type 0} → (A → Bool) → List A → Option ℕ
place_where test [] = None
place_where test (x ∷ xs) = if test x then Some 0 else option_map suc (place_where test xs)

-- the row that call `c` of row `j` calls at index `i`
abbrev pub child_row : Table → (caller call index : ℕ) → Option ℕ
child_row t j c i = place_where (λ (z : row.Instance). is_called j c i z.origin) t.instances.items

-- the row of a call, as the map `m` holds it
abbrev pub called_row :
    {S : Type 0} → HashMap (ℕ × ℕ × ℕ) ℕ S → (caller call index : ℕ) → Option ℕ
called_row m j c i = get same_call m (j, c, i)

-- the numbers of the elements of a variable of a called row; none where there is no such row
abbrev pub child_numbers : Reached → Table → (caller call index : ℕ) → VariableId → List ℕ
child_numbers r t j c i x = listed (λ k. row_numbers r t k x) (child_row t j c i)
