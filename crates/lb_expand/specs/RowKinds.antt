-- The kinds of the scalar elements of the variables of the rows of the table of instances.
-- This file mirrors code (src/variable_kinds.rt); no definition of the language stands on it.
use Rattle.std.specs.Prelude.{ℤ, min, List, replicate, flat_map, slice_get}
use Rattle.lb_syntax.specs.declared.tree.Kind.{Kind}
use Rattle.lb_syntax.specs.Lists.{listed}
use Rattle.lb_static.specs.declared.reachable.Reached.{Reached}
use Rattle.lb_static.specs.declared.resolved.Variable.{Variable as Declared}
use Rattle.lb_static.specs.declared.table.Specialization.{Specialization}
use Rattle.lb_static.specs.declared.table.Table.{Table}
use Rattle.lb_expand.specs.Rows.{declared_width}
use Rattle.lb_static.specs.declared.table.Instance as row

-- the kinds of the elements of a variable under the static values `statics`; 65,537 kinds where
-- there are more than 65,536 elements
abbrev pub declared_kinds : List ℤ → Declared → List Kind
declared_kinds statics v = replicate (min (declared_width statics v) 65537) v.kind

-- the kinds of the elements of the variables of a specialization
abbrev pub kinds_of : Reached → Specialization → List Kind
kinds_of r s =
    listed (λ n. flat_map (declared_kinds s.statics.items) n.variables.items)
    (slice_get r.nodes.items s.node.0)

-- the kinds of the elements of the variables of a row
abbrev pub kinds_in : Reached → Table → row.Instance → List Kind
kinds_in r t i = listed (kinds_of r) (slice_get t.specializations.items i.specialization.0)

-- the kinds of the elements of the variables of all rows
abbrev pub table_kinds : Reached → Table → List Kind
table_kinds r t = flat_map (kinds_in r t) t.instances.items
