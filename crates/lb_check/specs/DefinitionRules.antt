-- The rules of definitions and of functions, as a test (E11).
-- Source: Lustre V6 reference manual, equations and functions.
use Rattle.std.specs.Prelude.{ℕ, Bool, true, false, ◌&&◌, ◌||◌, not, nat_eq, ◌++◌, count_by}
use Rattle.std.specs.Prelude.{flat_map}
use Rattle.std.specs.List.{list_all}
use Rattle.std.specs.Str.{bytes_eq}
use Rattle.lb_syntax.specs.Tree.{Name, Node_named, Expr, Arrow, Fby, Pre, Current, Call, Iterate}
use Rattle.lb_syntax.specs.Tree.{Node}
use Rattle.lb_static.specs.Instances.{Program}
use Rattle.lb_static.specs.Parts.{left_names, node_parts}
use Rattle.lb_check.specs.ClockRules.{if_node}

-- the number of times that name `x` stands on the left in a node
abbrev pub definition_count : Node → Name → ℕ
definition_count here x = count_by (bytes_eq x) (flat_map left_names here.body)

-- whether each output and local is defined once, and no input is
abbrev pub defines_once : Node → Bool
defines_once here =
    list_all (λ d. nat_eq (definition_count here d.name) 1) (here.outputs ++ here.locals)
    && list_all (λ d. nat_eq (definition_count here d.name) 0) here.inputs

-- whether an expression, its parts apart, has no memory, and calls functions alone
abbrev pub is_memoryless : Program → Expr → Bool
is_memoryless P (Pre a) = false
is_memoryless P (Arrow a b) = false
is_memoryless P (Fby a b) = false
is_memoryless P (Current a) = false
is_memoryless P (Call f statics es) = if_node P (λ n. n.is_function) f
is_memoryless P (Iterate it (Node_named f statics) m es) = if_node P (λ n. n.is_function) f
is_memoryless P e = true

abbrev pub is_defined : Program → Node → Bool
is_defined P here =
    defines_once here && (not here.is_function || list_all (is_memoryless P) (node_parts here))
