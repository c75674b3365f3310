-- Programs that are refused, and similar ones that are not.
-- Source: this project's rule.
use Rattle.std.specs.Prelude.{true, List, [], ◌∷◌}
use Rattle.lb_syntax.specs.declared.tree.BinaryOperator.TheVariants.{Equal, Less, Plus, Times}
use Rattle.lb_syntax.specs.declared.tree.BinaryOperator.TheVariants.{Divide}
use Rattle.lb_syntax.specs.declared.tree.ArrayIterator.TheVariants.{Map, Red, Fill}
use Rattle.lb_syntax.specs.Tree.{Whole, Negated, Combined, Grouped, Literal, Truth, Group, Binary}
use Rattle.lb_syntax.specs.Tree.{If, Pre, Current, Replicate, Index, Slice, Join, Array, Assertion}
use Rattle.lb_syntax.specs.Tree.{Node, Declaration, Statement}
use Rattle.lb_static.specs.Instances.{Program}
use Rattle.lb_static.specs.WorkedTrees.{static, v, exprs, call, call_with, when_true, iterate}
use Rattle.lb_static.specs.WorkedTrees.{iterate_symbol, int_var, bool_var, int_array, equation}
use Rattle.lb_static.specs.WorkedTrees.{equations, node, function, with_parameters, main, constant}
use Rattle.lb_static.specs.WorkedTrees.{program, alone, bench}

-- node main(x, y: int; c: bool) returns (ok: bool); with locals `vars` and statements `body`
abbrev changed : List Declaration → List Statement → Node
changed vars body = main (int_var "x" ∷ int_var "y" ∷ bool_var "c" ∷ []) vars body

-- ## Names

-- node main(x, y: int; c: bool) returns (ok: bool);
-- let ok = true; tel
abbrev pub nothing_wrong : Program
nothing_wrong = alone (changed []
    (equation "ok" (Truth true) ∷ []))

-- node main(x, y: int; c: bool) returns (ok: bool);
-- let ok = z; tel
abbrev pub unknown_name : Program
unknown_name = alone (changed []
    (equation "ok" (v "z") ∷ []))

-- node main(x, y: int; c: bool) returns (ok: bool);
-- let ok = g(x); tel
abbrev pub unknown_node : Program
unknown_node = alone (changed []
    (equation "ok" (call "g" (v "x" ∷ [])) ∷ []))

-- node main(x, y: int; c: bool) returns (ok: bool);
-- let z = 1; ok = true; tel
abbrev pub unknown_left_name : Program
unknown_left_name = alone (changed []
    (equation "z" (Literal 1)
    ∷ equation "ok" (Truth true) ∷ []))

-- node main(x, y: int; c: bool) returns (ok: bool);
-- var z: int;
-- let z = x when d; ok = true; tel
abbrev pub unknown_clock_name : Program
unknown_clock_name = alone (changed (int_var "z" ∷ [])
    (equation "z" (when_true (v "x") "d")
    ∷ equation "ok" (Truth true) ∷ []))

-- const k = 1;
-- node main(x, y: int; c: bool) returns (ok: bool);
-- var z: int;
-- let z = x when k; ok = true; tel
abbrev pub constant_for_a_clock_name : Program
constant_for_a_clock_name = program (constant "k" (Whole 1) ∷ []) (
    changed (int_var "z" ∷ [])
    (equation "z" (when_true (v "x") "k")
    ∷ equation "ok" (Truth true) ∷ []) ∷ [])

-- node main(x, y: int; c: bool) returns (ok: bool);
-- var A: int^n;
-- let A = x^1; ok = true; tel
abbrev pub unknown_static_name : Program
unknown_static_name = alone (changed (int_array "A" (static "n" ∷ []) ∷ [])
    (equation "A" (Replicate (v "x") (Whole 1))
    ∷ equation "ok" (Truth true) ∷ []))

-- the variable hides the constant
-- const z = 2;
-- node main(x, y: int; c: bool) returns (ok: bool);
-- var z: int; A: int^z;
-- let z = 1; A = x^1; ok = true; tel
abbrev pub variable_in_a_static_expression : Program
variable_in_a_static_expression = program (constant "z" (Whole 2) ∷ []) (
    changed (int_var "z" ∷ int_array "A" (static "z" ∷ []) ∷ [])
    (equation "z" (Literal 1)
    ∷ equation "A" (Replicate (v "x") (Whole 1))
    ∷ equation "ok" (Truth true) ∷ []) ∷ [])

-- a hidden constant is not reached
-- const k = 1 div 0;
-- node main(x, y: int; c: bool) returns (ok: bool);
-- var k: int;
-- let k = x; ok = k = x; tel
abbrev pub variable_hides_a_constant : Program
variable_hides_a_constant = program (constant "k" (Combined Divide (Whole 1) (Whole 0)) ∷ []) (
    changed (int_var "k" ∷ [])
    (equation "k" (v "x")
    ∷ equation "ok" (Binary Equal (v "k") (v "x")) ∷ []) ∷ [])

-- node main(x, y: int; c: bool) returns (ok: bool);
-- var x: int;
-- let ok = true; tel
abbrev pub doubled_variable : Program
doubled_variable = alone (changed (int_var "x" ∷ [])
    (equation "ok" (Truth true) ∷ []))

-- node a(x: int) returns (y: int); let y = x; tel
-- node a(x: int) returns (y: int); let y = x; tel
-- node main(x, y: int; c: bool) returns (ok: bool);
-- let ok = true; tel
abbrev pub doubled_unreached_nodes : Program
doubled_unreached_nodes = program [] (
    node "a" (int_var "x" ∷ []) (int_var "y" ∷ []) []
    (equation "y" (v "x") ∷ [])
    ∷ node "a" (int_var "x" ∷ []) (int_var "y" ∷ []) []
    (equation "y" (v "x") ∷ [])
    ∷ changed []
    (equation "ok" (Truth true) ∷ []) ∷ [])

-- const main = 1;
-- node main(x, y: int; c: bool) returns (ok: bool);
-- let ok = true; tel
abbrev pub constant_named_as_a_node : Program
constant_named_as_a_node = program (constant "main" (Whole 1) ∷ []) (
    changed []
    (equation "ok" (Truth true) ∷ []) ∷ [])

-- node a<<const k: int>>(x: int) returns (y: int); let y = x + k; tel
-- node main(x, y: int; c: bool) returns (ok: bool);
-- var z: int;
-- let z = a<<1, 2>>(x); ok = true; tel
abbrev pub static_argument_too_many : Program
static_argument_too_many = program [] (
    with_parameters "k" (node "a" (int_var "x" ∷ []) (int_var "y" ∷ []) []
    (equation "y" (Binary Plus (v "x") (v "k")) ∷ []))
    ∷ changed (int_var "z" ∷ [])
    (equation "z" (call_with "a" (Whole 1 ∷ Whole 2 ∷ []) (v "x" ∷ []))
    ∷ equation "ok" (Truth true) ∷ []) ∷ [])

-- node a<<const k: int>>(x: int) returns (y: int); let y = x + k; tel
-- node main(x, y: int; c: bool) returns (ok: bool);
-- var z: int;
-- let z = a(x); ok = true; tel
abbrev pub static_argument_missing : Program
static_argument_missing = program [] (
    with_parameters "k" (node "a" (int_var "x" ∷ []) (int_var "y" ∷ []) []
    (equation "y" (Binary Plus (v "x") (v "k")) ∷ []))
    ∷ changed (int_var "z" ∷ [])
    (equation "z" (call "a" (v "x" ∷ []))
    ∷ equation "ok" (Truth true) ∷ []) ∷ [])

-- const k = q;
-- node a(x: int) returns (y: int); let y = z; tel
-- node main(x, y: int; c: bool) returns (ok: bool);
-- let ok = true; tel
abbrev pub unknown_name_unreached : Program
unknown_name_unreached = program (constant "k" (static "q") ∷ []) (
    node "a" (int_var "x" ∷ []) (int_var "y" ∷ []) []
    (equation "y" (v "z") ∷ [])
    ∷ changed []
    (equation "ok" (Truth true) ∷ []) ∷ [])

-- node other(x: int) returns (ok: bool); let ok = true; tel
abbrev pub no_node_under_test : Program
no_node_under_test = alone (node "other" (int_var "x" ∷ []) (bool_var "ok" ∷ []) []
    (equation "ok" (Truth true) ∷ []))

-- node plant(x: int) returns (y: int); let y = x; tel
abbrev pub no_observer : Program
no_observer = alone (node "plant" (int_var "x" ∷ []) (int_var "y" ∷ []) []
    (equation "y" (v "x") ∷ []))

-- ## Static values, ranges, recursion

-- const n = 1 div 0;
-- node main(x, y: int; c: bool) returns (ok: bool);
-- var A: int^n;
-- let A = x^n; ok = true; tel
abbrev pub constant_without_a_value : Program
constant_without_a_value = program (constant "n" (Combined Divide (Whole 1) (Whole 0)) ∷ []) (
    changed (int_array "A" (static "n" ∷ []) ∷ [])
    (equation "A" (Replicate (v "x") (static "n"))
    ∷ equation "ok" (Truth true) ∷ []) ∷ [])

-- const a = b; b = a;
-- node main(x, y: int; c: bool) returns (ok: bool);
-- var A: int^a;
-- let A = x^a; ok = true; tel
abbrev pub constants_in_a_circle : Program
constants_in_a_circle = program (constant "a" (static "b") ∷ constant "b" (static "a") ∷ []) (
    changed (int_array "A" (static "a" ∷ []) ∷ [])
    (equation "A" (Replicate (v "x") (static "a"))
    ∷ equation "ok" (Truth true) ∷ []) ∷ [])

-- const n = 2147483647 + 1;
-- node main(x, y: int; c: bool) returns (ok: bool);
-- var A: int^n;
-- let A = x^n; ok = true; tel
abbrev pub constant_out_of_range : Program
constant_out_of_range = program (constant "n" (Combined Plus (Whole 2147483647) (Whole 1)) ∷ []) (
    changed (int_array "A" (static "n" ∷ []) ∷ [])
    (equation "A" (Replicate (v "x") (static "n"))
    ∷ equation "ok" (Truth true) ∷ []) ∷ [])

-- const n = 1 div 0;
-- node main(x, y: int; c: bool) returns (ok: bool);
-- let ok = x = n; tel
abbrev pub constant_in_an_expression : Program
constant_in_an_expression = program (constant "n" (Combined Divide (Whole 1) (Whole 0)) ∷ []) (
    changed []
    (equation "ok" (Binary Equal (v "x") (v "n")) ∷ []) ∷ [])

-- const n = 1 div 0;
-- node main(x, y: int; c: bool) returns (ok: bool);
-- let ok = true; tel
abbrev pub unreached_constant : Program
unreached_constant = program (constant "n" (Combined Divide (Whole 1) (Whole 0)) ∷ []) (
    changed []
    (equation "ok" (Truth true) ∷ []) ∷ [])

-- node main(x, y: int; c: bool) returns (ok: bool);
-- var A: int^0;
-- let A = x^1; ok = true; tel
abbrev pub size_of_zero : Program
size_of_zero = alone (changed (int_array "A" (Whole 0 ∷ []) ∷ [])
    (equation "A" (Replicate (v "x") (Whole 1))
    ∷ equation "ok" (Truth true) ∷ []))

-- const n = -1;
-- node main(x, y: int; c: bool) returns (ok: bool);
-- var A: int^n;
-- let A = x^1; ok = true; tel
abbrev pub negative_size : Program
negative_size = program (constant "n" (Negated (Whole 1)) ∷ []) (
    changed (int_array "A" (static "n" ∷ []) ∷ [])
    (equation "A" (Replicate (v "x") (Whole 1))
    ∷ equation "ok" (Truth true) ∷ []) ∷ [])

-- node main(x, y: int; c: bool) returns (ok: bool);
-- let ok = (x^4097)[0] = y; tel
abbrev pub size_above_4096 : Program
size_above_4096 = alone (changed []
    (equation "ok" (Binary Equal (Index (Group (Replicate (v "x") (Whole 4097))) (Whole 0)) (v "y"))
    ∷ []))

-- node main(x, y: int; c: bool) returns (ok: bool);
-- var A: int^3;
-- let A = x^3; ok = A[4096] = x; tel
abbrev pub index_above_4095 : Program
index_above_4095 = alone (changed (int_array "A" (Whole 3 ∷ []) ∷ [])
    (equation "A" (Replicate (v "x") (Whole 3))
    ∷ equation "ok" (Binary Equal (Index (v "A") (Whole 4096)) (v "x")) ∷ []))

-- node main(x, y: int; c: bool) returns (ok: bool);
-- var A: int^3; B: int^2;
-- let A = x^3; B = A[2..1]; ok = true; tel
abbrev pub slice_backwards : Program
slice_backwards = alone (changed (int_array "A" (Whole 3 ∷ []) ∷ int_array "B" (Whole 2 ∷ []) ∷ [])
    (equation "A" (Replicate (v "x") (Whole 3))
    ∷ equation "B" (Slice (v "A") (Whole 2) (Whole 1))
    ∷ equation "ok" (Truth true) ∷ []))

-- node main(x, y: int; c: bool) returns (ok: bool);
-- var A: int^257^256;
-- let A = x^257^256; ok = true; tel
abbrev pub type_of_65792_elements : Program
type_of_65792_elements = alone (changed (int_array "A" (Whole 257 ∷ Whole 256 ∷ []) ∷ [])
    (equation "A" (Replicate (Replicate (v "x") (Whole 257)) (Whole 256))
    ∷ equation "ok" (Truth true) ∷ []))

-- node main(x, y: int; c: bool) returns (ok: bool);
-- let ok = main(x, y, c); tel
abbrev pub calls_itself : Program
calls_itself = alone (changed []
    (equation "ok" (call "main" (v "x" ∷ v "y" ∷ v "c" ∷ [])) ∷ []))

-- node f(x: int) returns (y: int); let y = g(x); tel
-- node g(x: int) returns (y: int); let y = red<<h,1>>(x, [x]); tel
-- node h(a, x: int) returns (y: int); let y = f(a); tel
-- node main(x, y: int; c: bool) returns (ok: bool);
-- var z: int;
-- let z = f(x); ok = true; tel
abbrev pub calls_in_a_circle : Program
calls_in_a_circle = program [] (
    node "f" (int_var "x" ∷ []) (int_var "y" ∷ []) []
    (equation "y" (call "g" (v "x" ∷ [])) ∷ [])
    ∷ node "g" (int_var "x" ∷ []) (int_var "y" ∷ []) []
    (equation "y" (iterate Red "h" (Whole 1) (v "x" ∷ Array (exprs (v "x" ∷ [])) ∷ [])) ∷ [])
    ∷ node "h" (int_var "a" ∷ int_var "x" ∷ []) (int_var "y" ∷ []) []
    (equation "y" (call "f" (v "a" ∷ [])) ∷ [])
    ∷ changed (int_var "z" ∷ [])
    (equation "z" (call "f" (v "x" ∷ []))
    ∷ equation "ok" (Truth true) ∷ []) ∷ [])

-- node f(x: int) returns (y: int); let y = f(x); tel
-- node main(x, y: int; c: bool) returns (ok: bool);
-- let ok = true; tel
abbrev pub unreached_recursion : Program
unreached_recursion = program [] (
    node "f" (int_var "x" ∷ []) (int_var "y" ∷ []) []
    (equation "y" (call "f" (v "x" ∷ [])) ∷ [])
    ∷ changed []
    (equation "ok" (Truth true) ∷ []) ∷ [])

-- ## The shape of the node under test and of its observer

-- node main(x, y: int; c: bool) returns (ok: int);
-- let ok = 1; tel
abbrev pub output_is_an_int : Program
output_is_an_int = alone (node "main" (int_var "x" ∷ int_var "y" ∷ bool_var "c" ∷ []) (int_var "ok"
    ∷ []) []
    (equation "ok" (Literal 1) ∷ []))

-- node main(x: int) returns (ok, more: bool);
-- let ok = true; more = true; tel
abbrev pub two_outputs : Program
two_outputs = alone (node "main" (int_var "x" ∷ []) (bool_var "ok" ∷ bool_var "more" ∷ []) []
    (equation "ok" (Truth true)
    ∷ equation "more" (Truth true) ∷ []))

-- node main<<const k: int>>(x: int) returns (ok: bool);
-- let ok = true; tel
abbrev pub parameter_of_the_start : Program
parameter_of_the_start = alone (with_parameters "k" (main (int_var "x" ∷ []) []
    (equation "ok" (Truth true) ∷ [])))

-- node plant(x: int) returns (y: int); let y = x; tel
-- node obs(x: int; y: bool) returns (ok: bool); let ok = y; tel
abbrev pub observer_of_other_types : Program
observer_of_other_types = bench "plant" "obs" (
    node "plant" (int_var "x" ∷ []) (int_var "y" ∷ []) []
    (equation "y" (v "x") ∷ [])
    ∷ node "obs" (int_var "x" ∷ bool_var "y" ∷ []) (bool_var "ok" ∷ []) []
    (equation "ok" (v "y") ∷ []) ∷ [])

-- node plant(x: int) returns (y: int); let y = x; tel
-- node obs(x, y: int) returns (z: int); let z = y; tel
abbrev pub observer_of_an_int : Program
observer_of_an_int = bench "plant" "obs" (
    node "plant" (int_var "x" ∷ []) (int_var "y" ∷ []) []
    (equation "y" (v "x") ∷ [])
    ∷ node "obs" (int_var "x" ∷ int_var "y" ∷ []) (int_var "z" ∷ []) []
    (equation "z" (v "y") ∷ []) ∷ [])

-- function plant(x: int) returns (y: int); let y = x; tel
-- function obs(x, y: int) returns (ok: bool); let ok = x = y; tel
abbrev pub functions_under_test : Program
functions_under_test = bench "plant" "obs" (
    function (node "plant" (int_var "x" ∷ []) (int_var "y" ∷ []) []
    (equation "y" (v "x") ∷ []))
    ∷ function (node "obs" (int_var "x" ∷ int_var "y" ∷ []) (bool_var "ok" ∷ []) []
    (equation "ok" (Binary Equal (v "x") (v "y")) ∷ [])) ∷ [])

-- ## Types

-- node main(x, y: int; c: bool) returns (ok: bool);
-- let ok = x; tel
abbrev pub int_for_a_truth : Program
int_for_a_truth = alone (changed []
    (equation "ok" (v "x") ∷ []))

-- node main(x, y: int; c: bool) returns (ok: bool);
-- let ok = c < c; tel
abbrev pub truths_in_order : Program
truths_in_order = alone (changed []
    (equation "ok" (Binary Less (v "c") (v "c")) ∷ []))

-- node main(x, y: int; c: bool) returns (ok: bool);
-- let ok = if c then x else true; tel
abbrev pub branches_of_two_types : Program
branches_of_two_types = alone (changed []
    (equation "ok" (If (v "c") (v "x") (Truth true)) ∷ []))

-- node main(x, y: int; c: bool) returns (ok: bool);
-- var A: int^3;
-- let A = x^3; ok = A[3] = x; tel
abbrev pub index_past_the_end : Program
index_past_the_end = alone (changed (int_array "A" (Whole 3 ∷ []) ∷ [])
    (equation "A" (Replicate (v "x") (Whole 3))
    ∷ equation "ok" (Binary Equal (Index (v "A") (Whole 3)) (v "x")) ∷ []))

-- node main(x, y: int; c: bool) returns (ok: bool);
-- var A: int^3; B: int^2;
-- let A = x^3; B = A[2..3]; ok = true; tel
abbrev pub slice_past_the_end : Program
slice_past_the_end = alone (changed (int_array "A" (Whole 3 ∷ []) ∷ int_array "B" (Whole 2 ∷ [])
    ∷ [])
    (equation "A" (Replicate (v "x") (Whole 3))
    ∷ equation "B" (Slice (v "A") (Whole 2) (Whole 3))
    ∷ equation "ok" (Truth true) ∷ []))

-- node main(x, y: int; c: bool) returns (ok: bool);
-- var A: int^3;
-- let A = x^3; ok = A = A; tel
abbrev pub equal_arrays : Program
equal_arrays = alone (changed (int_array "A" (Whole 3 ∷ []) ∷ [])
    (equation "A" (Replicate (v "x") (Whole 3))
    ∷ equation "ok" (Binary Equal (v "A") (v "A")) ∷ []))

-- node main(x, y: int; c: bool) returns (ok: bool);
-- var A: int^4096;
-- let A = x^4096; ok = (A | [x])[0] = x; tel
abbrev pub joined_past_4096 : Program
joined_past_4096 = alone (changed (int_array "A" (Whole 4096 ∷ []) ∷ [])
    (equation "A" (Replicate (v "x") (Whole 4096))
    ∷ equation "ok" (Binary Equal (Index (Group (Join (v "A") (Array (exprs (v "x" ∷ [])))))
    (Whole 0)) (v "x")) ∷ []))

-- node two(a, b: int) returns (p, q: int); let p = a; q = b; tel
-- node main(x, y: int; c: bool) returns (ok: bool);
-- var z: int;
-- let z = two(x, y) + 1; ok = true; tel
abbrev pub two_results_inside : Program
two_results_inside = program [] (
    node "two" (int_var "a" ∷ int_var "b" ∷ []) (int_var "p" ∷ int_var "q" ∷ []) []
    (equation "p" (v "a")
    ∷ equation "q" (v "b") ∷ [])
    ∷ changed (int_var "z" ∷ [])
    (equation "z" (Binary Plus (call "two" (v "x" ∷ v "y" ∷ [])) (Literal 1))
    ∷ equation "ok" (Truth true) ∷ []) ∷ [])

-- node two(a, b: int) returns (p, q: int); let p = a; q = b; tel
-- node main(x, y: int; c: bool) returns (ok: bool);
-- var p, q: int;
-- let (p, q) = ((two(x, y))); ok = true; tel
abbrev pub two_results_in_parentheses : Program
two_results_in_parentheses = program [] (
    node "two" (int_var "a" ∷ int_var "b" ∷ []) (int_var "p" ∷ int_var "q" ∷ []) []
    (equation "p" (v "a")
    ∷ equation "q" (v "b") ∷ [])
    ∷ changed (int_var "p" ∷ int_var "q" ∷ [])
    (equations "p q" (Group (Group (call "two" (v "x" ∷ v "y" ∷ []))))
    ∷ equation "ok" (Truth true) ∷ []) ∷ [])

-- node main(x, y: int; c: bool) returns (ok: bool);
-- let assert x; ok = true; tel
abbrev pub assertion_of_an_int : Program
assertion_of_an_int = alone (changed []
    (Assertion (v "x")
    ∷ equation "ok" (Truth true) ∷ []))

-- node main(x, y: int; c: bool) returns (ok: bool);
-- var A: int^3; B: int^2;
-- let A = x^3; B = map<<+,2>>(A, A); ok = true; tel
abbrev pub map_of_other_length : Program
map_of_other_length = alone (changed (int_array "A" (Whole 3 ∷ []) ∷ int_array "B" (Whole 2 ∷ [])
    ∷ [])
    (equation "A" (Replicate (v "x") (Whole 3))
    ∷ equation "B" (iterate_symbol Map Plus (Whole 2) (v "A" ∷ v "A" ∷ []))
    ∷ equation "ok" (Truth true) ∷ []))

-- node up(a: int) returns (b: int); let b = a + 1; tel
-- node main(x, y: int; c: bool) returns (ok: bool);
-- var z: int;
-- let z = red<<up,3>>(x); ok = true; tel
abbrev pub red_without_arrays : Program
red_without_arrays = program [] (
    node "up" (int_var "a" ∷ []) (int_var "b" ∷ []) []
    (equation "b" (Binary Plus (v "a") (Literal 1)) ∷ [])
    ∷ changed (int_var "z" ∷ [])
    (equation "z" (iterate Red "up" (Whole 3) (v "x" ∷ []))
    ∷ equation "ok" (Truth true) ∷ []) ∷ [])

-- node up(a: int) returns (b: int); let b = a + 1; tel
-- node main(x, y: int; c: bool) returns (ok: bool);
-- var z: int;
-- let z = fill<<up,3>>(x); ok = true; tel
abbrev pub fill_of_one_output : Program
fill_of_one_output = program [] (
    node "up" (int_var "a" ∷ []) (int_var "b" ∷ []) []
    (equation "b" (Binary Plus (v "a") (Literal 1)) ∷ [])
    ∷ changed (int_var "z" ∷ [])
    (equation "z" (iterate Fill "up" (Whole 3) (v "x" ∷ []))
    ∷ equation "ok" (Truth true) ∷ []) ∷ [])

-- ## Definitions and functions

-- node main(x, y: int; c: bool) returns (ok: bool);
-- var z: int;
-- let ok = true; tel
abbrev pub local_without_a_definition : Program
local_without_a_definition = alone (changed (int_var "z" ∷ [])
    (equation "ok" (Truth true) ∷ []))

-- node main(x, y: int; c: bool) returns (ok: bool);
-- var z: int;
-- let z = x; z = y; ok = true; tel
abbrev pub two_equations : Program
two_equations = alone (changed (int_var "z" ∷ [])
    (equation "z" (v "x")
    ∷ equation "z" (v "y")
    ∷ equation "ok" (Truth true) ∷ []))

-- node two(a, b: int) returns (p, q: int); let p = a + 1; q = b * 2; tel
-- node main(x, y: int; c: bool) returns (ok: bool);
-- var p: int;
-- let (p, p) = two(x, y); ok = true; tel
abbrev pub two_left_sides_of_one_name : Program
two_left_sides_of_one_name = program [] (
    node "two" (int_var "a" ∷ int_var "b" ∷ []) (int_var "p" ∷ int_var "q" ∷ []) []
    (equation "p" (Binary Plus (v "a") (Literal 1))
    ∷ equation "q" (Binary Times (v "b") (Literal 2)) ∷ [])
    ∷ changed (int_var "p" ∷ [])
    (equations "p p" (call "two" (v "x" ∷ v "y" ∷ []))
    ∷ equation "ok" (Truth true) ∷ []) ∷ [])

-- node main(x, y: int; c: bool) returns (ok: bool);
-- let x = 1; ok = true; tel
abbrev pub input_on_the_left : Program
input_on_the_left = alone (changed []
    (equation "x" (Literal 1)
    ∷ equation "ok" (Truth true) ∷ []))

-- function f(x: int) returns (y: int); let y = pre x; tel
-- node main(x, y: int; c: bool) returns (ok: bool);
-- var z: int;
-- let z = f(x); ok = true; tel
abbrev pub function_with_a_memory : Program
function_with_a_memory = program [] (
    function (node "f" (int_var "x" ∷ []) (int_var "y" ∷ []) []
    (equation "y" (Pre (v "x")) ∷ []))
    ∷ changed (int_var "z" ∷ [])
    (equation "z" (call "f" (v "x" ∷ []))
    ∷ equation "ok" (Truth true) ∷ []) ∷ [])

-- node g(x: int) returns (y: int); let y = x; tel
-- function f(x: int) returns (y: int); let y = g(x); tel
-- node main(x, y: int; c: bool) returns (ok: bool);
-- var z: int;
-- let z = f(x); ok = true; tel
abbrev pub function_that_calls_a_node : Program
function_that_calls_a_node = program [] (
    node "g" (int_var "x" ∷ []) (int_var "y" ∷ []) []
    (equation "y" (v "x") ∷ [])
    ∷ function (node "f" (int_var "x" ∷ []) (int_var "y" ∷ []) []
    (equation "y" (call "g" (v "x" ∷ [])) ∷ []))
    ∷ changed (int_var "z" ∷ [])
    (equation "z" (call "f" (v "x" ∷ []))
    ∷ equation "ok" (Truth true) ∷ []) ∷ [])

-- node g(a, x: int) returns (y: int); let y = x; tel
-- function f(x: int) returns (y: int); let y = red<<g,1>>(x, [x]); tel
-- node main(x, y: int; c: bool) returns (ok: bool);
-- var z: int;
-- let z = f(x); ok = true; tel
abbrev pub function_that_iterates_a_node : Program
function_that_iterates_a_node = program [] (
    node "g" (int_var "a" ∷ int_var "x" ∷ []) (int_var "y" ∷ []) []
    (equation "y" (v "x") ∷ [])
    ∷ function (node "f" (int_var "x" ∷ []) (int_var "y" ∷ []) []
    (equation "y" (iterate Red "g" (Whole 1) (v "x" ∷ Array (exprs (v "x" ∷ [])) ∷ [])) ∷ []))
    ∷ changed (int_var "z" ∷ [])
    (equation "z" (call "f" (v "x" ∷ []))
    ∷ equation "ok" (Truth true) ∷ []) ∷ [])

-- function f(x: int) returns (y: int); let y = pre x; tel
-- node main(x, y: int; c: bool) returns (ok: bool);
-- let ok = true; tel
abbrev pub unreached_function_with_a_memory : Program
unreached_function_with_a_memory = program [] (
    function (node "f" (int_var "x" ∷ []) (int_var "y" ∷ []) []
    (equation "y" (Pre (v "x")) ∷ []))
    ∷ changed []
    (equation "ok" (Truth true) ∷ []) ∷ [])

-- ## The order of refusals

-- node no_value(x: int) returns (y: int);
-- var A: int^(1 div 0);
-- let y = x; A = x^1; tel
-- node no_range(x: int) returns (y: int);
-- var A: int^0;
-- let y = x; A = x^1; tel
-- node main(x, y: int; c: bool) returns (ok: bool);
-- var z: int;
-- let z = no_range(no_value(x)); ok = true; tel
abbrev pub call_before_its_arguments : Program
call_before_its_arguments = program [] (
    node "no_value" (int_var "x" ∷ []) (int_var "y" ∷ []) (int_array "A"
    (Grouped (Combined Divide (Whole 1) (Whole 0)) ∷ []) ∷ [])
    (equation "y" (v "x")
    ∷ equation "A" (Replicate (v "x") (Whole 1)) ∷ [])
    ∷ node "no_range" (int_var "x" ∷ []) (int_var "y" ∷ []) (int_array "A" (Whole 0 ∷ []) ∷ [])
    (equation "y" (v "x")
    ∷ equation "A" (Replicate (v "x") (Whole 1)) ∷ [])
    ∷ changed (int_var "z" ∷ [])
    (equation "z" (call "no_range" (call "no_value" (v "x" ∷ []) ∷ []))
    ∷ equation "ok" (Truth true) ∷ []) ∷ [])

-- node no_value(x: int) returns (y: int);
-- var A: int^(1 div 0);
-- let y = x; A = x^1; tel
-- node no_range(x: int) returns (y: int);
-- var A: int^0;
-- let y = x; A = x^1; tel
-- node main(x, y: int; c: bool) returns (ok: bool);
-- var z: int;
-- let z = no_value(no_range(x)); ok = true; tel
abbrev pub arguments_after_their_call : Program
arguments_after_their_call = program [] (
    node "no_value" (int_var "x" ∷ []) (int_var "y" ∷ []) (int_array "A"
    (Grouped (Combined Divide (Whole 1) (Whole 0)) ∷ []) ∷ [])
    (equation "y" (v "x")
    ∷ equation "A" (Replicate (v "x") (Whole 1)) ∷ [])
    ∷ node "no_range" (int_var "x" ∷ []) (int_var "y" ∷ []) (int_array "A" (Whole 0 ∷ []) ∷ [])
    (equation "y" (v "x")
    ∷ equation "A" (Replicate (v "x") (Whole 1)) ∷ [])
    ∷ changed (int_var "z" ∷ [])
    (equation "z" (call "no_value" (call "no_range" (v "x" ∷ []) ∷ []))
    ∷ equation "ok" (Truth true) ∷ []) ∷ [])

-- node main(x, y: int; c: bool) returns (ok: bool);
-- var A: int^0; B: int^(1 div 0);
-- let A = x^1; B = x^1; ok = true; tel
abbrev pub value_before_range : Program
value_before_range = alone (changed (int_array "A" (Whole 0 ∷ []) ∷ int_array "B"
    (Grouped (Combined Divide (Whole 1) (Whole 0)) ∷ []) ∷ [])
    (equation "A" (Replicate (v "x") (Whole 1))
    ∷ equation "B" (Replicate (v "x") (Whole 1))
    ∷ equation "ok" (Truth true) ∷ []))

-- node g<<const k: int>>(x: int) returns (y: int);
-- var A: int^k;
-- let A = x^k; y = A[0]; tel
-- node main(x, y: int; c: bool) returns (ok: bool);
-- var z, w: int;
-- let z = g<<1>>(x); w = g<<0>>(x); ok = true; tel
abbrev pub one_value_of_a_parameter : Program
one_value_of_a_parameter = program [] (
    with_parameters "k" (node "g" (int_var "x" ∷ []) (int_var "y" ∷ []) (int_array "A"
    (static "k" ∷ []) ∷ [])
    (equation "A" (Replicate (v "x") (static "k"))
    ∷ equation "y" (Index (v "A") (Whole 0)) ∷ []))
    ∷ changed (int_var "z" ∷ int_var "w" ∷ [])
    (equation "z" (call_with "g" (Whole 1 ∷ []) (v "x" ∷ []))
    ∷ equation "w" (call_with "g" (Whole 0 ∷ []) (v "x" ∷ []))
    ∷ equation "ok" (Truth true) ∷ []) ∷ [])

-- node main(x, y: int; c: bool) returns (ok: bool);
-- var z: int;
-- let z = q; ok = main(x, y, c); tel
abbrev pub name_before_recursion : Program
name_before_recursion = alone (changed (int_var "z" ∷ [])
    (equation "z" (v "q")
    ∷ equation "ok" (call "main" (v "x" ∷ v "y" ∷ v "c" ∷ [])) ∷ []))

-- node main<<const k: int>>(x: int) returns (ok: bool);
-- let ok = main<<1>>(x); tel
abbrev pub recursion_before_parameters : Program
recursion_before_parameters = alone (with_parameters "k" (main (int_var "x" ∷ []) []
    (equation "ok" (call_with "main" (Whole 1 ∷ []) (v "x" ∷ [])) ∷ [])))

-- node main<<const k: int>>(x: int) returns (ok: bool);
-- var A: int^(1 div 0);
-- let A = x^1; ok = true; tel
abbrev pub parameters_before_the_instantiation : Program
parameters_before_the_instantiation =
    alone (with_parameters "k" (main (int_var "x" ∷ []) (int_array "A"
    (Grouped (Combined Divide (Whole 1) (Whole 0)) ∷ []) ∷ [])
    (equation "A" (Replicate (v "x") (Whole 1))
    ∷ equation "ok" (Truth true) ∷ [])))

-- node main(x: int) returns (ok: int);
-- var A: int^(1 div 0);
-- let A = x^1; ok = 1; tel
abbrev pub instantiation_before_the_interface : Program
instantiation_before_the_interface =
    alone (node "main" (int_var "x" ∷ []) (int_var "ok" ∷ []) (int_array "A"
    (Grouped (Combined Divide (Whole 1) (Whole 0)) ∷ []) ∷ [])
    (equation "A" (Replicate (v "x") (Whole 1))
    ∷ equation "ok" (Literal 1) ∷ []))

-- node main(x: int) returns (ok: int);
-- let ok = true; tel
abbrev pub interface_before_types : Program
interface_before_types = alone (node "main" (int_var "x" ∷ []) (int_var "ok" ∷ []) []
    (equation "ok" (Truth true) ∷ []))

-- node g(x: int) returns (y: int); let y = true; tel
-- node main(x, y: int; c: bool) returns (ok: bool);
-- var z, w: int;
-- let z = x when c; w = g(x); ok = true; tel
abbrev pub types_before_clocks : Program
types_before_clocks = program [] (
    node "g" (int_var "x" ∷ []) (int_var "y" ∷ []) []
    (equation "y" (Truth true) ∷ [])
    ∷ changed (int_var "z" ∷ int_var "w" ∷ [])
    (equation "z" (when_true (v "x") "c")
    ∷ equation "w" (call "g" (v "x" ∷ []))
    ∷ equation "ok" (Truth true) ∷ []) ∷ [])

-- node f(x: int) returns (y: int); let y = current x; tel
-- node main(x, y: int; c: bool) returns (ok: bool);
-- var z, w: int;
-- let w = x; w = y; z = f(x); ok = true; tel
abbrev pub clocks_before_definitions : Program
clocks_before_definitions = program [] (
    node "f" (int_var "x" ∷ []) (int_var "y" ∷ []) []
    (equation "y" (Current (v "x")) ∷ [])
    ∷ changed (int_var "z" ∷ int_var "w" ∷ [])
    (equation "w" (v "x")
    ∷ equation "w" (v "y")
    ∷ equation "z" (call "f" (v "x" ∷ []))
    ∷ equation "ok" (Truth true) ∷ []) ∷ [])
