-- Programs with slower clocks.
-- Source: this project's rule.
use Rattle.std.specs.Prelude.{true, false, [], ◌∷◌}
use Rattle.lb_syntax.specs.declared.tree.BinaryOperator.TheVariants.{Equal, Less, Greater, Plus}
use Rattle.lb_syntax.specs.declared.tree.BinaryOperator.TheVariants.{Times, Divide, Or}
use Rattle.lb_syntax.specs.declared.tree.ArrayIterator.TheVariants.{Map}
use Rattle.lb_syntax.specs.Tree.{Whole, Literal, Truth, Group, Binary, Arrow, Pre, Current, Index}
use Rattle.lb_syntax.specs.Tree.{If, Array, Assertion, Node}
use Rattle.lb_static.specs.Instances.{Program}
use Rattle.lb_static.specs.WorkedTrees.{v, exprs, call, when_true, when_false, iterate, int_var}
use Rattle.lb_static.specs.WorkedTrees.{bool_var, int_array, bool_array, on_true, on_false}
use Rattle.lb_static.specs.WorkedTrees.{equation, equations, node, main, constant, program, alone}

-- ## Memories on a slower clock

-- node cnt(x: int) returns (n: int); let n = x -> pre n + x; tel
abbrev pub cnt : Node
cnt = node "cnt" (int_var "x" ∷ []) (int_var "n" ∷ []) []
    (equation "n" (Arrow (v "x") (Binary Plus (Pre (v "n")) (v "x"))) ∷ [])

-- with the node `cnt` above:
-- node main(c: bool; x, e: int) returns (ok: bool);
-- var m: int;
-- let m = 0 -> current (cnt(x when c)); ok = m = e; tel
abbrev pub slower_counter : Program
slower_counter = program [] (
    cnt
    ∷ main (bool_var "c" ∷ int_var "x" ∷ int_var "e" ∷ []) (int_var "m" ∷ [])
    (equation "m" (Arrow (Literal 0)
    (Current (Group (call "cnt" (when_true (v "x") "c" ∷ [])))))
    ∷ equation "ok" (Binary Equal (v "m") (v "e")) ∷ []) ∷ [])

-- `slower_counter` without its guard `0 ->`; with the node `cnt` above:
-- node main(c: bool; x, e: int) returns (ok: bool);
-- var m: int;
-- let m = current (cnt(x when c)); ok = m = e; tel
abbrev pub unguarded_counter : Program
unguarded_counter = program [] (
    cnt
    ∷ main (bool_var "c" ∷ int_var "x" ∷ int_var "e" ∷ []) (int_var "m" ∷ [])
    (equation "m" (Current (Group (call "cnt" (when_true (v "x") "c" ∷ []))))
    ∷ equation "ok" (Binary Equal (v "m") (v "e")) ∷ []) ∷ [])

-- a counter whose Boolean `known` remembers the first tick; with the node `cnt` above:
-- node main(c: bool; x: int) returns (ok: bool);
-- var known: bool; m: int;
-- let
-- known = c or (false -> pre known);
-- m = current (cnt(x when c));
-- ok = if known then m < 9 else true;
-- tel
abbrev pub known_counter : Program
known_counter = program [] (
    cnt
    ∷ main (bool_var "c" ∷ int_var "x" ∷ []) (bool_var "known" ∷ int_var "m" ∷ [])
    (equation "known" (Binary Or (v "c") (Group (Arrow (Truth false) (Pre (v "known")))))
    ∷ equation "m" (Current (Group (call "cnt" (when_true (v "x") "c" ∷ []))))
    ∷ equation "ok" (If (v "known") (Binary Less (v "m") (Literal 9)) (Truth true)) ∷ []) ∷ [])

-- node main(c: bool; x, e: int) returns (ok: bool);
-- var s, p: int when c; m: int;
-- let s = x when c; p = 0 -> pre s; m = 0 -> current p; ok = m = e; tel
abbrev pub slow_memory : Program
slow_memory = alone (main (bool_var "c" ∷ int_var "x" ∷ int_var "e" ∷ []) (on_true (int_var "s") "c"
    ∷ on_true (int_var "p") "c" ∷ int_var "m" ∷ [])
    (equation "s" (when_true (v "x") "c")
    ∷ equation "p" (Arrow (Literal 0) (Pre (v "s")))
    ∷ equation "m" (Arrow (Literal 0) (Current (v "p")))
    ∷ equation "ok" (Binary Equal (v "m") (v "e")) ∷ []))

-- node main(d, b: bool; e: int) returns (ok: bool);
-- var c: bool when d; n: int when not c; m: int;
-- let c = b when d; n = 1 -> pre n + 1; m = current current n; ok = m = e; tel
abbrev pub absent_clock : Program
absent_clock = alone (main (bool_var "d" ∷ bool_var "b" ∷ int_var "e" ∷ [])
    (on_true (bool_var "c") "d" ∷ on_false (int_var "n") "c" ∷ int_var "m" ∷ [])
    (equation "c" (when_true (v "b") "d")
    ∷ equation "n" (Arrow (Literal 1) (Binary Plus (Pre (v "n")) (Literal 1)))
    ∷ equation "m" (Current (Current (v "n")))
    ∷ equation "ok" (Binary Equal (v "m") (v "e")) ∷ []))

-- node main(d: int) returns (ok: bool);
-- var c: bool; y: int when c;
-- let c = 1 / d > 0; y = 2 when c; ok = true; tel
abbrev pub faulty_clock : Program
faulty_clock = alone (main (int_var "d" ∷ []) (bool_var "c" ∷ on_true (int_var "y") "c" ∷ [])
    (equation "c" (Binary Greater (Binary Divide (Literal 1) (v "d")) (Literal 0))
    ∷ equation "y" (when_true (Literal 2) "c")
    ∷ equation "ok" (Truth true) ∷ []))

-- node main(d: int) returns (ok: bool);
-- var c: bool; y: int when c; z: int when not c;
-- let c = 1 / d > 0; y = 1 / (d when c); z = 1 / (d when not c); ok = true; tel
abbrev pub both_signs_absent : Program
both_signs_absent = alone (main (int_var "d" ∷ []) (bool_var "c" ∷ on_true (int_var "y") "c"
    ∷ on_false (int_var "z") "c" ∷ [])
    (equation "c" (Binary Greater (Binary Divide (Literal 1) (v "d")) (Literal 0))
    ∷ equation "y" (Binary Divide (Literal 1) (Group (when_true (v "d") "c")))
    ∷ equation "z" (Binary Divide (Literal 1) (Group (when_false (v "d") "c")))
    ∷ equation "ok" (Truth true) ∷ []))

-- node main(b: bool; x: int) returns (ok: bool);
-- var c: bool; y: int when c; z: int when not c;
-- let c = pre b; y = x when c; z = x when not c; ok = true; tel
abbrev pub nil_clock : Program
nil_clock = alone (main (bool_var "b" ∷ int_var "x" ∷ []) (bool_var "c" ∷ on_true (int_var "y") "c"
    ∷ on_false (int_var "z") "c" ∷ [])
    (equation "c" (Pre (v "b"))
    ∷ equation "y" (when_true (v "x") "c")
    ∷ equation "z" (when_false (v "x") "c")
    ∷ equation "ok" (Truth true) ∷ []))

-- node main(b: bool; x: int) returns (ok: bool);
-- var c: bool; y: int when c;
-- let c = true -> pre b; y = x when c; ok = true; tel
abbrev pub guarded_clock : Program
guarded_clock = alone (main (bool_var "b" ∷ int_var "x" ∷ []) (bool_var "c" ∷ on_true (int_var "y")
    "c" ∷ [])
    (equation "c" (Arrow (Truth true) (Pre (v "b")))
    ∷ equation "y" (when_true (v "x") "c")
    ∷ equation "ok" (Truth true) ∷ []))

-- ## Calls with clocked parameters

-- node f(c: bool; y: int when c) returns (z: int when c); let z = y; tel
abbrev pub f : Node
f = node "f" (bool_var "c" ∷ on_true (int_var "y") "c" ∷ []) (on_true (int_var "z") "c" ∷ []) []
    (equation "z" (v "y") ∷ [])

-- with the node `f` above:
-- node main(c: bool; x: int) returns (ok: bool);
-- var w: int when c;
-- let w = f(c, x when c); ok = true; tel
abbrev pub clocked_result : Program
clocked_result = program [] (
    f
    ∷ main (bool_var "c" ∷ int_var "x" ∷ []) (on_true (int_var "w") "c" ∷ [])
    (equation "w" (call "f" (v "c" ∷ when_true (v "x") "c" ∷ []))
    ∷ equation "ok" (Truth true) ∷ []) ∷ [])

-- with the node `f` above:
-- node main(c: bool; x, e: int) returns (ok: bool);
-- var w: int;
-- let w = current f(((c)), x when c); ok = w = e; tel
abbrev pub current_of_a_result : Program
current_of_a_result = program [] (
    f
    ∷ main (bool_var "c" ∷ int_var "x" ∷ int_var "e" ∷ []) (int_var "w" ∷ [])
    (equation "w" (Current (call "f" (Group (Group (v "c")) ∷ when_true (v "x") "c" ∷ [])))
    ∷ equation "ok" (Binary Equal (v "w") (v "e")) ∷ []) ∷ [])

-- with the node `f` above:
-- node main(c: bool; x: int) returns (ok: bool);
-- var w: int when c;
-- let w = f(true, x); ok = true; tel
abbrev pub truth_for_a_clock : Program
truth_for_a_clock = program [] (
    f
    ∷ main (bool_var "c" ∷ int_var "x" ∷ []) (on_true (int_var "w") "c" ∷ [])
    (equation "w" (call "f" (Truth true ∷ v "x" ∷ []))
    ∷ equation "ok" (Truth true) ∷ []) ∷ [])

-- with the node `f` above:
-- node main(c, d: bool; x: int) returns (ok: bool);
-- var w: int when c;
-- let w = f(c, x when d); ok = true; tel
abbrev pub other_clock_for_an_argument : Program
other_clock_for_an_argument = program [] (
    f
    ∷ main (bool_var "c" ∷ bool_var "d" ∷ int_var "x" ∷ []) (on_true (int_var "w") "c" ∷ [])
    (equation "w" (call "f" (v "c" ∷ when_true (v "x") "d" ∷ []))
    ∷ equation "ok" (Truth true) ∷ []) ∷ [])

-- with the node `f` above:
-- node main(c: bool; x: int) returns (ok: bool);
-- var w: int;
-- let w = current f(c = c, x when c); ok = true; tel
abbrev pub expression_for_a_clock : Program
expression_for_a_clock = program [] (
    f
    ∷ main (bool_var "c" ∷ int_var "x" ∷ []) (int_var "w" ∷ [])
    (equation "w" (Current (call "f" (Binary Equal (v "c") (v "c") ∷ when_true (v "x") "c" ∷ [])))
    ∷ equation "ok" (Truth true) ∷ []) ∷ [])

-- node split(x: int) returns (c: bool; y: int when c); let c = x > 0; y = x when c; tel
abbrev pub split : Node
split = node "split" (int_var "x" ∷ []) (bool_var "c" ∷ on_true (int_var "y") "c" ∷ []) []
    (equation "c" (Binary Greater (v "x") (Literal 0))
    ∷ equation "y" (when_true (v "x") "c") ∷ [])

-- with the node `split` above:
-- node main(x, e: int) returns (ok: bool);
-- var d: bool; z: int when d; m: int;
-- let (d, z) = split(x); m = current z; ok = m = e; tel
abbrev pub clock_among_results : Program
clock_among_results = program [] (
    split
    ∷ main (int_var "x" ∷ int_var "e" ∷ []) (bool_var "d" ∷ on_true (int_var "z") "d" ∷ int_var "m"
    ∷ [])
    (equations "d z" (call "split" (v "x" ∷ []))
    ∷ equation "m" (Current (v "z"))
    ∷ equation "ok" (Binary Equal (v "m") (v "e")) ∷ []) ∷ [])

-- with the node `split` above:
-- node main(x, e: int) returns (ok: bool);
-- var d, b: bool; z: int when b;
-- let (d, z) = split(x); b = true; ok = true; tel
abbrev pub result_on_another_clock : Program
result_on_another_clock = program [] (
    split
    ∷ main (int_var "x" ∷ int_var "e" ∷ []) (bool_var "d" ∷ bool_var "b" ∷ on_true (int_var "z") "b"
    ∷ [])
    (equations "d z" (call "split" (v "x" ∷ []))
    ∷ equation "b" (Truth true)
    ∷ equation "ok" (Truth true) ∷ []) ∷ [])

-- node g(c, d: bool; x: int when c; y: int when d) returns (z: int when c); let z = x; tel
abbrev pub g : Node
g = node "g" (bool_var "c" ∷ bool_var "d" ∷ on_true (int_var "x") "c" ∷ on_true (int_var "y") "d"
    ∷ []) (on_true (int_var "z") "c" ∷ []) []
    (equation "z" (v "x") ∷ [])

-- with the node `g` above:
-- node main(a: bool; x: int) returns (ok: bool);
-- var w: int when a;
-- let w = g(a, a, x when a, x when a); ok = true; tel
abbrev pub one_variable_for_two : Program
one_variable_for_two = program [] (
    g
    ∷ main (bool_var "a" ∷ int_var "x" ∷ []) (on_true (int_var "w") "a" ∷ [])
    (equation "w" (call "g" (v "a" ∷ v "a" ∷ when_true (v "x") "a" ∷ when_true (v "x") "a" ∷ []))
    ∷ equation "ok" (Truth true) ∷ []) ∷ [])

-- node g(c, d: bool; x: int when c; y: int when d) returns (z: int when c); let z = x + y; tel
-- node main(a: bool; x: int) returns (ok: bool);
-- var w: int when a;
-- let w = g(a, a, x when a, x when a); ok = true; tel
abbrev pub two_parameters_are_two_clocks : Program
two_parameters_are_two_clocks = program [] (
    node "g" (bool_var "c" ∷ bool_var "d" ∷ on_true (int_var "x") "c" ∷ on_true (int_var "y") "d"
    ∷ []) (on_true (int_var "z") "c" ∷ []) []
    (equation "z" (Binary Plus (v "x") (v "y")) ∷ [])
    ∷ main (bool_var "a" ∷ int_var "x" ∷ []) (on_true (int_var "w") "a" ∷ [])
    (equation "w" (call "g" (v "a" ∷ v "a" ∷ when_true (v "x") "a" ∷ when_true (v "x") "a" ∷ []))
    ∷ equation "ok" (Truth true) ∷ []) ∷ [])

-- with the node `f` above:
-- node main(c: bool; e: int) returns (ok: bool);
-- var w: int;
-- let w = current f(c, 3); ok = w = e; tel
abbrev pub literal_for_a_clocked_input : Program
literal_for_a_clocked_input = program [] (
    f
    ∷ main (bool_var "c" ∷ int_var "e" ∷ []) (int_var "w" ∷ [])
    (equation "w" (Current (call "f" (v "c" ∷ Literal 3 ∷ [])))
    ∷ equation "ok" (Binary Equal (v "w") (v "e")) ∷ []) ∷ [])

-- node inner(c: bool; x: int) returns (y: int);
-- var z: int when c;
-- let z = x when c; y = current z; tel
abbrev pub inner : Node
inner = node "inner" (bool_var "c" ∷ int_var "x" ∷ []) (int_var "y" ∷ []) (on_true (int_var "z") "c"
    ∷ [])
    (equation "z" (when_true (v "x") "c")
    ∷ equation "y" (Current (v "z")) ∷ [])

-- with the node `inner` above:
-- node main(x, e: int) returns (ok: bool);
-- let ok = inner(x > 0, x) = e; tel
abbrev pub any_expression_for_an_inner_clock : Program
any_expression_for_an_inner_clock = program [] (
    inner
    ∷ main (int_var "x" ∷ int_var "e" ∷ []) []
    (equation "ok" (Binary Equal (call "inner" (Binary Greater (v "x") (Literal 0) ∷ v "x" ∷ []))
    (v "e")) ∷ []) ∷ [])

-- ## Calls whose arguments determine no clock

-- node ticks() returns (n: int); let n = 1 -> pre n + 1; tel
abbrev pub ticks : Node
ticks = node "ticks" [] (int_var "n" ∷ []) []
    (equation "n" (Arrow (Literal 1) (Binary Plus (Pre (v "n")) (Literal 1))) ∷ [])

-- with the node `ticks` above:
-- node main(c: bool; e: int) returns (ok: bool);
-- var n: int when c; m: int;
-- let n = ticks(); m = current n; ok = m = e; tel
abbrev pub slower_call_without_arguments : Program
slower_call_without_arguments = program [] (
    ticks
    ∷ main (bool_var "c" ∷ int_var "e" ∷ []) (on_true (int_var "n") "c" ∷ int_var "m" ∷ [])
    (equation "n" (call "ticks" ([]))
    ∷ equation "m" (Current (v "n"))
    ∷ equation "ok" (Binary Equal (v "m") (v "e")) ∷ []) ∷ [])

-- with the node `ticks` above:
-- node main(c: bool) returns (ok: bool);
-- var m: int;
-- let m = current ticks(); ok = true; tel
abbrev pub current_of_a_call_without_arguments : Program
current_of_a_call_without_arguments = program [] (
    ticks
    ∷ main (bool_var "c" ∷ []) (int_var "m" ∷ [])
    (equation "m" (Current (call "ticks" ([])))
    ∷ equation "ok" (Truth true) ∷ []) ∷ [])

-- node two(a, b: int) returns (p, q: int); let p = a + 1; q = b * 2; tel
-- node main(c: bool; e: int) returns (ok: bool);
-- var p, q: int when c;
-- let (p, q) = two(3, 4); ok = current (p * 10 + q) = e; tel
abbrev pub slower_results_of_literals : Program
slower_results_of_literals = program [] (
    node "two" (int_var "a" ∷ int_var "b" ∷ []) (int_var "p" ∷ int_var "q" ∷ []) []
    (equation "p" (Binary Plus (v "a") (Literal 1))
    ∷ equation "q" (Binary Times (v "b") (Literal 2)) ∷ [])
    ∷ main (bool_var "c" ∷ int_var "e" ∷ []) (on_true (int_var "p") "c" ∷ on_true (int_var "q") "c"
    ∷ [])
    (equations "p q" (call "two" (Literal 3 ∷ Literal 4 ∷ []))
    ∷ equation "ok" (Binary Equal (Current (Group (Binary Plus (Binary Times (v "p") (Literal 10))
    (v "q")))) (v "e")) ∷ []) ∷ [])

-- ## What clock an expression is on

-- node main(x: int) returns (ok: bool);
-- var z: int;
-- let z = current 1; ok = true; tel
abbrev pub current_of_a_literal : Program
current_of_a_literal = alone (main (int_var "x" ∷ []) (int_var "z" ∷ [])
    (equation "z" (Current (Literal 1))
    ∷ equation "ok" (Truth true) ∷ []))

-- node main(x: int) returns (ok: bool);
-- var z: int;
-- let z = current x; ok = true; tel
abbrev pub current_on_the_base_clock : Program
current_on_the_base_clock = alone (main (int_var "x" ∷ []) (int_var "z" ∷ [])
    (equation "z" (Current (v "x"))
    ∷ equation "ok" (Truth true) ∷ []))

-- node main(x: int) returns (ok: bool);
-- var a: bool when b; b: bool when a;
-- let a = true when b; b = true when a; ok = true; tel
abbrev pub clocks_in_a_circle : Program
clocks_in_a_circle = alone (main (int_var "x" ∷ []) (on_true (bool_var "a") "b" ∷ on_true
    (bool_var "b") "a" ∷ [])
    (equation "a" (when_true (Truth true) "b")
    ∷ equation "b" (when_true (Truth true) "a")
    ∷ equation "ok" (Truth true) ∷ []))

-- node main(x: int) returns (ok: bool);
-- var a: bool when b; b: bool when a;
-- let a = true; b = true; ok = true; tel
abbrev pub circle_of_literals : Program
circle_of_literals = alone (main (int_var "x" ∷ []) (on_true (bool_var "a") "b" ∷ on_true
    (bool_var "b") "a" ∷ [])
    (equation "a" (Truth true)
    ∷ equation "b" (Truth true)
    ∷ equation "ok" (Truth true) ∷ []))

-- node main(x, y: int; c: bool) returns (ok: bool);
-- var z: int;
-- let z = x + (y when c); ok = true; tel
abbrev pub two_clocks : Program
two_clocks = alone (main (int_var "x" ∷ int_var "y" ∷ bool_var "c" ∷ []) (int_var "z" ∷ [])
    (equation "z" (Binary Plus (v "x") (Group (when_true (v "y") "c")))
    ∷ equation "ok" (Truth true) ∷ []))

-- node main(x: int; c: bool) returns (ok: bool);
-- var z: int when c;
-- let z = (x when c) + (x when not c); ok = true; tel
abbrev pub two_signs : Program
two_signs = alone (main (int_var "x" ∷ bool_var "c" ∷ []) (on_true (int_var "z") "c" ∷ [])
    (equation "z" (Binary Plus (Group (when_true (v "x") "c")) (Group (when_false (v "x") "c")))
    ∷ equation "ok" (Truth true) ∷ []))

-- node main(x: int; c: bool) returns (ok: bool);
-- var d: bool; z: int when c;
-- let d = c; z = x when d; ok = true; tel
abbrev pub equal_variables_are_two_clocks : Program
equal_variables_are_two_clocks = alone (main (int_var "x" ∷ bool_var "c" ∷ []) (bool_var "d"
    ∷ on_true (int_var "z") "c" ∷ [])
    (equation "d" (v "c")
    ∷ equation "z" (when_true (v "x") "d")
    ∷ equation "ok" (Truth true) ∷ []))

-- node main(x, y: int; c: bool) returns (ok: bool);
-- var z: int;
-- let z = x when y; ok = true; tel
abbrev pub when_of_an_int : Program
when_of_an_int = alone (main (int_var "x" ∷ int_var "y" ∷ bool_var "c" ∷ []) (int_var "z" ∷ [])
    (equation "z" (when_true (v "x") "y")
    ∷ equation "ok" (Truth true) ∷ []))

-- const k = 4;
-- node main(c: bool; x, e: int) returns (ok: bool);
-- var y: int when c; m: int;
-- let y = 2 + k; m = current (y + 1); ok = m = e; tel
abbrev pub slower_literals : Program
slower_literals = program (constant "k" (Whole 4) ∷ []) (
    main (bool_var "c" ∷ int_var "x" ∷ int_var "e" ∷ []) (on_true (int_var "y") "c" ∷ int_var "m"
    ∷ [])
    (equation "y" (Binary Plus (Literal 2) (v "k"))
    ∷ equation "m" (Current (Group (Binary Plus (v "y") (Literal 1))))
    ∷ equation "ok" (Binary Equal (v "m") (v "e")) ∷ []) ∷ [])

-- node main(c: bool; x: int) returns (ok: bool);
-- let assert (x when c) > 0; ok = true; tel
abbrev pub slow_assertion : Program
slow_assertion = alone (main (bool_var "c" ∷ int_var "x" ∷ []) []
    (Assertion (Binary Greater (Group (when_true (v "x") "c")) (Literal 0))
    ∷ equation "ok" (Truth true) ∷ []))

-- node pos(x: int) returns (p: bool); let p = x > 0; tel
abbrev pub pos : Node
pos = node "pos" (int_var "x" ∷ []) (bool_var "p" ∷ []) []
    (equation "p" (Binary Greater (v "x") (Literal 0)) ∷ [])

-- with the node `pos` above:
-- node main(x: int) returns (ok: bool);
-- let assert pos(x); ok = x < 3; tel
abbrev pub asserted_call : Program
asserted_call = program [] (
    pos
    ∷ main (int_var "x" ∷ []) []
    (Assertion (call "pos" (v "x" ∷ []))
    ∷ equation "ok" (Binary Less (v "x") (Literal 3)) ∷ []) ∷ [])

-- node main(c: bool; A: int^2; e: int) returns (ok: bool);
-- var B: int^2 when c; C: int^2;
-- let B = [7, 8] -> A when c; C = current B; ok = C[0] * 10 + C[1] = e; tel
abbrev pub slower_arrays : Program
slower_arrays = alone (main (bool_var "c" ∷ int_array "A" (Whole 2 ∷ []) ∷ int_var "e" ∷ [])
    (on_true (int_array "B" (Whole 2 ∷ [])) "c" ∷ int_array "C" (Whole 2 ∷ []) ∷ [])
    (equation "B" (Arrow (Array (exprs (Literal 7 ∷ Literal 8 ∷ []))) (when_true (v "A") "c"))
    ∷ equation "C" (Current (v "B"))
    ∷ equation "ok" (Binary Equal (Binary Plus (Binary Times (Index (v "C") (Whole 0)) (Literal 10))
    (Index (v "C") (Whole 1))) (v "e")) ∷ []))

-- with the node `f` above:
-- node main(c: bool^2; x: int^2) returns (ok: bool);
-- var w: int^2;
-- let w = map<<f,2>>(c, x); ok = true; tel
abbrev pub iterated_clocked_node : Program
iterated_clocked_node = program [] (
    f
    ∷ main (bool_array "c" (Whole 2 ∷ []) ∷ int_array "x" (Whole 2 ∷ []) ∷ []) (int_array "w"
    (Whole 2 ∷ []) ∷ [])
    (equation "w" (iterate Map "f" (Whole 2) (v "c" ∷ v "x" ∷ []))
    ∷ equation "ok" (Truth true) ∷ []) ∷ [])

-- node main(c: bool; x: int when c) returns (ok: bool);
-- let ok = true; tel
abbrev pub clocked_root : Program
clocked_root = alone (main (bool_var "c" ∷ on_true (int_var "x") "c" ∷ []) []
    (equation "ok" (Truth true) ∷ []))

-- node g(x: int when d) returns (y: int);
-- var d: bool;
-- let d = true; y = 1; tel
-- node main(x: int) returns (ok: bool);
-- var z: int;
-- let z = g(x); ok = true; tel
abbrev pub input_clocked_by_a_local : Program
input_clocked_by_a_local = program [] (
    node "g" (on_true (int_var "x") "d" ∷ []) (int_var "y" ∷ []) (bool_var "d" ∷ [])
    (equation "d" (Truth true)
    ∷ equation "y" (Literal 1) ∷ [])
    ∷ main (int_var "x" ∷ []) (int_var "z" ∷ [])
    (equation "z" (call "g" (v "x" ∷ []))
    ∷ equation "ok" (Truth true) ∷ []) ∷ [])
