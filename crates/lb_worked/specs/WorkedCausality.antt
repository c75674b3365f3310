-- Programs with and without an element that needs itself.
-- Source: this project's rule.
use Rattle.std.specs.Prelude.{true, [], ◌∷◌}
use Rattle.lb_syntax.specs.declared.tree.BinaryOperator.TheVariants.{Equal, Less, Plus, Minus}
use Rattle.lb_syntax.specs.declared.tree.BinaryOperator.TheVariants.{Times}
use Rattle.lb_syntax.specs.declared.tree.ArrayIterator.TheVariants.{Map, Fill}
use Rattle.lb_syntax.specs.Tree.{Whole, Literal, Truth, Group, Binary, If, Arrow, Fby, Pre, Current}
use Rattle.lb_syntax.specs.Tree.{Index, Slice, Join, Array, Node}
use Rattle.lb_static.specs.Instances.{Program}
use Rattle.lb_static.specs.WorkedTrees.{v, exprs, call, when_true, iterate, int_var, bool_var}
use Rattle.lb_static.specs.WorkedTrees.{int_array, on_true, equation, equations, node, main}
use Rattle.lb_static.specs.WorkedTrees.{program, alone, bench}

-- ## Cycles

-- node main(c: bool) returns (ok: bool);
-- var x, y: int;
-- let x = y; y = x; ok = true; tel
abbrev pub each_other : Program
each_other = alone (main (bool_var "c" ∷ []) (int_var "x" ∷ int_var "y" ∷ [])
    (equation "x" (v "y")
    ∷ equation "y" (v "x")
    ∷ equation "ok" (Truth true) ∷ []))

-- node main(c: bool) returns (ok: bool);
-- var x: int;
-- let x = x; ok = true; tel
abbrev pub itself : Program
itself = alone (main (bool_var "c" ∷ []) (int_var "x" ∷ [])
    (equation "x" (v "x")
    ∷ equation "ok" (Truth true) ∷ []))

-- node main(x: int) returns (ok: bool);
-- var c: bool; y: bool when c;
-- let y = true when c; c = current y; ok = true; tel
abbrev pub clock_of_itself : Program
clock_of_itself = alone (main (int_var "x" ∷ []) (bool_var "c" ∷ on_true (bool_var "y") "c" ∷ [])
    (equation "y" (when_true (Truth true) "c")
    ∷ equation "c" (Current (v "y"))
    ∷ equation "ok" (Truth true) ∷ []))

-- node main(x: int) returns (ok: bool);
-- var c: bool; y: bool when c;
-- let y = true when c; c = current pre y; ok = true; tel
abbrev pub clock_of_a_memory : Program
clock_of_a_memory = alone (main (int_var "x" ∷ []) (bool_var "c" ∷ on_true (bool_var "y") "c" ∷ [])
    (equation "y" (when_true (Truth true) "c")
    ∷ equation "c" (Current (Pre (v "y")))
    ∷ equation "ok" (Truth true) ∷ []))

-- node main(c: bool) returns (ok: bool);
-- var x, y: int;
-- let x = if c then y else 1; y = if c then 1 else x; ok = true; tel
abbrev pub both_branches : Program
both_branches = alone (main (bool_var "c" ∷ []) (int_var "x" ∷ int_var "y" ∷ [])
    (equation "x" (If (v "c") (v "y") (Literal 1))
    ∷ equation "y" (If (v "c") (Literal 1) (v "x"))
    ∷ equation "ok" (Truth true) ∷ []))

-- node main(c: bool) returns (ok: bool);
-- var x: int;
-- let x = 1 -> x; ok = true; tel
abbrev pub both_sides : Program
both_sides = alone (main (bool_var "c" ∷ []) (int_var "x" ∷ [])
    (equation "x" (Arrow (Literal 1) (v "x"))
    ∷ equation "ok" (Truth true) ∷ []))

-- node main(c: bool) returns (ok: bool);
-- var x: int;
-- let x = x fby 1; ok = true; tel
abbrev pub first_side_of_fby : Program
first_side_of_fby = alone (main (bool_var "c" ∷ []) (int_var "x" ∷ [])
    (equation "x" (Fby (v "x") (Literal 1))
    ∷ equation "ok" (Truth true) ∷ []))

-- node main(c: bool) returns (ok: bool);
-- var x: int;
-- let x = 0 * x; ok = true; tel
abbrev pub unused_by_product : Program
unused_by_product = alone (main (bool_var "c" ∷ []) (int_var "x" ∷ [])
    (equation "x" (Binary Times (Literal 0) (v "x"))
    ∷ equation "ok" (Truth true) ∷ []))

-- node two(a, b: int) returns (p, q: int); let p = a + 1; q = b * 2; tel
abbrev pub two : Node
two = node "two" (int_var "a" ∷ int_var "b" ∷ []) (int_var "p" ∷ int_var "q" ∷ []) []
    (equation "p" (Binary Plus (v "a") (Literal 1))
    ∷ equation "q" (Binary Times (v "b") (Literal 2)) ∷ [])

-- with the node `two` above:
-- node main(x, e: int) returns (ok: bool);
-- var p, q: int;
-- let (p, q) = two(q, p); ok = q = e; tel
abbrev pub crossed_results : Program
crossed_results = program [] (
    two
    ∷ main (int_var "x" ∷ int_var "e" ∷ []) (int_var "p" ∷ int_var "q" ∷ [])
    (equations "p q" (call "two" (v "q" ∷ v "p" ∷ []))
    ∷ equation "ok" (Binary Equal (v "q") (v "e")) ∷ []) ∷ [])

-- node plant(x: int) returns (y: int); let y = y; tel
-- node obs(x, y: int) returns (ok: bool); let ok = x = y; tel
abbrev pub through_the_observer : Program
through_the_observer = bench "plant" "obs" (
    node "plant" (int_var "x" ∷ []) (int_var "y" ∷ []) []
    (equation "y" (v "y") ∷ [])
    ∷ node "obs" (int_var "x" ∷ int_var "y" ∷ []) (bool_var "ok" ∷ []) []
    (equation "ok" (Binary Equal (v "x") (v "y")) ∷ []) ∷ [])

-- ## No cycles

-- with the node `two` above:
-- node main(x, e: int) returns (ok: bool);
-- var p, q: int;
-- let (p, q) = two(x, p); ok = q = e; tel
abbrev pub one_after_the_other : Program
one_after_the_other = program [] (
    two
    ∷ main (int_var "x" ∷ int_var "e" ∷ []) (int_var "p" ∷ int_var "q" ∷ [])
    (equations "p q" (call "two" (v "x" ∷ v "p" ∷ []))
    ∷ equation "ok" (Binary Equal (v "q") (v "e")) ∷ []) ∷ [])

-- node main(c: bool) returns (ok: bool);
-- var x, y: int;
-- let x = 0 -> pre y; y = x + 1; ok = y < 4; tel
abbrev pub through_pre : Program
through_pre = alone (main (bool_var "c" ∷ []) (int_var "x" ∷ int_var "y" ∷ [])
    (equation "x" (Arrow (Literal 0) (Pre (v "y")))
    ∷ equation "y" (Binary Plus (v "x") (Literal 1))
    ∷ equation "ok" (Binary Less (v "y") (Literal 4)) ∷ []))

-- node main(c: bool) returns (ok: bool);
-- var x: int;
-- let x = 0 fby x + 1; ok = x < 4; tel
abbrev pub through_fby : Program
through_fby = alone (main (bool_var "c" ∷ []) (int_var "x" ∷ [])
    (equation "x" (Fby (Literal 0) (Binary Plus (v "x") (Literal 1)))
    ∷ equation "ok" (Binary Less (v "x") (Literal 4)) ∷ []))

-- node main(c: bool) returns (ok: bool);
-- var A: int^3;
-- let A = [1] | A[0..1]; ok = A[2] = 1; tel
abbrev pub elements_of_one_array : Program
elements_of_one_array = alone (main (bool_var "c" ∷ []) (int_array "A" (Whole 3 ∷ []) ∷ [])
    (equation "A" (Join (Array (exprs (Literal 1 ∷ []))) (Slice (v "A") (Whole 0) (Whole 1)))
    ∷ equation "ok" (Binary Equal (Index (v "A") (Whole 2)) (Literal 1)) ∷ []))

-- node add(a, b: int) returns (s: int); let s = a + b; tel
-- node main(A: int^3; e: int) returns (ok: bool);
-- var S: int^3;
-- let S = map<<add,3>>([0] | S[0..1], A); ok = S[2] = e; tel
abbrev pub running_sums : Program
running_sums = program [] (
    node "add" (int_var "a" ∷ int_var "b" ∷ []) (int_var "s" ∷ []) []
    (equation "s" (Binary Plus (v "a") (v "b")) ∷ [])
    ∷ main (int_array "A" (Whole 3 ∷ []) ∷ int_var "e" ∷ []) (int_array "S" (Whole 3 ∷ []) ∷ [])
    (equation "S" (iterate Map "add" (Whole 3) (Join (Array (exprs (Literal 0 ∷ []))) (Slice (v "S")
    (Whole 0) (Whole 1)) ∷ v "A" ∷ []))
    ∷ equation "ok" (Binary Equal (Index (v "S") (Whole 2)) (v "e")) ∷ []) ∷ [])

-- node main(c: bool) returns (ok: bool);
-- var A: int^2;
-- let A = [A[1], A[0]]; ok = true; tel
abbrev pub one_array_in_a_circle : Program
one_array_in_a_circle = alone (main (bool_var "c" ∷ []) (int_array "A" (Whole 2 ∷ []) ∷ [])
    (equation "A" (Array (exprs (Index (v "A") (Whole 1) ∷ Index (v "A") (Whole 0) ∷ [])))
    ∷ equation "ok" (Truth true) ∷ []))

-- node main(c: bool) returns (ok: bool);
-- var z: int; B: int^2;
-- let (z, B) = fill<<next,2>>(1); ok = B[1] = z - 1; tel
-- node next(a: int) returns (b, r: int); let b = a + 1; r = a; tel
abbrev pub iterated_array : Program
iterated_array = program [] (
    main (bool_var "c" ∷ []) (int_var "z" ∷ int_array "B" (Whole 2 ∷ []) ∷ [])
    (equations "z B" (iterate Fill "next" (Whole 2) (Literal 1 ∷ []))
    ∷ equation "ok" (Binary Equal (Index (v "B") (Whole 1)) (Binary Minus (v "z") (Literal 1)))
    ∷ [])
    ∷ node "next" (int_var "a" ∷ []) (int_var "b" ∷ int_var "r" ∷ []) []
    (equation "b" (Binary Plus (v "a") (Literal 1))
    ∷ equation "r" (v "a") ∷ []) ∷ [])

-- node main(c: bool; x: int) returns (ok: bool);
-- var n: int when c; m: int;
-- let n = (x when c) + (0 -> pre n); m = current n; ok = m < 9; tel
abbrev pub slower_loop : Program
slower_loop = alone (main (bool_var "c" ∷ int_var "x" ∷ []) (on_true (int_var "n") "c" ∷ int_var "m"
    ∷ [])
    (equation "n" (Binary Plus (Group (when_true (v "x") "c"))
    (Group (Arrow (Literal 0) (Pre (v "n")))))
    ∷ equation "m" (Current (v "n"))
    ∷ equation "ok" (Binary Less (v "m") (Literal 9)) ∷ []))
