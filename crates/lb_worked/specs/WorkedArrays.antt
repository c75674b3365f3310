-- Programs with arrays, iterators and an observer.
-- Source: this project's rule.
use Rattle.std.specs.Prelude.{true, [], ◌∷◌}
use Rattle.lb_syntax.specs.declared.tree.BinaryOperator.TheVariants.{And, Equal, Unequal, Less}
use Rattle.lb_syntax.specs.declared.tree.BinaryOperator.TheVariants.{Greater, AtLeast, Plus, Minus}
use Rattle.lb_syntax.specs.declared.tree.BinaryOperator.TheVariants.{Times, Divide}
use Rattle.lb_syntax.specs.declared.tree.ArrayIterator.TheVariants.{Map, Red, Fill}
use Rattle.lb_syntax.specs.Tree.{Whole, Combined, Literal, Truth, Group, Binary, If, Arrow, Fby}
use Rattle.lb_syntax.specs.Tree.{Pre, Replicate, Index, Slice, Join, Array, Assertion, Node}
use Rattle.lb_static.specs.Instances.{Program}
use Rattle.lb_static.specs.WorkedTrees.{static, v, exprs, call, call_with, when_true, iterate}
use Rattle.lb_static.specs.WorkedTrees.{iterate_symbol, int_var, bool_var, int_array, on_true}
use Rattle.lb_static.specs.WorkedTrees.{equation, equations, node, with_parameters, main, constant}
use Rattle.lb_static.specs.WorkedTrees.{program, alone, bench}
use Rattle.lb_check.specs.Solutions.{Inputs}
use Rattle.lb_worked.specs.WorkedSamples.{trace}

-- ## Iterators

-- node cnt(x: int) returns (n: int); let n = x -> pre n + x; tel
abbrev pub cnt : Node
cnt = node "cnt" (int_var "x" ∷ []) (int_var "n" ∷ []) []
    (equation "n" (Arrow (v "x") (Binary Plus (Pre (v "n")) (v "x"))) ∷ [])

-- puts the digit `d` behind the number `a`: 12 and 3 make 123
-- node dg(a, d: int) returns (r: int); let r = 10 * a + d; tel
abbrev pub dg : Node
dg = node "dg" (int_var "a" ∷ int_var "d" ∷ []) (int_var "r" ∷ []) []
    (equation "r" (Binary Plus (Binary Times (Literal 10) (v "a")) (v "d")) ∷ [])

-- node up(a: int) returns (b, e: int); let b = a * 2; e = a + 1; tel
abbrev pub up : Node
up = node "up" (int_var "a" ∷ []) (int_var "b" ∷ int_var "e" ∷ []) []
    (equation "b" (Binary Times (v "a") (Literal 2))
    ∷ equation "e" (Binary Plus (v "a") (Literal 1)) ∷ [])

-- with the node `cnt` above:
-- node main(A: int^3; b: int) returns (ok: bool);
-- var S: int^3;
-- let S = map<<cnt,3>>(A); ok = red<<+,3>>(0, S) = b; tel
abbrev pub counters : Program
counters = program [] (
    cnt
    ∷ main (int_array "A" (Whole 3 ∷ []) ∷ int_var "b" ∷ []) (int_array "S" (Whole 3 ∷ []) ∷ [])
    (equation "S" (iterate Map "cnt" (Whole 3) (v "A" ∷ []))
    ∷ equation "ok" (Binary Equal (iterate_symbol Red Plus (Whole 3) (Literal 0 ∷ v "S" ∷ []))
    (v "b")) ∷ []) ∷ [])

-- with the node `dg` above:
-- node main(A: int^3; b: int) returns (ok: bool);
-- let ok = red<<dg,3>>(0, A) = b; tel
abbrev pub digits : Program
digits = program [] (
    dg
    ∷ main (int_array "A" (Whole 3 ∷ []) ∷ int_var "b" ∷ []) []
    (equation "ok" (Binary Equal (iterate Red "dg" (Whole 3) (Literal 0 ∷ v "A" ∷ [])) (v "b"))
    ∷ []) ∷ [])

-- node main(A: int^3; b: int) returns (ok: bool);
-- let ok = red<<-,3>>(10, A) = b; tel
abbrev pub differences : Program
differences = alone (main (int_array "A" (Whole 3 ∷ []) ∷ int_var "b" ∷ []) []
    (equation "ok" (Binary Equal (iterate_symbol Red Minus (Whole 3) (Literal 10 ∷ v "A" ∷ []))
    (v "b")) ∷ []))

-- node main(A, B: int^2; p, q: int) returns (ok: bool);
-- var C: int^2;
-- let C = map<<*,2>>(A, B); ok = C[0] = p and C[1] = q; tel
abbrev pub pairs : Program
pairs = alone (main (int_array "A" (Whole 2 ∷ []) ∷ int_array "B" (Whole 2 ∷ []) ∷ int_var "p"
    ∷ int_var "q" ∷ []) (int_array "C" (Whole 2 ∷ []) ∷ [])
    (equation "C" (iterate_symbol Map Times (Whole 2) (v "A" ∷ v "B" ∷ []))
    ∷ equation "ok" (Binary And (Binary Equal (Index (v "C") (Whole 0)) (v "p")) (Binary Equal
    (Index (v "C") (Whole 1)) (v "q"))) ∷ []))

-- with the node `dg` above:
-- with the node `up` above:
-- node main(x: int) returns (ok: bool);
-- var z: int; B: int^3;
-- let
-- (z, B) = fill<<up,3>>(1);
-- ok = z = 8 and red<<dg,3>>(0, B) = 235;
-- tel
abbrev pub unrolled : Program
unrolled = program [] (
    dg
    ∷ up
    ∷ main (int_var "x" ∷ []) (int_var "z" ∷ int_array "B" (Whole 3 ∷ []) ∷ [])
    (equations "z B" (iterate Fill "up" (Whole 3) (Literal 1 ∷ []))
    ∷ equation "ok" (Binary And (Binary Equal (v "z") (Literal 8)) (Binary Equal (iterate Red "dg"
    (Whole 3) (Literal 0 ∷ v "B" ∷ [])) (Literal 235))) ∷ []) ∷ [])

-- with the node `up` above:
-- node main(A: int^2; e: int) returns (ok: bool);
-- var B, C: int^2;
-- let (B, C) = map<<up,2>>(A); ok = B[0] + 10 * B[1] + 100 * C[0] + 1000 * C[1] = e; tel
abbrev pub two_maps : Program
two_maps = program [] (
    up
    ∷ main (int_array "A" (Whole 2 ∷ []) ∷ int_var "e" ∷ []) (int_array "B" (Whole 2 ∷ [])
    ∷ int_array "C" (Whole 2 ∷ []) ∷ [])
    (equations "B C" (iterate Map "up" (Whole 2) (v "A" ∷ []))
    ∷ equation "ok" (Binary Equal (Binary Plus (Binary Plus (Binary Plus (Index (v "B") (Whole 0))
    (Binary Times (Literal 10) (Index (v "B") (Whole 1)))) (Binary Times (Literal 100)
    (Index (v "C") (Whole 0)))) (Binary Times (Literal 1000) (Index (v "C") (Whole 1))))
    (v "e")) ∷ []) ∷ [])

-- at the second instant the first difference is out of range, but the last one is not
abbrev pub far_steps : Inputs
far_steps = trace "2147483647 -2147483647 3 7; -2147483648 2147483647 3 7"

-- ## Forms of arrays

-- with the node `dg` above:
-- node main(A: int^3; x, e: int) returns (ok: bool);
-- var B: int^3;
-- let B = A[1..2] | [x]; ok = red<<dg,3>>(0, B) = e; tel
abbrev pub sliced : Program
sliced = program [] (
    dg
    ∷ main (int_array "A" (Whole 3 ∷ []) ∷ int_var "x" ∷ int_var "e" ∷ []) (int_array "B"
    (Whole 3 ∷ []) ∷ [])
    (equation "B" (Join (Slice (v "A") (Whole 1) (Whole 2)) (Array (exprs (v "x" ∷ []))))
    ∷ equation "ok" (Binary Equal (iterate Red "dg" (Whole 3) (Literal 0 ∷ v "B" ∷ [])) (v "e"))
    ∷ []) ∷ [])

-- node main(m: int^3^2; e: int) returns (ok: bool);
-- let ok = m[1][2] = e; tel
abbrev pub matrix : Program
matrix = alone (main (int_array "m" (Whole 3 ∷ Whole 2 ∷ []) ∷ int_var "e" ∷ []) []
    (equation "ok" (Binary Equal (Index (Index (v "m") (Whole 1)) (Whole 2)) (v "e")) ∷ []))

-- node main(m: int^3^2; e: int) returns (ok: bool);
-- var r: int^3;
-- let r = m[1]; ok = red<<+,3>>(0, r) + m[0..0][0][1] = e; tel
abbrev pub matrix_row : Program
matrix_row = alone (main (int_array "m" (Whole 3 ∷ Whole 2 ∷ []) ∷ int_var "e" ∷ []) (int_array "r"
    (Whole 3 ∷ []) ∷ [])
    (equation "r" (Index (v "m") (Whole 1))
    ∷ equation "ok" (Binary Equal (Binary Plus (iterate_symbol Red Plus (Whole 3) (Literal 0 ∷ v "r"
    ∷ [])) (Index (Index (Slice (v "m") (Whole 0) (Whole 0)) (Whole 0)) (Whole 1))) (v "e"))
    ∷ []))

-- node main(c: bool; A, B: int^1; e: int) returns (ok: bool);
-- var C: int^2;
-- let C = (if c then A else B) | [3]; ok = C[0] + C[1] = e; tel
abbrev pub chosen_array : Program
chosen_array = alone (main (bool_var "c" ∷ int_array "A" (Whole 1 ∷ []) ∷ int_array "B"
    (Whole 1 ∷ []) ∷ int_var "e" ∷ []) (int_array "C" (Whole 2 ∷ []) ∷ [])
    (equation "C" (Join (Group (If (v "c") (v "A") (v "B"))) (Array (exprs (Literal 3 ∷ []))))
    ∷ equation "ok" (Binary Equal (Binary Plus (Index (v "C") (Whole 0)) (Index (v "C") (Whole 1)))
    (v "e")) ∷ []))

-- node main(d: int; A: int^2) returns (ok: bool);
-- var B: int^2;
-- let B = if 1 / d > 0 then A else A; ok = true; tel
abbrev pub whole_choice_faults : Program
whole_choice_faults = alone (main (int_var "d" ∷ int_array "A" (Whole 2 ∷ []) ∷ []) (int_array "B"
    (Whole 2 ∷ []) ∷ [])
    (equation "B" (If (Binary Greater (Binary Divide (Literal 1) (v "d")) (Literal 0)) (v "A")
    (v "A"))
    ∷ equation "ok" (Truth true) ∷ []))

-- node main(A: int^2; e: int) returns (ok: bool);
-- var B: int^2;
-- let B = [7, 8] fby A; ok = B[0] * 10 + B[1] = e; tel
abbrev pub array_memory : Program
array_memory = alone (main (int_array "A" (Whole 2 ∷ []) ∷ int_var "e" ∷ []) (int_array "B"
    (Whole 2 ∷ []) ∷ [])
    (equation "B" (Fby (Array (exprs (Literal 7 ∷ Literal 8 ∷ []))) (v "A"))
    ∷ equation "ok" (Binary Equal (Binary Plus (Binary Times (Index (v "B") (Whole 0)) (Literal 10))
    (Index (v "B") (Whole 1))) (v "e")) ∷ []))

-- node main(A: int^2; e: int) returns (ok: bool);
-- var B, C: int^2; s: int;
-- let
-- B = pre A; C = map<<+,2>>(A, B); s = red<<+,2>>(0, C);
-- ok = true -> s = e;
-- tel
abbrev pub nil_in_arrays : Program
nil_in_arrays = alone (main (int_array "A" (Whole 2 ∷ []) ∷ int_var "e" ∷ []) (int_array "B"
    (Whole 2 ∷ []) ∷ int_array "C" (Whole 2 ∷ []) ∷ int_var "s" ∷ [])
    (equation "B" (Pre (v "A"))
    ∷ equation "C" (iterate_symbol Map Plus (Whole 2) (v "A" ∷ v "B" ∷ []))
    ∷ equation "s" (iterate_symbol Red Plus (Whole 2) (Literal 0 ∷ v "C" ∷ []))
    ∷ equation "ok" (Arrow (Truth true) (Binary Equal (v "s") (v "e"))) ∷ []))

-- node main(x, e: int) returns (ok: bool);
-- var B: int^2^3;
-- let B = x^2^3; ok = B[2][1] = e; tel
abbrev pub copied : Program
copied = alone (main (int_var "x" ∷ int_var "e" ∷ []) (int_array "B" (Whole 2 ∷ Whole 3 ∷ []) ∷ [])
    (equation "B" (Replicate (Replicate (v "x") (Whole 2)) (Whole 3))
    ∷ equation "ok" (Binary Equal (Index (Index (v "B") (Whole 2)) (Whole 1)) (v "e")) ∷ []))

-- const n = 5 div 2;
-- node main(A: int^n) returns (ok: bool);
-- let ok = A[0] = A[n - 1]; tel
abbrev pub size_by_a_constant : Program
size_by_a_constant = program (constant "n" (Combined Divide (Whole 5) (Whole 2)) ∷ []) (
    main (int_array "A" (static "n" ∷ []) ∷ []) []
    (equation "ok" (Binary Equal (Index (v "A") (Whole 0)) (Index (v "A") (Combined Minus
    (static "n") (Whole 1)))) ∷ []) ∷ [])

-- node first<<const k: int>>(x: int) returns (y: int);
-- var A: int^k;
-- let A = x^k; y = A[k - 1] + k; tel
-- node main(x, e: int) returns (ok: bool);
-- let ok = first<<2>>(x) * 100 + first<<3>>(x) = e; tel
abbrev pub static_parameter : Program
static_parameter = program [] (
    with_parameters "k" (node "first" (int_var "x" ∷ []) (int_var "y" ∷ []) (int_array "A"
    (static "k" ∷ []) ∷ [])
    (equation "A" (Replicate (v "x") (static "k"))
    ∷ equation "y" (Binary Plus (Index (v "A") (Combined Minus (static "k") (Whole 1))) (v "k"))
    ∷ []))
    ∷ main (int_var "x" ∷ int_var "e" ∷ []) []
    (equation "ok" (Binary Equal (Binary Plus (Binary Times (call_with "first" (Whole 2 ∷ [])
    (v "x" ∷ [])) (Literal 100)) (call_with "first" (Whole 3 ∷ []) (v "x" ∷ []))) (v "e")) ∷ [])
    ∷ [])

-- ## Several results, loops through `pre`, observers

-- node two(a, b: int) returns (p, q: int); let p = a + 1; q = b * 2; tel
abbrev pub two : Node
two = node "two" (int_var "a" ∷ int_var "b" ∷ []) (int_var "p" ∷ int_var "q" ∷ []) []
    (equation "p" (Binary Plus (v "a") (Literal 1))
    ∷ equation "q" (Binary Times (v "b") (Literal 2)) ∷ [])

-- with the node `two` above:
-- node main(x, e: int) returns (ok: bool);
-- var p, q: int;
-- let (p, q) = two(x, p); ok = q = e; tel
abbrev pub two_results : Program
two_results = program [] (
    two
    ∷ main (int_var "x" ∷ int_var "e" ∷ []) (int_var "p" ∷ int_var "q" ∷ [])
    (equations "p q" (call "two" (v "x" ∷ v "p" ∷ []))
    ∷ equation "ok" (Binary Equal (v "q") (v "e")) ∷ []) ∷ [])

-- node main() returns (ok: bool);
-- var x, y: int;
-- let x = 0 -> pre y; y = x + 1; ok = y < 4; tel
abbrev pub loop_through_pre : Program
loop_through_pre = alone (main [] (int_var "x" ∷ int_var "y" ∷ [])
    (equation "x" (Arrow (Literal 0) (Pre (v "y")))
    ∷ equation "y" (Binary Plus (v "x") (Literal 1))
    ∷ equation "ok" (Binary Less (v "y") (Literal 4)) ∷ []))

-- `counter` of `WorkedScalars` with its two equations exchanged
-- node main(x: int) returns (ok: bool);
-- var n: int;
-- let ok = n < 10; n = 0 -> pre n + x; tel
abbrev pub exchanged : Program
exchanged = alone (main (int_var "x" ∷ []) (int_var "n" ∷ [])
    (equation "ok" (Binary Less (v "n") (Literal 10))
    ∷ equation "n" (Arrow (Literal 0) (Binary Plus (Pre (v "n")) (v "x"))) ∷ []))

-- node plant(x: int) returns (y: int); let y = x * 2; tel
-- node obs(x, y: int) returns (ok: bool); let assert x >= 0; ok = y <> 6; tel
abbrev pub observed : Program
observed = bench "plant" "obs" (
    node "plant" (int_var "x" ∷ []) (int_var "y" ∷ []) []
    (equation "y" (Binary Times (v "x") (Literal 2)) ∷ [])
    ∷ node "obs" (int_var "x" ∷ int_var "y" ∷ []) (bool_var "ok" ∷ []) []
    (Assertion (Binary AtLeast (v "x") (Literal 0))
    ∷ equation "ok" (Binary Unequal (v "y") (Literal 6)) ∷ []) ∷ [])

-- node inverse(x: int) returns (y: int); let y = 10 / x; tel
abbrev pub inverse : Node
inverse = node "inverse" (int_var "x" ∷ []) (int_var "y" ∷ []) []
    (equation "y" (Binary Divide (Literal 10) (v "x")) ∷ [])

-- with the node `inverse` above:
-- node main(c: bool; x: int) returns (ok: bool);
-- let ok = if c then true else inverse(x) = 1; tel
abbrev pub call_not_chosen : Program
call_not_chosen = program [] (
    inverse
    ∷ main (bool_var "c" ∷ int_var "x" ∷ []) []
    (equation "ok" (If (v "c") (Truth true) (Binary Equal (call "inverse" (v "x" ∷ []))
    (Literal 1))) ∷ []) ∷ [])

-- node main(c: bool; A: int^2) returns (ok: bool);
-- let ok = if c then true else red<<+,2>>(0, A) = 0; tel
abbrev pub symbol_not_chosen : Program
symbol_not_chosen = alone (main (bool_var "c" ∷ int_array "A" (Whole 2 ∷ []) ∷ []) []
    (equation "ok" (If (v "c") (Truth true) (Binary Equal (iterate_symbol Red Plus (Whole 2)
    (Literal 0 ∷ v "A" ∷ [])) (Literal 0))) ∷ []))

-- node first(a, b: int) returns (c: int); let c = a; tel
-- node main(x, d: int) returns (ok: bool);
-- let ok = first(x, 1 / d) = x; tel
abbrev pub unused_input : Program
unused_input = program [] (
    node "first" (int_var "a" ∷ int_var "b" ∷ []) (int_var "c" ∷ []) []
    (equation "c" (v "a") ∷ [])
    ∷ main (int_var "x" ∷ int_var "d" ∷ []) []
    (equation "ok" (Binary Equal (call "first" (v "x" ∷ Binary Divide (Literal 1) (v "d") ∷ []))
    (v "x")) ∷ []) ∷ [])

-- node main(x, d: int) returns (ok: bool);
-- let ok = [1 / d, x][1] = x; tel
abbrev pub element_not_taken : Program
element_not_taken = alone (main (int_var "x" ∷ int_var "d" ∷ []) []
    (equation "ok" (Binary Equal (Index (Array (exprs (Binary Divide (Literal 1) (v "d") ∷ v "x"
    ∷ []))) (Whole 1)) (v "x")) ∷ []))

-- node main(c: bool; d: int) returns (ok: bool);
-- var y: int when c;
-- let y = (1 / d) when c; ok = true; tel
abbrev pub value_not_sampled : Program
value_not_sampled = alone (main (bool_var "c" ∷ int_var "d" ∷ []) (on_true (int_var "y") "c" ∷ [])
    (equation "y" (when_true (Group (Binary Divide (Literal 1) (v "d"))) "c")
    ∷ equation "ok" (Truth true) ∷ []))

-- node main(x, d: int) returns (ok: bool);
-- let assert x / d = 1; ok = true; tel
abbrev pub assertion_with_a_fault : Program
assertion_with_a_fault = alone (main (int_var "x" ∷ int_var "d" ∷ []) []
    (Assertion (Binary Equal (Binary Divide (v "x") (v "d")) (Literal 1))
    ∷ equation "ok" (Truth true) ∷ []))
