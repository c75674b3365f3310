-- Programs of one node without clocks or arrays.
-- Source: this project's rule.
use Rattle.std.specs.Prelude.{true, false, [], ◌∷◌}
use Rattle.lb_syntax.specs.declared.tree.UnaryOperator.TheVariants.{Not, Negate}
use Rattle.lb_syntax.specs.declared.tree.BinaryOperator.TheVariants.{Or, Xor, And, Implies, Equal}
use Rattle.lb_syntax.specs.declared.tree.BinaryOperator.TheVariants.{Unequal, Less, AtMost, Greater}
use Rattle.lb_syntax.specs.declared.tree.BinaryOperator.TheVariants.{AtLeast, Plus, Divide, Modulo}
use Rattle.lb_syntax.specs.Tree.{Literal, Truth, Group, Unary, Binary, If, Arrow, Fby, Pre, Current}
use Rattle.lb_syntax.specs.Tree.{AtMostOne, Nor, Assertion}
use Rattle.lb_static.specs.Instances.{Program}
use Rattle.lb_static.specs.WorkedTrees.{v, exprs, when_true, int_var, bool_var, equation, main}
use Rattle.lb_static.specs.WorkedTrees.{alone}
use Rattle.lb_check.specs.Solutions.{Inputs}
use Rattle.lb_worked.specs.WorkedSamples.{trace}

-- ## The first run

-- node main(x: int) returns (ok: bool);
-- var n: int;
-- let n = 0 -> pre n + x; ok = n < 10; tel
abbrev pub counter : Program
counter = alone (main (int_var "x" ∷ []) (int_var "n" ∷ [])
    (equation "n" (Arrow (Literal 0) (Binary Plus (Pre (v "n")) (v "x")))
    ∷ equation "ok" (Binary Less (v "n") (Literal 10)) ∷ []))

-- `counter` with the assertion `x < 6`
-- node main(x: int) returns (ok: bool);
-- var n: int;
-- let assert x < 6; n = 0 -> pre n + x; ok = n < 10; tel
abbrev pub assuming_counter : Program
assuming_counter = alone (main (int_var "x" ∷ []) (int_var "n" ∷ [])
    (Assertion (Binary Less (v "x") (Literal 6))
    ∷ equation "n" (Arrow (Literal 0) (Binary Plus (Pre (v "n")) (v "x")))
    ∷ equation "ok" (Binary Less (v "n") (Literal 10)) ∷ []))

-- ## Arithmetic

-- node main(x: int) returns (ok: bool);
-- var y: int;
-- let y = x + 1; ok = true; tel
abbrev pub increment : Program
increment = alone (main (int_var "x" ∷ []) (int_var "y" ∷ [])
    (equation "y" (Binary Plus (v "x") (Literal 1))
    ∷ equation "ok" (Truth true) ∷ []))

-- node main(x: int) returns (ok: bool);
-- var y: int;
-- let y = x div (-1); ok = true; tel
abbrev pub quotient_by_minus_one : Program
quotient_by_minus_one = alone (main (int_var "x" ∷ []) (int_var "y" ∷ [])
    (equation "y" (Binary Divide (v "x") (Group (Unary Negate (Literal 1))))
    ∷ equation "ok" (Truth true) ∷ []))

-- node main(x: int) returns (ok: bool);
-- var y: int;
-- let y = x mod (-1); ok = true; tel
abbrev pub remainder_by_minus_one : Program
remainder_by_minus_one = alone (main (int_var "x" ∷ []) (int_var "y" ∷ [])
    (equation "y" (Binary Modulo (v "x") (Group (Unary Negate (Literal 1))))
    ∷ equation "ok" (Truth true) ∷ []))

-- node main(x: int) returns (ok: bool);
-- var y: int;
-- let y = -x; ok = true; tel
abbrev pub negation : Program
negation = alone (main (int_var "x" ∷ []) (int_var "y" ∷ [])
    (equation "y" (Unary Negate (v "x"))
    ∷ equation "ok" (Truth true) ∷ []))

-- node main(a, b, q, r: int) returns (ok: bool);
-- let ok = a div b = q and a mod b = r; tel
abbrev pub quotients : Program
quotients = alone (main (int_var "a" ∷ int_var "b" ∷ int_var "q" ∷ int_var "r" ∷ []) []
    (equation "ok" (Binary And (Binary Equal (Binary Divide (v "a") (v "b")) (v "q")) (Binary Equal
    (Binary Modulo (v "a") (v "b")) (v "r"))) ∷ []))

-- node main(x: int) returns (ok: bool);
-- var y, z: int;
-- let y = -7 div 2; z = -7 mod 2; ok = y = -3 and z = -1; tel
abbrev pub literal_quotients : Program
literal_quotients = alone (main (int_var "x" ∷ []) (int_var "y" ∷ int_var "z" ∷ [])
    (equation "y" (Binary Divide (Unary Negate (Literal 7)) (Literal 2))
    ∷ equation "z" (Binary Modulo (Unary Negate (Literal 7)) (Literal 2))
    ∷ equation "ok" (Binary And (Binary Equal (v "y") (Unary Negate (Literal 3))) (Binary Equal
    (v "z") (Unary Negate (Literal 1)))) ∷ []))

-- a, b, a div b, a mod b
abbrev pub each_sign : Inputs
each_sign = trace "7 2 3 1; -7 2 -3 -1; 7 -2 -3 1; -7 -2 3 -1"

-- ## Branches and strictness

-- node main(n, d: int) returns (ok: bool);
-- var q: int;
-- let q = if d = 0 then 0 else n / d; ok = q >= 0; tel
abbrev pub chosen_branch : Program
chosen_branch = alone (main (int_var "n" ∷ int_var "d" ∷ []) (int_var "q" ∷ [])
    (equation "q" (If (Binary Equal (v "d") (Literal 0)) (Literal 0) (Binary Divide (v "n")
    (v "d")))
    ∷ equation "ok" (Binary AtLeast (v "q") (Literal 0)) ∷ []))

-- node main(n, d: int) returns (ok: bool);
-- var q: int;
-- let q = if d <> 0 then n / d else 0; ok = q >= 0; tel
abbrev pub other_branch : Program
other_branch = alone (main (int_var "n" ∷ int_var "d" ∷ []) (int_var "q" ∷ [])
    (equation "q" (If (Binary Unequal (v "d") (Literal 0)) (Binary Divide (v "n") (v "d"))
    (Literal 0))
    ∷ equation "ok" (Binary AtLeast (v "q") (Literal 0)) ∷ []))

-- node main(n, d: int) returns (ok: bool);
-- let ok = d <> 0 and n / d > 2; tel
abbrev pub strict_and : Program
strict_and = alone (main (int_var "n" ∷ int_var "d" ∷ []) []
    (equation "ok" (Binary And (Binary Unequal (v "d") (Literal 0)) (Binary Greater (Binary Divide
    (v "n") (v "d")) (Literal 2))) ∷ []))

-- node main(n, d: int) returns (ok: bool);
-- let ok = d = 0 or n / d > 2; tel
abbrev pub strict_or : Program
strict_or = alone (main (int_var "n" ∷ int_var "d" ∷ []) []
    (equation "ok" (Binary Or (Binary Equal (v "d") (Literal 0)) (Binary Greater (Binary Divide
    (v "n") (v "d")) (Literal 2))) ∷ []))

-- node main(n, d: int) returns (ok: bool);
-- let ok = d <> 0 => n / d > 2; tel
abbrev pub strict_implies : Program
strict_implies = alone (main (int_var "n" ∷ int_var "d" ∷ []) []
    (equation "ok" (Binary Implies (Binary Unequal (v "d") (Literal 0)) (Binary Greater
    (Binary Divide (v "n") (v "d")) (Literal 2))) ∷ []))

-- node main(n, d: int) returns (ok: bool);
-- let ok = #(n > 0, n > 1, n / d > 2); tel
abbrev pub strict_count : Program
strict_count = alone (main (int_var "n" ∷ int_var "d" ∷ []) []
    (equation "ok" (AtMostOne (exprs (Binary Greater (v "n") (Literal 0) ∷ Binary Greater (v "n")
    (Literal 1) ∷ Binary Greater (Binary Divide (v "n") (v "d")) (Literal 2) ∷ []))) ∷ []))

-- ## The order at one instant

-- node main(x: int) returns (ok: bool);
-- var y: int;
-- let assert x > 0; y = 10 / x; ok = x > 0; tel
abbrev pub all_three : Program
all_three = alone (main (int_var "x" ∷ []) (int_var "y" ∷ [])
    (Assertion (Binary Greater (v "x") (Literal 0))
    ∷ equation "y" (Binary Divide (Literal 10) (v "x"))
    ∷ equation "ok" (Binary Greater (v "x") (Literal 0)) ∷ []))

-- node main(x: int) returns (ok: bool);
-- var y: int;
-- let assert x > 0; y = 10; ok = x > 0; tel
abbrev pub without_a_fault : Program
without_a_fault = alone (main (int_var "x" ∷ []) (int_var "y" ∷ [])
    (Assertion (Binary Greater (v "x") (Literal 0))
    ∷ equation "y" (Literal 10)
    ∷ equation "ok" (Binary Greater (v "x") (Literal 0)) ∷ []))

-- node main(x: int) returns (ok: bool);
-- var y: int;
-- let y = 10; assert true; ok = x > 0; tel
abbrev pub property_alone : Program
property_alone = alone (main (int_var "x" ∷ []) (int_var "y" ∷ [])
    (equation "y" (Literal 10)
    ∷ Assertion (Truth true)
    ∷ equation "ok" (Binary Greater (v "x") (Literal 0)) ∷ []))

-- node main(p, q: bool) returns (ok: bool);
-- let assert p; ok = q; tel
abbrev pub assumed : Program
assumed = alone (main (bool_var "p" ∷ bool_var "q" ∷ []) []
    (Assertion (v "p")
    ∷ equation "ok" (v "q") ∷ []))

-- ## Operators of data

-- node main(a, b, o, x, n, i: bool) returns (ok: bool);
-- let ok = (a or b) = o and (a xor b) = x and (a and b) = n and (a => b) = i; tel
abbrev pub logic : Program
logic = alone (main (bool_var "a" ∷ bool_var "b" ∷ bool_var "o" ∷ bool_var "x" ∷ bool_var "n"
    ∷ bool_var "i" ∷ []) []
    (equation "ok" (Binary And
    (Binary And (Binary And (Binary Equal (Group (Binary Or (v "a") (v "b"))) (v "o"))
    (Binary Equal (Group (Binary Xor (v "a") (v "b"))) (v "x"))) (Binary Equal
    (Group (Binary And (v "a") (v "b"))) (v "n"))) (Binary Equal (Group (Binary Implies (v "a")
    (v "b"))) (v "i"))) ∷ []))

-- node main(a, b, e, u: bool) returns (ok: bool);
-- let ok = (a = b) = e and (a <> b) = u; tel
abbrev pub equality_of_truths : Program
equality_of_truths = alone (main (bool_var "a" ∷ bool_var "b" ∷ bool_var "e" ∷ bool_var "u" ∷ []) []
    (equation "ok" (Binary And (Binary Equal (Group (Binary Equal (v "a") (v "b"))) (v "e"))
    (Binary Equal (Group (Binary Unequal (v "a") (v "b"))) (v "u"))) ∷ []))

-- node main(a, b: int; l, m, g, h, e, u: bool) returns (ok: bool);
-- let
-- ok = (a < b) = l and (a <= b) = m and (a > b) = g and (a >= b) = h and (a = b) = e
-- and (a <> b) = u;
-- tel
abbrev pub comparisons : Program
comparisons = alone (main (int_var "a" ∷ int_var "b" ∷ bool_var "l" ∷ bool_var "m" ∷ bool_var "g"
    ∷ bool_var "h" ∷ bool_var "e" ∷ bool_var "u" ∷ []) []
    (equation "ok" (Binary And
    (Binary And (Binary And
    (Binary And (Binary And (Binary Equal (Group (Binary Less (v "a") (v "b"))) (v "l"))
    (Binary Equal (Group (Binary AtMost (v "a") (v "b"))) (v "m"))) (Binary Equal
    (Group (Binary Greater (v "a") (v "b"))) (v "g"))) (Binary Equal
    (Group (Binary AtLeast (v "a") (v "b"))) (v "h"))) (Binary Equal
    (Group (Binary Equal (v "a") (v "b"))) (v "e"))) (Binary Equal
    (Group (Binary Unequal (v "a") (v "b"))) (v "u"))) ∷ []))

-- node main(a, b, c: bool) returns (ok: bool);
-- let ok = #(a, b, c) and not nor(a, b, c); tel
abbrev pub counting : Program
counting = alone (main (bool_var "a" ∷ bool_var "b" ∷ bool_var "c" ∷ []) []
    (equation "ok" (Binary And (AtMostOne (exprs (v "a" ∷ v "b" ∷ v "c" ∷ [])))
    (Unary Not (Nor (exprs (v "a" ∷ v "b" ∷ v "c" ∷ []))))) ∷ []))

-- a, b, a or b, a xor b, a and b, a => b
abbrev pub logic_table : Inputs
logic_table = trace "f f f f f t; f t t t f t; t f t t f f; t t t f t t"

-- a, b, a = b, a <> b
abbrev pub equality_table : Inputs
equality_table = trace "f f t f; f t f t; t f f t; t t t f"

-- a, b, a < b, a <= b, a > b, a >= b, a = b, a <> b
abbrev pub comparison_table : Inputs
comparison_table = trace "-1 2 t t f f f t; 2 2 f t f t t f; 3 2 f f t t f t"

-- ## Memories

-- node main(c: bool; e: int) returns (ok: bool);
-- var r: int;
-- let r = 7 -> if c then 1 else 2 + 3; ok = r = e; tel
abbrev pub first_then : Program
first_then = alone (main (bool_var "c" ∷ int_var "e" ∷ []) (int_var "r" ∷ [])
    (equation "r" (Arrow (Literal 7) (If (v "c") (Literal 1) (Binary Plus (Literal 2) (Literal 3))))
    ∷ equation "ok" (Binary Equal (v "r") (v "e")) ∷ []))

-- node main(x, n: int) returns (ok: bool);
-- var px, q: int;
-- let px = pre x; q = n / px; ok = true -> q > 0; tel
abbrev pub before_the_first : Program
before_the_first = alone (main (int_var "x" ∷ int_var "n" ∷ []) (int_var "px" ∷ int_var "q" ∷ [])
    (equation "px" (Pre (v "x"))
    ∷ equation "q" (Binary Divide (v "n") (v "px"))
    ∷ equation "ok" (Arrow (Truth true) (Binary Greater (v "q") (Literal 0))) ∷ []))

-- node main(b: bool) returns (ok: bool);
-- let ok = pre b; tel
abbrev pub truth_before_the_first : Program
truth_before_the_first = alone (main (bool_var "b" ∷ []) []
    (equation "ok" (Pre (v "b")) ∷ []))

-- node main(b: bool) returns (ok: bool);
-- let ok = true -> pre b; tel
abbrev pub guarded_truth : Program
guarded_truth = alone (main (bool_var "b" ∷ []) []
    (equation "ok" (Arrow (Truth true) (Pre (v "b"))) ∷ []))

-- node main(b: bool) returns (ok: bool);
-- let ok = true -> pre pre b; tel
abbrev pub two_instants_before : Program
two_instants_before = alone (main (bool_var "b" ∷ []) []
    (equation "ok" (Arrow (Truth true) (Pre (Pre (v "b")))) ∷ []))

-- node main(x, e: int) returns (ok: bool);
-- var r: int;
-- let r = 5 fby x; ok = r = e; tel
abbrev pub followed : Program
followed = alone (main (int_var "x" ∷ int_var "e" ∷ []) (int_var "r" ∷ [])
    (equation "r" (Fby (Literal 5) (v "x"))
    ∷ equation "ok" (Binary Equal (v "r") (v "e")) ∷ []))

-- node main(y: int) returns (ok: bool);
-- var z: int;
-- let z = 1 -> pre (1 / y); ok = true; tel
abbrev pub unused_operand : Program
unused_operand = alone (main (int_var "y" ∷ []) (int_var "z" ∷ [])
    (equation "z" (Arrow (Literal 1) (Pre (Group (Binary Divide (Literal 1) (v "y")))))
    ∷ equation "ok" (Truth true) ∷ []))

-- node main(y: int) returns (ok: bool);
-- var z: int;
-- let z = 1 fby 1 / y; ok = true; tel
abbrev pub unused_operand_of_fby : Program
unused_operand_of_fby = alone (main (int_var "y" ∷ []) (int_var "z" ∷ [])
    (equation "z" (Fby (Literal 1) (Binary Divide (Literal 1) (v "y")))
    ∷ equation "ok" (Truth true) ∷ []))

-- node main(b, c: bool; x: int) returns (ok: bool);
-- let ok = if b then true else current (1 / (x when c)) > 0; tel
abbrev pub unused_operand_of_current : Program
unused_operand_of_current = alone (main (bool_var "b" ∷ bool_var "c" ∷ int_var "x" ∷ []) []
    (equation "ok" (If (v "b") (Truth true) (Binary Greater
    (Current (Group (Binary Divide (Literal 1) (Group (when_true (v "x") "c"))))) (Literal 0)))
    ∷ []))

-- node main(y: int) returns (ok: bool);
-- var z: int;
-- let z = 1 -> 1 / y; ok = true; tel
abbrev pub unused_side : Program
unused_side = alone (main (int_var "y" ∷ []) (int_var "z" ∷ [])
    (equation "z" (Arrow (Literal 1) (Binary Divide (Literal 1) (v "y")))
    ∷ equation "ok" (Truth true) ∷ []))

-- ## Nil

-- node main(x: int) returns (ok: bool);
-- var q: int;
-- let q = pre x / 0; ok = true; tel
abbrev pub nil_by_zero : Program
nil_by_zero = alone (main (int_var "x" ∷ []) (int_var "q" ∷ [])
    (equation "q" (Binary Divide (Pre (v "x")) (Literal 0))
    ∷ equation "ok" (Truth true) ∷ []))

-- node main(x: int) returns (ok: bool);
-- var q: int;
-- let q = 1 / pre x; ok = true; tel
abbrev pub one_by_nil : Program
one_by_nil = alone (main (int_var "x" ∷ []) (int_var "q" ∷ [])
    (equation "q" (Binary Divide (Literal 1) (Pre (v "x")))
    ∷ equation "ok" (Truth true) ∷ []))

-- node main(x: int) returns (ok: bool);
-- var q: int;
-- let q = pre x + 1 / x; ok = true; tel
abbrev pub fault_beside_nil : Program
fault_beside_nil = alone (main (int_var "x" ∷ []) (int_var "q" ∷ [])
    (equation "q" (Binary Plus (Pre (v "x")) (Binary Divide (Literal 1) (v "x")))
    ∷ equation "ok" (Truth true) ∷ []))

-- node main(b: bool) returns (ok: bool);
-- let ok = b or pre b; tel
abbrev pub nil_under_or : Program
nil_under_or = alone (main (bool_var "b" ∷ []) []
    (equation "ok" (Binary Or (v "b") (Pre (v "b"))) ∷ []))

-- node main(b: bool) returns (ok: bool);
-- let ok = #(b, pre b, b); tel
abbrev pub nil_counted : Program
nil_counted = alone (main (bool_var "b" ∷ []) []
    (equation "ok" (AtMostOne (exprs (v "b" ∷ Pre (v "b") ∷ v "b" ∷ []))) ∷ []))

-- node main(b: bool) returns (ok: bool);
-- let ok = not nor(b, pre b); tel
abbrev pub nil_under_nor : Program
nil_under_nor = alone (main (bool_var "b" ∷ []) []
    (equation "ok" (Unary Not (Nor (exprs (v "b" ∷ Pre (v "b") ∷ [])))) ∷ []))

-- node main(b: bool) returns (ok: bool);
-- let ok = if pre b then true else true; tel
abbrev pub nil_condition : Program
nil_condition = alone (main (bool_var "b" ∷ []) []
    (equation "ok" (If (Pre (v "b")) (Truth true) (Truth true)) ∷ []))

-- node main(b: bool) returns (ok: bool);
-- let ok = if b then true else pre b; tel
abbrev pub nil_branch : Program
nil_branch = alone (main (bool_var "b" ∷ []) []
    (equation "ok" (If (v "b") (Truth true) (Pre (v "b"))) ∷ []))

-- node main(b: bool) returns (ok: bool);
-- let assert pre b; ok = b; tel
abbrev pub nil_assertion : Program
nil_assertion = alone (main (bool_var "b" ∷ []) []
    (Assertion (Pre (v "b"))
    ∷ equation "ok" (v "b") ∷ []))

-- node main(b: bool) returns (ok: bool);
-- let assert false; ok = pre b; tel
abbrev pub nil_beside_an_assertion : Program
nil_beside_an_assertion = alone (main (bool_var "b" ∷ []) []
    (Assertion (Truth false)
    ∷ equation "ok" (Pre (v "b")) ∷ []))

-- node main(b: bool) returns (ok: bool);
-- var z: int;
-- let z = 1 / 0; assert false; ok = pre b; tel
abbrev pub nil_beside_a_fault : Program
nil_beside_a_fault = alone (main (bool_var "b" ∷ []) (int_var "z" ∷ [])
    (equation "z" (Binary Divide (Literal 1) (Literal 0))
    ∷ Assertion (Truth false)
    ∷ equation "ok" (Pre (v "b")) ∷ []))
