-- Static expressions, and programs that show signatures, instances and reached names.
-- Source: this project's rule.
use Rattle.std.specs.Prelude.{true, List, [], ◌∷◌, None, ℕ, ℤ, pos, Option, length, codes, map}
use Prim.Native.String.{String}
use Rattle.lb_syntax.specs.declared.tree.BinaryOperator.TheVariants.{Equal, Plus, Minus, Times}
use Rattle.lb_syntax.specs.declared.tree.BinaryOperator.TheVariants.{Divide, Modulo}
use Rattle.lb_syntax.specs.declared.tree.ArrayIterator.TheVariants.{Map, Red}
use Rattle.lb_syntax.specs.Tree.{Static, Whole, Negated, Combined, Grouped, Literal, Truth, Binary}
use Rattle.lb_syntax.specs.Tree.{Replicate, Index, Array, Name}
use Rattle.lb_static.specs.Instances.{Program, Path, instances}
use Rattle.lb_static.specs.WorkedTrees.{static, v, exprs, call, call_with, iterate, int_var}
use Rattle.lb_static.specs.WorkedTrees.{bool_var, int_array, equation, node, with_parameters, main}
use Rattle.lb_static.specs.WorkedTrees.{constant, program, alone, bench}
use Rattle.lb_static.specs.StaticValues.{value_under, constant_value}
use Rattle.lb_static.specs.DataTypes.{signature}
use Rattle.lb_static.specs.Names.{reached_nodes, reached_constants}

-- ## Static expressions

-- 5 div 2
abbrev pub five_by_two : Static
five_by_two = Combined Divide (Whole 5) (Whole 2)

-- -7 mod 2
abbrev pub seven_modulo_two : Static
seven_modulo_two = Combined Modulo (Negated (Whole 7)) (Whole 2)

-- -7 / 2
abbrev pub seven_by_two : Static
seven_by_two = Combined Divide (Negated (Whole 7)) (Whole 2)

-- 2147483647 + 1
abbrev pub past_the_greatest : Static
past_the_greatest = Combined Plus (Whole 2147483647) (Whole 1)

-- -2147483647 - 1
abbrev pub the_least : Static
the_least = Combined Minus (Negated (Whole 2147483647)) (Whole 1)

-- -(-2147483647 - 1)
abbrev pub minus_the_least : Static
minus_the_least = Negated (Grouped (Combined Minus (Negated (Whole 2147483647)) (Whole 1)))

-- (-2147483647 - 1) div -1
abbrev pub the_least_by_minus_one : Static
the_least_by_minus_one = Combined Divide (Grouped (Combined Minus (Negated (Whole 2147483647))
    (Whole 1))) (Negated (Whole 1))

-- 1 mod (2 - 2)
abbrev pub by_zero : Static
by_zero = Combined Modulo (Whole 1) (Grouped (Combined Minus (Whole 2) (Whole 2)))

-- 10 - 3 - 4 * 2
abbrev pub left_to_right : Static
left_to_right = Combined Minus (Combined Minus (Whole 10) (Whole 3)) (Combined Times (Whole 4)
    (Whole 2))

-- n div 2
abbrev pub half_of_a_name : Static
half_of_a_name = Combined Divide (static "n") (Whole 2)

-- the value of a static expression without names
abbrev pub plain_value : Static → Option ℤ
plain_value s = value_under (λ x. None) s

-- ## Constants

-- const a = b + 1; b = 4; c = d; d = c; e = a * 1000000000;
-- node main(x: int) returns (ok: bool); let ok = x = a; tel
abbrev pub constants : Program
constants = program (constant "a" (Combined Plus (static "b") (Whole 1)) ∷ constant "b" (Whole 4)
    ∷ constant "c" (static "d") ∷ constant "d" (static "c") ∷ constant "e" (Combined Times
    (static "a") (Whole 1000000000)) ∷ []) (
    main (int_var "x" ∷ []) []
    (equation "ok" (Binary Equal (v "x") (v "a")) ∷ []) ∷ [])

-- the value of a constant of a program
abbrev pub value_of : Program → String → Option ℤ
value_of P x =
    let constants = P.source.constants in
    constant_value constants (length constants) (codes x)

-- ## Signatures

-- node main(m: int^3^2; e: int) returns (ok: bool);
-- let ok = m[1][2] = e; tel
abbrev pub matrix_and_scalar : Program
matrix_and_scalar = alone (main (int_array "m" (Whole 3 ∷ Whole 2 ∷ []) ∷ int_var "e" ∷ []) []
    (equation "ok" (Binary Equal (Index (Index (v "m") (Whole 1)) (Whole 2)) (v "e")) ∷ []))

-- const n = 5 div 2;
-- node main(A: int^n; c: bool) returns (ok: bool);
-- let ok = c; tel
abbrev pub size_by_a_constant : Program
size_by_a_constant = program (constant "n" (Combined Divide (Whole 5) (Whole 2)) ∷ []) (
    main (int_array "A" (static "n" ∷ []) ∷ bool_var "c" ∷ []) []
    (equation "ok" (v "c") ∷ []) ∷ [])

-- the names of the scalar inputs of a program
abbrev pub input_names : Program → List Name
input_names P = map (λ x. x.0) (signature P)

-- ## Instances

-- node g(x: int) returns (y: int); let y = x; tel
-- node f(x: int) returns (y: int); let y = g(x) + 1; tel
-- node main(x: int) returns (ok: bool);
-- var z: int; B: int^2;
-- let z = f(g(x)); B = map<<f,2>>([x, x]); ok = true; tel
abbrev pub nested_calls : Program
nested_calls = program [] (
    node "g" (int_var "x" ∷ []) (int_var "y" ∷ []) []
    (equation "y" (v "x") ∷ [])
    ∷ node "f" (int_var "x" ∷ []) (int_var "y" ∷ []) []
    (equation "y" (Binary Plus (call "g" (v "x" ∷ [])) (Literal 1)) ∷ [])
    ∷ main (int_var "x" ∷ []) (int_var "z" ∷ int_array "B" (Whole 2 ∷ []) ∷ [])
    (equation "z" (call "f" (call "g" (v "x" ∷ []) ∷ []))
    ∷ equation "B" (iterate Map "f" (Whole 2) (Array (exprs (v "x" ∷ v "x" ∷ [])) ∷ []))
    ∷ equation "ok" (Truth true) ∷ []) ∷ [])

-- const n = 3;
-- node h<<const k: int>>(x: int) returns (y: int); let y = x + k; tel
-- node g<<const n: int; const k: int>>(x: int) returns (y: int); let y = h<<n - k>>(x); tel
-- node main(x: int) returns (ok: bool);
-- let ok = g<<n, 1>>(x) = g<<7, n>>(x); tel
abbrev pub parameters : Program
parameters = program (constant "n" (Whole 3) ∷ []) (
    with_parameters "k" (node "h" (int_var "x" ∷ []) (int_var "y" ∷ []) []
    (equation "y" (Binary Plus (v "x") (v "k")) ∷ []))
    ∷ with_parameters "n k" (node "g" (int_var "x" ∷ []) (int_var "y" ∷ []) []
    (equation "y" (call_with "h" (Combined Minus (static "n") (static "k") ∷ []) (v "x" ∷ []))
    ∷ []))
    ∷ main (int_var "x" ∷ []) []
    (equation "ok" (Binary Equal (call_with "g" (static "n" ∷ Whole 1 ∷ []) (v "x" ∷ []))
    (call_with "g" (Whole 7 ∷ static "n" ∷ []) (v "x" ∷ []))) ∷ []) ∷ [])

-- node g(x: int) returns (y: int); let y = x; tel
-- node plant(x: int) returns (y: int); let y = g(x); tel
-- node obs(x, y: int) returns (ok: bool); let ok = g(x) = y; tel
abbrev pub with_an_observer : Program
with_an_observer = bench "plant" "obs" (
    node "g" (int_var "x" ∷ []) (int_var "y" ∷ []) []
    (equation "y" (v "x") ∷ [])
    ∷ node "plant" (int_var "x" ∷ []) (int_var "y" ∷ []) []
    (equation "y" (call "g" (v "x" ∷ [])) ∷ [])
    ∷ node "obs" (int_var "x" ∷ int_var "y" ∷ []) (bool_var "ok" ∷ []) []
    (equation "ok" (Binary Equal (call "g" (v "x" ∷ [])) (v "y")) ∷ []) ∷ [])

-- the paths of the instances of a program, and the names of their nodes, in the order of the walk
abbrev pub paths : Program → List Path
paths P = map (λ i. i.path) (instances P)

abbrev pub callees : Program → List Name
callees P = map (λ i. i.node.name) (instances P)

-- the values of the static parameters of each instance
abbrev pub values : Program → List (List (Name × ℤ))
values P = map (λ i. i.values) (instances P)

abbrev pub given : String → ℕ → Name × ℤ
given x n = (codes x, pos n)

-- ## Reached nodes and constants

-- const a = b; b = 1; c = 2; d = a; e = 5;
-- node far(x: int) returns (y: int); let y = x + d; tel
-- node near(x: int) returns (y: int); var A: int^e; let A = x^e; y = red<<far2,5>>(x, A); tel
-- node far2(a, x: int) returns (y: int); let y = a + x; tel
-- node main(x: int) returns (ok: bool);
-- var c: int;
-- let c = a; ok = near(x) = c; tel
abbrev pub partly_reached : Program
partly_reached = program (constant "a" (static "b") ∷ constant "b" (Whole 1) ∷ constant "c"
    (Whole 2) ∷ constant "d" (static "a") ∷ constant "e" (Whole 5) ∷ []) (
    node "far" (int_var "x" ∷ []) (int_var "y" ∷ []) []
    (equation "y" (Binary Plus (v "x") (v "d")) ∷ [])
    ∷ node "near" (int_var "x" ∷ []) (int_var "y" ∷ []) (int_array "A" (static "e" ∷ []) ∷ [])
    (equation "A" (Replicate (v "x") (static "e"))
    ∷ equation "y" (iterate Red "far2" (Whole 5) (v "x" ∷ v "A" ∷ [])) ∷ [])
    ∷ node "far2" (int_var "a" ∷ int_var "x" ∷ []) (int_var "y" ∷ []) []
    (equation "y" (Binary Plus (v "a") (v "x")) ∷ [])
    ∷ main (int_var "x" ∷ []) (int_var "c" ∷ [])
    (equation "c" (v "a")
    ∷ equation "ok" (Binary Equal (call "near" (v "x" ∷ [])) (v "c")) ∷ []) ∷ [])

abbrev pub reached_names : Program → List Name
reached_names P = map (λ n. n.name) (reached_nodes P)

abbrev pub reached_constant_names : Program → List Name
reached_constant_names P = map (λ c. c.name) (reached_constants P)
