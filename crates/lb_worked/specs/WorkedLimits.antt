-- Programs at the limits of levels, instances and size.
-- Source: this project's rule.
use Rattle.std.specs.Prelude.{true, List, [], ◌∷◌, ℕ, zero, suc, ◌+◌, replicate}
use Rattle.lb_syntax.specs.declared.tree.BinaryOperator.TheVariants.{And, Equal}
use Rattle.lb_syntax.specs.declared.tree.ArrayIterator.TheVariants.{Map}
use Rattle.lb_syntax.specs.Tree.{Whole, Truth, Binary, Replicate, Index, Node, Call, Name, Expr}
use Rattle.lb_static.specs.Instances.{Program}
use Rattle.lb_static.specs.WorkedTrees.{v, exprs, iterate, int_var, int_array, equation, node, main}
use Rattle.lb_static.specs.WorkedTrees.{program, alone}

-- ## Levels

-- `f`, `ff`, `fff`, ..
abbrev link_name : ℕ → Name
link_name n = replicate (n + 1) 102

abbrev calling : ℕ → Expr
calling n = Call (link_name n) [] (exprs (v "x" ∷ []))

abbrev link : ℕ → Expr → Node
link n e = record (node "" (int_var "x" ∷ []) (int_var "y" ∷ []) [] (equation "y" e ∷ [])) {
  name = link_name n;
}

-- each node but the last, `f`, calls the next
abbrev links : ℕ → List Node
links zero = link 0 (v "x") ∷ []
links (suc n) = link (suc n) (calling n) ∷ links n

-- a chain of n + 2 nodes, `main` among them
abbrev pub chain : ℕ → Program
chain n = program [] (main (int_var "x" ∷ []) (int_var "z" ∷ [])
    (equation "z" (calling n) ∷ equation "ok" (Truth true) ∷ []) ∷ links n)

-- ## Instances

-- node f(a: int) returns (b: int); let b = a; tel
-- node main(x: int) returns (ok: bool);
-- var B: int^n;
-- let B = map<<f,n>>(x^n); ok = B[i] = x; tel
abbrev pub mapped : (n i : ℕ) → Program
mapped n i = program [] (
    node "f" (int_var "a" ∷ []) (int_var "b" ∷ []) [] (equation "b" (v "a") ∷ [])
    ∷ main (int_var "x" ∷ []) (int_array "B" (Whole n ∷ []) ∷ [])
    (equation "B" (iterate Map "f" (Whole n) (Replicate (v "x") (Whole n) ∷ []))
    ∷ equation "ok" (Binary Equal (Index (v "B") (Whole i)) (v "x")) ∷ []) ∷ [])

-- ## Size

-- A[0] = x
abbrev first_is_x : Expr
first_is_x = Binary Equal (Index (v "A") (Whole 0)) (v "x")

-- A[0] = x and A[0] = x .., with n times `and`
abbrev repeated : ℕ → Expr
repeated zero = first_is_x
repeated (suc n) = Binary And (repeated n) first_is_x

-- node main(x: int) returns (ok: bool);
-- var A: int^4096;
-- let A = x^4096; ok = A[0] = x and ..; tel
abbrev pub long_array : ℕ → Program
long_array n = alone (main (int_var "x" ∷ []) (int_array "A" (Whole 4096 ∷ []) ∷ [])
    (equation "A" (Replicate (v "x") (Whole 4096)) ∷ equation "ok" (repeated n) ∷ []))
