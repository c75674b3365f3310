-- A whole program and the one tree that it spells.
-- Source: this project's rule.
use Rattle.std.specs.Prelude.{[], ◌∷◌, ◌++◌, codes}
use Rattle.lb_syntax.specs.Tokens.{Text}
use Rattle.lb_syntax.specs.Tree.{Whole, Literal, Assertion, Source}
use Rattle.lb_static.specs.WorkedTrees.{static, int_var, bool_var, int_array, on_true, on_false}
use Rattle.lb_static.specs.WorkedTrees.{equation, equations, node, function, with_parameters}
use Rattle.lb_static.specs.WorkedTrees.{constant}

abbrev pub whole_text : Text
whole_text =
    codes "const n = 3; k: int = n; " ++
    codes "node f<<const a: int, const b: int; const c: int>>" ++
    codes "(x, y: int^2^3; z: bool when not w;) " ++
    codes "returns (o: int when (w);); var p: int; q, r: bool; var s: int; " ++
    codes "let o = 1; (p, s) = 2; q, r = 3; assert 4; tel; " ++
    codes "const m = 7; " ++
    codes "function g() returns (o: bool) let o = 1; tel. " ++
    codes "node h(x: int) returns (o: int;) let tel"

-- constants and nodes are two lists, each in text order; each variable has its own declaration
abbrev pub whole_tree : Source
whole_tree = record {
  constants = constant "n" (Whole 3) ∷ constant "k" (static "n") ∷ constant "m" (Whole 7) ∷ [];
  nodes =
      with_parameters "a b c" (
      node "f"
      (int_array "x" (Whole 2 ∷ Whole 3 ∷ []) ∷ int_array "y" (Whole 2 ∷ Whole 3 ∷ [])
      ∷ on_false (bool_var "z") "w" ∷ [])
      (on_true (int_var "o") "w" ∷ [])
      (int_var "p" ∷ bool_var "q" ∷ bool_var "r" ∷ int_var "s" ∷ [])
      (equation "o" (Literal 1) ∷ equations "p s" (Literal 2) ∷ equations "q r" (Literal 3)
      ∷ Assertion (Literal 4) ∷ []))
      ∷ function (
      node "g" [] (bool_var "o" ∷ []) [] (equation "o" (Literal 1) ∷ []))
      ∷ node "h" (int_var "x" ∷ []) (int_var "o" ∷ []) [] [] ∷ [];
}
