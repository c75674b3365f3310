-- Short ways to write the trees of worked examples.
-- Source: this project's words.
use Rattle.std.specs.Prelude.{ℕ, nat_eq, Bool, true, false, Some, None, List, [], ◌∷◌, filter}
use Rattle.std.specs.Prelude.{codes, if◌then◌else◌}
use Prim.Native.String.{String}
use Rattle.lb_syntax.specs.declared.tree.Kind.{Kind}
use Rattle.lb_syntax.specs.declared.tree.Kind.TheVariants.{Int as Int_kind, Bool as Bool_kind}
use Rattle.lb_syntax.specs.declared.tree.BinaryOperator.{BinaryOperator}
use Rattle.lb_syntax.specs.declared.tree.ArrayIterator.{ArrayIterator}
use Rattle.lb_syntax.specs.Tree.{Name, Static, Named, Node_named, Symbol, Expr, Variable, When}
use Rattle.lb_syntax.specs.Tree.{Call, Iterate, Exprs, Nil, Cons, Declaration, Statement, Equation}
use Rattle.lb_syntax.specs.Tree.{Node, Constant}
use Rattle.lb_static.specs.Instances.{Program}

-- ## Texts

-- the pieces of a text with one more character `c` before them; a mark begins a new piece
abbrev before : ℕ → ℕ → List (List ℕ) → List (List ℕ)
before mark c [] = (c ∷ []) ∷ []
before mark c (p ∷ ps) = if nat_eq c mark then [] ∷ (p ∷ ps) else (c ∷ p) ∷ ps

-- the pieces of a text between the marks
abbrev pub pieces : ℕ → List ℕ → List (List ℕ)
pieces mark [] = [] ∷ []
pieces mark (c ∷ cs) = before mark c (pieces mark cs)

abbrev is_word : List ℕ → Bool
is_word [] = false
is_word (c ∷ cs) = true

-- the words of a text between spaces
abbrev pub words : List ℕ → List (List ℕ)
words text = filter is_word (pieces 32 text)

-- the names in a text
abbrev pub names : String → List Name
names text = words (codes text)

-- ## Static expressions

-- a name in a static expression
abbrev pub static : String → Static
static x = Named (codes x)

-- ## Expressions

-- a name
abbrev pub v : String → Expr
v x = Variable (codes x)

abbrev pub exprs : List Expr → Exprs
exprs [] = Nil
exprs (e ∷ es) = Cons e (exprs es)

-- `f(a, b)`, `f<<s, t>>(a, b)`
abbrev pub call : String → List Expr → Expr
call f es = Call (codes f) [] (exprs es)

abbrev pub call_with : String → List Static → List Expr → Expr
call_with f statics es = Call (codes f) statics (exprs es)

-- `map<<f, n>>(a, b)`, and with a symbol in place of a node
abbrev pub iterate : ArrayIterator → String → Static → List Expr → Expr
iterate it f n es = Iterate it (Node_named (codes f) []) n (exprs es)

abbrev pub iterate_symbol : ArrayIterator → BinaryOperator → Static → List Expr → Expr
iterate_symbol it op n es = Iterate it (Symbol op) n (exprs es)

-- `e when c`, `e when not c`
abbrev pub when_true : Expr → String → Expr
when_true e c = When e (codes c) true

abbrev pub when_false : Expr → String → Expr
when_false e c = When e (codes c) false

-- ## Declarations

abbrev pub declare : String → Kind → List Static → Declaration
declare x kind sizes = record { name = codes x; kind = kind; sizes = sizes; clock = None }

-- `x: int`, `x: bool`
abbrev pub int_var : String → Declaration
int_var x = declare x Int_kind []

abbrev pub bool_var : String → Declaration
bool_var x = declare x Bool_kind []

-- `x: int^n^m`, `x: bool^n^m`, the sizes in this order
abbrev pub int_array : String → List Static → Declaration
int_array x sizes = declare x Int_kind sizes

abbrev pub bool_array : String → List Static → Declaration
bool_array x sizes = declare x Bool_kind sizes

-- a declaration `when c`, `when not c`
abbrev pub on_true : Declaration → String → Declaration
on_true d c = record d { clock = Some (record { variable = codes c; sign = true }) }

abbrev pub on_false : Declaration → String → Declaration
on_false d c = record d { clock = Some (record { variable = codes c; sign = false }) }

-- ## Statements

-- `x = e;`
abbrev pub equation : String → Expr → Statement
equation x e = Equation (codes x ∷ []) e

-- `(x, y) = e;`
abbrev pub equations : String → Expr → Statement
equations xs e = Equation (names xs) e

-- ## Nodes and programs

-- a node by its name, inputs, outputs, locals and statements
abbrev pub node :
    String → List Declaration → List Declaration → List Declaration → List Statement → Node
node f ins outs vars body = record {
  name = codes f;
  is_function = false;
  parameters = [];
  inputs = ins;
  outputs = outs;
  locals = vars;
  body = body;
}

-- `function` in place of `node`
abbrev pub function : Node → Node
function n = record n { is_function = true }

-- a node with static parameters
abbrev pub with_parameters : String → Node → Node
with_parameters xs n = record n { parameters = names xs }

-- `node main(..) returns (ok: bool)`
abbrev pub main : List Declaration → List Declaration → List Statement → Node
main ins vars body = node "main" ins (bool_var "ok" ∷ []) vars body

abbrev pub constant : String → Static → Constant
constant x s = record { name = codes x; value = s }

-- the node under test is `main`
abbrev pub program : List Constant → List Node → Program
program cs ns =
    record { source = record { constants = cs; nodes = ns }; root = codes "main"; observer = None }

-- a program of one node
abbrev pub alone : Node → Program
alone n = program [] (n ∷ [])

-- a node under test with its observer
abbrev pub bench : String → String → List Node → Program
bench root observer ns = record {
  source = record { constants = []; nodes = ns };
  root = codes root;
  observer = Some (codes observer);
}
