-- Reading a program from the front of the tokens, from left to right.
-- This file mirrors code (src/declaration.rt, src/node.rt, src/program.rt); no definition of the
-- language stands on it.
use Rattle.std.specs.Prelude.{ℕ, zero, suc, Bool, false, true, List, [], ◌∷◌, length, Option, Some}
use Rattle.std.specs.Prelude.{None}
use Rattle.lb_syntax.specs.declared.token.Mark.TheVariants as m
use Rattle.lb_syntax.specs.declared.token.Token.{Token}
use Rattle.lb_syntax.specs.Grammar.{Group, declared, Part, Constants, Single, source_of}
use Rattle.lb_syntax.specs.ListReading.{at_name, skip, at_next_group, at_next_local}
use Rattle.lb_syntax.specs.ListReading.{at_next_statement, any_at}
use Rattle.lb_syntax.specs.Readers.{◌>>=◌, Reader, expect, name_at}
use Rattle.lb_syntax.specs.Reading.{separator, list_at, static_at, clock_at, expression_at}
use Rattle.lb_syntax.specs.Tree.{Name, Kind, Int_kind, Bool_kind, Sampling, Statement, Equation}
use Rattle.lb_syntax.specs.Tree.{Assertion, Node, Constant, Source}

-- ---- declarations

abbrev pub names_at : Reader (List Name)
names_at = list_at (expect m.Comma) name_at

abbrev pub left_by : Option (List Token) → Reader (List Name)
left_by None ts = names_at ts
left_by (Some inner) ts = do
  xs ← names_at inner
  rest ← expect m.Close xs.1
  Some (xs.0, rest)

-- the left side of an equation
unfoldable pub left_at : Reader (List Name)
left_at ts = left_by (expect m.Open ts) ts

abbrev pub kind_by : Option (List Token) → Option (List Token) → Option (Kind × List Token)
kind_by (Some rest) _ = Some (Int_kind, rest)
kind_by None (Some rest) = Some (Bool_kind, rest)
kind_by None None = None

unfoldable pub kind_at : Reader Kind
kind_at ts = kind_by (expect m.Int ts) (expect m.Bool ts)

abbrev pub when_by : Option (List Token) → Reader (Option Sampling)
when_by None ts = Some (None, ts)
when_by (Some clock) ts = do
  c ← clock_at clock
  Some (Some (record { variable = c.0.0; sign = c.0.1 }), c.1)

-- a clock, if one is written
unfoldable pub when_at : Reader (Option Sampling)
when_at ts = when_by (expect m.When ts) ts

-- the group of `names`, read from its type on, after its `:`
abbrev pub with_type : List Name → Reader Group
with_type names ts = do
  kind ← kind_at ts
  sizes ← any_at (expect m.Caret) static_at kind.1
  clock ← when_at sizes.1
  Some (record { names = names; kind = kind.0; sizes = sizes.0; clock = clock.0 }, clock.1)

unfoldable pub group_at : Reader Group
group_at ts = do
  names ← names_at ts
  ts ← expect m.Colon names.1
  with_type names.0 ts

-- groups and perhaps a last `;`
unfoldable pub groups_at : Reader (List Group)
groups_at ts = do
  gs ← list_at at_next_group group_at ts
  Some (gs.0, skip m.Semicolon gs.1)

abbrev pub inputs_by : Option (List Token) → Reader (List Group)
inputs_by (Some after) ts = Some ([], ts)
inputs_by None ts = groups_at ts

-- the groups of the inputs, if there are any
unfoldable pub inputs_at : Reader (List Group)
inputs_at ts = inputs_by (expect m.Close ts) ts

-- a group and its `;`
unfoldable pub closed_group_at : Reader Group
closed_group_at ts = do
  g ← group_at ts
  rest ← expect m.Semicolon g.1
  Some (g.0, rest)

abbrev pub locals_by : Option (List Token) → Reader (List Group)
locals_by (Some start) ts = list_at at_next_local closed_group_at start
locals_by None ts = Some ([], ts)

unfoldable pub locals_at : Reader (List Group)
locals_at ts = locals_by (expect m.Var ts) ts

-- ---- nodes

unfoldable pub parameter_at : Reader Name
parameter_at ts = do
  ts ← expect m.Const ts
  x ← name_at ts
  ts ← expect m.Colon x.1
  rest ← expect m.Int ts
  Some (x.0, rest)

abbrev pub parameters_by : Option (List Token) → Reader (List Name)
parameters_by None ts = Some ([], ts)
parameters_by (Some inner) ts = do
  xs ← list_at separator parameter_at inner
  rest ← expect m.CloseStatic xs.1
  Some (xs.0, rest)

unfoldable pub parameters_at : Reader (List Name)
parameters_at ts = parameters_by (expect m.OpenStatic ts) ts

abbrev pub statement_by : Option (List Token) → Reader Statement
statement_by (Some claim) ts = do
  e ← expression_at claim
  rest ← expect m.Semicolon e.1
  Some (Assertion e.0, rest)
statement_by None ts = do
  xs ← left_at ts
  right ← expect m.Equal xs.1
  e ← expression_at right
  rest ← expect m.Semicolon e.1
  Some (Equation xs.0 e.0, rest)

unfoldable pub statement_at : Reader Statement
statement_at ts = statement_by (expect m.Assert ts) ts

abbrev pub end_by : Option (List Token) → List Token → List Token
end_by (Some rest) ts = rest
end_by None ts = skip m.Dot ts

-- the tokens after the end of a node, which is `;`, `.` or nothing
abbrev pub end_at : List Token → List Token
end_at ts = end_by (expect m.Semicolon ts) ts

-- the name of a node, its parameters, inputs and outputs
pub record Heading : Type 0 where
  pub name : Name
  pub parameters : List Name
  pub inputs : List Group
  pub outputs : List Group

-- a heading from its outputs on, after its name, parameters, inputs and `returns (`
abbrev pub with_outputs : Name → List Name → List Group → Reader Heading
with_outputs name parameters inputs ts = do
  outputs ← groups_at ts
  rest ← expect m.Close outputs.1
  let h : Heading = record {
    name = name;
    parameters = parameters;
    inputs = inputs;
    outputs = outputs.0;
  } in Some (h, rest)

-- a heading from its inputs on, after its name, parameters and `(`
abbrev pub with_inputs : Name → List Name → Reader Heading
with_inputs name parameters ts = do
  inputs ← inputs_at ts
  ts ← expect m.Close inputs.1
  ts ← expect m.Returns ts
  ts ← expect m.Open ts
  with_outputs name parameters inputs.0 ts

unfoldable pub heading_at : Reader Heading
heading_at ts = do
  name ← name_at ts
  parameters ← parameters_at name.1
  ts ← expect m.Open parameters.1
  with_inputs name.0 parameters.0 ts

-- the statements between `let` and `tel`, and the end of the node
unfoldable pub body_at : Reader (List Statement)
body_at ts = do
  ts ← expect m.Let ts
  body ← any_at at_next_statement statement_at ts
  rest ← expect m.Tel body.1
  Some (body.0, end_at rest)

abbrev pub node_of : Bool → Heading → List Group → List Statement → Node
node_of is_function h locals body = record {
  name = h.name;
  is_function = is_function;
  parameters = h.parameters;
  inputs = declared h.inputs;
  outputs = declared h.outputs;
  locals = declared locals;
  body = body;
}

-- a node, or a function if `is_function`, read after its first word
unfoldable pub node_at : Bool → Reader Node
node_at is_function ts = do
  h ← heading_at ts
  locals ← locals_at (skip m.Semicolon h.1)
  body ← body_at locals.1
  Some (node_of is_function h.0 locals.0 body.0, body.1)

-- ---- constants and programs

abbrev pub type_by : Option (List Token) → List Token → Option (List Token)
type_by None ts = Some ts
type_by (Some type) ts = expect m.Int type

-- the tokens after `: int`, or `ts` if no `:` comes next
abbrev pub type_at : List Token → Option (List Token)
type_at ts = type_by (expect m.Colon ts) ts

-- a constant from `=` on, after its name
abbrev pub with_value : Name → Reader Constant
with_value name ts = do
  ts ← expect m.Equal ts
  s ← static_at ts
  rest ← expect m.Semicolon s.1
  Some (record { name = name; value = s.0 }, rest)

unfoldable pub constant_at : Reader Constant
constant_at ts = do
  x ← name_at ts
  ts ← type_at x.1
  with_value x.0 ts

-- constants after `const`
abbrev pub constants_at : Reader (List Constant)
constants_at = list_at at_name constant_at

abbrev pub constants_part : List Token → Option (Part × List Token)
constants_part ts = constants_at ts >>= λ cs. Some (Constants cs.0, cs.1)

abbrev pub node_part : Bool → List Token → Option (Part × List Token)
node_part is_function ts = node_at is_function ts >>= λ n. Some (Single n.0, n.1)

abbrev pub part_by : Option (List Token) → Option (List Token) → Option (List Token) →
    Option (Part × List Token)
part_by (Some ts) _ _ = constants_part ts
part_by None (Some ts) _ = node_part false ts
part_by None None (Some ts) = node_part true ts
part_by None None None = None

unfoldable pub part_at : Reader Part
part_at ts = part_by (expect m.Const ts) (expect m.Node ts) (expect m.Function ts)

-- no part where no token is left, else one part and those that `later` reads
abbrev pub parts_by : (List Token → Option (List Part)) → List Token → Option (List Part)
parts_by later [] = Some []
parts_by later (t ∷ ts) = do
  p ← part_at (t ∷ ts)
  ps ← later p.1
  Some (p.0 ∷ ps)

-- the parts that are read from all the tokens, at most `n`
unfoldable pub parts_at : ℕ → List Token → Option (List Part)
parts_at zero [] = Some []
parts_at zero (t ∷ ts) = None
parts_at (suc n) ts = parts_by (parts_at n) ts

-- the program that is read from all the tokens
unfoldable pub source_at : List Token → Option Source
source_at ts = parts_at (length ts) ts >>= λ parts. Some (source_of parts)
