-- The plain trees that the parts of a program stand for, above its expressions.
use Rattle.std.specs.Prelude.{List, map, Option, Some, None}
use Rattle.lb_syntax.specs.declared.tree.Constant.{Constant}
use Rattle.lb_syntax.specs.declared.tree.Declarations.{Declarations}
use Rattle.lb_syntax.specs.declared.tree.Node.{Node}
use Rattle.lb_syntax.specs.declared.tree.Sampling.{Sampling}
use Rattle.lb_syntax.specs.declared.tree.Source.{Source}
use Rattle.lb_syntax.specs.declared.tree.Statement.{Statement}
use Rattle.lb_syntax.specs.declared.tree.Statement.TheVariants.{Equation, Assertion}
use Rattle.lb_syntax.specs.Grammar.{Group, declared}
use Rattle.lb_syntax.specs.Tree as tree
use Rattle.lb_syntax.specs.View.{view, view_static, view_statics}

abbrev pub view_clock : Option Sampling → Option tree.Sampling
view_clock None = None
view_clock (Some c) = Some (record { variable = c.variable; sign = c.sign })

abbrev pub view_group : Declarations → Group
view_group d = record {
  names = d.names.items;
  kind = d.kind;
  sizes = view_statics d.sizes.items;
  clock = view_clock d.clock;
}

abbrev pub view_groups : List Declarations → List Group
view_groups = map view_group

abbrev pub view_statement : Statement → tree.Statement
view_statement (Equation left e at) = tree.Equation left.items (view e)
view_statement (Assertion e at) = tree.Assertion (view e)

abbrev pub view_node : Node → tree.Node
view_node n = record {
  name = n.name;
  is_function = n.is_function;
  parameters = n.parameters.items;
  inputs = declared (view_groups n.inputs.items);
  outputs = declared (view_groups n.outputs.items);
  locals = declared (view_groups n.locals.items);
  body = map view_statement n.body.items;
}

abbrev pub view_constant : Constant → tree.Constant
view_constant c = record { name = c.name; value = view_static c.value }

abbrev pub view_source : Source → tree.Source
view_source s = record {
  constants = map view_constant s.constants.items;
  nodes = map view_node s.nodes.items;
}
