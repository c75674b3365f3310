-- The plain heading that a `Heading` of the code stands for.
-- This file mirrors code (src/node.rt); no definition of the language stands on it.
use Rattle.lb_syntax.specs.declared.node.Heading.{Heading}
use Rattle.lb_syntax.specs.Programs as reading
use Rattle.lb_syntax.specs.SourceView.{view_groups}

abbrev pub view_heading : Heading → reading.Heading
view_heading h = record {
  name = h.name;
  parameters = h.parameters.items;
  inputs = view_groups h.inputs.items;
  outputs = view_groups h.outputs.items;
}
