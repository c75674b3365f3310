-- The plain part that a part of a program stands for, and a program with more parts.
-- This file mirrors code (src/program.rt); no definition of the language stands on it.
use Rattle.std.specs.Prelude.{List, [], ◌∷◌, ◌++◌, map, Option, Some}
use Rattle.lb_syntax.specs.declared.program.Part.{Part}
use Rattle.lb_syntax.specs.declared.program.Part.TheVariants as part
use Rattle.lb_syntax.specs.Grammar as grammar
use Rattle.lb_syntax.specs.Readers.{◌>>=◌}
use Rattle.lb_syntax.specs.SourceView.{view_constant, view_node}
use Rattle.lb_syntax.specs.Tree.{Source}

abbrev pub view_part : Part → grammar.Part
view_part (part.Constants cs) = grammar.Constants (map view_constant cs.items)
view_part (part.Single n) = grammar.Single (view_node n)

abbrev pub added : Source → grammar.Part → Source
added s (grammar.Constants cs) = record { constants = s.constants ++ cs; nodes = s.nodes }
added s (grammar.Single n) = record { constants = s.constants; nodes = s.nodes ++ n ∷ [] }

-- the program `s` with some more parts at its end
abbrev pub followed : Source → Option (List grammar.Part) → Option Source
followed s parts = parts >>= λ ps. Some (record {
  constants = s.constants ++ grammar.constants_of ps;
  nodes = s.nodes ++ grammar.nodes_of ps;
})
