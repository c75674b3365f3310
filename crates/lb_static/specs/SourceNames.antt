-- The names that a source declares.
-- This file says what data of the program mean; no definition of the language stands on it.
use Rattle.std.specs.Prelude.{List, Option, map, ◌++◌}
use Rattle.lb_syntax.specs.declared.tree.Source as written
use Rattle.lb_syntax.specs.SourceView.{view_source}
use Rattle.lb_syntax.specs.Tree.{Name, Declaration, Node, Source}
use Rattle.lb_static.specs.StaticValues.{named}

-- the names of some declarations
abbrev pub names_in : List Declaration → List Name
names_in ds = map (λ d. d.name) ds

-- the names of the constants of a source
abbrev pub constants_in : Source → List Name
constants_in s = map (λ c. c.name) s.constants

abbrev pub names_in_source : Source → List Name
names_in_source s = constants_in s ++ map (λ n. n.name) s.nodes

-- the node with the name `x`
abbrev pub node_in_source : written.Source → Name → Option Node
node_in_source s x = named (λ n. n.name) x (view_source s).nodes
