-- The relation of a node with resolved names to its tree.
-- This file says what data of the program mean; no definition of the language stands on it.
use Rattle.std.specs.Prelude.{◌≡◌, true, List, [], length, map}
use Rattle.std.specs.List.{list_all}
use Rattle.lb_syntax.specs.Lists.{zip2}
use Rattle.lb_syntax.specs.SourceView.{view_node}
use Rattle.lb_syntax.specs.Tree.{Name, Static, Node}
use Rattle.lb_static.specs.Instances.{node_sites}
use Rattle.lb_static.specs.Parts.{variable_names}
use Rattle.lb_static.specs.DataTypes.{variables}
use Rattle.lb_static.specs.ResolvedTerms.{Texts, Counts, static_of, statement_of, declaration_of}
use Rattle.lb_static.specs.ResolvedTerms.{site_of, is_statement_within, is_statement_unhidden}
use Rattle.lb_static.specs.ResolvedTerms.{is_declared_within, is_site_within}
use Rattle.lb_static.specs.SharedParts.{with_parts}
use Rattle.lb_static.specs.StaticParts.{node_static_parts, part_of}
use Rattle.lb_static.specs.declared.resolved.ResolvedNode.{ResolvedNode}

-- the tree of a node
abbrev pub node_of : ResolvedNode → Node
node_of r = view_node r.tree.now

-- the static expressions of a node
abbrev pub statics_of : ResolvedNode → List Static
statics_of r = map (λ p. static_of p.text) r.statics.items

-- the names and texts that the numbers of a node stand for
abbrev pub texts_of : ResolvedNode → Texts
texts_of r = record {
  variables = variable_names (node_of r);
  statics = statics_of r;
  calls = node_sites (node_of r);
}

-- the numbers of variables, static expressions and calls of a node
abbrev pub counts_of : ResolvedNode → Counts
counts_of r = record {
  variables = length r.variables.items;
  statics = length r.statics.items;
  calls = length r.calls.items;
}

-- A node stands for its tree, where `nodes` are the names of the nodes of the source.
pub record IsResolved (nodes : List Name) (r : ResolvedNode) : Type 0 where
  pub inputs : r.inputs ≡ length (node_of r).inputs
  pub outputs : r.outputs ≡ length (node_of r).outputs
  pub declared :
      zip2 (declaration_of (variable_names (node_of r)) (statics_of r))
      (variable_names (node_of r)) r.variables.items
      ≡ variables (node_of r)
  pub as_many : length r.variables.items ≡ length (variables (node_of r))
  pub body : map (statement_of (texts_of r)) r.body.items ≡ (node_of r).body
  pub calls : map (site_of nodes (statics_of r)) r.calls.items ≡ node_sites (node_of r)
  pub statics : map part_of r.statics.items ≡ with_parts [] (node_static_parts r.tree.now)
  -- where the node names a static parameter or a constant, no variable of its own hides it
  pub unhidden : list_all (is_statement_unhidden (texts_of r)) r.body.items ≡ true
  -- each number is within range
  pub declared_within : list_all (is_declared_within (counts_of r)) r.variables.items ≡ true
  pub body_within : list_all (is_statement_within (counts_of r)) r.body.items ≡ true
  pub calls_within :
      list_all (is_site_within (length nodes) (counts_of r)) r.calls.items ≡ true
