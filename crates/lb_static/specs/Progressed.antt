-- The part of a node that is resolved so far, as the code keeps it.
-- This file says what data of the program mean; no definition of the language stands on it.
use Rattle.std.specs.Prelude.{◌≡◌, ℕ, Vec}
use Rattle.std.specs.declared.alloc.Global.{Global}
use Rattle.lb_syntax.specs.declared.tree.Node.{Node}
use Rattle.lb_static.specs.NodeProgress.{Progress, kept}
use Rattle.lb_static.specs.declared.node_builder.NodeBuilder.{NodeBuilder}
use Rattle.lb_static.specs.declared.resolved.ResolvedNode.{ResolvedNode}
use Rattle.lb_static.specs.declared.resolved.ResolvedStatement.{ResolvedStatement}

abbrev pub progress : NodeBuilder → Progress
progress f = kept f.node_scope f.statics.parts.items f.calls.items f.variables.items

-- the resolved node that a finished builder gives for the node `tree`
pub record IsFinished (f : NodeBuilder) (tree : Node) (inputs outputs : ℕ)
    (body : Vec ResolvedStatement Global)
    (r : ResolvedNode) : Type 0 where
  pub tree_is : r.tree.now ≡ tree
  pub variables : r.variables.items ≡ f.variables.items
  pub inputs_are : r.inputs ≡ inputs
  pub outputs_are : r.outputs ≡ outputs
  pub body_is : r.body.items ≡ body.items
  pub calls : r.calls.items ≡ f.calls.items
  pub statics : r.statics.items ≡ f.statics.parts.items
