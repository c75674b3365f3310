-- A node that breaks a rule, by its name.
use Rattle.std.specs.Prelude.{Bool}
use Rattle.lb_check.proofs.Words.{Instance, Name, NodeId, Program, Reached, ap, listed, sym}
use Rattle.lb_check.proofs.Words.{tree_at, ◌∙◌, ◌≡◌}
use Rattle.lb_check.specs.{BrokenRules.IsBroken, declared.part.Part.Part}
use Rattle.lb_cause.specs.Correct.{IsBrokenIn}

-- a rule that is broken in the node at a place is broken in the node with its name
pub broken_in : (P : Program) (r : Reached) (rule : Instance → Bool)
    (part_rule : Instance → Part → Bool) (id : NodeId) (p q : Part) (x : Name)
    → IsBroken rule part_rule P r id p → x ≡ listed (λ n. n.name) (tree_at r id) → q ≡ p
    → IsBrokenIn rule part_rule P x q
broken_in P r rule part_rule id p q x b e same = (
  b.0,
  b.1,
  sym (e ∙ ap (listed (λ n. n.name)) b.2),
  b.3,
  ap (part_rule b.0) same ∙ b.4,
)
