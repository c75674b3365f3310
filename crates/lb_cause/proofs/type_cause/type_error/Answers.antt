-- The error names the node and the part that are found.
use Rattle.lb_check.proofs.Words.{ap, is_part_typed, is_typed, ◌∙◌}
use Rattle.{lb_cause.proofs.NamedNodes.broken_in, std.specs.Prelude.string_bytes}
use Rattle.lb_cause.proofs.type_cause.type_error.Goals as goal

pub returns : goal.returns
returns c = λ P refused here.
    let found = c.args.found in (
      refused,
      broken_in P c.args.reached.now (is_typed P) (is_part_typed P) found.node found.part _ _
          here
          (ap (λ f. string_bytes f.node) c.in_ok-new.ensures.ok
          ∙ (ap string_bytes c.in_ok-explain.ensures.node ∙ c.in_ok-node.ensures.node))
          (ap (λ f. f.part) c.in_ok-new.ensures.ok
          ∙ (c.in_ok-explain.ensures.part ∙ c.in_ok-node.ensures.part)),
    )
