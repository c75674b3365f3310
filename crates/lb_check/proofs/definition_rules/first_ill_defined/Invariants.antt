use Rattle.lb_check.proofs.Words.{◌≡◌, true, drop, find, not, is_defined_at, Program, keeps_names}
use Rattle.lb_check.proofs.Words.{IsReached, NodeId}
use Rattle.lb_check.proofs.definition_rules.first_ill_defined.Given as goal

abbrev pub invariant-loop-id : goal.invariant-loop-id
invariant-loop-id l =
    (P : Program) → keeps_names P ≡ true → IsReached P l.reached →
    let broken = λ (id : NodeId). not (is_defined_at P l.reached id) in
    find broken l.ids ≡ find broken (drop l.id-index l.ids)
