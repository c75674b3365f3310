use Rattle.lb_check.proofs.Words.{AreSettled, IsJudgedPart, ap, is_part_shared, slice_get, subst}
use Rattle.lb_check.proofs.{Words.{sym, true, ◌∙◌, ◌≡◌}, typing.SharedTypes.same_node}
use Rattle.lb_check.{proofs.typing.SharedTypes.still_settled, specs.TermTypes.context_of}
use Rattle.lb_check.proofs.shared.settled_statements.Goals as goal

pub returns-in-Some : goal.returns-in-Some
returns-in-Some c = λ r n judged at.
    let found = c.in-Some.ensures.lookup in
    let t = c.args.table.now in
    let s = c.args.specialization.now in
    let p = c.in-Some.shared.now in
    let e : is_part_shared t p.part s ≡ true =
    sym c.is_part_shared.ensures ∙ c.if-is_part_shared.true in
    let here : IsJudgedPart r t p =
    subst (IsJudgedPart r t) (sym found.1) (judged s.node.0 p found.3.0) in
    subst (λ settled. AreSettled (context_of r t n s) settled n.body.items)
    (sym c.deref.ensures.value)
    (still_settled r t n p.part s e p.settled.items n.body.items
    (here n (ap (λ k. slice_get r.nodes.items k) (same_node r t n p.part s e) ∙ at)))
