use Rattle.{lb_check.proofs.Words.IsJudgedPart, std.proofs.lemmas.List.Elements.All-push}
use Rattle.lb_check.proofs.shared.shared_parts.Goals as goal

pub loop-part-preserved : goal.loop-part-preserved
loop-part-preserved c =
    rw c.in_ok-push.ensures.items
    (All-push (IsJudgedPart c.args.reached.now c.args.table.now) c.loop-part.parts.items
    c.in_ok-judged_part.field-0 c.loop-part.invariant c.in_ok-judged_part.ensures)
