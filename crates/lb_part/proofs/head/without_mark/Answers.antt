use Rattle.std.proofs.Common.{sym}
use Rattle.lb_part.proofs.FirstRecords.{mark-gone, mark-kept, no-mark}
use Rattle.lb_part.proofs.head.without_mark.Goals as goal

pub returns-in_default-clause-value : goal.returns-in_default-clause-value
returns-in_default-clause-value c = no-mark c.args.text.now c.in_default.len_below

pub returns-then-is_mark-clause-value : goal.returns-then-is_mark-clause-value
returns-then-is_mark-clause-value c =
    mark-gone c.args.text.now c.in-len3-up.len_at_least (sym c.if-is_mark.ensures)

pub returns-else-is_mark-clause-value : goal.returns-else-is_mark-clause-value
returns-else-is_mark-clause-value c =
    mark-kept c.args.text.now c.in-len3-up.len_at_least (sym c.if-is_mark.ensures)
