use Rattle.std.proofs.Common.{sym}
use Rattle.lb_trace.proofs.PlainRecords.{bom-none, bom-other, bom-rest}
use Rattle.lb_trace.proofs.plain.strip_bom.Goals as goal

pub returns-in_default : goal.returns-in_default
returns-in_default c = bom-none c.args.text.now c.in_default.len_below

pub returns-then-is_bom : goal.returns-then-is_bom
returns-then-is_bom c = bom-rest c.args.text.now c.in-len3-up.len_at_least (sym c.if-is_bom.ensures)

pub returns-else-is_bom : goal.returns-else-is_bom
returns-else-is_bom c = bom-other c.args.text.now c.in-len3-up.len_at_least
    (sym c.if-is_bom.ensures)
