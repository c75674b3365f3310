use Rattle.std.proofs.Common.{◌≤◌, List, ℤ, length, rules, subst, take}
use Rattle.std.specs.Prelude.{IfSome}
use Rattle.lb_trace.specs.HeldLines.{IsHeldLine}
use Rattle.lb_trace.proofs.WrittenCells.{front-whole}
use Rattle.lb_trace.proofs.held_rows.read_held.Goals as goal

pub returns : goal.returns
returns c =
    let line = rw c.deref-2.ensures.value at c.held_line.ensures in
    subst
    (λ (ns : List ℤ). IfSome c.held_line.result (λ line.
    (line.count ≤ length ns)
    × IsHeldLine c.args.table.now.columns.items c.args.text.now (take line.count ns) line.bits
    line.past))
    (front-whole _ _ _ (search rules)) line
