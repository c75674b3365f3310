-- Each pass keeps the next row under its call, unless it is a start or a row was kept there.
use Rattle.lb_expand.proofs.Words.{◌+◌, ◌<◌, take, length, sym, subst, ◌∙◌, arith}
use Rattle.lb_expand.proofs.children.Children.new.Goals.{in-Called+then-not-contains_key+in_ok-insert}
use Rattle.lb_expand.proofs.children.Children.new.Goals.{in-Called+else-not-contains_key}
use Rattle.lb_expand.proofs.children.Children.new.Goals.{in_default}
use Rattle.lb_expand.proofs.numbering.RowChildren.{HasCalls, start_passed, again_passed, call_added}
use Rattle.lb_expand.proofs.children.Children.new.Goals as goal

pub loop-row-preserved : goal.loop-row-preserved
loop-row-preserved c =
    let rows = c.args.table.now.instances.items in
    let l = c.loop-row in
    let lt : c.loop-row.row < length c.args.table.now.instances.items =
    omega (arith, c.loop-row-test.true, c.loop-row.auto.row-end, c.len-row-end.ensures) in
    elim c.match-index.branch [
      | in-Called+then-not-contains_key+in_ok-insert w ↦
          subst (λ m. HasCalls m (take (l.row + 1) rows)) (sym w.rows-is)
          (call_added l.rows rows l.row c.index.result.now lt c.index.ensures l.invariant
          w.in-Called.caller w.in-Called.call w.in-Called.index w.in-Called.is
          w.insert.new.self (sym w.contains_key.ensures ∙ w.if-not-contains_key.true)
          w.in_ok-insert.ensures.updates.0)
      | in-Called+else-not-contains_key w ↦
          subst (λ m. HasCalls m (take (l.row + 1) rows)) (sym w.rows-is)
          (again_passed l.rows rows l.row c.index.result.now lt c.index.ensures l.invariant
          w.in-Called.caller w.in-Called.call w.in-Called.index w.in-Called.is
          (sym w.contains_key.ensures ∙ w.if-not-contains_key.false))
      | in_default w ↦
          subst (λ m. HasCalls m (take (l.row + 1) rows)) (sym w.rows-is)
          (start_passed l.rows rows l.row c.index.result.now lt c.index.ensures l.invariant
          w.in_default.not-Called)
    ]
