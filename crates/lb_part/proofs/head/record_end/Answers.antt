use Rattle.std.proofs.Common.{◌∙◌, ap, refl, sym, ◌&&◌}
use Rattle.lb_part.proofs.FirstRecords.{end-found, end-more, end-none, end-start}
use Rattle.lb_part.proofs.head.record_end.Goals as goal
use Rattle.lb_part.proofs.head.record_end.Goals.{else-ends-via-then-ends+else-begun}
use Rattle.lb_part.proofs.head.record_end.Goals.{else-ends-via-else-ends}

pub loop-i-init : goal.loop-i-init
loop-i-init c = end-start c.args.text.now

pub returns-then-begun-clause-value : goal.returns-then-begun-clause-value
returns-then-begun-clause-value c =
    sym (end-found c.args.text.now c.loop-i.i _ c.loop-i.begun c.ends_line-ends.result
    c.loop-i-test.true refl c.ends_line-ends.ensures
    (ap (λ t. t && c.loop-i.begun) c.if-ends.true ∙ c.if-begun.true) c.loop-i.invariant)

pub loop-i-preserved : goal.loop-i-preserved
loop-i-preserved c =
    end-more c.args.text.now c.loop-i.i _ c.loop-i.begun c.ends_line-ends.result
    c.loop-i-test.true refl c.ends_line-ends.ensures
    (elim c.else-ends.branch [
      | else-ends-via-then-ends+else-begun w ↦
          ap (λ t. t && c.loop-i.begun) w.if-ends.true ∙ w.if-begun.false
      | else-ends-via-else-ends w ↦ ap (λ t. t && c.loop-i.begun) w.if-ends.false
    ])
    c.loop-i.invariant

pub returns-clause-value : goal.returns-clause-value
returns-clause-value c =
    sym (end-none c.args.text.now c.loop-i.i c.loop-i.begun c.loop-i-test.false c.loop-i.invariant)
