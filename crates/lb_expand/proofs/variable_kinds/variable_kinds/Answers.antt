-- Each pass adds the kinds of one row.
use Rattle.lb_expand.proofs.Words.{◌∙◌, ap, flat_map, take_all, kinds_in}
use Rattle.lb_expand.proofs.numbering.RowInstances.{piece_next}
use Rattle.lb_expand.proofs.variable_kinds.variable_kinds.Goals as goal

pub loop-row-preserved : goal.loop-row-preserved
loop-row-preserved c =
    let l = c.loop-row in
    piece_next (kinds_in c.args.reached.now c.args.table.now) c.deref-row-items.result.now
    l.row-index _ l.kinds.items c.push_row.new.kinds.items c.loop-row-test.true l.invariant
    c.in_ok-push_row.ensures

pub returns : goal.returns
returns c =
    let l = c.loop-row in
    let items = c.deref-row-items.result.now in
    l.invariant
    ∙ ap (λ rows. flat_map (kinds_in c.args.reached.now c.args.table.now) rows)
    (take_all l.row-index items c.loop-row-test.false ∙ c.deref-row-items.ensures.value)
