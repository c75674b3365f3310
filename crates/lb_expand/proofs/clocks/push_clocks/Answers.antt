-- Each pass adds the clocks of one variable.
use Rattle.lb_expand.proofs.Words.{ap, ap₂, clock_id, get_or, no_element, variable_clocks, ◌++◌}
use Rattle.lb_expand.proofs.{Words.◌∙◌, clock_tables.AddedClocks.items_added}
use Rattle.lb_expand.specs.TableClocks.{signed_clocks}
use Rattle.lb_expand.proofs.clocks.push_clocks.Goals as goal

pub loop-x-preserved : goal.loop-x-preserved
loop-x-preserved c =
    let l = c.loop-x in
    let vars = c.args.layout.now.variables.items in
    let runs = c.args.runs.now in
    let serving = c.args.serving.now in
    let j = c.args.row.0 in
    items_added (variable_clocks vars runs serving j c.args.node.now) c.args.clocks.now.items
    l.clocks.items c.push_signs.new.clocks.items l.x l.invariant
    (c.in_ok-push_signs.ensures
    ∙ ap₂ (λ parent element. l.clocks.items ++ signed_clocks parent element)
    (c.clock_id-parent.ensures ∙ ap (clock_id vars runs j) c.declared_clock.ensures.mirror)
    (c.element_at-element.ensures
    ∙ ap (λ n. get_or serving n no_element) c.variable_number.ensures.value))
