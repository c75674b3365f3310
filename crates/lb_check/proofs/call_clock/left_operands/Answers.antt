use Rattle.lb_check.proofs.Words.{OneClock, Operand, VariableId, ap, clock_sets, map-append, ◌∙◌}
use Rattle.lb_check.{proofs.lists.ListPairs.mapped_next, specs.StoredClocks.context_in}
use Rattle.lb_check.proofs.call_clock.left_operands.Goals as goal

pub loop-left-preserved : goal.loop-left-preserved
loop-left-preserved c =
    let l = c.loop-left in
    mapped_next (λ (x : VariableId). OneClock ((context_in c.args.env.now).variable x))
    c.args.lefts.now l.left-index _ (clock_sets l.results.items)
    (clock_sets c.push.new.self.items) _ (OneClock c.variable.result) c.loop-left-test.true
    (ap OneClock c.variable.ensures)
    (ap clock_sets c.in_ok-push.ensures.items
    ∙ map-append (λ (o : Operand). o.clock_set) l.results.items _)
    l.invariant
