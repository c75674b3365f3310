use Rattle.lb_expand.proofs.Words.{ElementId, Global, Vec, ap, arith, input_targets, refl, state_of}
use Rattle.lb_expand.proofs.{Words.◌∙◌, emission.EmittedCalls.{items_end, items_step, range_done}}
use Rattle.lb_expand.proofs.emission.EmittedCalls.{range_left, target_count}
use Rattle.lb_expand.proofs.expansion.term_emission.TermEmission.copy_inputs.Goals as goal

pub loop-x-preserved : goal.loop-x-preserved
loop-x-preserved g c =
    let ctx = g.F.Frame.context c.args.frame.now in
    let l = c.loop-x in
    let call = c.args.call in
    let step = c.in_ok-at.ensures in
    let both = items_step (input_targets ctx call 0) (state_of l.self)
    (state_of c.copy_child.new.self) _ l.x _ _ (input_targets ctx call 0 l.x) _ l.at
    c.in_ok-at.at c.args.self.now.found.items l.self.found.items
    (range_left c.args.inputs l.x (omega (arith, c.loop-x-test.true, l.auto.x-end))) refl
    (target_count ctx call 0 l.x) l.invariant.at
    (ap (λ (es : Vec ElementId Global). es.items) l.invariant.found) l.invariant.rest step.state
    step.place in
    record {
      rest = both.0;
      at = both.1;
      found = step.found ∙ l.invariant.found;
      next = step.next ∙ l.invariant.next;
      clocks = step.clocks ∙ l.invariant.clocks;
    }

pub returns-clause-state : goal.returns-clause-state
returns-clause-state g c =
    let l = c.loop-x in
    items_end (input_targets (g.F.Frame.context c.args.frame.now) c.args.call 0)
    (state_of l.self) _ _ _
    (range_done 0 c.args.inputs l.x (omega (arith, c.loop-x-test.false, l.auto.x-end)))
    l.invariant.rest
