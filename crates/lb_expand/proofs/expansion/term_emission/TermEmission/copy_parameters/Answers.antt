use Rattle.lb_expand.proofs.Words.{Clock, ElementId, Global, Vec, ap, arith, state_of, sym}
use Rattle.lb_expand.proofs.{Words.{variable_targets, ◌∙◌}, emission.EmittedCalls.items_end}
use Rattle.lb_expand.proofs.emission.EmittedCalls.{items_step, range_done, range_left, targets_read}
use Rattle.lb_expand.proofs.emission.EmittedRooms.{same_clock}
use Rattle.lb_expand.proofs.expansion.term_emission.TermEmission.copy_parameters.Goals as goal

pub loop-x-preserved : goal.loop-x-preserved
loop-x-preserved g c =
    let ctx = g.F.Frame.context c.args.frame.now in
    let l = c.loop-x in
    let step = c.in_ok-at.ensures in
    let clocks = ap (λ (cs : Vec Clock Global). cs.items) l.invariant.clocks in
    let targets = targets_read ctx l.x c.places.result _ c.places.ensures.places
    (same_clock c.declared.result (c.requires.clocks ∙ sym clocks) c.declared.ensures.clock) in
    let both = items_step (variable_targets ctx) (state_of l.self) (state_of c.copy.new.self) _
    l.x _ _ _ _ l.at c.in_ok-at.at c.args.self.now.found.items l.self.found.items
    (range_left c.args.inputs l.x (omega (arith, c.loop-x-test.true, l.auto.x-end))) targets.0
    targets.1 l.invariant.at
    (ap (λ (es : Vec ElementId Global). es.items) l.invariant.found) l.invariant.rest step.state
    step.place in
    record {
      rest = both.0;
      at = both.1;
      found = step.found ∙ l.invariant.found;
      next = step.next ∙ l.invariant.next;
      clocks = step.clocks ∙ l.invariant.clocks;
    }

pub returns-clause-state : goal.returns-clause-state
returns-clause-state g c =
    let l = c.loop-x in
    items_end (variable_targets (g.F.Frame.context c.args.frame.now)) (state_of l.self) _ _ _
    (range_done 0 c.args.inputs l.x (omega (arith, c.loop-x-test.false, l.auto.x-end)))
    l.invariant.rest
