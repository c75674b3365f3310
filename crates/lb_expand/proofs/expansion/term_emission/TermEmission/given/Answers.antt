use Rattle.lb_expand.proofs.Words.{◌<◌, ℕ, List, length, arith, Vec, Global, sym, ap, ap₂, ◌∙◌}
use Rattle.lb_expand.proofs.Words.{append-nil, length-range_with_len, FlatClock, elements_of}
use Rattle.lb_expand.proofs.Words.{targets_of, state_of, clock_of, Clock}
use Rattle.lb_expand.proofs.emission.EmittedCalls.{parameters_count, parameters_within, given_step}
use Rattle.lb_expand.proofs.expansion.term_emission.TermEmission.given.Goals as goal

pub give-requires-clause-room : goal.give-requires-clause-room
give-requires-clause-room g c =
    let ctx = g.F.Frame.context c.args.frame.now in
    let l = c.loop-x in
    let lt : l.x < c.args.inputs = omega (arith, c.loop-x-test.true, l.auto.x-end) in
    let count =
    sym (length-range_with_len c.places.result.first c.places.result.count)
    ∙ ap (λ (is : List ℕ). length is) c.places.ensures.places in
    let more = parameters_count ctx l.x in
    let within = parameters_within ctx l.x c.args.inputs lt in
    omega (arith, count, more, within, l.invariant.number, c.requires.room)

pub loop-x-init : goal.loop-x-init
loop-x-init g c =
    let s = state_of c.args.self.now in
    grind (arith, append-nil s.copies)

pub loop-x-preserved : goal.loop-x-preserved
loop-x-preserved g c =
    let ctx = g.F.Frame.context c.args.frame.now in
    let l = c.loop-x in
    let old = c.args.self.now in
    let step = c.in_ok-input.ensures in
    let key : List Clock → FlatClock = λ cs. clock_of cs c.declared.result in
    let clock =
    ap key (ap (λ (cs : Vec Clock Global). cs.items) l.invariant.clocks ∙ sym c.requires.clocks)
    ∙ c.declared.ensures.clock in
    let count =
    sym (length-range_with_len c.places.result.first c.places.result.count)
    ∙ ap (λ (is : List ℕ). length is) c.places.ensures.places in
    let more = parameters_count ctx l.x in
    record {
      state = given_step ctx (state_of old) (state_of l.self) (state_of c.give.new.self) l.x
          l.input (targets_of (key l.self.clocks.items) (elements_of c.places.result))
          l.invariant.state l.invariant.number step.state
          (ap₂ targets_of clock c.places.ensures.places);
      number = omega (arith, count, more, step.next_input, l.invariant.number);
      found = step.found ∙ l.invariant.found;
      next = step.next ∙ l.invariant.next;
      clocks = step.clocks ∙ l.invariant.clocks;
    }
