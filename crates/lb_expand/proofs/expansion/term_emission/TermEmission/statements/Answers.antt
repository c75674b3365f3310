use Rattle.lb_expand.proofs.Words.{PlacedState, ap, arith, emit_statements, first_place, place_of}
use Rattle.lb_expand.proofs.{Words.state_of, emission.EmittedStatements.statement_places}
use Rattle.lb_expand.proofs.emission.EmittedStatements.{statement_room, statement_step}
use Rattle.lb_expand.proofs.emission.{EmittedStatements.statements_end, TermSteps.statement_grows}
use Rattle.lb_expand.proofs.expansion.term_emission.TermEmission.statements.Goals as goal

pub statement-requires-clause-elements : goal.statement-requires-clause-elements
statement-requires-clause-elements g c =
    statement_room _ _ _ _ _ _ _ _ c.loop-statement-test.true c.statement-item.is
    c.loop-statement.invariant.rest c.requires.elements

pub statement-requires-clause-places : goal.statement-requires-clause-places
statement-requires-clause-places g c =
    statement_places _ _ _ _ _ _ _ _ c.loop-statement-test.true c.statement-item.is
    c.loop-statement.invariant.rest c.requires.places

pub loop-statement-preserved : goal.loop-statement-preserved
loop-statement-preserved g c =
    let ctx = g.F.Frame.context c.args.frame.now in
    let l = c.loop-statement in
    let xs = c.args.statements.now in
    let item = c.statement-item.result in
    let step = c.in_ok-at.ensures in
    let whole = emit_statements ctx first_place (state_of c.args.self.now) xs in
    let next = ap (λ (r : PlacedState). r.state.next) step.state in
    let grows = statement_grows ctx (place_of l.at) (state_of l.self) item in
    grind (
      arith,
      statement_step ctx (place_of l.at) (place_of c.in_ok-at.at) (state_of l.self)
          (state_of c.statement.new.self) xs l.statement-index item _ whole
          c.loop-statement-test.true
          c.statement-item.is step.state l.invariant.rest,
    )

pub returns-clause-state : goal.returns-clause-state
returns-clause-state g c =
    let ctx = g.F.Frame.context c.args.frame.now in
    let l = c.loop-statement in
    let xs = c.args.statements.now in
    let whole = emit_statements ctx first_place (state_of c.args.self.now) xs in
    ap (λ (r : PlacedState). r.state)
    (statements_end ctx (place_of l.at) (state_of l.self) xs l.statement-index whole
    (omega (arith, c.loop-statement-test.false)) l.invariant.rest)
