use Rattle.lb_expand.proofs.Words.{ElementId, Emitted, Global, List, VariableId, Vec, ap, arith}
use Rattle.lb_expand.proofs.Words.{copied, drop, flat_map, left_targets, numbers_of, place_of, refl}
use Rattle.lb_expand.proofs.Words.{state_of, take, with_copies, ◌∙◌}
use Rattle.lb_expand.proofs.emission.{EmittedStacks.numbers_many, EmittedStatements.assertion_done}
use Rattle.lb_expand.proofs.emission.EmittedStatements.{assertion_room, equation_done}
use Rattle.lb_expand.proofs.emission.EmittedStatements.{equation_room, stack_kept}
use Rattle.lb_expand.proofs.emission.{EmittedWalks.{left_next, term_left}, TermSteps.next_grows}
use Rattle.lb_expand.proofs.expansion.term_emission.TermEmission.statement.Goals as goal

pub emit-requires-clause-room : goal.emit-requires-clause-room
emit-requires-clause-room g c =
    equation_room _ _ _ c.in-Equation.is c.requires.elements c.requires.places

pub emit-requires-in-Assertion-clause-room : goal.emit-requires-in-Assertion-clause-room
emit-requires-in-Assertion-clause-room g c =
    assertion_room _ _ _ c.in-Assertion.is c.requires.elements c.requires.places

pub returns-in_ok-copy_lefts-in-Equation-clause-state :
    goal.returns-in_ok-copy_lefts-in-Equation-clause-state
returns-in_ok-copy_lefts-in-Equation-clause-state g c =
    let ctx = g.F.Frame.context c.args.frame.now in
    let mid = c.emit.new.self in
    let left = term_left _ _ _ refl refl c.in_ok-to-in-Equation.ensures.emitted in
    let done = ap (λ (z : Emitted). z.state) c.cut.ensures.emitted
    ∙ c.in_ok-copy_lefts-in-Equation.ensures.state ∙ ap (λ (xs : List VariableId).
    with_copies (state_of mid) (copied (flat_map (left_targets ctx) xs)
    (drop c.len-from.result (numbers_of mid.found.items)))) c.deref.ensures.value in
    equation_done _ _ _ c.in-Equation.is left (omega (arith, numbers_many)) done

pub returns-in_ok-copy_lefts-in-Equation-clause-found :
    goal.returns-in_ok-copy_lefts-in-Equation-clause-found
returns-in_ok-copy_lefts-in-Equation-clause-found g c =
    let left = term_left _ _ _ refl refl c.in_ok-to-in-Equation.ensures.emitted in
    ap (λ (z : Emitted). z.found) c.cut.ensures.emitted
    ∙ ap (λ (xs : Vec ElementId Global). take c.len-from.result (numbers_of xs.items))
    c.in_ok-copy_lefts-in-Equation.ensures.found
    ∙ stack_kept {n = c.len-from.result} left (omega (arith, numbers_many))

pub returns-in_ok-assert_from-in-Assertion-clause-state :
    goal.returns-in_ok-assert_from-in-Assertion-clause-state
returns-in_ok-assert_from-in-Assertion-clause-state g c =
    let left = term_left _ _ _ refl refl c.in_ok-to-in-Assertion.ensures.emitted in
    assertion_done _ _ _ c.in-Assertion.is left (omega (arith, numbers_many))
    (ap (λ (z : Emitted). z.state) c.cut-in-Assertion.ensures.emitted
    ∙ c.in_ok-assert_from-in-Assertion.ensures.state)

pub returns-in_ok-assert_from-in-Assertion-clause-found :
    goal.returns-in_ok-assert_from-in-Assertion-clause-found
returns-in_ok-assert_from-in-Assertion-clause-found g c =
    let left = term_left _ _ _ refl refl c.in_ok-to-in-Assertion.ensures.emitted in
    ap (λ (z : Emitted). z.found) c.cut-in-Assertion.ensures.emitted
    ∙ ap (λ (xs : Vec ElementId Global). take c.len-from.result (numbers_of xs.items))
    c.in_ok-assert_from-in-Assertion.ensures.found
    ∙ stack_kept {n = c.len-from.result} left (omega (arith, numbers_many))

pub copy_lefts-requires-clause-variables : goal.copy_lefts-requires-clause-variables
copy_lefts-requires-clause-variables g c =
    let ctx = g.F.Frame.context c.args.frame.now in
    let left = term_left ctx _ _ refl refl c.in_ok-to-in-Equation.ensures.emitted in
    let grows = next_grows ctx (place_of c.args.at) (state_of c.args.self.now) c.in-Equation.e in
    omega (arith, left_next left, grows, c.requires.variables)
