-- A row has the statements of its node; a row without a node has none.
use Rattle.lb_expand.proofs.Words.{OnOk, State, ap, emit_rows, listed, option_map, state_of, subst}
use Rattle.lb_expand.proofs.Words.{sym, with_body, ◌<◌, ◌^◌, ◌∙◌, ◌≡◌}
use Rattle.lb_expand.proofs.emission.EmittedStatements.{no_row, row_is, row_places}
use Rattle.lb_expand.proofs.expansion.term_emission.TermEmission.row.Goals as goal

pub statements-requires-clause-elements : goal.statements-requires-clause-elements
statements-requires-clause-elements g c =
    let found = sym c.node_at.ensures ∙ ap (option_map (λ n. n.now)) c.in-Some.is in
    subst (λ (s : State). s.next < 2 ^ 32)
    (row_is c.args.reached.now c.args.table.now (g.F.TableFrame.contexts c.args.frame.now)
    (state_of c.args.self.now) c.args.number c.args.row.now c.in-Some.node.now
    (g.F.Frame.context c.enter.new.self) c.deref.result.now found c.enter.ensures.context
    c.deref.ensures.value) c.requires.elements

pub statements-requires-clause-places : goal.statements-requires-clause-places
statements-requires-clause-places g c =
    let found = sym c.node_at.ensures ∙ ap (option_map (λ n. n.now)) c.in-Some.is in
    row_places c.args.reached.now c.args.table.now (g.F.TableFrame.contexts c.args.frame.now)
    (state_of c.args.self.now) c.args.number c.args.row.now c.in-Some.node.now
    (g.F.Frame.context c.enter.new.self) c.deref.result.now found c.enter.ensures.context
    c.deref.ensures.value c.requires.places

pub returns-in-Some-clause-state : goal.returns-in-Some-clause-state
returns-in-Some-clause-state g c =
    let found = sym c.node_at.ensures ∙ ap (option_map (λ n. n.now)) c.in-Some.is in
    subst (λ (s : State). OnOk c.statements.result (state_of c.statements.new.self ≡ s))
    (sym (row_is c.args.reached.now c.args.table.now (g.F.TableFrame.contexts c.args.frame.now)
    (state_of c.args.self.now) c.args.number c.args.row.now c.in-Some.node.now
    (g.F.Frame.context c.enter.new.self) c.deref.result.now found c.enter.ensures.context
    c.deref.ensures.value)) c.statements.ensures.state

pub returns-in-None-clause-state : goal.returns-in-None-clause-state
returns-in-None-clause-state g c =
    let none = sym c.node_at.ensures ∙ ap (option_map (λ n. n.now)) c.in-None.is in
    sym (ap (λ o. emit_rows (state_of c.args.self.now)
    (listed (with_body ((g.F.TableFrame.contexts c.args.frame.now) c.args.number)) o)) none
    ∙ no_row (state_of c.args.self.now))
