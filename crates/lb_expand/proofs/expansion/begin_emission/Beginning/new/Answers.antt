use Rattle.lb_expand.proofs.Words.{All, Clock, ElementId, ForSome, Global, HasRows, IsReady}
use Rattle.lb_expand.proofs.Words.{IsWithin, Option, Start, State, Vec, ap, subst, subst₂, sym, ◌<◌}
use Rattle.lb_expand.proofs.{Words.◌∙◌, emission.EmittedProgram.watched_ready}
use Rattle.lb_flat.specs.declared.equation.Equation.{Equation}
use Rattle.lb_expand.proofs.expansion.begin_emission.Beginning.new.Goals as goal

pub property-requires-clause-ready : goal.property-requires-clause-ready
property-requires-clause-ready g c =
    watched_ready _ _ _ _ _ _ _ _ _ c.watched.ensures c.start_in-root.ensures
    c.start_in-observer.ensures c.begin.ensures.contexts c.begin.ensures.rows c.requires.root
    c.requires.observer

pub begin-requires-clause-root_ready : goal.begin-requires-clause-root_ready
begin-requires-clause-root_ready g c =
    let cs = g.F.TableFrame.contexts c.args.frame.now in
    let f = g.F.TableFrame.is_row c.args.frame.now in
    subst (λ (o : Option Start). ForSome o (IsReady cs f)) (sym c.start_in-root.ensures)
    c.requires.root

pub begin-requires-clause-observer_ready : goal.begin-requires-clause-observer_ready
begin-requires-clause-observer_ready g c =
    let cs = g.F.TableFrame.contexts c.args.frame.now in
    let f = g.F.TableFrame.is_row c.args.frame.now in
    subst (λ (o : Option Start). ForSome o (IsReady cs f)) (sym c.start_in-observer.ensures)
    c.requires.observer

pub put_clocks-requires-clause-there : goal.put_clocks-requires-clause-there
put_clocks-requires-clause-there g c =
    subst (HasRows c.args.reached.now c.args.table.now)
    (sym (c.property.ensures.rows ∙ c.begin.ensures.rows)) c.requires.there

pub returns-clause-rows : goal.returns-clause-rows
returns-clause-rows g c =
    c.in_ok-put_clocks.ensures.rows ∙ c.property.ensures.rows ∙ c.begin.ensures.rows

pub returns-clause-contexts : goal.returns-clause-contexts
returns-clause-contexts g c =
    c.in_ok-put_clocks.ensures.contexts ∙ c.property.ensures.contexts ∙ c.begin.ensures.contexts

pub returns-clause-table : goal.returns-clause-table
returns-clause-table g c =
    c.in_ok-put_clocks.ensures.table ∙ c.property.ensures.table ∙ c.begin.ensures.table

pub returns-clause-variables : goal.returns-clause-variables
returns-clause-variables g c =
    c.in_ok-put_clocks.ensures.variables ∙ c.property.ensures.variables
    ∙ c.begin.ensures.variables

pub returns-clause-copies_within : goal.returns-clause-copies_within
returns-clause-copies_within g c =
    let next = c.in_ok-put_clocks.ensures.next ∙ c.in_ok-property.ensures.next
    ∙ c.in_ok-begin.ensures.next ∙ ap (λ (s : State). s.next) c.new-emission.ensures.state in
    let clocks = ap (λ (cs : Vec Clock Global). cs.items)
    (c.in_ok-put_clocks.ensures.clocks ∙ c.in_ok-property.ensures.clocks
    ∙ c.in_ok-begin.ensures.clocks ∙ c.new-emission.ensures.clocks)
    ∙ c.in_ok-known.ensures.items in
    let emission = c.put_clocks.new.self in
    subst (λ (qs : Vec Equation Global). All (IsWithin c.args.variables c.args.clocks.now) qs.items)
    (sym c.into_copies_and_found-copies.ensures.copies)
    (subst₂ (λ n cs. All (IsWithin n cs) emission.copies.items) next clocks
    emission.copies_within)

pub returns-clause-clocks_within : goal.returns-clause-clocks_within
returns-clause-clocks_within g c =
    let next = c.in_ok-put_clocks.ensures.next ∙ c.in_ok-property.ensures.next
    ∙ c.in_ok-begin.ensures.next ∙ ap (λ (s : State). s.next) c.new-emission.ensures.state in
    let emission = c.put_clocks.new.self in
    subst (λ (xs : Vec ElementId Global). All (λ a. a.0 < c.args.variables) xs.items)
    (sym c.into_copies_and_found-copies.ensures.found)
    (subst (λ n. All (λ a. a.0 < n) emission.found.items) next emission.found_within)
