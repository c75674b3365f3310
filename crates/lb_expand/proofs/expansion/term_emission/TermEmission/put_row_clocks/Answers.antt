-- The node of the row is found, so its clocks can be put.
use Rattle.lb_expand.proofs.Words.{Bool, HasFlags, List, OnOk, ap, clocks_named, emitted_of, gives}
use Rattle.lb_expand.proofs.Words.{length, numbers_of, onto, option_map, state_of, subst, sym, ℕ}
use Rattle.lb_expand.proofs.{Words.{◌∙◌, ◌≡◌}, clock_tables.ServingClocks.clocks_found}
use Rattle.lb_expand.proofs.expansion.term_emission.TermEmission.put_row_clocks.Goals as goal

pub returns-in_ok-flags-in-Some-clause-emitted : goal.returns-in_ok-flags-in-Some-clause-emitted
returns-in_ok-flags-in-Some-clause-emitted g c =
    let old = c.args.self.now in
    let r = c.put_flagged in
    let n = c.in-Some.node.now in
    let found = sym c.node_at.ensures ∙ ap (option_map (λ n. n.now)) c.in-Some.is in
    let flags = subst (λ (fs : List Bool).
    HasFlags (length n.variables.items) (clocks_named n) fs) (sym c.deref.ensures.value)
    c.in_ok-flags-in-Some.ensures in
    subst (λ (is : List ℕ). OnOk r.result (emitted_of r.new.self
    ≡ onto (numbers_of old.found.items) (gives (state_of old) is)))
    (clocks_found c.args.reached.now c.args.table.now (g.F.TableFrame.contexts c.args.frame.now)
    c.args.number c.args.row.now n (g.F.Frame.context c.enter.new.self) c.deref.result.now found
    c.enter.ensures.context flags) r.ensures.emitted
