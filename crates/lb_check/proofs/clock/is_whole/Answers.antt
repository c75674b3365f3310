use Rattle.lb_check.proofs.Words.{◌≡◌, true, length, subst, ap, sym, ◌∙◌, list_all, counts_of}
use Rattle.lb_check.proofs.Words.{first_broken, waits_below}
use Rattle.lb_check.proofs.clocking.ClockDepths.{all_awaited, within_all}
use Rattle.lb_check.proofs.lists.ListPairs.{all_pass, is_none_found, none_found}
use Rattle.lb_check.proofs.clock.is_whole.Goals as goal

pub returns-then-node-count-2-clause-awaited : goal.returns-then-node-count-2-clause-awaited
returns-then-node-count-2-clause-awaited c e =
    let vs = c.args.node.now.variables.items in
    let count = c.len-count.result in
    let none = none_found c.first_waiting_past.result c.is_none.result c.is_none.ensures e in
    let found : list_all (waits_below count) vs ≡ true =
    all_pass (waits_below count) vs
    (ap (first_broken (waits_below count)) (sym c.deref.ensures.value)
    ∙ sym c.first_waiting_past.ensures.first ∙ none) in
    let many = c.len-count.ensures ∙ sym c.deref.ensures.len ∙ ap length c.deref.ensures.value in
    all_awaited vs (subst (λ k. list_all (waits_below k) vs ≡ true) many found)

pub returns-then-node-count-2-clause-resolved : goal.returns-then-node-count-2-clause-resolved
returns-then-node-count-2-clause-resolved c nodes resolved =
    let vs = c.args.node.now.variables.items in
    let count = c.len-count.result in
    let many = c.len-count.ensures ∙ sym c.deref.ensures.len ∙ ap length c.deref.ensures.value in
    let all : list_all (waits_below count) vs ≡ true =
    ap (λ k. list_all (waits_below k) vs) many
    ∙ within_all (counts_of c.args.node.now) vs resolved.declared_within in
    is_none_found (waits_below count) vs c.first_waiting_past.result c.is_none.result
    (c.first_waiting_past.ensures.first
    ∙ ap (first_broken (waits_below count)) c.deref.ensures.value)
    c.is_none.ensures all
