use Rattle.lb_check.proofs.Words.{ap, ap₂, sym, ◌∙◌, append-nil, [], called, given_variables}
use Rattle.lb_check.proofs.Words.{placed_each, stands_for, with_terms}
use Rattle.lb_check.specs.PlacedClocks.{argument_clocks, found_in, side_base, with_term}
use Rattle.lb_check.specs.StoredClocks.{context_in}
use Rattle.lb_check.specs.TermClocks as mirror
use Rattle.lb_check.proofs.clock_rules.place_called.Goals as goal

pub returns : goal.returns
returns c =
    let ctx = context_in c.args.env.now in
    let lefts = c.args.lefts.now in
    let n = c.args.callee.now in
    let es = c.args.terms.now in
    let old = found_in c.args.placed.now in
    let operands = c.as_slice-operands.ensures.value ∙ c.in_ok-row.ensures.operands in
    let runs = c.in_ok-runs.ensures.runs ∙ ap (λ os. side_base ctx n os lefts) operands in
    let given = c.in_ok-given.ensures ∙ ap (λ os. given_variables n os lefts) operands in
    let first =
    c.in_ok-note_call.ensures
    ∙ ap₂ (λ k f. with_term old (called k f)) c.left_clock.ensures
    (ap₂ (λ k gs. record { runs = k; given = gs }) runs given) in
    let clocks =
    c.deref.ensures.value ∙ c.in_ok-clocks.ensures
    ∙ ap₂ (λ k os. argument_clocks k (stands_for n.inputs os lefts) n) runs operands in
    let known = c.deref-2.ensures.value ∙ c.in_ok-row.ensures.within ∙ sym (append-nil _) in
    record {
      kept = c.in_ok-runs.ensures.kept ∙ ap (λ os. mirror.is_call_clocked ctx n os lefts) operands;
      placed =
          (c.in_ok-place_each.ensures [] known).1
          ∙ ap₂ (λ f l. with_terms f (placed_each ctx l es)) first clocks;
    }
