use Rattle.lb_check.proofs.Words.{[], ap, append-nil, determined_clock, placed_terms, sym}
use Rattle.lb_check.{proofs.Words.{with_terms, ◌∙◌}, specs.PlacedClocks.found_in}
use Rattle.{lb_check.specs.StoredClocks.context_in, std.specs.Option.unwrap_or}
use Rattle.lb_check.proofs.clock_rules.place_term.Goals as goal

pub returns-clause-placed : goal.returns-clause-placed
returns-clause-placed c =
    let found = c.in_ok-found.ensures in
    let known = c.deref.ensures.value ∙ found.operands ∙ sym (append-nil _) in
    (c.in_ok-place.ensures [] known).1
    ∙ ap (λ k. with_terms (found_in c.args.placed.now)
    (placed_terms (context_in c.args.env.now) k c.args.term.now))
    (c.unwrap_or-clock.ensures
    ∙ ap (unwrap_or c.args.clock) (c.determined_clock.ensures ∙ ap determined_clock found.clock_set))
