use Rattle.lb_expand.proofs.Words.{◌≡◌, ◌++◌, flat_map, take, whens_in}
use Rattle.lb_expand.proofs.expansion.clock_uses.+clock_uses.Given as goal

abbrev pub invariant-push_terms-loop-term : goal.invariant-push_terms-loop-term
invariant-push_terms-loop-term l =
    l.names.items ≡ l.fn.names.items ++ flat_map whens_in (take l.term-index l.terms)
