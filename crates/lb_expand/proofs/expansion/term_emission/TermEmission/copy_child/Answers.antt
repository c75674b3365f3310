use Rattle.lb_expand.proofs.Words.{◌≡◌, ◌+◌, ◌-◌, ℕ, List, length, min, IfOk, sym, ap, subst, ◌∙◌}
use Rattle.lb_expand.proofs.Words.{length-range_with_len}
use Rattle.lb_expand.proofs.expansion.term_emission.TermEmission.copy_child.Goals as goal

pub returns-clause-place : goal.returns-clause-place
returns-clause-place g c =
    let from = c.args.from in
    let targets = c.child-targets.result in
    let count = sym (length-range_with_len targets.first targets.count)
    ∙ ap (λ (is : List ℕ). length is) c.child-targets.ensures.places in
    subst (λ n. IfOk c.copy.result (λ to. to ≡ from + min n (length c.args.self.now.found.items -
    from))) count c.copy.ensures.place
