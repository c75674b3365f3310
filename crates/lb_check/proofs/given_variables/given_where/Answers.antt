use Rattle.lb_check.proofs.Words.{ap, append-nil, arith, given_from, given_in, length, sym, ◌++◌}
use Rattle.lb_check.proofs.{Words.{◌-◌, ◌∙◌, ◌≡◌}, clocking.GivenVariables.given_more}
use Rattle.lb_check.proofs.given_variables.given_where.Goals as goal

pub loop-place-preserved : goal.loop-place-preserved
loop-place-preserved c n flags =
    let l = c.loop-place in
    given_more n (given_in c.args.given.now) (length c.args.awaited.now) l.place l.pairs.items
    (l.invariant n flags) c.add_given.new.pairs.items c.given_variable.result (omega arith)
    (c.given_variable.ensures n flags) c.in_ok-add_given.ensures

pub returns : goal.returns
returns c n flags =
    let l = c.loop-place in
    sym (let none : (length c.args.awaited.now) - l.place ≡ 0 = omega arith in (l.invariant n flags)
    ∙ ap (λ m. l.pairs.items ++ given_from n (given_in c.args.given.now) l.place m) none
    ∙ append-nil l.pairs.items)
