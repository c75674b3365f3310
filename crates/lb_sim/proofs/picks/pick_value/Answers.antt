use Rattle.lb_sim.proofs.TruthHoldings.{picked_for}
use Rattle.lb_sim.proofs.picks.pick_value.Goals as goal

pub returns-clause-value : goal.returns-clause-value
returns-clause-value c = λ e.
    picked_for c.pick_truth.new.code c.args.mask c.args.a c.args.b c.value.result
    c.in-Some-Some.x c.in-Some-Some.y c.in_ok-picked.picked c.in-Some-Some.ensures.truth
    c.in-Some-Some.ensures'.truth c.in_ok-picked.ensures.truth c.value.ensures
