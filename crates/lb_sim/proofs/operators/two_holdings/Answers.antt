use Rattle.std.proofs.Common.{ap₂, arith, sym, ◌∙◌}
use Rattle.std.proofs.lemmas.Result.{on_ok_weaker}
use Rattle.lb_flat.specs.Fitting.{binary_kind}
use Rattle.lb_machine.specs.Correct.{IsGrown}
use Rattle.lb_sim.specs.Showing.{value_kind}
use Rattle.lb_sim.proofs.Growth.{grown_then}
use Rattle.lb_sim.proofs.IntegerHoldings.{integers_for}
use Rattle.lb_sim.proofs.Returned.{few_then, if_ok_both}
use Rattle.lb_sim.proofs.TruthHoldings.{truths_for}
use Rattle.lb_sim.proofs.operators.two_holdings.Goals as goal

pub returns-in-Number-Number-clause-holding :
    goal.returns-in-Number-Number-clause-holding
returns-in-Number-Number-clause-holding c =
    let w = c.in-Number-Number in
    if_ok_both c.integers.result _ _ _
    (λ h (grown : IsGrown c.combine.new.self c.integers.new.code) made kind fits.
    integers_for c.integers.new.code c.args.op kind c.args.a c.args.b w.x w.y c.in_ok-nil.nil
    h w.is-0 w.is-1 (λ s r. c.in_ok-nil.ensures.plane.means s (grown.runs s r))
    (made kind
    (ap₂ (λ u v. binary_kind c.args.op (value_kind u) (value_kind v)) (sym w.is-0) (sym w.is-1)
    ∙ fits)))
    c.integers.ensures.grown c.integers.ensures.holding

pub returns-in-Number-Number-clause-grown : goal.returns-in-Number-Number-clause-grown
returns-in-Number-Number-clause-grown c =
    on_ok_weaker c.integers.result (grown_then _ _ _ c.in_ok-nil.ensures.grown)
    c.integers.ensures.grown

pub returns-in-Number-Number-clause-few : goal.returns-in-Number-Number-clause-few
returns-in-Number-Number-clause-few c =
    few_then c.integers.result c.args.code.now c.combine.new.self c.integers.new.code 2 5 8
    (omega arith) c.in_ok-nil.ensures.few c.integers.ensures.few

pub returns-clause-holding : goal.returns-clause-holding
returns-clause-holding c kind fits =
    let w = c.in-Some-Some in
    let bad = c.in_ok-bad in
    let made = c.in_ok-value in
    truths_for c.two_truths.new.code c.args.op kind c.args.a c.args.b w.x w.y made.value
    c.in_ok-nil.nil bad.bad c.truth.result w.ensures.truth w.ensures'.truth c.truth.ensures.value
    c.truth.ensures.nil c.truth.ensures.bad
    (λ s r.
    c.in_ok-nil.ensures.plane.means s (bad.ensures.grown.runs s (made.ensures.grown.runs s r)))
    (λ s r. bad.ensures.plane.means s (made.ensures.grown.runs s r)) made.ensures.means fits
