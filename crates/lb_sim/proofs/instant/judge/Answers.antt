use Rattle.std.proofs.Common.{◌≡◌, ◌&&◌, not, [], false, get_or, sym, ap, ◌∙◌, arith}
use Rattle.std.specs.Prelude.{if◌then◌else◌}
use Rattle.lb_check.specs.declared.verdict.Verdict.TheVariants.{Passed}
use Rattle.lb_lanes.specs.Planes.{on}
use Rattle.lb_lanes.proofs.OnPlanes.{on-zero}
use Rattle.lb_machine.specs.Meaning.{lane_at}
use Rattle.lb_sim.specs.InputRows.{instant_in}
use Rattle.lb_sim.specs.Watching.{lane_judged}
use Rattle.lb_sim.proofs.instant.judge.Goals as goal

pub returns-else-decided-ne0-clause-put : goal.returns-else-decided-ne0-clause-put
returns-else-decided-ne0-clause-put c i h =
    let going = c.args.going.0 in
    let passed = c.passing-passed.result.0 in
    let nothing : c.and-decided.result.0 ≡ 0 = omega (arith, c.if-decided-ne0.false) in
    let off : (on going i && not (on passed i)) ≡ false =
    sym (c.and-decided.ensures i h ∙ ap (λ b. on going i && b) (c.not.ensures i h))
    ∙ ap (λ p. on p i) nothing ∙ on-zero i in
    sym
    (ap
    (λ b. if b
    then lane_judged c.args.code.now.watched (instant_in c.args.begins.now c.args.t i)
    (lane_at c.args.planes.now [] i)
    else get_or c.args.verdicts.now i Passed) off)
