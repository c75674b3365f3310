-- The plan has all traces, so all traces are judged.
use Rattle.std.proofs.Common.{ℕ, ◌<◌, List, length, sym, ap, ◌∙◌, subst}
use Rattle.std.specs.List.{All, Contains}
use Rattle.lb_plan.proofs.WholePlans.{numbers_below, numbers_count, numbers_each}
use Rattle.lb_pool.specs.Runs.{AreJudged, numbers_of}
use Rattle.lb_pool.proofs.alone.SetRunner.run.Goals as goal

pub invariant_of-work : goal.invariant_of-work
invariant_of-work c = record {
  over_all =
      numbers_count (length c.args.set.now.traces) c.busy_lanes-lanes.result c.in_ok-plan.plan
      c.in_ok-plan.ensures.plan;
}

pub run_queues-requires-clause-within : goal.run_queues-requires-clause-within
run_queues-requires-clause-within c =
    subst (All (λ k. k < length c.args.set.now.traces)) (sym c.numbers.ensures)
    (numbers_below (length c.args.set.now.traces) c.busy_lanes-lanes.result c.in_ok-plan.plan
    c.in_ok-plan.ensures.plan)

pub verdicts_of-requires-clause-judged : goal.verdicts_of-requires-clause-judged
verdicts_of-requires-clause-judged c =
    subst (AreJudged c.args.self.now.program.now.program.now c.args.set.now)
    (sym c.as_slice.ensures.value) c.in_ok-room-2.ensures.judged

pub verdicts_of-requires-clause-each : goal.verdicts_of-requires-clause-each
verdicts_of-requires-clause-each c k below =
    subst (λ (l : List ℕ). Contains l k)
    (sym (ap numbers_of c.as_slice.ensures.value ∙ c.in_ok-room-2.ensures.numbers
    ∙ c.numbers.ensures))
    (numbers_each (length c.args.set.now.traces) c.busy_lanes-lanes.result c.in_ok-plan.plan
    c.in_ok-plan.ensures.plan k below)
