-- Each batch is judged, in the order of the batches.
use Rattle.std.proofs.Common.{◌≡◌, ℕ, ◌<◌, ◌-◌, ◌∙◌, Option, MutBor, Vec, Global, length, ap, subst}
use Rattle.std.proofs.Common.{arith}
use Rattle.std.specs.Prelude.{IfOk}
use Rattle.std.specs.List.{AllZip, range_with_len}
use Rattle.std.proofs.lemmas.Result.{MatchResult-weaker}
use Rattle.rayon.specs.Numbers.{nat_range}
use Rattle.rayon.proofs.ListFacts.{IfOk-then}
use Rattle.rayon.proofs.ToStd.{nat_range-All}
use Rattle.lb_sim.specs.declared.room.BatchRoom.{BatchRoom}
use Rattle.lb_plan.specs.Plans.{numbers_in}
use Rattle.lb_pool.specs.Runs.{IsBatchOf}
use Rattle.lb_pool.specs.declared.batch.Judged.{Judged}
use Rattle.lb_pool.proofs.Spreading.{of_collected, of_states}
use Rattle.lb_pool.proofs.spread.judged_batches.Goals as goal

pub collect-requires-clause-ready : goal.collect-requires-clause-ready
collect-requires-clause-ready g c κs within =
    let plan = c.args.plan.now in
    let ends = c.into_par_iter.ensures in
    let traces = c.args.set.now.traces in
    let inside = nat_range-All (λ i. (length (numbers_in plan) ≡ length traces)
    × (i < length plan)) 0 c.batches.result
    (λ i low high. (c.requires, omega (arith, high, c.batches.ensures.count))) in
    rw (
      c.map_init.ensures.base,
      c.map_init.ensures.init,
      c.map_init.ensures.f,
      c.with_min_len.ensures.base,
      ends.0,
      ends.1,
    )
    (tt, λ k d below. (λ room. inside k d below, λ before after y given. tt))

pub returns : goal.returns
returns g c =
    let plan = c.args.plan.now in
    let R : ℕ → Vec Judged Global → Type 0 =
    λ i judged. IsBatchOf c.args.program.now.program.now c.args.set.now plan i
    judged.items in
    let ends = c.into_par_iter.ensures in
    let whole : c.batches.result - 0 ≡ length plan = omega (arith, c.batches.ensures.count) in
    IfOk-then c.collect.result _ _ c.collect.ensures (λ outer h.
    let chain =
    rw (c.map_init.ensures.base, c.map_init.ensures.f, c.with_min_len.ensures.base) at h.1 in
    let places = chain.1 ∙ (λ i. nat_range (ends.0 i) (ends.1 i)) ∙ ap (range_with_len 0) whole in
    MatchResult-weaker outer h.2 (λ lists k.
    subst (λ l. AllZip R l lists.items) places
    (of_collected R chain.0 h.0 lists.items
    (of_states (MutBor (Option BatchRoom)) (λ i judged. IfOk judged (R i)) chain.0 h.0 chain.2)
    k.0 k.1 k.2)) (λ e q. tt))
