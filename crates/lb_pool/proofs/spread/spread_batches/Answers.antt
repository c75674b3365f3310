-- All batches were judged.
use Rattle.std.proofs.Common.{List, Vec, Global, length, sym, ap, ◌∙◌, subst}
use Rattle.std.specs.Prelude.{flat_map}
use Rattle.std.specs.List.{AllZip, Contains, range_with_len}
use Rattle.std.proofs.lemmas.Result.{IfOk-at_ok}
use Rattle.lb_pool.specs.Runs.{AreJudged, IsBatchOf, numbers_of}
use Rattle.lb_pool.specs.declared.batch.Judged.{Judged}
use Rattle.lb_pool.proofs.Spreading.{all_judged, each_judged}
use Rattle.lb_pool.proofs.spread.spread_batches.Goals as goal

pub verdicts_of-requires-clause-judged : goal.verdicts_of-requires-clause-judged
verdicts_of-requires-clause-judged g c =
    let p = c.args.program.now.program.now in
    let r = c.args.set.now in
    let plan = c.args.plan.now in
    let lists = c.in_ok-batches-2.batches.items in
    let judged = IfOk-at_ok (λ (v : Vec (Vec Judged Global) Global).
    AllZip (λ i j. IsBatchOf p r plan i j.items) (range_with_len 0 (length plan)) v.items)
    c.in_ok-batches-2.was c.in_ok-batches.ensures in
    let together = c.as_slice-2.ensures.value ∙ c.in_ok-judged.ensures
    ∙ ap (λ (l : List (Vec Judged Global)). flat_map (λ j. j.items) l) c.as_slice.ensures.value in
    subst (AreJudged p r) (sym together)
    (all_judged p r plan (range_with_len 0 (length plan)) lists judged)

pub verdicts_of-requires-clause-each : goal.verdicts_of-requires-clause-each
verdicts_of-requires-clause-each g c k below =
    let p = c.args.program.now.program.now in
    let r = c.args.set.now in
    let plan = c.args.plan.now in
    let lists = c.in_ok-batches-2.batches.items in
    let judged = IfOk-at_ok (λ (v : Vec (Vec Judged Global) Global).
    AllZip (λ i j. IsBatchOf p r plan i j.items) (range_with_len 0 (length plan)) v.items)
    c.in_ok-batches-2.was c.in_ok-batches.ensures in
    let together = c.as_slice-2.ensures.value ∙ c.in_ok-judged.ensures
    ∙ ap (λ (l : List (Vec Judged Global)). flat_map (λ j. j.items) l) c.as_slice.ensures.value in
    subst (λ (l : List Judged). Contains (numbers_of l) k) (sym together)
    (each_judged p r plan (length r.traces) lists c.traces.ensures.lawful c.requires.plan judged k
    below)
