-- Each part is read, in the order of the parts.
use Rattle.std.proofs.Common.{List, ℕ, ◌∙◌}
use Rattle.std.specs.Borrow.{Bor}
use Rattle.std.proofs.lemmas.Result.{MatchResult-weaker}
use Rattle.rayon.proofs.ListFacts.{IfOk-then}
use Rattle.rayon.proofs.ToStd.{slice-AllZip}
use Rattle.lb_trace.specs.declared.recorder.Recorder.{Recorder}
use Rattle.lb_trace.specs.Plain.{plain_records}
use Rattle.lb_trace.specs.Tables.{IsReadBy}
use Rattle.lb_trace.proofs.SpreadReadings.{of_collected}
use Rattle.lb_trace.proofs.parallel.read_parts.Goals as goal

pub collect-requires-clause-ready : goal.collect-requires-clause-ready
collect-requires-clause-ready g c κs within =
    rw (c.map.ensures.base, c.map.ensures.f, c.with_min_len.ensures.base)
    (λ k d below. λ part is. (c.requires, λ set given. tt))

pub returns : goal.returns
returns g c =
    let R : Bor (List ℕ) → Recorder → Type 0 =
    λ part one. IsReadBy c.args.signature.now c.args.table.now (plain_records part.now) one in
    IfOk-then c.collect.result _ _ c.collect.ensures (λ outer h.
    let chain = rw (c.map.ensures.base, c.map.ensures.f, c.with_min_len.ensures.base) at h.1 in
    MatchResult-weaker outer h.2 (λ sets k.
    slice-AllZip chain.0 c.args.parts.now (chain.1 ∙ c.par_iter.ensures) R sets.items
    (of_collected (λ (part : Bor (Bor (List ℕ))) (one : Recorder). R part.now one) chain.0 h.0
    sets.items chain.2 k.0 k.1 k.2)) (λ e q. tt))
