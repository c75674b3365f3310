-- Each span is read, in the order of their numbers.
use Rattle.std.proofs.Common.{ℕ, List, Some, arith, ◌∙◌}
use Rattle.std.specs.Borrow.{Bor}
use Rattle.std.specs.Prelude.{max}
use Rattle.std.proofs.lemmas.Result.{MatchResult-weaker}
use Rattle.rayon.specs.Lists.{chunks_of}
use Rattle.rayon.proofs.ListFacts.{IfOk-then}
use Rattle.rayon.proofs.ToStd.{slice-AllZip}
use Rattle.lb_trace.specs.declared.recorder.Recorder.{Recorder}
use Rattle.lb_trace.specs.Loads.{IsRead}
use Rattle.lb_trace.proofs.LoadedChunks.{reads-round}
use Rattle.lb_trace.proofs.SpreadReadings.{of_collected}
use Rattle.lb_trace.proofs.loaded.ChunkReader.read_spans.Goals as goal

pub returns : goal.returns
returns g c =
    let reader = c.args.self.now in
    let numbers = c.args.numbers.now in
    let size : ℕ = max c.max-span.result 1 in
    let R : List ℕ → Recorder → Type 0 =
    IsRead (λ k chunk. goal.F-post g reader.load.now k (Some chunk)) reader.signature.now
    reader.table.now reader.most in
    IfOk-then c.collect.result _ _ c.collect.ensures (λ outer h.
    let chain = rw (c.map.ensures.base, c.map.ensures.f, c.with_min_len.ensures.base) at h.1 in
    MatchResult-weaker outer h.2 (λ sets k.
    reads-round _ _ _ _ _ _ _ (omega arith) (slice-AllZip chain.0 (chunks_of size numbers) (chain.1
    ∙ (λ i. chunks_of (max (c.par_chunks.ensures.size i) 1) (c.par_chunks.ensures.slice i)))
    R sets.items
    (of_collected (λ (span : Bor (List ℕ)) (one : Recorder). R span.now one) chain.0 h.0
    sets.items chain.2 k.0 k.1 k.2))) (λ e q. tt))
