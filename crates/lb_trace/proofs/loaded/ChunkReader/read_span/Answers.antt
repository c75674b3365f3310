-- Each chunk that is read is one more of the span.
use Rattle.std.proofs.Common.{ℕ, List, Some, take, sym, subst}
use Rattle.std.proofs.lemmas.List.{take_all, take_more}
use Rattle.lb_trace.specs.declared.recorder.Recorder.{Recorder}
use Rattle.lb_trace.specs.Loads.{IsRead}
use Rattle.lb_trace.specs.Mirrors.{knows}
use Rattle.lb_trace.proofs.LoadedChunks.{read-more, read-none}
use Rattle.lb_trace.proofs.loaded.ChunkReader.read_span.Goals as goal

pub chunks-init : goal.chunks-init
chunks-init g c =
    read-none _ c.args.self.now.signature.now c.args.self.now.table.now c.args.self.now.most
    c.in-Ok.recorder c.in-Ok.ensures.rows c.in-Ok.ensures.names

pub add_lines-requires-clause-names : goal.add_lines-requires-clause-names
add_lines-requires-clause-names g c =
    subst (λ (one : Recorder). knows one.names one.rows.traces) (sym c.make_room.ensures)
    c.chunks.invariant.0.1.1

pub chunks-preserved : goal.chunks-preserved
chunks-preserved g c =
    let reader = c.args.self.now in
    let next = take_more c.args.numbers.now c.chunks.done 0 c.chunks-test.true in
    rw next
    (read-more _ reader.signature.now reader.table.now reader.most
    (take c.chunks.done c.args.numbers.now) _ c.in-Some.chunk c.as_slice-text.result.now
    c.chunks.recorder c.make_room.new.self c.add_lines.new.self c.chunks.invariant
    c.make_room.ensures c.in-Some.ensures (c.is_chunk.ensures c.if-not-is_chunk.false)
    c.as_slice-text.ensures.value c.in_ok-add_lines.ensures.ok
    c.in_ok-add_lines.ensures.signature c.in_ok-add_lines.ensures.names)

pub returns : goal.returns
returns g c =
    let reader = c.args.self.now in
    subst
    (λ (ks : List ℕ). IsRead (λ k chunk. goal.F-post g reader.load.now k (Some chunk))
    reader.signature.now reader.table.now reader.most ks c.chunks.recorder)
    (take_all c.chunks.done c.args.numbers.now c.chunks-test.false) c.chunks.invariant.0
