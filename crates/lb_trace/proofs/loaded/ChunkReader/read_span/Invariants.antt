use Rattle.std.proofs.Common.{Some, take}
use Rattle.lb_trace.proofs.LoadedChunks.{HasRead}
use Rattle.lb_trace.proofs.loaded.ChunkReader.read_span.Given as goal

abbrev pub invariant-chunks : goal.invariant-chunks
invariant-chunks g l =
    HasRead (λ k chunk. goal.F-post g l.self.load.now k (Some chunk)) l.self.signature.now
    l.self.table.now l.self.most (take l.done l.numbers) l.recorder
